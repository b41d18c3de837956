-- Who holds each resource stays behind an instruction that gets and releases none.
use Rattle.std.proofs.Common.{◌≡◌, ℕ, ◌-◌, Bool, true, false, cond, List, [], ◌∷◌, ◌++◌, length, map, refl, sym, ◌∙◌, ap}
use Rattle.std.specs.Prelude.{Option, Some, None, ◌&&◌, not, bit_or, slice_index}
use Rattle.std.specs.List.{find}
use Rattle.std.proofs.lemmas.Bool.{true≢false}
use Rattle.std.proofs.Math.Path.{fun_ext}
use Rattle.osek_base.specs.declared.arrivals.Arrival.{Arrival}
use Rattle.osek_base.specs.declared.ids.Owner.{Owner}
use Rattle.osek_base.specs.declared.ids.ResId.{ResId}
use Rattle.osek_base.specs.declared.instr.Instr.{Instr}
use Rattle.osek_base.specs.declared.instr.Service.{Service}
use Rattle.osek_base.specs.declared.status.Status.{Status}
use Rattle.osek_base.specs.declared.trace_event.Outcome.{Outcome}
use Rattle.osek_base.specs.declared.trace_event.Results.{Results}
use Rattle.osek_base.specs.Instruction.{Context}
use Rattle.osek_base.specs.Lists.{below, is_empty}
use Rattle.osek_base.specs.Proper.{IsProper}
use Rattle.osek_base.specs.Service.{answer, first_refusal, is_met, meets}
use Rattle.osek_base.specs.State.{Active, State, interrupts_off, jobs_of}
use Rattle.osek_base.specs.System.{System, instruction_at}
use Rattle.osek_base.specs.Tick.{at_values, before_execution, execute_phase, tick}
use Rattle.osek_base.specs.Trace.{arriving, run}
use Rattle.osek_base.specs.Types.{ServiceCall}
use Rattle.law_runs.proofs.FormedPhases.{before_form}
use Rattle.law_runs.proofs.FormedTick.{run_form}
use Rattle.law_runs.proofs.RankedTick.{IsExecuting, before_executing, run_ordered}
use Rattle.law_kept.specs.Kept.{Kept, kept, slot_of, unbegun}
use Rattle.law_kept.specs.KeptService.{ByNobody, ByRoutine, ByTask, KeptCaller, bare, changed_in, effect_in, holds_in, is_full_in, is_outranked_in, is_own_in, refusals_in, service_in, slot_given_up, slot_moved, slot_waiting, with_caller_in, caller_in}
use Rattle.law_kept.specs.KeptTick.{KeptStep, before_execution_in, caller_executes_in, execute_phase_in, executed_in as done_in, last_phase_in, routine_executes, tick_in, with_context_in}
use Rattle.law_kept.specs.Moves.{KeptRecorded, activated_in, ended_in, one_more, rescheduled, slot_changed}
use Rattle.law_kept.proofs.InRuns.{before_alike}
use Rattle.law_kept.proofs.Ticked.{execute_kept, known_of, ticks}
use Rattle.law_blockers.specs.Steps.{record_at, step_at}
use Rattle.seen_ticks.specs.Observed.{executed_in, holders_seen, is_accepted, moved, moves}
use Rattle.seen_ticks.specs.Shown.{holder, is_held_by, oldest_job}
use Rattle.seen_ticks.proofs.Staying.{HoldSame, changed_same, holding, rescheduled_same, set_same, then_same}
use Rattle.seen_ticks.proofs.Telling.{record_executed}

-- ---- a service

module _ (S : System) (d : KeptCaller) (o : Kept) where
  refused_or : (call : ServiceCall) → HoldSame o (effect_in S d o call) → (refusal : Option Status)
      → HoldSame o (changed_in S d o call refusal)
  refused_or call same None = same
  refused_or call same (Some refusal) = λ u. refl

  -- one that may move a resource is refused
  not_moved : (call : ServiceCall) (found : Results) (refusal : Option Status)
      → (is_accepted (Outcome.Answer (answer refusal) found) && true) ≡ false
      → HoldSame o (changed_in S d o call refusal)
  not_moved call found None h = absurd (true≢false h)
  not_moved call found (Some refusal) h = λ u. refl

  caller_same : (b : Bool) → HoldSame o (cond b (with_caller_in d slot_given_up o) o)
  caller_same false = λ u. refl
  caller_same true = by d
    where
      by : (e : KeptCaller) → HoldSame o (with_caller_in e slot_given_up o)
      by (ByTask t) = changed_same o.slots t (slot_given_up (o.slots t)) refl
      by ByRoutine = λ u. refl
      by ByNobody = λ u. refl

-- a job that ends holds nothing
module _ (S : System) (o : Kept) (t : ℕ) where
  abbrev ended_refusals : Bool → List ResId → List (Bool × Status)
  ended_refusals off held =
      (off, Status.SysDisabled) ∷ (false, Status.CallLevel) ∷ (not (is_empty held), Status.Resource) ∷ []

  terminated : (off : Bool) (held : List ResId) → (o.slots t).held ≡ held
      → HoldSame o (changed_in S (ByTask t) o Service.TerminateTask (first_refusal (ended_refusals off held)))
  terminated true held e = λ u. refl
  terminated false [] e = changed_same o.slots t (unbegun ((o.slots t).count - 1)) (sym e)
  terminated false (r ∷ rest) e = λ u. refl

  abbrev chain_refusals : Bool → List ResId → Bool → List (Bool × Status)
  chain_refusals off held full =
      (off, Status.SysDisabled) ∷ (false, Status.CallLevel) ∷ (not (is_empty held), Status.Resource) ∷ (full, Status.Limit) ∷ []

  chained : (v : ℕ) (off : Bool) (held : List ResId) (full : Bool) → (o.slots t).held ≡ held
      → HoldSame o (changed_in S (ByTask t) o (Service.ChainTask (Some v)) (first_refusal (chain_refusals off held full)))
  chained v true held full e = λ u. refl
  chained v false [] true e = λ u. refl
  chained v false [] false e =
      then_same o (ended_in t o) (activated_in S v (ended_in t o))
      (changed_same o.slots t (unbegun ((o.slots t).count - 1)) (sym e))
      (changed_same (ended_in t o).slots v (one_more ((ended_in t o).slots v)) refl)
  chained v false (r ∷ rest) full e = λ u. refl

module _ (S : System) (o : Kept) where
  terminate_same : (d : KeptCaller)
      → HoldSame o (changed_in S d o Service.TerminateTask (first_refusal ((interrupts_off (bare o), Status.SysDisabled) ∷ refusals_in S d o Service.TerminateTask)))
  terminate_same (ByTask t) = terminated S o t (interrupts_off (bare o)) (o.slots t).held refl
  terminate_same ByRoutine = refused_or S ByRoutine o Service.TerminateTask (λ u. refl) _
  terminate_same ByNobody = refused_or S ByNobody o Service.TerminateTask (λ u. refl) _

  chain_same : (d : KeptCaller) (v : ℕ)
      → HoldSame o (changed_in S d o (Service.ChainTask (Some v)) (first_refusal ((interrupts_off (bare o), Status.SysDisabled) ∷ refusals_in S d o (Service.ChainTask (Some v)))))
  chain_same (ByTask t) v =
      chained S o t v (interrupts_off (bare o)) (o.slots t).held (not (is_own_in (ByTask t) v) && is_full_in S o v) refl
  chain_same ByRoutine v =
      refused_or S ByRoutine o (Service.ChainTask (Some v)) (changed_same o.slots v (one_more (o.slots v)) refl) _
  chain_same ByNobody v =
      refused_or S ByNobody o (Service.ChainTask (Some v)) (changed_same o.slots v (one_more (o.slots v)) refl) _

  cleared_same : (d : KeptCaller) (m : ℕ) → HoldSame o (effect_in S d o (Service.ClearEvent m))
  cleared_same (ByTask t) m = λ u. refl
  cleared_same ByRoutine m = λ u. refl
  cleared_same ByNobody m = λ u. refl

  awaited_same : (d : KeptCaller) (m : ℕ) → HoldSame o (effect_in S d o (Service.WaitEvent m))
  awaited_same (ByTask t) m = go (meets m (slice_index o.masks t))
    where
      go : (b : Bool) → HoldSame o (cond b o (slot_changed t (slot_waiting m) o))
      go true = λ u. refl
      go false = changed_same o.slots t (slot_waiting m (o.slots t)) refl
  awaited_same ByRoutine m = λ u. refl
  awaited_same ByNobody m = λ u. refl

  service_same : (d : KeptCaller) (x : Context) (call : _) (found : Results)
      → (is_accepted (Outcome.Answer (service_in S d o (at_values x call)).status found) && moves (Instr.Service call)) ≡ false
      → HoldSame o (service_in S d o (at_values x call)).state
  unfolding service_in
  service_same d x (Service.ActivateTask (Some t)) found h =
      refused_or S d o (Service.ActivateTask (Some t)) (changed_same o.slots t (one_more (o.slots t)) refl) _
  service_same d x (Service.ActivateTask None) found h = refused_or S d o (Service.ActivateTask None) (λ u. refl) _
  service_same d x Service.TerminateTask found h = terminate_same d
  service_same d x (Service.ChainTask (Some v)) found h = chain_same d v
  service_same d x (Service.ChainTask None) found h = refused_or S d o (Service.ChainTask None) (λ u. refl) _
  service_same d x Service.Schedule found h =
      refused_or S d o Service.Schedule (caller_same S d o (is_outranked_in S o d)) _
  service_same d x Service.GetTaskId found h = refused_or S d o Service.GetTaskId (λ u. refl) _
  service_same d x (Service.GetTaskState t) found h = refused_or S d o (Service.GetTaskState t) (λ u. refl) _
  service_same d x (Service.GetResource r) found h = not_moved S d o (Service.GetResource r) found _ h
  service_same d x (Service.ReleaseResource r) found h = not_moved S d o (Service.ReleaseResource r) found _ h
  service_same d x (Service.LoadShared r i) found h =
      refused_or S d o (at_values x (Service.LoadShared r i)) (λ u. refl) _
  service_same d x (Service.StoreShared (Some r) i v) found h =
      refused_or S d o (at_values x (Service.StoreShared (Some r) i v)) (λ u. refl) _
  service_same d x (Service.StoreShared None i v) found h =
      refused_or S d o (at_values x (Service.StoreShared None i v)) (λ u. refl) _
  service_same d x (Service.SetEvent (Some t) m) found h =
      refused_or S d o (Service.SetEvent (Some t) m)
      (set_same S o t (bit_or (slice_index o.masks t) m) (is_met (bit_or (slice_index o.masks t) m) (o.slots t).waits_for)) _
  service_same d x (Service.SetEvent None m) found h = refused_or S d o (Service.SetEvent None m) (λ u. refl) _
  service_same d x (Service.ClearEvent m) found h = refused_or S d o (Service.ClearEvent m) (cleared_same d m) _
  service_same d x (Service.GetEvent t) found h = refused_or S d o (Service.GetEvent t) (λ u. refl) _
  service_same d x (Service.WaitEvent m) found h = refused_or S d o (Service.WaitEvent m) (awaited_same d m) _
  service_same d x (Service.SetRelAlarm a i c) found h =
      refused_or S d o (at_values x (Service.SetRelAlarm a i c)) (λ u. refl) _
  service_same d x (Service.SetAbsAlarm a s c) found h =
      refused_or S d o (at_values x (Service.SetAbsAlarm a s c)) (λ u. refl) _
  service_same d x (Service.CancelAlarm a) found h = refused_or S d o (Service.CancelAlarm a) (λ u. refl) _
  service_same d x (Service.GetAlarm a) found h = refused_or S d o (Service.GetAlarm a) (λ u. refl) _
  service_same d x (Service.GetAlarmBase a) found h = refused_or S d o (Service.GetAlarmBase a) (λ u. refl) _

-- ---- an instruction

context_same : (d : KeptCaller) (x : Context) (o e : Kept) → HoldSame o e → HoldSame o (with_context_in d x e)
context_same (ByTask t) x o e same = go e.gone
  where
    go : (b : Bool) → HoldSame o (cond b e (slot_changed t (slot_moved x) e))
    go true = same
    go false = then_same o e (slot_changed t (slot_moved x) e) same (changed_same e.slots t (slot_moved x (e.slots t)) refl)
context_same ByRoutine x o e same = same
context_same ByNobody x o e same = same

module _ (S : System) (o : Kept) where
  done_same : (who : Owner) (d : KeptCaller) (x : Context) (what : Instr) → instruction_at S who x.place ≡ what
      → moved S (executed_in (done_in S who d x what o).events) ≡ false → HoldSame o (done_in S who d x what o).state
  done_same who d x (Instr.Plain p) is h = context_same d _ o _ (λ u. refl)
  done_same who d x (Instr.Service call) is h =
      let r = service_in S d o (at_values x call) in
      context_same d _ o r.state
      (service_same S o d x call r.results
      (ap (λ i. is_accepted (Outcome.Answer r.status r.results) && moves i) (sym is) ∙ h))
  done_same who d x (Instr.Control control) is h = context_same d _ o _ (λ u. refl)

  caller_done : (d : KeptCaller) → moved S (executed_in (caller_executes_in S d o).events) ≡ false
      → HoldSame o (caller_executes_in S d o).state
  caller_done (ByTask t) h =
      done_same (Owner.Task t) (ByTask t) (o.slots t).context (instruction_at S (Owner.Task t) (o.slots t).context.place) refl h
  caller_done ByRoutine h = go o.active h
    where
      go : (a : Option Active) → moved S (executed_in (routine_executes S a o).events) ≡ false
          → HoldSame o (routine_executes S a o).state
      go None k = λ u. refl
      go (Some a) k =
          done_same (Owner.Routine a.routine) ByRoutine a.context (instruction_at S (Owner.Routine a.routine) a.context.place) refl k
  caller_done ByNobody h = λ u. refl

  execute_same : moved S (executed_in (execute_phase_in S o).events) ≡ false → HoldSame o (execute_phase_in S o).state
  unfolding execute_phase_in
  execute_same h = caller_done (caller_in o) h

  last_same : HoldSame o (last_phase_in S o).state
  last_same = go o.over
    where
      go : (b : Bool) → HoldSame o (cond b (record { events = []; state = o }) (rescheduled S o)).state
      go true = λ u. refl
      go false = rescheduled_same S o

-- ---- a tick

left_same : (S : System) (arrived : List ℕ) (o : Kept)
    → moved S (executed_in (execute_phase_in S (before_execution_in S arrived o).state).events) ≡ false
    → HoldSame (before_execution_in S arrived o).state (tick_in S arrived o).after
unfolding tick_in
left_same S arrived o h =
    let at : Kept = (before_execution_in S arrived o).state in
    let done : Kept = (execute_phase_in S at).state in
    then_same at done (last_phase_in S done).state (execute_same S at h) (last_same S done)

module _ (S : System) (proper : IsProper S) (mode : ℕ) (arrivals : List Arrival) (n : ℕ)
    (h : moved S (executed_in (record_at S mode arrivals n)) ≡ false) where
  abbrev before : State
  before = (run S mode arrivals n).state

  abbrev arrived : List ℕ
  arrived = arriving arrivals before.tick

  abbrev at : State
  at = (before_execution S arrived before).state

  executing_is : (step_at S mode arrivals n).executing ≡ at
  unfolding tick
  executing_is = refl

  at_is : kept S at ≡ (before_execution_in S arrived (kept S before)).state
  at_is = ap (λ (k : KeptRecorded). k.state) (before_alike S mode arrivals n arrived proper)

  after_is : kept S (step_at S mode arrivals n).after ≡ (tick_in S arrived (kept S before)).after
  after_is = ap (λ (k : KeptStep). k.after) (ticks S mode arrivals n arrived proper)

  events_are : (execute_phase S at).events ≡ (execute_phase_in S (kept S at)).events
  events_are =
      let executing : IsExecuting S proper at =
      before_executing S proper arrived before (run_ordered S proper mode arrivals n) in
      ap (λ (k : KeptRecorded). k.events)
      (execute_kept S proper at executing (known_of S at (before_form S proper arrived before (run_form S proper mode arrivals n))))

  same : HoldSame (kept S at) (kept S (step_at S mode arrivals n).after)
  same t =
      let none =
      ap (λ (k : Kept). moved S (executed_in (execute_phase_in S k).events)) (sym at_is)
      ∙ ap (λ events. moved S (executed_in events)) (sym events_are)
      ∙ ap (moved S) (sym (record_executed S mode arrivals n)) ∙ h in
      ap (λ (k : Kept). (k.slots t).held) after_is ∙ left_same S arrived (kept S before) none t
      ∙ ap (λ (k : Kept). (k.slots t).held) (sym at_is)

  held_same : (r : ResId) (t : ℕ)
      → is_held_by r (oldest_job (step_at S mode arrivals n).executing t) ≡ is_held_by r (oldest_job (step_at S mode arrivals n).after t)
  held_same r t =
      ap (λ (s : State). is_held_by r (oldest_job s t)) executing_is
      ∙ sym (holding r (jobs_of t at.jobs))
      ∙ ap (λ held. holds_in r (record (slot_of (jobs_of t at.jobs)) { held = held })) (sym (same t))
      ∙ holding r (jobs_of t (step_at S mode arrivals n).after.jobs)

  holder_same : (r : ResId) → holder S (step_at S mode arrivals n).executing r ≡ holder S (step_at S mode arrivals n).after r
  holder_same r = ap (λ p. find p (below (length S.tasks))) (fun_ext (held_same r))

  -- behind the tick the same jobs hold the same resources as at its instruction
  pub holders_left : holders_seen S (step_at S mode arrivals n).executing ≡ holders_seen S (step_at S mode arrivals n).after
  holders_left =
      ap (λ (f : ResId → Option ℕ). map (λ r. f (ResId.Declared r)) (below (length S.resources))
      ++ cond S.use_res_scheduler (f ResId.Scheduler ∷ []) []) (fun_ext holder_same)
