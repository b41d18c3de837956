-- The instruction of a tick, in states that are one but for their ticks and alarms.
use Rattle.std.proofs.Common.{ℕ, ◌≡◌, ◌<◌, ◌+◌, ◌/◌, Bool, true, ◌||◌, List, [], ◌∷◌, refl, sym, ◌∙◌, ap, ap₂, subst, arith, length}
use Rattle.std.specs.Prelude.{Option, Some, None, ◌==◌, not, nat_lt, is_some, slice_index, slice_index_or, slice_set, bit_or}
use Rattle.std.specs.Option.{option_map}
use Rattle.std.proofs.lemmas.Option.{slice_get-get_or}
use Rattle.osek_base.specs.declared.ids.Owner.{Owner}
use Rattle.osek_base.specs.declared.instr.Service.{Service}
use Rattle.osek_base.specs.declared.instr.Instr.{Instr}
use Rattle.osek_base.specs.declared.status.Status.{Status}
use Rattle.osek_base.specs.declared.trace_event.Results.{Results}
use Rattle.osek_base.specs.Types.{ServiceCall}
use Rattle.osek_base.specs.System.{System, Alarm, alarm, counter_of, instruction_at, no_alarm}
use Rattle.osek_base.specs.Instruction.{Context, plain, next}
use Rattle.osek_base.specs.State.{Active, Expiry, interrupts_off, words_after}
use Rattle.osek_base.specs.Alarm.{is_bad_cycle, next_count}
use Rattle.osek_base.specs.Service.{first_refusal}
use Rattle.osek_base.specs.Tick.{at_values, answered}
use Rattle.osek_base.specs.Proper.{IsProper}
use Rattle.law_kept.specs.Kept.{Kept}
use Rattle.law_kept.specs.Moves.{activated_in}
use Rattle.law_kept.specs.KeptService.{KeptCaller, ByTask, ByRoutine, ByNobody, KeptReply, bare, with_caller_in, caller_ended_in, slot_gets, slot_releases, events_cleared_in, event_awaited_in, refusals_in, results_in, effect_in, reply_in, service_in, caller_in}
use Rattle.law_kept.specs.KeptTick.{with_context_in, controlled_in, service_done_in, executed_in, routine_executes, caller_executes_in, execute_phase_in}
use Rattle.law_future.specs.Need.{HaveAsked, asked_by, asked_by_service}
use Rattle.law_future.specs.Alike.{HaveSameLeft}
use Rattle.law_future.proofs.Timed.{retimed, AreTimed, IsPair, AreRecorded, AreReplies, as_retimed, keeps, records_keep}
use Rattle.law_future.proofs.Commutes.{ends, changes, gives_up, clears, awaits, sets, controls, moves}
use Rattle.law_future.proofs.Tables.{one_on, one_remaining, one_next, anywhere, with_one, known_counter}

-- the values of registers change nothing of what a service asks for
same_asked : (S : System) (x : Context) (call : ServiceCall) → asked_by_service S (at_values x call) ≡ asked_by_service S call
same_asked S x (Service.SetRelAlarm a increment cycle) = refl
same_asked S x (Service.SetAbsAlarm None start cycle) = refl
same_asked S x (Service.SetAbsAlarm (Some a) start cycle) = refl
same_asked S x (Service.LoadShared r i) = refl
same_asked S x (Service.StoreShared r i v) = refl
same_asked S x call = refl

module _ (S : System) (proper : IsProper S) (valued : ℕ → Bool) (asked : HaveAsked S valued) where
  -- ---- what a service leaves

  -- alarms that are set
  set_pair : (o p : Kept) → IsPair S valued o p → (a : ℕ) (e f : Option Expiry)
      → (a < length S.alarms → HaveSameLeft (o.tick / (counter_of S a).ticks_per_base) e (p.tick / (counter_of S a).ticks_per_base) f)
      → IsPair S valued (record o { alarms = slice_set o.alarms a e }) (record p { alarms = slice_set p.alarms a f })
  set_pair o p pair a e f left = record {
    rest = pair.rest;
    timed = with_one S valued o.tick o.alarms p.tick p.alarms pair.timed a e f left;
  }

  -- the counter whose value a service asks for is valued
  abbrev IsValued : ServiceCall → Type 0
  IsValued call = (c : ℕ) → asked_by_service S call ≡ Some c → valued c ≡ true

  effects : (d : KeptCaller) (o p : Kept) → IsPair S valued o p → (call : ServiceCall) → IsValued call → IsPair S valued (effect_in S d o call) (effect_in S d p call)
  effects d o p pair (Service.ActivateTask None) is = pair
  effects d o p pair (Service.ActivateTask (Some t)) is = keeps S valued (activated_in S t) (λ u fs x. refl) o p pair
  effects d o p pair Service.TerminateTask is = keeps S valued (caller_ended_in d) (λ u fs x. ends S u fs d x) o p pair
  effects d o p pair (Service.ChainTask None) is = pair
  effects d o p pair (Service.ChainTask (Some t)) is =
      keeps S valued (λ x. activated_in S t (caller_ended_in d x)) (λ u fs x. ap (activated_in S t) (ends S u fs d x)) o p pair
  effects d o p pair Service.Schedule is = keeps S valued (λ x. effect_in S d x Service.Schedule) (λ u fs x. gives_up S u fs d x) o p pair
  effects d o p pair Service.GetTaskId is = pair
  effects d o p pair (Service.GetTaskState t) is = pair
  effects d o p pair (Service.GetResource None) is = pair
  effects d o p pair (Service.GetResource (Some r)) is =
      keeps S valued (with_caller_in d (slot_gets r)) (λ u fs x. changes S u fs d (slot_gets r) x) o p pair
  effects d o p pair (Service.ReleaseResource None) is = pair
  effects d o p pair (Service.ReleaseResource (Some r)) is =
      keeps S valued (with_caller_in d slot_releases) (λ u fs x. changes S u fs d slot_releases x) o p pair
  effects d o p pair (Service.LoadShared r n) is = pair
  effects d o p pair (Service.StoreShared None n v) is = pair
  effects d o p pair (Service.StoreShared (Some r) n v) is =
      keeps S valued (λ x. effect_in S d x (Service.StoreShared (Some r) n v)) (λ u fs x. refl) o p pair
  effects d o p pair (Service.SetEvent None m) is = pair
  effects d o p pair (Service.SetEvent (Some t) m) is =
      keeps S valued (λ x. effect_in S d x (Service.SetEvent (Some t) m)) (λ u fs x. sets S u fs t (bit_or (slice_index x.masks t) m) x) o p pair
  effects d o p pair (Service.ClearEvent m) is = keeps S valued (events_cleared_in d m) (λ u fs x. clears S u fs d m x) o p pair
  effects d o p pair (Service.GetEvent t) is = pair
  effects d o p pair (Service.WaitEvent m) is = keeps S valued (event_awaited_in d m) (λ u fs x. awaits S u fs d m x) o p pair
  effects d o p pair (Service.SetRelAlarm None x y) is = pair
  effects d o p pair (Service.SetRelAlarm (Some a) x y) is =
      let n : ℕ = o.tick / (counter_of S a).ticks_per_base in
      let m : ℕ = p.tick / (counter_of S a).ticks_per_base in
      set_pair o p pair a (Some (record { count = n + x; cycle = y })) (Some (record { count = m + x; cycle = y }))
      (λ inside. (refl, omega arith))
  effects d o p pair (Service.SetAbsAlarm None x y) is = pair
  effects d o p pair (Service.SetAbsAlarm (Some a) x y) is =
      let n : ℕ = o.tick / (counter_of S a).ticks_per_base in
      let m : ℕ = p.tick / (counter_of S a).ticks_per_base in
      set_pair o p pair a (Some (record { count = next_count (counter_of S a) n x; cycle = y })) (Some (record { count = next_count (counter_of S a) m x; cycle = y }))
      (λ inside. (refl, one_next (counter_of S a) n m x (pair.timed.values _ (known_counter S a proper inside) (is (alarm S a).counter (ap (option_map (λ (x : Alarm). x.counter)) (slice_get-get_or S.alarms a no_alarm inside))))))
  effects d o p pair (Service.CancelAlarm None) is = pair
  effects d o p pair (Service.CancelAlarm (Some a)) is = set_pair o p pair a None None (λ inside. tt)
  effects d o p pair (Service.GetAlarm a) is = pair
  effects d o p pair (Service.GetAlarmBase a) is = pair

  module _ (o : Kept) (u : ℕ) (fs : List (Option Expiry)) (timed : AreTimed S valued o.tick o.alarms u fs) where
    pair_here : IsPair S valued o (retimed u fs o)
    pair_here = record { rest = refl; timed = timed }

    -- ---- refusals and results

    used : (a : ℕ) → is_some (slice_index_or o.alarms a None) ≡ is_some (slice_index_or fs a None)
    used a = one_on _ _ (slice_index_or o.alarms a None) (slice_index_or fs a None) (anywhere S valued o.tick o.alarms u fs timed a)

    refused : (d : KeptCaller) (call : ServiceCall) → refusals_in S d o call ≡ refusals_in S d (retimed u fs o) call
    refused (ByTask t) (Service.ActivateTask None) = refl
    refused d (Service.SetRelAlarm (Some a) x y) =
        ap
        (λ b. (b, Status.State) ∷ (x == 0 || nat_lt (counter_of S a).max_allowed_value x || is_bad_cycle (counter_of S a) y, Status.Value) ∷ []) (used a)
    refused d (Service.SetAbsAlarm (Some a) x y) =
        ap (λ b. (b, Status.State) ∷ (nat_lt (counter_of S a).max_allowed_value x || is_bad_cycle (counter_of S a) y, Status.Value) ∷ []) (used a)
    refused d (Service.CancelAlarm (Some a)) = ap (λ b. (not b, Status.NoFunc) ∷ []) (used a)
    refused d (Service.GetAlarm (Some a)) = ap (λ b. (not b, Status.NoFunc) ∷ []) (used a)
    refused d call = refl

    found : (call : ServiceCall) → results_in S o call ≡ results_in S (retimed u fs o) call
    found (Service.GetTaskState None) = refl
    found (Service.GetAlarm (Some a)) =
        ap Results.One (one_remaining _ _ (slice_index_or o.alarms a None) (slice_index_or fs a None) (anywhere S valued o.tick o.alarms u fs timed a))
    found call = refl

    -- ---- services

    replies : (d : KeptCaller) (call : ServiceCall) (refusal : Option Status) → IsValued call
        → AreReplies S valued (reply_in S d o call refusal) (reply_in S d (retimed u fs o) call refusal)
    replies d call None is = record { status = refl; results = found call; state = effects d o (retimed u fs o) pair_here call is }
    replies d call (Some refusal) is = record { status = refl; results = refl; state = pair_here }

    services : (d : KeptCaller) (call : ServiceCall) → IsValued call → AreReplies S valued (service_in S d o call) (service_in S d (retimed u fs o) call)
    unfolding service_in
    services d call is =
        subst
        (λ (rs : List (Bool × Status)). AreReplies S valued (service_in S d o call) (reply_in S d (retimed u fs o) call (first_refusal ((interrupts_off (bare o), Status.SysDisabled) ∷ rs))))
        (refused d call)
        (replies d call (first_refusal ((interrupts_off (bare o), Status.SysDisabled) ∷ refusals_in S d o call)) is)

    -- ---- the instruction

    served : (who : Owner) (d : KeptCaller) (x : Context) (call : ServiceCall) (r q : KeptReply) → AreReplies S valued r q
        → AreRecorded S valued (service_done_in S who d x call r) (service_done_in S who d x call q)
    served who d x call r q same = record {
      events = ap₂ (λ (status : Status) (results : Results). (service_done_in S who d x call (record r { status = status; results = results })).events) same.status same.results;
      state =
          subst (λ (y : Kept). IsPair S valued (with_context_in d (answered r.status r.results x) r.state) y)
          (ap₂ (λ (status : Status) (results : Results). with_context_in d (answered status results x) q.state) same.status same.results)
          (keeps S valued (with_context_in d (answered r.status r.results x)) (λ v gs y. moves S v gs d (answered r.status r.results x) y) r.state q.state same.state);
    }

    executes : (who : Owner) (d : KeptCaller) (x : Context) (what : Instr)
        → ((c : ℕ) → asked_by S what ≡ Some c → valued c ≡ true)
        → AreRecorded S valued (executed_in S who d x what o) (executed_in S who d x what (retimed u fs o))
    executes who d x (Instr.Plain i) is =
        records_keep S valued (executed_in S who d x (Instr.Plain i))
        (λ v gs y. ap (λ (z : Kept). record { events = (executed_in S who d x (Instr.Plain i) y).events; state = z })
        (moves S v gs d (plain i x (y.words who)).context (record y { words = words_after y.words who (plain i x (y.words who)).effect })))
        o (retimed u fs o) pair_here
    executes who d x (Instr.Service call) is =
        served who d x call (service_in S d o (at_values x call)) (service_in S d (retimed u fs o) (at_values x call)) (services d (at_values x call) (λ c e. is c (sym (same_asked S x call) ∙ e)))
    executes who d x (Instr.Control control) is =
        records_keep S valued (executed_in S who d x (Instr.Control control))
        (λ v gs y. ap (λ (z : Kept). record { events = (executed_in S who d x (Instr.Control control) y).events; state = z })
        (ap (with_context_in d (next x)) (controls S v gs control y) ∙ moves S v gs d (next x) (controlled_in control y)))
        o (retimed u fs o) pair_here

    by_routine : (active : Option Active) → AreRecorded S valued (routine_executes S active o) (routine_executes S active (retimed u fs o))
    by_routine None = record { events = refl; state = pair_here }
    by_routine (Some a) =
        executes (Owner.Routine a.routine) ByRoutine a.context (instruction_at S (Owner.Routine a.routine) a.context.place)
        (asked (Owner.Routine a.routine) a.context.place)

    by_caller : (d : KeptCaller) → AreRecorded S valued (caller_executes_in S d o) (caller_executes_in S d (retimed u fs o))
    by_caller (ByTask t) =
        executes (Owner.Task t) (ByTask t) (o.slots t).context (instruction_at S (Owner.Task t) (o.slots t).context.place)
        (asked (Owner.Task t) (o.slots t).context.place)
    by_caller ByRoutine = by_routine o.active
    by_caller ByNobody = record { events = refl; state = pair_here }

    phase : AreRecorded S valued (execute_phase_in S o) (execute_phase_in S (retimed u fs o))
    unfolding execute_phase_in
    phase = by_caller (caller_in o)

  pub execute_phase : (o p : Kept) → IsPair S valued o p → AreRecorded S valued (execute_phase_in S o) (execute_phase_in S p)
  execute_phase o p pair =
      subst (λ (y : Kept). AreRecorded S valued (execute_phase_in S o) (execute_phase_in S y)) (sym (as_retimed o p pair.rest))
      (phase o p.tick p.alarms pair.timed)
