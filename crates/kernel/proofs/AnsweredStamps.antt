-- What a service does to the stamps of jobs, as its status tells.
use Rattle.std.proofs.Common.{◌≡◌, ℕ, ◌+◌, ◌<◌, ◌≤◌, Bool, true, false, cond, not, ◌&&◌, List, [], ◌∷◌, ◌++◌, length, refl, sym, ◌∙◌, ap, subst, arith}
use Rattle.std.specs.Prelude.{Option, Some, None, is_some, ◌==◌, nat_lt, slice_set}
use Rattle.std.proofs.lemmas.List.{set-get_or}
use Rattle.osek_base.specs.declared.ids.Owner.{Owner}
use Rattle.osek_base.specs.declared.instr.Instr.{Instr}
use Rattle.osek_base.specs.declared.instr.Service.{Service}
use Rattle.osek_base.specs.declared.limits.TheConstants.{MAX_ACTIVATION}
use Rattle.osek_base.specs.declared.status.Status.{Status}
use Rattle.osek_base.specs.declared.trace_event.Outcome.{Outcome}
use Rattle.osek_base.specs.declared.trace_event.Results.{Results}
use Rattle.osek_base.specs.declared.trace_event.TraceEvent.{TraceEvent}
use Rattle.osek_base.specs.Types.{ServiceCall}
use Rattle.osek_base.specs.System.{System, activation_of, alarm}
use Rattle.osek_base.specs.declared.task.Action.{Action}
use Rattle.osek_base.specs.Instruction.{Context}
use Rattle.osek_base.specs.Service.{answer, first_refusal}
use Rattle.osek_base.specs.State.{interrupts_off}
use Rattle.osek_base.specs.Tick.{action_call, answered, at_values}
use Rattle.law_runs.proofs.Lists.{clash}
use Rattle.law_runs.proofs.Foremost.{equal, self_equal}
use Rattle.machine.specs.Packed.{instr_of, needs_look}
use Rattle.law_kept.specs.Kept.{Kept}
use Rattle.law_kept.specs.KeptService.{KeptCaller, KeptReply, ByTask, ByRoutine, ByNobody, bare, by_routine_in, caller_by, caller_in, changed_in, holds_any_in, is_full_in, service_in, slot_moved, unasked_in}
use Rattle.law_kept.specs.KeptTick.{alarm_acts_in, execute_phase_in, executed_in, with_context_in}
use Rattle.law_kept.specs.Moves.{KeptRecorded, activated_in, slot_changed}
use Rattle.kernel_stamps.specs.Stamps.{stamp_oldest, without_oldest}
use Rattle.services.specs.Calls.{caller_as, context_in}
use Rattle.law_blockers.specs.Restamping.{StampLists, acting_task, alarm_restamped, changed_list, ended_if, ended_of, instr_in, named_by, named_in, restamped, restamped_at, restamped_if, stamps_at, task_waits}
use Rattle.law_blockers.proofs.RestampedLemmas.{restamped_more}
use Rattle.kernel.specs.declared.next.Next.{Next}
use Rattle.kernel.specs.Answered.{Activates, IsStamped, MayAddIf, MayChange, MayChangeIf, job_added_if, job_changed, job_changed_if, job_ended}
use Rattle.kernel.specs.Does.{Does}
use Rattle.kernel.specs.Processor.{HasFewJobs, IsNext, Processor, picture, system_of}
use Rattle.kernel.specs.Stamping.{AreCounted, acts_on, executed_restamped}
use Rattle.kernel.specs.Watches.{Blocking, Watched, Watches, acting, executing}
use Rattle.seen_ticks.specs.Told.{acting_in}
use Rattle.kernel.proofs.ExecutedStamps.{call_stay, instr_next, moved_gone, named_there, unended}
use Rattle.kernel.proofs.ExecutionLemmas.{caller_is, execute_is}
use Rattle.kernel.proofs.PlaceLemmas.{placed_owner}
use Rattle.osek_base.specs.Separable.{IsOwner}
use Rattle.kernel.proofs.WatchLemmas.{watched_of}

-- ---- who called goes on, by other registers and at another place

module _ (d : KeptCaller) (x : Context) (o : Kept) (v : ℕ) where
  moved_count : ((with_context_in d x o).slots v).count ≡ (o.slots v).count
  moved_count = by d
    where
      at : (t : ℕ) (b : Bool) → (t == v) ≡ b → (cond b (slot_moved x (o.slots t)) (o.slots v)).count ≡ (o.slots v).count
      at t true e = ap (λ w. (o.slots w).count) (equal t v e)
      at t false e = refl

      go : (t : ℕ) (gone : Bool) → ((cond gone o (slot_changed t (slot_moved x) o)).slots v).count ≡ (o.slots v).count
      go t true = refl
      go t false = at t (t == v) refl

      by : (d : KeptCaller) → ((with_context_in d x o).slots v).count ≡ (o.slots v).count
      by (ByTask t) = go t o.gone
      by ByRoutine = refl
      by ByNobody = refl

  moved_waits : task_waits (with_context_in d x o) v ≡ task_waits o v
  moved_waits = by d
    where
      at : (t : ℕ) (b : Bool) → (t == v) ≡ b
          → task_waits (record o { slots = λ w. cond b (slot_moved x (o.slots t)) (o.slots v) }) v ≡ task_waits o v
      at t true e = ap (task_waits o) (equal t v e)
      at t false e = refl

      go : (t : ℕ) (gone : Bool) → task_waits (cond gone o (slot_changed t (slot_moved x) o)) v ≡ task_waits o v
      go t true = refl
      go t false = at t (t == v) refl

      by : (d : KeptCaller) → task_waits (with_context_in d x o) v ≡ task_waits o v
      by (ByTask t) = go t o.gone
      by ByRoutine = refl
      by ByNobody = refl

-- ---- what is seen of the named task

restamped_none : (u n : ℕ) (w x : Bool) (list : List (Option ℕ)) → length list ≡ n → x ≡ w → restamped u n w x list ≡ list
restamped_none u n w x list many same =
    let less : nat_lt (length list) n ≡ false = grind (arith, many) in
    rw less (go w x same)
  where
    go : (w x : Bool) → x ≡ w → cond (w && not x) (stamp_oldest u list) list ≡ list
    go false x e = refl
    go true true e = refl
    go true false e = clash (sym e)

module _ (o n : Kept) (u : ℕ) (xs : StampLists) (counted : AreCounted xs o) where
  -- no task has another job, none waits no more, and none has ended
  stays : (named : Option ℕ) → n.gone ≡ o.gone → ((v : ℕ) → (n.slots v).count ≡ (o.slots v).count)
      → ((v : ℕ) → task_waits n v ≡ task_waits o v) → restamped_if u named o n (ended_if o n xs) ≡ xs
  stays None gone counts waits = sym (unended o.running o.gone n.gone xs gone)
  stays (Some t) gone counts waits =
      ap (restamped_at u t o n) (sym (unended o.running o.gone n.gone xs gone))
      ∙ ap (λ list. slice_set xs t list)
      (restamped_none u (n.slots t).count (task_waits o t) (task_waits n t) (stamps_at xs t) (counted t ∙ sym (counts t)) (waits t))
      ∙ set-get_or xs t []

  -- the named task has a job more
  adds : (t : ℕ) → n.gone ≡ o.gone → (n.slots t).count ≡ (o.slots t).count + 1
      → restamped_if u (Some t) o n (ended_if o n xs) ≡ changed_list t (λ list. list ++ Some u ∷ []) xs
  adds t gone more =
      ap (restamped_at u t o n) (sym (unended o.running o.gone n.gone xs gone))
      ∙ ap (λ list. slice_set xs t list)
      (restamped_more u (n.slots t).count (task_waits o t) (task_waits n t) (stamps_at xs t)
      (more ∙ ap (λ k. k + 1) (sym (counted t))))

-- the running job ends
ended_so : (r : Option ℕ) (g h : Bool) (t : ℕ) (xs : StampLists) → r ≡ Some t → g ≡ false → h ≡ true
    → ended_of r (not g && h) xs ≡ changed_list t without_oldest xs
ended_so None g h t xs runs stands ends = absurd (grind (arith, runs))
ended_so (Some v) true h t xs runs stands ends = clash stands
ended_so (Some v) false false t xs runs stands ends = clash (sym ends)
ended_so (Some v) false true t xs runs stands ends =
    let same : v ≡ t = grind (arith, runs) in
    ap (λ w. changed_list w without_oldest xs) same

runs_by : (a : Bool) (r : Option ℕ) (g : Bool) (t : ℕ) → caller_by a r g ≡ ByTask t → (r ≡ Some t) × (g ≡ false)
runs_by true r g t e = absurd (grind (arith, e))
runs_by false None g t e = absurd (grind (arith, e))
runs_by false (Some v) true t e = absurd (grind (arith, e))
runs_by false (Some v) false t e = (grind (arith, e), refl)

-- ---- statuses

same_if : (s : Status) (u : ℕ) (owner : Owner) (call : ServiceCall) (xs : StampLists) → job_changed u owner call xs ≡ xs
    → job_changed_if s u owner call xs ≡ xs
same_if Status.Ok u owner call xs same = same
same_if _ u owner call xs same = refl

may_if : (s : Status) (owner : Owner) (call : ServiceCall) (xs : StampLists) → MayChange owner call xs → MayChangeIf s owner call xs
may_if Status.Ok owner call xs may = may
may_if _ owner call xs may = tt

-- ---- the two services

module _ (S : System) (d : KeptCaller) (x : Context) (o : Kept) (u : ℕ) (owner : Owner) (xs : StampLists) (counted : AreCounted xs o) where
  -- what is left, where the service leaves that
  abbrev left : Kept → Kept
  left s = with_context_in d x s

  refused : (named : Option ℕ) → restamped_if u named o (left o) (ended_if o (left o) xs) ≡ xs
  refused named = stays o (left o) u xs counted named (moved_gone d x o) (moved_count d x o) (moved_waits d x o)

  activates_none : (r : Option Status)
      → ended_if o (left (changed_in S d o (Service.ActivateTask None) r)) xs ≡ job_changed_if (answer r) u owner (Service.ActivateTask None) xs
  activates_none r =
      let s : Kept = changed_in S d o (Service.ActivateTask None) r in
      sym (unended o.running o.gone (left s).gone xs (moved_gone d x s ∙ gone r))
      ∙ sym (same_if (answer r) u owner (Service.ActivateTask None) xs refl)
    where
      gone : (r : Option Status) → (changed_in S d o (Service.ActivateTask None) r).gone ≡ o.gone
      gone None = refl
      gone (Some refusal) = refl

  activates : (t : ℕ) (off full : Bool)
      → (let r = first_refusal ((off, Status.SysDisabled) ∷ (full, Status.Limit) ∷ []) in
      restamped_if u (Some t) o (left (changed_in S d o (Service.ActivateTask (Some t)) r)) (ended_if o (left (changed_in S d o (Service.ActivateTask (Some t)) r)) xs)
      ≡ job_changed_if (answer r) u owner (Service.ActivateTask (Some t)) xs)
  activates t true full = refused (Some t)
  activates t false true = refused (Some t)
  activates t false false =
      let s : Kept = activated_in S t o in
      let one : (s.slots t).count ≡ (o.slots t).count + 1 = rw (self_equal t) refl in
      adds o (left s) u xs counted t (moved_gone d x s) (moved_count d x s t ∙ one)

  terminates : (off by holds : Bool)
      → ended_if o (left (changed_in S d o Service.TerminateTask None)) xs ≡ job_ended owner xs
      → (let r = first_refusal ((off, Status.SysDisabled) ∷ (by, Status.CallLevel) ∷ (holds, Status.Resource) ∷ []) in
      ended_if o (left (changed_in S d o Service.TerminateTask r)) xs ≡ job_changed_if (answer r) u owner Service.TerminateTask xs)
  terminates true by holds ends = refused None
  terminates false true holds ends = refused None
  terminates false false true ends = refused None
  terminates false false false ends = ends

-- where it is answered E_OK
terminated : (S : System) (o : Kept) (owner : Owner) (x : Context) (xs : StampLists) → caller_in o ≡ caller_as owner
    → ended_if o (with_context_in (caller_as owner) x (changed_in S (caller_as owner) o Service.TerminateTask None)) xs ≡ job_ended owner xs
terminated S o (Owner.Task t) x xs calls =
    let runs = runs_by (is_some o.active) o.running o.gone t calls in
    ended_so o.running o.gone true t xs runs.0 runs.1 refl
terminated S o (Owner.Routine i) x xs calls =
    sym (unended o.running o.gone o.gone xs refl)

-- ---- a service that comes next

module _ (p : Processor) (n : Next) (comes : IsNext p n) (call : ServiceCall) (is : instr_of n.packed ≡ Instr.Service call) where
  abbrev S : System
  S = system_of p

  abbrev o : Kept
  o = picture p

  abbrev d : KeptCaller
  d = caller_as n.owner

  abbrev x : Context
  x = context_in o n.owner

  abbrev reply : KeptReply
  reply = service_in S d o (at_values x call)

  done : execute_phase_in S o ≡ executed_in S n.owner d x (Instr.Service call) o
  done =
      execute_is S o n.owner x comes.who
      ∙ ap (λ j. executed_in S n.owner d x j o) (comes.instruction ∙ is)

  -- the stamps, as the definitions have them
  abbrev definite : ℕ → StampLists → StampLists
  definite u xs =
      let new : Kept = with_context_in d (answered reply.status reply.results x) reply.state in
      restamped_if u (named_by (Instr.Service call)) o new (ended_if o new xs)

  as_defined : (u : ℕ) (xs : StampLists) → executed_restamped S u o xs ≡ definite u xs
  as_defined u xs =
      ap (λ (r : KeptRecorded). restamped_if u (named_in (instr_in S (caller_in o) o)) o r.state (ended_if o r.state xs)) done
      ∙ ap (λ i. restamped_if u (named_in i) o (executed_in S n.owner d x (Instr.Service call) o).state (ended_if o (executed_in S n.owner d x (Instr.Service call) o).state xs))
      (instr_next p n comes ∙ ap (λ j. Some j) is)

-- what the status tells is what the definitions have
told : (p : Processor) (n : Next) (comes : IsNext p n) (call : ServiceCall) (is : instr_of n.packed ≡ Instr.Service call)
    → needs_look call ≡ false → (u : ℕ) (xs : StampLists) → AreCounted xs (picture p)
    → executed_restamped (system_of p) u (picture p) xs
    ≡ job_changed_if (service_in (system_of p) (caller_as n.owner) (picture p) (at_values (context_in (picture p) n.owner) call)).status u n.owner call xs
unfolding service_in
told p n comes (Service.ActivateTask None) is none u xs counted =
    as_defined p n comes (Service.ActivateTask None) is u xs
    ∙ activates_none (system_of p) (caller_as n.owner) _ (picture p) u n.owner xs counted _
told p n comes (Service.ActivateTask (Some t)) is none u xs counted =
    as_defined p n comes (Service.ActivateTask (Some t)) is u xs
    ∙ activates (system_of p) (caller_as n.owner) _ (picture p) u n.owner xs counted t (interrupts_off (bare (picture p))) (is_full_in (system_of p) (picture p) t)
told p n comes Service.TerminateTask is none u xs counted =
    as_defined p n comes Service.TerminateTask is u xs
    ∙ terminates (system_of p) (caller_as n.owner) _ (picture p) u n.owner xs counted (interrupts_off (bare (picture p)))
    (by_routine_in (caller_as n.owner)) (holds_any_in (picture p) (caller_as n.owner)) (terminated (system_of p) (picture p) n.owner _ xs (caller_is (picture p) n.owner (context_in (picture p) n.owner) comes.who))
told p n comes (Service.ChainTask t) is none u xs counted = clash none
told p n comes (Service.SetEvent t m) is none u xs counted = clash none
told p n comes call is none u xs counted =
    sym (call_stay p n comes u xs call is refl) ∙ sym (same_if _ u n.owner call xs refl)

-- ---- what it asks for

-- it is a task's own, or a routine's
may_end : (S : System) (owner : Owner) (xs : StampLists) → length xs ≡ length S.tasks → IsOwner S owner → IsStamped owner xs
may_end S (Owner.Task t) xs size known = subst (λ n. t < n) (sym size) known
may_end S (Owner.Routine i) xs size known = tt

may_add : (S : System) (o : Kept) (owner : Owner) (t : ℕ) (xs : StampLists) (off full : Bool) → is_full_in S o t ≡ full → HasFewJobs S → AreCounted xs o
    → length xs ≡ length S.tasks → t < length S.tasks
    → MayChangeIf (answer (first_refusal ((off, Status.SysDisabled) ∷ (full, Status.Limit) ∷ []))) owner (Service.ActivateTask (Some t)) xs
may_add S o owner t xs true full e few counted size known = tt
may_add S o owner t xs false true e few counted size known = tt
may_add S o owner t xs false false e few counted size known =
    let most : activation_of S t ≤ MAX_ACTIVATION = few t known in
    let less : (o.slots t).count < activation_of S t = grind (arith, e) in
    let same : length (stamps_at xs t) ≡ (o.slots t).count = counted t in
    (subst (λ n. t < n) (sym size) known, omega (arith, most, less, same))

pub may_change : (p : Processor) (n : Next) → IsNext p n → (call : ServiceCall) → instr_of n.packed ≡ Instr.Service call → (xs : StampLists)
    → HasFewJobs (system_of p) → AreCounted xs (picture p) → length xs ≡ length (system_of p).tasks
    → MayChangeIf (service_in (system_of p) (caller_as n.owner) (picture p) (at_values (context_in (picture p) n.owner) call)).status n.owner call xs
unfolding service_in
may_change p n comes (Service.ActivateTask None) is xs few counted size =
    may_if _ n.owner (Service.ActivateTask None) xs tt
may_change p n comes (Service.ActivateTask (Some t)) is xs few counted size =
    may_add (system_of p) (picture p) n.owner t xs (interrupts_off (bare (picture p))) (is_full_in (system_of p) (picture p) t) refl few counted size
    (named_there p n (Service.ActivateTask (Some t)) (Some t) comes is refl)
may_change p n comes Service.TerminateTask is xs few counted size =
    may_if _ n.owner Service.TerminateTask xs
    (may_end (system_of p) n.owner xs size (placed_owner (system_of p) n.owner _ comes.placed))
may_change p n comes call is xs few counted size = may_if _ n.owner call xs tt

-- ---- the status that was answered

abbrev outcome_status : Outcome → Status
outcome_status (Outcome.Answer s results) = s
outcome_status _ = Status.Ok

abbrev event_status : TraceEvent → Status
event_status (TraceEvent.Executed owner place instr outcome) = outcome_status outcome
event_status _ = Status.Ok

abbrev first_status : List TraceEvent → Status
first_status [] = Status.Ok
first_status (event ∷ rest) = event_status event

pub status_is : (p new : Processor) (n : Next) (comes : IsNext p n) (call : ServiceCall) (is : instr_of n.packed ≡ Instr.Service call)
    (i : Instr) (s : Status) (results : Results) (behind : List TraceEvent)
    → Does execute_phase_in p new [] (TraceEvent.Executed n.owner n.place i (Outcome.Answer s results) ∷ behind)
    → s ≡ (service_in (system_of p) (caller_as n.owner) (picture p) (at_values (context_in (picture p) n.owner) call)).status
status_is p new n comes call is i s results behind does =
    ap first_status does.events ∙ ap (λ (r : KeptRecorded). first_status r.events) (done p n comes call is)

pub answered_watched : (counted : Bool) (u : ℕ) (old : Watched) (new : Processor) (b : Blocking) (n : Next) (call : ServiceCall)
    (s : Status) (first second : List TraceEvent) → IsNext old.processor n → instr_of n.packed ≡ Instr.Service call
    → (counted ≡ true → needs_look call ≡ false) → (counted ≡ true → AreCounted old.blocking.stamps (picture old.processor))
    → s ≡ (service_in (system_of old.processor) (caller_as n.owner) (picture old.processor) (at_values (context_in (picture old.processor) n.owner) call)).status
    → Does execute_phase_in old.processor new first second
    → (counted ≡ true → b.stamps ≡ job_changed_if s u n.owner call old.blocking.stamps) → b.told ≡ old.blocking.told
    → Watches counted executing u old (watched_of new b) first second
answered_watched counted u old new b n call s first second comes is none each so does stamps told_same = record {
  does = does;
  stamps = λ on.
      stamps on
      ∙ ap (λ v. job_changed_if v u n.owner call old.blocking.stamps) so
      ∙ sym (told old.processor n comes call is (none on) u old.blocking.stamps (each on));
  told = told_same;
}

-- ---- an alarm activates a task

module _ (S : System) (o : Kept) (t : ℕ) (xs : StampLists) (counted : AreCounted xs o) where
  activation_told : (u : ℕ) (full : Bool)
      → (let r = first_refusal ((full, Status.Limit) ∷ []) in
      restamped_at u t o (changed_in S ByNobody o (Service.ActivateTask (Some t)) r) xs ≡ job_added_if (answer r) u t xs)
  activation_told u true =
      ap (λ list. slice_set xs t list)
      (restamped_none u (o.slots t).count (task_waits o t) (task_waits o t) (stamps_at xs t) (counted t) refl)
      ∙ set-get_or xs t []
  activation_told u false =
      let n : Kept = activated_in S t o in
      let one : (n.slots t).count ≡ (o.slots t).count + 1 = rw (self_equal t) refl in
      ap (λ list. slice_set xs t list)
      (restamped_more u (n.slots t).count (task_waits o t) (task_waits n t) (stamps_at xs t)
      (one ∙ ap (λ k. k + 1) (sym (counted t))))

  may_add_if : (full : Bool) → is_full_in S o t ≡ full → activation_of S t ≤ MAX_ACTIVATION → length xs ≡ length S.tasks → t < length S.tasks
      → MayAddIf (answer (first_refusal ((full, Status.Limit) ∷ []))) t xs
  may_add_if true e few size known = tt
  may_add_if false e few size known =
      let less : (o.slots t).count < activation_of S t = grind (arith, e) in
      let same : length (stamps_at xs t) ≡ (o.slots t).count = counted t in
      (subst (λ n. t < n) (sym size) known, omega (arith, few, less, same))

activated_told : (S : System) (o : Kept) (a t u : ℕ) (xs : StampLists) → AreCounted xs o → (alarm S a).action ≡ Action.ActivateTask t
    → alarm_restamped S u a o xs ≡ job_added_if (acting_in S a o).status u t xs
unfolding unasked_in
activated_told S o a t u xs counted is =
    let reply = λ (act : Action). unasked_in S ByNobody o (action_call act) in
    ap (λ (act : Action). restamped_at u (acting_task act) o (reply act).state xs) is
    ∙ activation_told S o t xs counted u (is_full_in S o t)
    ∙ ap (λ (act : Action). job_added_if (reply act).status u t xs) (sym is)

pub may_activate : (p : Processor) (a t : ℕ) (xs : StampLists) (s : Status) → Activates (system_of p) a t → AreCounted xs (picture p)
    → length xs ≡ length (system_of p).tasks → s ≡ (acting_in (system_of p) a (picture p)).status → MayAddIf s t xs
unfolding unasked_in
may_activate p a t xs s is counted size told =
    let S : System = system_of p in
    let o : Kept = picture p in
    subst (λ v. MayAddIf v t xs) (sym (told ∙ ap (λ (act : Action). (unasked_in S ByNobody o (action_call act)).status) is.value))
    (may_add_if S o t xs counted (is_full_in S o t) refl is.few size is.known)

pub acts_inside : (p : Processor) (a t : ℕ) (xs : StampLists) → Activates (system_of p) a t → length xs ≡ length (system_of p).tasks
    → acts_on (system_of p) a < length xs
acts_inside p a t xs is size =
    subst (λ act. acting_task act < length xs) (sym is.value) (subst (λ n. t < n) (sym size) is.known)

pub activated_watched : (counted : Bool) (a t u : ℕ) (old : Watched) (new : Processor) (b : Blocking) (s : Status) (first second : List TraceEvent)
    → Activates (system_of old.processor) a t → (counted ≡ true → AreCounted old.blocking.stamps (picture old.processor))
    → Does (λ S. alarm_acts_in S a) old.processor new first second
    → s ≡ (acting_in (system_of old.processor) a (picture old.processor)).status
    → (counted ≡ true → b.stamps ≡ job_added_if s u t old.blocking.stamps) → b.told ≡ old.blocking.told
    → Watches counted (acting a) u old (watched_of new b) first second
activated_watched counted a t u old new b s first second is each does so stamps told_same = record {
  does = does;
  stamps = λ on.
      stamps on
      ∙ ap (λ v. job_added_if v u t old.blocking.stamps) so
      ∙ sym (activated_told (system_of old.processor) (picture old.processor) a t u old.blocking.stamps (each on) is.value);
  told = told_same;
}
