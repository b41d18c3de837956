-- What the instruction of who executes does to the stamps of jobs.
use Rattle.std.proofs.Common.{◌≡◌, ℕ, ◌<◌, Bool, true, false, cond, not, ◌&&◌, List, [], ◌∷◌, length, sym, ◌∙◌, ap, ap₂, subst, refl, arith}
use Rattle.std.specs.Prelude.{Option, Some, None, IfSome, slice_index}
use Rattle.std.specs.Option.{option_map}
use Rattle.osek_base.specs.declared.ids.Owner.{Owner}
use Rattle.osek_base.specs.declared.instr.Instr.{Instr}
use Rattle.osek_base.specs.declared.instr.Control.{Control}
use Rattle.osek_base.specs.declared.instr.Service.{Service}
use Rattle.osek_base.specs.declared.status.Status.{Status}
use Rattle.osek_base.specs.declared.trace_event.TraceEvent.{TraceEvent}
use Rattle.osek_base.specs.Types.{PlainInstr, ServiceCall}
use Rattle.osek_base.specs.System.{System, instruction_at}
use Rattle.osek_base.specs.Instruction.{Context, next, plain}
use Rattle.osek_base.specs.Service.{first_refusal, meets}
use Rattle.osek_base.specs.State.{Active, interrupts_off, words_after}
use Rattle.osek_base.specs.Tick.{answered, at_values}
use Rattle.law_runs.proofs.Lists.{clash}
use Rattle.machine.specs.Packed.{control_of, instr_of, is_control, is_plain, plain_of}
use Rattle.machine.specs.Windows.{word}
use Rattle.law_kept.specs.Kept.{Kept, Slot}
use Rattle.law_kept.specs.KeptService.{KeptCaller, KeptReply, ByTask, ByRoutine, ByNobody, bare, caller_in, effect_in, event_awaited_in, events_cleared_in, is_outranked_in, refusals_in, reply_in, service_in, slot_gets, slot_given_up, slot_moved, slot_releases, slot_waiting, with_caller_in}
use Rattle.law_kept.specs.KeptTick.{controlled_in, execute_phase_in, executed_in, with_context_in}
use Rattle.law_kept.specs.Moves.{KeptRecorded, slot_changed}
use Rattle.services.specs.Calls.{Executes, caller_as, context_in}
use Rattle.law_blockers.specs.Restamping.{StampLists, ended_if, ended_of, instr_in, restamped_if, named_by, named_in, stamps_at}
use Rattle.kernel.specs.declared.next.Next.{Next}
use Rattle.kernel.specs.declared.stamping.Stand.{Stand}
use Rattle.kernel.specs.Controls.{changes_jobs}
use Rattle.kernel.specs.Does.{Does}
use Rattle.kernel.specs.Stamping.{AreCounted, executed_restamped, stand, stood_between}
use Rattle.kernel.specs.Processor.{IsNext, Processor, picture, system_of}
use Rattle.kernel.specs.Watches.{Blocking, Watched, Watches, executing}
use Rattle.kernel.proofs.BegunLemmas.{named_known}
use Rattle.kernel.proofs.ExecutionLemmas.{caller_is, execute_is, execute_phase-none}
use Rattle.kernel.proofs.KindLemmas.{control_is, plain_is}
use Rattle.kernel.proofs.WatchLemmas.{watched_of}

-- the instruction of who executes
instr_there : (S : System) (o : Kept) (who : Owner) (x : Context) → Executes o who x → instr_in S (caller_in o) o ≡ Some (instruction_at S who x.place)
instr_there S o (Owner.Task t) x h =
    ap (λ d. instr_in S d o) h.0 ∙ ap (λ (y : Context). Some (instruction_at S (Owner.Task t) y.place)) h.1
instr_there S o (Owner.Routine i) x h =
    ap (λ d. instr_in S d o) (caller_is o (Owner.Routine i) x h)
    ∙ ap (option_map (λ (a : Active). instruction_at S (Owner.Routine a.routine) a.context.place)) h

pub instr_next : (p : Processor) (next : Next) → IsNext p next → instr_in (system_of p) (caller_in (picture p)) (picture p) ≡ Some (instr_of next.packed)
instr_next p next n = instr_there (system_of p) (picture p) next.owner (context_in (picture p) next.owner) n.who ∙ ap (λ i. Some i) n.instruction

-- ---- instructions that end no job and act on no task

pub moved_gone : (d : KeptCaller) (x : Context) (o : Kept) → (with_context_in d x o).gone ≡ o.gone
moved_gone (ByTask t) x o = go o.gone
  where
    go : (b : Bool) → (cond b o (slot_changed t (slot_moved x) o)).gone ≡ o.gone
    go true = refl
    go false = refl
moved_gone ByRoutine x o = refl
moved_gone ByNobody x o = refl

pub unended : (r : Option ℕ) (old new : Bool) (xs : StampLists) → new ≡ old → xs ≡ ended_of r (not old && new) xs
unended None old new xs same = refl
unended (Some t) true new xs same = refl
unended (Some t) false true xs same = absurd (grind arith)
unended (Some t) false false xs same = refl

caller_gone : (d : KeptCaller) (g : Slot → Slot) (o : Kept) → (with_caller_in d g o).gone ≡ o.gone
caller_gone (ByTask t) g o = refl
caller_gone ByRoutine g o = refl
caller_gone ByNobody g o = refl

either_gone : (b : Bool) (o n : Kept) → n.gone ≡ o.gone → (cond b n o).gone ≡ o.gone
either_gone true o n same = same
either_gone false o n same = refl

cleared_gone : (d : KeptCaller) (m : ℕ) (o : Kept) → (events_cleared_in d m o).gone ≡ o.gone
cleared_gone (ByTask t) m o = refl
cleared_gone ByRoutine m o = refl
cleared_gone ByNobody m o = refl

awaited_gone : (d : KeptCaller) (m : ℕ) (o : Kept) → (event_awaited_in d m o).gone ≡ o.gone
awaited_gone (ByTask t) m o = go (meets m (slice_index o.masks t))
  where
    go : (b : Bool) → (cond b o (slot_changed t (slot_waiting m) o)).gone ≡ o.gone
    go true = refl
    go false = refl
awaited_gone ByRoutine m o = refl
awaited_gone ByNobody m o = refl

-- a service that changes no jobs
effect_gone : (S : System) (d : KeptCaller) (o : Kept) (x : Context) (call : ServiceCall)
    → changes_jobs call ≡ false → (effect_in S d o (at_values x call)).gone ≡ o.gone
effect_gone S d o x (Service.ActivateTask t) none = clash none
effect_gone S d o x Service.TerminateTask none = clash none
effect_gone S d o x (Service.ChainTask t) none = clash none
effect_gone S d o x Service.Schedule none =
    either_gone (is_outranked_in S o d) o (with_caller_in d slot_given_up o)
    (caller_gone d slot_given_up o)
effect_gone S d o x Service.GetTaskId none = refl
effect_gone S d o x (Service.GetTaskState t) none = refl
effect_gone S d o x (Service.GetResource None) none = refl
effect_gone S d o x (Service.GetResource (Some r)) none = caller_gone d (slot_gets r) o
effect_gone S d o x (Service.ReleaseResource None) none = refl
effect_gone S d o x (Service.ReleaseResource (Some r)) none = caller_gone d slot_releases o
effect_gone S d o x (Service.LoadShared r i) none = refl
effect_gone S d o x (Service.StoreShared None i v) none = refl
effect_gone S d o x (Service.StoreShared (Some r) i v) none = refl
effect_gone S d o x (Service.SetEvent t m) none = clash none
effect_gone S d o x (Service.ClearEvent m) none = cleared_gone d m o
effect_gone S d o x (Service.GetEvent t) none = refl
effect_gone S d o x (Service.WaitEvent m) none = awaited_gone d m o
effect_gone S d o x (Service.SetRelAlarm a y z) none = refl
effect_gone S d o x (Service.SetAbsAlarm a y z) none = refl
effect_gone S d o x (Service.CancelAlarm a) none = refl
effect_gone S d o x (Service.GetAlarm a) none = refl
effect_gone S d o x (Service.GetAlarmBase a) none = refl

service_gone : (S : System) (d : KeptCaller) (o : Kept) (x : Context) (call : ServiceCall)
    → changes_jobs call ≡ false → (service_in S d o (at_values x call)).state.gone ≡ o.gone
unfolding service_in
service_gone S d o x call none =
    go (first_refusal
    ((interrupts_off (bare o), Status.SysDisabled) ∷ refusals_in S d o (at_values x call)))
  where
    go : (r : Option Status) → (reply_in S d o (at_values x call) r).state.gone ≡ o.gone
    go None = effect_gone S d o x call none
    go (Some refusal) = refl

names_none : (call : ServiceCall) → changes_jobs call ≡ false → named_by (Instr.Service call) ≡ None
names_none (Service.ActivateTask t) none = clash none
names_none Service.TerminateTask none = clash none
names_none (Service.ChainTask t) none = clash none
names_none (Service.SetEvent t m) none = clash none
names_none _ none = refl

module _ (p : Processor) (next_is : Next) (n : IsNext p next_is) where
  abbrev S : System
  S = system_of p

  abbrev k : Kept
  k = picture p

  abbrev x : Context
  x = context_in k next_is.owner

  done : (i : Instr) → instr_of next_is.packed ≡ i → execute_phase_in S k ≡ executed_in S next_is.owner (caller_as next_is.owner) x i k
  done i is =
      execute_is S k next_is.owner x n.who
      ∙ ap (λ j. executed_in S next_is.owner (caller_as next_is.owner) x j k) (n.instruction ∙ is)

  stay : (i : Instr) (u : ℕ) (xs : StampLists) → instr_of next_is.packed ≡ i → named_by i ≡ None
      → (executed_in S next_is.owner (caller_as next_is.owner) x i k).state.gone ≡ k.gone → xs ≡ executed_restamped S u k xs
  stay i u xs is none gone =
      let new : Kept = (execute_phase_in S k).state in
      let same : new.gone ≡ k.gone = ap (λ (r : KeptRecorded). r.state.gone) (done i is) ∙ gone in
      unended k.running k.gone new.gone xs same
      ∙ ap (λ t. restamped_if u t k new (ended_if k new xs)) (sym (ap named_in (instr_next p next_is n ∙ ap (λ j. Some j) is) ∙ none))

  plain_gone : (i : PlainInstr) → (executed_in S next_is.owner (caller_as next_is.owner) x (Instr.Plain i) k).state.gone ≡ k.gone
  plain_gone i =
      let effect = plain i x (k.words next_is.owner) in
      moved_gone (caller_as next_is.owner) effect.context (record k { words = words_after k.words next_is.owner effect.effect })

  control_gone : (c : Control ℕ) → (executed_in S next_is.owner (caller_as next_is.owner) x (Instr.Control c) k).state.gone ≡ k.gone
  control_gone c = moved_gone (caller_as next_is.owner) (next x) (controlled_in c k)

  call_gone : (call : ServiceCall) → changes_jobs call ≡ false
      → (executed_in S next_is.owner (caller_as next_is.owner) x (Instr.Service call) k).state.gone
      ≡ k.gone
  call_gone call none =
      let r : KeptReply = service_in S (caller_as next_is.owner) k (at_values x call) in
      moved_gone (caller_as next_is.owner) (answered r.status r.results x) r.state
      ∙ service_gone S (caller_as next_is.owner) k x call none

  pub plain_stay : (u : ℕ) (xs : StampLists) → is_plain (instr_of next_is.packed) ≡ true → xs ≡ executed_restamped S u k xs
  plain_stay u xs h = stay (Instr.Plain (plain_of (instr_of next_is.packed))) u xs (plain_is (instr_of next_is.packed) h) refl (plain_gone (plain_of (instr_of next_is.packed)))

  pub control_stay : (u : ℕ) (xs : StampLists) → is_control (instr_of next_is.packed) ≡ true → xs ≡ executed_restamped S u k xs
  control_stay u xs h = stay (Instr.Control (control_of (instr_of next_is.packed))) u xs (control_is (instr_of next_is.packed) h) refl (control_gone (control_of (instr_of next_is.packed)))

  pub call_stay : (u : ℕ) (xs : StampLists) (call : ServiceCall)
      → instr_of next_is.packed ≡ Instr.Service call → changes_jobs call ≡ false
      → xs ≡ executed_restamped S u k xs
  call_stay u xs call is none =
      stay (Instr.Service call) u xs is (names_none call none) (call_gone call none)

stay_watched : (counted : Bool) (u : ℕ) (old : Watched) (new : Processor) (first second : List TraceEvent)
    → old.blocking.stamps ≡ executed_restamped (system_of old.processor) u (picture old.processor) old.blocking.stamps
    → Does execute_phase_in old.processor new first second → Watches counted executing u old (watched_of new old.blocking) first second
stay_watched counted u old new first second stay does = record { does = does; stamps = λ on. stay; told = refl }

pub plain_watched : (counted : Bool) (u : ℕ) (old : Watched) (new : Processor) (next : Next) (event : TraceEvent) (behind : List TraceEvent)
    → IsNext old.processor next → is_plain (instr_of next.packed) ≡ true → behind ≡ [] → Does execute_phase_in old.processor new [] (event ∷ [])
    → Watches counted executing u old (watched_of new old.blocking) [] (event ∷ behind)
plain_watched counted u old new next event behind n plain none does =
    stay_watched counted u old new [] (event ∷ behind) (plain_stay old.processor next n u old.blocking.stamps plain)
    (subst (λ v. Does execute_phase_in old.processor new [] (event ∷ v)) (sym none) does)

pub control_watched : (counted : Bool) (u : ℕ) (old : Watched) (new : Processor) (next : Next) (first second : List TraceEvent)
    → IsNext old.processor next → is_control (instr_of next.packed) ≡ true → Does execute_phase_in old.processor new first second
    → Watches counted executing u old (watched_of new old.blocking) first second
control_watched counted u old new next first second n control does =
    stay_watched counted u old new first second (control_stay old.processor next n u old.blocking.stamps control) does

-- nobody executes
pub idle_watched : (counted : Bool) (u : ℕ) (w : Watched) (behind : List TraceEvent) → caller_in (picture w.processor) ≡ ByNobody → behind ≡ []
    → Watches counted executing u w w [] (TraceEvent.Idle ∷ behind)
idle_watched counted u w behind nobody none =
    let S : System = system_of w.processor in
    let k : Kept = picture w.processor in
    let idle = execute_phase-none S (word w.processor.words) w.processor.objects nobody in
    record {
      does = record {
        system = refl;
        kept = sym (ap (λ (r : KeptRecorded). r.state) idle);
        events = ap (λ v. TraceEvent.Idle ∷ v) none ∙ sym (ap (λ (r : KeptRecorded). r.events) idle);
      };
      stamps = λ on.
          let new : Kept = (execute_phase_in S k).state in
          unended k.running k.gone new.gone w.blocking.stamps (ap (λ (r : KeptRecorded). r.state.gone) idle)
          ∙ ap (λ d. restamped_if u (named_in (instr_in S d k)) k new (ended_if k new w.blocking.stamps)) (sym nobody);
      told = refl;
    }

-- ---- services

stood : (k new : Kept) (t : Option ℕ) (u : ℕ) (xs : StampLists) → stood_between u (stand k t) (stand new t) xs ≡ restamped_if u t k new (ended_if k new xs)
stood k new None u xs = refl
stood k new (Some t) u xs = refl

-- the task on which a service acts that comes next
pub named_there : (p : Processor) (next : Next) (service : ServiceCall) (named : Option ℕ) → IsNext p next → instr_of next.packed ≡ Instr.Service service
    → named ≡ named_by (Instr.Service service) → IfSome named (λ t. t < length (system_of p).tasks)
named_there p next service named n is named_is =
    subst (λ (r : Option ℕ). IfSome r (λ t. t < length (system_of p).tasks)) (sym named_is)
    (named_known (system_of p) next.owner (context_in (picture p) next.owner) n.known (Instr.Service service) (n.instruction ∙ is))

pub known_stand : (k : Kept) (n : ℕ) (t : Option ℕ) → IfSome t (λ t. t < n) → IfSome (stand k t).named (λ b. b.task < n)
known_stand k n None h = tt
known_stand k n (Some t) h = h

pub counted_stand : (k : Kept) (xs : StampLists) (t : Option ℕ) → AreCounted xs k → IfSome (stand k t).named (λ b. length (stamps_at xs b.task) ≡ b.count)
counted_stand k xs None h = tt
counted_stand k xs (Some t) h = h t

pub served : (counted : Bool) (u : ℕ) (old : Watched) (new : Processor) (b : Blocking) (next : Next) (service : ServiceCall) (named : Option ℕ)
    (before after : Stand) (first second : List TraceEvent) → IsNext old.processor next → instr_of next.packed ≡ Instr.Service service
    → named ≡ named_by (Instr.Service service) → before ≡ stand (picture old.processor) named → after ≡ stand (picture new) named
    → Does execute_phase_in old.processor new first second
    → (counted ≡ true → b.stamps ≡ stood_between u before after old.blocking.stamps) → b.told ≡ old.blocking.told
    → Watches counted executing u old (watched_of new b) first second
served counted u old new b next service named before after first second n is named_is before_is after_is does restamps told = record {
  does = does;
  stamps = λ on.
      let S : System = system_of old.processor in
      let k : Kept = picture old.processor in
      let xs = old.blocking.stamps in
      let last : Kept = (execute_phase_in S k).state in
      restamps on
      ∙ ap₂ (λ (v w : Stand). stood_between u v w xs) before_is (after_is ∙ ap (λ o. stand o named) does.kept)
      ∙ stood k last named u xs
      ∙ ap (λ t. restamped_if u t k last (ended_if k last xs)) (named_is ∙ sym (ap named_in (instr_next old.processor next n ∙ ap (λ i. Some i) is)));
  told = told;
}
