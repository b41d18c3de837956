-- Alarms act in turn, and interrupts arrive in turn, as the picture of a system shows it.
use Rattle.std.proofs.Common.{◌≡◌, ℕ, zero, suc, ◌+◌, ◌<◌, ◌≤◌, Bool, true, false, cond, List, [], ◌∷◌, ◌++◌, take, get_or, length, refl, sym, ◌∙◌, ap, ap₂, subst, append_assoc, arith}
use Rattle.std.specs.Prelude.{slice_set}
use Rattle.std.specs.List.{AllByRecursion, filter}
use Rattle.std.proofs.lemmas.List.{append-nil, take_more}
use Rattle.osek_base.specs.declared.task.Action.{Action}
use Rattle.osek_base.specs.declared.status.Status.{Status}
use Rattle.osek_base.specs.declared.trace_event.Source.{Source}
use Rattle.osek_base.specs.declared.trace_event.TraceEvent.{TraceEvent}
use Rattle.osek_base.specs.declared.instr.Instr.{Instr}
use Rattle.osek_base.specs.System.{System, alarm}
use Rattle.osek_base.specs.Tick.{action_call, error_record, flagged}
use Rattle.osek_base.specs.Lists.{below}
use Rattle.osek_base.specs.State.{State}
use Rattle.osek_base.specs.Alarm.{due_alarms, is_due}
use Rattle.machine.specs.Windows.{word}
use Rattle.law_kept.specs.Kept.{Kept}
use Rattle.law_kept.specs.Moves.{KeptRecorded}
use Rattle.law_kept.specs.KeptService.{ByNobody, bare, unasked_in}
use Rattle.law_kept.specs.KeptTick.{alarm_reply_in, alarm_acts_in, alarms_act_in, alarm_phase_in, and_then_in, advanced_in}
use Rattle.law_kept.specs.Standing.{runner_waits}
use Rattle.law_kept.proofs.InRuns.{action_keeps_ready}
use Rattle.services.specs.Objects.{Objects, kept_in}
use Rattle.kernel.specs.Processor.{IsBefore, Processor, at_tick, clocked, picture, system_of}
use Rattle.kernel.specs.Does.{Adds, Becomes, Does}
use Rattle.kernel.specs.Told.{Acts}
use Rattle.kernel.proofs.AlarmLemmas.{events_by, first_alarm_phase, state_by, status_by}
use Rattle.kernel.proofs.DoesLemmas.{Step, processor_of, does_nothing, does_same, then_does}

-- an alarm acts by the service of its action
pub acts_by : (S : System) (a : ℕ) (action : Action) (m : Processor) (o n : Objects) (words : List ℕ) (status : Status) (before after : List TraceEvent)
    → processor_of o words ≡ m → o.system ≡ S → (alarm S a).action ≡ action → n.system ≡ o.system
    → kept_in n ≡ (unasked_in o.system ByNobody (kept_in o) (action_call action)).state
    → status ≡ (unasked_in o.system ByNobody (kept_in o) (action_call action)).status
    → Adds (error_record S (Source.Alarm a) (Instr.Service (action_call action)) status) before after
    → Acts a m (processor_of n words) before after status
acts_by S a action m o n words status before after is here by system kept answered told =
    let acts : (alarm o.system a).action ≡ action = ap (λ T. (alarm T a).action) here ∙ by in
    subst (λ x. Acts a x (processor_of n words) before after status) is
    (record {
      does = record {
        system = system;
        kept = state_by o.system a (word words) o action acts n kept;
        events = events_by o.system a (word words) o action acts status before after answered
            (told.value ∙ ap (λ T. before ++ error_record T (Source.Alarm a) (Instr.Service (action_call action)) status) (sym here));
      };
      status = status_by o.system a (word words) o action acts status answered;
      few = told.few;
    })

-- the running job doesn't wait behind an action where it didn't before
act_ready_by : (S : System) (a : ℕ) (o : Kept) (action : Action) → runner_waits o ≡ false
    → runner_waits (alarm_reply_in S a (unasked_in S ByNobody o (action_call action))).state ≡ false
act_ready_by S a o (Action.ActivateTask t) ready = (action_keeps_ready S o t 0 ready).0
act_ready_by S a o (Action.SetEvent t m) ready = (action_keeps_ready S o t m ready).1

pub act_ready : (a : ℕ) (old new : Processor) (before after : List TraceEvent) → Does (λ T. alarm_acts_in T a) old new before after
    → runner_waits (picture old) ≡ false → runner_waits (picture new) ≡ false
act_ready a old new before after does ready =
    ap runner_waits does.kept ∙ act_ready_by (system_of old) a (picture old) (alarm (system_of old) a).action ready

-- one more alarm at the end
and_then_assoc : (r : KeptRecorded) (f g : Kept → KeptRecorded) → and_then_in (and_then_in r f) g ≡ and_then_in r (λ o. and_then_in (f o) g)
and_then_assoc r f g = ap (λ v. record { events = v; state = (g (f r.state).state).state }) (append_assoc r.events _ _)

acts_more : (S : System) (xs : List ℕ) (a : ℕ) (o : Kept) → and_then_in (alarms_act_in S xs o) (alarm_acts_in S a) ≡ alarms_act_in S (xs ++ a ∷ []) o
acts_more S [] a o = ap (λ v. record { events = v; state = (alarm_acts_in S a o).state }) (sym (append-nil (alarm_acts_in S a o).events))
acts_more S (x ∷ xs) a o =
    and_then_assoc (alarm_acts_in S x o) (alarms_act_in S xs) (alarm_acts_in S a)
    ∙ ap (λ r. record { events = (alarm_acts_in S x o).events ++ r.events; state = r.state }) (acts_more S xs a (alarm_acts_in S x o).state)

pub acting_more : (due : List ℕ) (i : ℕ) (a b c : Processor) (first second : List TraceEvent)
    → Does (λ S. alarms_act_in S (take i due)) a b [] first → i < length due
    → Does (λ S. alarm_acts_in S (get_or due i 0)) b c first second
    → Does (λ S. alarms_act_in S (take (i + 1) due)) a c [] second
acting_more due i a b c first second some low one =
    let all : Step = λ S o. and_then_in (alarms_act_in S (take i due) o) (alarm_acts_in S (get_or due i 0)) in
    does_same all (λ S. alarms_act_in S (take (i + 1) due)) a c [] second
    (acts_more (system_of a) (take i due) (get_or due i 0) (picture a)
    ∙ ap (λ v. alarms_act_in (system_of a) v (picture a)) (sym (take_more due i 0 low)))
    (then_does (λ S. alarms_act_in S (take i due)) (λ S. alarm_acts_in S (get_or due i 0)) a b c [] first second some one)

-- one more arrival at the end
flagged_last : (xs : List ℕ) (i : ℕ) (flags : List Bool) → flagged (xs ++ i ∷ []) flags ≡ slice_set (flagged xs flags) i true
flagged_last [] i flags = refl
flagged_last (x ∷ xs) i flags = flagged_last xs i (slice_set flags x true)

pub flagged_more : (xs : List ℕ) (n i : ℕ) (flags now : List Bool) → n < length xs → i ≡ get_or xs n i → now ≡ flagged (take n xs) flags
    → slice_set now i true ≡ flagged (take (n + 1) xs) flags
flagged_more xs n i flags now low found so_far =
    ap₂ (λ v k. slice_set v k true) so_far found ∙ sym (flagged_last (take n xs) (get_or xs n i) flags)
    ∙ sym (ap (λ v. flagged v flags) (take_more xs n i low))

-- ---- the alarm phase

-- the alarms that are due are known
all_below : (n m : ℕ) → n ≤ m → AllByRecursion (λ k. k < m) (below n)
all_below zero m h = tt
all_below (suc n) m h = push (below n) n (all_below n m (omega arith)) (omega arith)
  where
    push : (xs : List ℕ) (y : ℕ) → AllByRecursion (λ k. k < m) xs → y < m → AllByRecursion (λ k. k < m) (xs ++ y ∷ [])
    push [] y all here = (here, tt)
    push (x ∷ xs) y all here = (all.0, push xs y all.1 here)

filtered_more : (m x : ℕ) (xs : List ℕ) (b : Bool) → x < m → AllByRecursion (λ k. k < m) xs → AllByRecursion (λ k. k < m) (cond b (x ∷ xs) xs)
filtered_more m x xs true here all = (here, all)
filtered_more m x xs false here all = all

all_filtered : (test : ℕ → Bool) (m : ℕ) (xs : List ℕ) → AllByRecursion (λ k. k < m) xs → AllByRecursion (λ k. k < m) (filter test xs)
all_filtered test m [] all = tt
all_filtered test m (x ∷ xs) all = filtered_more m x (filter test xs) (test x) all.0 (all_filtered test m xs all.1)

pub due_known : (S T : System) (s : State) (due : List ℕ) → T ≡ S → due ≡ due_alarms S s → AllByRecursion (λ a. a < length T.alarms) due
due_known S T s due same is =
    subst (λ (v : List ℕ). AllByRecursion (λ a. a < length T.alarms) v) (sym is)
    (subst (λ (n : ℕ). AllByRecursion (λ a. a < n) (due_alarms S s)) (sym (ap (λ (U : System). length U.alarms) same))
    (all_filtered (is_due S s) (length S.alarms) (below (length S.alarms)) (all_below (length S.alarms) (length S.alarms) (omega arith))))

-- the clock goes on, and the due alarms act
pub phase_is : (S : System) (o : Kept) → alarm_phase_in S o ≡ alarms_act_in S (due_alarms S (bare o)) (advanced_in S o)
unfolding alarm_phase_in
phase_is S o = refl

pub clocked_is : (m : Processor) (tick : ℕ) → IsBefore tick m → 0 < tick → at_tick m tick ≡ clocked m
clocked_is m tick h later =
    let clock_is = h.clock in
    let now : tick ≡ m.objects.tick + 1 = omega (arith, clock_is, later) in
    ap (at_tick m) now

pub phase_acts : (m advanced new : Processor) (tick : ℕ) (due : List ℕ) (after : List TraceEvent) → IsBefore tick m → 0 < tick
    → due ≡ due_alarms (system_of m) (bare (picture (clocked m))) → Becomes advanced_in (clocked m) advanced
    → Does (λ S. alarms_act_in S due) advanced new [] after → Does alarm_phase_in (at_tick m tick) new [] after
phase_acts m advanced new tick due after h later due_is becomes does =
    let same : alarms_act_in (system_of advanced) due (picture advanced) ≡ alarm_phase_in (system_of m) (picture (clocked m)) =
    ap₂ (λ S (o : Kept). alarms_act_in S due o) becomes.system becomes.kept
    ∙ ap (λ v. alarms_act_in (system_of m) v (advanced_in (system_of m) (picture (clocked m)))) due_is
    ∙ sym (phase_is (system_of m) (picture (clocked m))) in
    subst (λ x. Does alarm_phase_in x new [] after) (sym (clocked_is m tick h later))
    (record {
      system = does.system ∙ becomes.system;
      kept = does.kept ∙ ap (λ (r : KeptRecorded). r.state) same;
      events = does.events ∙ ap (λ (r : KeptRecorded). r.events) same;
    })

-- in the first tick nothing is due
pub phase_first : (m : Processor) (tick : ℕ) (records : List TraceEvent) → IsBefore tick m → tick ≤ 0
    → Does alarm_phase_in (at_tick m tick) m records records
phase_first m tick records h first =
    let zero_is : tick ≡ 0 = omega (arith, first) in
    let clock_is = h.clock in
    let clock : m.objects.tick ≡ 0 = omega (arith, clock_is, zero_is) in
    let now : m.objects.tick ≡ tick = omega (arith, clock, zero_is) in
    subst (λ t. Does alarm_phase_in (at_tick m t) m records records) now
    (does_nothing alarm_phase_in m records (first_alarm_phase (system_of m) (picture m) clock h.alarms (h.ahead zero_is)))
