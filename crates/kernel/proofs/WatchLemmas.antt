-- Alarms act in turn, and the stamps of jobs follow.
use Rattle.std.proofs.Common.{◌≡◌, ℕ, ◌+◌, ◌<◌, ◌≤◌, Bool, true, List, [], ◌∷◌, ◌++◌, take, get_or, length, refl, sym, ◌∙◌, ap, ap₂, subst, arith}
use Rattle.std.proofs.lemmas.List.{take_more}
use Rattle.osek_base.specs.declared.trace_event.TraceEvent.{TraceEvent}
use Rattle.osek_base.specs.System.{System}
use Rattle.law_kept.specs.Kept.{Kept}
use Rattle.osek_base.specs.Alarm.{due_alarms}
use Rattle.law_kept.specs.KeptService.{bare}
use Rattle.law_kept.specs.Standing.{runner_waits}
use Rattle.law_kept.specs.KeptTick.{alarm_acts_in, alarms_act_in, advanced_in}
use Rattle.law_blockers.specs.Restamping.{StampLists, alarm_restamped, alarm_phase_restamped, alarms_restamped}
use Rattle.kernel.specs.declared.stamping.Look.{Look}
use Rattle.kernel.specs.Does.{Becomes, Does}
use Rattle.kernel.specs.Stamping.{AreCounted, acts_on, restamped_between, seen}
use Rattle.kernel.specs.Processor.{IsBefore, Processor, at_tick, clocked, picture, system_of}
use Rattle.kernel.specs.Watches.{Blocking, MayAct, Watched, Watches, acting, all_acting, phase_of_alarms, watched_at}
use Rattle.kernel.proofs.ActLemmas.{act_ready, acting_more, clocked_is, phase_acts, phase_first}
use Rattle.kernel.proofs.AlarmLemmas.{nothing_due}
use Rattle.kernel.proofs.StampingLemmas.{acted_counted}

abbrev pub watched_of : Processor → Blocking → Watched
watched_of p b = record { processor = p; blocking = b }

-- what is seen before and after an alarm's action is the definitions' look
pub acts_watched : (counted : Bool) (a task tick : ℕ) (old : Watched) (new : Processor) (before after : Look) (b : Blocking) (first second : List TraceEvent)
    → Does (λ S. alarm_acts_in S a) old.processor new first second
    → task ≡ acts_on (system_of old.processor) a → before ≡ seen (picture old.processor) task → after ≡ seen (picture new) task
    → (counted ≡ true → b.stamps ≡ restamped_between tick before after old.blocking.stamps) → b.told ≡ old.blocking.told
    → Watches counted (acting a) tick old (watched_of new b) first second
acts_watched counted a task tick old new before after b first second does task_is before_is after_is restamps told = record {
  does = does;
  stamps = λ on.
      restamps on
      ∙ ap₂ (λ x n. restamped_between tick x n old.blocking.stamps) (before_is ∙ ap (seen (picture old.processor)) task_is)
      (after_is ∙ ap₂ (λ k t. seen k t) does.kept task_is);
  told = told;
}

-- another may act behind it
pub may_act_more : (counted : Bool) (a tick : ℕ) (old new : Watched) (first second : List TraceEvent) → Watches counted (acting a) tick old new first second
    → (counted ≡ true → acts_on (system_of old.processor) a < length old.blocking.stamps) → MayAct counted old → MayAct counted new
may_act_more counted a tick old new first second w inside may = record {
  ready = act_ready a old.processor new.processor first second w.does may.ready;
  each = λ on.
      subst (λ xs. AreCounted xs (picture new.processor)) (sym (w.stamps on))
      (acted_counted (system_of old.processor) tick a (picture old.processor) (picture new.processor) old.blocking.stamps (may.each on) (inside on) w.does.kept);
}

-- one more at the end
restamped_more : (S : System) (u : ℕ) (xs : List ℕ) (a : ℕ) (o : Kept) (ys : StampLists)
    → alarm_restamped S u a (alarms_act_in S xs o).state (alarms_restamped S u xs o ys) ≡ alarms_restamped S u (xs ++ a ∷ []) o ys
restamped_more S u [] a o ys = refl
restamped_more S u (x ∷ xs) a o ys = restamped_more S u xs a (alarm_acts_in S x o).state (alarm_restamped S u x o ys)

pub watched_more : (counted : Bool) (due : List ℕ) (i tick : ℕ) (a b c : Watched) (first second : List TraceEvent)
    → Watches counted (all_acting (take i due)) tick a b [] first → i < length due
    → Watches counted (acting (get_or due i 0)) tick b c first second
    → Watches counted (all_acting (take (i + 1) due)) tick a c [] second
watched_more counted due i tick a b c first second some low one = record {
  does = acting_more due i a.processor b.processor c.processor first second some.does low one.does;
  stamps = λ on.
      let S : System = system_of a.processor in
      one.stamps on
      ∙ ap₂ (λ T xs. alarm_restamped T tick (get_or due i 0) (picture b.processor) xs) some.does.system (some.stamps on)
      ∙ ap (λ k. alarm_restamped S tick (get_or due i 0) k (alarms_restamped S tick (take i due) (picture a.processor) a.blocking.stamps)) some.does.kept
      ∙ restamped_more S tick (take i due) (get_or due i 0) (picture a.processor) a.blocking.stamps
      ∙ ap (λ v. alarms_restamped S tick v (picture a.processor) a.blocking.stamps) (sym (take_more due i 0 low));
  told = one.told ∙ some.told;
}

-- ---- the alarm phase

pub phase_watched : (counted : Bool) (w : Watched) (advanced : Processor) (new : Watched) (tick : ℕ) (due : List ℕ) (before after : List TraceEvent)
    → IsBefore tick w.processor → 0 < tick → before ≡ [] → due ≡ due_alarms (system_of w.processor) (bare (picture (clocked w.processor)))
    → Becomes advanced_in (clocked w.processor) advanced
    → Watches counted (all_acting due) tick (watched_of advanced w.blocking) new [] after
    → Watches counted phase_of_alarms tick (watched_at w tick) new before after
phase_watched counted w advanced new tick due before after h later none due_is becomes acted = record {
  does = subst (λ v. Does phase_of_alarms.does (at_tick w.processor tick) new.processor v after) (sym none)
      (phase_acts w.processor advanced new.processor tick due after h later due_is becomes acted.does);
  stamps = λ on.
      acted.stamps on
      ∙ ap₂ (λ S (o : Kept). alarms_restamped S tick due o w.blocking.stamps) becomes.system becomes.kept
      ∙ ap (λ v. alarms_restamped (system_of w.processor) tick v (advanced_in (system_of w.processor) (picture (clocked w.processor))) w.blocking.stamps) due_is
      ∙ sym (ap (λ (m : Processor). alarm_phase_restamped (system_of m) tick (picture m) w.blocking.stamps) (clocked_is w.processor tick h later));
  told = acted.told;
}

pub first_watched : (counted : Bool) (w : Watched) (tick : ℕ) (records : List TraceEvent) → IsBefore tick w.processor → tick ≤ 0
    → Watches counted phase_of_alarms tick (watched_at w tick) w records records
first_watched counted w tick records h first =
    let zero_is : tick ≡ 0 = omega (arith, first) in
    record {
      does = phase_first w.processor tick records h first;
      stamps = λ on.
          sym (ap (λ v. alarms_restamped (system_of w.processor) tick v (advanced_in (system_of w.processor) (picture (at_tick w.processor tick))) w.blocking.stamps)
          (nothing_due (system_of w.processor) (bare (picture (at_tick w.processor tick))) zero_is h.alarms (h.ahead zero_is)));
      told = refl;
    }

-- an alarm may act where the clock has gone on
pub may_act_advanced : (counted : Bool) (w : Watched) (advanced : Processor) → Becomes advanced_in (clocked w.processor) advanced → MayAct counted w
    → MayAct counted (watched_of advanced w.blocking)
may_act_advanced counted w advanced becomes may = record {
  ready = ap runner_waits becomes.kept ∙ may.ready;
  each = λ on t. may.each on t ∙ sym (ap (λ (o : Kept). (o.slots t).count) becomes.kept);
}
