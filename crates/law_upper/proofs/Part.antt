-- Bounds that are found in the upper part by itself hold in every system with that part.
use Rattle.std.proofs.Common.{◌≡◌, ℕ, ◌<◌, List, length, refl, sym, ◌∙◌, ap, subst, arith}
use Rattle.std.specs.Prelude.{IsTrue}
use Rattle.std.proofs.lemmas.List.{length-map}
use Rattle.osek_base.specs.declared.arrivals.Arrival.{Arrival}
use Rattle.osek_base.specs.System.{Alarm, System, alarm}
use Rattle.osek_base.specs.Agree.{Agree, is_upper_declared, resource, uncounted, upper_alarms, upper_part, upper_resources}
use Rattle.osek_base.specs.declared.task.Property.{Property}
use Rattle.osek_base.specs.Trace.{run}
use Rattle.osek_base.specs.Upper.{is_upper_alarm}
use Rattle.partition_check.proofs.PartAgrees.{all_upper}
use Rattle.partition_check.proofs.Picked.{all_rank}
use Rattle.partition_check.proofs.Ranks.{rank_less}
use Rattle.law_upper.specs.Above.{AreOneAbove, IsTheSameAlarm, IsTheSameResource}
use Rattle.law_upper.proofs.Answered.{alarms_act_the_same}
use Rattle.law_upper.proofs.Refused.{executions_are_the_same}
use Rattle.law_upper.proofs.States.{states_are_seen_the_same}
use Rattle.law_upper.proofs.Sides.{of_the_part, routine_count, upper_there, with_part}
use Rattle.law_upper.specs.FiguresAbove.{BoundsHoldIn, BoundsOfThePartHold, alarm_in_part, resource_in_part}
use Rattle.law_upper.specs.ShownAbove.{TicksShowTheSame, UpperPartsShowTheSame}
use Rattle.law_upper.proofs.Ticks.{tick_shows_the_same}
use Rattle.law_upper.proofs.Within.{AreNumbered, bounds_there, bounds_there_up_to}

-- ---- what ticks show

pub ticks_show : (S B : System) (p : ℕ) → AreOneAbove S B p → TicksShowTheSame S B p
ticks_show S B p pair mode arrivals n going =
    tick_shows_the_same S B p pair (states_are_seen_the_same.states.others S B p pair)
    (executions_are_the_same.others S B p pair) (alarms_act_the_same.others S B p pair)
    (upper_there S B p pair) mode arrivals n going

pub upper_parts_show_the_same : UpperPartsShowTheSame
upper_parts_show_the_same = of_the_part TicksShowTheSame ticks_show

-- ---- systems that agree agree with each other's part

pub itself : (S : System) (p : ℕ) → Agree S S p
itself S p = record {
  names = refl;
  tasks = refl;
  routines = refl;
  resources = refl;
  ceilings = refl;
  alarms = refl;
  counters = refl;
  hooks = refl;
  use_res_scheduler = refl;
}

pub over_there : (A B C : System) (p : ℕ) → Agree A B p → Agree A C p → Agree B C p
over_there A B C p h k = record {
  names = sym h.names ∙ k.names;
  tasks = sym h.tasks ∙ k.tasks;
  routines = sym h.routines ∙ k.routines;
  resources = sym h.resources ∙ k.resources;
  ceilings = sym h.ceilings ∙ k.ceilings;
  alarms = sym h.alarms ∙ k.alarms;
  counters = sym h.counters ∙ k.counters;
  hooks = sym h.hooks ∙ k.hooks;
  use_res_scheduler = sym h.use_res_scheduler ∙ k.use_res_scheduler;
}

module _ (S B : System) (p : ℕ) (pair : AreOneAbove S B p) where
  abbrev part : System
  part = upper_part S p

  with_its_part : AreOneAbove S part p
  with_its_part = with_part S p pair.proper pair.separable

  with_that_part : AreOneAbove B part p
  with_that_part = record {
    proper = pair.proper_there;
    separable = pair.separable_there;
    proper_there = with_its_part.proper_there;
    separable_there = with_its_part.separable_there;
    agree = over_there S B part p pair.agree with_its_part.agree;
  }

  -- ---- numbers in the part

  resources_counted : length part.resources ≡ resource_in_part B p (length B.resources)
  resources_counted =
      ap (λ (rs : List Property). length rs) pair.agree.resources
      ∙ length-map (upper_resources B p) (resource B)

  alarms_counted : length part.alarms ≡ alarm_in_part B p (length B.alarms)
  alarms_counted =
      sym (length-map part.alarms uncounted)
      ∙ ap (λ (all : List Alarm). length all) pair.agree.alarms
      ∙ length-map (upper_part B p).alarms uncounted
      ∙ length-map (upper_alarms B p) (alarm B)

  same_resource : (r : ℕ) → r < length B.resources → IsTrue (is_upper_declared B p r)
      → IsTheSameResource B part p r (resource_in_part B p r)
  same_resource r inside high =
      let whole = all_upper S p pair.proper pair.separable in
      let new : ℕ = resource_in_part B p r in
      let there : new < length part.resources =
      subst (λ n. new < n) (sym resources_counted)
      (rank_less (is_upper_declared B p) r (length B.resources) inside high) in
      record {
        known = inside;
        upper = high;
        known_there = there;
        upper_there = whole.resources new there;
        number =
            sym (all_rank (is_upper_declared part p) (length part.resources) new whole.resources
            (omega (arith, there)));
      }

  same_alarm : (a : ℕ) → a < length B.alarms → IsTrue (is_upper_alarm B p a)
      → IsTheSameAlarm B part p a (alarm_in_part B p a)
  same_alarm a inside high =
      let whole = all_upper S p pair.proper pair.separable in
      let new : ℕ = alarm_in_part B p a in
      let there : new < length part.alarms =
      subst (λ n. new < n) (sym alarms_counted)
      (rank_less (is_upper_alarm B p) a (length B.alarms) inside high) in
      record {
        known = inside;
        upper = high;
        known_there = there;
        upper_there = whole.alarms new there;
        number =
            sym (all_rank (is_upper_alarm part p) (length part.alarms) new whole.alarms
            (omega (arith, there)));
      }

  pub numbered : AreNumbered B part p
  numbered = record {
    tasks = upper_there B part p with_that_part;
    routines = routine_count B part p with_that_part;
    resources = same_resource;
    held = sym resources_counted;
    scheduler = with_that_part.agree.use_res_scheduler;
    alarms = same_alarm;
  }

  over_alike : (mode : ℕ) (arrivals : List Arrival) (n : ℕ)
      → (run B mode arrivals n).state.over ≡ (run part mode arrivals n).state.over
  over_alike mode arrivals n =
      ((states_are_seen_the_same.states.others B part p with_that_part).between mode arrivals
      n).over

  hold_in : BoundsHoldIn S B p
  hold_in = record {
    ever = bounds_there B part p numbered (ticks_show B part p with_that_part) over_alike;
    up_to = bounds_there_up_to B part p numbered (ticks_show B part p with_that_part) over_alike;
  }

-- ---- the law

pub bounds_of_the_part_hold : BoundsOfThePartHold
bounds_of_the_part_hold = record {
  whole = λ S p proper separable.
      hold_in S S p
      (record {
        proper = proper;
        separable = separable;
        proper_there = proper;
        separable_there = separable;
        agree = itself S p;
      });
  others = hold_in;
}
