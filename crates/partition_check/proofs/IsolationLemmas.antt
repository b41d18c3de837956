-- Isolation of two systems from what holds of one.
use Rattle.std.proofs.Common.{◌≡◌, ℕ, suc, ◌<◌, List, [], ◌∷◌, map, length, refl, sym, ◌∙◌, ap, subst}
use Rattle.osek_base.specs.System.{System, Alarm}
use Rattle.osek_base.specs.Agree.{Agree, uncounted, recounted, upper_core, upper_part}
use Rattle.osek_base.specs.Proper.{IsProper}
use Rattle.osek_base.specs.Separable.{Separable}
use Rattle.osek_base.specs.Trace.{run}
use Rattle.osek_base.specs.View.{view}
use Rattle.osek_base.specs.Laws.{IsIsolated, HasTheViewOfItsCore}

-- the number of an alarm's counter means nothing to those that get a new one
recounted-uncounted : (i : ℕ) (all : List Alarm) → recounted i (map uncounted all) ≡ recounted i all
recounted-uncounted i [] = refl
recounted-uncounted i (a ∷ all) =
    let first : Alarm = record a { counter = i } in ap (λ rest. first ∷ rest) (recounted-uncounted (suc i) all)

-- systems that agree have one upper core
pub Agree-core : (A B : System) (p : ℕ) → Agree A B p → upper_core A p ≡ upper_core B p
Agree-core A B p agree =
    let alarms : recounted 0 (upper_part A p).alarms ≡ recounted 0 (upper_part B p).alarms =
    sym (recounted-uncounted 0 (upper_part A p).alarms) ∙ ap (recounted 0) agree.alarms ∙ recounted-uncounted 0 (upper_part B p).alarms in
    λ i. record {
      names = agree.names i;
      tasks = agree.tasks i;
      routines = agree.routines i;
      resources = agree.resources i;
      events = [];
      counters = agree.counters i;
      alarms = alarms i;
      hooks = agree.hooks i;
      use_res_scheduler = agree.use_res_scheduler i;
    }

-- isolation follows, for two systems, from the law of each by itself
pub isolated_by_parts : ((S : System) (p : ℕ) → IsProper S → Separable S p → HasTheViewOfItsCore S p)
    → (S : System) (p : ℕ) → IsProper S → Separable S p → IsIsolated S p
isolated_by_parts law S p proper separable B proper_B separable_B agree mode arrivals n fits =
    law S p proper separable mode arrivals n fits
    ∙ ap (λ C. view C p (run C mode arrivals n)) (Agree-core S B p agree)
    ∙ sym (law B p proper_B separable_B mode arrivals n (subst (λ names. mode < length names.modes) agree.names fits))
