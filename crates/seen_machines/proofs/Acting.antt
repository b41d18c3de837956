-- The alarms that are refused exist.
use Rattle.std.proofs.Common.{ℕ, ◌<◌, List, [], ◌∷◌, length}
use Rattle.std.specs.List.{AllByRecursion}
use Rattle.osek_base.specs.declared.status.Status.{Status}
use Rattle.osek_base.specs.Alarm.{due_alarms, is_due}
use Rattle.osek_base.specs.Lists.{below}
use Rattle.osek_base.specs.System.{System}
use Rattle.law_runs.proofs.Known.{all_below}
use Rattle.law_runs.proofs.Lists.{all_append, all_kept}
use Rattle.law_kept.specs.Kept.{Kept}
use Rattle.law_kept.specs.KeptService.{bare}
use Rattle.law_kept.specs.KeptTick.{advanced_in}
use Rattle.seen_ticks.specs.Told.{acting_in, if_refused, refused_of_in}
use Rattle.kernel.specs.Told.{acted_in}

module _ (S : System) where
  abbrev Exists : ℕ → Type 0
  Exists a = a < length S.alarms

  one_known : (a : ℕ) (status : Status) → Exists a → AllByRecursion Exists (if_refused a status)
  one_known a Status.Ok h = tt
  one_known a _ h = (h, tt)

  known_of : (due : List ℕ) (o : Kept) → AllByRecursion Exists due
      → AllByRecursion Exists (refused_of_in S due o)
  known_of [] o all = tt
  known_of (a ∷ due) o all =
      all_append Exists (if_refused a (acting_in S a o).status)
      (refused_of_in S due (acting_in S a o).state)
      (one_known a (acting_in S a o).status all.0) (known_of due (acting_in S a o).state all.1)

  pub refused_known : (o : Kept) → AllByRecursion Exists (acted_in S o).refused
  refused_known o =
      known_of (due_alarms S (bare o)) (advanced_in S o)
      (all_kept Exists (is_due S (bare o)) (below (length S.alarms)) (all_below (length S.alarms)))
