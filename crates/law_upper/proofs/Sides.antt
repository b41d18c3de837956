-- The runs of two systems that agree: their upper parts are one state, tick by tick.
use Rattle.std.proofs.Common.{◌≡◌, ℕ, ◌<◌, List, length, refl, sym, ◌∙◌, ap, subst}
use Rattle.std.proofs.lemmas.List.{length-map}
use Rattle.osek_base.specs.declared.arrivals.Arrival.{Arrival}
use Rattle.osek_base.specs.System.{System, Routine, Task}
use Rattle.osek_base.specs.State.{State}
use Rattle.osek_base.specs.Trace.{run}
use Rattle.osek_base.specs.Agree.{upper_core, upper_part, upper_routine}
use Rattle.osek_base.specs.Proper.{IsProper}
use Rattle.osek_base.specs.Separable.{Separable}
use Rattle.partition_check.proofs.UpperState.{up}
use Rattle.partition_check.proofs.RunLemmas.{runs_related}
use Rattle.partition_check.proofs.Core.{counterpart, low}
use Rattle.partition_check.proofs.Dispatch.{lines_none}
use Rattle.partition_check.proofs.Boot.{boot_alike}
use Rattle.partition_check.proofs.TickUp.{tick_alike, tick_sight}
use Rattle.partition_check.proofs.Shared.{IsCounterpart, IsLow, IsLayered, SameLines}
use Rattle.partition_check.proofs.PartAgrees.{has_upper_tasks, part_proper, part_agrees, part_separable}
use Rattle.law_upper.specs.Above.{IsUpperTask, AreOneAbove, IsThatOfTheUpperPart}

-- a state of a system beside one of its core
pub record IsBeside (S : System) (p : ℕ) (s c : State) : Type 0 where
  pub layered : IsLayered S p s
  pub state : c ≡ up S p s

module _ (S : System) (p : ℕ) (proper : IsProper S) (separable : Separable S p) where
  pub both : IsCounterpart S p
  both = counterpart S p proper separable

  pub below : IsLow S p
  below = low S p proper separable

  pub run_beside : (mode : ℕ) (arrivals : List Arrival) (n : ℕ)
      → IsBeside S p (run S mode arrivals n).state (run (upper_core S p) mode arrivals n).state
  run_beside mode arrivals n =
      let booted = boot_alike S p both below mode in
      let related =
      runs_related S (upper_core S p) p (IsLayered S p) (up S p) (λ s. refl) (λ s. refl)
      (λ arrived s layered. (tick_alike S p both below proper separable arrived s layered).layered)
      (λ arrived s layered. sym
      (tick_alike S p both below proper separable arrived s layered).state)
      (SameLines S p) (lines_none S p) (tick_sight S p both below proper separable)
      mode arrivals (booted.layered, sym booted.state, refl, booted.lines) n in
      record { layered = related.0; state = related.1 }

-- what is one state of the core is one state from above
pub one_state : (S B : System) (p : ℕ) (s b c d : State) → IsBeside S p s c → IsBeside B p b d
    → c ≡ d → up S p s ≡ up B p b
one_state S B p s b c d mine theirs same = sym mine.state ∙ same ∙ theirs.state

-- ---- systems that agree

-- a system and its upper part by itself are two of them
pub with_part : (S : System) (p : ℕ) → IsProper S → Separable S p
    → AreOneAbove S (upper_part S p) p
with_part S p proper separable =
    record {
      proper = proper;
      separable = separable;
      proper_there = part_proper S p proper separable;
      separable_there = part_separable S p proper separable;
      agree = part_agrees S p proper separable;
    }

-- what holds of them holds of a system and its upper part
pub of_the_part : (IsTheSame : System → System → ℕ → Type 0)
    → ((S B : System) (p : ℕ) → AreOneAbove S B p → IsTheSame S B p)
    → IsThatOfTheUpperPart IsTheSame
of_the_part IsTheSame others =
    record {
      others = others;
      part = λ S p proper separable. others S (upper_part S p) p (with_part S p proper separable);
    }

module _ (S B : System) (p : ℕ) (pair : AreOneAbove S B p) where
  -- the same tasks are upper
  pub upper_there : (t : ℕ) → IsUpperTask S p t → IsUpperTask B p t
  upper_there t h =
      let inside : t < length (upper_part S p).tasks =
      ((has_upper_tasks S p pair.proper).exactly t).1 (h.known, h.upper) in
      let there =
      ((has_upper_tasks B p pair.proper_there).exactly t).0
      (subst (λ (ts : List Task). t < length ts) pair.agree.tasks inside) in
      record { known = there.0; upper = there.1 }

  pub upper_back : (t : ℕ) → IsUpperTask B p t → IsUpperTask S p t
  upper_back t h =
      let inside : t < length (upper_part B p).tasks =
      ((has_upper_tasks B p pair.proper_there).exactly t).1 (h.known, h.upper) in
      let there =
      ((has_upper_tasks S p pair.proper).exactly t).0
      (subst (λ (ts : List Task). t < length ts) (sym pair.agree.tasks) inside) in
      record { known = there.0; upper = there.1 }

  -- and there are as many routines
  pub routine_count : length S.routines ≡ length B.routines
  routine_count =
      sym (length-map S.routines (upper_routine S p))
      ∙ ap (λ (all : List Routine). length all) pair.agree.routines
      ∙ length-map B.routines (upper_routine B p)
