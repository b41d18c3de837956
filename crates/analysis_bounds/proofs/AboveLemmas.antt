-- What an analysis of the upper part by itself tells holds above, and there jobs end and release
-- what they hold, and routines start.
use Rattle.std.proofs.Common.{ℕ, ◌≡◌, List, subst}
use Rattle.osek_base.specs.System.{System}
use Rattle.osek_base.specs.Proper.{IsProper}
use Rattle.osek_base.specs.Separable.{Separable}
use Rattle.osek_base.specs.Agree.{upper_part}
use Rattle.arrival_rules.specs.declared.rule.ArrivalRule.{ArrivalRule}
use Rattle.law_bounds.specs.Bounds.{AreBounds}
use Rattle.law_upper.specs.FiguresAbove.{BoundsOfThePartHold}
use Rattle.analysis_bounds.specs.declared.analysis.Analysis.{Analysis}
use Rattle.analysis_bounds.specs.Above.{BoundsAllAbove, HoldsInAll}
use Rattle.analysis_bounds.specs.Analysed.{BoundsAll}

pub hold_above : BoundsOfThePartHold
    → (S part : System) (p mode : ℕ) (rules : List ArrivalRule) (a : Analysis) → IsProper S → Separable S p → part ≡ upper_part S p
    → BoundsAll part mode rules a → BoundsAllAbove S p mode rules a
hold_above hold S part p mode rules a proper separable same are =
    let bounds = subst (λ (T : System). AreBounds T mode rules a.cap a.peaks) same are in
    record {
      whole = (hold.whole S p proper separable).ever mode rules a.cap a.peaks bounds;
      others = λ B one. (hold.others S B p one).ever mode rules a.cap a.peaks bounds;
    }

-- what follows in each proper system follows in all of them
pub follow_in_all : (S : System) (p : ℕ) (Holds Follows : System → Type 0)
    → ((B : System) → IsProper B → Holds B → Follows B) → IsProper S
    → HoldsInAll S p Holds → HoldsInAll S p Follows
follow_in_all S p Holds Follows follow proper all = record {
  whole = follow S proper all.whole;
  others = λ B one. follow B one.proper_there (all.others B one);
}
