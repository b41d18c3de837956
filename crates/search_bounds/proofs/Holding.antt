-- Bounds of the upper part by itself hold above, and there jobs end and release what they hold, and
-- routines start.
use Rattle.std.proofs.Common.{ℕ, ◌≡◌, List, subst}
use Rattle.osek_base.specs.System.{System}
use Rattle.osek_base.specs.Proper.{IsProper}
use Rattle.osek_base.specs.Separable.{Separable}
use Rattle.osek_base.specs.Agree.{upper_part}
use Rattle.arrival_rules.specs.declared.rule.ArrivalRule.{ArrivalRule}
use Rattle.search.specs.declared.outcome.Outcome.{Outcome}
use Rattle.search.specs.declared.outcome.Outcome.TheVariants.{Decided, Undecided}
use Rattle.search_peaks.specs.Peaks.{Peaks}
use Rattle.law_bounds.specs.Bounds.{AreBounds, AreBoundsUpTo}
use Rattle.law_upper.specs.FiguresAbove.{BoundedUpperHoldsEnd, BoundedUpperJobsEnd, BoundsOfThePartHold}
use Rattle.law_upper.specs.StartingAbove.{BoundedInterruptsStartAbove}
use Rattle.search_nodes.specs.Found.{Says}
use Rattle.search_bounds.specs.Above.{BoundAll, BoundAllUpTo, EndAll, ReleaseAll, StartAll}

pub hold_above : BoundsOfThePartHold → (S part : System) (p mode : ℕ) (rules : List ArrivalRule) (cap : ℕ) (peaks : Peaks)
    (outcome : Outcome) → IsProper S → Separable S p → part ≡ upper_part S p
    → Says outcome (AreBounds part mode rules cap peaks) (AreBoundsUpTo part mode rules cap peaks)
    → Says outcome (BoundAll S p mode rules cap peaks) (BoundAllUpTo S p mode rules cap peaks)
hold_above hold S part p mode rules cap peaks (Decided progress) proper separable same are =
    let bounds = subst (λ (T : System). AreBounds T mode rules cap peaks) same are in
    record {
      whole = (hold.whole S p proper separable).ever mode rules cap peaks bounds;
      others = λ B one. (hold.others S B p one).ever mode rules cap peaks bounds;
    }
hold_above hold S part p mode rules cap peaks (Undecided obstacle progress) proper separable same are =
    let count = progress.levels in
    let bounds = subst (λ (T : System). AreBoundsUpTo T mode rules cap peaks count) same are in
    record {
      whole = (hold.whole S p proper separable).up_to mode rules cap peaks count bounds;
      others = λ B one. (hold.others S B p one).up_to mode rules cap peaks count bounds;
    }

pub ends_above : BoundedUpperJobsEnd → (S : System) (p mode : ℕ) (rules : List ArrivalRule) (cap : ℕ) (peaks : Peaks)
    (outcome : Outcome) → IsProper S
    → Says outcome (BoundAll S p mode rules cap peaks) (BoundAllUpTo S p mode rules cap peaks)
    → Says outcome (EndAll S p mode rules cap peaks) (λ levels. Unit {0})
ends_above law S p mode rules cap peaks (Decided progress) proper all = record {
  whole = law S p mode rules cap peaks proper all.whole;
  others = λ B one. law B p mode rules cap peaks one.proper_there (all.others B one);
}
ends_above law S p mode rules cap peaks (Undecided obstacle progress) proper all = tt

pub starts_above : BoundedInterruptsStartAbove → (S : System) (p mode : ℕ) (rules : List ArrivalRule) (cap : ℕ) (peaks : Peaks)
    (outcome : Outcome) → IsProper S
    → Says outcome (BoundAll S p mode rules cap peaks) (BoundAllUpTo S p mode rules cap peaks)
    → Says outcome (StartAll S p mode rules cap peaks) (λ levels. Unit {0})
starts_above law S p mode rules cap peaks (Decided progress) proper all = record {
  whole = law S p mode rules cap peaks proper all.whole;
  others = λ B one. law B p mode rules cap peaks one.proper_there (all.others B one);
}
starts_above law S p mode rules cap peaks (Undecided obstacle progress) proper all = tt

pub releases_above : BoundedUpperHoldsEnd → (S : System) (p mode : ℕ) (rules : List ArrivalRule) (cap : ℕ) (peaks : Peaks)
    (outcome : Outcome) → IsProper S
    → Says outcome (BoundAll S p mode rules cap peaks) (BoundAllUpTo S p mode rules cap peaks)
    → Says outcome (ReleaseAll S p mode rules cap peaks) (λ levels. Unit {0})
releases_above law S p mode rules cap peaks (Decided progress) proper all = record {
  whole = law S p mode rules cap peaks proper all.whole;
  others = λ B one. law B p mode rules cap peaks one.proper_there (all.others B one);
}
releases_above law S p mode rules cap peaks (Undecided obstacle progress) proper all = tt
