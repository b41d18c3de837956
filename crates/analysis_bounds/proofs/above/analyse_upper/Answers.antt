use Rattle.std.proofs.Common.{IfOk, subst}
use Rattle.osek_base.specs.System.{System}
use Rattle.law_bounds.specs.Starting.{RoutinesStart}
use Rattle.law_upper.specs.FiguresAbove.{AreBoundsAbove, UpperHoldsEnd, UpperJobsEnd}
use Rattle.analysis_bounds.specs.Above.{BoundsAllAbove}
use Rattle.analysis_bounds.specs.Analysed.{BoundsAll}
use Rattle.analysis_bounds.proofs.AboveLemmas.{follow_in_all, hold_above}
use Rattle.analysis_bounds.proofs.above.analyse_upper.Goals as goal

module _ (c : goal.In-Ok) where
  abbrev Bounded : System → Type 0
  Bounded B =
      AreBoundsAbove B c.args.p c.args.mode c.args.rules.now c.in-Ok.analysis.cap
      c.in-Ok.analysis.peaks

  -- what is told of the part holds in all
  held : BoundsAllAbove c.args.system.now c.args.p c.args.mode c.args.rules.now c.in-Ok.analysis
  held =
      hold_above c.bounds_of_the_part_hold.ensures c.args.system.now c.in_ok-part.part c.args.p
      c.args.mode c.args.rules.now c.in-Ok.analysis c.shows_proper.ensures c.requires
      c.in_ok-part.ensures.made
      (subst
      (λ found. IfOk found (BoundsAll c.in_ok-part.part c.args.mode c.args.rules.now)) c.in-Ok.is
      c.in_ok-analysis.ensures)

pub returns-in-Ok-clause-bounds : goal.returns-in-Ok-clause-bounds
returns-in-Ok-clause-bounds c = held c

pub returns-in-Ok-clause-ends : goal.returns-in-Ok-clause-ends
returns-in-Ok-clause-ends c =
    follow_in_all c.args.system.now c.args.p (Bounded c)
    (λ B.
    UpperJobsEnd B c.args.p c.args.mode c.args.rules.now c.in-Ok.analysis.cap
    c.in-Ok.analysis.peaks)
    (λ B proper are.
    c.bounded_upper_jobs_end.ensures B c.args.p c.args.mode c.args.rules.now
    c.in-Ok.analysis.cap c.in-Ok.analysis.peaks proper are)
    c.shows_proper.ensures (held c)

pub returns-in-Ok-clause-starts : goal.returns-in-Ok-clause-starts
returns-in-Ok-clause-starts c =
    follow_in_all c.args.system.now c.args.p (Bounded c)
    (λ B.
    RoutinesStart B c.args.mode c.args.rules.now c.in-Ok.analysis.cap c.in-Ok.analysis.peaks)
    (λ B proper are.
    c.bounded_interrupts_start_above.ensures B c.args.p c.args.mode c.args.rules.now
    c.in-Ok.analysis.cap c.in-Ok.analysis.peaks proper are)
    c.shows_proper.ensures (held c)

pub returns-in-Ok-clause-releases : goal.returns-in-Ok-clause-releases
returns-in-Ok-clause-releases c =
    follow_in_all c.args.system.now c.args.p (Bounded c)
    (λ B.
    UpperHoldsEnd B c.args.p c.args.mode c.args.rules.now c.in-Ok.analysis.cap
    c.in-Ok.analysis.peaks)
    (λ B proper are.
    c.bounded_upper_holds_end.ensures B c.args.p c.args.mode c.args.rules.now
    c.in-Ok.analysis.cap c.in-Ok.analysis.peaks proper are)
    c.shows_proper.ensures (held c)
