use Rattle.std.proofs.Common.{ℕ, ◌≡◌, subst}
use Rattle.law_windows.specs.Expiring.{most_expiries}
use Rattle.analysis_bounds.specs.declared.pacing.Pace.{Pace}
use Rattle.analysis_bounds.specs.Levels.{numbered}
use Rattle.analysis_bounds.specs.Pacing.{most_at}
use Rattle.analysis_bounds.proofs.NumberLemmas.{grown}
use Rattle.analysis_bounds.proofs.pacing.paces_of.Goals as goal

pub loop-number-preserved : goal.loop-number-preserved
loop-number-preserved c =
    let expires =
    λ (a : ℕ) (pace : Pace). (count : ℕ) → most_at pace count
    ≡ most_expiries c.args.system.now c.args.mode (numbered c.args.least.now) count a in
    grown expires c.loop-number.paces.items c.push.new.self.items Pace.Never c.pace_of.result
    c.loop-number.number c.in_ok-push.ensures.items c.loop-number.invariant.0
    c.loop-number.invariant.1
    (subst (λ a. expires a c.pace_of.result) c.new.ensures c.pace_of.ensures)
