use Rattle.std.proofs.Common.{◌≤◌, List, length, sym, subst, arith}
use Rattle.std.proofs.lemmas.Bool.{leb-true}
use Rattle.osek_base.specs.declared.arrivals.Arrival.{Arrival}
use Rattle.osek_base.specs.declared.limits.TheConstants.{MAX_ARRIVALS}
use Rattle.osek_base.proofs.PlaceLemmas.{and_split}
use Rattle.seen_runs.proofs.told_run.ToldRun.boot.Goals as goal

pub invariant_of-result : goal.invariant_of-result
invariant_of-result g c =
    let booted = c.in_ok-kernel.ensures.booted in
    record {
      system = booted.0;
      few =
          subst (λ (xs : List Arrival). length xs ≤ MAX_ARRIVALS) (sym booted.1)
          (leb-true _ _ (and_split _ _ c.list-few.ensures.kept).0);
      told = λ later. absurd (omega (arith, later, booted.2));
    }
