-- Lengths come to what was worked by hand.
use Rattle.std.proofs.Common.{refl}
use Rattle.law_analysis.specs.WorkedLengths.{WorkedLengths}

pub worked : WorkedLengths
worked = record {
  least = refl;
  fewer = refl;
  longer_way = refl;
  behind_end = refl;
  step_missing = refl;
  begins = refl;
  begins_with_fewer = refl;
  none_begins = refl;
  of_task = refl;
  circle = refl;
}
