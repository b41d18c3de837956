-- They come to those bytes, and back.
use Rattle.std.proofs.Common.{refl}
use Rattle.search_keys.specs.Bytes.{digits, number}
use Rattle.search_keys.specs.Counts.{count_bytes}
use Rattle.search_keys.specs.Taken.{taken_count, taken_digits, taken_number, taken_optional}
use Rattle.search_packed.specs.Packed.{bare, packed}
use Rattle.search_packed.specs.Unpacked.{unpacked}
use Rattle.search_packed.specs.Worked.{WorkedLabels}

pub worked : WorkedLabels
unfolding bare packed unpacked count_bytes number digits taken_count taken_number taken_digits taken_optional
worked = record {
  bytes = refl;
  back = refl;
  blocked = refl;
  blocked_back = refl;
  uneven = refl;
  uneven_back = refl;
  none = refl;
}
