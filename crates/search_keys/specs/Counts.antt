-- The bytes of a count.
use Rattle.std.specs.Prelude.{ℕ, List}
use Rattle.search_keys.specs.Bytes.{digits}

-- in base 128, as a number; of a count of 64 bits that is all of it
unfoldable pub count_bytes : ℕ → List ℕ
count_bytes n = digits 8 n
