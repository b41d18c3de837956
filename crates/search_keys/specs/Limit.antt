-- How great a number may be for its digits to be bytes.
use Rattle.std.specs.Prelude.{ℕ, zero, suc, ◌*◌}

-- what a number is below that has at most k digits before its last one, which is a byte
unfoldable pub limit : ℕ → ℕ
limit zero = 256
limit (suc k) = 128 * limit k
