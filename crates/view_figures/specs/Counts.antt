-- Counts. A count that would pass 4,294,967,295 stays there; a run of 1,000,000 ticks is far below.
use Rattle.std.specs.Prelude.{ℕ, ◌-◌, ◌^◌, min}

abbrev pub capped : ℕ → ℕ
capped n = min n (2 ^ 32 - 1)

-- a sum of such counts
abbrev pub capped_sum : ℕ → ℕ
capped_sum n = min n (2 ^ 64 - 1)
