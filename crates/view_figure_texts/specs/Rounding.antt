-- Shares, as figures show them.
use Rattle.std.specs.Prelude.{ℕ, ◌+◌, ◌*◌, ◌/◌, ◌==◌, cond, Option, Some, None}
use Rattle.view_figures.specs.Counts.{capped_sum}

-- a quotient in tenths, rounded half up; nothing of nothing
abbrev pub rounded : ℕ → ℕ → Option ℕ
rounded part whole = cond (whole == 0) None (Some (capped_sum (capped_sum (part * 20) + whole) / (2 * whole)))
