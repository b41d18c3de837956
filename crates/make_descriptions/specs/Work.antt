-- Work: how many ticks the instructions of a piece of work take, each instruction one.
use Rattle.std.specs.Prelude.{ℕ, ◌+◌, ◌*◌, ◌==◌, if◌then◌else◌}

-- a loop of so many rounds, two instructions to load its registers and two a round, and instructions that do nothing
abbrev pub work_ticks : ℕ → ℕ → ℕ
work_ticks rounds nops = (if rounds == 0 then 0 else 2 + 2 * rounds) + nops
