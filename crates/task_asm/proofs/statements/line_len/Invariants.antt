-- The tokens so far, and those of the line that are left.
use Rattle.std.proofs.Common.{length, ◌-◌, ◌≡◌, ◌≤◌, ◌+◌, drop}
use Rattle.task_asm.specs.Tokens.{lexemes_of}
use Rattle.task_asm.specs.Statements.{line_len}
use Rattle.task_asm.proofs.statements.line_len.Given as goal

abbrev pub invariant-line : goal.invariant-line
invariant-line l = record { within : l.n ≤ length l.tokens; len : line_len (lexemes_of l.tokens) ≡ l.n + line_len (lexemes_of (drop l.n l.tokens)) }

abbrev pub decreases-line : goal.decreases-line
decreases-line l = length l.tokens - l.n
