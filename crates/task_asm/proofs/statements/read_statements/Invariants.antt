-- What the tokens that are left say comes behind what was said so far.
use Rattle.std.proofs.Common.{length, ◌-◌, ◌≤◌, ◌++◌, drop, List}
use Rattle.task_asm.specs.Tokens.{lexemes_of}
use Rattle.task_asm.specs.Statements.{Reads, Statement}
use Rattle.task_asm.proofs.statements.read_statements.Given as goal

abbrev pub invariant-tokens : goal.invariant-tokens
invariant-tokens l = record {
  within : l.next ≤ length l.tokens;
  goes_on : (more : List Statement) → Reads (lexemes_of (drop l.next l.tokens)) more → Reads (lexemes_of l.tokens) (l.statements.items ++ more);
}

abbrev pub decreases-tokens : goal.decreases-tokens
decreases-tokens l = length l.tokens - l.next
