-- Those so far and those that are left.
use Rattle.std.proofs.Common.{◌≡◌, ◌+◌, ◌≤◌, drop}
use Rattle.task_asm.specs.Walk.{program_size}
use Rattle.task_asm.proofs.labels.program_size.Given as goal

abbrev pub invariant-statements : goal.invariant-statements
invariant-statements l = record {
  so_far : l.size ≤ l.statement-index;
  whole : l.size + program_size (drop l.statement-index l.statements) ≡ program_size l.statements;
}
