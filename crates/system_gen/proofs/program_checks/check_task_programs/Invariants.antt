use Rattle.std.proofs.Common.{◌≡◌, drop}
use Rattle.system_gen.specs.Programs.{task_program_fault}
use Rattle.system_gen.proofs.program_checks.check_task_programs.Given as goal

abbrev pub invariant-loop-task : goal.invariant-loop-task
invariant-loop-task l = task_program_fault l.programs (drop l.task-index l.tasks) ≡ task_program_fault l.programs l.tasks
