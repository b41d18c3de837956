use Rattle.std.proofs.Common.{◌≡◌, length}
use Rattle.osek_base.specs.declared.ids.Owner.{Owner}
use Rattle.trace_lines.specs.Programs.{AreTextsOf, EachAt}
use Rattle.trace_lines.proofs.instruction_texts.task_texts.Given as goal

abbrev pub invariant-tasks : goal.invariant-tasks
invariant-tasks l =
    record {
      numbered : length l.programs.items ≡ l.number;
      told : EachAt (λ n. AreTextsOf l.system (Owner.Task n)) l.programs.items;
    }
