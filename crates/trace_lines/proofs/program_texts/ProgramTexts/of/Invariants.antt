use Rattle.std.proofs.Common.{◌≡◌, length}
use Rattle.trace_lines.specs.Programs.{EachAt, IsTextAt}
use Rattle.trace_lines.proofs.program_texts.ProgramTexts.of.Given as goal

abbrev pub invariant-places : goal.invariant-places
invariant-places l =
    record {
      numbered : length l.texts.items ≡ l.place;
      told : EachAt (IsTextAt l.system l.who) l.texts.items;
    }
