use Rattle.std.proofs.Common.{◌≡◌, length}
use Rattle.std.specs.Prelude.{None}
use Rattle.kernel.specs.Processor.{picture, system_of}
use Rattle.kernel.proofs.BegunLemmas.{AreBegunTo}
use Rattle.kernel.proofs.processor.Processor.begun_stamps.Given as goal

-- the tasks so far have their stamps, and the others none
abbrev pub invariant-loop-number : goal.invariant-loop-number
invariant-loop-number g l = record {
  size : length l.stamps.lists ≡ length (system_of l.self).tasks;
  begun : AreBegunTo l.number (picture l.self) l.stamps.lists;
  none : l.stamps.spent ≡ None;
}
