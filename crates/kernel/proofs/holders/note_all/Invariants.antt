use Rattle.std.proofs.Common.{◌≡◌, length, drop}
use Rattle.kernel.specs.Holders.{all_noted}
use Rattle.kernel.proofs.holders.note_all.Given as goal

-- those that are left complete the whole
abbrev pub invariant-loop-resource : goal.invariant-loop-resource
invariant-loop-resource l =
    (length l.places ≡ length l.initial.places)
    × (all_noted l.declared l.task (drop l.resource-index l.held) l.places
    ≡ all_noted l.declared l.task l.held l.initial.places)
