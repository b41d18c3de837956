use Rattle.std.proofs.Common.{◌≡◌, take}
use Rattle.osek_base.specs.Tick.{flagged}
use Rattle.services.specs.Objects.{Objects}
use Rattle.kernel.proofs.processor.Processor.arrival_phase.Given as goal

-- the routines so far have set their flags
abbrev pub invariant-loop-index : goal.invariant-loop-index
invariant-loop-index g l =
    let first : Objects = l.initial.self-inside.core in
    l.self-inside
    ≡ record l.initial.self-inside { core = record first { pending = flagged (take l.index l.arrived) first.pending } }
