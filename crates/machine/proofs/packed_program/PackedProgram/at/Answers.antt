use Rattle.std.proofs.Common.{◌∙◌}
use Rattle.machine.proofs.CodeLemmas.{decoded, meant_at}
use Rattle.machine.proofs.packed_program.PackedProgram.at.Goals as goal

pub returns : goal.returns
returns c =
    c.new.ensures
    ∙ decoded c.index.result.now _ (meant_at _ _ _ _ _ c.self.invariant c.self.view_is c.number.ensures.is c.requires c.index.ensures)
