use Rattle.std.proofs.Common.{sym, ◌∙◌}
use Rattle.oil_reader.specs.Trees.{object_of}
use Rattle.oil_reader.proofs.ObjectsListed.{reserved_some, reserved_none}
use Rattle.oil_reader.proofs.object_faults.reserved_fault.Goals as goal

pub returns-then-is_reserved : goal.returns-then-is_reserved
returns-then-is_reserved c = reserved_some (object_of c.args.object.now) (sym c.is_reserved.ensures ∙ c.if-is_reserved.true)

pub returns-else-is_reserved : goal.returns-else-is_reserved
returns-else-is_reserved c = reserved_none (object_of c.args.object.now) (sym c.is_reserved.ensures ∙ c.if-is_reserved.false)
