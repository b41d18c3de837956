use Rattle.std.proofs.Common.{sym, ◌∙◌}
use Rattle.oil_reader.specs.Trees.{objects_of}
use Rattle.oil_reader.proofs.ObjectsListed.{names_end}
use Rattle.oil_reader.proofs.object_faults.names_fault_listed.Goals as goal

pub returns : goal.returns
returns c = names_end (objects_of c.args.objects.now) c.args.close c.in_ok-found.found c.or_earlier.result (sym c.has_needed.ensures ∙ c.if-has_needed.false) c.in_ok-found.ensures c.or_earlier.ensures
