use Rattle.oil_reader.specs.Trees.{file_of}
use Rattle.oil_reader.proofs.ObjectsListed.{first_of_objects}
use Rattle.oil_reader.proofs.object_faults.names_fault.Goals as goal

pub returns : goal.returns
returns c = rw (c.in_ok-found.ensures, c.deref.ensures.value) (first_of_objects (file_of c.args.tree.now))
