use Rattle.oil_reader.specs.Trees.{file_of}
use Rattle.oil_reader.proofs.Spelling.{tree_spelled}
use Rattle.oil_reader.proofs.reading.read.Goals as goal

pub oil_file-requires-clause-spelled : goal.oil_file-requires-clause-spelled
oil_file-requires-clause-spelled c = tree_spelled c.args.text.now (file_of c.in_ok-tree.tree) c.in_ok-tree.ensures.ok
