use Rattle.oil_reader.proofs.OlderLemmas.{read_as_then, refused_then}
use Rattle.oil_reader.proofs.reading.read_oil.Goals as goal

pub returns-clause-older : goal.returns-clause-older
returns-clause-older c file meant = read_as_then c.args.text.now file c.read.result c.read.ensures.ok meant

pub returns-clause-accepted : goal.returns-clause-accepted
returns-clause-accepted c file meant = refused_then c.args.text.now file c.read.result c.read.ensures.err meant
