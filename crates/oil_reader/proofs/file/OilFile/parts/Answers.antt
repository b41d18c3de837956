use Rattle.oil_reader.proofs.CheckedParts.{checked_parts}
use Rattle.oil_reader.proofs.file.OilFile.parts.Goals as goal

pub returns-clause-checked : goal.returns-clause-checked
returns-clause-checked c = let p = checked_parts c.self.inside.parts c.self.invariant in search
