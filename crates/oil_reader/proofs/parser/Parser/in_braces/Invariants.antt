use Rattle.std.proofs.Common.{length, map}
use Rattle.oil_reader.specs.Rest.{rest_of}
use Rattle.oil_reader.proofs.Lists.{SoFar}
use Rattle.oil_reader.proofs.parser.Parser.in_braces.Given as goal

abbrev pub invariant-each : goal.invariant-each
invariant-each g l = SoFar g.X.InBraces.Is g.X.InBraces.symbol l.fn.self.len l.self.len (rest_of l.fn.self) (rest_of l.self) (map g.X.InBraces.tree l.things.items)

abbrev pub decreases-each : goal.decreases-each
decreases-each g l = length (rest_of l.self)
