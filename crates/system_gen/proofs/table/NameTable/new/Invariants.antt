use Rattle.std.proofs.Common.{◌≡◌, ◌++◌, map, drop}
use Rattle.std.specs.Map.Iter.{deref}
use Rattle.system_gen.proofs.table.NameTable.new.Given as goal

abbrev pub invariant-loop-name : goal.invariant-loop-name
invariant-loop-name l = map deref l.set.keys ++ drop l.name-index l.names ≡ l.names
