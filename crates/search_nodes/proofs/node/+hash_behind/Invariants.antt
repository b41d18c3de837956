use Rattle.std.proofs.Common.{length}
use Rattle.search_nodes.proofs.node.+hash_behind.Given as goal

abbrev pub decreases-hash_behind : goal.decreases-hash_behind
decreases-hash_behind l = length l.bytes.now
