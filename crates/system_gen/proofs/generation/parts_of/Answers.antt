use Rattle.system_gen.proofs.DistinctNames.{names_distinct}
use Rattle.system_gen.proofs.generation.parts_of.Goals as goal

pub resolve-requires-clause-distinct : goal.resolve-requires-clause-distinct
resolve-requires-clause-distinct c = names_distinct c.args.file.now c.stays_checked.ensures
