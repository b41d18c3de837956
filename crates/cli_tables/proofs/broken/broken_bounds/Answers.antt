use Rattle.std.specs.String.{string_bytes}
use Rattle.cli_tables.proofs.KeptLemmas.{kept_where_empty}
use Rattle.cli_tables.proofs.broken.broken_bounds.Goals as goal

pub returns-clause-kept : goal.returns-clause-kept
returns-clause-kept c =
    kept_where_empty c.args.system.now c.args.found.now string_bytes c.args.limits.now
    c.text_of.result c.text_of.ensures
