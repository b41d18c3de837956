use Rattle.law_bounds.proofs.Going.{keys_tell_futures}
use Rattle.law_bounds.proofs.laws.keys_tell_futures.Goals as goal

pub returns : goal.returns
returns c =
    keys_tell_futures c.keys_tell.ensures c.alike_have_one_key.ensures c.runs_are_in_range.ensures
