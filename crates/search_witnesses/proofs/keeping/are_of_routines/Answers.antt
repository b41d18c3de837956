use Rattle.search_witnesses.proofs.KeptLists.{are_known}
use Rattle.search_witnesses.proofs.keeping.are_of_routines.Goals as goal

pub returns : goal.returns
returns c =
    are_known c.args.system.now c.args.arrivals.now c.routine_count.result c.are_known.result
    c.routine_count.ensures.value c.are_known.ensures
