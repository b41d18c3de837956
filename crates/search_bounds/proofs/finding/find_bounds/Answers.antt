use Rattle.search_bounds.proofs.Deciding.{are_found, holds_end, interrupts_start, jobs_end}
use Rattle.search_bounds.proofs.finding.find_bounds.Goals as goal

pub returns-clause-found : goal.returns-clause-found
returns-clause-found g c =
    are_found c.args.system.now c.args.mode c.args.rules.now c.shows_proper.ensures
    c.searches_bound.ensures c.levels_bound.ensures c.args.extent c.searched_bounds.result
    c.searched_bounds.ensures.searched

pub returns-clause-ends : goal.returns-clause-ends
returns-clause-ends g c =
    jobs_end c.args.system.now c.args.mode c.args.rules.now c.shows_proper.ensures
    c.bounded_jobs_end.ensures c.searched_bounds.result
    (are_found c.args.system.now c.args.mode c.args.rules.now c.shows_proper.ensures
    c.searches_bound.ensures c.levels_bound.ensures c.args.extent c.searched_bounds.result
    c.searched_bounds.ensures.searched)

pub returns-clause-starts : goal.returns-clause-starts
returns-clause-starts g c =
    interrupts_start c.args.system.now c.args.mode c.args.rules.now c.shows_proper.ensures
    c.bounded_interrupts_start.ensures c.searched_bounds.result
    (are_found c.args.system.now c.args.mode c.args.rules.now c.shows_proper.ensures
    c.searches_bound.ensures c.levels_bound.ensures c.args.extent c.searched_bounds.result
    c.searched_bounds.ensures.searched)

pub returns-clause-releases : goal.returns-clause-releases
returns-clause-releases g c =
    holds_end c.args.system.now c.args.mode c.args.rules.now c.shows_proper.ensures
    c.bounded_holds_end.ensures c.searched_bounds.result
    (are_found c.args.system.now c.args.mode c.args.rules.now c.shows_proper.ensures
    c.searches_bound.ensures c.levels_bound.ensures c.args.extent c.searched_bounds.result
    c.searched_bounds.ensures.searched)
