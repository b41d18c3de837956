use Rattle.search_bounds.proofs.Holding.{ends_above, hold_above, releases_above, starts_above}
use Rattle.search_bounds.proofs.above.find_upper_bounds.Goals as goal

pub returns-clause-found : goal.returns-clause-found
returns-clause-found g c =
    hold_above c.bounds_of_the_part_hold.ensures c.args.system.now c.in_ok-part.part c.args.p c.args.mode c.args.rules.now
    c.in_ok-bounds.bounds.cap c.in_ok-bounds.bounds.peaks c.in_ok-bounds.bounds.outcome c.shows_proper.ensures
    c.requires c.in_ok-part.ensures.made c.in_ok-bounds.ensures.found

pub returns-clause-ends : goal.returns-clause-ends
returns-clause-ends g c =
    ends_above c.bounded_upper_jobs_end.ensures c.args.system.now c.args.p c.args.mode c.args.rules.now
    c.in_ok-bounds.bounds.cap c.in_ok-bounds.bounds.peaks c.in_ok-bounds.bounds.outcome c.shows_proper.ensures
    (hold_above c.bounds_of_the_part_hold.ensures c.args.system.now c.in_ok-part.part c.args.p c.args.mode
    c.args.rules.now c.in_ok-bounds.bounds.cap c.in_ok-bounds.bounds.peaks
    c.in_ok-bounds.bounds.outcome c.shows_proper.ensures c.requires c.in_ok-part.ensures.made
    c.in_ok-bounds.ensures.found)

pub returns-clause-starts : goal.returns-clause-starts
returns-clause-starts g c =
    starts_above c.bounded_interrupts_start_above.ensures c.args.system.now c.args.p c.args.mode
    c.args.rules.now
    c.in_ok-bounds.bounds.cap c.in_ok-bounds.bounds.peaks c.in_ok-bounds.bounds.outcome c.shows_proper.ensures
    (hold_above c.bounds_of_the_part_hold.ensures c.args.system.now c.in_ok-part.part c.args.p c.args.mode
    c.args.rules.now c.in_ok-bounds.bounds.cap c.in_ok-bounds.bounds.peaks
    c.in_ok-bounds.bounds.outcome c.shows_proper.ensures c.requires c.in_ok-part.ensures.made
    c.in_ok-bounds.ensures.found)

pub returns-clause-releases : goal.returns-clause-releases
returns-clause-releases g c =
    releases_above c.bounded_upper_holds_end.ensures c.args.system.now c.args.p c.args.mode c.args.rules.now
    c.in_ok-bounds.bounds.cap c.in_ok-bounds.bounds.peaks c.in_ok-bounds.bounds.outcome c.shows_proper.ensures
    (hold_above c.bounds_of_the_part_hold.ensures c.args.system.now c.in_ok-part.part c.args.p c.args.mode
    c.args.rules.now c.in_ok-bounds.bounds.cap c.in_ok-bounds.bounds.peaks
    c.in_ok-bounds.bounds.outcome c.shows_proper.ensures c.requires c.in_ok-part.ensures.made
    c.in_ok-bounds.ensures.found)
