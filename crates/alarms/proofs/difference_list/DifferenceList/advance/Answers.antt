use Rattle.std.proofs.Common.{◌≡◌, true, sym, map}
use Rattle.alarms.specs.Waits.{wait_of, is_over, less_by, is_raised, are_ahead}
use Rattle.alarms.proofs.ExpiryLemmas.{apart-less, ahead-again, ahead-over, or_none}
use Rattle.alarms.proofs.difference_list.DifferenceList.advance.Goals as goal

pub expire-requires : goal.expire-requires
expire-requires c = rw (c.count_down.ensures.waits, apart-less c.args.counts c.args.self.now) c.requires.apart

pub returns-else-count_down-clause-waits : goal.returns-else-count_down-clause-waits
returns-else-count_down-clause-waits c = λ a.
    let ahead : are_ahead (map (less_by c.args.counts) c.args.self.now) ≡ true = rw (← c.count_down.ensures.waits) (c.count_down.ensures.ahead c.if-count_down.false) in
    rw c.count_down.ensures.waits (sym (ahead-again (map (less_by c.args.counts) c.args.self.now) a ahead))

pub returns-else-count_down-clause-due : goal.returns-else-count_down-clause-due
returns-else-count_down-clause-due c = λ a.
    let ahead : are_ahead (map (less_by c.args.counts) c.args.self.now) ≡ true = rw (← c.count_down.ensures.waits) (c.count_down.ensures.ahead c.if-count_down.false) in
    or_none (is_raised a c.args.due.now) (is_over (wait_of a (map (less_by c.args.counts) c.args.self.now))) (ahead-over (map (less_by c.args.counts) c.args.self.now) a ahead)

pub returns-else-count_down-clause-apart : goal.returns-else-count_down-clause-apart
returns-else-count_down-clause-apart c = rw (c.count_down.ensures.waits, apart-less c.args.counts c.args.self.now) c.requires.apart
