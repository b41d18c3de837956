use Rattle.std.proofs.Common.{true, arith, ◌≡◌, ◌||◌, sym, ◌∙◌, ap}
use Rattle.alarms.specs.Waits.{wait_of, again, is_over, are_ahead, is_raised}
use Rattle.alarms.proofs.ExpiryLemmas.{left_next, overs-fall, ahead-again, ahead-over, or_none}
use Rattle.alarms.proofs.difference_list.DifferenceList.expire_each.Goals as goal

pub loop-expired-smaller : goal.loop-expired-smaller
loop-expired-smaller c =
    let fall = overs-fall c.loop-expired.self c.take_due.new.self c.in-Some.expired.alarm c.in-Some.expired.cycle c.in-Some.ensures.due in
    rw c.restart.ensures (omega (arith, fall))

pub loop-expired-preserved : goal.loop-expired-preserved
loop-expired-preserved c =
    rw c.restart.ensures
    (left_next c.args.self.now c.loop-expired.self c.take_due.new.self c.args.earlier c.loop-expired.due c.raise.new.self c.in-Some.expired.alarm c.in-Some.expired.cycle c.loop-expired.invariant c.in-Some.ensures.due c.raise.ensures)

pub returns-clause-waits : goal.returns-clause-waits
returns-clause-waits c = λ a.
    let same : c.take_due.new.self ≡ c.loop-expired.self = c.in_default.ensures.none in
    let ahead : are_ahead c.loop-expired.self ≡ true = c.in_default.ensures.ahead in
    rw same (sym (ahead-again c.loop-expired.self a ahead) ∙ c.loop-expired.invariant.waits_same a)

pub returns-clause-due : goal.returns-clause-due
returns-clause-due c = λ a.
    let ahead : are_ahead c.loop-expired.self ≡ true = c.in_default.ensures.ahead in
    or_none (is_raised a c.loop-expired.due) (is_over (wait_of a c.loop-expired.self)) (ahead-over c.loop-expired.self a ahead)
    ∙ c.loop-expired.invariant.raised_same a
