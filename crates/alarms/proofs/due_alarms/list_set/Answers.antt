use Rattle.std.proofs.Common.{◌≤◌, ◌+◌, ◌++◌, ◌∷◌, [], ◌∙◌, ap, subst, length, arith}
use Rattle.alarms.specs.Waits.{is_raised}
use Rattle.alarms.proofs.RaisedLemmas.{AreListed, AreListedUpTo, listed_more, listed_up_to}
use Rattle.alarms.proofs.TableLemmas.{length-due}
use Rattle.alarms.proofs.due_alarms.list_set.Goals as goal

pub loop-next-init : goal.loop-next-init
loop-next-init c =
    listed_up_to c.args.word 0 c.args.count c.args.due.now c.next_raised-next.result (omega arith) c.requires.none c.next_raised-next.ensures

pub push-requires : goal.push-requires
push-requires c =
    let done : AreListed c.args.word c.args.count c.loop-next.due c.in-Some.number = subst (AreListedUpTo c.args.word c.args.count c.loop-next.due) c.in-Some.is c.loop-next.invariant in
    let most : length c.loop-next.due ≤ c.in-Some.number = rw done.listed (length-due (λ a. is_raised a c.args.word) c.in-Some.number) in
    omega (arith, done.before, c.requires.count)

pub loop-next-preserved : goal.loop-next-preserved
loop-next-preserved c =
    let done : AreListed c.args.word c.args.count c.loop-next.due c.in-Some.number = subst (AreListedUpTo c.args.word c.args.count c.loop-next.due) c.in-Some.is c.loop-next.invariant in
    let pushed = c.push.ensures ∙ (ap (λ m. c.loop-next.due ++ m ∷ []) c.new.ensures ∙ listed_more c.args.word c.args.count c.loop-next.due c.in-Some.number done) in
    listed_up_to c.args.word (c.in-Some.number + 1) c.args.count c.push.new.self c.next_raised-next-in-Some.result (omega (arith, done.before)) pushed c.next_raised-next-in-Some.ensures
