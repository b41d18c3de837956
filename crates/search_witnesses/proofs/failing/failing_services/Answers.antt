use Rattle.std.proofs.Common.{subst, sym}
use Rattle.std.specs.List.{All}
use Rattle.std.proofs.lemmas.List.Elements.{All-push}
use Rattle.search_witnesses.specs.Failing.{Fails}
use Rattle.search_witnesses.proofs.failing.failing_services.Goals as goal
use Rattle.search_witnesses.proofs.failing.failing_services.Goals.{then-branch+in_ok-push, else-branch}

pub loop-number-preserved : goal.loop-number-preserved
loop-number-preserved c =
    let holds =
    Fails c.args.system.now c.args.mode c.args.rules.now c.args.found.now.peaks in
    elim c.if-branch.branch [
      | then-branch+in_ok-push w ↦
          rw w.services-is
          (subst (All holds) (sym w.in_ok-push.ensures.items)
          (All-push holds c.loop-number.services.items c.loop-number.number
          c.loop-number.invariant (c.in_ok-is_shown.ensures w.if-branch.true)))
      | else-branch w ↦ rw w.services-is c.loop-number.invariant
    ]
