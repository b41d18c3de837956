use Rattle.std.proofs.Common.{subst, sym}
use Rattle.std.specs.List.{All}
use Rattle.std.proofs.lemmas.List.Elements.{All-push}
use Rattle.search_witnesses.specs.Shown.{IsReached}
use Rattle.search_witnesses.proofs.reached.reached_figures.Goals as goal
use Rattle.search_witnesses.proofs.reached.reached_figures.Goals.{then-branch+in_ok-push, else-branch}

pub loop-place-preserved : goal.loop-place-preserved
loop-place-preserved c =
    let holds = IsReached c.args.system.now c.args.mode c.args.rules.now c.args.found.now in
    elim c.if-branch.branch [
      | then-branch+in_ok-push w ↦
          rw w.reached-is
          (subst (All holds) (sym w.in_ok-push.ensures.items)
          (All-push holds c.loop-place.reached.items c.index-figure.result.now c.loop-place.invariant
          (c.in_ok-is_reached.ensures w.if-branch.true)))
      | else-branch w ↦ rw w.reached-is c.loop-place.invariant
    ]
