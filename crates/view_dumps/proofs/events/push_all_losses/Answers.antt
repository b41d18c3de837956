use Rattle.std.proofs.Common.{◌++◌, append-nil, ap, sym, ◌∙◌}
use Rattle.view_dumps.proofs.LossLemmas.{no_loss}
use Rattle.view_dumps.proofs.events.push_all_losses.Goals as goal

-- none is told
pub returns-else-has_lost-clause-same : goal.returns-else-has_lost-clause-same
returns-else-has_lost-clause-same c =
    sym (append-nil c.args.text.now)
    ∙ ap (λ l. c.args.text.now ++ l) (sym (no_loss 0 c.args.seen.now.items (sym c.requires.lost ∙ c.if-has_lost.false)))
