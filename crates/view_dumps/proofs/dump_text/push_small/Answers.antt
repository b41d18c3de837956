use Rattle.std.proofs.Common.{◌++◌, ap, ◌∙◌}
use Rattle.view_dumps.proofs.SmallLemmas.{small_front}
use Rattle.view_dumps.proofs.dump_text.push_small.Goals as goal

pub returns-clause-same : goal.returns-clause-same
returns-clause-same c =
    c.push_front.ensures.same ∙ ap (λ l. c.args.text.now ++ l) (small_front c.args.number c.requires.few)
