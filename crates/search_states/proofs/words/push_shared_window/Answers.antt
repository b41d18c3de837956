use Rattle.std.proofs.Common.{◌∙◌, ap, arith}
use Rattle.kernel.specs.Machine.{picture}
use Rattle.search_keys.specs.Bytes.{number}
use Rattle.search_states.proofs.Steps.{within, written_as}
use Rattle.search_states.proofs.words.push_shared_window.Goals as goal

pub loop-index-preserved : goal.loop-index-preserved
loop-index-preserved g c =
    written_as _ c.loop-index.out.items _ _ _ c.loop-index.index _ c.in_ok-push_number.ensures
    (ap number (c.shared_word.ensures ∙ within (picture c.args.machine.now).shared c.args.resource
    c.loop-index.index (omega arith)))
    c.loop-index.invariant (omega arith)
