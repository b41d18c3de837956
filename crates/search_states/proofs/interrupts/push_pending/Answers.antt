use Rattle.std.proofs.Common.{ℕ, ◌∙◌, ap, arith}
use Rattle.std.specs.Prelude.{false, slice_index_or}
use Rattle.search_keys.specs.Bytes.{flag}
use Rattle.search_states.proofs.Steps.{written_as}
use Rattle.search_states.proofs.interrupts.push_pending.Goals as goal

pub loop-number-preserved : goal.loop-number-preserved
loop-number-preserved c =
    written_as _ c.loop-number.out.items _ _ _ c.loop-number.number _ c.in_ok-push_flag.ensures
    (ap flag (c.is_pending-is_pending.ensures
    ∙ ap (λ (i : ℕ). slice_index_or c.args.objects.now.pending i false) c.new.ensures))
    c.loop-number.invariant (omega arith)
