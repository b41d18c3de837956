use Rattle.std.proofs.Common.{ℕ, ap, arith}
use Rattle.osek_base.specs.declared.ids.Owner.{Owner}
use Rattle.kernel.specs.Machine.{picture}
use Rattle.search_needs.specs.Table.{need_of}
use Rattle.search_keys.specs.Key.{window_key}
use Rattle.search_states.proofs.Steps.{written_as}
use Rattle.search_states.proofs.words.push_routine_windows.Goals as goal

pub loop-number-preserved : goal.loop-number-preserved
loop-number-preserved g c =
    written_as _ c.loop-number.out.items _ _ _ c.loop-number.number _ c.in_ok-push_window.ensures
    (ap (λ (i : ℕ). window_key (need_of c.args.needs.now) (picture c.args.machine.now)
    (Owner.Routine i)) c.new.ensures)
    c.loop-number.invariant (omega arith)
