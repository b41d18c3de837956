use Rattle.std.proofs.Common.{Bool, ◌++◌, ◌∙◌, ap, ap₂, arith}
use Rattle.osek_base.specs.declared.task.Counter.{Counter}
use Rattle.search_needs.specs.Table.{need_of}
use Rattle.law_future.specs.Alike.{phase_at, value_at}
use Rattle.search_keys.specs.Bytes.{needed, number}
use Rattle.search_states.proofs.Steps.{written_as}
use Rattle.search_states.proofs.times.push_counters.Goals as goal

pub loop-number-preserved : goal.loop-number-preserved
loop-number-preserved c =
    written_as _ c.loop-number.out.items _ _ _ c.loop-number.number _ c.in_ok-push_counter.ensures
    (ap₂ (λ (k : Counter) (b : Bool).
    needed b (value_at k c.args.tick) ++ number (phase_at k c.args.tick))
    c.counter_at-counter.ensures.value
    (c.needs_value-is_needed.ensures ∙ ap (need_of c.args.needs.now).counters c.new.ensures))
    c.loop-number.invariant (omega arith)
