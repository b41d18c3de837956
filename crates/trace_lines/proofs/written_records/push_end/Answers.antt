use Rattle.std.proofs.Common.{◌≡◌, ◌++◌, subst}
use Rattle.osek_base.specs.BlockingText.{blockers_text}
use Rattle.osek_base.specs.declared.trace_event.TraceEvent.{TraceEvent}
use Rattle.trace_lines.specs.Lines.{ended}
use Rattle.trace_lines.proofs.written_records.push_end.Goals as goal

pub returns : goal.returns
returns g c = λ who place what outcome.
    subst (λ n. c.push_block_end.new.text ≡ c.args.text.now ++ ended (blockers_text n (TraceEvent.Executed who place what outcome)))
    c.number-told.ensures (c.push_block_end.ensures who place what outcome)
