use Rattle.std.proofs.Common.{◌∙◌}
use Rattle.sinks.proofs.SinkLemmas.{puts_rest, still_fine}
use Rattle.sinks.proofs.sink.write_all.Goals as goal

pub returns : goal.returns
returns g c =
    puts_rest g.S.Sink.taken g.S.Sink.has_failed c.args.out.now c.write.new.self c.write_rest.new.out c.args.bytes.now c.in_ok-done.done
    c.write_rest.result c.in_ok-done.ensures.bytes (c.in_ok-done.ensures.failed ∙ still_fine _ _ _ c.if-done-eq0.false)
    c.write_rest.ensures
