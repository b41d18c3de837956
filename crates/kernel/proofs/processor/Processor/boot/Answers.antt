use Rattle.std.proofs.Common.{◌≡◌, List, ◌++◌, length, ◌∙◌, ap, arith}
use Rattle.osek_base.specs.declared.trace_event.TraceEvent.{TraceEvent}
use Rattle.osek_base.specs.Reschedule.{hooked}
use Rattle.kernel.proofs.BootLemmas.{booted}
use Rattle.kernel.proofs.processor.Processor.boot.Goals as goal

pub returns : goal.returns
returns g c =
    let r = c.reschedule-runner in
    booted c.args.system.now c.args.mode c.in_ok-core.core r.new.self c.new.result c.record_startup.new.opening r.new.record_of_tick c.shows_proper.ensures
    c.in_ok-core.ensures.system c.in_ok-core.ensures.kept (c.record_startup.ensures.value ∙ ap (λ (v : List TraceEvent). v ++ hooked c.args.system.now.hooks.startup TraceEvent.Startup) c.requires) r.ensures.does.system r.ensures.does.kept r.ensures.does.events
    (let none : length c.args.opening.now ≡ 0 = ap (λ (v : List TraceEvent). length v) c.requires in omega (arith, r.ensures.does.few, c.record_startup.ensures.few, none)) c.new.ensures
