use Rattle.std.proofs.Common.{false, refl, ◌∙◌}
use Rattle.kernel.specs.Progress.{Progress}
use Rattle.view_runs.proofs.DumpLemmas.{alike_begun, alike_dumped, begun_text, part, tick_begun, tick_dumped, whole}
use Rattle.view_runs.proofs.TickLemmas.{all_made, none_made, stays_made}
use Rattle.view_runs.proofs.vcd.dump_run.Goals as goal

pub returns-in_err-begin : goal.returns-in_err-begin
returns-in_err-begin g c =
    let taken = g.S.Sink.taken in
    let has_failed = g.S.Sink.has_failed in
    let r : Progress = c.args.run.now in
    let from = c.args.dump.now.first in
    let text =
    begun_text taken has_failed r.system from _ _ c.args.dump.now _ c.requires.started c.in_err-begin.ensures.text in
    part taken has_failed r from c.args.ticks _ _ c.from_residual.result r _ c.from_residual.ensures.1
    (none_made false c.args.ticks r _ c.requires.begun (record { part = text.beginning; failed = text.failed }))

pub ticks-init : goal.ticks-init
ticks-init g c =
    let r : Progress = c.args.run.now in
    let text =
    begun_text g.S.Sink.taken g.S.Sink.has_failed r.system c.args.dump.now.first _ _ c.args.dump.now _ c.requires.started
    c.in_ok-begin.ensures.text in
    none_made false c.args.ticks r _ c.requires.begun
    (record { behind = c.begin.ensures.same ∙ c.requires.started; text = text.written; still = text.still })

pub returns-in_err-observe : goal.returns-in_err-observe
returns-in_err-observe g c =
    let taken = g.S.Sink.taken in
    let has_failed = g.S.Sink.has_failed in
    let r : Progress = c.args.run.now in
    let from = c.args.dump.now.first in
    part taken has_failed r from c.args.ticks _ _ c.from_residual-in_err-observe.result c.next_tick.new.run _
    c.from_residual-in_err-observe.ensures.1
    (tick_begun taken has_failed r from c.args.ticks _ _ _ c.ticks.dump c.ticks.run c.ticks.invariant c.next_tick.new.run
    c.observation.result.now (c.ticks-test.ensures.next refl) c.observation.ensures _ c.in_err-observe.ensures.text)

pub ticks-preserved-in_default : goal.ticks-preserved-in_default
ticks-preserved-in_default g c =
    let tick =
    tick_dumped g.S.Sink.taken g.S.Sink.has_failed c.args.run.now c.args.dump.now.first c.args.ticks _ _ _ c.ticks.dump
    c.ticks.run c.ticks.invariant c.next_tick.new.run c.observation.result.now (c.ticks-test.ensures.next refl)
    c.observation.ensures c.observe.new.self _ c.observe.ensures.after c.in_ok-observe.ensures.text in
    stays_made false c.args.ticks c.args.run.now _ c.next_tick.new.run tick c.pass_alike.new.run c.in_default.ensures.none

pub ticks-preserved : goal.ticks-preserved
ticks-preserved g c =
    let taken = g.S.Sink.taken in
    let has_failed = g.S.Sink.has_failed in
    let r : Progress = c.args.run.now in
    let from = c.args.dump.now.first in
    let tick =
    tick_dumped taken has_failed r from c.args.ticks _ _ _ c.ticks.dump c.ticks.run c.ticks.invariant c.next_tick.new.run
    c.observation.result.now (c.ticks-test.ensures.next refl) c.observation.ensures c.observe.new.self _ c.observe.ensures.after
    c.in_ok-observe.ensures.text in
    alike_dumped taken has_failed r from c.args.ticks _ _ _ c.observe.new.self c.next_tick.new.run tick c.pass_alike.new.run
    c.observation-in-ticks.result.now c.in-Some.first c.ticks_done.result c.in-Some.ensures.some c.ticks_done.ensures
    c.observation-in-ticks.ensures c.observe_alike.ensures.each c.observe_alike.new.self _ c.observe_alike.ensures.after
    c.in_ok-observe_alike.ensures.text

pub returns-in_err-observe_alike : goal.returns-in_err-observe_alike
returns-in_err-observe_alike g c =
    let taken = g.S.Sink.taken in
    let has_failed = g.S.Sink.has_failed in
    let r : Progress = c.args.run.now in
    let from = c.args.dump.now.first in
    let tick =
    tick_dumped taken has_failed r from c.args.ticks _ _ _ c.ticks.dump c.ticks.run c.ticks.invariant c.next_tick.new.run
    c.observation.result.now (c.ticks-test.ensures.next refl) c.observation.ensures c.observe.new.self _ c.observe.ensures.after
    c.in_ok-observe.ensures.text in
    part taken has_failed r from c.args.ticks _ _ c.from_residual-in_err-observe_alike.result c.pass_alike.new.run _
    c.from_residual-in_err-observe_alike.ensures.1
    (alike_begun taken has_failed r from c.args.ticks _ _ _ c.observe.new.self c.next_tick.new.run tick c.pass_alike.new.run
    c.observation-in-ticks.result.now c.in-Some.first c.ticks_done.result c.in-Some.ensures.some c.ticks_done.ensures
    c.observation-in-ticks.ensures c.observe_alike.ensures.each _ c.in_err-observe_alike.ensures.text)

pub returns : goal.returns
returns g c =
    let r : Progress = c.args.run.now in
    whole g.S.Sink.taken g.S.Sink.has_failed r c.args.dump.now.first c.args.ticks _ _ c.end.result _ c.ticks.dump
    (all_made false c.args.ticks r _ c.ticks.run c.ticks.invariant c.next_tick.new.run (c.ticks-test.ensures.none refl))
    c.end.ensures.text
