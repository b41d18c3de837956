use Rattle.std.proofs.Common.{◌-◌, List, drop, true, refl, sym, ap, subst}
use Rattle.std.specs.Prelude.{reverse}
use Rattle.std.proofs.Math.Seq.{drop-nil}
use Rattle.view_figures.specs.FigureSums.{AreFigures, alike}
use Rattle.kernel.specs.Progress.{Progress}
use Rattle.seen_ticks.specs.declared.observation.Observation.{Observation}
use Rattle.osek_base.specs.System.{System}
use Rattle.view_runs.proofs.CountLemmas.{alike_counted}
use Rattle.view_runs.proofs.TickLemmas.{all_made, alike_made, next_made, none_made, stays_made}
use Rattle.view_runs.proofs.stats.counted_figures.Goals as goal

pub ticks-init : goal.ticks-init
ticks-init g c =
    none_made true c.args.input.ticks c.in_ok-run.run' _ c.in_ok-run.ensures.begun.ticks
    (subst (λ x. AreFigures c.args.system.now x c.new-figures.result) (sym (ap reverse (drop-nil c.args.from))) c.new-figures.ensures)

pub ticks-preserved-in_default : goal.ticks-preserved-in_default
ticks-preserved-in_default g c =
    let r : Progress = c.in_ok-run.run' in
    let Is : List Observation → Type 0 = λ seen. AreFigures c.args.system.now (reverse (drop c.args.from seen)) c.count.new.figures in
    stays_made true c.args.input.ticks r Is c.next_tick.new.run
    (next_made true c.args.input.ticks r _ c.ticks.run c.ticks.invariant c.next_tick.new.run c.observation.result.now Is
    (c.ticks-test.ensures.next refl) c.observation.ensures (c.count.ensures c.args.system.now))
    c.pass_alike.new.run c.in_default.ensures.none

pub ticks-preserved : goal.ticks-preserved
ticks-preserved g c =
    let r : Progress = c.in_ok-run.run' in
    let S : System = c.args.system.now in
    let from = c.args.from in
    let first = c.in-Some.first in
    let end = c.ticks_done.result in
    let o : Observation = c.observation-in-ticks.result.now in
    let Is : List Observation → Type 0 = λ seen. AreFigures S (reverse (drop from seen)) c.count.new.figures in
    alike_made true c.args.input.ticks r Is c.next_tick.new.run
    (next_made true c.args.input.ticks r _ c.ticks.run c.ticks.invariant c.next_tick.new.run c.observation.result.now Is
    (c.ticks-test.ensures.next refl) c.observation.ensures (c.count.ensures S))
    first end c.pass_alike.new.run o _ c.in-Some.ensures.some c.ticks_done.ensures c.observation-in-ticks.ensures
    (λ seen count later calm are.
    let before = reverse (drop from seen) in
    subst (λ x. AreFigures S x c.observe_alike.new.self) (sym (alike_counted from first end o seen count later))
    (subst (λ m. AreFigures S (alike o m (end - m) before) c.observe_alike.new.self) c.max.ensures (c.observe_alike.ensures S before are)))

pub returns-clause-counted : goal.returns-clause-counted
returns-clause-counted g c =
    let r : Progress = c.in_ok-run.run' in
    let begun = c.in_ok-run.ensures.begun in
    let all =
    all_made true c.args.input.ticks r _ c.ticks.run c.ticks.invariant c.next_tick.new.run (c.ticks-test.ensures.none refl) in (
      r,
      begun,
      record {
        sees = all.0;
        counted = subst (λ (S : System). AreFigures S (reverse (drop c.args.from all.0.seen)) c.ticks.figures) (sym begun.system) all.1;
      },
    )
