use Rattle.std.proofs.Common.{List, ◌+◌, ◌-◌, ◌++◌, Err, ap, min, false, refl, sym, subst, ◌∙◌}
use Rattle.std.proofs.lemmas.Result.{err_from_is_err_and}
use Rattle.kernel.specs.Progress.{Progress}
use Rattle.seen_ticks.specs.declared.observation.Observation.{Observation}
use Rattle.osek_base.specs.System.{System}
use Rattle.view_timelines.specs.Marks.{AreMarks}
use Rattle.view_timelines.specs.Rows.{AreRows}
use Rattle.view_runs.proofs.DrawLemmas.{AreDrawn, told, told_last, told_nothing}
use Rattle.view_runs.proofs.TickLemmas.{Made, all_made, alike_made, next_made, none_made, stays_made}
use Rattle.view_runs.proofs.timeline.drawn_timeline.Goals as goal

pub ticks-init : goal.ticks-init
ticks-init g c =
    none_made false c.args.input.ticks c.in_ok-run.run' _ c.in_ok-run.ensures.begun.ticks (record {
      rows = c.in_ok-timeline.ensures.rows;
      marks = c.in_ok-timeline.ensures.marks (told c.in_ok-run.run');
      first = c.in_ok-timeline.ensures.from;
      end = c.in_ok-timeline.ensures.to;
    })

pub ticks-preserved-in_default : goal.ticks-preserved-in_default
ticks-preserved-in_default g c =
    let r : Progress = c.in_ok-run.run' in
    let from = c.args.from in
    let to = min c.args.input.ticks (from + 5000) in
    let S : System = c.args.system.now in
    let Was : List Observation → Type 0 = AreDrawn S (told r) from to c.ticks.timeline in
    let Is : List Observation → Type 0 = AreDrawn S (told r) from to c.observe.new.self in
    let w : Progress = c.next_tick.new.run in
    let next = c.ticks-test.ensures.next refl in
    stays_made false c.args.input.ticks r Is w
    (next_made false c.args.input.ticks r Was c.ticks.run c.ticks.invariant w c.observation.result.now Is next c.observation.ensures
    (λ seen count was. record {
      rows = c.in_ok-observe.ensures.rows seen count was.rows;
      marks =
          c.in_ok-observe.ensures.marks (told r) seen count
          (told_last false c.args.input.ticks r Was c.ticks.run c.ticks.invariant w c.observation.result.now _ next
          c.observation.ensures c.records_into.ensures.done) was.marks;
      first = c.in_ok-observe.ensures.from ∙ was.first;
      end = c.in_ok-observe.ensures.to ∙ was.end;
    }))
    c.pass_alike.new.run c.in_default.ensures.none

pub ticks-preserved : goal.ticks-preserved
ticks-preserved g c =
    let r : Progress = c.in_ok-run.run' in
    let S : System = c.args.system.now in
    let from = c.args.from in
    let to = min c.args.input.ticks (from + 5000) in
    let first = c.in-Some.first in
    let end = c.ticks_done.result in
    let o : Observation = c.observation-in-ticks.result.now in
    let Was : List Observation → Type 0 = AreDrawn S (told r) from to c.ticks.timeline in
    let Is : List Observation → Type 0 = AreDrawn S (told r) from to c.observe.new.self in
    let w : Progress = c.next_tick.new.run in
    let next = c.ticks-test.ensures.next refl in
    let made : Made false c.args.input.ticks r w Is =
    next_made false c.args.input.ticks r Was c.ticks.run c.ticks.invariant w c.observation.result.now Is next c.observation.ensures
    (λ seen count was. record {
      rows = c.in_ok-observe.ensures.rows seen count was.rows;
      marks =
          c.in_ok-observe.ensures.marks (told r) seen count
          (told_last false c.args.input.ticks r Was c.ticks.run c.ticks.invariant w c.observation.result.now _ next
          c.observation.ensures c.records_into.ensures.done) was.marks;
      first = c.in_ok-observe.ensures.from ∙ was.first;
      end = c.in_ok-observe.ensures.to ∙ was.end;
    }) in
    alike_made false c.args.input.ticks r Is w made first end c.pass_alike.new.run o _ c.in-Some.ensures.some c.ticks_done.ensures
    c.observation-in-ticks.ensures
    (λ seen count later calm was. record {
      rows = c.in_ok-observe_alike.ensures.rows seen count later was.rows;
      marks =
          c.in_ok-observe_alike.ensures.marks (told r) seen count later
          (told_nothing false c.args.input.ticks r Is w made c.pass_alike.new.run first end c.in-Some.ensures.some c.ticks_done.ensures)
          was.marks;
      first = c.in_ok-observe_alike.ensures.from ∙ was.first;
      end = c.in_ok-observe_alike.ensures.to ∙ was.end;
    })

pub returns-in_err-observe-clause-refusal : goal.returns-in_err-observe-clause-refusal
returns-in_err-observe-clause-refusal g c =
    let from = c.from_residual-in_err-observe in
    let p = err_from_is_err_and from.result from.ensures.1 in
    rw (p.1 ∙ ap Err p.2) tt

pub returns-in_err-observe_alike-clause-refusal : goal.returns-in_err-observe_alike-clause-refusal
returns-in_err-observe_alike-clause-refusal g c =
    let from = c.from_residual-in_err-observe_alike in
    let p = err_from_is_err_and from.result from.ensures.1 in
    rw (p.1 ∙ ap Err p.2) tt

pub returns-clause-drawn : goal.returns-clause-drawn
returns-clause-drawn g c =
    let r : Progress = c.in_ok-run.run' in
    let begun = c.in_ok-run.ensures.begun in
    let all =
    all_made false c.args.input.ticks r _ c.ticks.run c.ticks.invariant c.next_tick.new.run (c.ticks-test.ensures.none refl) in (
      r,
      begun,
      record {
        sees = all.0;
        rows = subst (λ (S : System). AreRows S all.0.seen c.ticks.timeline) (sym begun.system) all.1.rows;
        marks = subst (λ (S : System). AreMarks S (told r) all.0.seen c.ticks.timeline) (sym begun.system) all.1.marks;
        first = all.1.first;
        end = all.1.end;
      },
    )
