use Rattle.std.proofs.Common.{◌+◌, ◌-◌, suc, ◌≡◌, length, map, refl, sym, ◌∙◌, ap, subst, true, arith}
use Rattle.std.specs.Prelude.{nat_le}
use Rattle.view_figures.specs.Counting.{task_figures_of}
use Rattle.seen_ticks.specs.Seen.{numbered}
use Rattle.seen_ticks.specs.declared.task_seen.TaskSeen.{TaskSeen}
use Rattle.view_figures.specs.FigureSums.{lower_executes, task_tick}
use Rattle.view_figures.specs.ResponseSums.{standing_jobs}
use Rattle.view_figures.specs.Quiet.{gets_nothing, rests}
use Rattle.view_figures.specs.Calm.{stayed, went_on}
use Rattle.view_figures.specs.declared.task_figures.TaskFigures.{TaskFigures}
use Rattle.view_figures.proofs.CalmLemmas.{calm, stayed_is, task_on, task_start, task_go, task_stays, stays_on}
use Rattle.view_figures.proofs.QuietLemmas.{others, untold, quiet_task}
use Rattle.view_figures.proofs.RowLemmas.{row_all, row_settles}
use Rattle.view_figures.proofs.kinds.TaskFiguresCounted.observe_some.Goals as goal

-- no job is left, and nothing is counted
pub returns-then-not-executes-clause-counted : goal.returns-then-not-executes-clause-counted
returns-then-not-executes-clause-counted c = λ before e.
    let levels = c.args.scene.now.levels.now in
    let o = c.args.scene.now.observation.now in
    let k = c.args.number in
    let ticks = map (λ p. task_tick levels p k) in
    let seen = c.seen_of_task-seen.ensures in
    let quiet = subst (λ s. rests s ≡ true) seen (sym c.rests.ensures ∙ c.if-rests.true) in
    let silent = others o k (sym c.executes.ensures ∙ c.if-not-executes.true) in
    let old = c.args.self.now in
    let new = c.pass.new.self in
    let stays =
    subst (λ (f : TaskFigures). f ≡ (record f { counts = record f.counts { unfinished = 0 } }))
    (sym c.pass.ensures) refl in
    row_settles (task_figures_of levels k) o c.args.first c.args.count before new c.requires.some
    (quiet_task levels (numbered c.args.first o) k (ticks before) old _ quiet silent c.pass.ensures e)
    (λ t seen same. quiet_task levels (numbered t o) k (ticks seen) new _ quiet silent stays same)

-- its times alone grow
pub returns-then-has_followed-clause-counted : goal.returns-then-has_followed-clause-counted
returns-then-has_followed-clause-counted c = λ before e.
    let levels = c.args.scene.now.levels.now in
    let o = c.args.scene.now.observation.now in
    let k = c.args.number in
    let old = c.args.self.now in
    let ticks = map (λ p. task_tick levels p k) in
    let tick = task_tick levels (numbered c.args.first o) k in
    let seen = c.seen_of_task-seen.ensures in
    let nothing = subst (λ s. gets_nothing s ≡ true) seen (sym c.gets_nothing.ensures ∙ c.if-gets_nothing.true) in
    let is = sym c.is_untold.ensures ∙ c.if-is_untold.true in
    let q = calm levels (numbered c.args.first o) k nothing (untold o c.seen_of_task-seen.result.state k is) in
    let follows = subst (λ s. nat_le (standing_jobs s) (length old.responses.ready_since) ≡ true) seen
    (sym c.has_followed.ensures ∙ c.if-has_followed.true) in
    let more = c.args.count - 1 in
    let all : c.args.count ≡ suc more = omega (arith, c.requires.some) in
    let one = stayed tick 1 old in
    let first = task_stays tick (ticks before) old q follows e in
    let grown : c.stay.new.self ≡ stayed tick c.args.count old =
    c.stay.ensures
    ∙ ap (λ (s : TaskSeen). record old {
      counts = record old.counts { unfinished = s.jobs };
      times = went_on s.state (lower_executes levels o.executor k) c.args.count old.times;
    }) seen
    ∙ stayed_is tick c.args.count (ticks before) old q e in
    grown ∙ ap (λ n. stayed tick n old) all ∙ sym (stays_on tick old more q)
    ∙ row_all (task_figures_of levels k) o c.args.first before (task_on tick one)
    c.args.count more all
    (task_start tick (ticks before) one first)
    (λ m _ seen same. task_go tick (c.args.first + suc m) m (ticks before) (ticks seen) one q first same)
