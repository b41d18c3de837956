use Rattle.std.proofs.Common.{◌≡◌, ◌∙◌, ap}
use Rattle.std.specs.List.{filter}
use Rattle.osek_base.specs.Lists.{below}
use Rattle.kernel.specs.Machine.{picture, system_of}
use Rattle.search_keys.specs.Key.{key}
use Rattle.seen_ticks.specs.declared.observation.Observation.{Observation}
use Rattle.seen_ticks.specs.Seen.{seen_of}
use Rattle.view_figures.specs.FigureSums.{levels_of, lower_executes}
use Rattle.search_labels.specs.Labels.{arrives_in, next_labels}
use Rattle.search_peaks.specs.Noting.{shown_by}
use Rattle.law_bounds.specs.Nodes.{Node, routines_of, tick_shown_from}
use Rattle.search_bounds.specs.Exploring.{IsBehind, setting_by}
use Rattle.search_bounds.proofs.Exploring.{all_found, if_ok, is_behind, is_shown, ticked_in}
use Rattle.search_bounds.proofs.room.Room.tick.Goals as goal

pub returns-clause-shown : goal.returns-clause-shown
returns-clause-shown c =
    let s = setting_by c.args.ruling.now in
    let set = c.args.set in
    let o = picture c.args.from.now in
    let n = c.tick_from.new.machine in
    let w = c.tick_from.new.watcher in
    if_ok (shown_by w (picture n).over ≡ tick_shown_from s set o) c.node_of.result
    (is_shown s set o n w
    (ticked_in s.system (system_of c.args.from.now) c.deref.result.now (routines_of s set) o n w
    c.requires.from
    (c.deref.ensures.value ∙ c.in_ok-put_routines.ensures.value
    ∙ ap (λ k. filter (arrives_in set) (below k)) c.routine_count.ensures.value)
    c.tick_from.ensures.ticked))

pub returns-clause-made : goal.returns-clause-made
returns-clause-made c =
    let s = setting_by c.args.ruling.now in
    let set = c.args.set in
    let m = c.args.from.now in
    let n = c.tick_from.new.machine in
    let w = c.tick_from.new.watcher in
    let l = c.args.labels.now in
    let ticked = ticked_in s.system (system_of m) c.deref.result.now (routines_of s set)
    (picture m) n w c.requires.from
    (c.deref.ensures.value ∙ c.in_ok-put_routines.ensures.value
    ∙ ap (λ k. filter (arrives_in set) (below k)) c.routine_count.ensures.value)
    c.tick_from.ensures.ticked in
    all_found (λ (y : Node). y.key ≡ key (system_of n) s.need (picture n))
    (λ (y : Node). y.over ≡ (picture n).over) (λ (y : Node). y.labels ≡ c.become_next.new.self)
    (IsBehind s set (picture m) l) c.node_of.result
    (is_behind s set (picture m) n w ticked l c.become_next.new.self
    (c.tick_from.ensures.system ∙ c.requires.from)
    (c.in_ok-become_next.ensures ∙ ap (λ (o : Observation).
    next_labels (lower_executes (levels_of s.system) o.executor) s.cap s.rules set (seen_of o)
    l) c.seen-seen.ensures))
    c.node_of.ensures.key c.node_of.ensures.over c.node_of.ensures.labels
