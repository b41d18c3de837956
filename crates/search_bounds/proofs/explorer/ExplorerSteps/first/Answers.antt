use Rattle.std.proofs.Common.{◌≡◌, ◌∙◌, subst}
use Rattle.search_needs.specs.Table.{need_of}
use Rattle.kernel.specs.Machine.{picture, system_of}
use Rattle.search_keys.specs.Key.{key}
use Rattle.law_bounds.specs.Nodes.{IsFirst, Node}
use Rattle.search_bounds.specs.Exploring.{Explorer, explorer_of, setting_of}
use Rattle.search_bounds.proofs.Exploring.{all_found, first_is, is_first, same_stay}
use Rattle.search_bounds.proofs.explorer.ExplorerSteps.first.Goals as goal

pub returns-in_err-boot_again-clause-notes : goal.returns-in_err-boot_again-clause-notes
returns-in_err-boot_again-clause-notes g c = same_stay c.args.self.now _ c.self.view_is

pub returns-in_err-labels-clause-notes : goal.returns-in_err-labels-clause-notes
returns-in_err-labels-clause-notes g c = same_stay c.args.self.now _ c.self.view_is

pub returns-clause-notes : goal.returns-clause-notes
returns-clause-notes g c = same_stay c.args.self.now _ c.self.view_is

pub returns-clause-first : goal.returns-clause-first
returns-clause-first g c =
    let e : Explorer = explorer_of c.self.inside.ruling c.self.inside.noted.peaks in
    let m = c.boot_again.new.machine in
    all_found (λ (y : Node). y.key ≡ key (system_of m) (need_of e.ground.needs) (picture m))
    (λ (y : Node). y.over ≡ (picture m).over) (λ (y : Node). y.labels ≡ c.in_ok-labels.labels)
    (IsFirst (setting_of c.args.self.now)) c.node_of-node.result
    (λ y made over labels.
    subst (λ (f : Explorer). IsFirst (setting_of f) y) c.self.view_is
    (is_first e y m c.boot_again.ensures.system c.in_ok-boot_again.ensures.picture made over
    (labels ∙ c.in_ok-labels.ensures
    ∙ first_is (setting_of e) c.task_count-tasks.result c.routine_count-routines.result
    c.held_count.result c.task_count-tasks.ensures.value c.routine_count-routines.ensures.value
    c.held_count.ensures)))
    c.node_of-node.ensures.key c.node_of-node.ensures.over c.node_of-node.ensures.labels
