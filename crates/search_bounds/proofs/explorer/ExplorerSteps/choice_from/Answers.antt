use Rattle.std.proofs.Common.{◌≤◌, rules, sym, ◌∙◌}
use Rattle.search_packed.specs.Unpacked.{unpacked}
use Rattle.search_bounds.specs.Exploring.{Explorer, explorer_of, setting_of}
use Rattle.search_bounds.proofs.Exploring.{free_choices, next_choice, no_choice}
use Rattle.search_bounds.proofs.explorer.ExplorerSteps.choice_from.Goals as goal

pub returns-clause-next : goal.returns-clause-next
returns-clause-next g c =
    let e : Explorer = explorer_of c.self.inside.ruling c.self.inside.noted.peaks in
    let x = c.args.node.now in
    let whole = c.free_routines-free.result in
    let few : c.routine_count-routines.result ≤ 16 = search rules in
    next_choice (setting_of c.args.self.now) c.args.node.now whole c.args.from
    c.routine_count-routines.result
    (free_choices c.args.self.now e x (unpacked c.packed.result.now) c.routine_count-routines.result whole
    c.subsets_may.ensures c.self.view_is c.packed.ensures
    (sym c.is_over.ensures ∙ c.if-is_over.false) c.routine_count-routines.ensures.value
    c.free_routines-free.ensures.free c.free_routines-free.ensures.others
    c.free_routines-free.ensures.low)
    c.free_routines-free.ensures.low few c.subset_from.result c.subset_from.ensures.from
    c.subset_from.ensures.subset
    c.subset_from.ensures.within c.subset_from.ensures.next

pub returns-clause-none : goal.returns-clause-none
returns-clause-none g c =
    let e : Explorer = explorer_of c.self.inside.ruling c.self.inside.noted.peaks in
    let x = c.args.node.now in
    let whole = c.free_routines-free.result in
    no_choice (setting_of c.args.self.now) c.args.node.now whole c.args.from
    (free_choices c.args.self.now e x (unpacked c.packed.result.now) c.routine_count-routines.result whole
    c.subsets_may.ensures c.self.view_is c.packed.ensures
    (sym c.is_over.ensures ∙ c.if-is_over.false) c.routine_count-routines.ensures.value
    c.free_routines-free.ensures.free c.free_routines-free.ensures.others
    c.free_routines-free.ensures.low)
    c.subset_from.result c.subset_from.ensures.none
