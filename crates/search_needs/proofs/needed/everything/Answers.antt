use Rattle.std.proofs.Common.{length, sym, ◌∙◌}
use Rattle.std.proofs.lemmas.Bool.{ltb-true}
use Rattle.search_needs.specs.declared.table.Needs.{Needs}
use Rattle.search_needs.proofs.EntryLemmas.{closed_from, within_from}
use Rattle.search_needs.proofs.EverythingLemmas.{tasks_all, routines_all}
use Rattle.search_needs.proofs.needed.everything.Goals as goal

pub returns-clause-closed : goal.returns-clause-closed
returns-clause-closed c =
    let S = c.args.system.now in
    let needs : Needs = record {
      tasks = c.in_ok-tasks.tasks;
      routines = c.in_ok-routines.routines;
      shared = c.declared_resources-shared.result;
      counters = c.all_counters-counters.result;
    } in
    let declared = c.declared_resources-shared.ensures in
    let proper = c.task_count.ensures.proper in
    closed_from S needs (c.in_ok-tasks.ensures.count ∙ c.task_count.ensures.value)
    (c.in_ok-routines.ensures.count ∙ c.routine_count.ensures.value)
    (tasks_all S needs proper c.in_ok-tasks.ensures.all declared) (routines_all S needs proper c.in_ok-routines.ensures.all declared)
    c.all_counters-counters.ensures

pub returns-clause-within : goal.returns-clause-within
returns-clause-within c =
    let S = c.args.system.now in
    let needs : Needs = record {
      tasks = c.in_ok-tasks.tasks;
      routines = c.in_ok-routines.routines;
      shared = c.declared_resources-shared.result;
      counters = c.all_counters-counters.result;
    } in
    let declared = c.declared_resources-shared.ensures in
    let proper = c.task_count.ensures.proper in
    within_from S needs (c.in_ok-tasks.ensures.count ∙ c.task_count.ensures.value)
    (c.in_ok-routines.ensures.count ∙ c.routine_count.ensures.value)
    (tasks_all S needs proper c.in_ok-tasks.ensures.all declared) (routines_all S needs proper c.in_ok-routines.ensures.all declared)
    (λ r h. ltb-true r (length S.resources) (sym (declared r) ∙ h))
