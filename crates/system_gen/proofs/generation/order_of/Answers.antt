use Rattle.std.proofs.Common.{◌≡◌, List, length, map, sym, subst, ap, ◌∙◌}
use Rattle.osek_base.specs.Numbering.{task_order}
use Rattle.oil_reader.specs.Configuration.{TaskRecord}
use Rattle.system_gen.specs.Order.{ArePlaces}
use Rattle.system_gen.proofs.Places.{order_places_of}
use Rattle.system_gen.proofs.generation.order_of.Goals as goal

pub returns-clause-places : goal.returns-clause-places
returns-clause-places c =
    let tasks : List TaskRecord = c.args.tasks.now in
    let e : c.in_ok-task_order.field-0.items ≡ task_order (map (λ t. t.priority) tasks) = c.in_ok-task_order.ensures ∙ ap task_order (c.as_slice.ensures.value ∙ c.in_ok-priorities.ensures) in
    subst (λ xs. ArePlaces (length tasks) xs) (sym e) (order_places_of (λ t. t.priority) tasks)
