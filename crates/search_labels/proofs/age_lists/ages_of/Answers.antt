use Rattle.std.proofs.Common.{get_or, ◌∙◌, ap, arith}
use Rattle.std.specs.Prelude.{slice_range}
use Rattle.search_labels.proofs.ListLemmas.{list_at, none_at, placed_at}
use Rattle.search_labels.proofs.age_lists.ages_of.Goals as goal

pub returns-then-task-ends : goal.returns-then-task-ends
returns-then-task-ends c =
    none_at c.args.ages.now c.args.ends.now c.args.task (omega (arith, c.if-task-ends.true))

pub part_of-requires-clause-rising : goal.part_of-requires-clause-rising
part_of-requires-clause-rising c =
    let at = placed_at c.args.ages.now c.args.ends.now c.args.task c.requires
    (omega (arith, c.if-task-ends.false)) in
    omega (arith, at.rising, c.begin_of.ensures)

pub part_of-requires-clause-within : goal.part_of-requires-clause-within
part_of-requires-clause-within c =
    let at = placed_at c.args.ages.now c.args.ends.now c.args.task c.requires
    (omega (arith, c.if-task-ends.false)) in
    at.within

pub returns : goal.returns
returns c =
    c.part_of.ensures
    ∙ ap (λ b. slice_range c.args.ages.now b (get_or c.args.ends.now c.args.task 0))
    c.begin_of.ensures
    ∙ list_at c.args.ages.now c.args.ends.now c.args.task (omega (arith, c.if-task-ends.false))
