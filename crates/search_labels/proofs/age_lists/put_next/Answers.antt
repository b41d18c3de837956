use Rattle.std.proofs.Common.{ℕ, ◌≡◌, ◌<◌, List, ◌++◌, length, get_or, map, min, refl, sym, ◌∙◌, ap, ap₂, arith}
use Rattle.std.proofs.lemmas.List.{length-set}
use Rattle.std.specs.Prelude.{slice_range}
use Rattle.osek_base.specs.Lists.{below}
use Rattle.seen_ticks.specs.Seen.{seen_of}
use Rattle.view_figures.specs.declared.task_tick.TaskTick.{TaskTick}
use Rattle.law_figures.specs.Ages.{ages_next}
use Rattle.search_labels.specs.AgeLists.{lists_of}
use Rattle.search_labels.specs.Parts.{ages_at, ages_behind}
use Rattle.search_labels.proofs.ListLemmas.{all_made, begin_next, length_lists, list_at, one_list_set, placed_at}
use Rattle.search_labels.proofs.MapLemmas.{one_more}
use Rattle.search_labels.proofs.age_lists.put_next.Goals as goal

pub part_of-old-requires-clause-rising : goal.part_of-old-requires-clause-rising
part_of-old-requires-clause-rising c =
    let at = placed_at c.args.old_ages.now c.args.old_ends.now c.loop-task.task c.requires
    c.loop-task-test.true in
    omega (arith, at.rising, c.loop-task.invariant.2)

pub part_of-old-requires-clause-within : goal.part_of-old-requires-clause-within
part_of-old-requires-clause-within c =
    let at = placed_at c.args.old_ages.now c.args.old_ends.now c.loop-task.task c.requires
    c.loop-task-test.true in
    at.within

pub loop-task-preserved : goal.loop-task-preserved
loop-task-preserved c =
    let old = c.args.old_ages.now in
    let ends = c.args.old_ends.now in
    let lists = lists_of old ends in
    let f : ℕ → List ℕ = ages_behind c.args.cap (seen_of c.args.seen.now) lists in
    let k = c.loop-task.task in
    let ages = c.loop-task.ages.items in
    let new = c.push_next.new.ages.items in
    let count : c.len.result ≡ length new =
    c.len.ensures ∙ c.push_next.new.ages.ok.0 in
    let part : c.part_of-old.result.now ≡ ages_at lists k =
    c.part_of-old.ensures ∙ ap (λ b. slice_range old b (get_or ends k 0)) c.loop-task.invariant.2
    ∙ list_at old ends k c.loop-task-test.true in
    let low : k < length c.loop-task.ends.items =
    omega (arith, c.loop-task-test.true, c.loop-task.invariant.1) in (
      one_list_set ages c.loop-task.ends.items (f k) new _ _ k c.len.result
          c.loop-task.invariant.0
          (c.in_ok-push_next.ensures
          ∙ ap₂ (λ (t : TaskTick) (a : List ℕ). ages ++ map (min c.args.cap) (ages_next t a))
          c.task_tick.ensures part)
          count (one_more f k _ _ refl refl) low,
      length-set c.loop-task.ends.items k c.len.result ∙ c.loop-task.invariant.1,
      begin_next ends k,
    )

pub returns-clause-are : goal.returns-clause-are
returns-clause-are c =
    (all_made _ c.loop-task.ends.items _ c.loop-task.task c.loop-task.invariant.0
    (omega (arith, c.loop-task-test.false, c.loop-task.invariant.1))).are

pub returns-clause-same : goal.returns-clause-same
returns-clause-same c =
    let old = c.args.old_ages.now in
    let ends = c.args.old_ends.now in
    let lists = lists_of old ends in
    let f : ℕ → List ℕ = ages_behind c.args.cap (seen_of c.args.seen.now) lists in
    let all : c.loop-task.task ≡ length ends =
    omega (arith, c.loop-task-test.false, c.loop-task.auto.task-end) in
    (all_made _ c.loop-task.ends.items _ c.loop-task.task c.loop-task.invariant.0
    (omega (arith, c.loop-task-test.false, c.loop-task.invariant.1))).same
    ∙ ap (λ n. map f (below n)) (all ∙ sym (length_lists old 0 ends))
