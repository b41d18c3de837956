-- For a caller that is seen with a list of the levels of its queues, and whose moves name their level: what each call
-- of the trait does to that list. `is` comes from the caller's own view.
use Rattle.std.proofs.Common.{◌≡◌, ℕ, ◌<◌, ◌≤◌, Some, List, [], ap, sym, ◌∙◌}
use Rattle.ready_queues.specs.declared.ready_queues.TheConstants.{LEVELS}
use Rattle.ready_queues.specs.Queues.{Queues, top_level, first_task, with_newest, with_oldest, without_first}
use Rattle.ready_queues.specs.LevelLists.{level_lists, by_level}
use Rattle.ready_queues.specs.QueueMoves.{put_newest, put_oldest, first, without_first_at_level, highest}
use Rattle.ready_queues.proofs.LevelLists.{by_level-with_newest, by_level-with_oldest, by_level-without_first, top_level-by_level, first_task-by_level}
use Rattle.ready_queues.proofs.MoveLemmas.{with_newest-put_newest, with_oldest-put_oldest, first_task-first, without_first-level, highest-top}

module _ (q : Queues) (lists : List (List ℕ)) (is : level_lists q ≡ lists) where
  pub top-list : top_level q ≡ top_level (by_level lists)
  top-list = sym (top_level-by_level q) ∙ ap (λ ls. top_level (by_level ls)) is

  pub first-list : first_task q ≡ first_task (by_level lists)
  first-list = sym (first_task-by_level q) ∙ ap (λ ls. first_task (by_level ls)) is

  -- after put_newest
  pub list-put_newest : (l t : ℕ) (new : Queues) → l < LEVELS → new ≡ with_newest l t q
      → by_level (level_lists new) ≡ put_newest (by_level lists) l t
  list-put_newest l t new low put =
      ap (λ (p : Queues). by_level (level_lists p)) put ∙ by_level-with_newest l t q low
      ∙ with_newest-put_newest l t (by_level (level_lists q)) ∙ ap (λ ls. put_newest (by_level ls) l t) is

  -- after put_oldest
  pub list-put_oldest : (l t : ℕ) (new : Queues) → l < LEVELS → new ≡ with_oldest l t q
      → by_level (level_lists new) ≡ put_oldest (by_level lists) l t
  list-put_oldest l t new low put =
      ap (λ (p : Queues). by_level (level_lists p)) put ∙ by_level-with_oldest l t q low
      ∙ with_oldest-put_oldest l t (by_level (level_lists q)) ∙ ap (λ ls. put_oldest (by_level ls) l t) is

  -- what take_first gives, where a level is on top
  pub taken-first : (l : ℕ) → top_level (by_level lists) ≡ Some l → first_task q ≡ Some (first (by_level lists l))
  taken-first l top = first-list ∙ first_task-first l (by_level lists) top

  -- and what it leaves
  pub list-without_first : (l : ℕ) (new : Queues) → top_level (by_level lists) ≡ Some l → new ≡ without_first q
      → by_level (level_lists new) ≡ without_first_at_level (by_level lists) l
  list-without_first l new top take =
      ap (λ (p : Queues). by_level (level_lists p)) take ∙ by_level-without_first q
      ∙ ap (λ ls. without_first (by_level ls)) is ∙ without_first-level l (by_level lists) top

  -- where no level from n upward has a task
  pub top-highest_list : (n : ℕ) → n ≤ LEVELS → ((k : ℕ) → n ≤ k → k < LEVELS → by_level lists k ≡ [])
      → top_level q ≡ highest n (by_level lists)
  top-highest_list n low none = top-list ∙ sym (highest-top n (by_level lists) low none)
