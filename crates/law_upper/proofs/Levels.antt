-- The static priorities of upper tasks are the same in systems that agree.
use Rattle.std.proofs.Common.{◌≡◌, ℕ, ◌<◌, true, length, sym, ◌∙◌, ap, ap₂, subst}
use Rattle.std.specs.Prelude.{Some, ◌&&◌, nat_lt, slice_index_or}
use Rattle.std.proofs.lemmas.Bool.{lt-ltb}
use Rattle.std.proofs.lemmas.List.{get_or-map, length-map}
use Rattle.osek_base.specs.declared.ids.Owner.{Owner}
use Rattle.osek_base.specs.System.{System, Task, no_task, task}
use Rattle.view_figures.specs.FigureSums.{levels_of, lower_executes}
use Rattle.law_upper.specs.Above.{AreOneAbove, IsUpperTask}
use Rattle.law_upper.proofs.Sides.{upper_there}
use Rattle.law_upper.proofs.States.{states_are_seen_the_same}

level_is : (S : System) (t : ℕ) → t < length S.tasks
    → slice_index_or (levels_of S) t 0 ≡ (task S t).priority
level_is S t inside = get_or-map (λ (a : Task). a.priority) S.tasks t no_task 0 inside

known_level : (S : System) (t : ℕ) → t < length S.tasks
    → nat_lt t (length (levels_of S)) ≡ true
known_level S t inside =
    lt-ltb t (length (levels_of S))
    (subst (λ n. t < n) (sym (length-map S.tasks (λ (a : Task). a.priority))) inside)

module _ (S B : System) (p : ℕ) (pair : AreOneAbove S B p) where
  level_same : (t : ℕ) → IsUpperTask S p t
      → slice_index_or (levels_of S) t 0 ≡ slice_index_or (levels_of B) t 0
  level_same t is =
      let declared = (states_are_seen_the_same.states.others S B p pair).declared in
      level_is S t is.known
      ∙ ap (λ (a : Task). a.priority) (declared.tasks t is)
      ∙ sym (level_is B t (upper_there S B p pair t is).known)

  -- whether an upper task executes below another
  pub lower_same : (u t : ℕ) → IsUpperTask S p u → IsUpperTask S p t
      → lower_executes (levels_of S) (Some (Owner.Task u)) t
      ≡ lower_executes (levels_of B) (Some (Owner.Task u)) t
  lower_same u t is_u is_t =
      let known = known_level S u is_u.known in
      let known_there = known_level B u (upper_there S B p pair u is_u).known in
      ap₂ (λ k both. k && both) (known ∙ sym known_there)
      (ap₂ nat_lt (level_same u is_u) (level_same t is_t))
