-- Arrivals and the start of a routine commute with taking the upper part.
use Rattle.std.proofs.Common.{◌≡◌, ℕ, zero, suc, Bool, true, false, cond, List, [], ◌∷◌, map, length, refl, sym, ◌∙◌, ap, ap₂}
use Rattle.std.proofs.Math.Path.{fun_ext}
use Rattle.std.specs.Prelude.{Option, Some, None, slice_index_or}
use Rattle.osek_base.specs.Lists.{below, foremost}
use Rattle.osek_base.specs.System.{System, Routine, no_routine}
use Rattle.osek_base.specs.State.{State, may_dispatch}
use Rattle.osek_base.specs.Tick.{start_phase, routine_choice, routine_started, is_pending, with_start_of}
use Rattle.osek_base.specs.Agree.{upper_core, upper_routine}
use Rattle.partition_check.proofs.UpperState.{up}

-- the priority of a routine is kept
priority_at : (S : System) (p : ℕ) (all : List Routine) (i : ℕ)
    → (slice_index_or (map (upper_routine S p) all) i no_routine).priority ≡ (slice_index_or all i no_routine).priority
priority_at S p [] i = refl
priority_at S p (a ∷ all) zero = refl
priority_at S p (a ∷ all) (suc i) = priority_at S p all i

count_kept : (S : System) (p : ℕ) (all : List Routine) → length (map (upper_routine S p) all) ≡ length all
count_kept S p [] = refl
count_kept S p (a ∷ all) = ap suc (count_kept S p all)

-- the same routine is chosen
routine_choice_up : (S : System) (p : ℕ) (s : State) → routine_choice (upper_core S p) (up S p s) ≡ routine_choice S s
routine_choice_up S p s =
    ap₂ (λ (rank : ℕ → ℕ) n. foremost (is_pending s) rank (below n)) (fun_ext (priority_at S p S.routines)) (count_kept S p S.routines)

-- and starts
pub start_up : (S : System) (p : ℕ) (s : State) → up S p (start_phase S s) ≡ start_phase (upper_core S p) (up S p s)
unfolding start_phase
start_up S p s =
    go (may_dispatch s) (routine_choice S s)
    ∙ ap (λ o. with_start_of (up S p s) (cond (may_dispatch s) (routine_started o (up S p s)) (up S p s))) (sym (routine_choice_up S p s))
  where
    go : (b : Bool) (o : Option ℕ)
        → up S p (with_start_of s (cond b (routine_started o s) s)) ≡ with_start_of (up S p s) (cond b (routine_started o (up S p s)) (up S p s))
    go true None = refl
    go true (Some i) = refl
    go false o = refl
