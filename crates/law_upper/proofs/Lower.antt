-- While an upper task stands ready in a tick, none executes but one of the upper part. So in
-- systems that agree a lower one executes then in both or in none.
use Rattle.std.proofs.Common.{◌≡◌, ℕ, Bool, true, false, ◌&&◌, List, refl, sym, ◌∙◌, ap, subst, true≢false}
use Rattle.std.specs.Prelude.{Option, Some, None}
use Rattle.std.specs.Option.{option_map}
use Rattle.osek_base.specs.declared.arrivals.Arrival.{Arrival}
use Rattle.osek_base.specs.declared.executed.Executed.{Executed}
use Rattle.osek_base.specs.declared.ids.Owner.{Owner}
use Rattle.osek_base.specs.Lists.{same_owner}
use Rattle.osek_base.specs.Proper.{IsProper}
use Rattle.osek_base.specs.Separable.{Separable}
use Rattle.osek_base.specs.Service.{task_state}
use Rattle.osek_base.specs.System.{System}
use Rattle.osek_base.specs.Trace.{arriving, run}
use Rattle.osek_base.specs.Upper.{is_upper_task}
use Rattle.law_runs.proofs.Foremost.{equal, self_equal}
use Rattle.partition_check.proofs.Shared.{IsLayered}
use Rattle.seen_ticks.specs.declared.task_seen.TaskSeen.{TaskSeen}
use Rattle.seen_ticks.specs.Observed.{Ticked, is_by, owner_of, state_seen, task_seen, tick_at}
use Rattle.view_figures.specs.FigureSums.{levels_of, lower_executes}
use Rattle.law_figures.specs.Blocking.{stands_ready}
use Rattle.law_upper.specs.Above.{AreOneAbove, IsUpperTask}
use Rattle.law_upper.specs.StatesAbove.{executes, executing_at}
use Rattle.law_upper.proofs.Sides.{run_beside, upper_back}
use Rattle.law_upper.specs.ShownAbove.{is_blocked}
use Rattle.law_upper.proofs.Below.{known, none_ready}
use Rattle.law_upper.proofs.Levels.{lower_same}
use Rattle.law_upper.proofs.OneTick.{at_is, by_is}

-- ---- one system

module _ (S : System) (p : ℕ) (proper : IsProper S) (separable : Separable S p) (mode : ℕ)
    (arrivals : List Arrival) (n : ℕ) (going : (run S mode arrivals n).state.over ≡ false) where
  abbrev here : Ticked
  here = tick_at S mode arrivals n

  layered : IsLayered S p (run S mode arrivals n).state
  layered = (run_beside S p proper separable mode arrivals n).layered

  -- who executes while an upper task stands ready is of the upper part
  upper_runs : (u t : ℕ) → is_by (Owner.Task u) here.executed ≡ true → IsUpperTask S p t
      → stands_ready (task_seen S here t).state ≡ true → IsUpperTask S p u
  upper_runs u t by is stands =
      record {
        known =
            known S p proper separable (arriving arrivals n) (run S mode arrivals n).state layered
            u runs;
        upper = go (is_upper_task S p u) refl;
      }
    where
      runs : executes (executing_at S mode arrivals n) (Owner.Task u) ≡ true
      runs = sym (by_is S proper mode arrivals n going (Owner.Task u)) ∙ by

      state_is : stands_ready (task_seen S here t).state
          ≡ stands_ready (state_seen (is_by (Owner.Task t) here.executed)
          (task_state (executing_at S mode arrivals n) t))
      state_is =
          ap (λ s. stands_ready (state_seen (is_by (Owner.Task t) here.executed) (task_state s t)))
          (at_is S proper mode arrivals n going)

      go : (b : Bool) → is_upper_task S p u ≡ b → is_upper_task S p u ≡ true
      go true h = h
      go false h =
          absurd (true≢false (sym stands ∙ state_is
          ∙ none_ready S p proper separable (arriving arrivals n) (run S mode arrivals n).state
          layered u t runs h is.known is.upper (is_by (Owner.Task t) here.executed)))

-- ---- who executes in two systems

-- whether an owner is that one
abbrev runs_as : Owner → Option Owner → Bool
runs_as who None = false
runs_as who (Some other) = same_owner who other

runs_is : (who : Owner) (told : Option Executed)
    → is_by who told ≡ runs_as who (option_map owner_of told)
runs_is who None = refl
runs_is who (Some e) = refl

module _ (S B : System) (p : ℕ) (pair : AreOneAbove S B p) where
  abbrev AreUpper : System → Option Owner → Type 0
  AreUpper T o = (u : ℕ) → runs_as (Owner.Task u) o ≡ true → IsUpperTask T p u

  abbrev RunAlike : Option Owner → Option Owner → Type 0
  RunAlike o other =
      (u : ℕ) → IsUpperTask S p u → runs_as (Owner.Task u) o ≡ runs_as (Owner.Task u) other

  nobody_there : (o : Option Owner) (u : ℕ) → AreUpper B (Some (Owner.Task u))
      → RunAlike o (Some (Owner.Task u)) → runs_as (Owner.Task u) o ≡ false → ⊥
  nobody_there o u upper same none =
      let is : IsUpperTask S p u = upper_back S B p pair u (upper u (self_equal u)) in
      true≢false (sym (self_equal u) ∙ sym (same u is) ∙ none)

  lower_of : (t : ℕ) → IsUpperTask S p t → (o other : Option Owner)
      → AreUpper S o → AreUpper B other → RunAlike o other
      → lower_executes (levels_of S) o t ≡ lower_executes (levels_of B) other t
  lower_of t is None None upper there same = refl
  lower_of t is None (Some (Owner.Routine i)) upper there same = refl
  lower_of t is None (Some (Owner.Task u)) upper there same =
      absurd (nobody_there None u there same refl)
  lower_of t is (Some (Owner.Routine j)) None upper there same = refl
  lower_of t is (Some (Owner.Routine j)) (Some (Owner.Routine i)) upper there same = refl
  lower_of t is (Some (Owner.Routine j)) (Some (Owner.Task u)) upper there same =
      absurd (nobody_there (Some (Owner.Routine j)) u there same refl)
  lower_of t is (Some (Owner.Task u)) None upper there same =
      absurd (true≢false (sym (self_equal u) ∙ same u (upper u (self_equal u))))
  lower_of t is (Some (Owner.Task u)) (Some (Owner.Routine i)) upper there same =
      absurd (true≢false (sym (self_equal u) ∙ same u (upper u (self_equal u))))
  lower_of t is (Some (Owner.Task u)) (Some (Owner.Task v)) upper there same =
      let is_u : IsUpperTask S p u = upper u (self_equal u) in
      let one : u ≡ v = equal u v (sym (same u is_u) ∙ self_equal u) in
      subst (λ w. lower_executes (levels_of S) (Some (Owner.Task u)) t
      ≡ lower_executes (levels_of B) (Some (Owner.Task w)) t) one
      (lower_same S B p pair u t is_u is)

-- ---- a tick of both

module _ (S B : System) (p : ℕ) (pair : AreOneAbove S B p) (mode : ℕ)
    (arrivals : List Arrival) (n : ℕ) (going : (run S mode arrivals n).state.over ≡ false)
    (going_there : (run B mode arrivals n).state.over ≡ false) where
  abbrev mine : Ticked
  mine = tick_at S mode arrivals n

  abbrev theirs : Ticked
  theirs = tick_at B mode arrivals n

  abbrev who_here : Option Owner
  who_here = option_map owner_of mine.executed

  abbrev who_there : Option Owner
  who_there = option_map owner_of theirs.executed

  -- upper tasks execute in both or in none
  abbrev ExecuteAlike : Type 0
  ExecuteAlike =
      (u : ℕ) → IsUpperTask S p u
      → is_by (Owner.Task u) mine.executed ≡ is_by (Owner.Task u) theirs.executed

  module _ (alike : ExecuteAlike) (t : ℕ) (is : IsUpperTask S p t) (there : IsUpperTask B p t)
      (same : task_seen S mine t ≡ task_seen B theirs t) where
    runs_alike : (u : ℕ) → IsUpperTask S p u
        → runs_as (Owner.Task u) who_here ≡ runs_as (Owner.Task u) who_there
    runs_alike u upper =
        sym (runs_is (Owner.Task u) mine.executed) ∙ alike u upper
        ∙ runs_is (Owner.Task u) theirs.executed

    ready_same : stands_ready (task_seen S mine t).state ≡ stands_ready (task_seen B theirs t).state
    ready_same = ap (λ (x : TaskSeen). stands_ready x.state) same

    pub blocked_same : is_blocked S mine t ≡ is_blocked B theirs t
    blocked_same =
        ap (λ (b : Bool). b && lower_executes (levels_of S) who_here t) ready_same
        ∙ go (stands_ready (task_seen B theirs t).state) refl
      where
        go : (b : Bool) → stands_ready (task_seen B theirs t).state ≡ b
            → (b && lower_executes (levels_of S) who_here t)
            ≡ (b && lower_executes (levels_of B) who_there t)
        go false e = refl
        go true e =
            lower_of S B p pair t is who_here who_there
            (λ u runs. upper_runs S p pair.proper pair.separable mode arrivals n going u t
            (runs_is (Owner.Task u) mine.executed ∙ runs) is (ready_same ∙ e))
            (λ u runs. upper_runs B p pair.proper_there pair.separable_there mode arrivals n
            going_there u t (runs_is (Owner.Task u) theirs.executed ∙ runs) there e)
            runs_alike
