-- OSEK/VDX OS: interrupt processing, category 2. Within how many of its instructions a routine
-- ends.
use Rattle.std.specs.Prelude.{ℕ, zero, suc, ◌+◌, ◌≡◌, ◌<◌, ◌≤◌, true, false, List, Some, IfSome, is_some}
use Rattle.osek_base.specs.declared.arrivals.Arrival.{Arrival}
use Rattle.osek_base.specs.State.{Active, State, fresh_context}
use Rattle.osek_base.specs.System.{System}
use Rattle.osek_base.specs.Tick.{execute_phase}
use Rattle.osek_base.specs.Trace.{run}
use Rattle.law_blockers.specs.Steps.{step_at}

-- whatever state its instructions find: behind the next one the run is over, or no routine is
-- active, or one that ends within one fewer
abbrev pub EndsIn : System → ℕ → Active → Type 0
EndsIn S zero a = ⊥
EndsIn S (suc c) a =
    (s : State) → s.active ≡ Some a → (execute_phase S s).state.over ≡ false
    → IfSome (execute_phase S s).state.active (EndsIn S c)

-- a routine as it starts
abbrev pub begun : ℕ → Active
begun i = record { routine = i; context = fresh_context }

-- from the tick of its first instruction a routine is active behind each tick, up to another
pub record IsActiveSince (S : System) (mode : ℕ) (arrivals : List Arrival) (i since n : ℕ)
    : Type 0 where
  pub order : since ≤ n
  pub starts : (step_at S mode arrivals since).executing.active ≡ Some (begun i)
  pub active : (t : ℕ) → since < t → t ≤ n → is_some (run S mode arrivals t).state.active ≡ true

-- ---- the law

-- then it is for fewer ticks than it ends within
abbrev pub RoutinesEndInTime : Type 0
RoutinesEndInTime =
    (S : System) (mode : ℕ) (arrivals : List Arrival) (i c since n : ℕ) → EndsIn S c (begun i)
    → (run S mode arrivals n).state.over ≡ false → IsActiveSince S mode arrivals i since n
    → n < since + c
