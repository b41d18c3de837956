-- OSEK/VDX OS: interrupt processing. The age of a pending interrupt: for how many ticks it pends,
-- the present one counted.
use Rattle.std.specs.Prelude.{ℕ, suc, ◌≡◌, ◌<◌, ◌≤◌, ◌-◌, ◌^◌, List, ◌∷◌, cond, ◌||◌, Option, Some, None}
use Rattle.std.specs.List.{AllByRecursion}
use Rattle.std.specs.Option.{option_map}
use Rattle.view_figures.specs.declared.routine_figures.RoutineTick.{RoutineTick}
use Rattle.view_figures.specs.RoutineSums.{pending_age, routine_figures}
use Rattle.law_figures.specs.Labels.{Label, label_after, AreNumbered, reached, IsGreatest, IsOrder, ShowsNoLess}

-- the age in a tick, before a start clears the flag
abbrev pub pending_in : RoutineTick → Option ℕ → Option ℕ
pending_in r None = cond (r.seen.is_pending || r.seen.is_started) (Some 1) None
pending_in r (Some n) = Some (suc n)

abbrev pub pending_next : RoutineTick → Option ℕ → Option ℕ
pending_next r age = cond r.seen.is_started None (pending_in r age)

abbrev pub pending : Label RoutineTick (Option ℕ)
pending = record { first = None; next = pending_next }

-- what is shown in a tick: the latency, where the routine is started
abbrev pub start_latency : RoutineTick → Option ℕ → Option ℕ
start_latency r age = cond r.seen.is_started (option_map (λ n. n - 1) (pending_in r age)) None

abbrev pub tick_of : RoutineTick → ℕ
tick_of r = r.tick

-- an age that is at least another, or where there is none
abbrev pub IsOlder : Option ℕ → Option ℕ → Type 0
IsOlder age None = Unit {0}
IsOlder None (Some n) = ⊥
IsOlder (Some m) (Some n) = n ≤ m

-- ---- laws

-- the greatest latency is that which labels show
abbrev pub LatenciesAreAges : Type 0
LatenciesAreAges =
    (seen : List RoutineTick) → AreNumbered tick_of seen
    → AllByRecursion (λ r. r.tick < 2 ^ 32) seen
    → IsGreatest pending tick_of start_latency seen (routine_figures seen).latency

-- an interrupt that pends is as old as its label
abbrev pub PendingIsAge : Type 0
PendingIsAge =
    (r : RoutineTick) (before : List RoutineTick) → AreNumbered tick_of (r ∷ before)
    → pending_age r.tick (routine_figures (r ∷ before)).pending_since
    ≡ reached r.tick (label_after pending (r ∷ before))

-- an older age stays older, and shows no less
pub record PendingKeepsOrder : Type 0 where
  pub order : IsOrder pending IsOlder
  pub pending : ShowsNoLess IsOlder pending_in
  pub latency : ShowsNoLess IsOlder start_latency
