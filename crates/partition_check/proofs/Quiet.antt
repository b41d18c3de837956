-- Arrivals and the start of a routine keep the layers.
use Rattle.std.proofs.Common.{◌≡◌, ℕ, Bool, true, false, cond, refl, arith}
use Rattle.std.specs.Prelude.{Option, Some, None, List}
use Rattle.osek_base.specs.System.{System}
use Rattle.osek_base.specs.State.{State, may_dispatch}
use Rattle.osek_base.specs.Tick.{arrival_phase, start_phase, routine_choice, routine_started}
use Rattle.partition_check.proofs.Shared.{IsLayered, as_layered}

pub arrival_layered : (S : System) (p : ℕ) (arrived : List ℕ) (s : State) → IsLayered S p s → IsLayered S p (arrival_phase arrived s)
arrival_layered S p arrived s layered =
    as_layered S p s (arrival_phase arrived s) (refl, refl, refl, refl, refl) layered.jobs layered.quiet layered

-- with no routine active after it there was none before
was_idle : (s : State) (o : Option ℕ) (b : Bool) → (cond b (routine_started o s) s).active ≡ None → s.active ≡ None
was_idle s None true h = h
was_idle s (Some i) true h = absurd (grind arith)
was_idle s o false h = h

pub start_layered : (S : System) (p : ℕ) (s : State) → IsLayered S p s → IsLayered S p (start_phase S s)
unfolding start_phase
start_layered S p s layered =
    as_layered S p s (start_phase S s) (refl, refl, refl, refl, refl) layered.jobs (λ id e low idle. layered.quiet id e low (was_idle s (routine_choice S s) (may_dispatch s) idle)) layered

-- so does a tick more
pub ticked_layered : (S : System) (p n : ℕ) (s : State) → IsLayered S p s → IsLayered S p (record s { tick = n })
ticked_layered S p n s layered =
    as_layered S p s (record s { tick = n }) (refl, refl, refl, refl, refl) layered.jobs layered.quiet layered
