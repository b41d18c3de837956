-- OSEK/VDX OS: resource management, priority inversion. Observations that tell how many blockers
-- tasks have.
use Rattle.std.specs.Prelude.{ℕ, ◌≡◌, IfSome, List, Some}
use Rattle.std.specs.List.{AllByRecursion}
use Rattle.osek_base.specs.declared.arrivals.Arrival.{Arrival}
use Rattle.osek_base.specs.BlockingText.{blockers_at}
use Rattle.osek_base.specs.System.{System}
use Rattle.seen_ticks.specs.declared.observation.Observation.{Observation}

-- where an observation of a run tells a number of blockers, it is that of its tick
abbrev pub TellBlockers : System → ℕ → List Arrival → List Observation → Type 0
TellBlockers S mode arrivals seen =
    AllByRecursion
    (λ (o : Observation). IfSome o.blockers (λ m. blockers_at S mode arrivals o.tick ≡ Some m)) seen
