-- What the kernel does to the stamps of jobs is right, in every run.
use Rattle.std.specs.Prelude.{ℕ, suc, ◌≡◌, false, List}
use Rattle.osek_base.specs.declared.arrivals.Arrival.{Arrival}
use Rattle.osek_base.specs.System.{System}
use Rattle.osek_base.specs.Proper.{IsProper}
use Rattle.osek_base.specs.Trace.{arriving, run}
use Rattle.law_kept.specs.Kept.{kept}
use Rattle.law_blockers.specs.Steps.{step_at}
use Rattle.law_blockers.specs.Stamps.{stamps_in, stamps_of}
use Rattle.law_blockers.specs.Restamping.{StampLists, before_restamped, after_restamped, AreListed}

-- up to the instruction of a tick
abbrev pub ListsBefore : Type 0
ListsBefore =
    (S : System) (mode : ℕ) (arrivals : List Arrival) (n : ℕ) (xs : StampLists) → IsProper S
    → (run S mode arrivals n).state.over ≡ false
    → AreListed S xs (stamps_of S mode arrivals n) (run S mode arrivals n).state
    → AreListed S (before_restamped S n (arriving arrivals n) (kept S (run S mode arrivals n).state) xs)
    (stamps_in S mode arrivals n (stamps_of S mode arrivals n)) (step_at S mode arrivals n).executing

-- and from there to the next tick
abbrev pub ListsBehind : Type 0
ListsBehind =
    (S : System) (mode : ℕ) (arrivals : List Arrival) (n : ℕ) (xs : StampLists) → IsProper S
    → (run S mode arrivals n).state.over ≡ false
    → AreListed S xs (stamps_in S mode arrivals n (stamps_of S mode arrivals n)) (step_at S mode arrivals n).executing
    → AreListed S (after_restamped S (suc n) (kept S (step_at S mode arrivals n).executing) xs)
    (stamps_of S mode arrivals (suc n)) (run S mode arrivals (suc n)).state
