-- What is seen of an object, put together.
use Rattle.std.proofs.Common.{◌≡◌, cond, true, ℕ, ◌+◌, ◌-◌, ◌≤◌, Bool, false, List, [], ◌∷◌, length, sym, ◌∙◌, ap, subst, arith}
use Rattle.std.proofs.lemmas.List.{length-map}
use Rattle.osek_base.specs.declared.arrivals.Arrival.{Arrival}
use Rattle.osek_base.specs.System.{System}
use Rattle.osek_base.specs.declared.limits.TheConstants.{MAX_ARRIVALS}
use Rattle.osek_base.specs.Trace.{Run, arriving}
use Rattle.law_blockers.proofs.StepLemmas.{run_more}
use Rattle.kernel.proofs.RunLemmas.{going}
use Rattle.kernel.specs.Progress.{Progress, is_over, run_of}
use Rattle.osek_base.specs.Proper.{IsProper}
use Rattle.seen_runs.specs.Keeping.{last_tick}
use Rattle.seen_ticks.specs.Observed.{holders_seen, moved, tick_at}
use Rattle.seen_ticks.proofs.Holding.{holders_left}
use Rattle.std.specs.Prelude.{◌==◌}
use Rattle.std.specs.List.{filter}

-- what is said of the tick that comes is said of the last one behind it
pub one_on : (k new : Progress) (P : System → ℕ → List Arrival → ℕ → Type 0) → new ≡ record k { ticks = k.ticks + 1 }
    → P k.system k.mode k.arrivals k.ticks → P new.system new.mode new.arrivals (new.ticks - 1)
one_on k new P next h =
    let last : k.ticks + 1 - 1 ≡ k.ticks = omega arith in
    subst (λ (r : Progress). P r.system r.mode r.arrivals (r.ticks - 1)) (sym next)
    (subst (λ n. P k.system k.mode k.arrivals n) (sym last) h)

-- the state behind a tick
pub state_more : (k new : Progress) → new ≡ record k { ticks = k.ticks + 1 } → is_over k ≡ false
    → (run_of new).state ≡ (tick_at k.system k.mode k.arrivals k.ticks).after
state_more k new next on =
    ap (λ (r : Progress). (run_of r).state) next
    ∙ ap (λ (r : Run). r.state) (run_more k.system k.mode k.arrivals k.ticks (going k.system k.mode k.arrivals k.ticks on).on)

-- where no resource is got or released, who holds what at the instruction holds it behind the tick
pub held_on : (k new : Progress) → new ≡ record k { ticks = k.ticks + 1 } → is_over k ≡ false → IsProper k.system
    → moved new.system (last_tick new).executed ≡ false
    → holders_seen new.system (last_tick new).at ≡ holders_seen new.system (run_of new).state
held_on k new next on proper =
    one_on k new
    (λ S mode arrivals n. moved S (tick_at S mode arrivals n).executed ≡ false
    → holders_seen S (tick_at S mode arrivals n).at ≡ holders_seen S (run_of new).state) next
    (λ none. holders_left k.system proper k.mode k.arrivals k.ticks none ∙ ap (holders_seen k.system) (sym (state_more k new next on)))

fewer : {X : Type 0} (test : X → Bool) (xs : List X) → length (filter test xs) ≤ length xs
fewer test [] = omega arith
fewer test (x ∷ xs) = go (test x) (fewer test xs)
  where
    go : (b : Bool) → length (filter test xs) ≤ length xs → length (cond b (x ∷ filter test xs) (filter test xs)) ≤ length (x ∷ xs)
    go true h = omega (arith, h)
    go false h = omega (arith, h)

-- the interrupts that arrive in a tick are few
pub arriving_few : (arrivals : List Arrival) (t : ℕ) → length arrivals ≤ MAX_ARRIVALS → length (arriving arrivals t) ≤ MAX_ARRIVALS
arriving_few arrivals t few =
    let long = length-map (filter (λ (a : Arrival). a.tick == t) arrivals) (λ (a : Arrival). a.routine) in
    let less = fewer (λ (a : Arrival). a.tick == t) arrivals in
    omega (arith, long, less, few)
