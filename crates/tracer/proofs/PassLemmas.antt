-- How a tick passes that is done only if the run isn't over.
use Rattle.std.proofs.Common.{◌≡◌, ℕ, ◌+◌, ◌<◌, ◌≤◌, Bool, true, false, true≢false, ◌||◌, List, ◌++◌, Option, Result, Ok, Err, arith, ap, sym, subst, ◌∙◌}
use Rattle.std.specs.Prelude.{nat_le}
use Rattle.std.specs.Result.{IsErrAnd}
use Rattle.osek_base.specs.System.{System}
use Rattle.kernel.specs.Progress.{Progress, is_over, run_of}
use Rattle.sinks.specs.Sinks.{AppendsSome, Passes}
use Rattle.tracer.specs.Shown.{tick_text_shown}
use Rattle.tracer.specs.Ticks.{IsOver, PassesIfOn, TickPasses}
use Rattle.tracer.specs.declared.shown.Shown.{Shown}

-- a tick before the last one asked for
pub before_last : (n ticks : ℕ) → n < ticks → ticks ≤ 1000000 → n < 1000000
before_last n ticks below limit = omega (arith, below, limit)

-- before its last tick a run is over exactly where it was shut down
pub over_is : (r : Progress) → r.ticks < 1000000 → is_over r ≡ (run_of r).state.over
over_is r few =
    let more : nat_le 1000000 r.ticks ≡ false = grind (arith, few) in
    ap (λ b. b || (run_of r).state.over) more

pub alive : (r : Progress) → r.ticks < 1000000 → (run_of r).state.over ≡ false → is_over r ≡ false
alive r few on = over_is r few ∙ on

-- a sink and a block that are what they were before
pub carried : {X : Type 0} (taken : X → Option (List ℕ)) (a : Option (List ℕ)) (new mid : X) (p waits held told : List ℕ) → new ≡ mid
    → waits ≡ held → Passes a (taken mid) p held told → Passes a (taken new) p waits told
carried taken a new mid p waits held told same_sink same_block h =
    subst (λ w. Passes a (taken new) p w told) (sym same_block) (subst (λ x. Passes a (taken x) p held told) (sym same_sink) h)

module _ {X E : Type 0} (taken : X → Option (List ℕ)) (has_failed : X → Bool) (V : System) (shown : Shown) (r after : Progress)
    (old new : X) (waited waits : List ℕ) where
  -- a tick was done, and all of it passed
  pub went_on : (mid : X) (held told : List ℕ) → (run_of r).state.over ≡ false → after ≡ record r { ticks = r.ticks + 1 } → new ≡ mid
      → waits ≡ held → told ≡ tick_text_shown V shown r.system r.mode r.arrivals r.ticks → Passes (taken old) (taken mid) waited held told
      → has_failed mid ≡ has_failed old → PassesIfOn {X = X} {E = E} taken has_failed V shown r after old new waited waits (Ok true)
  went_on mid held told on next same_sink same_block text written still =
      record {
        on = on;
        puts = record {
          written =
              subst (Passes (taken old) (taken new) waited waits) text
              (carried taken (taken old) new mid waited waits held told same_sink same_block written);
          beginning = tt;
          still = ap has_failed same_sink ∙ still;
          failed = tt;
        };
        next = next;
      }

  -- a tick was done, and a write failed
  pub stopped : (Q : E → Type 0) (answer : Result Bool E) → IsErrAnd answer Q → (run_of r).state.over ≡ false
      → after ≡ record r { ticks = r.ticks + 1 }
      → AppendsSome (taken old) (taken new) (waited ++ tick_text_shown V shown r.system r.mode r.arrivals r.ticks) → has_failed new ≡ true
      → PassesIfOn {X = X} {E = E} taken has_failed V shown r after old new waited waits answer
  stopped Q (Ok b) h on next part failed = absurd h
  stopped Q (Err e) h on next part failed =
      record { on = on; puts = record { written = tt; beginning = part; still = tt; failed = failed }; next = next }

  -- the answer says which it was
  pub was_done : (done : Bool) → done ≡ true → PassesIfOn {X = X} {E = E} taken has_failed V shown r after old new waited waits (Ok done)
      → TickPasses {X = X} {T = Bool} {E = E} taken has_failed V shown r after old new waited waits (Ok true)
  was_done true is h = h
  was_done false is h = absurd (true≢false (sym is))

pub was_over : {X : Type 0} (E : Type 0) (taken : X → Option (List ℕ)) (has_failed : X → Bool) (V : System) (shown : Shown) (r after : Progress)
    (old new : X) (waited waits : List ℕ) (done : Bool) → done ≡ false
    → PassesIfOn {X = X} {E = E} taken has_failed V shown r after old new waited waits (Ok done) → IsOver r after old new waited waits
was_over E taken has_failed V shown r after old new waited waits false is h = h
was_over E taken has_failed V shown r after old new waited waits true is h = absurd (true≢false is)
