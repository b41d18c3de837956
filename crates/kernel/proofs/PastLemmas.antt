-- What is told of a run depends on what arrives in its ticks alone.
use Rattle.std.proofs.Common.{◌≡◌, ℕ, zero, suc, ◌+◌, ◌≤◌, Bool, true, false, cond, List, refl, sym, ◌∙◌, ap, ap₂, subst, arith}
use Rattle.osek_base.specs.declared.arrivals.Arrival.{Arrival}
use Rattle.osek_base.specs.System.{System}
use Rattle.osek_base.specs.Blocker.{executing_job}
use Rattle.osek_base.specs.Tick.{Step, tick}
use Rattle.osek_base.specs.Trace.{Run, arriving, run, with_earlier}
use Rattle.osek_base.proofs.FrameLemmas.{tick_tick}
use Rattle.law_runs.specs.Arrived.{HaveOnePast}
use Rattle.law_runs.proofs.Arriving.{depends_on_the_past}
use Rattle.law_runs.proofs.Between.{at_level}
use Rattle.std.proofs.Math.Numerals.{add-one}
use Rattle.law_kept.specs.Kept.{kept}
use Rattle.law_blockers.specs.Steps.{next_step, step_at}
use Rattle.law_blockers.specs.Stamps.{Stamps, levels_of, spent, stamped, stamps_of}
use Rattle.law_blockers.specs.Restamping.{AreListed}
use Rattle.law_blockers.proofs.StepLemmas.{run_more, run_over, tick_zero}
use Rattle.kernel.specs.Machine.{IsAt, Machine}

-- the number of the next tick is at most that of the ticks
tick_more : (S : System) (mode : ℕ) (a : List Arrival) (n : ℕ) (over : Bool) → (run S mode a n).state.over ≡ over → (run S mode a n).state.tick ≤ n
    → (run S mode a (suc n)).state.tick ≤ suc n
tick_more S mode a n true is low =
    let same : (run S mode a (suc n)).state.tick ≡ (run S mode a n).state.tick =
    ap (λ k. (run S mode a k).state.tick) (sym (add-one n)) ∙ ap (λ (r : Run). r.state.tick) (run_over S mode a n is) in
    omega (arith, same, low)
tick_more S mode a n false is low =
    let more : (run S mode a (suc n)).state.tick ≡ (run S mode a n).state.tick + 1 =
    ap (λ k. (run S mode a k).state.tick) (sym (add-one n)) ∙ ap (λ (r : Run). r.state.tick) (run_more S mode a n is)
    ∙ tick_tick S (arriving a (run S mode a n).state.tick) (run S mode a n).state in
    omega (arith, more, low)

tick_low : (S : System) (mode : ℕ) (a : List Arrival) (n : ℕ) → (run S mode a n).state.tick ≤ n
tick_low S mode a zero = let none = tick_zero S mode a in omega (arith, none)
tick_low S mode a (suc n) = tick_more S mode a n (run S mode a n).state.over refl (tick_low S mode a n)

module _ (S : System) (mode : ℕ) (a b : List Arrival) where
  shorter : (n : ℕ) → HaveOnePast (suc n) a b → HaveOnePast n a b
  shorter n past t low = past t (omega arith)

  step_same : (n : ℕ) → HaveOnePast (suc n) a b → step_at S mode a n ≡ step_at S mode b n
  step_same n past =
      let r : Run = run S mode a n in
      let low = tick_low S mode a n in
      ap (λ v. with_earlier r.unwritten (tick S v r.state)) (past r.state.tick (omega (arith, low)))
      ∙ ap (next_step S b) (depends_on_the_past S mode a b n (shorter n past))

  abbrev stamps_more : ℕ → Step → Run → Stamps → Stamps
  stamps_more t step r p = stamped step.executing step.after (suc t) (spent (executing_job step) (stamped r.state step.executing t p))

  stamps_same : (n : ℕ) → HaveOnePast n a b → stamps_of S mode a n ≡ stamps_of S mode b n
  stamps_same zero past = refl
  stamps_same (suc t) past =
      ap (λ (step : Step). stamps_more t step (run S mode a t) (stamps_of S mode a t)) (step_same t past)
      ∙ ap₂ (λ (r : Run) (p : Stamps). stamps_more t (step_at S mode b t) r p)
      (depends_on_the_past S mode a b t (shorter t past)) (stamps_same t (shorter t past))

  levels_same : (n l : ℕ) → HaveOnePast n a b → levels_of S mode a n l ≡ levels_of S mode b n l
  levels_same zero l past = refl
  levels_same (suc t) l past =
      ap₂ (λ (step : Step) (v : ℕ). cond (at_level S l step) (suc t) v) (step_same t past) (levels_same t l (shorter t past))

  -- a machine that the run under some arrivals has come to, that under others with the same past has come to
  pub at_past : (counted : Bool) (n : ℕ) (m : Machine) → HaveOnePast n a b → IsAt counted S mode a n m → IsAt counted S mode b n m
  at_past counted n m past h =
      let runs : run S mode a n ≡ run S mode b n = depends_on_the_past S mode a b n past in
      record {
        system = h.system;
        same = h.same ∙ ap (λ (r : Run). kept S r.state) runs;
        unwritten = h.unwritten ∙ ap (λ (r : Run). r.unwritten) runs;
        stamped = λ on.
            subst (λ (r : Run). AreListed S m.blocking.stamps (stamps_of S mode b n) r.state) runs
            (subst (λ p. AreListed S m.blocking.stamps p (run S mode a n).state) (stamps_same n past) (h.stamped on));
        levels = λ on. record {
          count = (h.levels on).count;
          each = λ l low. (h.levels on).each l low ∙ levels_same n l past;
        };
      }
