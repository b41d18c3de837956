-- A run, one tick further, where its ticks are counted by a sum.
use Rattle.std.proofs.Common.{◌≡◌, ℕ, zero, suc, ◌+◌, true, false, List, sym, ◌∙◌, ap, arith}
use Rattle.std.proofs.Math.Numerals.{add-one}
use Rattle.osek_base.specs.declared.arrivals.Arrival.{Arrival}
use Rattle.osek_base.specs.System.{System}
use Rattle.osek_base.specs.Tick.{tick}
use Rattle.osek_base.specs.Trace.{Run, arriving, run, step_added}
use Rattle.law_runs.proofs.RunSteps.{one_more-going, one_more-over, going_before}
pub use Rattle.law_runs.proofs.RunSteps.{run_suc, run_tick, tick_zero}

-- a run that isn't over has one step more after one tick more
pub run_more : (S : System) (mode : ℕ) (arrivals : List Arrival) (n : ℕ) → (run S mode arrivals n).state.over ≡ false
    → run S mode arrivals (n + 1)
    ≡ step_added (run S mode arrivals n) (tick S (arriving arrivals (run S mode arrivals n).state.tick) (run S mode arrivals n).state)
run_more S mode arrivals n going =
    ap (run S mode arrivals) (add-one n) ∙ run_suc S mode arrivals n ∙ one_more-going S arrivals (run S mode arrivals n) going

-- a run that is over stays as it is
pub run_over : (S : System) (mode : ℕ) (arrivals : List Arrival) (n : ℕ) → (run S mode arrivals n).state.over ≡ true
    → run S mode arrivals (n + 1) ≡ run S mode arrivals n
run_over S mode arrivals n over =
    ap (run S mode arrivals) (add-one n) ∙ run_suc S mode arrivals n ∙ one_more-over S arrivals (run S mode arrivals n) over

-- whatever number of ticks follows
pub run_stays : (S : System) (mode : ℕ) (arrivals : List Arrival) (n more : ℕ) → (run S mode arrivals n).state.over ≡ true
    → run S mode arrivals (n + more) ≡ run S mode arrivals n
run_stays S mode arrivals n zero over = let e : n + 0 ≡ n = omega arith in ap (run S mode arrivals) e
run_stays S mode arrivals n (suc more) over =
    let e : n + suc more ≡ n + more + 1 = omega arith in
    let same : run S mode arrivals (n + more) ≡ run S mode arrivals n = run_stays S mode arrivals n more over in
    ap (run S mode arrivals) e
    ∙ run_over S mode arrivals (n + more) (ap (λ (r : Run). r.state.over) same ∙ over) ∙ same

-- a run that isn't over wasn't so a tick before
pub going_earlier : (S : System) (mode : ℕ) (arrivals : List Arrival) (n : ℕ) → (run S mode arrivals (n + 1)).state.over ≡ false
    → (run S mode arrivals n).state.over ≡ false
going_earlier S mode arrivals n later =
    going_before S mode arrivals n (ap (λ k. (run S mode arrivals k).state.over) (sym (add-one n)) ∙ later)
