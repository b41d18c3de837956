-- Who executed last did so before the tick that comes next.
use Rattle.std.proofs.Common.{ℕ, zero, suc, ◌≡◌, ◌≤◌, ◌+◌, Bool, true, false, cond, List, length, nat_lt, slice_index_or, refl, sym, subst, arith}
use Rattle.std.proofs.lemmas.List.{get_or_past}
use Rattle.osek_base.specs.declared.arrivals.Arrival.{Arrival}
use Rattle.osek_base.specs.declared.limits.TheConstants.{MAX_TASK_PRIORITY}
use Rattle.osek_base.specs.declared.trace_event.TraceEvent.{TraceEvent}
use Rattle.osek_base.specs.System.{System}
use Rattle.law_runs.proofs.Between.{at_level}
use Rattle.law_blockers.specs.Stamps.{levels_of}
use Rattle.law_blockers.specs.Steps.{step_at}
use Rattle.kernel.specs.declared.acted.Acted.{Acted}
use Rattle.kernel.specs.Machine.{AreLast, IsMachine, between}
use Rattle.kernel.specs.Stamping.{Told}
use Rattle.kernel.specs.Watches.{IsLater, Watched}

low_if : (b : Bool) (t before : ℕ) → before ≤ t → cond b (suc t) before ≤ suc t
low_if true t before less = omega arith
low_if false t before less = omega (arith, less)

levels_low : (S : System) (mode : ℕ) (arrivals : List Arrival) (n l : ℕ) → levels_of S mode arrivals n l ≤ n
levels_low S mode arrivals zero l = omega arith
levels_low S mode arrivals (suc t) l =
    low_if (at_level S l (step_at S mode arrivals t)) t (levels_of S mode arrivals t l) (levels_low S mode arrivals t l)

module _ (S : System) (mode : ℕ) (arrivals : List Arrival) (n : ℕ) (last : List ℕ) (are : AreLast S mode arrivals n last) where
  none_later : (l : ℕ) → slice_index_or last l 0 ≤ n
  none_later l = go (nat_lt MAX_TASK_PRIORITY l) refl
    where
      go : (b : Bool) → nat_lt MAX_TASK_PRIORITY l ≡ b → slice_index_or last l 0 ≤ n
      go true e =
          let beyond : MAX_TASK_PRIORITY + 1 ≤ l = grind (arith, e) in
          subst (λ v. v ≤ n) (sym (get_or_past last l 0 (subst (λ k. k ≤ l) (sym are.count) beyond))) (omega arith)
      go false e =
          let inside : l ≤ MAX_TASK_PRIORITY = grind (arith, e) in
          subst (λ v. v ≤ n) (sym (are.each l inside)) (levels_low S mode arrivals n l)

-- what is told of levels stays before the instruction of a tick
pub comes_later : (counted : Bool) (clock : ℕ) (w : Watched) (n : ℕ) (opening : List TraceEvent) (acted : Acted)
    → IsMachine counted clock (between w n opening acted) → (told : Told) → told ≡ w.blocking.told → counted ≡ true → IsLater n told
comes_later counted clock w n opening acted h told same on =
    subst (IsLater n) (sym same)
    (none_later _ h.of_run.mode h.of_run.arrivals n w.blocking.told.last (h.of_run.come.at.levels on) w.blocking.told.level)
