-- What a node tells of refusals is so, and the first that applies is among those that it tells.
use Rattle.std.proofs.Common.{◌≡◌, ℕ, Bool, true, false, cond, not, ◌&&◌, ◌||◌, nat_le, List, [], ◌∷◌, refl, sym, ◌∙◌, ap}
use Rattle.std.specs.Prelude.{Option, Some, None}
use Rattle.std.specs.List.{list_any}
use Rattle.std.proofs.lemmas.Bool.{not-false}
use Rattle.osek_base.specs.declared.ids.ResId.{ResId}
use Rattle.osek_base.specs.declared.instr.Service.{Service}
use Rattle.osek_base.specs.declared.status.Status.{Status}
use Rattle.osek_base.specs.Activation.{is_full}
use Rattle.osek_base.specs.Instruction.{Context, value}
use Rattle.osek_base.specs.Service.{Caller, by_routine, caller_holds, caller_may_take, first_refusal, got_last, holds_any, is_above_ceiling, is_basic_caller, is_own_task, is_suspended, refusals}
use Rattle.osek_base.specs.State.{State, interrupts_off}
use Rattle.osek_base.specs.System.{System, activation_of}
use Rattle.osek_base.specs.Tick.{at_values}
use Rattle.osek_base.specs.Types.{ServiceCall}
use Rattle.law_costs.specs.Known.{ExcludesOthers}
use Rattle.law_nodes.specs.Services.{at_least, at_most, first_refusals, is_bad_increment, is_bad_start, refusals_of}
use Rattle.law_nodes.specs.Values.{known, of_known}
use Rattle.law_nodes.proofs.Tests.{first_of, second_of}
use Rattle.law_nodes.proofs.Knowing.{AreValues, IsValue, of_known_is, value_known}

-- ---- refusals and what is told of them

-- each is told where none before it applies
abbrev pub AreTold : List (Option Bool × Status) → List (Bool × Status) → Type 0
AreTold [] [] = Unit {0}
AreTold (t ∷ ts) (r ∷ rs) = IsValue t.0 r.0 × (t.1 ≡ r.1) × (r.0 ≡ false → AreTold ts rs)
AreTold _ _ = ⊥

module _ (passes : Option Status → Bool) where
  -- what passes of the first that applies passes of one that is told
  pub first_told : (ts : List (Option Bool × Status)) (rs : List (Bool × Status)) → AreTold ts rs
      → passes (first_refusal rs) ≡ true → list_any passes (first_refusals ts) ≡ true
  first_told [] [] told h = first_of (passes None) false h
  first_told [] (r ∷ rs) told h = absurd told
  first_told (t ∷ ts) [] told h = absurd told
  first_told ((None, e) ∷ ts) ((b, f) ∷ rs) told h =
      go b h (λ passed. first_told ts rs (told.2 passed))
    where
      go : (b : Bool) → passes (cond b (Some f) (first_refusal rs)) ≡ true
          → (b ≡ false → passes (first_refusal rs) ≡ true
          → list_any passes (first_refusals ts) ≡ true)
          → (passes (Some e) || list_any passes (first_refusals ts)) ≡ true
      go true k rest =
          first_of (passes (Some e)) (list_any passes (first_refusals ts))
          (ap (λ s. passes (Some s)) told.1 ∙ k)
      go false k rest =
          second_of (passes (Some e)) (list_any passes (first_refusals ts)) (rest refl k)
  first_told ((Some true, e) ∷ ts) ((b, f) ∷ rs) told h =
      first_of (passes (Some e)) false
      (ap (λ s. passes (Some s)) told.1
      ∙ ap (λ c. passes (cond c (Some f) (first_refusal rs))) told.0 ∙ h)
  first_told ((Some false, e) ∷ ts) ((b, f) ∷ rs) told h =
      first_told ts rs (told.2 (sym told.0))
      (ap (λ c. passes (cond c (Some f) (first_refusal rs))) told.0 ∙ h)

-- ---- tests of a caller

-- a caller of whom is told what tests see of another one that calls in a state
pub record TellsOf (S : System) (s : State) (c who : Caller) : Type 0 where
  pub routine : by_routine c ≡ by_routine who
  pub any : holds_any c ≡ holds_any who
  pub own : (t : ℕ) → is_own_task c t ≡ is_own_task who t
  pub basic : is_basic_caller S c ≡ is_basic_caller S who
  pub take : (r : ResId) → caller_may_take S c r ≡ caller_may_take S who r
  pub above : (r : ResId) → is_above_ceiling S c r ≡ is_above_ceiling S who r
  pub last : (r : ResId) → got_last c r ≡ got_last who r
  pub held : (r : ResId) → caller_holds c r ≡ caller_holds who r
  -- nobody else holds what it may take; its task has a job, as many as it may where that is one
  pub alone : ExcludesOthers S c s
  pub there : (t : ℕ) → is_own_task c t ≡ true → is_suspended s t ≡ false
  pub full : (t : ℕ) → (is_own_task c t && nat_le (activation_of S t) 1) ≡ true
      → is_full S s t ≡ true

at_least_is : (b r : Bool) → (b ≡ true → r ≡ true) → IsValue (at_least b) r
at_least_is true r h = sym (h refl)
at_least_is false r h = tt

at_most_is : (b r : Bool) → (b ≡ true → r ≡ false) → IsValue (at_most (not b)) r
at_most_is true r h = sym (h refl)
at_most_is false r h = tt

module _ (S : System) (s : State) (c who : Caller) (tells : TellsOf S s c who) (x : Context)
    (registers : List (Option ℕ)) (all : AreValues registers x.registers) where
  both_known : {X : Type 0} (f : ℕ → ℕ → X) (a b : ℕ)
      → IsValue (of_known f (known registers a) (known registers b)) (f (value x a) (value x b))
  both_known f a b =
      of_known_is f (known registers a) (known registers b) (value x a) (value x b)
      (value_known registers x.registers all a) (value_known registers x.registers all b)

  chain_limit : (t : ℕ)
      → IsValue (at_most (not (is_own_task c t))) (not (is_own_task who t) && is_full S s t)
  chain_limit t =
      at_most_is (is_own_task c t) (not (is_own_task who t) && is_full S s t)
      (λ own. ap (λ b. not b && is_full S s t) (sym (tells.own t) ∙ own))

  is_there : (t : ℕ) → IsValue (at_most (not (is_own_task c t))) (is_suspended s t)
  is_there t = at_most_is (is_own_task c t) (is_suspended s t) (tells.there t)

  pub refusals_told : interrupts_off s ≡ false → (call : ServiceCall)
      → AreTold (refusals_of S c registers call) (refusals S who s (at_values x call))
  refusals_told on (Service.ActivateTask None) = (refl, refl, λ _. tt)
  refusals_told on (Service.ActivateTask (Some t)) = (
    at_least_is (is_own_task c t && nat_le (activation_of S t) 1) (is_full S s t)
        (tells.full t),
    refl,
    λ _. tt,
  )
  refusals_told on Service.TerminateTask = (tells.routine, refl, λ _. (tells.any, refl, λ _. tt))
  refusals_told on (Service.ChainTask None) = (tells.routine, refl, λ _. (refl, refl, λ _. tt))
  refusals_told on (Service.ChainTask (Some t)) =
      (tells.routine, refl, λ _. (tells.any, refl, λ _. (chain_limit t, refl, λ _. tt)))
  refusals_told on Service.Schedule = (tells.routine, refl, λ _. (tells.any, refl, λ _. tt))
  refusals_told on Service.GetTaskId = tt
  refusals_told on (Service.GetTaskState None) = (refl, refl, λ _. tt)
  refusals_told on (Service.GetTaskState (Some t)) = tt
  refusals_told on (Service.GetResource None) = (refl, refl, λ _. tt)
  refusals_told on (Service.GetResource (Some r)) = (
    tells.routine,
    refl,
    λ _. (
      ap not (tells.take r),
      refl,
      λ listed. (
        sym
            (tells.alone on r
            (tells.take r ∙ not-false (caller_may_take S who r) listed)),
        refl,
        λ _. tt,
      ),
    ),
  )
  refusals_told on (Service.ReleaseResource None) = (refl, refl, λ _. tt)
  refusals_told on (Service.ReleaseResource (Some r)) =
      (tells.routine, refl, λ _. (tells.above r, refl, λ _. (ap not (tells.last r), refl, λ _. tt)))
  refusals_told on (Service.LoadShared None i) = (refl, refl, λ _. tt)
  refusals_told on (Service.LoadShared (Some r) i) =
      (tells.routine, refl, λ _. (refl, refl, λ _. (ap not (tells.held r), refl, λ _. tt)))
  refusals_told on (Service.StoreShared None i v) = (refl, refl, λ _. tt)
  refusals_told on (Service.StoreShared (Some r) i v) =
      (tells.routine, refl, λ _. (refl, refl, λ _. (ap not (tells.held r), refl, λ _. tt)))
  refusals_told on (Service.SetEvent None m) = (refl, refl, λ _. tt)
  refusals_told on (Service.SetEvent (Some t) m) = (refl, refl, λ _. (is_there t, refl, λ _. tt))
  refusals_told on (Service.ClearEvent m) = (tells.routine, refl, λ _. (tells.basic, refl, λ _. tt))
  refusals_told on (Service.GetEvent None) = (refl, refl, λ _. tt)
  refusals_told on (Service.GetEvent (Some t)) = (refl, refl, λ _. (is_there t, refl, λ _. tt))
  refusals_told on (Service.WaitEvent m) =
      (tells.routine, refl, λ _. (tells.basic, refl, λ _. (tells.any, refl, λ _. tt)))
  refusals_told on (Service.SetRelAlarm None increment cycle) = (refl, refl, λ _. tt)
  refusals_told on (Service.SetRelAlarm (Some a) increment cycle) =
      (tt, refl, λ _. (both_known (is_bad_increment S a) increment cycle, refl, λ _. tt))
  refusals_told on (Service.SetAbsAlarm None start cycle) = (refl, refl, λ _. tt)
  refusals_told on (Service.SetAbsAlarm (Some a) start cycle) =
      (tt, refl, λ _. (both_known (is_bad_start S a) start cycle, refl, λ _. tt))
  refusals_told on (Service.CancelAlarm None) = (refl, refl, λ _. tt)
  refusals_told on (Service.CancelAlarm (Some a)) = (tt, refl, λ _. tt)
  refusals_told on (Service.GetAlarm None) = (refl, refl, λ _. tt)
  refusals_told on (Service.GetAlarm (Some a)) = (tt, refl, λ _. tt)
  refusals_told on (Service.GetAlarmBase None) = (refl, refl, λ _. tt)
  refusals_told on (Service.GetAlarmBase (Some a)) = tt
