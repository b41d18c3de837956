-- What isn't refused sets an increment of 1 at least, and a cycle of MINCYCLE at least, or none.
use Rattle.std.proofs.Common.{ℕ, ◌≡◌, ◌<◌, inl, inr, Bool, true, false, not, ◌&&◌, ◌||◌, [], ◌∷◌, refl, arith}
use Rattle.std.specs.Prelude.{Some, ◌==◌, nat_lt}
use Rattle.std.proofs.lemmas.Bool.{cases_lt, eqb-false, eqb-true, ltb-false, or_parts}
use Rattle.osek_base.specs.declared.instr.Service.{Service}
use Rattle.osek_base.specs.declared.status.Status.{Status}
use Rattle.osek_base.specs.declared.task.Counter.{Counter}
use Rattle.osek_base.specs.Alarm.{is_bad_cycle}
use Rattle.osek_base.specs.Service.{Caller, answer, first_refusal, in_use, service}
use Rattle.osek_base.specs.State.{State, interrupts_off}
use Rattle.osek_base.specs.System.{System, counter_of}
use Rattle.osek_base.specs.Tick.{executor}
use Rattle.osek_base.specs.Types.{ServiceCall}
use Rattle.law_alarms.specs.Setting.{HasTimes, IsSlow, ServedHaveTimes}

pub some_of : (n : ℕ) → (n == 0) ≡ false → 0 < n
some_of n h = elim (cases_lt 0 n) [
  | inl more ↦ more
  | inr none ↦ absurd (eqb-false n 0 h (omega (arith, none)))
]

-- the last of the refusals doesn't apply
not_bad : (off used bad : Bool)
    → answer
    (first_refusal ((off, Status.SysDisabled) ∷ (used, Status.State) ∷ (bad, Status.Value) ∷ []))
    ≡ Status.Ok → bad ≡ false
not_bad true used bad h = absurd (grind (arith, h))
not_bad false true bad h = absurd (grind (arith, h))
not_bad false false true h = absurd (grind (arith, h))
not_bad false false false h = refl

slow_cycle : (c : Counter) (cycle : ℕ) → is_bad_cycle c cycle ≡ false → IsSlow c.min_cycle cycle
slow_cycle c cycle h = go (cycle == 0) refl h
  where
    go : (b : Bool) → (cycle == 0) ≡ b
        → (not b && (nat_lt cycle c.min_cycle || nat_lt c.max_allowed_value cycle)) ≡ false
        → IsSlow c.min_cycle cycle
    go true is fine = inl (eqb-true cycle 0 is)
    go false is fine =
        let parts = or_parts (nat_lt cycle c.min_cycle) (nat_lt c.max_allowed_value cycle) fine in
        let low = ltb-false cycle c.min_cycle parts.0 in
        inr (omega (arith, low))

accepted_times : (S : System) (c : Caller) (s : State) (call : ServiceCall)
    → (service S c s call).status ≡ Status.Ok → HasTimes S call
unfolding service
accepted_times S c s (Service.SetRelAlarm (Some b) x y) h =
    let much = nat_lt (counter_of S b).max_allowed_value x in
    let bad = is_bad_cycle (counter_of S b) y in
    let parts = or_parts (x == 0 || much) bad
    (not_bad (interrupts_off s) (in_use s b) (x == 0 || much || bad) h) in
    (some_of x (or_parts (x == 0) much parts.0).0, slow_cycle (counter_of S b) y parts.1)
accepted_times S c s (Service.SetAbsAlarm (Some b) x y) h =
    let much = nat_lt (counter_of S b).max_allowed_value x in
    let bad = is_bad_cycle (counter_of S b) y in
    slow_cycle (counter_of S b) y
    (or_parts much bad (not_bad (interrupts_off s) (in_use s b) (much || bad) h)).1
accepted_times S c s _ h = tt

pub served_have_times : ServedHaveTimes
served_have_times S s call served = accepted_times S (executor s) s call served.accepted
