-- From an expiry to the next lie as many counts as boot and programs set.
use Rattle.std.proofs.Common.{ℕ, suc, ◌≡◌, ◌<◌, ◌≤◌, ◌+◌, ◌*◌, ◌/◌, inl, inr, Bool, true, false, cond, List, refl, sym, ◌∙◌, ap, subst, arith}
use Rattle.std.specs.Prelude.{Option, Some, None, ◌==◌, IfSome}
use Rattle.std.proofs.lemmas.Bool.{cases_lt, eqb-false, eqb-true, true≢false}
use Rattle.osek_base.specs.declared.arrivals.Arrival.{Arrival}
use Rattle.osek_base.specs.declared.instr.Service.{Service}
use Rattle.osek_base.specs.declared.task.Counter.{Counter}
use Rattle.osek_base.specs.Alarm.{is_due_at}
use Rattle.osek_base.specs.State.{Expiry}
use Rattle.osek_base.specs.System.{System, alarm_start_in, counter_of}
use Rattle.osek_base.specs.Trace.{first_expiry}
use Rattle.osek_base.specs.Types.{ServiceCall}
use Rattle.law_alarms.specs.Apart.{AlwaysApart, ApartAsSet, AreApart}
use Rattle.law_alarms.specs.Expiries.{base_of, expires}
use Rattle.law_alarms.specs.Setting.{AreNoSooner, IsNoSooner, IsSlow}
use Rattle.law_alarms.specs.Spaced.{IsSpaced}
use Rattle.law_alarms.proofs.Ticked.{SetsTo}
use Rattle.law_alarms.proofs.Along.{IsKept, a_cycle_on, along, expired_at, expiry_at}
use Rattle.law_alarms.proofs.Counting.{few}
use Rattle.law_alarms.proofs.Counts.{no_less, so_far, steps_on}
use Rattle.law_alarms.proofs.Due.{IsExpiring, expiring, some_ticks}
use Rattle.law_alarms.proofs.OnTime.{on_time}

-- a call that sets an alarm no sooner sets it so far ahead
far_set : (c : Counter) (a least n : ℕ) (call : ServiceCall) (e : Expiry) → IsNoSooner a least call
    → SetsTo c n a call e
    → (n + least ≤ e.count) × IsSlow least e.cycle
far_set c a least n (Service.SetRelAlarm (Some b) x y) e slow sets =
    let is = ap (λ (f : Expiry). f.count) sets.1 in
    let same = ap (λ (f : Expiry). f.cycle) sets.1 in
    let low = (slow sets.0).0 in
    (omega (arith, is, low), subst (IsSlow least) (sym same) (slow sets.0).1)
far_set c a least n (Service.SetAbsAlarm (Some b) x y) e slow sets =
    let is = ap (λ (f : Expiry). f.count) sets.1 in
    let same = ap (λ (f : Expiry). f.cycle) sets.1 in
    let low = (slow sets.0).0 in
    (omega (arith, is, low), subst (IsSlow least) (sym same) (slow sets.0).1)
far_set c a least n _ e slow sets = absurd sets

some_cycle : (least cycle : ℕ) → (cycle == 0) ≡ false → IsSlow least cycle → least ≤ cycle
some_cycle least cycle some (inl none) = absurd (eqb-false cycle 0 some none)
some_cycle least cycle some (inr slow) = slow

module _ (S : System) (mode : ℕ) (arrivals : List Arrival) (a least last : ℕ)
    (some : 0 < base_of S a) (set : AreNoSooner S mode arrivals a least last)
    (t : ℕ) (first : IsExpiring S mode arrivals a t) where
  -- at tick n: the cycle is slow, and behind tick t the alarm expires so many counts behind it
  abbrev IsFar : ℕ → Option Expiry → Type 0
  IsFar n None = Unit {0}
  IsFar n (Some e) = IsSlow least e.cycle × (t < n → t / base_of S a + least ≤ e.count)

  begins : (o : Option (ℕ × ℕ)) → IfSome o (λ start. IsSlow least start.1)
      → IsFar 0 (first_expiry o)
  begins None slow = tt
  begins (Some start) slow = (slow, λ low. absurd (omega (arith, low)))

  goes_on : (n : ℕ) (o : Option Expiry) → expiry_at S mode arrivals a n ≡ o → IsFar n o
      → IsFar (suc n) (expired_at S mode arrivals a n o)
  goes_on n None here far = tt
  goes_on n (Some e) here far = go (e.count == n / base_of S a) refl (e.cycle == 0) refl
    where
      -- tick t itself doesn't leave it
      behind : (e.count == n / base_of S a) ≡ false → t < suc n → t < n
      behind other low = elim (cases_lt t n) [
        | inl less ↦ less
        | inr more ↦
            let same : t ≡ n = omega (arith, low, more) in
            absurd
            (true≢false
            (sym first.due
            ∙ ap (λ k. is_due_at (k / base_of S a) (expiry_at S mode arrivals a k)) same
            ∙ ap (is_due_at (n / base_of S a)) here ∙ other))
      ]

      go : (b : Bool) → (e.count == n / base_of S a) ≡ b → (c : Bool) → (e.cycle == 0) ≡ c
          → IsFar (suc n) (cond b (cond c None (Some (a_cycle_on e))) (Some e))
      go true now true once = tt
      go true now false cyclic = (
        far.0,
        λ low.
            let is = eqb-true e.count (n / base_of S a) now in
            let slow = some_cycle least e.cycle cyclic far.0 in
            let more = no_less t n (base_of S a) some (omega (arith, low)) in
            omega (arith, is, slow, more),
      )
      go false now c other = (far.0, λ low. far.1 (behind now low))

  kept : IsKept S mode arrivals a IsFar last
  kept = record {
    off = λ n. tt;
    boot = begins (alarm_start_in S mode a) set.boot;
    expires = λ n below goes far. goes_on n (expiry_at S mode arrivals a n) refl far;
    set = λ n below goes call e s.
        let both = far_set (counter_of S a) a least (n / base_of S a) call e
        (set.calls n call below goes s.served) s.sets in (
          both.1,
          λ low.
              let far = both.0 in
              let more = no_less t n (base_of S a) some (omega (arith, low)) in
              omega (arith, far, more),
        );
  }

  due_far : (u : ℕ) (e : Option Expiry) → IsFar u e → t < u → is_due_at (u / base_of S a) e ≡ true
      → t / base_of S a + least ≤ u / base_of S a
  due_far u None far later due = absurd (grind (arith, due))
  due_far u (Some e) far later due =
      let is = eqb-true e.count (u / base_of S a) due in
      let low = far.1 later in
      omega (arith, is, low)

  far_on : (u : ℕ) → t < u → u ≤ last → IsExpiring S mode arrivals a u
      → t / base_of S a + least ≤ u / base_of S a
  far_on u later low x =
      due_far u (expiry_at S mode arrivals a u)
      (along S mode arrivals a x.inside IsFar last kept u low x.goes) later x.due

-- ---- the laws

module _ (S : System) (mode : ℕ) (arrivals : List Arrival) (a last : ℕ) where
  pub spaced_are_apart : (gap : ℕ) → IsSpaced (expires S mode arrivals a) gap last
      → AreApart S mode arrivals a gap last
  spaced_are_apart gap spaced = record {
    spaced = spaced;
    few = λ from count. few (expires S mode arrivals a) gap last from spaced count;
  }

pub always_apart : AlwaysApart
always_apart S mode arrivals a last proper =
    spaced_are_apart S mode arrivals a last (base_of S a)
    (λ t u later low h k.
    let x = expiring S mode arrivals a t h in
    let y = expiring S mode arrivals a u k in
    let some = some_ticks S a proper x.inside in
    steps_on t u (base_of S a) some (on_time S mode arrivals a some t x)
    (on_time S mode arrivals a some u y) later)

pub apart_as_set : ApartAsSet
apart_as_set S mode arrivals a least last proper set =
    spaced_are_apart S mode arrivals a last (least * base_of S a)
    (λ t u later low h k.
    let x = expiring S mode arrivals a t h in
    let y = expiring S mode arrivals a u k in
    let some = some_ticks S a proper x.inside in
    so_far t u (base_of S a) least (on_time S mode arrivals a some t x)
    (far_on S mode arrivals a least last some set t x u later low y))
