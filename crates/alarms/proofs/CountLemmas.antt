-- Counts and wrapped values of a counter, and how many alarms a list has at most.
use Rattle.std.proofs.Common.{ℕ, zero, suc, ◌≡◌, ◌<◌, ◌≤◌, ◌+◌, ◌-◌, ◌%◌, List, [], ◌∷◌, map, length, Option, None, Some, true, false, cond, not, inl, inr, refl, sym, ◌∙◌, ap, arith, eqb, ltb}
use Rattle.std.specs.List.{list_all}
use Rattle.std.proofs.Math.Nat.{mod-add-mod}
use Rattle.std.proofs.lemmas.Bool.{cases_Bool, and_parts, eqb-true, ltb-true, lt-ltb, not-true}
use Rattle.std.proofs.lemmas.Bool.Decides.{nat_tests}
use Rattle.alarms.specs.Waits.{Wait, wait_of, again, is_over, expiry_at, has, are_apart, are_ahead, are_beyond, less_by, without, are_low, inserted, is_sooner, cycle_in}
use Rattle.alarms.specs.Alarms.{expired_at, cycle_of}
use Rattle.osek_base.specs.Alarm.{is_due_at}
use Rattle.alarms.proofs.ExpiryLemmas.{expiry-less, expiry-again, due-over, ahead-over, wait_of-inserted, wait_of-without, or_first, or_second}

pub not_due : (n : ℕ) (ws : List Wait) (a : ℕ) → are_ahead ws ≡ true → is_due_at n (expiry_at n (wait_of a ws)) ≡ false
not_due n ws a ahead = due-over n (wait_of a ws) ∙ ahead-over ws a ahead

-- an alarm over ticks in which its counter grows, and over ones in which it doesn't
pub grown_expiry : (c n : ℕ) (ws : List Wait) (a : ℕ) → 0 < n → are_beyond (n - 1) ws ≡ true
    → expiry_at (c + n) (again (wait_of a (map (less_by n) ws))) ≡ expired_at (c + n) (expiry_at c (wait_of a ws))
grown_expiry c n ws a some beyond =
    expiry-again (c + n) (wait_of a (map (less_by n) ws)) ∙ ap (expired_at (c + n)) (expiry-less c n ws a some beyond)

pub grown_due : (c n : ℕ) (ws : List Wait) (a : ℕ) → 0 < n → are_beyond (n - 1) ws ≡ true
    → is_over (wait_of a (map (less_by n) ws)) ≡ is_due_at (c + n) (expiry_at c (wait_of a ws))
grown_due c n ws a some beyond =
    sym (due-over (c + n) (wait_of a (map (less_by n) ws))) ∙ ap (is_due_at (c + n)) (expiry-less c n ws a some beyond)

pub stayed_expiry : (n : ℕ) (ws : List Wait) (a : ℕ) → are_ahead ws ≡ true → expiry_at n (wait_of a ws) ≡ expired_at n (expiry_at n (wait_of a ws))
stayed_expiry n ws a ahead = rw (not_due n ws a ahead) refl

-- the wrapped value of the next count
pub value_next : (n round : ℕ) → (n + 1) % round ≡ (n % round + 1) % round
value_next n round = sym (mod-add-mod n round 1)

-- ---- alarms that are apart and low are few

has-without : (ws : List Wait) (a b : ℕ) → has a ws ≡ false → has a (without b ws) ≡ false
has-without [] a b none = refl
has-without (w ∷ ws) a b none =
    let away : eqb w.alarm a ≡ false = or_first _ _ none in
    let others : has a ws ≡ false = or_second _ _ none in
    elim (cases_Bool (eqb w.alarm b)) [
      | inl found ↦ rw found others
      | inr other ↦ rw (other, away) (has-without ws a b others)
    ]

pub apart-without : (ws : List Wait) (b : ℕ) → are_apart ws ≡ true → are_apart (without b ws) ≡ true
apart-without [] b apart = refl
apart-without (w ∷ ws) b apart =
    let parts = and_parts (not (has w.alarm ws)) (are_apart ws) apart in
    let alone : has w.alarm ws ≡ false = not-true _ parts.0 in
    elim (cases_Bool (eqb w.alarm b)) [
      | inl found ↦ rw found parts.1
      | inr other ↦ rw (other, has-without ws w.alarm b alone) (apart-without ws b parts.1)
    ]

length-without : (ws : List Wait) (b : ℕ) → length ws ≤ length (without b ws) + 1
length-without [] b = omega arith
length-without (w ∷ ws) b = elim (cases_Bool (eqb w.alarm b)) [
  | inl found ↦ rw found (omega arith)
  | inr other ↦ rw other (omega (arith, length-without ws b))
]

lower : (a n : ℕ) → ltb a (suc n) ≡ true → eqb a n ≡ false → ltb a n ≡ true
lower a n low other = grind (arith, nat_tests)

lower_all : (ws : List Wait) (n : ℕ) → are_low (suc n) ws ≡ true → has n ws ≡ false → are_low n ws ≡ true
lower_all [] n low none = refl
lower_all (w ∷ ws) n low none =
    let all = and_parts (ltb w.alarm (suc n)) (are_low (suc n) ws) low in
    let other : eqb w.alarm n ≡ false = or_first _ _ none in
    let others : has n ws ≡ false = or_second _ _ none in
    rw (lower w.alarm n all.0 other) (lower_all ws n all.1 others)

pub low-without : (ws : List Wait) (n : ℕ) → are_low (suc n) ws ≡ true → are_apart ws ≡ true → are_low n (without n ws) ≡ true
low-without [] n low apart = refl
low-without (w ∷ ws) n low apart =
    let all = and_parts (ltb w.alarm (suc n)) (are_low (suc n) ws) low in
    let parts = and_parts (not (has w.alarm ws)) (are_apart ws) apart in
    let alone : has w.alarm ws ≡ false = not-true _ parts.0 in
    elim (cases_Bool (eqb w.alarm n)) [
      | inl found ↦
          let none : has n ws ≡ false = rw (eqb-true w.alarm n found) at alone in
          rw found (lower_all ws n all.1 none)
      | inr other ↦ rw (other, lower w.alarm n all.0 other) (low-without ws n all.1 parts.1)
    ]

nothing_low : (ws : List Wait) → are_low 0 ws ≡ true → length ws ≤ 0
nothing_low [] low = omega arith
nothing_low (w ∷ ws) low =
    let h : w.alarm < 0 = ltb-true w.alarm 0 (and_parts _ _ low).0 in
    absurd (omega arith)

pub few : (n : ℕ) (ws : List Wait) → are_low n ws ≡ true → are_apart ws ≡ true → length ws ≤ n
few zero ws low apart = nothing_low ws low
few (suc n) ws low apart =
    let rest = few n (without n ws) (low-without ws n low apart) (apart-without ws n apart) in
    omega (arith, rest, length-without ws n)

-- so there is room for one more
pub has_room : (n : ℕ) (ws : List Wait) (a : ℕ) → a < n → are_low n ws ≡ true → are_apart ws ≡ true → has a ws ≡ false → length ws < n
has_room n ws a low all apart none =
    let one : Wait = record { alarm = a; left = 0; cycle = 0 } in
    let first : ltb a n ≡ true = lt-ltb a n low in
    let most : length (one ∷ ws) ≤ n = few n (one ∷ ws) (rw (first, all) refl) (rw (none, apart) refl) in
    omega arith

-- ---- an alarm is set or taken off

pub ahead-inserted : (ws : List Wait) (t : Wait) → 0 < t.left → are_ahead ws ≡ true → are_ahead (inserted t ws) ≡ true
ahead-inserted [] t more ahead =
    let first : ltb 0 t.left ≡ true = lt-ltb 0 t.left more in
    rw first refl
ahead-inserted (w ∷ ws) t more ahead =
    let first : ltb 0 t.left ≡ true = lt-ltb 0 t.left more in
    let parts = and_parts (ltb 0 w.left) (are_ahead ws) ahead in
    elim (cases_Bool (list_all (is_sooner t) (w ∷ ws))) [
      | inl all ↦ rw (all, first) ahead
      | inr late ↦ rw (late, parts.0) (ahead-inserted ws t more parts.1)
    ]

pub ahead-without : (ws : List Wait) (b : ℕ) → are_ahead ws ≡ true → are_ahead (without b ws) ≡ true
ahead-without [] b ahead = refl
ahead-without (w ∷ ws) b ahead =
    let parts = and_parts (ltb 0 w.left) (are_ahead ws) ahead in
    elim (cases_Bool (eqb w.alarm b)) [
      | inl found ↦ rw found parts.1
      | inr other ↦ rw (other, parts.0) (ahead-without ws b parts.1)
    ]

pub set_expiry : (n : ℕ) (ws : List Wait) (t : Wait) (a : ℕ) → has t.alarm ws ≡ false
    → expiry_at n (wait_of a (inserted t ws)) ≡ cond (eqb t.alarm a) (Some (record { count = n + t.left; cycle = t.cycle })) (expiry_at n (wait_of a ws))
set_expiry n ws t a none = elim (cases_Bool (eqb t.alarm a)) [
  | inl here ↦
      let now : wait_of a (inserted t ws) ≡ Some t = rw here at (wait_of-inserted ws t a none) in
      rw here (ap (expiry_at n) now)
  | inr away ↦
      let now : wait_of a (inserted t ws) ≡ wait_of a ws = rw away at (wait_of-inserted ws t a none) in
      rw away (ap (expiry_at n) now)
]

pub cancelled_expiry : (n : ℕ) (ws : List Wait) (b a : ℕ) → are_apart ws ≡ true
    → expiry_at n (wait_of a (without b ws)) ≡ cond (eqb b a) None (expiry_at n (wait_of a ws))
cancelled_expiry n ws b a apart = elim (cases_Bool (eqb b a)) [
  | inl here ↦
      let now : wait_of a (without b ws) ≡ None = rw here at (wait_of-without ws b a apart) in
      rw here (ap (expiry_at n) now)
  | inr away ↦
      let now : wait_of a (without b ws) ≡ wait_of a ws = rw away at (wait_of-without ws b a apart) in
      rw away (ap (expiry_at n) now)
]

pub cycle_of_expiry : (n : ℕ) (w : Option Wait) → cycle_in w ≡ cycle_of (expiry_at n w)
cycle_of_expiry n None = refl
cycle_of_expiry n (Some w) = refl
