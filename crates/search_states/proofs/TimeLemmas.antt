-- The counts that alarms have left when the clock goes on.
use Rattle.std.proofs.Common.{ℕ, ◌≡◌, ◌≤◌, ◌-◌, ◌*◌, ◌/◌, refl, ◌∙◌, ap, ap₂, subst, arith}
use Rattle.std.specs.Prelude.{Option, Some, None, slice_index_or}
use Rattle.std.specs.Option.{option_map}
use Rattle.osek_base.specs.System.{System, counter_of}
use Rattle.osek_base.specs.State.{Expiry}
use Rattle.alarms.specs.Alarms.{cycle_of}
use Rattle.law_kept.specs.Kept.{Kept}
use Rattle.law_kept.specs.KeptService.{bare}
use Rattle.law_kept.specs.Seen.{counts_from, counts_left}
use Rattle.law_future.specs.Relative.{counted_from, left_of}
use Rattle.search_keys.specs.Bytes.{optional}
use Rattle.search_keys.specs.Key.{alarm_key, expiry_key}
use Rattle.search_states.specs.Parts.{at_tick, count_of, left_key, less_by}
use Rattle.std.proofs.Math.Nat.{div-mul-le_self}
use Rattle.std.proofs.lemmas.Nat.{le-div}

fewer : (c p n : ℕ) → p ≤ n → (c - p) - (n - p) ≡ c - n
fewer c p n before = omega (arith, before)

-- a count never falls
grows : (k n : ℕ) → 1 ≤ k → (n - 1) / k ≤ n / k
grows k n some =
    let before : (n - 1) / k * k ≤ n - 1 = div-mul-le_self (n - 1) k in
    le-div ((n - 1) / k) n k (omega (arith, some)) (omega (arith, before))

later : (e : Option Expiry) (p n : ℕ) → p ≤ n
    → less_by (n - p) (counts_from p e) ≡ option_map count_of (counted_from n e)
later None p n before = refl
later (Some e) p n before = ap Some (fewer e.count p n before)

-- what an alarm has left at a tick, by what it had at the one before
pub left_later : (S T : System) (o : Kept) (tick base a passed : ℕ) (left : Option ℕ)
    → T ≡ S → o.tick ≡ tick - 1 → 1 ≤ base → base ≡ (counter_of S a).ticks_per_base
    → left ≡ counts_left T (bare o) a → passed ≡ tick / base - (tick - 1) / base
    → less_by passed left ≡ option_map count_of (left_of S (at_tick tick o) a)
left_later S T o tick base a passed left same clock some is_base is_left is_passed =
    let b = (counter_of S a).ticks_per_base in
    let e = slice_index_or o.alarms a None in
    let passed_is : passed ≡ tick / b - (tick - 1) / b =
    is_passed ∙ ap (λ (k : ℕ). tick / k - (tick - 1) / k) is_base in
    let left_is : left ≡ counts_from ((tick - 1) / b) e =
    is_left ∙ ap (λ (R : System). counts_left R (bare o) a) same
    ∙ ap (λ (t : ℕ). counts_from (t / b) e) clock in
    let some_ticks : 1 ≤ b = subst (λ (k : ℕ). 1 ≤ k) is_base some in
    ap₂ less_by passed_is left_is
    ∙ later e ((tick - 1) / b) (tick / b) (grows b tick some_ticks)

left_bytes : (e : Option Expiry) (n : ℕ)
    → left_key (option_map count_of (counted_from n e)) (cycle_of e)
    ≡ optional expiry_key (counted_from n e)
left_bytes None n = refl
left_bytes (Some e) n = refl

-- an alarm is written by what it has left and its cycle
pub alarm_bytes : (S : System) (o : Kept) (a : ℕ) (left cycle : Option ℕ)
    → left ≡ option_map count_of (left_of S o a) → cycle ≡ cycle_of (slice_index_or o.alarms a None)
    → left_key left cycle ≡ alarm_key S o a
alarm_bytes S o a left cycle is_left is_cycle =
    ap₂ left_key is_left is_cycle
    ∙ left_bytes (slice_index_or o.alarms a None) (o.tick / (counter_of S a).ticks_per_base)
