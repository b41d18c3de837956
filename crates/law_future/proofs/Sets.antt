-- Each choice of routines is a set of them.
use Rattle.std.proofs.Common.{ℕ, zero, suc, ◌≡◌, ◌<◌, ◌+◌, ◌*◌, ◌/◌, ◌^◌, Bool, true, false, refl, ◌∙◌, ap, arith}
use Rattle.std.specs.Prelude.{◌==◌}
use Rattle.std.specs.Int.{bit_at}
use Rattle.std.proofs.Math.Nat.{pow-suc}
use Rattle.std.proofs.lemmas.Nat.Bits.{bit_at_lowest, bit_at-suc}
use Rattle.law_runs.specs.Jobs.{one_if}
use Rattle.law_future.specs.Masks.{is_in_set}

-- ---- the number of a set

pub set_of : (ℕ → Bool) → ℕ → ℕ
set_of chosen zero = 0
set_of chosen (suc n) = one_if (chosen 0) + 2 * set_of (λ i. chosen (suc i)) n

one_low : (b : Bool) → one_if b < 2
one_low true = omega arith
one_low false = omega arith

pub set_low : (chosen : ℕ → Bool) (n : ℕ) → set_of chosen n < 2 ^ n
unfolding set_of
set_low chosen zero = omega arith
set_low chosen (suc n) =
    let rest = set_low (λ i. chosen (suc i)) n in
    let one = one_low (chosen 0) in
    let more = pow-suc 2 n in
    omega (arith, rest, one, more)

set_bit : (chosen : ℕ → Bool) (n i : ℕ) → i < n → bit_at (set_of chosen n) i ≡ one_if (chosen i)
unfolding set_of
set_bit chosen zero i low = absurd (omega (arith, low))
set_bit chosen (suc n) zero low =
    let one = one_low (chosen 0) in
    bit_at_lowest (set_of chosen (suc n)) ∙ omega (arith, one)
set_bit chosen (suc n) (suc i) low =
    let one = one_low (chosen 0) in
    let half : (one_if (chosen 0) + 2 * set_of (λ k. chosen (suc k)) n) / 2 ≡ set_of (λ k. chosen (suc k)) n = omega (arith, one) in
    bit_at-suc (set_of chosen (suc n)) i ∙ ap (λ m. bit_at m i) half ∙ set_bit (λ k. chosen (suc k)) n i (omega (arith, low))

one_is : (b : Bool) → (one_if b == 1) ≡ b
one_is true = refl
one_is false = refl

pub set_has : (chosen : ℕ → Bool) (n i : ℕ) → i < n → is_in_set (set_of chosen n) i ≡ chosen i
set_has chosen n i low = ap (λ m. m == 1) (set_bit chosen n i low) ∙ one_is (chosen i)
