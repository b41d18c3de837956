-- Numbers of a set, one after another.
use Rattle.std.proofs.Common.{ℕ, zero, suc, ◌≡◌, ◌<◌, ◌≤◌, ◌+◌, ◌-◌, ◌*◌, ◌/◌, ◌%◌, ◌^◌, Bool, true, false, List, [], ◌++◌, sym, ◌∙◌, ap, ap₂, arith, inl, inr, w64}
use Rattle.std.proofs.lemmas.List.{append-nil}
use Rattle.std.proofs.lemmas.Nat.{shr-shr}
use Rattle.std.proofs.lemmas.Nat.Bits.{bit_at-zero, bit_at-trailing_zeros, bit_at_above, bit_at_set_same, bit_at_set_other}
use Rattle.std.proofs.lemmas.Bool.{cases_eq, cases_lt, true≢false}
use Rattle.std.specs.Prelude.{◌==◌}
use Rattle.std.specs.Int.{bit_at, trailing_zeros}
use Rattle.std.specs.Int.Bits.{bit_or}
use Rattle.search_needs.specs.Table.{has}
use Rattle.osek_base.specs.declared.limits.TheConstants.{WINDOW_WORDS}
use Rattle.search_keys.specs.Bytes.{each, needed}
use Rattle.search_states.specs.Sets.{HasNone, IsNext}
use Rattle.search_states.proofs.Steps.{none_yet, written_as}

-- ---- the next number of a set

-- a bit behind a shift
shifted : (set from i : ℕ) → from ≤ i → bit_at set i ≡ bit_at (set / 2 ^ from) (i - from)
shifted set from i more =
    let e : i ≡ from + (i - from) = omega (arith, more) in
    ap (bit_at set) e ∙ sym (ap (λ x. x % 2) (shr-shr set from (i - from)))

is_zero : (b : ℕ) → b ≡ 0 → (b == 1) ≡ false
is_zero b e = ap (λ x. x == 1) e

is_one : (b : ℕ) → b ≡ 1 → (b == 1) ≡ true
is_one b e = ap (λ x. x == 1) e

pub none_left : (set from : ℕ) → set / 2 ^ from ≡ 0 → HasNone set from 64
none_left set from none i more low =
    is_zero _
    (shifted set from i more ∙ ap (λ n. bit_at n (i - from)) none ∙ bit_at-zero (i - from))

pub lowest : (set from left : ℕ) → left ≡ set / 2 ^ from → (left ≡ 0 → ⊥) → left < 2 ^ 64
    → set < 2 ^ 64 → IsNext set from (from + trailing_zeros w64 left)
lowest set from left is some fits small =
    let least = bit_at-trailing_zeros w64 left (omega (arith, some)) fits in
    let n = from + trailing_zeros w64 left in
    let at : (i : ℕ) → from ≤ i → bit_at set i ≡ bit_at left (i - from) =
    λ i more. shifted set from i more ∙ ap (λ v. bit_at v (i - from)) (sym is) in
    let e : n - from ≡ trailing_zeros w64 left = omega arith in
    let one : bit_at set n ≡ 1 = at n (omega arith) ∙ ap (bit_at left) e ∙ least.1 in
    record {
      from_on = omega arith;
      low = elim (cases_lt n 64) [
        | inl lt ↦ lt
        | inr le ↦ absurd (omega (arith, one, bit_at_above set 64 n small le))
      ];
      inside = is_one _ one;
      none = λ i more before.
          is_zero _ (at i more ∙ least.2 (i - from) (omega (arith, more, before)));
    }

-- ---- one more number

abbrev with_one : ℕ → ℕ → ℕ
with_one set n = bit_or set (1 * 2 ^ n % 2 ^ 64)

has_one : (set n : ℕ) → n < 64 → has (with_one set n) n ≡ true
has_one set n low = is_one _ (bit_at_set_same w64 set n low)

module _ (set n : ℕ) (low : n < 64) where
  -- a number that isn't in it wasn't before
  pub out_before : (i : ℕ) → has (with_one set n) i ≡ false → has set i ≡ false
  out_before i out =
      elim (cases_eq i n) [
        | inl e ↦
            absurd (true≢false (sym (has_one set n low) ∙ ap (has (with_one set n)) (sym e) ∙ out))
        | inr ne ↦ ap (λ b. b == 1) (sym (bit_at_set_other w64 set n low i ne)) ∙ out
      ]

  -- and is another one
  pub out_other : (i : ℕ) → i < 64 → has (with_one set n) i ≡ false → n ≡ i → ⊥
  out_other i small out e =
      true≢false (sym (has_one set n low) ∙ ap (has (with_one set n)) e ∙ out)

-- ---- what is written of it

none_between : (part : ℕ → List ℕ) (from to : ℕ) → from ≤ to
    → ((i : ℕ) → from ≤ i → i < to → part i ≡ []) → each to part ≡ each from part
unfolding each
none_between part from zero more none =
    let e : 0 ≡ from = omega (arith, more) in ap (λ n. each n part) e
none_between part from (suc to) more none =
    elim (cases_lt to from) [
      | inl lt ↦ let e : suc to ≡ from = omega (arith, lt, more) in ap (λ n. each n part) e
      | inr le ↦
          ap₂ (λ xs ys. xs ++ ys)
          (none_between part from to le (λ i low high. none i low (omega (arith, high))))
          (none to le (omega arith)) ∙ append-nil _
    ]

module _ (old : List ℕ) (set from : ℕ) (part : ℕ → List ℕ)
    (nothing : (i : ℕ) → i < 64 → has set i ≡ false → part i ≡ []) where
  -- the next number of a set is written
  pub written_next : (out new bytes : List ℕ) (n m : ℕ) → IsNext set from n → new ≡ out ++ bytes
      → bytes ≡ part n → out ≡ old ++ each from part → m ≡ suc n → new ≡ old ++ each m part
  written_next out new bytes n m next step same before more =
      let skipped = none_between part from n next.from_on
      (λ i more before. nothing i (omega (arith, before, next.low)) (next.none i more before)) in
      written_as old out new bytes part n m step same
      (before ∙ ap (λ xs. old ++ xs) (sym skipped)) more

  -- no number is left below a limit
  pub written_below : (out : List ℕ) (limit : ℕ) → limit ≤ 64 → from ≤ limit
      → HasNone set from limit → out ≡ old ++ each from part → out ≡ old ++ each limit part
  written_below out limit few low none before =
      before ∙ ap (λ xs. old ++ xs)
      (sym
      (none_between part from limit low
      (λ i more high. nothing i (omega (arith, high, few)) (none i more high))))

  -- no number is left
  pub written_all : (out : List ℕ) → from ≤ 64 → HasNone set from 64
      → out ≡ old ++ each from part → out ≡ old ++ each 64 part
  written_all out low none before = written_below out 64 (omega arith) low none before

-- nothing is written of a window of which no word is needed
pub no_words : (old : List ℕ) (need : ℕ → Bool) (words : ℕ → ℕ) (set : ℕ) → set ≡ 0
    → ((i : ℕ) → need i ≡ has set i) → old ≡ old ++ each WINDOW_WORDS (λ i. needed (need i) (words i))
no_words old need words set none same =
    let unneeded : (i : ℕ) → need i ≡ false =
    λ i. same i ∙ ap (λ s. has s i) none ∙ is_zero _ (bit_at-zero i) in
    none_yet old (λ i. needed (need i) (words i))
    ∙ ap (λ xs. old ++ xs)
    (sym
    (none_between (λ i. needed (need i) (words i)) 0 WINDOW_WORDS (omega arith)
    (λ i low high. ap (λ b. needed b (words i)) (unneeded i))))
