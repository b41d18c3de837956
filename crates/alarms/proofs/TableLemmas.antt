-- Lists over all alarms by number.
use Rattle.std.proofs.Common.{ℕ, zero, suc, ◌≡◌, ◌<◌, ◌≤◌, ◌+◌, ◌-◌, [], ◌∷◌, map, length, get_or, ◌*◌, ◌%◌, ◌^◌, Bool, true, false, ◌||◌, eqb, bit_or, inl, inr, refl, sym, ◌∙◌, ap, arith}
use Rattle.std.proofs.Math.Numerals.{add-one}
use Rattle.std.proofs.Math.Nat.{sub_self}
use Rattle.std.specs.List.{filter}
use Rattle.std.proofs.lemmas.List.{map-append, length-append, length-map, get_or-append_right, get_or_append_left}
use Rattle.std.proofs.lemmas.List.Elements.{filter-append}
use Rattle.std.proofs.lemmas.List.Sums.{length-filter, count_by-le-length}
use Rattle.std.proofs.Math.Bool.{or-false, or-true}
use Rattle.std.proofs.lemmas.Bool.{cases_lt, cases_eq, ne_eqb}
use Rattle.std.proofs.lemmas.Bool.Decides.{nat_tests}
use Rattle.std.proofs.lemmas.Nat.Bits.{bit_at-zero, bit_at_set_same, bit_at_set_other}
use Rattle.std.specs.Int.{w64}
use Rattle.osek_base.specs.declared.limits.TheConstants.{MAX_ALARMS}
use Rattle.osek_base.specs.Lists.{below}
use Rattle.alarms.specs.Waits.{is_raised}

pub length-below : (n : ℕ) → length (below n) ≡ n
length-below zero = refl
length-below (suc n) = length-append (below n) (n ∷ []) ∙ (ap (λ m. m + 1) (length-below n) ∙ add-one n)

pub length-map-below : {X : Type 0} (f : ℕ → X) (n : ℕ) → length (map f (below n)) ≡ n
length-map-below f n = length-map (below n) f ∙ length-below n

-- two functions that agree below n
pub map_same : {X : Type 0} (f g : ℕ → X) (n : ℕ) → ((i : ℕ) → i < n → f i ≡ g i) → map f (below n) ≡ map g (below n)
map_same f g zero same = refl
map_same f g (suc n) same =
    let before = map_same f g n (λ i low. same i (omega arith)) in
    rw (map-append f (below n) (n ∷ []), map-append g (below n) (n ∷ []), before, same n (omega arith)) refl

filter_one : (p q : ℕ → Bool) (n : ℕ) → p n ≡ q n → filter p (n ∷ []) ≡ filter q (n ∷ [])
filter_one p q n same = rw same refl

pub filter_same : (p q : ℕ → Bool) (n : ℕ) → ((i : ℕ) → i < n → p i ≡ q i) → filter p (below n) ≡ filter q (below n)
filter_same p q zero same = refl
filter_same p q (suc n) same =
    let before = filter_same p q n (λ i low. same i (omega arith)) in
    let last = filter_one p q n (same n (omega arith)) in
    rw (filter-append p (below n) (n ∷ []), filter-append q (below n) (n ∷ []), before, last) refl

here : {X : Type 0} (f : ℕ → X) (d : X) (n : ℕ) → get_or (f n ∷ []) (n - n) d ≡ f n
here f d n = rw (sub_self n) refl

-- the element at a place
pub at_below : {X : Type 0} (f : ℕ → X) (d : X) (n i : ℕ) → i < n → get_or (map f (below n)) i d ≡ f i
at_below f d zero i low = absurd (omega arith)
at_below f d (suc n) i low =
    let len : length (map f (below n)) ≡ n = length-map-below f n in
    elim (cases_lt i n) [
      | inl before ↦ rw map-append (get_or_append_left (map f (below n)) (f n ∷ []) d i (omega arith) ∙ at_below f d n i before)
      | inr last ↦
          let is : i ≡ n = omega arith in
          rw (is, map-append) (get_or-append_right (map f (below n)) (f n ∷ []) n n d len (omega arith) ∙ here f d n)
    ]

pub length-due : (test : ℕ → Bool) (n : ℕ) → length (filter test (below n)) ≤ n
length-due test n =
    omega (arith, length-filter test (below n), count_by-le-length test (below n), length-below n)

-- no bit is set
pub none_raised : (a : ℕ) → is_raised a 0 ≡ false
none_raised a = rw (bit_at-zero a) refl

pub none_listed : (flags : ℕ) (n : ℕ) → ((a : ℕ) → is_raised a flags ≡ false) → filter (λ a. is_raised a flags) (below n) ≡ []
none_listed flags zero none = refl
none_listed flags (suc n) none =
    rw (filter-append (λ a. is_raised a flags) (below n) (n ∷ []), none_listed flags n none, none n) refl

eqb-same : (n : ℕ) → eqb n n ≡ true
eqb-same n = grind (arith, nat_tests)

-- one bit more is set
pub one_raised : (word b a : ℕ) → b < MAX_ALARMS → is_raised a (bit_or word (1 * 2 ^ b % 2 ^ 64)) ≡ (is_raised a word || eqb b a)
one_raised word b a low = elim (cases_eq a b) [
  | inl is ↦
      let bit : is_raised a (bit_or word (1 * 2 ^ b % 2 ^ 64)) ≡ true = rw (is, bit_at_set_same w64 word b low) refl in
      let same : eqb b a ≡ true = rw is (eqb-same b) in
      rw (bit, same) (sym (or-true (is_raised a word)))
  | inr other ↦
      let bit : is_raised a (bit_or word (1 * 2 ^ b % 2 ^ 64)) ≡ is_raised a word = rw (bit_at_set_other w64 word b low a other) refl in
      let away : eqb b a ≡ false = ne_eqb b a (λ (e : b ≡ a). other (sym e)) in
      rw (bit, away) (sym (or-false (is_raised a word)))
]
