-- The routines that are free by rules, as a set, and the debts that bytes tell.
use Rattle.std.proofs.Common.{ℕ, zero, suc, ◌≡◌, ◌≢◌, ◌<◌, ◌≤◌, ◌+◌, ◌-◌, ◌*◌, ◌%◌, ◌^◌, Bool, true, false, List, [], ◌∷◌, drop, get_or, length, add-one, refl, sym, ◌∙◌, ap, subst, arith, inl, inr, w64}
use Rattle.std.proofs.Math.Nat.{mod-le}
use Rattle.std.proofs.lemmas.Bool.{cases_eq, cases_lt, ltb-false, ltb-true}
use Rattle.std.proofs.lemmas.Grind.{pow_more}
use Rattle.std.proofs.lemmas.Nat.{and_le_l, or_lt, pow_pos}
use Rattle.std.proofs.lemmas.Nat.Bits.{bit_at-lt, bit_at_above, bit_at_and, bit_at_clear_other, bit_at_clear_same, bit_at_set_same, bit_at_set_other}
use Rattle.std.specs.Prelude.{nat_lt}
use Rattle.std.specs.Int.{bit_at, bit_not}
use Rattle.std.specs.Int.Bits.{bit_and, bit_or}
use Rattle.arrival_rules.specs.declared.rule.ArrivalRule.{ArrivalRule}
use Rattle.arrival_rules.specs.Rules.{rule_at}
use Rattle.search_keys.specs.Taken.{taken_count, taken_number}
use Rattle.search_packed.specs.Unpacked.{taken_many, taken_debt, unpacked}

abbrev head_of : List ℕ → ℕ
head_of [] = 0
head_of (n ∷ ns) = n

abbrev tail_of : List ℕ → List ℕ
tail_of [] = []
tail_of (n ∷ ns) = ns

-- ---- sets of routines

pub record AreAll (n set : ℕ) : Type 0 where
  pub all : (i : ℕ) → i < n → bit_at set i ≡ 1
  pub low : set < 2 ^ n

pub none_yet : AreAll 0 0
none_yet = record {
  all = λ i low. absurd (omega (arith, low));
  low = omega arith;
}

pub one_more : (n set : ℕ) → AreAll n set → n < 64
    → AreAll (n + 1) (bit_or set (1 * 2 ^ n % 2 ^ 64))
one_more n set are inside = record {
  all = λ i low.
      elim (cases_eq i n) [
        | inl e ↦ ap (bit_at with_next) e ∙ bit_at_set_same w64 set n inside
        | inr ne ↦
            bit_at_set_other w64 set n inside i ne ∙ are.all i (omega (arith, low, ne))
      ];
  low =
      let double : 2 ^ (n + 1) ≡ 2 ^ n * 2 = pow_more 2 n in
      let bit : 1 * 2 ^ n % 2 ^ 64 ≤ 1 * 2 ^ n = mod-le (1 * 2 ^ n) (2 ^ 64) in
      let some = pow_pos n in
      let under = are.low in
      or_lt (n + 1) set (1 * 2 ^ n % 2 ^ 64) (omega (arith, under, double))
      (omega (arith, bit, some, double));
}
  where
    with_next : ℕ
    with_next = bit_or set (1 * 2 ^ n % 2 ^ 64)

-- one taken away
module _ (set n : ℕ) (low : set < 2 ^ 64) where
  abbrev left : ℕ
  left = bit_and set (bit_not w64 (1 * 2 ^ n % 2 ^ 64))

  pub is_away : n < 64 → (i : ℕ) → bit_at left i ≡ 1 → i ≢ n
  is_away inside i is same =
      let gone = bit_at_clear_same w64 set n inside in
      let here : bit_at left n ≡ 1 = ap (bit_at left) (sym same) ∙ is in
      omega (arith, gone, here)

  pub others_stay : n < 64 → (i : ℕ) → i ≢ n → bit_at set i ≡ 1 → bit_at left i ≡ 1
  others_stay inside i apart is = elim (cases_lt i 64) [
    | inl small ↦ bit_at_clear_other w64 set n inside i small apart ∙ is
    | inr high ↦
        let none = bit_at_above set 64 i low high in
        absurd (omega (arith, none, is))
  ]

  pub no_more : (i : ℕ) → bit_at left i ≡ 1 → bit_at set i ≡ 1
  no_more i is =
      let both = bit_at_and set (bit_not w64 (1 * 2 ^ n % 2 ^ 64)) i in
      let small = bit_at-lt set i in
      omega (arith, both, is, small)

  pub is_less : left ≤ set
  is_less = and_le_l set (bit_not w64 (1 * 2 ^ n % 2 ^ 64))

-- beyond 64 nothing is in a set
pub none_beyond : (set n : ℕ) → set < 2 ^ 64 → 64 ≤ n → (i : ℕ) → bit_at set i ≡ 1 → i ≢ n
none_beyond set n low high i is same =
    let none = bit_at_above set 64 n low high in
    let here : bit_at set n ≡ 1 = ap (bit_at set) (sym same) ∙ is in
    omega (arith, none, here)

-- ---- those that are free by the first rules

-- so many rules let the routines of a set come, and no others
pub record AreFreeBy (rules : List ArrivalRule) (debts : List ℕ) (count n set : ℕ) : Type 0 where
  pub free : (i : ℕ) → bit_at set i ≡ 1 → (m : ℕ) → m < n → (rule_at rules m).routine ≡ i
      → get_or debts m 0 < (rule_at rules m).slack
  pub others : (i : ℕ) → i < count
      → ((m : ℕ) → m < n → (rule_at rules m).routine ≡ i
      → get_or debts m 0 < (rule_at rules m).slack)
      → bit_at set i ≡ 1
  pub low : set < 2 ^ count

pub free_by_none : (rules : List ArrivalRule) (debts : List ℕ) (count set : ℕ)
    → ((i : ℕ) → i < count → bit_at set i ≡ 1) → set < 2 ^ count
    → AreFreeBy rules debts count 0 set
free_by_none rules debts count set all low = record {
  free = λ i is m small. absurd (omega (arith, small));
  others = λ i inside free. all i inside;
  low = low;
}

module _ (rules : List ArrivalRule) (debts : List ℕ) (count n set : ℕ)
    (are : AreFreeBy rules debts count n set) (rule : ArrivalRule) (is : rule ≡ rule_at rules n) where
  -- the next rule lets its routine come
  pub let_come : get_or debts n 0 < rule.slack → AreFreeBy rules debts count (n + 1) set
  let_come below = record {
    free = λ i there m small same.
        elim (cases_eq m n) [
          | inl e ↦
              subst (λ k. get_or debts k 0 < (rule_at rules k).slack) (sym e)
              (subst (λ (r : ArrivalRule). get_or debts n 0 < r.slack) is below)
          | inr ne ↦ are.free i there m (omega (arith, small, ne)) same
        ];
    others = λ i inside free. are.others i inside
        (λ m small same. free m (omega (arith, small)) same);
    low = are.low;
  }

  -- the next rule keeps its routine away
  pub keep_away : (left : ℕ) → ((i : ℕ) → bit_at left i ≡ 1 → bit_at set i ≡ 1)
      → ((i : ℕ) → bit_at left i ≡ 1 → i ≢ rule.routine)
      → ((i : ℕ) → i ≢ rule.routine → bit_at set i ≡ 1 → bit_at left i ≡ 1) → left ≤ set
      → rule.slack ≤ get_or debts n 0 → AreFreeBy rules debts count (n + 1) left
  keep_away left less away stay small reached = record {
    free = λ i there m under same.
        elim (cases_eq m n) [
          | inl e ↦
              absurd (away i there
              (sym same ∙ ap (λ k. (rule_at rules k).routine) e
              ∙ ap (λ (r : ArrivalRule). r.routine) (sym is)))
          | inr ne ↦ are.free i (less i there) m (omega (arith, under, ne)) same
        ];
    others = λ i inside free.
        elim (cases_eq i rule.routine) [
          | inl e ↦
              let below = free n (omega arith)
              (ap (λ (r : ArrivalRule). r.routine) (sym is) ∙ sym e) in
              let reached_too : (rule_at rules n).slack ≤ get_or debts n 0 =
              subst (λ (r : ArrivalRule). r.slack ≤ get_or debts n 0) is reached in
              absurd (omega (arith, below, reached_too))
          | inr ne ↦
              stay i ne (are.others i inside (λ m under same. free m (omega (arith, under)) same))
        ];
    low = (let under = are.low in omega (arith, under, small));
  }

-- ---- the debts that bytes tell, one by one

-- what is left of debts once some were taken
abbrev pub IsLeft : List ℕ → ℕ → ℕ → List ℕ → Type 0
IsLeft debts told n rest = drop n debts ≡ (taken_many taken_number (told - n) rest).0

no_cons : (x : ℕ) (xs : List ℕ) → [] ≡ x ∷ xs → ⊥
no_cons x xs same = (let long = ap length same in omega (arith, long))

drop_next : (debts : List ℕ) (n debt : ℕ) (others : List ℕ) → drop n debts ≡ debt ∷ others
    → (drop (suc n) debts ≡ others) × (get_or debts n 0 ≡ debt)
drop_next [] zero debt others same = absurd (no_cons debt others same)
drop_next (x ∷ xs) zero debt others same = (ap tail_of same, ap head_of same)
drop_next [] (suc n) debt others same = absurd (no_cons debt others same)
drop_next (x ∷ xs) (suc n) debt others same = drop_next xs n debt others same

none_next : (debts : List ℕ) (n : ℕ) → drop n debts ≡ []
    → (drop (suc n) debts ≡ []) × (get_or debts n 0 ≡ 0)
none_next [] zero same = (refl, refl)
none_next (x ∷ xs) zero same = absurd (no_cons x xs (sym same))
none_next [] (suc n) same = (refl, refl)
none_next (x ∷ xs) (suc n) same = none_next xs n same

pub record IsStep (debts : List ℕ) (told n : ℕ) (rest : List ℕ) (one : ℕ × List ℕ) : Type 0 where
  pub left : IsLeft debts told (n + 1) one.1
  pub debt : get_or debts n 0 ≡ one.0

pub told_step : (debts : List ℕ) (told n : ℕ) (rest : List ℕ) → n < told → IsLeft debts told n rest
    → IsStep debts told n rest (taken_number rest)
told_step debts told n rest some left =
    let one = taken_number rest in
    let next : told - n ≡ suc (told - (n + 1)) = omega (arith, some) in
    let step = drop_next debts n one.0 (taken_many taken_number (told - (n + 1)) one.1).0
    (left ∙ ap (λ m. (taken_many taken_number m rest).0) next) in
    record { left = ap (λ m. drop m debts) (add-one n) ∙ step.0; debt = step.1 }

pub past_step : (debts : List ℕ) (told n : ℕ) (rest : List ℕ) → told ≤ n → IsLeft debts told n rest
    → IsStep debts told n rest (0, rest)
past_step debts told n rest none left =
    let no : told - n ≡ 0 = omega (arith, none) in
    let no_more : 0 ≡ told - (n + 1) = omega (arith, none) in
    let step = none_next debts n (left ∙ ap (λ m. (taken_many taken_number m rest).0) no) in
    record {
      left = ap (λ m. drop m debts) (add-one n) ∙ step.0
          ∙ ap (λ m. (taken_many taken_number m rest).0) no_more;
      debt = step.1;
    }

pub debt_step : (debts : List ℕ) (told n : ℕ) (rest : List ℕ) (b : Bool) → nat_lt n told ≡ b
    → IsLeft debts told n rest → IsStep debts told n rest (taken_debt b rest)
debt_step debts told n rest true is left = told_step debts told n rest (ltb-true n told is) left
debt_step debts told n rest false is left = past_step debts told n rest (ltb-false n told is) left

-- before the first one
pub debts_left : (bytes : List ℕ) (told : ℕ) (rest : List ℕ) → told ≡ (taken_count bytes).0
    → rest ≡ (taken_count bytes).1 → IsLeft (unpacked bytes).debts told 0 rest
unfolding unpacked
debts_left bytes told rest many same =
    let all : told ≡ told - 0 = omega arith in
    ap (λ m. (taken_many taken_number m (taken_count bytes).1).0) (sym many ∙ all)
    ∙ ap (λ v. (taken_many taken_number (told - 0) v).0) (sym same)
