-- The alarms whose bits are set, one after another.
use Rattle.std.proofs.Common.{ℕ, zero, suc, ◌≡◌, ◌<◌, ◌≤◌, ◌+◌, ◌-◌, ◌/◌, ◌%◌, ◌^◌, List, [], ◌∷◌, ◌++◌, Option, None, Some, Bool, true, false, eqb, inl, inr, refl, sym, ◌∙◌, ap, arith, w64}
use Rattle.std.specs.List.{filter}
use Rattle.std.specs.Option.{MatchOption}
use Rattle.std.specs.Int.{bit_at, trailing_zeros}
use Rattle.std.proofs.lemmas.Nat.{shr-shr}
use Rattle.std.proofs.lemmas.Nat.Bits.{bit_at-zero, bit_at-trailing_zeros}
use Rattle.std.proofs.lemmas.List.{append-nil}
use Rattle.std.proofs.lemmas.List.Elements.{filter-append}
use Rattle.std.proofs.lemmas.Bool.{cases_lt}
use Rattle.osek_base.specs.Lists.{below}
use Rattle.alarms.specs.Waits.{AreNoneRaised, IsFirstRaised, is_raised}

-- a bit behind a shift
shifted : (word from a : ℕ) → from ≤ a → bit_at word a ≡ bit_at (word / 2 ^ from) (a - from)
shifted word from a more =
    let e : a ≡ from + (a - from) = omega (arith, more) in
    ap (bit_at word) e ∙ sym (ap (λ x. x % 2) (shr-shr word from (a - from)))

pub none_left : (word from to : ℕ) → word / 2 ^ from ≡ 0 → AreNoneRaised word from to
none_left word from to none a more low =
    ap (λ b. eqb b 1) (shifted word from a more ∙ ap (λ n. bit_at n (a - from)) none ∙ bit_at-zero (a - from))

module _ (word from left : ℕ) (is : left ≡ word / 2 ^ from) (some : left ≡ 0 → ⊥) (fits : left < 2 ^ 64) where
  at : (a : ℕ) → from ≤ a → bit_at word a ≡ bit_at left (a - from)
  at a more = shifted word from a more ∙ ap (λ v. bit_at v (a - from)) (sym is)

  none_before : AreNoneRaised word from (from + trailing_zeros w64 left)
  none_before a more before =
      let least = bit_at-trailing_zeros w64 left (omega (arith, some)) fits in
      ap (λ b. eqb b 1) (at a more ∙ least.2 (a - from) (omega (arith, more, before)))

  pub first_raised : (to : ℕ) → from + trailing_zeros w64 left < to → IsFirstRaised word from to (from + trailing_zeros w64 left)
  first_raised to low =
      let least = bit_at-trailing_zeros w64 left (omega (arith, some)) fits in
      let e : from + trailing_zeros w64 left - from ≡ trailing_zeros w64 left = omega arith in
      record {
        from_on = omega arith;
        before = low;
        raised = ap (λ b. eqb b 1) (at (from + trailing_zeros w64 left) (omega arith) ∙ (ap (bit_at left) e ∙ least.1));
        none = none_before;
      }

  pub none_so_far : (to : ℕ) → to ≤ from + trailing_zeros w64 left → AreNoneRaised word from to
  none_so_far to low a more before = none_before a more (omega arith)

-- ---- what is listed

filter_away : (p : ℕ → Bool) (n : ℕ) → p n ≡ false → filter p (n ∷ []) ≡ []
filter_away p n away = rw away refl

filter_here : (p : ℕ → Bool) (n : ℕ) → p n ≡ true → filter p (n ∷ []) ≡ n ∷ []
filter_here p n here = rw here refl

pub skipped : (word from to : ℕ) → from ≤ to → AreNoneRaised word from to
    → filter (λ a. is_raised a word) (below to) ≡ filter (λ a. is_raised a word) (below from)
skipped word from zero more none =
    let e : 0 ≡ from = omega arith in
    ap (λ n. filter (λ a. is_raised a word) (below n)) e
skipped word from (suc to) more none = elim (cases_lt to from) [
  | inl low ↦
      let e : suc to ≡ from = omega arith in
      ap (λ n. filter (λ a. is_raised a word) (below n)) e
  | inr high ↦
      filter-append (λ a. is_raised a word) (below to) (to ∷ [])
      ∙ (ap (λ xs. filter (λ a. is_raised a word) (below to) ++ xs) (filter_away (λ a. is_raised a word) to (none to high (omega arith)))
      ∙ (append-nil (filter (λ a. is_raised a word) (below to)) ∙ skipped word from to high (λ a more before. none a more (omega arith))))
]

-- all before an alarm that is due are listed
pub record AreListed (word count : ℕ) (due : List ℕ) (a : ℕ) : Type 0 where
  pub before : a < count
  pub raised : is_raised a word ≡ true
  pub listed : due ≡ filter (λ b. is_raised b word) (below a)

-- what is listed where this is the next alarm that is due, if there is one
abbrev pub AreListedUpTo : ℕ → ℕ → List ℕ → Option ℕ → Type 0
AreListedUpTo word count due next = MatchOption next (due ≡ filter (λ b. is_raised b word) (below count)) (AreListed word count due)

abbrev pub IsNext : ℕ → ℕ → ℕ → Option ℕ → Type 0
IsNext word from count next = MatchOption next (AreNoneRaised word from count) (IsFirstRaised word from count)

pub listed_up_to : (word from count : ℕ) (due : List ℕ) (next : Option ℕ) → from ≤ count → due ≡ filter (λ b. is_raised b word) (below from)
    → IsNext word from count next → AreListedUpTo word count due next
listed_up_to word from count due None low is none = is ∙ sym (skipped word from count low none)
listed_up_to word from count due (Some a) low is first = record {
  before = first.before;
  raised = first.raised;
  listed = is ∙ sym (skipped word from a first.from_on first.none);
}

pub listed_more : (word count : ℕ) (due : List ℕ) (a : ℕ) → AreListed word count due a
    → due ++ a ∷ [] ≡ filter (λ b. is_raised b word) (below (a + 1))
listed_more word count due a done =
    let more : suc a ≡ a + 1 = omega arith in
    ap (λ xs. xs ++ a ∷ []) done.listed
    ∙ (ap (λ xs. filter (λ b. is_raised b word) (below a) ++ xs) (sym (filter_here (λ b. is_raised b word) a done.raised))
    ∙ (sym (filter-append (λ b. is_raised b word) (below a) (a ∷ []))
    ∙ ap (λ n. filter (λ b. is_raised b word) (below n)) more))

-- how many numbers are left from the next one on
abbrev pub left_from : ℕ → Option ℕ → ℕ
left_from count None = 0
left_from count (Some a) = count - a
