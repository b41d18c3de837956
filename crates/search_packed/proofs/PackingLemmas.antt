-- Parts of labels, one behind the other, and what is left without the zeros at the end.
use Rattle.std.proofs.Common.{ℕ, ◌≡◌, ◌≤◌, ◌+◌, List, [], ◌∷◌, ◌++◌, cond, drop, get_or, length, take, arith, refl, sym, ◌∙◌, ap, ap₂, subst}
use Rattle.std.proofs.Math.Seq.{drop-append_seam, take-append_seam}
use Rattle.std.proofs.lemmas.Bool.{eq-eqb, ne_eqb}
use Rattle.std.proofs.lemmas.List.{append_assoc, length-append}
use Rattle.std.specs.List.{flat_map}
use Rattle.search_keys.specs.Bytes.{number}
use Rattle.search_keys.specs.Counts.{count_bytes}
use Rattle.search_labels.specs.Labels.{Labels}
use Rattle.search_packed.specs.Packed.{IsAdded, ages_bytes, bare, count_beside, first_parts, hold_bytes, last_parts, listed, packed}
use Rattle.search_packed.proofs.ZeroLemmas.{both_zero, zeros_go}

-- ---- the ages of a task's jobs

pub none_bytes : (ages : List ℕ) → length ages ≡ 0 → ages_bytes ages ≡ count_bytes 0
none_bytes [] none = refl
none_bytes (age ∷ ages) none = absurd (omega (arith, none))

pub one_bytes : (ages : List ℕ) → length ages ≡ 1 → ages_bytes ages ≡ count_bytes (get_or ages 0 0 + 2)
one_bytes [] one = absurd (omega (arith, one))
one_bytes (age ∷ []) one = refl
one_bytes (age ∷ other ∷ ages) one = absurd (omega (arith, one))

pub more_bytes : (old ages : List ℕ) → 2 ≤ length ages
    → (old ++ count_bytes 1) ++ listed number ages ≡ old ++ ages_bytes ages
more_bytes old [] more = absurd (omega (arith, more))
more_bytes old (age ∷ []) more = absurd (omega (arith, more))
more_bytes old (first ∷ second ∷ ages) more =
    append_assoc old (count_bytes 1) (listed number (first ∷ second ∷ ages))

pub ruleset ages_laws = (
  none_bytes,
  one_bytes,
  more_bytes,
)

-- ---- a count beside others

pub as_many : (others n : ℕ) → n ≡ others → count_beside others n ≡ count_bytes 0
as_many others n same =
    ap (λ m. count_beside m n) (sym same)
    ∙ ap (λ b. cond b (count_bytes 0) (count_bytes 1 ++ count_bytes n)) (eq-eqb n n refl)

pub not_as_many : (old : List ℕ) (others n : ℕ) → (n ≡ others → ⊥)
    → (old ++ count_bytes 1) ++ count_bytes n ≡ old ++ count_beside others n
not_as_many old others n differ =
    append_assoc old (count_bytes 1) (count_bytes n)
    ∙ ap (λ b. old ++ cond b (count_bytes 0) (count_bytes 1 ++ count_bytes n))
    (sym (ne_eqb n others differ))

pub ruleset beside_laws = (
  as_many,
  not_as_many,
)

-- ---- part behind part

pub first_there : (old : List ℕ) (l : Labels)
    → ((old ++ listed number l.debts) ++ listed ages_bytes l.ages) ++ count_bytes (length l.holds)
    ≡ old ++ first_parts l
first_there old l =
    append_assoc (old ++ listed number l.debts) (listed ages_bytes l.ages)
    (count_bytes (length l.holds))
    ∙ append_assoc old (listed number l.debts)
    (listed ages_bytes l.ages ++ count_bytes (length l.holds))

added : (old xs bytes : List ℕ) → bare xs ≡ bytes → IsAdded old (old ++ xs) bytes
added old xs bytes same = record {
  within = longer;
  before = take-append_seam old xs;
  behind = ap bare (drop-append_seam old xs) ∙ same;
}
  where
    longer : length old ≤ length (old ++ xs)
    longer = let whole = length-append old xs in omega (arith, whole)

added_in_two : (old xs ys bytes : List ℕ) → bare (xs ++ ys) ≡ bytes
    → IsAdded old ((old ++ xs) ++ ys) bytes
added_in_two old xs ys bytes same =
    subst (λ v. IsAdded old v bytes) (sym (append_assoc old xs ys)) (added old (xs ++ ys) bytes same)

module _ (old : List ℕ) (l : Labels) where
  abbrev holds : List ℕ
  holds = flat_map hold_bytes l.holds

  pub all_added : IsAdded old (((old ++ first_parts l) ++ holds) ++ last_parts l) (packed l)
  unfolding packed
  all_added =
      subst (λ v. IsAdded old v (packed l))
      (sym (append_assoc (old ++ first_parts l) holds (last_parts l)))
      (added_in_two old (first_parts l) (holds ++ last_parts l) (packed l) refl)

  pub none_last : bare (last_parts l) ≡ []
      → IsAdded old ((old ++ first_parts l) ++ holds) (packed l)
  unfolding packed
  none_last none =
      added_in_two old (first_parts l) holds (packed l)
      (sym (zeros_go (first_parts l ++ holds) (last_parts l) none)
      ∙ ap bare (append_assoc (first_parts l) holds (last_parts l)))

  pub first_alone : bare (last_parts l) ≡ [] → bare holds ≡ []
      → IsAdded old (old ++ first_parts l) (packed l)
  unfolding packed
  first_alone none free =
      added old (first_parts l) (packed l)
      (sym (zeros_go (first_parts l) (holds ++ last_parts l) (both_zero holds (last_parts l) free none)))

pub ruleset added_laws = (
  all_added,
  none_last,
  first_alone,
)

pub all_packed : (old new : List ℕ) (begin : ℕ) (bytes : List ℕ) → begin ≡ length old
    → IsAdded old new bytes → take begin new ++ bare (drop begin new) ≡ old ++ bytes
all_packed old new begin bytes here is =
    ap (λ n. take n new ++ bare (drop n new)) here
    ∙ ap₂ (λ before behind. before ++ behind) is.before is.behind
