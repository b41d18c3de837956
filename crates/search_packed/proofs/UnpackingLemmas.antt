-- Labels that were packed are told by their bytes.
use Rattle.std.proofs.Common.{ℕ, suc, ◌≡◌, ◌+◌, cond, List, [], ◌∷◌, ◌++◌, length, refl, sym, ◌∙◌, ap, arith, inl, inr}
use Rattle.std.specs.Prelude.{◌==◌}
use Rattle.std.proofs.lemmas.Bool.{cases_Bool, eqb-true}
use Rattle.std.specs.List.{flat_map}
use Rattle.std.proofs.lemmas.List.{append_assoc, append-nil}
use Rattle.search_keys.specs.Bytes.{number, optional}
use Rattle.search_keys.specs.Counts.{count_bytes}
use Rattle.search_keys.specs.Taken.{IsReadBack, NumbersAreReadBack, taken_number, taken_optional}
use Rattle.search_labels.specs.Labels.{Labels}
use Rattle.search_packed.specs.Packed.{ages_bytes, blocked_part, count_beside, hold_bytes, last_parts, listed, listed_beside, packed, parts, pending_part}
use Rattle.search_packed.specs.Unpacked.{PackedAreTold, ages_behind, beside_behind, taken_ages, taken_beside, taken_hold, taken_list, taken_list_beside, taken_many}
use Rattle.search_packed.proofs.UnbareLemmas.{held_behind, unpacked_bare, unpacked_parts, with_ages, with_blocked, with_holds, with_pending, with_debts}

abbrev one_before : {X : Type 0} → (List ℕ → X × List ℕ) → ℕ → X × List ℕ → List X × List ℕ
one_before taken n one =
    (one.0 ∷ (taken_many taken n one.1).0, (taken_many taken n one.1).1)

many_read : {X : Type 0} (bytes : X → List ℕ) (taken : List ℕ → X × List ℕ) → IsReadBack bytes taken
    → (xs : List X) (rest : List ℕ)
    → taken_many taken (length xs) (flat_map bytes xs ++ rest) ≡ (xs, rest)
many_read bytes taken read [] rest = refl
many_read {X = X} bytes taken read (x ∷ xs) rest =
    ap (λ v. one_before taken (length xs) (taken v))
    (append_assoc (bytes x) (flat_map bytes xs) rest)
    ∙ ap (one_before taken (length xs)) (read x (flat_map bytes xs ++ rest))
    ∙ ap (λ (r : List X × List ℕ). (x ∷ r.0, r.1)) (many_read bytes taken read xs rest)

pub list_read : {X : Type 0} (bytes : X → List ℕ) (taken : List ℕ → X × List ℕ)
    → NumbersAreReadBack → IsReadBack bytes taken
    → IsReadBack (listed bytes) (taken_list taken)
list_read bytes taken numbers read xs rest =
    ap (taken_list taken) (append_assoc (count_bytes (length xs)) (flat_map bytes xs) rest)
    ∙ ap (λ (r : ℕ × List ℕ). taken_many taken r.0 r.1)
    (numbers.count (length xs) (flat_map bytes xs ++ rest))
    ∙ many_read bytes taken read xs rest

-- by the count of others
beside_read : NumbersAreReadBack → (others n : ℕ) (rest : List ℕ)
    → taken_beside others (count_beside others n ++ rest) ≡ (n, rest)
beside_read numbers others n rest = elim (cases_Bool (n == others)) [
  | inl same ↦
      ap (λ b. taken_beside others (cond b as_many told ++ rest)) same
      ∙ ap (beside_behind others) (numbers.count 0 rest)
      ∙ ap (λ m. (m, rest)) (sym (eqb-true n others same))
  | inr differ ↦
      ap (λ b. taken_beside others (cond b as_many told ++ rest)) differ
      ∙ ap (taken_beside others) (append_assoc (count_bytes 1) (count_bytes n) rest)
      ∙ ap (beside_behind others) (numbers.count 1 (count_bytes n ++ rest))
      ∙ numbers.count n rest
]
  where
    as_many : List ℕ
    as_many = count_bytes 0

    told : List ℕ
    told = count_bytes 1 ++ count_bytes n

list_beside_read : {X : Type 0} (others : ℕ) (bytes : X → List ℕ) (taken : List ℕ → X × List ℕ)
    → NumbersAreReadBack → IsReadBack bytes taken
    → IsReadBack (listed_beside others bytes) (taken_list_beside others taken)
list_beside_read others bytes taken numbers read xs rest =
    ap (taken_list_beside others taken)
    (append_assoc (count_beside others (length xs)) (flat_map bytes xs) rest)
    ∙ ap (λ (r : ℕ × List ℕ). taken_many taken r.0 r.1)
    (beside_read numbers others (length xs) (flat_map bytes xs ++ rest))
    ∙ many_read bytes taken read xs rest

two_more : (n : ℕ) → n + 2 ≡ suc (suc n)
two_more n = omega arith

pub ages_read : NumbersAreReadBack → IsReadBack ages_bytes taken_ages
ages_read numbers [] rest = ap ages_behind (numbers.count 0 rest)
ages_read numbers (age ∷ []) rest =
    ap ages_behind (numbers.count (age + 2) rest)
    ∙ ap (λ n. ages_behind (n, rest)) (two_more age)
ages_read numbers (first ∷ second ∷ ages) rest =
    let list = first ∷ second ∷ ages in
    ap taken_ages (append_assoc (count_bytes 1) (listed number list) rest)
    ∙ ap ages_behind (numbers.count 1 (listed number list ++ rest))
    ∙ list_read number taken_number numbers numbers.plain list rest

pub hold_read : NumbersAreReadBack → IsReadBack hold_bytes taken_hold
hold_read numbers hold rest =
    ap taken_hold (append_assoc (optional number hold.holder) (number hold.held) rest)
    ∙ ap held_behind (numbers.maybe hold.holder (number hold.held ++ rest))
    ∙ ap (λ (r : ℕ × List ℕ). (record { holder = hold.holder; held = r.0 }, r.1))
    (numbers.plain hold.held rest)

parts_in_row : (l : Labels) → parts l
    ≡ listed number l.debts
    ++ (listed ages_bytes l.ages
    ++ (listed hold_bytes l.holds
    ++ last_parts l))
parts_in_row l =
    let holds = flat_map hold_bytes l.holds in
    append_assoc (listed number l.debts)
    (listed ages_bytes l.ages ++ count_bytes (length l.holds)) (holds ++ last_parts l)
    ∙ ap (λ v. listed number l.debts ++ v)
    (append_assoc (listed ages_bytes l.ages) (count_bytes (length l.holds)) (holds ++ last_parts l))
    ∙ ap (λ v. listed number l.debts ++ (listed ages_bytes l.ages ++ v))
    (sym (append_assoc (count_bytes (length l.holds)) holds (last_parts l)))

parts_read : NumbersAreReadBack → (l : Labels)
    → with_debts (taken_list taken_number (parts l)) ≡ l
parts_read numbers l =
    let blocked = blocked_part l in
    let pending = pending_part l ++ blocked in
    let holds = listed hold_bytes l.holds ++ pending in
    let ages = listed ages_bytes l.ages ++ holds in
    let tasks = length l.ages in
    ap (λ v. with_debts (taken_list taken_number v)) (parts_in_row l)
    ∙ ap with_debts (list_read number taken_number numbers numbers.plain l.debts ages)
    ∙ ap (with_ages l.debts) (list_read ages_bytes taken_ages numbers (ages_read numbers) l.ages holds)
    ∙ ap (with_holds l.debts l.ages)
    (list_read hold_bytes taken_hold numbers (hold_read numbers) l.holds pending)
    ∙ ap (with_pending l.debts l.ages l.holds)
    (list_beside_read (length l.debts) (optional number) taken_optional numbers numbers.maybe
    l.pending blocked)
    ∙ ap (λ (v : List ℕ). with_blocked l.debts l.ages l.holds l.pending
    (taken_list_beside tasks taken_number v)) (sym (append-nil blocked))
    ∙ ap (with_blocked l.debts l.ages l.holds l.pending)
    (list_beside_read tasks number taken_number numbers numbers.plain l.blocked [])

pub packed_told : NumbersAreReadBack → PackedAreTold
unfolding packed
packed_told numbers l =
    unpacked_bare (parts l) ∙ unpacked_parts (parts l) ∙ parts_read numbers l
