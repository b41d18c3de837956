-- Bytes are read as without the zeros at their end.
use Rattle.std.proofs.Common.{ℕ, zero, suc, ◌≡◌, ◌-◌, Bool, true, false, if◌then◌else◌, List, [], ◌∷◌, length, refl, sym, ◌∙◌, ap}
use Rattle.std.specs.Prelude.{Option, Some, nat_lt}
use Rattle.law_figures.specs.Holding.{Hold}
use Rattle.search_keys.specs.Taken.{taken_count, taken_digits, taken_number, taken_optional, with_digit}
use Rattle.search_labels.specs.Labels.{Labels}
use Rattle.search_packed.specs.Packed.{bare, put_bare}
use Rattle.search_packed.specs.Unpacked.{ages_behind, beside_behind, taken_ages, taken_beside, taken_hold, taken_list, taken_list_beside, taken_many, unpacked}

-- the zeros at the end of what is read are those at the end of what is left
abbrev pub IsReadBare : {X : Type 0} → (List ℕ → X × List ℕ) → Type 0
IsReadBare taken = (bytes : List ℕ) → taken (bare bytes) ≡ ((taken bytes).0, bare (taken bytes).1)

-- a reader that reads 0 where nothing stands
put_back : {X : Type 0} (taken : List ℕ → X) → taken [] ≡ taken (0 ∷ []) → (b : ℕ) (bytes : List ℕ)
    → taken (put_bare b bytes) ≡ taken (b ∷ bytes)
put_back taken same zero [] = same
put_back taken same (suc n) [] = refl
put_back taken same zero (b ∷ bytes) = refl
put_back taken same (suc n) (b ∷ bytes) = refl

digits_none : (k : ℕ) → taken_digits k [] ≡ taken_digits k (0 ∷ [])
unfolding taken_digits
digits_none zero = refl
digits_none (suc k) = refl

digit_bare : (k b : ℕ) (bytes : List ℕ) (is_last : Bool)
    → taken_digits k (bare bytes) ≡ ((taken_digits k bytes).0, bare (taken_digits k bytes).1)
    → (if is_last then (b, bare bytes) else with_digit (b - 128) (taken_digits k (bare bytes)))
    ≡ (
      (if is_last then (b, bytes) else with_digit (b - 128) (taken_digits k bytes)).0,
      bare (if is_last then (b, bytes) else with_digit (b - 128) (taken_digits k bytes)).1,
    )
digit_bare k b bytes true higher = refl
digit_bare k b bytes false higher = ap (with_digit (b - 128)) higher

digits_bare : (k : ℕ) → IsReadBare (taken_digits k)
unfolding bare taken_digits
digits_bare k [] = refl
digits_bare zero (b ∷ bytes) = put_back (taken_digits zero) (digits_none zero) b (bare bytes)
digits_bare (suc k) (b ∷ bytes) =
    put_back (taken_digits (suc k)) (digits_none (suc k)) b (bare bytes)
    ∙ digit_bare k b bytes (nat_lt b 128) (digits_bare k bytes)

number_bare : IsReadBare taken_number
unfolding taken_number
number_bare bytes = digits_bare 4 bytes

count_bare : IsReadBare taken_count
unfolding taken_count
count_bare bytes = digits_bare 8 bytes

-- ---- by what stands before it

beside_bare : (others n : ℕ) (bytes : List ℕ)
    → beside_behind others (n, bare bytes)
    ≡ ((beside_behind others (n, bytes)).0, bare (beside_behind others (n, bytes)).1)
beside_bare others zero bytes = refl
beside_bare others (suc more) bytes = count_bare bytes

count_beside_bare : (others : ℕ) → IsReadBare (taken_beside others)
count_beside_bare others bytes =
    let count = taken_count bytes in
    ap (beside_behind others) (count_bare bytes) ∙ beside_bare others count.0 count.1

optional_none : taken_optional [] ≡ taken_optional (0 ∷ [])
unfolding taken_optional
optional_none = refl

optional_there : (b : ℕ) (bytes : List ℕ)
    → taken_optional (b ∷ bare bytes)
    ≡ ((taken_optional (b ∷ bytes)).0, bare (taken_optional (b ∷ bytes)).1)
unfolding taken_optional
optional_there zero bytes = refl
optional_there (suc n) bytes = ap (λ (r : ℕ × List ℕ). (Some r.0, r.1)) (number_bare bytes)

optional_bare : IsReadBare taken_optional
unfolding bare taken_optional
optional_bare [] = refl
optional_bare (b ∷ bytes) =
    put_back taken_optional optional_none b (bare bytes) ∙ optional_there b bytes

-- ---- one after another

many_bare : {X : Type 0} (taken : List ℕ → X × List ℕ) → IsReadBare taken → (n : ℕ)
    → IsReadBare (taken_many taken n)
many_bare taken read zero bytes = refl
many_bare {X = X} taken read (suc n) bytes =
    let one = taken bytes in
    ap (λ (r : X × List ℕ). (r.0 ∷ (taken_many taken n r.1).0, (taken_many taken n r.1).1))
    (read bytes)
    ∙ ap (λ (r : List X × List ℕ). (one.0 ∷ r.0, r.1)) (many_bare taken read n one.1)

list_bare : {X : Type 0} (taken : List ℕ → X × List ℕ) → IsReadBare taken
    → IsReadBare (taken_list taken)
list_bare taken read bytes =
    let count = taken_count bytes in
    ap (λ (r : ℕ × List ℕ). taken_many taken r.0 r.1) (count_bare bytes)
    ∙ many_bare taken read count.0 count.1

list_beside_bare : {X : Type 0} (others : ℕ) (taken : List ℕ → X × List ℕ) → IsReadBare taken
    → IsReadBare (taken_list_beside others taken)
list_beside_bare others taken read bytes =
    let count = taken_beside others bytes in
    ap (λ (r : ℕ × List ℕ). taken_many taken r.0 r.1) (count_beside_bare others bytes)
    ∙ many_bare taken read count.0 count.1

ages_behind_bare : (n : ℕ) (bytes : List ℕ)
    → ages_behind (n, bare bytes) ≡ ((ages_behind (n, bytes)).0, bare (ages_behind (n, bytes)).1)
ages_behind_bare zero bytes = refl
ages_behind_bare (suc zero) bytes = list_bare taken_number number_bare bytes
ages_behind_bare (suc (suc age)) bytes = refl

ages_bare : IsReadBare taken_ages
ages_bare bytes =
    let count = taken_count bytes in
    ap ages_behind (count_bare bytes) ∙ ages_behind_bare count.0 count.1

abbrev pub held_behind : Option ℕ × List ℕ → Hold × List ℕ
held_behind holder =
    (record { holder = holder.0; held = (taken_number holder.1).0 }, (taken_number holder.1).1)

hold_bare : IsReadBare taken_hold
hold_bare bytes =
    let holder = taken_optional bytes in
    ap held_behind (optional_bare bytes)
    ∙ ap (λ (r : ℕ × List ℕ). (record { holder = holder.0; held = r.0 }, r.1))
    (number_bare holder.1)

-- ---- part by part

abbrev pub with_blocked : List ℕ → List (List ℕ) → List Hold → List (Option ℕ) → List ℕ × List ℕ
    → Labels
with_blocked debts ages holds pending blocked =
    record {
      debts = debts;
      ages = ages;
      pending = pending;
      holds = holds;
      blocked = blocked.0;
    }

abbrev pub with_pending : List ℕ → List (List ℕ) → List Hold → List (Option ℕ) × List ℕ → Labels
with_pending debts ages holds pending =
    with_blocked debts ages holds pending.0
    (taken_list_beside (length ages) taken_number pending.1)

abbrev pub with_holds : List ℕ → List (List ℕ) → List Hold × List ℕ → Labels
with_holds debts ages holds =
    with_pending debts ages holds.0
    (taken_list_beside (length debts) taken_optional holds.1)

abbrev pub with_ages : List ℕ → List (List ℕ) × List ℕ → Labels
with_ages debts ages = with_holds debts ages.0 (taken_list taken_hold ages.1)

abbrev pub with_debts : List ℕ × List ℕ → Labels
with_debts debts = with_ages debts.0 (taken_list taken_ages debts.1)

pub unpacked_parts : (bytes : List ℕ) → unpacked bytes ≡ with_debts (taken_list taken_number bytes)
unfolding unpacked
unpacked_parts bytes = refl

parts_bare : (bytes : List ℕ)
    → with_debts (taken_list taken_number (bare bytes)) ≡ with_debts (taken_list taken_number bytes)
parts_bare bytes =
    let debts = taken_list taken_number bytes in
    let ages = taken_list taken_ages debts.1 in
    let holds = taken_list taken_hold ages.1 in
    let pending = taken_list_beside (length debts.0) taken_optional holds.1 in
    ap with_debts (list_bare taken_number number_bare bytes)
    ∙ ap (with_ages debts.0) (list_bare taken_ages ages_bare debts.1)
    ∙ ap (with_holds debts.0 ages.0) (list_bare taken_hold hold_bare ages.1)
    ∙ ap (with_pending debts.0 ages.0 holds.0)
    (list_beside_bare (length debts.0) taken_optional optional_bare holds.1)
    ∙ ap (with_blocked debts.0 ages.0 holds.0 pending.0)
    (list_beside_bare (length ages.0) taken_number number_bare pending.1)

pub unpacked_bare : (bytes : List ℕ) → unpacked (bare bytes) ≡ unpacked bytes
unpacked_bare bytes =
    unpacked_parts (bare bytes) ∙ parts_bare bytes ∙ sym (unpacked_parts bytes)
