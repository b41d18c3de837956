-- Lists of ages in one list.
use Rattle.std.proofs.Common.{ℕ, zero, suc, ◌≡◌, ◌<◌, ◌≤◌, ◌+◌, ◌-◌, max, List, [], ◌∷◌, ◌++◌, drop, length, get_or, map, replicate, set, take, refl, sym, ◌∙◌, ap, ap₂, subst, arith, inl, inr}
use Rattle.std.proofs.Math.Seq.{drop-append_seam, get_or-append_seam}
use Rattle.std.proofs.Math.ListN.{get_or-append}
use Rattle.std.proofs.lemmas.Bool.{cases_lt}
use Rattle.std.proofs.lemmas.List.{drop-append-le, length-append, length-drop, get_or-map, get_or_past, take-append-le, take_all, take_more_set}
use Rattle.std.specs.Prelude.{slice_range}
use Rattle.law_figures.specs.Merging.{merged_ages}
use Rattle.osek_base.specs.Lists.{below}
use Rattle.search_labels.specs.Parts.{each_of, merged_lists}
use Rattle.search_labels.proofs.MapLemmas.{length_below, map_length}
use Rattle.search_labels.specs.AgeLists.{AreLists, AreWithin, begin_of, lists_from, lists_of}

pub length_lists : (ages : List ℕ) (begin : ℕ) (ends : List ℕ)
    → length (lists_from ages begin ends) ≡ length ends
length_lists ages begin [] = refl
length_lists ages begin (end ∷ ends) = ap suc (length_lists ages end ends)

-- ---- one of them

-- where a list begins and ends
pub record IsPlaced (count begin end : ℕ) : Type 0 where
  pub rising : begin ≤ end
  pub within : end ≤ count

placed : (count begin : ℕ) (ends : List ℕ) (k : ℕ) → AreWithin count begin ends → k < length ends
    → IsPlaced count (get_or (begin ∷ ends) k 0) (get_or ends k 0)
placed count begin [] k are low = absurd (omega (arith, low))
placed count begin (end ∷ ends) zero are low = record { rising = are.0; within = are.1 }
placed count begin (end ∷ ends) (suc k) are low =
    placed count end ends k are.2 (omega (arith, low))

pub placed_at : (ages ends : List ℕ) (k : ℕ) → AreLists ages ends → k < length ends
    → IsPlaced (length ages) (begin_of ends k) (get_or ends k 0)
placed_at ages ends k are low = placed (length ages) 0 ends k are low

list_from : (ages : List ℕ) (begin : ℕ) (ends : List ℕ) (k : ℕ) → k < length ends
    → slice_range ages (get_or (begin ∷ ends) k 0) (get_or ends k 0)
    ≡ get_or (lists_from ages begin ends) k []
list_from ages begin [] k low = absurd (omega (arith, low))
list_from ages begin (end ∷ ends) zero low = refl
list_from ages begin (end ∷ ends) (suc k) low = list_from ages end ends k (omega (arith, low))

pub list_at : (ages ends : List ℕ) (k : ℕ) → k < length ends
    → slice_range ages (begin_of ends k) (get_or ends k 0) ≡ get_or (lists_of ages ends) k []
list_at ages ends k low = list_from ages 0 ends k low

none_from : (ages : List ℕ) (begin : ℕ) (ends : List ℕ) (k : ℕ) → length ends ≤ k
    → get_or (lists_from ages begin ends) k [] ≡ []
none_from ages begin [] k high = refl
none_from ages begin (end ∷ ends) zero high = absurd (omega (arith, high))
none_from ages begin (end ∷ ends) (suc k) high = none_from ages end ends k (omega (arith, high))

pub none_at : (ages ends : List ℕ) (k : ℕ) → length ends ≤ k
    → [] ≡ get_or (lists_of ages ends) k []
none_at ages ends k high = sym (none_from ages 0 ends k high)

pub begin_behind : (ends : List ℕ) (k n : ℕ) → (k ≡ 0 → ⊥) → n ≡ get_or ends (k - 1) 0
    → n ≡ begin_of ends k
begin_behind ends zero n some is = absurd (some refl)
begin_behind ends (suc k) n some is =
    let e : suc k - 1 ≡ k = omega arith in is ∙ ap (λ i. get_or ends i 0) e

-- the next one begins where this one ends
pub begin_next : (ends : List ℕ) (k : ℕ) → get_or ends k 0 ≡ begin_of ends (k + 1)
begin_next ends k =
    let e : suc k ≡ k + 1 = omega arith in ap (begin_of ends) e

-- ---- none has an age

no_lists : (n : ℕ) → lists_of [] (replicate n 0) ≡ replicate n []
no_lists zero = refl
no_lists (suc n) = ap (λ v. [] ∷ v) (no_lists n)

are_none : (n : ℕ) → AreLists [] (replicate n 0)
are_none zero = tt
are_none (suc n) = (omega arith, omega arith, are_none n)

pub none_made : (ages ends : List ℕ) (n : ℕ) → ages ≡ [] → ends ≡ replicate n 0
    → AreLists ages ends × (lists_of ages ends ≡ replicate n [])
none_made ages ends n no_ages zeros = (
  subst (λ v. AreLists v ends) (sym no_ages) (subst (AreLists []) (sym zeros) (are_none n)),
  ap (λ v. lists_of v ends) no_ages ∙ ap (lists_of []) zeros ∙ no_lists n,
)

-- ---- one more behind the last

abbrev last : ℕ → List ℕ → ℕ
last begin [] = begin
last begin (end ∷ ends) = last end ends

-- lists whose last one ends with the ages
pub record AreMade (ages ends : List ℕ) (lists : List (List ℕ)) : Type 0 where
  pub are : AreLists ages ends
  pub full : last 0 ends ≡ length ages
  pub same : lists_of ages ends ≡ lists

range_stays : (ages more : List ℕ) (begin end : ℕ) → begin ≤ end → end ≤ length ages
    → slice_range (ages ++ more) begin end ≡ slice_range ages begin end
range_stays ages more begin end rising within =
    let rest = length-drop begin ages in
    ap (take (end - begin)) (drop-append-le begin ages more (omega (arith, rising, within)))
    ∙ take-append-le (end - begin) (drop begin ages) more (omega (arith, rising, within, rest))

range_behind : (ages more : List ℕ)
    → slice_range (ages ++ more) (length ages) (length (ages ++ more)) ≡ more
range_behind ages more =
    let count = length-append ages more in
    ap (take (length (ages ++ more) - length ages)) (drop-append_seam ages more)
    ∙ take_all (length (ages ++ more) - length ages) more (omega (arith, count))

lists_more : (ages more : List ℕ) (begin : ℕ) (ends : List ℕ) → AreWithin (length ages) begin ends
    → last begin ends ≡ length ages
    → lists_from (ages ++ more) begin (ends ++ length (ages ++ more) ∷ [])
    ≡ lists_from ages begin ends ++ more ∷ []
lists_more ages more begin [] are full =
    ap (λ b. slice_range (ages ++ more) b (length (ages ++ more)) ∷ []) full
    ∙ ap (λ v. v ∷ []) (range_behind ages more)
lists_more ages more begin (end ∷ ends) are full =
    ap₂ (λ v vs. v ∷ vs) (range_stays ages more begin end are.0 are.1)
    (lists_more ages more end ends are.2 full)

within_more : (count more begin : ℕ) (ends : List ℕ) → AreWithin count begin ends → count ≤ more
    → last begin ends ≡ count → AreWithin more begin (ends ++ more ∷ [])
within_more count more begin [] are high full = (omega (arith, high, full), omega arith, tt)
within_more count more begin (end ∷ ends) are high full =
    (are.0, omega (arith, are.1, high), within_more count more end ends are.2 high full)

last_more : (n begin : ℕ) (ends : List ℕ) → last begin (ends ++ n ∷ []) ≡ n
last_more n begin [] = refl
last_more n begin (end ∷ ends) = last_more n end ends

pub one_list_more : (ages ends more new : List ℕ) (lists all : List (List ℕ)) (n : ℕ)
    → AreMade ages ends lists → new ≡ ages ++ more → n ≡ length new → lists ++ more ∷ [] ≡ all
    → AreMade new (ends ++ n ∷ []) all
one_list_more ages ends more new lists all n made is end next =
    let grows : length ages ≤ length (ages ++ more) =
    let count = length-append ages more in omega (arith, count) in
    let many : n ≡ length (ages ++ more) = end ∙ ap (λ v. length v) is in
    let here : AreMade (ages ++ more) (ends ++ length (ages ++ more) ∷ []) all =
    record {
      are = within_more (length ages) _ 0 ends made.are grows made.full;
      full = last_more _ 0 ends;
      same = lists_more ages more 0 ends made.are made.full
          ∙ ap (λ v. v ++ more ∷ []) made.same ∙ next;
    } in
    subst (λ v. AreMade v (ends ++ n ∷ []) all) (sym is)
    (subst (λ v. AreMade (ages ++ more) (ends ++ v ∷ []) all) (sym many) here)

-- and where the ends have their places already
pub one_list_set : (ages ends more new : List ℕ) (lists all : List (List ℕ)) (k n : ℕ)
    → AreMade ages (take k ends) lists → new ≡ ages ++ more → n ≡ length new
    → lists ++ more ∷ [] ≡ all → k < length ends
    → AreMade new (take (k + 1) (set ends k n)) all
one_list_set ages ends more new lists all k n made is end next low =
    subst (λ v. AreMade new v all) (sym (take_more_set ends k n low))
    (one_list_more ages (take k ends) more new lists all n made is end next)

-- all have been made
pub all_made : (ages ends : List ℕ) (lists : List (List ℕ)) (k : ℕ)
    → AreMade ages (take k ends) lists → length ends ≤ k → AreMade ages ends lists
all_made ages ends lists k made long =
    subst (λ v. AreMade ages v lists) (take_all k ends long) made

-- ---- merged, where all end at the same places

merged_nil : (xs : List ℕ) → merged_ages xs [] ≡ xs
merged_nil [] = refl
merged_nil (x ∷ xs) = refl

merged_drop : (n : ℕ) (xs ys : List ℕ)
    → drop n (merged_ages xs ys) ≡ merged_ages (drop n xs) (drop n ys)
merged_drop zero xs ys = refl
merged_drop (suc n) [] ys = refl
merged_drop (suc n) (x ∷ xs) [] = sym (merged_nil (drop n xs))
merged_drop (suc n) (x ∷ xs) (y ∷ ys) = merged_drop n xs ys

merged_take : (n : ℕ) (xs ys : List ℕ)
    → take n (merged_ages xs ys) ≡ merged_ages (take n xs) (take n ys)
merged_take zero xs ys = refl
merged_take (suc n) [] ys = refl
merged_take (suc n) (x ∷ xs) [] = refl
merged_take (suc n) (x ∷ xs) (y ∷ ys) = ap (λ v. max x y ∷ v) (merged_take n xs ys)

merged_range : (begin end : ℕ) (xs ys : List ℕ)
    → slice_range (merged_ages xs ys) begin end
    ≡ merged_ages (slice_range xs begin end) (slice_range ys begin end)
merged_range begin end xs ys =
    ap (take (end - begin)) (merged_drop begin xs ys)
    ∙ merged_take (end - begin) (drop begin xs) (drop begin ys)

merged_from : (xs ys : List ℕ) (begin : ℕ) (ends : List ℕ) (k : ℕ)
    → get_or (lists_from (merged_ages xs ys) begin ends) k []
    ≡ merged_ages (get_or (lists_from xs begin ends) k []) (get_or (lists_from ys begin ends) k [])
merged_from xs ys begin [] k = refl
merged_from xs ys begin (end ∷ ends) zero = merged_range begin end xs ys
merged_from xs ys begin (end ∷ ends) (suc k) = merged_from xs ys end ends k

pub merged_at : (xs ys ends others : List ℕ) (k : ℕ) → ends ≡ others
    → get_or (lists_of (merged_ages xs ys) ends) k []
    ≡ merged_ages (get_or (lists_of xs ends) k []) (get_or (lists_of ys others) k [])
merged_at xs ys ends others k same =
    merged_from xs ys 0 ends k
    ∙ ap (λ v. merged_ages (get_or (lists_of xs ends) k []) (get_or (lists_of ys v) k [])) same

pub within_grown : (count more begin : ℕ) (ends : List ℕ) → AreWithin count begin ends
    → count ≤ more → AreWithin more begin ends
within_grown count more begin [] are high = tt
within_grown count more begin (end ∷ ends) are high =
    (are.0, omega (arith, are.1, high), within_grown count more end ends are.2 high)

-- ---- merged one by one

below_at : (n k : ℕ) → k < n → get_or (below n) k 0 ≡ k
below_at zero k low = absurd (omega (arith, low))
below_at (suc n) k low =
    elim (cases_lt k n) [
      | inl lt ↦
          get_or-append (below n) (n ∷ []) 0 k (subst (λ m. k < m) (sym (length_below n)) lt)
          ∙ below_at n k lt
      | inr le ↦
          let e : k ≡ n = omega (arith, low, le) in
          ap (λ i. get_or (below n ++ n ∷ []) i 0) (e ∙ sym (length_below n))
          ∙ get_or-append_seam (below n) n [] 0 ∙ sym e
    ]

pub each_merged : (lists others : List (List ℕ)) (k : ℕ) → length lists ≡ length others
    → get_or (each_of (merged_lists others) lists) k []
    ≡ merged_ages (get_or lists k []) (get_or others k [])
each_merged lists others k many =
    let made = map (merged_lists others lists) (below (length lists)) in
    elim (cases_lt k (length lists)) [
      | inl lt ↦
          get_or-map (merged_lists others lists) (below (length lists)) k 0 []
          (subst (λ m. k < m) (sym (length_below (length lists))) lt)
          ∙ ap (merged_lists others lists) (below_at (length lists) k lt)
      | inr le ↦
          let count = map_length (merged_lists others lists) (length lists) in
          get_or_past made k [] (omega (arith, count, le))
          ∙ ap₂ (λ (a b : List ℕ). merged_ages a b)
          (sym (get_or_past lists k [] le))
          (sym (get_or_past others k [] (omega (arith, many, le))))
    ]

-- ---- filled age by age

pub lists_stay : (ages more ends : List ℕ) → AreLists ages ends → AreLists (ages ++ more) ends
lists_stay ages more ends are =
    let count = length-append ages more in
    within_grown (length ages) (length (ages ++ more)) 0 ends are (omega (arith, count))

within_ended : (count begin : ℕ) (ends : List ℕ) → AreWithin count begin ends → begin ≤ count
    → AreWithin count begin (ends ++ count ∷ [])
within_ended count begin [] are low = (low, omega arith, tt)
within_ended count begin (end ∷ ends) are low =
    (are.0, are.1, within_ended count end ends are.2 are.1)

pub list_ended : (ages ends : List ℕ) (n : ℕ) → AreLists ages ends → n ≡ length ages
    → AreLists ages (ends ++ n ∷ [])
list_ended ages ends n are full =
    subst (λ m. AreLists ages (ends ++ m ∷ [])) (sym full)
    (within_ended (length ages) 0 ends are (omega arith))
