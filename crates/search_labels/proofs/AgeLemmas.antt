-- Ages of jobs as lists.
use Rattle.std.proofs.Common.{ℕ, zero, suc, ◌≡◌, ◌<◌, ◌≤◌, ◌+◌, ◌-◌, Bool, true, false, cond, max, min, List, [], ◌∷◌, ◌++◌, length, get_or, map, replicate, take, refl, sym, ◌∙◌, ap, subst, arith}
use Rattle.std.proofs.Math.ListN.{set}
use Rattle.std.proofs.lemmas.List.{append-nil, append_assoc, length-take-le, map-append, take_more}
use Rattle.view_figures.specs.ResponseSums.{later}
use Rattle.law_figures.specs.Ages.{AreOlder}
use Rattle.law_figures.specs.Merging.{merged_ages}
use Rattle.search_labels.specs.Parts.{ages_of_jobs}

-- ages that are older one by one
pub older_each : (xs ys : List ℕ) → length ys ≤ length xs
    → ((i : ℕ) → i < length ys → get_or ys i 0 ≤ get_or xs i 0) → AreOlder xs ys
older_each xs [] long each = tt
older_each [] (y ∷ ys) long each = absurd (omega (arith, long))
older_each (x ∷ xs) (y ∷ ys) long each = (
  each 0 (omega arith),
  older_each xs ys (omega (arith, long)) (λ i low. each (suc i) (omega (arith, low))),
)

-- those that had ages before
older_before : (cap : ℕ) (old : List ℕ)
    → map (λ n. min cap (suc n)) old ≡ map (min cap) (map suc old)
older_before cap [] = refl
older_before cap (n ∷ old) = ap (λ v. min cap (suc n) ∷ v) (older_before cap old)

-- ---- behind a tick

-- those that had ages are added, and then the new ones
pub both_added : (cap new : ℕ) (before old : List ℕ)
    → (before ++ map (λ n. min cap (suc n)) old) ++ map (min cap) (replicate new 1)
    ≡ before ++ map (min cap) (map suc old ++ replicate new 1)
both_added cap new before old =
    append_assoc before _ _
    ∙ ap (λ v. before ++ v)
    (ap (λ v. v ++ map (min cap) (replicate new 1)) (older_before cap old)
    ∙ sym (map-append (min cap) (map suc old) (replicate new 1)))

later_new : (n left : ℕ) → left ≡ n - 1 → replicate left 1 ≡ later (replicate n 1)
later_new zero left is = ap (λ k. replicate k 1) is
later_new (suc n) left is =
    let e : left ≡ n = omega (arith, is) in ap (λ k. replicate k 1) e

-- the ages of the jobs left are those that stay, and those of the jobs that had none
pub jobs_left : (cap jobs : ℕ) (leaves : Bool) (before old stay : List ℕ) (new : ℕ)
    → stay ≡ cond leaves (later old) old → new ≡ jobs - cond leaves 1 0 - length stay
    → before ++ map (min cap) (map suc stay ++ replicate new 1)
    ≡ before ++ map (min cap) (ages_of_jobs jobs leaves old)
jobs_left cap jobs leaves before old stay new is count =
    ap (λ v. before ++ map (min cap) v)
    (ap (λ n. map suc stay ++ replicate n 1) count
    ∙ ap (λ v. map suc v ++ replicate (jobs - cond leaves 1 0 - length v) 1) is
    ∙ left leaves old)
  where
    left : (b : Bool) (xs : List ℕ)
        → map suc (cond b (later xs) xs)
        ++ replicate (jobs - cond b 1 0 - length (cond b (later xs) xs)) 1
        ≡ ages_of_jobs jobs b xs
    left false xs =
        let e : jobs - 0 - length xs ≡ jobs - length xs = omega arith in
        ap (λ n. map suc xs ++ replicate n 1) e
    left true [] = later_new (jobs - 0) (jobs - 1 - 0) (omega arith)
    left true (x ∷ xs) =
        let e : jobs - 1 - length xs ≡ jobs - suc (length xs) = omega arith in
        ap (λ n. map suc xs ++ replicate n 1) e

-- no job stands, and none had an age
pub no_jobs : (jobs cap : ℕ) (leaving : Bool) (before old : List ℕ) → jobs ≡ 0 → length old ≡ 0
    → before ≡ before ++ map (min cap) (ages_of_jobs jobs leaving old)
no_jobs jobs cap leaving before [] none short =
    sym (append-nil before)
    ∙ ap (λ v. before ++ map (min cap) v)
    (none_left leaving ∙ ap (λ n. ages_of_jobs n leaving []) (sym none))
  where
    none_left : (b : Bool) → [] ≡ ages_of_jobs 0 b []
    none_left true = refl
    none_left false = refl
no_jobs jobs cap leaving before (n ∷ old) none short = absurd (omega (arith, short))

nonzero : (n : ℕ) → (n ≡ 0 → ⊥) → 0 < n
nonzero zero some = absurd (some refl)
nonzero (suc n) some = omega arith

-- no job was followed before or is now, or one alone, which stays
pub none_stays : (cap jobs count : ℕ) (before old : List ℕ)
    → count ≡ max jobs (length old) → count ≡ 0
    → before ≡ before ++ map (min cap) (ages_of_jobs jobs false old)
none_stays cap jobs count before old is none =
    no_jobs jobs cap false before old (omega (arith, is, none)) (omega (arith, is, none))

pub one_stays : (cap jobs count age : ℕ) (before old : List ℕ)
    → count ≡ max jobs (length old) → (count ≡ 0 → ⊥) → max jobs (length old) ≤ 1
    → age ≡ min cap (suc (get_or old 0 0))
    → before ++ age ∷ [] ≡ before ++ map (min cap) (ages_of_jobs jobs false old)
one_stays cap jobs count age before [] is some few e =
    let here : 0 < count = nonzero count some in
    let one : jobs ≡ 1 = omega (arith, is, here, few) in
    ap (λ n. before ++ n ∷ []) e
    ∙ ap (λ n. before ++ map (min cap) (ages_of_jobs n false [])) (sym one)
one_stays cap jobs count age before (x ∷ []) is some few e =
    let none : 0 ≡ jobs - 1 = omega (arith, few) in
    ap (λ n. before ++ n ∷ []) e
    ∙ ap (λ n. before ++ map (min cap) (suc x ∷ replicate n 1)) none
one_stays cap jobs count age before (x ∷ y ∷ old) is some few e = absurd (omega (arith, few))

pub all_stay : (cap jobs : ℕ) (leaves : Bool) (before after old : List ℕ) → leaves ≡ false
    → after ≡ before ++ map (min cap) (ages_of_jobs jobs false old)
    → after ≡ before ++ map (min cap) (ages_of_jobs jobs leaves old)
all_stay cap jobs leaves before after old stay is =
    is ∙ ap (λ b. before ++ map (min cap) (ages_of_jobs jobs b old)) (sym stay)

-- ---- merged one by one

pub merged_none : (xs : List ℕ) → merged_ages xs [] ≡ xs
merged_none [] = refl
merged_none (x ∷ xs) = refl

-- one more is the greater
merged_set : (xs ys : List ℕ) (i : ℕ) → i < length ys
    → i < length (merged_ages xs (take i ys))
    → set (merged_ages xs (take i ys)) i
    (max (get_or (merged_ages xs (take i ys)) i 0) (get_or ys i 0))
    ≡ merged_ages xs (take (suc i) ys)
merged_set xs [] i low long = absurd (omega (arith, low))
merged_set [] (y ∷ ys) i low long =
    let e = length-take-le i (y ∷ ys) (omega (arith, low)) in absurd (omega (arith, e, long))
merged_set (x ∷ xs) (y ∷ ys) zero low long = ap (λ v. max x y ∷ v) (sym (merged_none xs))
merged_set (x ∷ xs) (y ∷ ys) (suc i) low long =
    ap (λ v. max x y ∷ v) (merged_set xs ys i (omega (arith, low)) (omega (arith, long)))

-- and one more behind the last
merged_push : (xs ys : List ℕ) (i : ℕ) → i < length ys
    → length (merged_ages xs (take i ys)) ≤ i
    → merged_ages xs (take i ys) ++ get_or ys i 0 ∷ [] ≡ merged_ages xs (take (suc i) ys)
merged_push xs [] i low short = absurd (omega (arith, low))
merged_push [] (y ∷ ys) i low short =
    let e : suc i ≡ i + 1 = omega arith in
    sym (take_more (y ∷ ys) i 0 low) ∙ ap (λ n. take n (y ∷ ys)) (sym e)
merged_push (x ∷ xs) (y ∷ ys) zero low short = absurd (omega (arith, short))
merged_push (x ∷ xs) (y ∷ ys) (suc i) low short =
    ap (λ v. max x y ∷ v) (merged_push xs ys i (omega (arith, low)) (omega (arith, short)))

pub merged_set_at : (xs ys ages : List ℕ) (i n : ℕ) → i < length ys → i < length ages
    → ages ≡ merged_ages xs (take i ys) → n ≡ max (get_or ages i 0) (get_or ys i 0)
    → set ages i n ≡ merged_ages xs (take (i + 1) ys)
merged_set_at xs ys ages i n low long is e =
    let one : suc i ≡ i + 1 = omega arith in
    ap (set ages i) e ∙ ap (λ v. set v i (max (get_or v i 0) (get_or ys i 0))) is
    ∙ merged_set xs ys i low (subst (λ v. i < length v) is long)
    ∙ ap (λ k. merged_ages xs (take k ys)) one

pub merged_push_at : (xs ys ages : List ℕ) (i n : ℕ) → i < length ys → length ages ≤ i
    → ages ≡ merged_ages xs (take i ys) → n ≡ get_or ys i 0
    → ages ++ n ∷ [] ≡ merged_ages xs (take (i + 1) ys)
merged_push_at xs ys ages i n low short is e =
    let one : suc i ≡ i + 1 = omega arith in
    ap (λ k. ages ++ k ∷ []) e ∙ ap (λ v. v ++ get_or ys i 0 ∷ []) is
    ∙ merged_push xs ys i low (subst (λ v. length v ≤ i) is short)
    ∙ ap (λ k. merged_ages xs (take k ys)) one

-- one more behind others
pub one_merged : (x y : ℕ) (before xs ys : List ℕ)
    → (before ++ max x y ∷ []) ++ merged_ages xs ys ≡ before ++ merged_ages (x ∷ xs) (y ∷ ys)
one_merged x y before xs ys = append_assoc before (max x y ∷ []) (merged_ages xs ys)

-- no fewer than before
pub merged_grows : (xs ys : List ℕ) → length xs ≤ length (merged_ages xs ys)
merged_grows [] ys = omega arith
merged_grows (x ∷ xs) [] = omega arith
merged_grows (x ∷ xs) (y ∷ ys) = let rest = merged_grows xs ys in omega (arith, rest)
