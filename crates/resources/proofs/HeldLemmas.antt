-- What is held: no more resources than there are, and what a get and a release leave.
use Rattle.std.proofs.Common.{ℕ, ◌≡◌, ◌<◌, ◌≤◌, ◌+◌, ◌-◌, Bool, true, false, ◌||◌, eqb, List, [], ◌∷◌, ◌++◌, map, take, length, slice_get, refl, sym, ◌∙◌, ap, inl, inr, arith}
use Rattle.std.specs.List.{list_any, IsDistinct, AllByRecursion}
use Rattle.std.proofs.lemmas.Grind.{common_steps}
use Rattle.std.proofs.lemmas.Bool.{cases_Bool, false≢true}
use Rattle.std.proofs.lemmas.List.{length-map}
use Rattle.std.proofs.lemmas.List.Folds.{list_any-append}
use Rattle.std.proofs.lemmas.Map.Steps.{length-le_from_distinct_below}
use Rattle.osek_base.specs.declared.limits.TheConstants.{MAX_RESOURCES}
use Rattle.osek_base.specs.declared.ids.ResId.{ResId}
use Rattle.osek_base.specs.Lists.{same_resource, without_last, last_of}
use Rattle.resources.specs.Held.{IsLow, IsEachOnce, is_held, number_of}

or_parts : (a b : Bool) → (a || b) ≡ false → (a ≡ false) × (b ≡ false)
or_parts false false h = (refl, refl)
or_parts false true h = absurd (false≢true (sym h))
or_parts true false h = absurd (false≢true (sym h))
or_parts true true h = absurd (false≢true (sym h))

or_join : (a b : Bool) → a ≡ false → b ≡ false → (a || b) ≡ false
or_join false false g h = refl
or_join false true g h = h
or_join true false g h = g
or_join true true g h = g

number_low : (r : ResId) → IsLow r → number_of r < (MAX_RESOURCES + 1)
number_low (ResId.Declared n) low = omega arith
number_low ResId.Scheduler low = omega arith

unlike : (m n : ℕ) → m < n → eqb m n ≡ false
unlike m n low = grind (arith, common_steps)

unlike_back : (m n : ℕ) → m < n → eqb n m ≡ false
unlike_back m n low = grind (arith, common_steps)

same_back : (m n : ℕ) → eqb m n ≡ eqb n m
same_back m n = grind (arith, common_steps)

apart : (a b : ResId) → IsLow a → IsLow b → same_resource a b ≡ false → eqb (number_of a) (number_of b) ≡ false
apart (ResId.Declared m) (ResId.Declared n) l k h = h
apart (ResId.Declared m) ResId.Scheduler l k h = unlike m MAX_RESOURCES l
apart ResId.Scheduler (ResId.Declared n) l k h = unlike_back n MAX_RESOURCES k
apart ResId.Scheduler ResId.Scheduler l k h = absurd (false≢true (sym h))

same_flips : (a b : ResId) → same_resource a b ≡ same_resource b a
same_flips (ResId.Declared m) (ResId.Declared n) = same_back m n
same_flips (ResId.Declared m) ResId.Scheduler = refl
same_flips ResId.Scheduler (ResId.Declared n) = refl
same_flips ResId.Scheduler ResId.Scheduler = refl

each_apart : (r : ResId) (rs : List ResId) → IsLow r → IsEachOnce rs → is_held r rs ≡ false
    → AllByRecursion (λ y. eqb (number_of r) y ≡ false) (map number_of rs)
each_apart r [] low once h = tt
each_apart r (x ∷ xs) low once h =
    let parts = or_parts (same_resource r x) (is_held r xs) h in
    (apart r x low once.0 parts.0, each_apart r xs low once.1.1 parts.1)

distinct : (held : List ResId) → IsEachOnce held → IsDistinct eqb (map number_of held)
unfolding IsDistinct
distinct [] once = tt
distinct (r ∷ rs) once = (each_apart r rs once.0 once.1.1 once.1.0, distinct rs once.1.1)

numbers_low : (held : List ResId) → IsEachOnce held → (q : ℕ) → list_any (eqb q) (map number_of held) ≡ true → q < (MAX_RESOURCES + 1)
numbers_low [] once q h = absurd (false≢true h)
numbers_low (r ∷ rs) once q h = elim (cases_Bool (eqb q (number_of r))) [
  | inl same ↦ let low : number_of r < (MAX_RESOURCES + 1) = number_low r once.0 in grind (arith, common_steps)
  | inr other ↦ numbers_low rs once.1.1 q (rw other at h)
]

-- at most the declared resources and RES_SCHEDULER
pub length-held : (held : List ResId) → IsEachOnce held → length held ≤ (MAX_RESOURCES + 1)
length-held held once =
    let most : length (map number_of held) ≤ (MAX_RESOURCES + 1) = length-le_from_distinct_below (map number_of held) (MAX_RESOURCES + 1) (distinct held once) (numbers_low held once) in
    rw length-map at most

pub once-get : (held : List ResId) (r : ResId) → IsEachOnce held → IsLow r → is_held r held ≡ false → IsEachOnce (held ++ r ∷ [])
once-get [] r once low h = (low, (refl, tt))
once-get (x ∷ xs) r once low h =
    let parts = or_parts (same_resource r x) (is_held r xs) h in
    let here : same_resource x r ≡ false = same_flips x r ∙ parts.0 in
    let rest : is_held x (xs ++ r ∷ []) ≡ false =
    list_any-append (same_resource x) xs (r ∷ []) ∙ or_join _ _ once.1.0 (or_join _ _ here refl) in
    (once.0, (rest, once-get xs r once.1.1 low parts.1))

unheld : (r : ResId) (held : List ResId) → is_held r held ≡ false → is_held r (without_last held) ≡ false
unheld r [] h = refl
unheld r (x ∷ []) h = refl
unheld r (x ∷ y ∷ ys) h =
    let parts = or_parts (same_resource r x) (is_held r (y ∷ ys)) h in
    or_join _ _ parts.0 (unheld r (y ∷ ys) parts.1)

pub once-release : (held : List ResId) → IsEachOnce held → IsEachOnce (without_last held)
once-release [] once = tt
once-release (x ∷ []) once = tt
once-release (x ∷ y ∷ ys) once = (once.0, (unheld x (y ∷ ys) once.1.0, once-release (y ∷ ys) once.1.1))

take_front : {X : Type 0} (x : X) (xs : List X) → take (length xs) (x ∷ xs) ≡ without_last (x ∷ xs)
take_front x [] = refl
take_front x (y ∷ ys) = ap (λ rest. x ∷ rest) (take_front y ys)

pub without_last-take : {X : Type 0} (xs : List X) → take (length xs - 1) xs ≡ without_last xs
without_last-take [] = refl
without_last-take (x ∷ xs) =
    let one : length (x ∷ xs) - 1 ≡ length xs = omega arith in
    rw one (take_front x xs)

last_front : {X : Type 0} (x : X) (xs : List X) → slice_get (x ∷ xs) (length xs) ≡ last_of (x ∷ xs)
last_front x [] = refl
last_front x (y ∷ ys) = last_front y ys

pub last_of-slice_get : {X : Type 0} (xs : List X) → slice_get xs (length xs - 1) ≡ last_of xs
last_of-slice_get [] = refl
last_of-slice_get (x ∷ xs) =
    let one : length (x ∷ xs) - 1 ≡ length xs = omega arith in
    rw one (last_front x xs)
