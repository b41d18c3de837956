use Rattle.std.proofs.Common.{◌≡◌, ℕ, ◌+◌, ◌-◌, ◌<◌, ◌≤◌, Some, slice_get, List, [], ◌∷◌, ◌++◌, length, take, drop, get_or, ap, ◌∙◌, arith, append_assoc, length-append, length-drop, length-take}
use Rattle.std.proofs.lemmas.List.{drop_more, take_more, drop_all, take_all}
use Rattle.circular_buffer.specs.Buffer.{Buffer, buffer, keep_last}

-- where all fit, the last n are all
pub keep_last-all : {X : Type 0} → (n : ℕ) (xs : List X) → length xs ≤ n → keep_last n xs ≡ xs
keep_last-all n xs fits =
    let none : length xs - n ≡ 0 = omega arith in
    rw none

-- a list of which the first i tasks moved behind a task
abbrev pub turned : ℕ → List ℕ → ℕ → List ℕ
turned i xs task = drop i xs ++ task ∷ take i xs

pub length-turned : (i : ℕ) (xs : List ℕ) (task : ℕ) → length (turned i xs task) ≡ length xs + 1
length-turned i xs task = simp (length-append, length-drop, length-take) (omega arith)

-- one task more moves
pub turned-more : (i : ℕ) (xs : List ℕ) (task : ℕ) → i < length xs
    → drop 1 (turned i xs task) ++ get_or xs i 0 ∷ [] ≡ turned (i + 1) xs task
turned-more i xs task low =
    let a : drop i xs ≡ get_or xs i 0 ∷ drop (i + 1) xs = drop_more xs i 0 low in
    let b : take (i + 1) xs ≡ take i xs ++ get_or xs i 0 ∷ [] = take_more xs i 0 low in
    rw (a, b) (append_assoc (drop (i + 1) xs) (task ∷ take i xs) (get_or xs i 0 ∷ []))

-- the first task of a turned list, while some have not moved
pub first-turned : (i : ℕ) (xs : List ℕ) (task : ℕ) → i < length xs
    → slice_get (turned i xs task) 0 ≡ Some (get_or xs i 0)
first-turned i xs task low =
    let a : drop i xs ≡ get_or xs i 0 ∷ drop (i + 1) xs = drop_more xs i 0 low in
    rw a

-- one turn of the loop: a pop in front and a push behind
pub turn : (xs : List ℕ) (task n i x : ℕ) (was popped now : Buffer ℕ) → i < length xs → length xs < n
    → was ≡ buffer (turned i xs task) n → Some x ≡ slice_get was.items 0
    → popped ≡ buffer (drop 1 was.items) was.capacity
    → now ≡ buffer (keep_last popped.capacity (popped.items ++ x ∷ [])) popped.capacity
    → now ≡ buffer (turned (i + 1) xs task) n
turn xs task n i x was popped now low room is first pop push =
    let items : was.items ≡ turned i xs task = ap (λ (b : Buffer ℕ). b.items) is in
    let capacity : was.capacity ≡ n = ap (λ (b : Buffer ℕ). b.capacity) is in
    let both : Some x ≡ Some (get_or xs i 0) =
    first ∙ ap (λ (l : List ℕ). slice_get l 0) items ∙ first-turned i xs task low in
    let known : x ≡ get_or xs i 0 = cc in
    let rest : popped.items ++ x ∷ [] ≡ turned (i + 1) xs task =
    ap (λ (b : Buffer ℕ). b.items ++ x ∷ []) pop ∙ ap (λ (l : List ℕ). drop 1 l ++ x ∷ []) items
    ∙ ap (λ y. drop 1 (turned i xs task) ++ y ∷ []) known ∙ turned-more i xs task low in
    let whole : popped.capacity ≡ n = ap (λ (b : Buffer ℕ). b.capacity) pop ∙ capacity in
    let long : length (popped.items ++ x ∷ []) ≡ length xs + 1 = ap length rest ∙ length-turned (i + 1) xs task in
    let fits : length (popped.items ++ x ∷ []) ≤ popped.capacity = omega arith in
    push ∙ (λ j. buffer ((keep_last-all popped.capacity (popped.items ++ x ∷ []) fits ∙ rest) j) (whole j))

-- all have moved
pub turned-all : (i : ℕ) (xs : List ℕ) (task : ℕ) → length xs ≤ i → turned i xs task ≡ task ∷ xs
turned-all i xs task all =
    let a : drop i xs ≡ [] = drop_all i xs all in
    let b : take i xs ≡ xs = take_all i xs all in
    rw (a, b)
