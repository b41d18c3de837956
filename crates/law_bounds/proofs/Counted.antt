-- How often numbers stand in a list, where each stands there once at most.
use Rattle.std.proofs.Common.{ℕ, zero, suc, ◌≡◌, ◌<◌, ◌≤◌, ◌+◌, Bool, true, false, cond, ◌||◌, List, [], ◌∷◌, length, refl, sym, ◌∙◌, ap, arith, true≢false}
use Rattle.std.specs.Prelude.{◌==◌}
use Rattle.std.specs.List.{filter}
use Rattle.std.proofs.lemmas.Bool.{eqb-true}
use Rattle.std.proofs.lemmas.List.{length-append}
use Rattle.std.proofs.lemmas.List.Elements.{filter-append}
use Rattle.osek_base.specs.Lists.{below, is_in}
use Rattle.osek_base.specs.System.{System}
use Rattle.seen_ticks.specs.Observed.{one_if, times}
use Rattle.law_future.specs.Shown.{chosen_of}
use Rattle.law_future.proofs.Arrivals.{below_low, in_chosen}

none_there : (k : ℕ) (ns : List ℕ) → is_in k ns ≡ false → times k ns ≡ 0
none_there k [] none = refl
none_there k (n ∷ ns) none = go (none_there k ns) (n == k) none
  where
    go : (is_in k ns ≡ false → times k ns ≡ 0) → (b : Bool) → (b || is_in k ns) ≡ false
        → length (cond b (n ∷ filter (λ m. m == k) ns) (filter (λ m. m == k) ns)) ≡ 0
    go rest true here = absurd (true≢false here)
    go rest false others = rest others

some_there : (k : ℕ) (ns : List ℕ) → is_in k ns ≡ true → 1 ≤ times k ns
some_there k [] some = absurd (true≢false (sym some))
some_there k (n ∷ ns) some = go (some_there k ns) (n == k) some
  where
    go : (is_in k ns ≡ true → 1 ≤ times k ns) → (b : Bool) → (b || is_in k ns) ≡ true
        → 1 ≤ length (cond b (n ∷ filter (λ m. m == k) ns) (filter (λ m. m == k) ns))
    go rest true here = omega arith
    go rest false others = rest others

once_there : (k : ℕ) (ns : List ℕ) → times k ns ≤ 1 → times k ns ≡ one_if (is_in k ns)
once_there k ns once = go (is_in k ns) refl
  where
    go : (b : Bool) → is_in k ns ≡ b → times k ns ≡ one_if b
    go true is = let some = some_there k ns is in omega (arith, some, once)
    go false is = none_there k ns is

-- ---- routines that are chosen

fewer_chosen : (k : ℕ) (test : ℕ → Bool) (ns : List ℕ) → times k (filter test ns) ≤ times k ns
fewer_chosen k test [] = omega arith
fewer_chosen k test (n ∷ ns) = go (test n) (fewer_chosen k test ns)
  where
    more : (b : Bool) (xs ys : List ℕ) → length xs ≤ length ys
        → length xs ≤ length (cond b (n ∷ ys) ys)
    more true xs ys less = omega (arith, less)
    more false xs ys less = less

    both : (b : Bool) (xs ys : List ℕ) → length xs ≤ length ys
        → length (cond b (n ∷ xs) xs) ≤ length (cond b (n ∷ ys) ys)
    both true xs ys less = omega (arith, less)
    both false xs ys less = less

    go : (b : Bool) → times k (filter test ns) ≤ times k ns
        → times k (cond b (n ∷ filter test ns) (filter test ns)) ≤ times k (n ∷ ns)
    go true less =
        both (n == k) (filter (λ m. m == k) (filter test ns)) (filter (λ m. m == k) ns) less
    go false less =
        more (n == k) (filter (λ m. m == k) (filter test ns)) (filter (λ m. m == k) ns) less

once_below : (k n : ℕ) → times k (below n) ≤ 1
once_below k zero = omega arith
once_below k (suc n) =
    let both : times k (below (suc n)) ≡ times k (below n) + times k (n ∷ []) =
    ap length (filter-append (λ m. m == k) (below n) (n ∷ []))
    ∙ length-append (filter (λ m. m == k) (below n)) (filter (λ m. m == k) (n ∷ [])) in
    let sum = go (once_below k n) (n == k) refl in
    omega (arith, both, sum)
  where
    before : n ≡ k → times k (below n) ≡ 0
    before last = where_in (is_in k (below n)) refl
      where
        where_in : (b : Bool) → is_in k (below n) ≡ b → times k (below n) ≡ 0
        where_in true is = let low = below_low n k is in absurd (omega (arith, low, last))
        where_in false is = none_there k (below n) is

    go : times k (below n) ≤ 1 → (b : Bool) → (n == k) ≡ b
        → times k (below n) + length (cond b (n ∷ []) []) ≤ 1
    go once true last = let none = before (eqb-true n k last) in omega (arith, none)
    go once false other = omega (arith, once)

-- each of them stands once
pub times_of : (S : System) (test : ℕ → Bool) (k : ℕ) → k < length S.routines
    → times k (chosen_of S test) ≡ one_if (test k)
times_of S test k low =
    let fewer = fewer_chosen k test (below (length S.routines)) in
    let most = once_below k (length S.routines) in
    once_there k (chosen_of S test) (omega (arith, fewer, most))
    ∙ ap one_if (in_chosen S test k low)

-- the same list in which each of these routines stands once
pub times_chosen : (S : System) (arrived : List ℕ) (k : ℕ) → k < length S.routines
    → times k arrived ≤ 1 → times k arrived ≡ times k (chosen_of S (λ i. is_in i arrived))
times_chosen S arrived k low once =
    once_there k arrived once ∙ sym (times_of S (λ i. is_in i arrived) k low)
