-- Older ages stay older, and show no less.
use Rattle.std.proofs.Common.{ℕ, zero, suc, ◌≡◌, ◌-◌, Bool, true, false, cond, List, [], ◌∷◌, ◌++◌, map, replicate, length, None, sym, subst, subst₂, arith}
use Rattle.view_figures.specs.declared.task_tick.TaskTick.{TaskTick}
use Rattle.view_figures.specs.ResponseSums.{later}
use Rattle.view_figures.specs.StateSums.{leaves}
use Rattle.law_figures.specs.Labels.{IsAtMost}
use Rattle.law_figures.specs.Ages.{followed, ages_in, ages_next, oldest, oldest_age, leaving_age, AreOlder, AgesKeepOrder}

pub older_itself : (xs : List ℕ) → AreOlder xs xs
older_itself [] = tt
older_itself (x ∷ xs) = (omega arith, older_itself xs)

older_joined : (xs ys zs : List ℕ) → AreOlder xs ys → AreOlder ys zs → AreOlder xs zs
older_joined xs ys [] h k = tt
older_joined xs [] (z ∷ zs) h k = absurd k
older_joined [] (y ∷ ys) (z ∷ zs) h k = absurd h
older_joined (x ∷ xs) (y ∷ ys) (z ∷ zs) h k =
    (omega (arith, h.0, k.0), older_joined xs ys zs h.1 k.1)

-- the ages in a tick in which so many stand
abbrev grown : ℕ → List ℕ → List ℕ
grown n xs = map suc xs ++ replicate (n - length xs) 1

grown_more : (n x : ℕ) (xs : List ℕ) → grown n (x ∷ xs) ≡ suc x ∷ grown (n - 1) xs
grown_more n x xs =
    let e : n - length (x ∷ xs) ≡ (n - 1) - length xs = omega arith in
    λ i. suc x ∷ (map suc xs ++ replicate (e i) 1)

older_than_new : (n : ℕ) (xs : List ℕ) → AreOlder (grown n xs) (replicate n 1)
older_than_new zero xs = tt
older_than_new (suc n) [] =
    let e : suc n - 0 ≡ suc n = omega arith in
    subst (λ k. AreOlder (replicate k 1) (replicate (suc n) 1)) (sym e)
    (older_itself (replicate (suc n) 1))
older_than_new (suc n) (x ∷ xs) =
    let e : suc n - length (x ∷ xs) ≡ n - length xs = omega arith in
    subst (λ k. AreOlder (map suc (x ∷ xs) ++ replicate k 1) (replicate (suc n) 1)) (sym e)
    (omega arith, older_than_new n xs)

older_grown : (n : ℕ) (xs ys : List ℕ) → AreOlder xs ys → AreOlder (grown n xs) (grown n ys)
older_grown n xs [] h =
    let e : n - 0 ≡ n = omega arith in
    subst (λ k. AreOlder (grown n xs) (replicate k 1)) (sym e) (older_than_new n xs)
older_grown n [] (y ∷ ys) h = absurd h
older_grown n (x ∷ xs) (y ∷ ys) h =
    subst₂ AreOlder (sym (grown_more n x xs)) (sym (grown_more n y ys))
    (omega (arith, h.0), older_grown (n - 1) xs ys h.1)

older_in : (t : TaskTick) (xs ys : List ℕ) → AreOlder xs ys → AreOlder (ages_in t xs) (ages_in t ys)
older_in t xs ys h = older_grown (followed t) xs ys h

older_behind : (xs ys : List ℕ) → AreOlder xs ys → AreOlder (later xs) (later ys)
older_behind xs [] h = tt
older_behind [] (y ∷ ys) h = absurd h
older_behind (x ∷ xs) (y ∷ ys) h = h.1

older_next : (t : TaskTick) (xs ys : List ℕ) → AreOlder xs ys
    → AreOlder (ages_next t xs) (ages_next t ys)
older_next t xs ys h = go (leaves t)
  where
    go : (b : Bool) → AreOlder (cond b (later (ages_in t xs)) (ages_in t xs))
        (cond b (later (ages_in t ys)) (ages_in t ys))
    go true = older_behind (ages_in t xs) (ages_in t ys) (older_in t xs ys h)
    go false = older_in t xs ys h

oldest_no_less : (m : ℕ) (xs ys : List ℕ) → AreOlder xs ys → IsAtMost m (oldest xs)
    → IsAtMost m (oldest ys)
oldest_no_less m xs [] h low = tt
oldest_no_less m [] (y ∷ ys) h low = absurd h
oldest_no_less m (x ∷ xs) (y ∷ ys) h low = omega (arith, h.0, low)

oldest_shown : (t : TaskTick) (xs ys : List ℕ) (m : ℕ) → AreOlder xs ys
    → IsAtMost m (oldest_age t xs) → IsAtMost m (oldest_age t ys)
oldest_shown t xs ys m h low = oldest_no_less m (ages_in t xs) (ages_in t ys)
    (older_in t xs ys h) low

leaving_shown : (t : TaskTick) (xs ys : List ℕ) (m : ℕ) → AreOlder xs ys
    → IsAtMost m (leaving_age t xs) → IsAtMost m (leaving_age t ys)
leaving_shown t xs ys m h = go (leaves t)
  where
    go : (b : Bool) → IsAtMost m (cond b (oldest_age t xs) None)
        → IsAtMost m (cond b (oldest_age t ys) None)
    go true low = oldest_shown t xs ys m h low
    go false low = tt

pub ages_keep_order : AgesKeepOrder
ages_keep_order = record {
  order = record { itself = older_itself; joined = older_joined; next = older_next };
  oldest = oldest_shown;
  leaving = leaving_shown;
}
