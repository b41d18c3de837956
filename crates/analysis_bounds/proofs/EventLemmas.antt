-- Sums over events, and the least of them, one event more.
use Rattle.std.proofs.Common.{ℕ, zero, suc, ◌+◌, ◌*◌, ◌≡◌, ◌<◌, ◌≤◌, Bool, true, false, cond, not, ◌&&◌, ◌||◌, List, [], ◌∷◌, ◌++◌, drop, length, min, max, nat_lt, refl, sym, ◌∙◌, ap, subst, arith, inl, inr, ◌⊎◌}
use Rattle.std.specs.Prelude.{Option, Some, None, ◌^◌, ◌==◌, bit_and, bit_or}
use Rattle.std.specs.Int.{bit_at}
use Rattle.std.specs.List.{filter, sum_by}
use Rattle.std.proofs.Math.Nat.{le-max_right, min-eq_left}
use Rattle.std.proofs.lemmas.Bool.{cases_lt, eq-eqb, lt-ltb}
use Rattle.std.proofs.lemmas.List.Elements.{filter-append}
use Rattle.std.proofs.lemmas.List.Sums.{sum_by-append, sum_by-cons}
use Rattle.std.proofs.lemmas.Nat.Bits.{bit_at_and, bit_at_or, same_from_bits}
use Rattle.osek_base.specs.declared.limits.TheConstants.{MAX_EVENTS}
use Rattle.osek_base.specs.Lists.{below}
use Rattle.law_nodes.specs.Early.{bits, is_mask, is_set, least_of, lesser}
use Rattle.law_nodes.specs.Nodes.{is_within}

-- ---- sums

one_more : (n : ℕ) → n + 1 ≡ suc n
one_more n = omega arith

module _ (f : ℕ → ℕ) (passes : ℕ → Bool) where
  last_one : (b : Bool) (n : ℕ) → sum_by f (cond b (n ∷ []) []) ≡ cond b (f n) 0
  last_one true n =
      let sum = sum_by-cons f n [] in
      omega (arith, sum)
  last_one false n = refl

  -- of those below a number that pass a test
  pub sum_passing : (n : ℕ)
      → sum_by f (filter passes (below (n + 1)))
      ≡ sum_by f (filter passes (below n)) + cond (passes n) (f n) 0
  sum_passing n =
      ap (λ m. sum_by f (filter passes (below m))) (one_more n)
      ∙ ap (sum_by f) (filter-append passes (below n) (n ∷ []))
      ∙ sum_by-append f (filter passes (below n)) (filter passes (n ∷ []))
      ∙ ap (λ k. sum_by f (filter passes (below n)) + k) (last_one (passes n) n)

-- ---- the least

length_below : (n : ℕ) → length (below n) ≡ n
length_below zero = refl
length_below (suc n) = length_more (below n) n ∙ ap suc (length_below n)
  where
    length_more : (xs : List ℕ) (x : ℕ) → length (xs ++ x ∷ []) ≡ suc (length xs)
    length_more [] x = refl
    length_more (y ∷ xs) x = ap suc (length_more xs x)

drop_last : (xs : List ℕ) (x i : ℕ) → i ≤ length xs → drop i (xs ++ x ∷ []) ≡ drop i xs ++ x ∷ []
drop_last xs x zero h = refl
drop_last [] x (suc i) h = absurd (omega (arith, h))
drop_last (y ∷ xs) x (suc i) h = drop_last xs x i (omega (arith, h))

drop_all : (xs : List ℕ) (i : ℕ) → length xs ≤ i → drop i xs ≡ []
drop_all [] zero h = refl
drop_all [] (suc i) h = refl
drop_all (x ∷ xs) zero h = absurd (omega (arith, h))
drop_all (x ∷ xs) (suc i) h = drop_all xs i (omega (arith, h))

below_end : (n i : ℕ) → n ≤ i → drop i (below n) ≡ []
below_end n i h =
    let same = length_below n in
    drop_all (below n) i (omega (arith, h, same))

below_step : (n i : ℕ) → i < n → drop i (below n) ≡ i ∷ drop (i + 1) (below n)
below_step zero i h = absurd (omega (arith, h))
below_step (suc n) i h = go (cases_lt i n) (below_step n i)
  where
    many : length (below n) ≡ n
    many = length_below n

    go : (i < n) ⊎ (n ≤ i) → (i < n → drop i (below n) ≡ i ∷ drop (i + 1) (below n))
        → drop i (below n ++ n ∷ []) ≡ i ∷ drop (i + 1) (below n ++ n ∷ [])
    go (inl less) earlier =
        drop_last (below n) n i (omega (arith, less, many))
        ∙ ap (λ xs. xs ++ n ∷ []) (earlier less)
        ∙ ap (λ xs. i ∷ xs) (sym (drop_last (below n) n (i + 1) (omega (arith, less, many))))
    go (inr last) earlier =
        let same : i ≡ n = omega (arith, last, h) in
        let all = length_below (suc n) in
        drop_last (below n) n i (omega (arith, h, many))
        ∙ ap (λ xs. xs ++ n ∷ []) (below_end n i last)
        ∙ ap (λ m. m ∷ []) (sym same)
        ∙ ap (λ xs. i ∷ xs)
        (sym (drop_all (below n ++ n ∷ []) (i + 1) (omega (arith, last, all))))

-- of events of a mask from one on
abbrev pub least_after : (ℕ → ℕ) → ℕ → ℕ → Option ℕ
least_after cost m i = least_of cost (filter (is_set m) (drop i bits))

pub least_end : (cost : ℕ → ℕ) (m i : ℕ) → MAX_EVENTS ≤ i → least_after cost m i ≡ None
least_end cost m i past = ap (λ xs. least_of cost (filter (is_set m) xs)) (below_end MAX_EVENTS i past)

pub least_step : (cost : ℕ → ℕ) (m i : ℕ) → i < MAX_EVENTS
    → least_after cost m i
    ≡ cond (is_set m i) (Some (lesser (cost i) (least_after cost m (i + 1))))
    (least_after cost m (i + 1))
least_step cost m i low =
    ap (λ xs. least_of cost (filter (is_set m) xs)) (below_step MAX_EVENTS i low)
    ∙ go (is_set m i)
  where
    rest : List ℕ
    rest = filter (is_set m) (drop (i + 1) bits)

    go : (b : Bool)
        → least_of cost (cond b (i ∷ rest) rest)
        ≡ cond b (Some (lesser (cost i) (least_of cost rest))) (least_of cost rest)
    go true = refl
    go false = refl

-- ---- masks

pub mask_is : (m : ℕ) → m < 2 ^ MAX_EVENTS → is_mask m ≡ true
mask_is m low = lt-ltb m (2 ^ MAX_EVENTS) low

-- a mask is within all that has it
pub within_or : (n m : ℕ) → is_within m (bit_or n m) ≡ true
within_or n m =
    eq-eqb (bit_and m (bit_or n m)) m
    (same_from_bits (bit_and m (bit_or n m)) m
    (λ i.
    bit_at_and m (bit_or n m) i ∙ ap (min (bit_at m i)) (bit_at_or n m i)
    ∙ absorbs (bit_at n i) (bit_at m i)))
  where
    absorbs : (u v : ℕ) → min v (max u v) ≡ v
    absorbs u v = min-eq_left (le-max_right u v)
