-- Numbers that pass a test, in order: their new numbers, and where they stand.
use Rattle.std.proofs.Common.{◌≡◌, ℕ, zero, suc, ◌<◌, ◌≤◌, ◌⊎◌, Bool, true, false, cond, nat_lt, List, [], ◌∷◌, ◌++◌, map, length, refl, sym, ◌∙◌, ap, inl, inr, arith}
use Rattle.std.specs.Prelude.{Some, ◌==◌, slice_get, slice_index_or}
use Rattle.std.proofs.lemmas.Bool.{cases_lt, cases_order}
use Rattle.std.proofs.lemmas.List.{length-append, append-nil}
use Rattle.std.proofs.lemmas.List.Elements.{filter-append}
use Rattle.osek_base.specs.Lists.{below}
use Rattle.osek_base.specs.Agree.{kept, rank}

pub clash : true ≡ false → ⊥
clash e = cc

-- ---- one number more

pub kept_more : (test : ℕ → Bool) (n : ℕ) → kept test (suc n) ≡ kept test n ++ cond (test n) (n ∷ []) []
kept_more test n = filter-append test (below n) (n ∷ [])

pub rank_true : (test : ℕ → Bool) (n : ℕ) → test n ≡ true → rank test (suc n) ≡ suc (rank test n)
rank_true test n h =
    ap length (kept_more test n ∙ ap (λ b. kept test n ++ cond b (n ∷ []) []) h)
    ∙ length-append (kept test n) (n ∷ []) ∙ omega arith

pub rank_false : (test : ℕ → Bool) (n : ℕ) → test n ≡ false → rank test (suc n) ≡ rank test n
rank_false test n h =
    ap length (kept_more test n ∙ ap (λ b. kept test n ++ cond b (n ∷ []) []) h)
    ∙ length-append (kept test n) [] ∙ omega arith

-- ---- the order of new numbers

rank_step : (test : ℕ → Bool) (n : ℕ) → rank test n ≤ rank test (suc n)
rank_step test n = go (test n) refl
  where
    go : (b : Bool) → test n ≡ b → rank test n ≤ rank test (suc n)
    go true h = omega (arith, rank_true test n h)
    go false h = omega (arith, rank_false test n h)

pub rank_within : (test : ℕ → Bool) (n : ℕ) → rank test n ≤ n
rank_within test zero = omega arith
rank_within test (suc n) = go (rank_within test n) (test n) refl
  where
    go : rank test n ≤ n → (b : Bool) → test n ≡ b → rank test (suc n) ≤ suc n
    go so_far true h = omega (arith, rank_true test n h, so_far)
    go so_far false h = omega (arith, rank_false test n h, so_far)

pub rank_mono : (test : ℕ → Bool) (a b : ℕ) → a ≤ b → rank test a ≤ rank test b
rank_mono test a zero h = let e : a ≡ zero = omega (arith, h) in rw e (omega arith)
rank_mono test a (suc b) h = go (rank_mono test a b) (cases_lt b a)
  where
    go : (a ≤ b → rank test a ≤ rank test b) → (b < a) ⊎ (a ≤ b) → rank test a ≤ rank test (suc b)
    go so_far (inl more) = let e : a ≡ suc b = omega (arith, h, more) in rw e (omega arith)
    go so_far (inr less) = omega (arith, so_far less, rank_step test b)

pub rank_less : (test : ℕ → Bool) (a b : ℕ) → a < b → test a ≡ true → rank test a < rank test b
rank_less test a b h pass = omega (arith, rank_true test a pass, rank_mono test (suc a) b (omega (arith, h)))

-- different numbers that pass get different numbers
pub rank_same : (test : ℕ → Bool) (a b : ℕ) → test a ≡ true → test b ≡ true → (rank test a == rank test b) ≡ (a == b)
rank_same test a b pass pass' = go (cases_order a b)
  where
    go : (a ≡ b) ⊎ ((a < b) ⊎ (b < a)) → (rank test a == rank test b) ≡ (a == b)
    go (inl e) = grind (arith, e)
    go (inr (inl less)) = grind (arith, rank_less test a b less pass, less)
    go (inr (inr more)) = grind (arith, rank_less test b a more pass', more)

-- ---- where a number stands

pub length_below : (n : ℕ) → length (below n) ≡ n
length_below zero = refl
length_below (suc n) = length-append (below n) (n ∷ []) ∙ omega (arith, length_below n)

pub get_append_left : {X : Type 0} (xs ys : List X) (i : ℕ) (x : X) → slice_get xs i ≡ Some x → slice_get (xs ++ ys) i ≡ Some x
get_append_left [] ys i x h = absurd (grind arith)
get_append_left (y ∷ xs) ys zero x h = h
get_append_left (y ∷ xs) ys (suc i) x h = get_append_left xs ys i x h

pub get_append_right : {X : Type 0} (xs : List X) (y : X) (ys : List X) → slice_get (xs ++ y ∷ ys) (length xs) ≡ Some y
get_append_right [] y ys = refl
get_append_right (x ∷ xs) y ys = get_append_right xs y ys

pub kept_at : (test : ℕ → Bool) (n a : ℕ) → a < n → test a ≡ true → slice_get (kept test n) (rank test a) ≡ Some a
kept_at test zero a h pass = absurd (omega (arith, h))
kept_at test (suc n) a h pass = go (λ less. kept_at test n a less pass) (cases_lt a n)
  where
    go : (a < n → slice_get (kept test n) (rank test a) ≡ Some a) → (a < n) ⊎ (n ≤ a)
        → slice_get (kept test (suc n)) (rank test a) ≡ Some a
    go so_far (inl less) =
        ap (λ xs. slice_get xs (rank test a)) (kept_more test n)
        ∙ get_append_left (kept test n) (cond (test n) (n ∷ []) []) (rank test a) a (so_far less)
    go so_far (inr more) =
        let e : n ≡ a = omega (arith, h, more) in
        ap (λ xs. slice_get xs (rank test a)) (kept_more test n)
        ∙ ap (λ b. slice_get (kept test n ++ cond b (n ∷ []) []) (rank test a)) (ap test e ∙ pass)
        ∙ ap (λ m. slice_get (kept test n ++ n ∷ []) (rank test m)) (sym e)
        ∙ get_append_right (kept test n) n [] ∙ ap Some e

pub below_at : (n i : ℕ) → i < n → slice_get (below n) i ≡ Some i
below_at zero i h = absurd (omega (arith, h))
below_at (suc n) i h = go (below_at n i) (cases_lt i n)
  where
    go : (i < n → slice_get (below n) i ≡ Some i) → (i < n) ⊎ (n ≤ i) → slice_get (below (suc n)) i ≡ Some i
    go so_far (inl less) = get_append_left (below n) (n ∷ []) i i (so_far less)
    go so_far (inr more) =
        let e : n ≡ i = omega (arith, h, more) in
        ap (λ m. slice_get (below n ++ n ∷ []) m) (sym e ∙ sym (length_below n)) ∙ get_append_right (below n) n [] ∙ ap Some e

pub at_map : {X Y : Type 0} (f : X → Y) (xs : List X) (i : ℕ) (x : X) (d : Y) → slice_get xs i ≡ Some x
    → slice_index_or (map f xs) i d ≡ f x
at_map f [] i x d h = absurd (grind arith)
at_map f (y ∷ xs) zero x d h = ap f (grind arith)
at_map f (y ∷ xs) (suc i) x d h = at_map f xs i x d h

-- ---- a test that the first numbers pass

-- all pass
pub all_kept : (test : ℕ → Bool) (n : ℕ) → ((a : ℕ) → a < n → test a ≡ true) → kept test n ≡ below n
all_kept test zero all = refl
all_kept test (suc n) all =
    kept_more test n ∙ ap (λ b. kept test n ++ cond b (n ∷ []) []) (all n (omega arith))
    ∙ ap (λ xs. xs ++ n ∷ []) (all_kept test n (λ a h. all a (omega (arith, h))))

-- below a number that passes all pass
abbrev pub IsFirstly : (ℕ → Bool) → ℕ → Type 0
IsFirstly test n = (a b : ℕ) → a ≤ b → b < n → test b ≡ true → test a ≡ true

-- those that pass are the first
pub first_kept : (test : ℕ → Bool) (n : ℕ) → IsFirstly test n → kept test n ≡ below (rank test n)
first_kept test zero firstly = refl
first_kept test (suc n) firstly =
    go (first_kept test n (λ a b le less. firstly a b le (omega (arith, less)))) (test n) refl
  where
    go : kept test n ≡ below (rank test n) → (b : Bool) → test n ≡ b → kept test (suc n) ≡ below (rank test (suc n))
    go so_far true h =
        let all : kept test (suc n) ≡ below (suc n) = all_kept test (suc n) (λ a less. firstly a n (omega (arith, less)) (omega arith) h) in
        all ∙ ap below (sym (ap length all ∙ length_below (suc n)))
    go so_far false h =
        kept_more test n ∙ ap (λ b. kept test n ++ cond b (n ∷ []) []) h ∙ append-nil (kept test n)
        ∙ so_far ∙ ap below (sym (rank_false test n h))

pub first_split : (test : ℕ → Bool) (n : ℕ) → IsFirstly test n → (t : ℕ) → t < n → test t ≡ nat_lt t (rank test n)
first_split test zero firstly t h = absurd (omega (arith, h))
first_split test (suc n) firstly t h =
    go (first_split test n (λ a b le below_n. firstly a b le (omega (arith, below_n))) t) (test n) refl
  where
    go : (t < n → test t ≡ nat_lt t (rank test n)) → (b : Bool) → test n ≡ b → test t ≡ nat_lt t (rank test (suc n))
    go so_far true e =
        let all : kept test (suc n) ≡ below (suc n) = all_kept test (suc n) (λ a less. firstly a n (omega (arith, less)) (omega arith) e) in
        let count : rank test (suc n) ≡ suc n = ap length all ∙ length_below (suc n) in
        firstly t n (omega (arith, h)) (omega arith) e ∙ grind (arith, count, h)
    go so_far false e = last (cases_lt t n)
      where
        last : (t < n) ⊎ (n ≤ t) → test t ≡ nat_lt t (rank test (suc n))
        last (inl less) =
            so_far less
            ∙ ap (nat_lt t) (sym (rank_false test n e))
        last (inr more) =
            let same : t ≡ n = omega (arith, h, more) in
            ap test same ∙ e ∙ grind (arith, rank_false test n e, rank_within test n, same)
