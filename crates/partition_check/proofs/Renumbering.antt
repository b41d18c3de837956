-- Lists by number where only the numbers that pass a test are kept.
use Rattle.std.proofs.Common.{◌≡◌, ℕ, zero, suc, ◌<◌, Bool, true, false, cond, List, [], ◌∷◌, ◌++◌, map, refl, sym, ◌∙◌, ap, ap₂, arith}
use Rattle.std.specs.List.{filter}
use Rattle.std.proofs.lemmas.List.{map-append, append-nil}
use Rattle.std.proofs.lemmas.List.Elements.{filter-append}
use Rattle.osek_base.specs.Lists.{below}
use Rattle.osek_base.specs.Agree.{kept, rank}
use Rattle.partition_check.proofs.Ranks.{kept_more, rank_true, rank_false}

-- what stands at a number, at its new number
pub map_ranked : {X : Type 0} (f g : ℕ → X) (test : ℕ → Bool) (n : ℕ)
    → ((a : ℕ) → a < n → test a ≡ true → g (rank test a) ≡ f a) → map g (below (rank test n)) ≡ map f (kept test n)
map_ranked f g test zero same = refl
map_ranked {X} f g test (suc n) same = go (map_ranked f g test n (λ a h. same a (omega (arith, h)))) (test n) refl
  where
    go : map g (below (rank test n)) ≡ map f (kept test n) → (b : Bool) → test n ≡ b
        → map g (below (rank test (suc n))) ≡ map f (kept test (suc n))
    go so_far true h =
        ap (λ m. map g (below m)) (rank_true test n h)
        ∙ map-append g (below (rank test n)) (rank test n ∷ [])
        ∙ ap₂ (λ xs (x : X). xs ++ x ∷ []) so_far (same n (omega arith) h)
        ∙ sym (map-append f (kept test n) (n ∷ []))
        ∙ ap (map f) (sym (kept_more test n ∙ ap (λ b. kept test n ++ cond b (n ∷ []) []) h))
    go so_far false h =
        ap (λ m. map g (below m)) (rank_false test n h) ∙ so_far
        ∙ ap (map f) (sym (kept_more test n ∙ ap (λ b. kept test n ++ cond b (n ∷ []) []) h ∙ append-nil (kept test n)))

-- one number more, in a list that is filtered twice and renumbered
abbrev pub renumbered_kept : (ℕ → Bool) → List ℕ → List ℕ
renumbered_kept test ns = map (rank test) (filter test ns)

renumbered_append : (test : ℕ → Bool) (ms ns : List ℕ)
    → renumbered_kept test (ms ++ ns) ≡ renumbered_kept test ms ++ renumbered_kept test ns
renumbered_append test ms ns =
    ap (map (rank test)) (filter-append test ms ns) ∙ map-append (rank test) (filter test ms) (filter test ns)

-- what passes a further test, by new numbers
pub filter_ranked : (d d' : ℕ → Bool) (test : ℕ → Bool) (n : ℕ)
    → ((a : ℕ) → a < n → test a ≡ true → d' (rank test a) ≡ d a)
    → filter d' (below (rank test n)) ≡ renumbered_kept test (filter d (below n))
filter_ranked d d' test zero same = refl
filter_ranked d d' test (suc n) same = go (filter_ranked d d' test n (λ a h. same a (omega (arith, h)))) (test n) refl
  where
    right : filter d (below (suc n)) ≡ filter d (below n) ++ cond (d n) (n ∷ []) []
    right = filter-append d (below n) (n ∷ [])

    last_true : test n ≡ true → (b : Bool)
        → cond b (rank test n ∷ []) [] ≡ renumbered_kept test (cond b (n ∷ []) [])
    last_true h true = ap (λ b. map (rank test) (cond b (n ∷ []) [])) (sym h)
    last_true h false = refl

    last_false : test n ≡ false → (b : Bool) → [] ≡ renumbered_kept test (cond b (n ∷ []) [])
    last_false h true = ap (λ b. map (rank test) (cond b (n ∷ []) [])) (sym h)
    last_false h false = refl

    go : filter d' (below (rank test n)) ≡ renumbered_kept test (filter d (below n)) → (b : Bool) → test n ≡ b
        → filter d' (below (rank test (suc n))) ≡ renumbered_kept test (filter d (below (suc n)))
    go so_far true h =
        ap (λ m. filter d' (below m)) (rank_true test n h)
        ∙ filter-append d' (below (rank test n)) (rank test n ∷ [])
        ∙ ap₂ (λ xs ys. xs ++ ys) so_far (ap (λ b. cond b (rank test n ∷ []) []) (same n (omega arith) h) ∙ last_true h (d n))
        ∙ sym (renumbered_append test (filter d (below n)) (cond (d n) (n ∷ []) []))
        ∙ ap (renumbered_kept test) (sym right)
    go so_far false h =
        ap (λ m. filter d' (below m)) (rank_false test n h)
        ∙ so_far
        ∙ sym (append-nil (renumbered_kept test (filter d (below n))))
        ∙ ap (λ ys. renumbered_kept test (filter d (below n)) ++ ys) (last_false h (d n))
        ∙ sym (renumbered_append test (filter d (below n)) (cond (d n) (n ∷ []) []))
        ∙ ap (renumbered_kept test) (sym right)
