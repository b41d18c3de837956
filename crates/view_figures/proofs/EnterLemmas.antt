-- Jobs that stand in ticks in a row are followed from the first of these.
use Rattle.std.proofs.Common.{ℕ, zero, suc, ◌≡◌, ◌+◌, ◌-◌, ◌≤◌, ◌⊎◌, inl, inr, true, false, List, [], ◌∷◌, ◌++◌, cond, nat_lt, length, refl, ◌∙◌, ap, arith}
use Rattle.std.proofs.lemmas.Bool.{cases_Bool, ltb-false, le-ltb}
use Rattle.std.proofs.lemmas.List.{length_push}
use Rattle.view_figures.specs.declared.response_figures.TheConstants.{MAX_UNFINISHED}
use Rattle.view_figures.specs.ResponseSums.{one_more, some_more}

-- where as many are followed as can be, none enters
none_enter : (tick n : ℕ) (since : List ℕ) → MAX_UNFINISHED ≤ length since → some_more tick n since ≡ since
none_enter tick zero since full = refl
none_enter tick (suc n) since full =
    ap (one_more tick) (none_enter tick n since full)
    ∙ ap (λ b. cond b (since ++ tick ∷ []) since) (le-ltb (length since) MAX_UNFINISHED full)

-- so many enter, or as many are followed as can be
grown : (tick n : ℕ) (since : List ℕ)
    → (length (some_more tick n since) ≡ length since + n) ⊎ (MAX_UNFINISHED ≤ length (some_more tick n since))
grown tick zero since = inl (omega arith)
grown tick (suc n) since = go (some_more tick n since) (grown tick n since) (cases_Bool (nat_lt (length (some_more tick n since)) MAX_UNFINISHED))
  where
    go : (xs : List ℕ) → (length xs ≡ length since + n) ⊎ (MAX_UNFINISHED ≤ length xs)
        → (nat_lt (length xs) MAX_UNFINISHED ≡ true) ⊎ (nat_lt (length xs) MAX_UNFINISHED ≡ false)
        → (length (one_more tick xs) ≡ length since + suc n) ⊎ (MAX_UNFINISHED ≤ length (one_more tick xs))
    go xs (inr full) _ = inr (rw (le-ltb (length xs) MAX_UNFINISHED full) full)
    go xs (inl e) (inl room) = inl (rw room (length_push xs tick ∙ omega (arith, e)))
    go xs (inl e) (inr none) = inr (rw none (ltb-false (length xs) MAX_UNFINISHED none))

pub enters_once : (tick later stands : ℕ) (since : List ℕ)
    → some_more later (stands - length (some_more tick (stands - length since) since)) (some_more tick (stands - length since) since)
    ≡ some_more tick (stands - length since) since
enters_once tick later stands since = go (grown tick (stands - length since) since)
  where
    go : (length (some_more tick (stands - length since) since) ≡ length since + (stands - length since))
        ⊎ (MAX_UNFINISHED ≤ length (some_more tick (stands - length since) since))
        → some_more later (stands - length (some_more tick (stands - length since) since)) (some_more tick (stands - length since) since)
        ≡ some_more tick (stands - length since) since
    go (inl e) =
        let none : stands - length (some_more tick (stands - length since) since) ≡ 0 = omega (arith, e) in
        ap (λ n. some_more later n (some_more tick (stands - length since) since)) none
    go (inr full) = none_enter later (stands - length (some_more tick (stands - length since) since)) (some_more tick (stands - length since) since) full
