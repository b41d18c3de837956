-- The routines that arrive in a tick are of the system, and no others arrive.
use Rattle.std.proofs.Common.{ℕ, ◌≡◌, ◌<◌, ◌≤◌, ◌||◌, Bool, true, false, List, [], ◌∷◌, refl, sym, ◌∙◌, ap, subst, arith}
use Rattle.std.specs.Prelude.{◌==◌}
use Rattle.std.specs.List.{All, AllByRecursion}
use Rattle.std.proofs.lemmas.List.Elements.{All-cons, All-nil}
use Rattle.osek_base.specs.declared.arrivals.Arrival.{Arrival}
use Rattle.osek_base.specs.Lists.{is_in}
use Rattle.osek_base.specs.Trace.{arriving}
use Rattle.law_bounds.proofs.Arriving.{arriving_first, arriving_other}

pub known_in : (count t : ℕ) (xs : List Arrival)
    → AllByRecursion (λ (a : Arrival). a.routine < count) xs
    → All (λ i. i < count) (arriving xs t)
known_in count t [] known = All-nil (λ i. i < count)
known_in count t (a ∷ xs) known = go (known_in count t xs known.1) (a.tick == t) refl
  where
    go : All (λ i. i < count) (arriving xs t) → (b : Bool) → (a.tick == t) ≡ b
        → All (λ i. i < count) (arriving (a ∷ xs) t)
    go rest true same =
        subst (All (λ i. i < count)) (sym (arriving_first a xs t same))
        (All-cons (λ i. i < count) a.routine (arriving xs t) known.0 rest)
    go rest false other =
        subst (All (λ i. i < count)) (sym (arriving_other a xs t other)) rest

pub unknown_in : (count t i : ℕ) (xs : List Arrival)
    → AllByRecursion (λ (a : Arrival). a.routine < count) xs → count ≤ i
    → is_in i (arriving xs t) ≡ false
unknown_in count t i [] known high = refl
unknown_in count t i (a ∷ xs) known high =
    go (unknown_in count t i xs known.1 high) (a.tick == t) refl
  where
    away : (a.routine == i) ≡ false
    away = let low = known.0 in grind (arith, low, high)

    go : is_in i (arriving xs t) ≡ false → (b : Bool) → (a.tick == t) ≡ b
        → is_in i (arriving (a ∷ xs) t) ≡ false
    go rest true same =
        ap (is_in i) (arriving_first a xs t same)
        ∙ ap (λ b. b || is_in i (arriving xs t)) away ∙ rest
    go rest false other = ap (is_in i) (arriving_other a xs t other) ∙ rest
