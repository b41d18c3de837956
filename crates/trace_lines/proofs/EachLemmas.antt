-- What holds of each element of a list and its number.
use Rattle.std.proofs.Common.{◌≡◌, ℕ, zero, suc, ◌+◌, ◌<◌, List, [], ◌∷◌, ◌++◌, length, get_or, refl, sym, subst, ap, ◌∙◌, arith}
use Rattle.std.proofs.lemmas.List.{length-append}
use Rattle.std.specs.List.{AllByRecursion}
use Rattle.law_runs.proofs.Lists.{some_inside}
use Rattle.trace_lines.specs.Programs.{EachAt}

module _ {X : Type 0} where
  -- an element more at the end
  pub each_more : (P : ℕ → X → Type 0) (xs : List X) (x : X) → EachAt P xs → P (length xs) x → EachAt P (xs ++ x ∷ [])
  each_more P [] x each this zero y h = subst (P 0) (some_inside x y h) this
  each_more P [] x each this (suc i) y h = absurd (grind arith)
  each_more P (z ∷ xs) x each this zero y h = each 0 y h
  each_more P (z ∷ xs) x each this (suc i) y h =
      each_more (λ n. P (suc n)) xs x (λ n w k. each (suc n) w k) this i y h

  -- what holds of each holds of the one at a place
  pub each_at : (P : ℕ → X → Type 0) (xs : List X) (i : ℕ) (x : X) → EachAt P xs → i < length xs → x ≡ get_or xs i x → P i x
  each_at P [] i x each h e = absurd (omega (arith, h))
  each_at P (y ∷ xs) zero x each h e = subst (P 0) (sym e) (each 0 y refl)
  each_at P (y ∷ xs) (suc i) x each h e = each_at (λ n. P (suc n)) xs i x (λ n w k. each (suc n) w k) (omega (arith, h)) e

  -- what holds of all holds of the one at a place
  pub all_at : (P : X → Type 0) (xs : List X) (i : ℕ) (x : X) → AllByRecursion P xs → i < length xs → x ≡ get_or xs i x → P x
  all_at P [] i x all h e = absurd (omega (arith, h))
  all_at P (y ∷ xs) zero x all h e = subst P (sym e) all.0
  all_at P (y ∷ xs) (suc i) x all h e = all_at P xs i x all.1 (omega (arith, h)) e

  -- what holds of all holds of a front and of the rest
  pub all_split : (P : X → Type 0) (xs ys : List X) → AllByRecursion P (xs ++ ys) → AllByRecursion P xs × AllByRecursion P ys
  all_split P [] ys all = (tt, all)
  all_split P (x ∷ xs) ys all =
      let split = all_split P xs ys all.1 in
      ((all.0, split.0), split.1)

  -- and there is one more
  pub one_longer : (xs ys : List X) (x : X) (n : ℕ) → length xs ≡ n → ys ≡ xs ++ x ∷ [] → length ys ≡ n + 1
  one_longer xs ys x n h e = ap length e ∙ length-append xs (x ∷ []) ∙ ap (λ k. k + 1) h
