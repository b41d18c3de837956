-- A table that is filled number by number.
use Rattle.std.proofs.Common.{◌≡◌, ◌<◌, ◌+◌, ℕ, List, length, get_or, inl, inr, arith, sym, ap, ◌∙◌}
use Rattle.std.proofs.Math.ListN.{set}
use Rattle.std.proofs.lemmas.Bool.{cases_lt}
use Rattle.std.proofs.lemmas.List.{get_or-set_other}
use Rattle.std.proofs.lemmas.Grind.{get_or-set_at}

pub one_more : {X : Type 0} (f : ℕ → X) (xs : List X) (n : ℕ) (v d : X) → n < length xs → v ≡ f n
    → ((i : ℕ) → i < n → get_or xs i d ≡ f i) → (i : ℕ) → i < n + 1 → get_or (set xs n v) i d ≡ f i
one_more f xs n v d inside v_is so_far i below =
    elim (cases_lt i n) [
      | inl lt ↦ get_or-set_other xs n i v d (λ (e : i ≡ n). omega (arith, lt, e)) ∙ so_far i lt
      | inr le ↦
          let e : i ≡ n = omega (arith, le, below) in
          get_or-set_at xs n i v d e inside ∙ v_is ∙ ap f (sym e)
    ]
