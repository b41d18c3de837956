-- Texts one behind another.
use Rattle.std.specs.Prelude.{ℕ, ◌≡◌, ◌+◌, List, ◌++◌}
use Rattle.std.proofs.Common.{◌∙◌, add-one, ap, append_assoc, sym}
use Rattle.cli_tables.specs.Texts.{each_below}

-- one more
pub each_more : (text : ℕ → List ℕ) (old : List ℕ) (n : ℕ)
    → (old ++ each_below text n) ++ text n ≡ old ++ each_below text (n + 1)
each_more text old n =
    append_assoc old (each_below text n) (text n)
    ∙ ap (λ (m : ℕ). old ++ each_below text m) (sym (add-one n))
