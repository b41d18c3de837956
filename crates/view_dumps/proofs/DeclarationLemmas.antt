-- Pieces of declarations one after another.
use Rattle.std.proofs.Common.{◌≡◌, ℕ, ◌+◌, add-one, List, ◌++◌, sym, ap, ◌∙◌, append_assoc}
use Rattle.view_dumps.specs.Declarations.{each_below}

-- three pieces
pub three : (old a b c x y z : List ℕ) → x ≡ old ++ a → y ≡ x ++ b → z ≡ y ++ c → z ≡ old ++ (a ++ b ++ c)
three old a b c x y z p q r =
    r ∙ ap (λ (l : List ℕ). l ++ c) (q ∙ ap (λ (l : List ℕ). l ++ b) p ∙ append_assoc old a b) ∙ append_assoc old (a ++ b) c

-- the text of one thing more
pub each_more : (text : ℕ → List ℕ) (old before now : List ℕ) (n : ℕ) → before ≡ old ++ each_below text n → now ≡ before ++ text n
    → now ≡ old ++ each_below text (n + 1)
each_more text old before now n was is =
    is
    ∙ ap (λ (l : List ℕ). l ++ text n) was
    ∙ append_assoc old (each_below text n) (text n)
    ∙ ap (λ (m : ℕ). old ++ each_below text m) (sym (add-one n))
