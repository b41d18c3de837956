-- Numbers that are cut at a greatest value while they are read.
use Rattle.std.proofs.Common.{◌≡◌, ℕ, ◌+◌, ◌*◌, List, [], ◌∷◌, min, sym, ◌∙◌, ap, arith}
use Rattle.osek_base.specs.Words.{digit_of, number_from}

cut_step : (v d M : ℕ) → min (min v M * 10 + d) M ≡ min (v * 10 + d) M
cut_step v d M = omega arith

cut_twice : (v M : ℕ) → min (min v M) M ≡ min v M
cut_twice v M = omega arith

-- what was cut so far may be read on
pub number_from_cut : (v M : ℕ) (digits : List ℕ) → min (number_from 10 (min v M) digits) M ≡ min (number_from 10 v digits) M
number_from_cut v M [] = cut_twice v M
number_from_cut v M (d ∷ digits) =
    sym (number_from_cut (min v M * 10 + digit_of d) M digits)
    ∙ ap (λ n. min (number_from 10 n digits) M) (cut_step v (digit_of d) M)
    ∙ number_from_cut (v * 10 + digit_of d) M digits
