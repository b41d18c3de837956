-- The eight last digits are the number's digits behind zeros.
use Rattle.std.proofs.Common.{◌++◌, ◌∷◌, ap, sym, ◌∙◌, List, ℕ}
use Rattle.task_asm.specs.Operands.{last_digits}
use Rattle.task_asm.proofs.DigitLemmas.{mask_digits}
use Rattle.task_asm.proofs.text.mask_text.Goals as goal

pub returns : goal.returns
returns c =
    let e = mask_digits c.args.mask c.ranges.mask.fits in
    c.push_digits.ensures.text ∙ ap (λ (xs : List ℕ). xs ++ last_digits 8 c.args.mask) c.short_text-operand.ensures
    ∙ ap (λ (xs : List ℕ). 48 ∷ 120 ∷ xs) (sym e)
