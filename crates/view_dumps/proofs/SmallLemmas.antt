-- What stands before the identifier code where a vector has a number of at most three digits.
use Rattle.std.proofs.Common.{◌≡◌, ℕ, zero, suc, ◌<◌, List, [], ◌++◌, codes, get_or, take, ap, sym, arith}
use Rattle.view_dumps.specs.Lines.{binary}
use Rattle.view_dumps.specs.declared.dump_text.TheConstants.{SMALL}
use Rattle.view_dumps.proofs.BinaryLemmas.{binary_one, binary_three, binary_two}

abbrev framed : List ℕ → List ℕ
framed l = codes "b" ++ l ++ codes " "

pub small_front : (n : ℕ) → n < 8 → take (get_or (get_or SMALL n []) 7 0) (get_or SMALL n []) ≡ codes "b" ++ binary n ++ codes " "
small_front zero h = ap framed (sym (binary_one 0 (omega arith)))
small_front (suc zero) h = ap framed (sym (binary_one 1 (omega arith)))
small_front (suc (suc zero)) h = ap framed (sym (binary_two 2 (omega arith) (omega arith)))
small_front (suc (suc (suc zero))) h = ap framed (sym (binary_two 3 (omega arith) (omega arith)))
small_front (suc (suc (suc (suc zero)))) h = ap framed (sym (binary_three 4 (omega arith) (omega arith)))
small_front (suc (suc (suc (suc (suc zero))))) h = ap framed (sym (binary_three 5 (omega arith) (omega arith)))
small_front (suc (suc (suc (suc (suc (suc zero)))))) h = ap framed (sym (binary_three 6 (omega arith) (omega arith)))
small_front (suc (suc (suc (suc (suc (suc (suc zero))))))) h = ap framed (sym (binary_three 7 (omega arith) (omega arith)))
small_front (suc (suc (suc (suc (suc (suc (suc (suc n)))))))) h = absurd (omega (arith, h))
