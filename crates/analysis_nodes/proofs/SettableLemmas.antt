-- All of some masks, one by one.
use Rattle.std.proofs.Common.{◌≡◌, ℕ, ◌+◌, ◌<◌, List, [], ◌∷◌, ◌++◌, map, length, take, get_or, sym, ◌∙◌, ap, arith}
use Rattle.std.specs.Prelude.{bit_or}
use Rattle.std.specs.Int.Bits.{or_zero_r}
use Rattle.std.proofs.lemmas.List.{map_more}
use Rattle.std.proofs.lemmas.Nat.Bits.{bit_at_or, same_from_bits}
use Rattle.law_costs.specs.Settable.{all_of}

or_assoc : (a b c : ℕ) → bit_or (bit_or a b) c ≡ bit_or a (bit_or b c)
or_assoc a b c =
    same_from_bits (bit_or (bit_or a b) c) (bit_or a (bit_or b c))
    (λ i.
    (let one = bit_at_or (bit_or a b) c i in
    let two = bit_at_or a b i in
    let three = bit_at_or a (bit_or b c) i in
    let four = bit_at_or b c i in
    omega (arith, one, two, three, four)))

all_more : (ms : List ℕ) (m : ℕ) → all_of (ms ++ m ∷ []) ≡ bit_or (all_of ms) m
all_more [] m = or_zero_r m
all_more (x ∷ ms) m = ap (bit_or x) (all_more ms m) ∙ sym (or_assoc x (all_of ms) m)

-- the step of a loop over them
pub one_more : {X : Type 0} (f : X → ℕ) (xs : List X) (i : ℕ) (d : X) (all : ℕ)
    → i < length xs → all ≡ all_of (map f (take i xs))
    → bit_or all (f (get_or xs i d)) ≡ all_of (map f (take (i + 1) xs))
one_more f xs i d all inside is =
    ap (λ a. bit_or a (f (get_or xs i d))) is
    ∙ sym (all_more (map f (take i xs)) (f (get_or xs i d)))
    ∙ sym (ap all_of (map_more f xs i d inside))
