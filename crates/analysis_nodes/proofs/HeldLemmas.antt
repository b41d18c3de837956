-- What is held behind a release.
use Rattle.std.proofs.Common.{◌≡◌, ◌-◌, List, [], ◌∷◌, take, length, refl, ap, arith}
use Rattle.osek_base.specs.Lists.{without_last}

take_front : {X : Type 0} (x : X) (xs : List X) → take (length xs) (x ∷ xs) ≡ without_last (x ∷ xs)
take_front x [] = refl
take_front x (y ∷ ys) = ap (λ rest. x ∷ rest) (take_front y ys)

pub without_last-take : {X : Type 0} (xs : List X) → take (length xs - 1) xs ≡ without_last xs
without_last-take [] = refl
without_last-take (x ∷ xs) =
    let one : length (x ∷ xs) - 1 ≡ length xs = omega arith in
    rw one (take_front x xs)
