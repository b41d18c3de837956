-- Names that stand once: two places with one name are one place.
use Rattle.std.proofs.Common.{◌≡◌, ℕ, zero, suc, ◌<◌, true, not, List, [], ◌∷◌, length, refl, sym, ap, ◌∙◌, arith}
use Rattle.std.specs.Str.{bytes_eq}
use Rattle.std.proofs.lemmas.Bool.{and_parts, or_left, or_right, false≢true}
use Rattle.osek_base.specs.Names.{name_at, is_named, are_distinct_names}
use Rattle.system_gen.proofs.NumberedNames.{names_equal}

-- the name at a place is named
named_at : (names : List (List ℕ)) (i : ℕ) → i < length names → is_named (name_at names i) names ≡ true
named_at [] i lt = absurd (omega arith)
named_at (first ∷ rest) zero lt = or_left (bytes_eq first first) (is_named first rest) (names_equal first first refl)
named_at (first ∷ rest) (suc i) lt =
    or_right (bytes_eq (name_at rest i) first) (is_named (name_at rest i) rest) (named_at rest i (omega arith))

-- no name of the rest is the first
first_apart : (first : List ℕ) (rest : List (List ℕ)) (i : ℕ) → i < length rest → not (is_named first rest) ≡ true → first ≡ name_at rest i → ⊥
first_apart first rest i lt h e =
    let there : is_named first rest ≡ true = rw e (named_at rest i lt) in
    false≢true (ap not (sym there) ∙ h)

-- places with one name are one place
pub apart : (names : List (List ℕ)) (i j : ℕ) → i < length names → j < length names → are_distinct_names names ≡ true → name_at names i ≡ name_at names j → i ≡ j
apart [] i j li lj h e = absurd (omega arith)
apart (first ∷ rest) zero zero li lj h e = refl
apart (first ∷ rest) zero (suc j) li lj h e =
    absurd (first_apart first rest j (omega arith) (and_parts (not (is_named first rest)) (are_distinct_names rest) h).0 e)
apart (first ∷ rest) (suc i) zero li lj h e =
    absurd (first_apart first rest i (omega arith) (and_parts (not (is_named first rest)) (are_distinct_names rest) h).0 (sym e))
apart (first ∷ rest) (suc i) (suc j) li lj h e =
    ap suc (apart rest i j (omega arith) (omega arith) (and_parts (not (is_named first rest)) (are_distinct_names rest) h).1 e)
