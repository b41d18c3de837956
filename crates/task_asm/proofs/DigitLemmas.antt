-- A number's hexadecimal digits behind zeros are its last digits.
use Rattle.std.proofs.Common.{◌≡◌, ℕ, zero, suc, ◌-◌, ◌/◌, ◌%◌, ◌^◌, ◌<◌, ◌≤◌, ◌==◌, Bool, true, false, List, [], ◌∷◌, ◌++◌, length, replicate, refl, sym, ap, ◌∙◌, subst, append_assoc, length-append, arith, inl, inr, if◌then◌else◌}
use Rattle.std.proofs.lemmas.Bool.{eqb-true}
use Rattle.std.proofs.lemmas.Bool.Decides.{eqb_tells}
use Rattle.std.specs.Fmt.{digits, digits_onto, digit_glyph}
use Rattle.std.proofs.lemmas.List.{append-nil}
use Rattle.std.proofs.Math.Nat.{pow-suc}
use Rattle.task_asm.specs.Operands.{last_digits}

replicate_more : (j : ℕ) → ◌++◌ {A = ℕ} (replicate j 48) (48 ∷ []) ≡ replicate (suc j) 48
replicate_more zero = refl
replicate_more (suc j) = ap (λ (xs : List ℕ). 48 ∷ xs) (replicate_more j)

zeros : (j : ℕ) → last_digits j 0 ≡ replicate j 48
zeros zero = refl
zeros (suc j) = ap (λ (xs : List ℕ). xs ++ 48 ∷ []) (zeros j) ∙ replicate_more j

record Padded (k m : ℕ) (acc out : List ℕ) : Type 0 where
  front : List ℕ
  whole : out ≡ front ++ acc
  padded : replicate (k - length front) 48 ++ front ≡ last_digits k m

one_digit : (j m : ℕ) (acc : List ℕ) → m / 16 ≡ 0 → Padded (suc j) m acc (digit_glyph false (m % 16) ∷ acc)
one_digit j m acc e =
    let g : List ℕ = digit_glyph false (m % 16) ∷ [] in
    let count : suc j - length g ≡ j = omega arith in
    record {
      front = g;
      whole = refl;
      padded = ap (λ (n : ℕ). replicate n 48 ++ g) count
          ∙ ap (λ (xs : List ℕ). xs ++ g) (sym (ap (last_digits j) e ∙ zeros j));
    }

more_digits : (j m : ℕ) (acc out : List ℕ) → Padded j (m / 16) (digit_glyph false (m % 16) ∷ acc) out → Padded (suc j) m acc out
more_digits j m acc out h =
    let g : List ℕ = digit_glyph false (m % 16) ∷ [] in
    let count : suc j - length (h.front ++ g) ≡ j - length h.front = omega (arith, length-append h.front g) in
    record {
      front = h.front ++ g;
      whole = h.whole ∙ sym (append_assoc h.front g acc);
      padded = ap (λ (n : ℕ). replicate n 48 ++ (h.front ++ g)) count
          ∙ sym (append_assoc (replicate (j - length h.front) 48) h.front g)
          ∙ ap (λ (xs : List ℕ). xs ++ g) h.padded;
    }

above : (m : ℕ) → (m / 16 == 0) ≡ false → 16 ≤ m
above m e = elim (eqb_tells (m / 16) 0) [ inl h ↦ absurd cc | inr h ↦ omega arith ]

more_left : (j m : ℕ) → m < 16 ^ suc j → 16 ≤ m → 0 < j
more_left zero m small large = absurd (omega arith)
more_left (suc j) m small large = omega arith

below : (j m : ℕ) → m < 16 ^ suc j → m / 16 < 16 ^ j
below j m h = omega (arith, pow-suc 16 j)

onto : (fuel k m : ℕ) (acc : List ℕ) → k ≤ fuel → 0 < k → m < 16 ^ k → Padded k m acc (digits_onto fuel 16 false m acc)
onto fuel zero m acc fits some small = absurd (omega arith)
onto zero (suc j) m acc fits some small = absurd (omega arith)
onto (suc fuel) (suc j) m acc fits some small =
    let g : ℕ = digit_glyph false (m % 16) in
    let go : (b : Bool) → (m / 16 == 0) ≡ b → Padded (suc j) m acc (if b then g ∷ acc else digits_onto fuel 16 false (m / 16) (g ∷ acc))
    = λ b e. elim b as (λ v. (m / 16 == 0) ≡ v → Padded (suc j) m acc (if v then g ∷ acc else digits_onto fuel 16 false (m / 16) (g ∷ acc))) [
      | true ↦ λ e. one_digit j m acc (eqb-true (m / 16) 0 e)
      | false ↦ λ e. more_digits j m acc (digits_onto fuel 16 false (m / 16) (g ∷ acc))
          (onto fuel j (m / 16) (g ∷ acc) (omega arith) (more_left j m small (above m e)) (below j m small))
    ] e in
    go (m / 16 == 0) refl

of_onto : (m : ℕ) (out : List ℕ) → Padded 8 m [] out → replicate (8 - length out) 48 ++ out ≡ last_digits 8 m
of_onto m out h =
    let e : h.front ≡ out = sym (append-nil h.front) ∙ sym h.whole in
    subst (λ (xs : List ℕ). replicate (8 - length xs) 48 ++ xs ≡ last_digits 8 m) e h.padded

pub mask_digits : (m : ℕ) → m < 2 ^ 32 → replicate (8 - length (digits 16 false m)) 48 ++ digits 16 false m ≡ last_digits 8 m
unfolding digits
mask_digits m small = of_onto m (digits_onto 64 16 false m []) (onto 64 8 m [] (omega arith) (omega arith) small)
