-- The line of a time, whose last digit is written behind the others.
use Rattle.std.proofs.Common.{◌≡◌, ℕ, zero, suc, ◌+◌, ◌-◌, ◌/◌, ◌%◌, ◌^◌, ◌<◌, ◌≤◌, ◌==◌, cond, List, [], ◌∷◌, ◌++◌, append_assoc, drop, get_or, length, length-append, ne_eqb, refl, set, subst, sym, take, ap, ap₂, ◌∙◌, arith}
use Rattle.std.proofs.lemmas.List.{length-take-le}
use Rattle.std.specs.Prelude.{decimal}
use Rattle.std.proofs.Math.Nat.{suc-ne-zero}
use Rattle.std.proofs.lemmas.Fmt.{decimal_digit, decimal_step}
use Rattle.view_dumps.specs.Lines.{time_line}

-- the digits of a number but for the last
abbrev front_digits : ℕ → List ℕ
front_digits tens = cond (tens == 0) [] (decimal tens)

split_at : (n tens : ℕ) → n / 10 ≡ tens → n < 2 ^ 64 → decimal n ≡ front_digits tens ++ (48 + n % 10) ∷ []
split_at n zero e h =
    let small : n < 10 = omega (arith, e) in
    let same : n % 10 ≡ n = omega (arith, small) in
    decimal_digit n small ∙ ap (λ d. (48 + d) ∷ []) (sym same)
split_at n (suc t) e h =
    let long : 10 ≤ n = omega (arith, e) in
    rw (ne_eqb (suc t) 0 (suc-ne-zero t))
    (decimal_step n long h ∙ ap (λ a. decimal a ++ (48 + n % 10) ∷ []) e)

pub line_pushed : (old front mid whole : List ℕ) (tick tens : ℕ) → tens ≡ tick / 10 → tick < 2 ^ 32 → front ≡ 35 ∷ front_digits tens
    → mid ≡ old ++ front → whole ≡ mid ++ (48 + tick % 10) ∷ 10 ∷ [] → whole ≡ old ++ time_line tick
line_pushed old front mid whole tick tens e h f m w =
    let end : List ℕ = (48 + tick % 10) ∷ 10 ∷ [] in
    w
    ∙ ap (λ t. t ++ end) (m ∙ ap (λ t. old ++ t) f)
    ∙ append_assoc old (35 ∷ front_digits tens) end
    ∙ ap (λ t. old ++ 35 ∷ t)
    (sym (append_assoc (front_digits tens) ((48 + tick % 10) ∷ []) (10 ∷ []))
    ∙ ap (λ t. t ++ 10 ∷ []) (sym (split_at tick tens (sym e) (omega (arith, h)))))

-- the last of some bytes becomes another
last_set : (front cells : List ℕ) (n old new : ℕ) → take (suc n) cells ≡ front ++ old ∷ [] → n ≡ length front → n < length cells
    → take (suc n) (set cells n new) ≡ front ++ new ∷ []
last_set [] [] n old new e h w = absurd (omega (arith, h, w))
last_set [] (c ∷ cells) zero old new e h w = refl
last_set [] (c ∷ cells) (suc n) old new e h w = absurd (omega (arith, h))
last_set (f ∷ front) [] n old new e h w = absurd (omega (arith, w))
last_set (f ∷ front) (c ∷ cells) zero old new e h w = absurd (omega (arith, h))
last_set (f ∷ front) (c ∷ cells) (suc n) old new e h w =
    ap₂ (λ (x : ℕ) (xs : List ℕ). x ∷ xs) (ap (λ (l : List ℕ). get_or l 0 0) e) (last_set front cells n old new (ap (λ (l : List ℕ). drop 1 l) e) (omega (arith, h)) (omega (arith, w)))

-- so the front of a time becomes that of the next ten times
pub counted_up : (cells : List ℕ) (len last tens : ℕ) → 0 < tens → tens % 10 < 9 → tens < 429496729 → len ≤ length cells → last ≡ len - 1
    → take len cells ≡ 35 ∷ front_digits tens → take len (set cells last (48 + (tens + 1) % 10)) ≡ 35 ∷ front_digits (tens + 1)
counted_up cells len last tens some digit fits h at e =
    let front : List ℕ = 35 ∷ front_digits (tens / 10) in
    let was : take len cells ≡ front ++ (48 + tens % 10) ∷ [] =
    e ∙ ap (λ l. 35 ∷ l) (rw (ne_eqb tens 0 (omega (arith, some))) (split_at tens (tens / 10) refl (omega (arith, fits)))) in
    let size = sym (length-take-le len cells h) ∙ ap (λ (l : List ℕ). length l) was ∙ length-append front ((48 + tens % 10) ∷ []) in
    let long : len ≡ suc last = omega (arith, at, size) in
    let kept = subst (λ n. take n cells ≡ front ++ (48 + tens % 10) ∷ []) long was in
    let same : (tens + 1) / 10 ≡ tens / 10 = omega (arith, digit) in
    subst (λ n. take n (set cells last (48 + (tens + 1) % 10)) ≡ 35 ∷ front_digits (tens + 1)) (sym long)
    (last_set front cells last (48 + tens % 10) (48 + (tens + 1) % 10) kept (omega (arith, long, size)) (omega (arith, long, h))
    ∙ ap (λ l. 35 ∷ l)
    (sym (rw (ne_eqb (tens + 1) 0 (omega arith)) (split_at (tens + 1) (tens / 10) same (omega (arith, fits))))))
