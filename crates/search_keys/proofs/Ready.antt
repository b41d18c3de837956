-- The ready queues, of which only levels that have a task are told.
use Rattle.std.proofs.Common.{ℕ, zero, suc, ◌≡◌, ◌<◌, ◌≤◌, inl, inr, Bool, true, false, cond, List, [], ◌∷◌, ◌++◌, map, refl, sym, ◌∙◌, ap, ap₂, subst₂, arith}
use Rattle.std.specs.Prelude.{◌==◌}
use Rattle.std.proofs.lemmas.List.{append_assoc, append-nil}
use Rattle.std.proofs.lemmas.Bool.{cases_lt, eq-eqb, ne_eqb}
use Rattle.search_keys.specs.Bytes.{each, number}
use Rattle.search_keys.specs.Key.{level_key, ready_key}
use Rattle.search_keys.proofs.Codes.{Tells, weaker, ◌⨾◌, number_tells}

-- the tasks of the levels below n, each with its level
pairs : ℕ → (ℕ → List ℕ) → List (ℕ × ℕ)
pairs zero q = []
pairs (suc n) q = pairs n q ++ map (λ t. (n, t)) (q n)

pairs_key : List (ℕ × ℕ) → List ℕ
pairs_key [] = number 0
pairs_key (e ∷ es) = number (suc e.0) ++ number e.1 ++ pairs_key es

-- ---- the bytes are those of the pairs

level_pairs : (l : ℕ) (ts : List ℕ) (es : List (ℕ × ℕ))
    → level_key l ts ++ pairs_key es ≡ pairs_key (map (λ t. (l, t)) ts ++ es)
unfolding pairs_key
level_pairs l [] es = refl
level_pairs l (t ∷ ts) es =
    append_assoc (number (suc l) ++ number t) (level_key l ts) (pairs_key es)
    ∙ ap (λ ns. number (suc l) ++ number t ++ ns) (level_pairs l ts es)

levels_pairs : (n : ℕ) (q : ℕ → List ℕ) (es : List (ℕ × ℕ))
    → each n (λ l. level_key l (q l)) ++ pairs_key es ≡ pairs_key (pairs n q ++ es)
unfolding each pairs
levels_pairs zero q es = refl
levels_pairs (suc n) q es =
    append_assoc (each n (λ l. level_key l (q l))) (level_key n (q n)) (pairs_key es)
    ∙ ap (λ ns. each n (λ l. level_key l (q l)) ++ ns) (level_pairs n (q n) es)
    ∙ levels_pairs n q (map (λ t. (n, t)) (q n) ++ es)
    ∙ ap pairs_key (sym (append_assoc (pairs n q) (map (λ t. (n, t)) (q n)) es))

ready_pairs : (n : ℕ) (q : ℕ → List ℕ) → ready_key n q ≡ pairs_key (pairs n q)
unfolding pairs_key
ready_pairs n q = levels_pairs n q [] ∙ ap pairs_key (append-nil (pairs n q))

-- ---- which tell the pairs

apart : (l t : ℕ) (ns r s : List ℕ) → number 0 ++ r ≡ number (suc l) ++ number t ++ ns ++ s → ⊥
apart l t ns r s e =
    let zero_is : 0 ≡ suc l =
    ((number_tells 0 (suc l)).told r (number t ++ (ns ++ s))
    (e ∙ append_assoc (number (suc l) ++ number t) ns s
    ∙ append_assoc (number (suc l)) (number t) (ns ++ s))).0 in
    omega (arith, zero_is)

pairs_tell : (es fs : List (ℕ × ℕ)) → Tells (pairs_key es) (pairs_key fs) (es ≡ fs)
unfolding pairs_key
pairs_tell [] [] = weaker (number_tells 0 0) (λ e. refl)
pairs_tell [] (f ∷ fs) = record { told = λ r s e. absurd (apart f.0 f.1 (pairs_key fs) r s e) }
pairs_tell (e ∷ es) [] = record {
  told = λ r s h. absurd (apart e.0 e.1 (pairs_key es) s r (sym h));
}
pairs_tell (e ∷ es) (f ∷ fs) =
    weaker (number_tells (suc e.0) (suc f.0) ⨾ number_tells e.1 f.1 ⨾ pairs_tell es fs) (λ h.
    let level = h.0.0 in
    let same : e.0 ≡ f.0 = omega (arith, level) in
    λ i. (same i, h.0.1 i) ∷ h.1 i)

-- ---- and so the queues

at : ℕ → List (ℕ × ℕ) → List ℕ
at l [] = []
at l (e ∷ es) = cond (e.0 == l) (e.1 ∷ at l es) (at l es)

at_append : (l : ℕ) (es fs : List (ℕ × ℕ)) → at l (es ++ fs) ≡ at l es ++ at l fs
unfolding at
at_append l [] fs = refl
at_append l (e ∷ es) fs = go (e.0 == l) (at_append l es fs)
  where
    go : (b : Bool) → at l (es ++ fs) ≡ at l es ++ at l fs
        → cond b (e.1 ∷ at l (es ++ fs)) (at l (es ++ fs))
        ≡ cond b (e.1 ∷ at l es) (at l es) ++ at l fs
    go true h = ap (λ ts. e.1 ∷ ts) h
    go false h = h

at_here : (l : ℕ) (ts : List ℕ) → at l (map (λ t. (l, t)) ts) ≡ ts
unfolding at
at_here l [] = refl
at_here l (t ∷ ts) =
    let rest = at l (map (λ u. (l, u)) ts) in
    ap (λ b. cond b (t ∷ rest) rest) (eq-eqb l l refl) ∙ ap (λ us. t ∷ us) (at_here l ts)

at_other : (l m : ℕ) (ts : List ℕ) → (m ≡ l → ⊥) → at l (map (λ t. (m, t)) ts) ≡ []
unfolding at
at_other l m [] other = refl
at_other l m (t ∷ ts) other =
    let rest = at l (map (λ u. (m, u)) ts) in
    ap (λ b. cond b (t ∷ rest) rest) (ne_eqb m l other) ∙ at_other l m ts other

at_above : (n l : ℕ) (q : ℕ → List ℕ) → n ≤ l → at l (pairs n q) ≡ []
unfolding at pairs
at_above zero l q high = refl
at_above (suc n) l q high =
    at_append l (pairs n q) (map (λ t. (n, t)) (q n))
    ∙ ap₂ (λ ts us. ts ++ us) (at_above n l q (omega (arith, high)))
    (at_other l n (q n) (λ same. omega (arith, high, same)))

at_level : (n l : ℕ) (q : ℕ → List ℕ) → l < n → at l (pairs n q) ≡ q l
unfolding pairs
at_level zero l q low = absurd (omega (arith, low))
at_level (suc n) l q low = at_append l (pairs n q) (map (λ t. (n, t)) (q n)) ∙ go (at_level n l q)
  where
    go : (l < n → at l (pairs n q) ≡ q l) → at l (pairs n q) ++ at l (map (λ t. (n, t)) (q n)) ≡ q l
    go before = elim (cases_lt l n) [
      | inl below ↦
          ap₂ (λ ts us. ts ++ us) (before below)
          (at_other l n (q n) (λ same. omega (arith, below, same)))
          ∙ append-nil (q l)
      | inr not_below ↦
          let same : n ≡ l = omega (arith, low, not_below) in
          ap₂ (λ ts us. ts ++ us) (at_above n l q not_below)
          (ap (λ m. at l (map (λ t. (m, t)) (q m))) same ∙ at_here l (q l))
    ]

abbrev IsTold : ℕ → (ℕ → List ℕ) → (ℕ → List ℕ) → List ℕ → List ℕ → Type 0
IsTold n q p a b = Tells a b ((l : ℕ) → l < n → q l ≡ p l)

pub ready_tells : (n : ℕ) (q p : ℕ → List ℕ) → IsTold n q p (ready_key n q) (ready_key n p)
ready_tells n q p =
    subst₂ (IsTold n q p) (sym (ready_pairs n q)) (sym (ready_pairs n p))
    (weaker (pairs_tell (pairs n q) (pairs n p)) (λ same l low.
    sym (at_level n l q low) ∙ ap (at l) same ∙ at_level n l p low))
