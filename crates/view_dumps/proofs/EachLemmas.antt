-- Things one after another, each with what it was last written with.
use Rattle.std.proofs.Common.{◌≡◌, ℕ, zero, suc, ◌+◌, ◌<◌, add-one, List, [], ◌∷◌, ◌++◌, length, take, get_or, set, refl, sym, ap, ◌∙◌, append_assoc, append-nil, arith}
use Rattle.view_dumps.specs.Ticks.{changes_from, events_from, values_after}

module _ {V T : Type 0} (text : ℕ → V → T → List ℕ) where
  -- the text of one thing more
  changes_more : (n : ℕ) (vs : List V) (xs : List T) (i : ℕ) (d : V) (e : T) → i < length vs → i < length xs
      → changes_from text n vs (take (suc i) xs) ≡ changes_from text n vs (take i xs) ++ text (n + i) (get_or vs i d) (get_or xs i e)
  changes_more n [] xs i d e h k = absurd (omega arith)
  changes_more n (v ∷ vs) [] i d e h k = absurd (omega arith)
  changes_more n (v ∷ vs) (x ∷ xs) zero d e h k =
      let at : n ≡ n + 0 = omega arith in
      append-nil (text n v x) ∙ ap (λ m. text m v x) at
  changes_more n (v ∷ vs) (x ∷ xs) (suc i) d e h k =
      let at : suc n + i ≡ n + suc i = omega arith in
      ap (λ r. text n v x ++ r)
      (changes_more (suc n) vs xs i d e (omega arith) (omega arith)
      ∙ ap (λ m. changes_from text (suc n) vs (take i xs) ++ text m (get_or vs i d) (get_or xs i e)) at)
      ∙ sym (append_assoc (text n v x) (changes_from text (suc n) vs (take i xs)) (text (n + suc i) (get_or vs i d) (get_or xs i e)))

module _ {T : Type 0} (text : ℕ → T → List ℕ) where
  events_more : (n : ℕ) (xs : List T) (i : ℕ) (e : T) → i < length xs
      → events_from text n (take (suc i) xs) ≡ events_from text n (take i xs) ++ text (n + i) (get_or xs i e)
  events_more n [] i e k = absurd (omega arith)
  events_more n (x ∷ xs) zero e k =
      let at : n ≡ n + 0 = omega arith in
      append-nil (text n x) ∙ ap (λ m. text m x) at
  events_more n (x ∷ xs) (suc i) e k =
      let at : suc n + i ≡ n + suc i = omega arith in
      ap (λ r. text n x ++ r)
      (events_more (suc n) xs i e (omega arith) ∙ ap (λ m. events_from text (suc n) (take i xs) ++ text m (get_or xs i e)) at)
      ∙ sym (append_assoc (text n x) (events_from text (suc n) (take i xs)) (text (n + suc i) (get_or xs i e)))

  -- a loop's text, one thing further
  pub events_step : (start before now : List ℕ) (xs ys : List T) (i number : ℕ) (e : T) → i < length xs → ys ≡ xs → number ≡ i
      → before ≡ start ++ events_from text 0 (take i xs) → now ≡ before ++ text number (get_or ys i e)
      → now ≡ start ++ events_from text 0 (take (i + 1) xs)
  events_step start before now xs ys i number e h same at was is =
      let front = events_from text 0 (take i xs) in
      let own = text i (get_or xs i e) in
      let begun : 0 + i ≡ i = omega arith in
      is
      ∙ ap (λ (l : List ℕ). l ++ text number (get_or ys i e)) was
      ∙ ap (λ (k : ℕ). (start ++ front) ++ text k (get_or ys i e)) at
      ∙ ap (λ (l : List T). (start ++ front) ++ text i (get_or l i e)) same
      ∙ append_assoc start front own
      ∙ ap (λ (l : List ℕ). start ++ l)
      (ap (λ (k : ℕ). front ++ text k (get_or xs i e)) (sym begun) ∙ sym (events_more 0 xs i e h) ∙ ap (λ (k : ℕ). events_from text 0 (take k xs)) (sym (add-one i)))

module _ {V T : Type 0} (after : V → T → V) where
  -- of what wasn't gone over yet, nothing was written
  later_stays : (vs : List V) (xs : List T) (i : ℕ) (d : V) → get_or (values_after after vs (take i xs)) i d ≡ get_or vs i d
  later_stays vs [] zero d = refl
  later_stays vs [] (suc i) d = refl
  later_stays [] (x ∷ xs) zero d = refl
  later_stays [] (x ∷ xs) (suc i) d = refl
  later_stays (v ∷ vs) (x ∷ xs) zero d = refl
  later_stays (v ∷ vs) (x ∷ xs) (suc i) d = later_stays vs xs i d

  values_more : (vs : List V) (xs : List T) (i : ℕ) (d : V) (e : T) → i < length vs → i < length xs
      → set (values_after after vs (take i xs)) i (after (get_or vs i d) (get_or xs i e)) ≡ values_after after vs (take (suc i) xs)
  values_more [] xs i d e h k = absurd (omega arith)
  values_more (v ∷ vs) [] i d e h k = absurd (omega arith)
  values_more (v ∷ vs) (x ∷ xs) zero d e h k = refl
  values_more (v ∷ vs) (x ∷ xs) (suc i) d e h k = ap (λ r. after v x ∷ r) (values_more vs xs i d e (omega arith) (omega arith))

  -- a loop's values, one thing further
  pub values_step : (vs values : List V) (xs ys : List T) (i : ℕ) (d new : V) (e : T) → i < length vs → i < length xs → ys ≡ xs
      → values ≡ values_after after vs (take i xs) → new ≡ after (get_or values i d) (get_or ys i e)
      → set values i new ≡ values_after after vs (take (i + 1) xs)
  values_step vs values xs ys i d new e h k same was is =
      let own : get_or values i d ≡ get_or vs i d = ap (λ (l : List V). get_or l i d) was ∙ later_stays vs xs i d in
      let there : new ≡ after (get_or vs i d) (get_or xs i e) =
      is ∙ ap (λ (v : V). after v (get_or ys i e)) own ∙ ap (λ (l : List T). after (get_or vs i d) (get_or l i e)) same in
      ap (λ (l : List V). set l i new) was
      ∙ ap (λ (v : V). set (values_after after vs (take i xs)) i v) there
      ∙ values_more vs xs i d e h k
      ∙ ap (λ (n : ℕ). values_after after vs (take n xs)) (sym (add-one i))

  -- and its text
  pub changes_step : (text : ℕ → V → T → List ℕ) (start before now : List ℕ) (vs values : List V) (xs ys : List T) (i number : ℕ) (d : V) (e : T)
      → i < length vs → i < length xs → ys ≡ xs → number ≡ i → values ≡ values_after after vs (take i xs)
      → before ≡ start ++ changes_from text 0 vs (take i xs) → now ≡ before ++ text number (get_or values i d) (get_or ys i e)
      → now ≡ start ++ changes_from text 0 vs (take (i + 1) xs)
  changes_step text start before now vs values xs ys i number d e h k same at kept was is =
      let front = changes_from text 0 vs (take i xs) in
      let own : get_or values i d ≡ get_or vs i d = ap (λ (l : List V). get_or l i d) kept ∙ later_stays vs xs i d in
      let begun : 0 + i ≡ i = omega arith in
      is
      ∙ ap (λ (l : List ℕ). l ++ text number (get_or values i d) (get_or ys i e)) was
      ∙ ap (λ (m : ℕ). (start ++ front) ++ text m (get_or values i d) (get_or ys i e)) at
      ∙ ap (λ (v : V). (start ++ front) ++ text i v (get_or ys i e)) own
      ∙ ap (λ (l : List T). (start ++ front) ++ text i (get_or vs i d) (get_or l i e)) same
      ∙ append_assoc start front (text i (get_or vs i d) (get_or xs i e))
      ∙ ap (λ (l : List ℕ). start ++ l)
      (ap (λ (m : ℕ). front ++ text m (get_or vs i d) (get_or xs i e)) (sym begun)
      ∙ sym (changes_more text 0 vs xs i d e h k) ∙ ap (λ (m : ℕ). changes_from text 0 vs (take m xs)) (sym (add-one i)))
