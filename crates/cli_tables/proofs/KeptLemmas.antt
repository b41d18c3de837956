-- The text of what is broken is empty exactly where all limits are kept.
use Rattle.std.specs.Prelude.{ℕ, zero, suc, ◌≡◌, ◌<◌, ◌↔◌, Bool, true, false, if◌then◌else◌, IfSome, IsFalse, IsTrue, List, [], ◌∷◌, ◌++◌, Option, Some, None, Result, Ok, Err, IfOk, length, nat_lt}
use Rattle.std.specs.List.{AllByRecursion, flat_map}
use Rattle.std.proofs.Common.{refl, ap, sym, subst, arith}
use Rattle.std.proofs.lemmas.Bool.{false≢true, ltb-false, ltb-true}
use Rattle.osek_base.specs.Names.{number_of}
use Rattle.osek_base.specs.System.{System}
use Rattle.view_measures.specs.declared.measure.Measure.{Measure}
use Rattle.view_measures.specs.Kinds.{count_of, names_of}
use Rattle.view_measures.specs.Measures.{figure, kind_of}
use Rattle.view_figure_texts.specs.declared.limits.Limit.{Limit}
use Rattle.view_figure_texts.specs.declared.limits.Limits.{Limits}
use Rattle.search_witnesses.specs.declared.findings.Findings.{Findings}
use Rattle.cli_tables.specs.declared.cells.Cell.{Cell}
use Rattle.cli_tables.specs.Broken.{broken_line, broken_text, coming_line, coming_lines, coming_of, is_within, line_of_measure, line_of_thing, line_unless_within, loss_lines, may_come, refusal_lines, time_lines}
use Rattle.cli_tables.specs.Cells.{cell_of}
use Rattle.cli_tables.specs.Kept.{AreKept, KeepsTime, NoneComes}
use Rattle.cli_tables.specs.Texts.{each_below}

-- ---- lists

not_empty : (x : ℕ) (xs : List ℕ) → x ∷ xs ≡ [] → ⊥
not_empty x xs h = let none : suc (length xs) ≡ 0 = ap length h in omega (arith, none)

both_empty : (xs ys : List ℕ) → xs ++ ys ≡ [] → (xs ≡ []) × (ys ≡ [])
both_empty [] ys h = (refl, h)
both_empty (x ∷ xs) ys h = absurd (not_empty x (xs ++ ys) h)

both_of : (xs ys : List ℕ) → xs ≡ [] → ys ≡ [] → xs ++ ys ≡ []
both_of xs ys h k = rw (h, k) refl

unless : (b : Bool) (line : List ℕ) → (line ≡ [] → ⊥) → (if b then [] else line) ≡ [] → IsTrue b
unless true line some h = refl
unless false line some h = absurd (some h)

where_not : (b : Bool) (line : List ℕ) → (line ≡ [] → ⊥) → (if b then line else []) ≡ [] → IsFalse b
where_not true line some h = absurd (some h)
where_not false line some h = refl

chosen : (b : Bool) (xs : List ℕ) → (if b then xs else []) ≡ [] → IsTrue b → xs ≡ []
chosen true xs h is = h
chosen false xs h is = absurd (false≢true is)

choice : (b : Bool) (xs : List ℕ) → (IsTrue b → xs ≡ []) → (if b then xs else []) ≡ []
choice true xs h = h refl
choice false xs h = refl

each_empty : (text : ℕ → List ℕ) (n : ℕ) → each_below text n ≡ [] → (k : ℕ) → k < n → text k ≡ []
each_empty text zero h k less = absurd (omega (arith, less))
each_empty text (suc n) h k less =
    let parts = both_empty (each_below text n) (text n) h in
    by_last (nat_lt k n) refl parts.1 (each_empty text n parts.0 k)
  where
    by_last : (b : Bool) → nat_lt k n ≡ b → text n ≡ [] → (k < n → text k ≡ []) → text k ≡ []
    by_last true is last rest = rest (ltb-true k n is)
    by_last false is last rest =
        let same : n ≡ k = omega (arith, less, ltb-false k n is) in
        subst (λ j. text j ≡ []) same last

empty_each : (text : ℕ → List ℕ) (n : ℕ) → ((k : ℕ) → k < n → text k ≡ []) → each_below text n ≡ []
empty_each text zero h = refl
empty_each text (suc n) h =
    both_of _ _ (empty_each text n (λ k less. h k (omega (arith, less)))) (h n (omega arith))

-- ---- lines

some_line : (name : List ℕ) (cell : Cell) (most : ℕ) → broken_line name cell most ≡ [] → ⊥
unfolding broken_line
some_line name cell most h = not_empty _ _ h

no_line : (name : List ℕ) (cell : Cell) (most : ℕ) → line_unless_within name cell most ≡ []
    → IsTrue (is_within cell most)
unfolding line_unless_within
no_line name cell most h =
    unless (is_within cell most) (broken_line name cell most) (some_line name cell most) h

kept_line : (name : List ℕ) (cell : Cell) (most : ℕ) → IsTrue (is_within cell most)
    → line_unless_within name cell most ≡ []
unfolding line_unless_within
kept_line name cell most h = rw h refl

nothing_comes : (name what : List ℕ) (cell : Cell) → coming_line name what cell ≡ []
    → IsFalse (may_come cell)
unfolding coming_line
nothing_comes name what cell h = where_not (may_come cell) _ (not_empty _ _) h

without_line : (name what : List ℕ) (cell : Cell) → IsFalse (may_come cell)
    → coming_line name what cell ≡ []
unfolding coming_line
without_line name what cell h = rw h refl

module _ (S : System) (f : Findings) where
  no_thing : (measure : Measure) (limit : Limit) (number : Option ℕ)
      → line_of_thing f measure limit number ≡ []
      → IfSome number (λ k. IsTrue (is_within (cell_of f (figure measure k)) limit.ticks))
  no_thing measure limit None h = tt
  no_thing measure limit (Some k) h = no_line limit.name.now (cell_of f (figure measure k)) limit.ticks h

  kept_thing : (measure : Measure) (limit : Limit) (number : Option ℕ)
      → IfSome number (λ k. IsTrue (is_within (cell_of f (figure measure k)) limit.ticks))
      → line_of_thing f measure limit number ≡ []
  kept_thing measure limit None h = refl
  kept_thing measure limit (Some k) h =
      kept_line limit.name.now (cell_of f (figure measure k)) limit.ticks h

  no_measure : (measure : Measure) (limit : Limit)
      → line_of_measure S f measure limit ≡ [] → KeepsTime S f measure limit
  unfolding line_of_measure
  no_measure measure limit h =
      no_thing measure limit (number_of limit.name.now (names_of S (kind_of measure))) h

  kept_measure : (measure : Measure) (limit : Limit)
      → KeepsTime S f measure limit → line_of_measure S f measure limit ≡ []
  unfolding line_of_measure
  kept_measure measure limit h =
      kept_thing measure limit (number_of limit.name.now (names_of S (kind_of measure))) h

  abbrev Keeps : Limit → Type 0
  Keeps limit =
      KeepsTime S f Measure.Response limit
      × KeepsTime S f Measure.Latency limit

  no_limit : (limit : Limit) → time_lines S f limit ≡ [] → Keeps limit
  unfolding time_lines
  no_limit limit h =
      let parts = both_empty (line_of_measure S f Measure.Response limit)
      (line_of_measure S f Measure.Latency limit) h in
      (no_measure Measure.Response limit parts.0, no_measure Measure.Latency limit parts.1)

  kept_limit : (limit : Limit) → Keeps limit → time_lines S f limit ≡ []
  unfolding time_lines
  kept_limit limit h =
      both_of _ _ (kept_measure Measure.Response limit h.0)
      (kept_measure Measure.Latency limit h.1)

  no_times : (limits : List Limit) → flat_map (time_lines S f) limits ≡ [] → AllByRecursion Keeps limits
  no_times [] h = tt
  no_times (limit ∷ limits) h =
      let parts = both_empty (time_lines S f limit) (flat_map (time_lines S f) limits) h in
      (no_limit limit parts.0, no_times limits parts.1)

  kept_times : (limits : List Limit) → AllByRecursion Keeps limits → flat_map (time_lines S f) limits ≡ []
  kept_times [] h = refl
  kept_times (limit ∷ limits) h = both_of _ _ (kept_limit limit h.0) (kept_times limits h.1)

  none_come : (measure : Measure) (what : List ℕ)
      → coming_lines S f measure what ≡ [] → NoneComes S f measure
  unfolding coming_lines coming_of
  none_come measure what h number less =
      nothing_comes _ what (cell_of f (figure measure number))
      (each_empty (coming_of S f measure what) (count_of S (kind_of measure)) h number less)

  without_lines : (measure : Measure) (what : List ℕ)
      → NoneComes S f measure → coming_lines S f measure what ≡ []
  unfolding coming_lines coming_of
  without_lines measure what h =
      empty_each (coming_of S f measure what) (count_of S (kind_of measure))
      (λ number less. without_line _ what (cell_of f (figure measure number)) (h number less))

  -- ---- all of them

  kept_from : (limits : Limits) → broken_text S f limits ≡ [] → AreKept S f limits
  unfolding broken_text loss_lines refusal_lines
  kept_from limits h =
      let last = both_empty (flat_map (time_lines S f) limits.times.now ++ (if limits.no_loss then loss_lines S f else []))
      (if limits.no_refusal then refusal_lines S f else []) h in
      let first = both_empty (flat_map (time_lines S f) limits.times.now)
      (if limits.no_loss then loss_lines S f else []) last.0 in
      record {
        times = no_times limits.times.now first.0;
        losses = λ is.
            none_come Measure.Loss _
            (chosen limits.no_loss (loss_lines S f) first.1 is);
        refusals = λ is.
            none_come Measure.Refusal _
            (both_empty _ _ (chosen limits.no_refusal (refusal_lines S f) last.1 is)).0;
        actions = λ is.
            none_come Measure.RefusedAction _
            (both_empty _ _ (chosen limits.no_refusal (refusal_lines S f) last.1 is)).1;
      }

  empty_from : (limits : Limits) → AreKept S f limits → broken_text S f limits ≡ []
  unfolding broken_text loss_lines refusal_lines
  empty_from limits k =
      both_of _ _
      (both_of _ _ (kept_times limits.times.now k.times)
      (choice limits.no_loss (loss_lines S f)
      (λ is. without_lines Measure.Loss _ (k.losses is))))
      (choice limits.no_refusal (refusal_lines S f)
      (λ is. both_of _ _ (without_lines Measure.Refusal _ (k.refusals is))
      (without_lines Measure.RefusedAction _ (k.actions is))))

  empty_where_kept : (limits : Limits) → (broken_text S f limits ≡ []) ↔ AreKept S f limits
  empty_where_kept limits = (kept_from limits, empty_from limits)

  -- so it is of what is made, where its bytes are that text
  pub kept_where_empty : {T E : Type 0} (bytes : T → List ℕ) (limits : Limits) (made : Result T E)
      → IfOk made (λ text. bytes text ≡ broken_text S f limits)
      → IfOk made (λ text. (bytes text ≡ []) ↔ AreKept S f limits)
  kept_where_empty bytes limits (Ok text) is = rw is (empty_where_kept limits)
  kept_where_empty bytes limits (Err e) is = tt
