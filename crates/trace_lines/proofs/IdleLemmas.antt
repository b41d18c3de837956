-- The texts of ticks that follow each other, and lines that end alike.
use Rattle.std.proofs.Common.{◌≡◌, ℕ, zero, suc, ◌+◌, ◌-◌, ◌<◌, ◌≤◌, List, [], ◌∷◌, ◌++◌, Option, None, refl, sym, ap, ap₂, subst, ◌∙◌, append_assoc, append-nil, arith}
use Rattle.std.specs.Prelude.{codes, decimal}
use Rattle.osek_base.specs.Names.{Names}
use Rattle.osek_base.specs.declared.trace_event.TraceEvent.{TraceEvent}
use Rattle.trace_lines.specs.Lines.{ended, lines_from, same_ticks_text, texts_from, tick_text}
use Rattle.sinks.specs.Sinks.{AppendsSome, Passes}
use Rattle.sinks.proofs.SinkLemmas.{begins_longer, passed_some, passes_more, waits_more}

-- the longer text begins with the shorter
record BeginsWith (short long : List ℕ) : Type 0 where
  rest : List ℕ
  whole : short ++ rest ≡ long

-- ticks with equal texts
pub same_texts : (f g : ℕ → List ℕ) (t n : ℕ) → ((k : ℕ) → k < n → f (t + k) ≡ g (t + k)) → texts_from f t n ≡ texts_from g t n
same_texts f g t zero same = refl
same_texts f g t (suc n) same =
    ap₂ (λ before last. before ++ last) (same_texts f g t n (λ k below. same k (omega (arith, below)))) (same n (omega arith))

more_texts : (f : ℕ → List ℕ) (t n more : ℕ) → BeginsWith (texts_from f t n) (texts_from f t (n + more))
more_texts f t n zero =
    let e : n ≡ n + 0 = omega arith in
    record { rest = []; whole = append-nil _ ∙ ap (texts_from f t) e }
more_texts f t n (suc more) =
    let first = more_texts f t n more in
    let e : suc (n + more) ≡ n + suc more = omega arith in
    record {
      rest = first.rest ++ f (t + (n + more));
      whole =
          sym (append_assoc (texts_from f t n) first.rest (f (t + (n + more))))
          ∙ ap (λ text. text ++ f (t + (n + more))) first.whole ∙ ap (texts_from f t) e;
    }

-- ---- lines that end alike

module _ (ending : List ℕ) (t : ℕ) where
  -- one line more
  pub passes_line : (a b c : Option (List ℕ)) (p q r s : List ℕ) (n at : ℕ) → at ≡ t + n → Passes a b p q (lines_from ending t n)
      → Passes b c q r [] → s ≡ r ++ decimal at ++ codes " " ++ ending → Passes a c p s (lines_from ending t (suc n))
  passes_line a b c p q r s n at counted h k is =
      let line = decimal (t + n) ++ codes " " ++ ending in
      let waits : s ≡ r ++ line =
      is ∙ ap (λ m. r ++ decimal m ++ codes " " ++ ending) counted
      ∙ ap (λ text. text ++ ending) (append_assoc r (decimal (t + n)) (codes " ")) ∙ append_assoc r (decimal (t + n) ++ codes " ") ending in
      passes_more a b c p q s (lines_from ending t n) line h (subst (λ w. Passes b c q w line) (sym waits) (waits_more b c q r [] line k))

  -- a write that fails leaves a beginning of all
  pub lines_stopped : (a b c : Option (List ℕ)) (p q : List ℕ) (n ticks : ℕ) → n ≤ ticks → Passes a b p q (lines_from ending t n)
      → AppendsSome b c q → AppendsSome a c (p ++ lines_from ending t ticks)
  lines_stopped a b c p q n ticks within h k =
      let e : n + (ticks - n) ≡ ticks = omega (arith, within) in
      let on = more_texts (λ m. decimal m ++ codes " " ++ ending) t n (ticks - n) in
      subst (AppendsSome a c) (append_assoc p (lines_from ending t n) on.rest ∙ ap (λ text. p ++ text) (on.whole ∙ ap (lines_from ending t) e))
      (begins_longer a c (p ++ lines_from ending t n) on.rest (passed_some a b c p q (lines_from ending t n) h k))

-- such a line, as the text of a tick has it
ended_once : (t : ℕ) (word : List ℕ)
    → decimal t ++ codes " " ++ (word ++ 10 ∷ []) ≡ ended (decimal t ++ codes " " ++ word ++ []) ++ []
ended_once t word =
    let line = decimal t ++ codes " " ++ word in
    sym (append_assoc (decimal t ++ codes " ") word (10 ∷ [])) ∙ ap ended (sym (append-nil line)) ∙ sym (append-nil (ended (line ++ [])))

-- they are the lines of ticks that have one record alone
module _ (names : Names) (t n : ℕ) where
  pub idle_same : lines_from (codes "idle" ++ 10 ∷ []) t n ≡ same_ticks_text names TraceEvent.Idle t n
  idle_same =
      same_texts (λ m. decimal m ++ codes " " ++ (codes "idle" ++ 10 ∷ [])) (λ m. tick_text names m None (TraceEvent.Idle ∷ [])) t n
      (λ k below. ended_once (t + k) (codes "idle"))

  pub other_same : lines_from (codes "other" ++ 10 ∷ []) t n ≡ same_ticks_text names TraceEvent.Other t n
  other_same =
      same_texts (λ m. decimal m ++ codes " " ++ (codes "other" ++ 10 ∷ [])) (λ m. tick_text names m None (TraceEvent.Other ∷ [])) t n
      (λ k below. ended_once (t + k) (codes "other"))
