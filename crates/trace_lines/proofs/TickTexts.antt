-- The text of a tick as that of its parts.
use Rattle.std.proofs.Common.{◌≡◌, ℕ, List, [], ◌∷◌, ◌++◌, Option, refl, sym, ap, subst, ◌∙◌, append_assoc}
use Rattle.std.specs.List.{flat_map}
use Rattle.osek_base.specs.declared.trace_event.TraceEvent.{TraceEvent}
use Rattle.osek_base.specs.BlockingText.{blockers_text}
use Rattle.osek_base.specs.Names.{Names}
use Rattle.osek_base.specs.Text.{line}
use Rattle.trace_lines.specs.Lines.{ended, record_text, tick_text}
use Rattle.sinks.specs.Sinks.{AppendsSome, Passes}
use Rattle.sinks.proofs.SinkLemmas.{begins_longer, passes_more, stops_later}

pub texts_append : (f : TraceEvent → List ℕ) (xs ys : List TraceEvent) → flat_map f (xs ++ ys) ≡ flat_map f xs ++ flat_map f ys
texts_append f [] ys = refl
texts_append f (x ∷ xs) ys = ap (λ t. f x ++ t) (texts_append f xs ys) ∙ sym (append_assoc (f x) (flat_map f xs) (flat_map f ys))

-- what is written of a tick: the lines before that of its instruction, this one, and those behind it
module _ (names : Names) (t : ℕ) (number : Option ℕ) (before : List TraceEvent) (own : TraceEvent) (behind : List TraceEvent) where
  abbrev text : List TraceEvent → List ℕ
  text = tick_text names t number

  abbrev all : List ℕ
  all = text (before ++ own ∷ behind)

  in_parts : text before ++ (record_text names t number own ++ text behind) ≡ all
  in_parts = sym (texts_append (record_text names t number) before (own ∷ behind))

  pub stopped_before : (a b : Option (List ℕ)) (p : List ℕ) → AppendsSome a b (p ++ text before) → AppendsSome a b (p ++ all)
  stopped_before a b p h =
      subst (AppendsSome a b) (append_assoc p (text before) _ ∙ ap (λ v. p ++ v) in_parts)
      (begins_longer a b (p ++ text before) (record_text names t number own ++ text behind) h)

  pub stopped_there : (a b c : Option (List ℕ)) (p q : List ℕ) → Passes a b p q (text before)
      → AppendsSome b c (q ++ record_text names t number own) → AppendsSome a c (p ++ all)
  stopped_there a b c p q h k =
      let more : AppendsSome b c (q ++ (record_text names t number own ++ text behind)) =
      subst (AppendsSome b c) (append_assoc q (record_text names t number own) (text behind))
      (begins_longer b c (q ++ record_text names t number own) (text behind) k) in
      subst (λ v. AppendsSome a c (p ++ v)) in_parts (stops_later a b c p q (text before) _ h more)

  pub stopped_behind : (a b c d : Option (List ℕ)) (p q r : List ℕ) → Passes a b p q (text before)
      → Passes b c q r (record_text names t number own) → AppendsSome c d (r ++ text behind) → AppendsSome a d (p ++ all)
  stopped_behind a b c d p q r h k l =
      subst (λ v. AppendsSome a d (p ++ v)) in_parts
      (stops_later a b d p q (text before) _ h (stops_later b c d q r (record_text names t number own) (text behind) k l))

  pub passed : (a b c d : Option (List ℕ)) (p q r s : List ℕ) → Passes a b p q (text before)
      → Passes b c q r (record_text names t number own) → Passes c d r s (text behind) → Passes a d p s all
  passed a b c d p q r s h k l =
      subst (Passes a d p s) in_parts
      (passes_more a b d p q s (text before) _ h (passes_more b c d q r s (record_text names t number own) (text behind) k l))

  pub stopped_own : (a b c : Option (List ℕ)) (p q : List ℕ) → Passes a b p q (text before) → AppendsSome b c (q ++ text (own ∷ behind))
      → AppendsSome a c (p ++ all)
  stopped_own a b c p q h k = subst (λ v. AppendsSome a c (p ++ v)) in_parts (stops_later a b c p q (text before) (text (own ∷ behind)) h k)

  pub passed_own : (a b c : Option (List ℕ)) (p q r : List ℕ) → Passes a b p q (text before) → Passes b c q r (text (own ∷ behind))
      → Passes a c p r all
  passed_own a b c p q r h k = subst (Passes a c p r) in_parts (passes_more a b c p q r (text before) (text (own ∷ behind)) h k)

-- a line in two parts: what stands before the number of blockers, and the rest, with what stands behind it
module _ (names : Names) (t : ℕ) (number : Option ℕ) (own : TraceEvent) (behind : List TraceEvent) where
  abbrev rest : List ℕ
  rest = ended (blockers_text number own) ++ tick_text names t number behind

  halves : line names t own ++ rest ≡ tick_text names t number (own ∷ behind)
  halves =
      sym (append_assoc (line names t own) (ended (blockers_text number own)) (tick_text names t number behind))
      ∙ ap (λ v. v ++ tick_text names t number behind) (sym (append_assoc (line names t own) (blockers_text number own) (10 ∷ [])))

  pub front_stopped : (a b : Option (List ℕ)) (p : List ℕ) → AppendsSome a b (p ++ line names t own)
      → AppendsSome a b (p ++ tick_text names t number (own ∷ behind))
  front_stopped a b p h =
      subst (AppendsSome a b) (append_assoc p (line names t own) rest ∙ ap (λ v. p ++ v) halves)
      (begins_longer a b (p ++ line names t own) rest h)

  pub end_stopped : (a b c : Option (List ℕ)) (p q : List ℕ) → Passes a b p q (line names t own) → AppendsSome b c (q ++ rest)
      → AppendsSome a c (p ++ tick_text names t number (own ∷ behind))
  end_stopped a b c p q h k = subst (λ v. AppendsSome a c (p ++ v)) halves (stops_later a b c p q (line names t own) rest h k)

  pub ended_line : (a b c : Option (List ℕ)) (p q r : List ℕ) → Passes a b p q (line names t own) → Passes b c q r rest
      → Passes a c p r (tick_text names t number (own ∷ behind))
  ended_line a b c p q r h k = subst (Passes a c p r) halves (passes_more a b c p q r (line names t own) rest h k)
