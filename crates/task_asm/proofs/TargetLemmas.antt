-- The places that instructions name, one statement after the other.
use Rattle.std.proofs.Common.{◌≡◌, ℕ, ◌+◌, ◌<◌, ◌≤◌, List, [], ◌∷◌, ◌++◌, length, drop, get_or, Option, Some, None, refl, sym, ap, ◌∙◌, arith, append_assoc}
use Rattle.std.specs.Prelude.{unwrap_or}
use Rattle.std.specs.Option.{option_map}
use Rattle.std.proofs.lemmas.List.{drop_more}
use Rattle.task_asm.specs.declared.labels.Definition.{Definition}
use Rattle.task_asm.specs.declared.labels.Labels.{Labels}
use Rattle.task_asm.specs.Lines.{Written, Ready, Jump, JumpIf, Label}
use Rattle.task_asm.specs.Statements.{Statement, Item}
use Rattle.task_asm.specs.Labels.{place_in}
use Rattle.task_asm.specs.Meaning.{within_program, target, target_of}
use Rattle.task_asm.specs.Walk.{finds, Knows, found_place, found_target, targets_from, targets_of}
use Rattle.task_asm.proofs.LabelLemmas.{same_place}

place_same : (p : Option Definition) (q : Option ℕ) → option_map (λ d. d.place) p ≡ option_map (λ n. 0 + n) q → found_place p ≡ within_program (unwrap_or q 0)
place_same None None e = refl
place_same None (Some n) e = absurd cc
place_same (Some d) None e = absurd cc
place_same (Some d) (Some n) e = let same : d.place ≡ 0 + n = cc in let zero : 0 + n ≡ n = omega arith in ap within_program (same ∙ zero)

label_target : (labels : Labels) (program : List Statement) → Knows labels program → (l : Label) → found_place (finds labels.definitions l.word) ≡ target program l
label_target labels program knows l =
    place_same (finds labels.definitions l.word) (place_in program l.word)
    (ap (λ (p : Option Definition). option_map (λ d. d.place) p) (knows.found l.word) ∙ same_place 0 0 program l.word)

-- what is known of the labels says which places are named
pub same_target : (labels : Labels) (program : List Statement) → Knows labels program → (w : Written) → found_target labels w ≡ target_of program w
same_target labels program knows (Ready i) = refl
same_target labels program knows (Jump l) = label_target labels program knows l
same_target labels program knows (JumpIf test a b l) = label_target labels program knows l

-- the places so far go on with those of the statements that are left, in a program with these labels
pub record Aimed (es : List Statement) (at : ℕ) (labels : Labels) (targets : List ℕ) : Type 0 where
  pub within : at ≤ length es
  pub program : List Statement
  pub knows : Knows labels program
  pub whole : targets ++ targets_from program (drop at es) ≡ targets_of es

module _ (es : List Statement) (at : ℕ) (labels : Labels) (targets : List ℕ) (it : Aimed es at labels targets) (x : Statement) (inside : at < length es) (is : x ≡ get_or es at x) where
  front : (i : Item) → x.item ≡ i → drop at es ≡ record { place = x.place; item = i } ∷ drop (at + 1) es
  front i e = drop_more es at x inside ∙ ap (λ (y : Statement). y ∷ drop (at + 1) es) (sym is) ∙ ap (λ (j : Item). let y : Statement = record { place = x.place; item = j } in y ∷ drop (at + 1) es) e

  step : (next : Labels) (program : List Statement) → Knows next program → (to : ℕ) (more : List ℕ) → more ≡ targets ++ to ∷ []
      → targets_from it.program (drop at es) ≡ to ∷ targets_from program (drop (at + 1) es) → Aimed es (at + 1) next more
  step next program knows to more e rest = record {
    within = omega arith;
    program = program;
    knows = knows;
    whole = ap (λ (ts : List ℕ). ts ++ targets_from program (drop (at + 1) es)) e ∙ append_assoc targets (to ∷ []) (targets_from program (drop (at + 1) es))
        ∙ ap (λ (ts : List ℕ). targets ++ ts) (sym rest) ∙ it.whole;
  }

  pub aim_program : (next : Labels) (more : List ℕ) {k : _} {o : _} → x.item ≡ Item.Program k o → Knows next (drop (at + 1) es) → more ≡ targets ++ 0 ∷ [] → Aimed es (at + 1) next more
  aim_program next more {k} {o} e knows m = step next (drop (at + 1) es) knows 0 more m (ap (targets_from it.program) (front (Item.Program k o) e))

  pub aim_instruction : (more : List ℕ) (w : Written) (to : ℕ) → x.item ≡ Item.Instruction (Some w) → to ≡ found_target labels w → more ≡ targets ++ to ∷ [] → Aimed es (at + 1) labels more
  aim_instruction more w to e t m =
      step labels it.program it.knows to more m
      (ap (targets_from it.program) (front (Item.Instruction (Some w)) e)
      ∙ ap (λ (n : ℕ). n ∷ targets_from it.program (drop (at + 1) es)) (sym (t ∙ same_target labels it.program it.knows w)))

  pub aim_faulty : (more : List ℕ) → x.item ≡ Item.Instruction None → more ≡ targets ++ 0 ∷ [] → Aimed es (at + 1) labels more
  aim_faulty more e m = step labels it.program it.knows 0 more m (ap (targets_from it.program) (front (Item.Instruction None) e))

  pub aim_label : (more : List ℕ) {w : _} → x.item ≡ Item.Label w → more ≡ targets ++ 0 ∷ [] → Aimed es (at + 1) labels more
  aim_label more {w} e m = step labels it.program it.knows 0 more m (ap (targets_from it.program) (front (Item.Label w) e))

  pub aim_unknown : (more : List ℕ) → x.item ≡ Item.Unknown → more ≡ targets ++ 0 ∷ [] → Aimed es (at + 1) labels more
  aim_unknown more e m = step labels it.program it.knows 0 more m (ap (targets_from it.program) (front Item.Unknown e))
