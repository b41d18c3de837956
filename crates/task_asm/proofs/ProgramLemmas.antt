-- The programs of what stands in a text, from the last statement to the first.
use Rattle.std.proofs.Common.{◌≡◌, ℕ, suc, ◌+◌, ◌≤◌, ◌<◌, List, [], ◌∷◌, ◌++◌, length, drop, get_or, Some, None, refl, sym, ap, ◌∙◌, arith, append_assoc}
use Rattle.std.specs.Prelude.{reverse}
use Rattle.std.proofs.lemmas.List.{drop_more, reverse-append}
use Rattle.task_asm.specs.declared.program.ProgramKind.{ProgramKind}
use Rattle.task_asm.specs.declared.program.NamedInstr.{NamedInstr}
use Rattle.task_asm.specs.declared.operands.Title.{Title}
use Rattle.task_asm.specs.Programs.{Program}
use Rattle.task_asm.specs.Statements.{Statement, Item}
use Rattle.task_asm.specs.Meaning.{instructions, programs_of, finished, target_of}
use Rattle.task_asm.specs.Walk.{targets_from, lines_with, programs_with}

-- ---- with the places at hand

abbrev LinesAgree : List Statement → List Statement → Type 0
LinesAgree program es = lines_with es (targets_from program es) ≡ instructions program es

lines_at : (program : List Statement) (place : ℕ) (i : Item) (es : List Statement) → LinesAgree program es
    → LinesAgree program (record { place = place; item = i } ∷ es)
lines_at program place (Item.Label w) es h = h
lines_at program place (Item.Instruction None) es h = h
lines_at program place (Item.Instruction (Some w)) es h = ap (λ (is : List NamedInstr). finished (target_of program w) w ∷ is) h
lines_at program place (Item.Program kind o) es h = refl
lines_at program place Item.Unknown es h = h

pub lines_are : (program es : List Statement) → LinesAgree program es
lines_are program [] = refl
lines_are program (x ∷ es) = lines_at program x.place x.item es (lines_are program es)

programs_at : (program : List Statement) (place : ℕ) (i : Item) (es : List Statement) → ((whole : List Statement) → programs_with es (targets_from whole es) ≡ programs_of es)
    → programs_with (record { place = place; item = i } ∷ es) (targets_from program (record { place = place; item = i } ∷ es))
    ≡ programs_of (record { place = place; item = i } ∷ es)
programs_at program place (Item.Label w) es h = h program
programs_at program place (Item.Instruction None) es h = h program
programs_at program place (Item.Instruction (Some w)) es h = h program
programs_at program place (Item.Program kind None) es h = h es
programs_at program place (Item.Program kind (Some t)) es h =
    ap (λ (is : List NamedInstr). let p : Program = record { kind = kind; name = t.name; instructions = is } in p ∷ programs_with es (targets_from es es)) (lines_are es es)
    ∙ ap (λ (ps : List Program). let p : Program = record { kind = kind; name = t.name; instructions = instructions es es } in p ∷ ps) (h es)
programs_at program place Item.Unknown es h = h program

pub programs_are : (es program : List Statement) → programs_with es (targets_from program es) ≡ programs_of es
programs_are [] program = refl
programs_are (x ∷ es) program = programs_at program x.place x.item es (programs_are es)

targets_length_at : (program : List Statement) (place : ℕ) (i : Item) (es : List Statement) → ((whole : List Statement) → length (targets_from whole es) ≡ length es)
    → length (targets_from program (record { place = place; item = i } ∷ es)) ≡ suc (length es)
targets_length_at program place (Item.Label w) es h = ap suc (h program)
targets_length_at program place (Item.Instruction None) es h = ap suc (h program)
targets_length_at program place (Item.Instruction (Some w)) es h = ap suc (h program)
targets_length_at program place (Item.Program kind o) es h = ap suc (h es)
targets_length_at program place Item.Unknown es h = ap suc (h program)

pub targets_length : (es program : List Statement) → length (targets_from program es) ≡ length es
targets_length [] program = refl
targets_length (x ∷ es) program = targets_length_at program x.place x.item es (targets_length es)

-- ---- from the last statement to the first

-- the statements that were taken, with their places, have these instructions and programs, each last one first
pub record Built (es : List Statement) (ts : List ℕ) (left : List Statement) (n : ℕ) (lines : List NamedInstr) (programs : List Program) : Type 0 where
  pub rest : List Statement
  pub whole : es ≡ left ++ rest
  pub within : n ≤ length ts
  pub built_lines : reverse lines ≡ lines_with rest (drop n ts)
  pub built_programs : reverse programs ≡ programs_with rest (drop n ts)

module _ (es : List Statement) (ts : List ℕ) (left fewer : List Statement) (x : Statement) (n m : ℕ) (lines : List NamedInstr) (programs : List Program)
    (popped : left ≡ fewer ++ x ∷ []) (size : m + 1 ≡ n) (built : Built es ts left n lines programs) where
  here : drop m ts ≡ get_or ts m 0 ∷ drop n ts
  here = let inside : m < length ts = omega (arith, built.within) in
      drop_more ts m 0 inside ∙ ap (λ (k : ℕ). get_or ts m 0 ∷ drop k ts) size

  step : (ls : List NamedInstr) (ps : List Program) → reverse ls ≡ lines_with (x ∷ built.rest) (get_or ts m 0 ∷ drop n ts)
      → reverse ps ≡ programs_with (x ∷ built.rest) (get_or ts m 0 ∷ drop n ts) → Built es ts fewer m ls ps
  step ls ps e f = record {
    rest = x ∷ built.rest;
    whole = built.whole ∙ ap (λ (xs : List Statement). xs ++ built.rest) popped ∙ append_assoc fewer (x ∷ []) built.rest;
    within = omega (arith, built.within);
    built_lines = e ∙ ap (lines_with (x ∷ built.rest)) (sym here);
    built_programs = f ∙ ap (programs_with (x ∷ built.rest)) (sym here);
  }

  -- what an statement with that item adds
  step_at : (place : ℕ) (i : Item) → x ≡ record { place = place; item = i } → (ls : List NamedInstr) (ps : List Program)
      → reverse ls ≡ lines_with (record { place = place; item = i } ∷ built.rest) (get_or ts m 0 ∷ drop n ts)
      → reverse ps ≡ programs_with (record { place = place; item = i } ∷ built.rest) (get_or ts m 0 ∷ drop n ts) → Built es ts fewer m ls ps
  step_at place i is ls ps e f =
      step ls ps (e ∙ ap (λ (y : Statement). lines_with (y ∷ built.rest) (get_or ts m 0 ∷ drop n ts)) (sym is))
      (f ∙ ap (λ (y : Statement). programs_with (y ∷ built.rest) (get_or ts m 0 ∷ drop n ts)) (sym is))

  pub at_title : (place : ℕ) (kind : ProgramKind) (t : Title) → x ≡ record { place = place; item = Item.Program kind (Some t) }
      → (ps : List Program) → ps ≡ programs ++ record { kind = kind; name = t.name; instructions = reverse lines } ∷ [] → Built es ts fewer m [] ps
  at_title place kind t is ps e =
      let program : List NamedInstr → Program = λ is. record { kind = kind; name = t.name; instructions = is } in
      step_at place (Item.Program kind (Some t)) is [] ps refl
      (ap reverse e ∙ reverse-append programs (program (reverse lines) ∷ [])
      ∙ ap (λ (qs : List Program). program (reverse lines) ∷ qs) built.built_programs
      ∙ ap (λ (is : List NamedInstr). program is ∷ programs_with built.rest (drop n ts)) built.built_lines)

  pub at_no_title : (place : ℕ) (kind : ProgramKind) → x ≡ record { place = place; item = Item.Program kind None } → Built es ts fewer m [] programs
  at_no_title place kind is = step_at place (Item.Program kind None) is [] programs refl built.built_programs

  pub at_faulty : (place : ℕ) → x ≡ record { place = place; item = Item.Instruction None } → Built es ts fewer m lines programs
  at_faulty place is = step_at place (Item.Instruction None) is lines programs built.built_lines built.built_programs

  pub at_label : (place : ℕ) (w : List ℕ) → x ≡ record { place = place; item = Item.Label w } → Built es ts fewer m lines programs
  at_label place w is = step_at place (Item.Label w) is lines programs built.built_lines built.built_programs

  pub at_unknown : (place : ℕ) → x ≡ record { place = place; item = Item.Unknown } → Built es ts fewer m lines programs
  at_unknown place is = step_at place Item.Unknown is lines programs built.built_lines built.built_programs
