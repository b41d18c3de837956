-- The first fault of what stands in a text is one that stands in it; and where there is none, none stands.
use Rattle.std.proofs.Common.{◌≡◌, ℕ, Bool, true, false, List, [], ◌∷◌, ◌++◌, Option, Some, None, refl, sym, ap, ◌∙◌, subst, append_assoc, ◌==◌}
use Rattle.std.specs.Prelude.{if◌then◌else◌}
use Rattle.std.proofs.lemmas.List.{append-nil}
use Rattle.std.proofs.lemmas.Bool.{eqb-true, eq-eqb}
use Rattle.osek_base.specs.declared.limits.TheConstants.{MAX_INSTRUCTIONS}
use Rattle.task_asm.specs.declared.program.ProgramKind.{ProgramKind}
use Rattle.task_asm.specs.declared.operands.Title.{Title}
use Rattle.task_asm.specs.declared.fault.AsmFault.{AsmFault}
use Rattle.task_asm.specs.declared.fault.AsmFault.TheVariants as fault
use Rattle.task_asm.specs.Mnemonics.{or_else}
use Rattle.task_asm.specs.Lines.{Written, Ready, Jump, JumpIf, Label}
use Rattle.task_asm.specs.Statements.{Statement, Item}
use Rattle.task_asm.specs.Labels.{place_in, has_instruction, defines, instruction_count, has_program, open_after}
use Rattle.task_asm.specs.Walk.{statement_fault, fault_behind, first_fault, jump_fault, operand_fault}
use Rattle.task_asm.specs.Faults.{StandsAt, Stands, NamesUnknown}

pub same_fault : (a e : AsmFault) → Some a ≡ Some e → a ≡ e
same_fault a e h = cc

module _ (before after : List Statement) (place : ℕ) where
  -- a fault that stands is the one that was found
  found : (own : Option (List Statement)) (i : Item) (a e : AsmFault) → Some a ≡ Some e
      → StandsAt before own (record { place = place; item = i }) after a → StandsAt before own (record { place = place; item = i }) after e
  found own i a e h stands = subst (λ (v : AsmFault). StandsAt before own (record { place = place; item = i }) after v) (same_fault a e h) stands

  label_found : (own : List Statement) (w : List ℕ) (e : AsmFault) (b : Bool) → has_instruction after ≡ b → (c : Bool) → defines own w ≡ c
      → (if b then (if c then Some (fault.Twice place) else None) else Some (fault.UnknownLabel place)) ≡ Some e
      → StandsAt before (Some own) (record { place = place; item = Item.Label w }) after e
  label_found own w e true p true q h = found (Some own) (Item.Label w) (fault.Twice place) e h (refl, q)
  label_found own w e true p false q h = absurd cc
  label_found own w e false p c q h = found (Some own) (Item.Label w) (fault.UnknownLabel place) e h (refl, p)

  jump_found : (program : List Statement) (l : Label) (e : AsmFault) (o : Option ℕ) → place_in program l.word ≡ o → jump_fault program l ≡ Some e
      → (e ≡ fault.UnknownLabel l.place) × (place_in program l.word ≡ None)
  jump_found program l e (Some n) p h = absurd (let k = rw (p, jump_fault) at h in cc)
  jump_found program l e None p h = (sym (same_fault (fault.UnknownLabel l.place) e (let k = rw (p, jump_fault) at h in k)), p)

  operand_found : (own : List Statement) (w : Written) (e : AsmFault)
      → operand_fault (own ++ record { place = place; item = Item.Instruction (Some w) } ∷ after) w ≡ Some e
      → StandsAt before (Some own) (record { place = place; item = Item.Instruction (Some w) }) after e
  operand_found own (Ready i) e h = absurd cc
  operand_found own (Jump l) e h =
      let program : List Statement = own ++ record { place = place; item = Item.Instruction (Some (Jump l)) } ∷ after in
      let f = jump_found program l e (place_in program l.word) refl h in
      subst (λ (v : AsmFault). StandsAt before (Some own) (record { place = place; item = Item.Instruction (Some (Jump l)) }) after v) (sym f.0) (refl, f.1)
  operand_found own (JumpIf test a b l) e h =
      let program : List Statement = own ++ record { place = place; item = Item.Instruction (Some (JumpIf test a b l)) } ∷ after in
      let f = jump_found program l e (place_in program l.word) refl h in
      subst (λ (v : AsmFault). StandsAt before (Some own) (record { place = place; item = Item.Instruction (Some (JumpIf test a b l)) }) after v) (sym f.0) (refl, f.1)

  count_found : (own : List Statement) (w : Written) (e : AsmFault) (b : Bool) → (instruction_count own == MAX_INSTRUCTIONS) ≡ b
      → (if b then Some (fault.TooLong place) else operand_fault (own ++ record { place = place; item = Item.Instruction (Some w) } ∷ after) w) ≡ Some e
      → StandsAt before (Some own) (record { place = place; item = Item.Instruction (Some w) }) after e
  count_found own w e true p h = found (Some own) (Item.Instruction (Some w)) (fault.TooLong place) e h (refl, eqb-true (instruction_count own) MAX_INSTRUCTIONS p)
  count_found own w e false p h = operand_found own w e h

  title_found : (own : Option (List Statement)) (kind : ProgramKind) (t : Title) (e : AsmFault) (b : Bool) → has_program before kind t.name ≡ b
      → (if b then Some (fault.Twice t.place) else None) ≡ Some e → StandsAt before own (record { place = place; item = Item.Program kind (Some t) }) after e
  title_found own kind t e true p h = found own (Item.Program kind (Some t)) (fault.Twice t.place) e h (refl, p)
  title_found own kind t e false p h = absurd cc

  pub statement_found : (own : Option (List Statement)) (i : Item) (e : AsmFault) → statement_fault before own (record { place = place; item = i }) after ≡ Some e
      → StandsAt before own (record { place = place; item = i }) after e
  statement_found None (Item.Label w) e h = found None (Item.Label w) (fault.UnknownMnemonic place) e h (refl, refl)
  statement_found (Some own) (Item.Label w) e h = label_found own w e (has_instruction after) refl (defines own w) refl h
  statement_found None (Item.Instruction o) e h = found None (Item.Instruction o) (fault.UnknownMnemonic place) e h (refl, refl)
  statement_found (Some own) (Item.Instruction None) e h = found (Some own) (Item.Instruction None) (fault.Operand place) e h (refl, refl)
  statement_found (Some own) (Item.Instruction (Some w)) e h = count_found own w e (instruction_count own == MAX_INSTRUCTIONS) refl h
  statement_found own (Item.Program kind None) e h = found own (Item.Program kind None) (fault.Operand place) e h (refl, refl)
  statement_found own (Item.Program kind (Some t)) e h = title_found own kind t e (has_program before kind t.name) refl h
  statement_found own Item.Unknown e h = found own Item.Unknown (fault.UnknownMnemonic place) e h (refl, tt)

-- ---- all statements

behind_by : (before : List Statement) (x : Statement) (after : List Statement) (e : AsmFault) (o : Option AsmFault)
    → statement_fault before (open_after None before) x after ≡ o → or_else o (fault_behind (before ++ x ∷ []) after) ≡ Some e
    → (fault_behind (before ++ x ∷ []) after ≡ Some e → Stands ((before ++ x ∷ []) ++ after) e) → Stands (before ++ x ∷ after) e
behind_by before x after e (Some f) p h later = record {
  before = before;
  statement = x;
  after = after;
  whole = refl;
  stands = statement_found before after x.place (open_after None before) x.item e (p ∙ h);
}
behind_by before x after e None p h later = subst (λ (es : List Statement). Stands es e) (append_assoc before (x ∷ []) after) (later h)

behind_found : (before rest : List Statement) (e : AsmFault) → fault_behind before rest ≡ Some e → Stands (before ++ rest) e
behind_found before [] e h = absurd cc
behind_found before (x ∷ after) e h =
    behind_by before x after e (statement_fault before (open_after None before) x after) refl h (λ k. behind_found (before ++ x ∷ []) after e k)

pub first_stands : (es : List Statement) (e : AsmFault) → first_fault es ≡ Some e → Stands es e
first_stands es e h = behind_found [] es e h

-- ---- without fault

module _ (before after : List Statement) (place : ℕ) where
  label_clear : (own : List Statement) (w : List ℕ) (b : Bool) → has_instruction after ≡ b → (c : Bool) → defines own w ≡ c
      → (if b then (if c then Some (fault.Twice place) else None) else Some (fault.UnknownLabel place)) ≡ None
      → (has_instruction after ≡ true) × (defines own w ≡ false)
  label_clear own w true p true q h = absurd cc
  label_clear own w true p false q h = (p, q)
  label_clear own w false p c q h = absurd cc

  label_none : (own : List Statement) (w : List ℕ) (e : AsmFault) → has_instruction after ≡ true → defines own w ≡ false
      → StandsAt before (Some own) (record { place = place; item = Item.Label w }) after e → ⊥
  label_none own w (fault.Token p) has once h = h
  label_none own w (fault.UnknownMnemonic p) has once h = let k = h.1 in cc
  label_none own w (fault.Operand p) has once h = h.1
  label_none own w (fault.UnknownLabel p) has once h = let k = h.1 in cc
  label_none own w (fault.Twice p) has once h = let k = h.1 in cc
  label_none own w (fault.TooLong p) has once h = h.1
  label_none own w fault.Memory has once h = h

  jump_clear : (program : List Statement) (l : Label) (o : Option ℕ) → place_in program l.word ≡ o → jump_fault program l ≡ None → place_in program l.word ≡ None → ⊥
  jump_clear program l (Some n) p h none = cc
  jump_clear program l None p h none = let k = rw (p, jump_fault) at h in cc

  unknown_none : (own : List Statement) (w : Written) (p : ℕ) → operand_fault (own ++ record { place = place; item = Item.Instruction (Some w) } ∷ after) w ≡ None
      → NamesUnknown w (own ++ record { place = place; item = Item.Instruction (Some w) } ∷ after) p → ⊥
  unknown_none own (Ready i) p h stands = stands
  unknown_none own (Jump l) p h stands =
      let program : List Statement = own ++ record { place = place; item = Item.Instruction (Some (Jump l)) } ∷ after in
      jump_clear program l (place_in program l.word) refl h stands.1
  unknown_none own (JumpIf test a b l) p h stands =
      let program : List Statement = own ++ record { place = place; item = Item.Instruction (Some (JumpIf test a b l)) } ∷ after in
      jump_clear program l (place_in program l.word) refl h stands.1

  instruction_none : (own : List Statement) (w : Written) (e : AsmFault) (b : Bool) → (instruction_count own == MAX_INSTRUCTIONS) ≡ b
      → (if b then Some (fault.TooLong place) else operand_fault (own ++ record { place = place; item = Item.Instruction (Some w) } ∷ after) w) ≡ None
      → StandsAt before (Some own) (record { place = place; item = Item.Instruction (Some w) }) after e → ⊥
  instruction_none own w e true q f h = absurd cc
  instruction_none own w (fault.Token p) false q f h = h
  instruction_none own w (fault.UnknownMnemonic p) false q f h = let k = h.1 in cc
  instruction_none own w (fault.Operand p) false q f h = let k = h.1 in cc
  instruction_none own w (fault.UnknownLabel p) false q f h = unknown_none own w p f h
  instruction_none own w (fault.Twice p) false q f h = h
  instruction_none own w (fault.TooLong p) false q f h = let k = eq-eqb (instruction_count own) MAX_INSTRUCTIONS h.1 in cc
  instruction_none own w fault.Memory false q f h = h

  title_none : (own : Option (List Statement)) (kind : ProgramKind) (t : Title) (e : AsmFault) (b : Bool) → has_program before kind t.name ≡ b
      → (if b then Some (fault.Twice t.place) else None) ≡ None → StandsAt before own (record { place = place; item = Item.Program kind (Some t) }) after e → ⊥
  title_none own kind t e true q f h = absurd cc
  title_none own kind t (fault.Token p) false q f h = h
  title_none own kind t (fault.UnknownMnemonic p) false q f h = h.1
  title_none own kind t (fault.Operand p) false q f h = let k = h.1 in cc
  title_none own kind t (fault.UnknownLabel p) false q f h = h
  title_none own kind t (fault.Twice p) false q f h = let k = h.1 in cc
  title_none own kind t (fault.TooLong p) false q f h = h.1
  title_none own kind t fault.Memory false q f h = h

  pub statement_none : (own : Option (List Statement)) (i : Item) (e : AsmFault) → statement_fault before own (record { place = place; item = i }) after ≡ None
      → StandsAt before own (record { place = place; item = i }) after e → ⊥
  statement_none None (Item.Label w) e f h = absurd cc
  statement_none (Some own) (Item.Label w) e f h =
      let k = label_clear own w (has_instruction after) refl (defines own w) refl f in
      label_none own w e k.0 k.1 h
  statement_none None (Item.Instruction o) e f h = absurd cc
  statement_none (Some own) (Item.Instruction None) e f h = absurd cc
  statement_none (Some own) (Item.Instruction (Some w)) e f h = instruction_none own w e (instruction_count own == MAX_INSTRUCTIONS) refl f h
  statement_none own (Item.Program kind None) e f h = absurd cc
  statement_none own (Item.Program kind (Some t)) e f h = title_none own kind t e (has_program before kind t.name) refl f h
  statement_none own Item.Unknown e f h = absurd cc

both_none : (o p : Option AsmFault) → or_else o p ≡ None → (o ≡ None) × (p ≡ None)
both_none None p h = (refl, h)
both_none (Some f) p h = absurd cc

none_behind : (before middle : List Statement) (x : Statement) (after : List Statement) → fault_behind before (middle ++ x ∷ after) ≡ None
    → statement_fault (before ++ middle) (open_after None (before ++ middle)) x after ≡ None
none_behind before [] x after h =
    subst (λ (b : List Statement). statement_fault b (open_after None b) x after ≡ None) (sym (append-nil before))
    (both_none (statement_fault before (open_after None before) x after) (fault_behind (before ++ x ∷ []) after) h).0
none_behind before (y ∷ middle) x after h =
    subst (λ (b : List Statement). statement_fault b (open_after None b) x after ≡ None) (append_assoc before (y ∷ []) middle)
    (none_behind (before ++ y ∷ []) middle x after
    (both_none (statement_fault before (open_after None before) y (middle ++ x ∷ after)) (fault_behind (before ++ y ∷ []) (middle ++ x ∷ after)) h).1)

pub none_stands : (es : List Statement) (e : AsmFault) → first_fault es ≡ None → Stands es e → ⊥
none_stands es e none s =
    let f : first_fault (s.before ++ s.statement ∷ s.after) ≡ None = ap first_fault (sym s.whole) ∙ none in
    statement_none s.before s.after s.statement.place (open_after None s.before) s.statement.item e (none_behind [] s.before s.statement s.after f) s.stands
