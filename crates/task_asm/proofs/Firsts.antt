-- The first fault in the order of what stands in a text is the one at the least place, and of it the lowest number.
use Rattle.std.proofs.Common.{◌≡◌, ℕ, ◌+◌, ◌<◌, ◌≤◌, ◌==◌, Bool, true, false, List, [], ◌∷◌, ◌++◌, Option, Some, None, refl, sym, ap, ◌∙◌, subst, append_assoc, arith, ◌⊎◌, inl, inr}
use Rattle.std.specs.Prelude.{if◌then◌else◌}
use Rattle.std.proofs.lemmas.List.{append-nil}
use Rattle.std.proofs.lemmas.Bool.{cases_lt, eq-eqb}
use Rattle.osek_base.specs.declared.limits.TheConstants.{MAX_INSTRUCTIONS}
use Rattle.task_asm.specs.declared.program.ProgramKind.{ProgramKind}
use Rattle.task_asm.specs.declared.operands.Title.{Title}
use Rattle.task_asm.specs.declared.fault.AsmFault.{AsmFault}
use Rattle.task_asm.specs.declared.fault.AsmFault.TheVariants as fault
use Rattle.task_asm.specs.Mnemonics.{or_else}
use Rattle.task_asm.specs.Lines.{Written, Ready, Jump, JumpIf, Label}
use Rattle.task_asm.specs.Statements.{Statement, Item}
use Rattle.task_asm.specs.Labels.{place_in, has_instruction, defines, instruction_count, has_program, open_after}
use Rattle.task_asm.specs.Order.{place_of, number_of, IsNoLater, IsFirstFault}
use Rattle.task_asm.specs.Faults.{IsOutOfPlace, NamesUnknown, IsUnknownLabel, IsSecond, StandsAt, Stands}
use Rattle.task_asm.specs.Walk.{jump_fault, operand_fault, statement_fault, fault_behind, first_fault}
use Rattle.task_asm.specs.Meaning.{Says}
use Rattle.task_asm.proofs.Rising.{Inside, OnLabel, OnName, StatementsRise, lexes_rise, reads_rise}
use Rattle.task_asm.proofs.StandLemmas.{same_fault, first_stands, statement_found, statement_none}

no_later : (e g : AsmFault) → place_of e ≤ place_of g → number_of e ≤ number_of g → IsNoLater e g
no_later e g places numbers =
    elim (cases_lt (place_of e) (place_of g)) [ inl lt ↦ inl lt | inr ge ↦ inr (omega arith, numbers) ]

module _ (before after : List Statement) (place : ℕ) where
  -- ---- the faults of an statement stand within its line

  names_inside : (q r : ℕ) (w : Written) (program : List Statement) (p : ℕ) → OnLabel q r w → NamesUnknown w program p → Inside q r p
  names_inside q r (Ready i) program p on h = absurd h
  names_inside q r (Jump l) program p on h = (omega (arith, h.0, on.0), omega (arith, h.0, on.1))
  names_inside q r (JumpIf test a b l) program p on h = (omega (arith, h.0, on.0), omega (arith, h.0, on.1))

  unknown_inside : (r : ℕ) (own : Option (List Statement)) (i : Item) (x : Statement) (p : ℕ) → place < r → OnName (place + 1) r i
      → IsUnknownLabel i own place x after p → Inside place r p
  unknown_inside r own (Item.Label w) x p low on h = (omega (arith, h.0), omega (arith, h.0))
  unknown_inside r (Some own) (Item.Instruction (Some w)) x p low on h =
      let n = names_inside (place + 1) r w (own ++ x ∷ after) p on h in (omega (arith, n.0), n.1)
  unknown_inside r None (Item.Instruction (Some w)) x p low on h = absurd h
  unknown_inside r None (Item.Instruction None) x p low on h = absurd h
  unknown_inside r (Some own) (Item.Instruction None) x p low on h = absurd h
  unknown_inside r own (Item.Program kind o) x p low on h = absurd h
  unknown_inside r own Item.Unknown x p low on h = absurd h

  second_inside : (r : ℕ) (own : Option (List Statement)) (i : Item) (p : ℕ) → place < r → OnName (place + 1) r i
      → IsSecond i before own place p → Inside place r p
  second_inside r (Some own) (Item.Label w) p low on h = (omega (arith, h.0), omega (arith, h.0))
  second_inside r None (Item.Label w) p low on h = absurd h
  second_inside r own (Item.Instruction o) p low on h = absurd h
  second_inside r own (Item.Program kind (Some t)) p low on h = (omega (arith, h.0, on.0), omega (arith, h.0, on.1))
  second_inside r own (Item.Program kind None) p low on h = absurd h
  second_inside r own Item.Unknown p low on h = absurd h

  stands_inside : (r : ℕ) (own : Option (List Statement)) (i : Item) (g : AsmFault) → place < r → OnName (place + 1) r i
      → StandsAt before own (record { place = place; item = i }) after g → Inside place r (place_of g)
  stands_inside r own i (fault.Token p) low on h = absurd h
  stands_inside r own i (fault.UnknownMnemonic p) low on h = (omega (arith, h.0), omega (arith, h.0))
  stands_inside r own i (fault.Operand p) low on h = (omega (arith, h.0), omega (arith, h.0))
  stands_inside r own i (fault.UnknownLabel p) low on h = unknown_inside r own i (record { place = place; item = i }) p low on h
  stands_inside r own i (fault.Twice p) low on h = second_inside r own i p low on h
  stands_inside r own i (fault.TooLong p) low on h = (omega (arith, h.0), omega (arith, h.0))
  stands_inside r own i fault.Memory low on h = absurd h

  -- ---- their numbers

  from_two : (own : Option (List Statement)) (i : Item) (g : AsmFault) → StandsAt before own (record { place = place; item = i }) after g → 2 ≤ number_of g
  from_two own i (fault.Token p) h = absurd h
  from_two own i (fault.UnknownMnemonic p) h = omega arith
  from_two own i (fault.Operand p) h = omega arith
  from_two own i (fault.UnknownLabel p) h = omega arith
  from_two own i (fault.Twice p) h = omega arith
  from_two own i (fault.TooLong p) h = omega arith
  from_two own i fault.Memory h = absurd h

  from_three : (own : Option (List Statement)) (i : Item) (g : AsmFault) → (IsOutOfPlace i own → ⊥)
      → StandsAt before own (record { place = place; item = i }) after g → 3 ≤ number_of g
  from_three own i (fault.Token p) fits h = absurd h
  from_three own i (fault.UnknownMnemonic p) fits h = absurd (fits h.1)
  from_three own i (fault.Operand p) fits h = omega arith
  from_three own i (fault.UnknownLabel p) fits h = omega arith
  from_three own i (fault.Twice p) fits h = omega arith
  from_three own i (fault.TooLong p) fits h = omega arith
  from_three own i fault.Memory fits h = absurd h

  -- ---- the one that is found is the first of them

  module _ (r : ℕ) (low : place < r) where
    label_first : (own : List Statement) (w : List ℕ) (a g : AsmFault) (b : Bool) → has_instruction after ≡ b
        → (c : Bool) → (if b then (if c then Some (fault.Twice place) else None) else Some (fault.UnknownLabel place)) ≡ Some a
        → StandsAt before (Some own) (record { place = place; item = Item.Label w }) after g → IsNoLater a g
    label_first own w a (fault.Token p) b e c h s = absurd s
    label_first own w a (fault.UnknownMnemonic p) b e c h s = absurd (let k = s.1 in cc)
    label_first own w a (fault.Operand p) b e c h s = absurd s.1
    label_first own w a (fault.UnknownLabel p) true e c h s = absurd (let k = s.1 in cc)
    label_first own w a (fault.UnknownLabel p) false e c h s =
        subst (λ (v : AsmFault). IsNoLater v (fault.UnknownLabel p)) (same_fault (fault.UnknownLabel place) a h) (no_later (fault.UnknownLabel place) (fault.UnknownLabel p) (omega (arith, s.0)) (omega arith))
    label_first own w a (fault.Twice p) true e true h s =
        subst (λ (v : AsmFault). IsNoLater v (fault.Twice p)) (same_fault (fault.Twice place) a h) (no_later (fault.Twice place) (fault.Twice p) (omega (arith, s.0)) (omega arith))
    label_first own w a (fault.Twice p) true e false h s = absurd cc
    label_first own w a (fault.Twice p) false e c h s =
        subst (λ (v : AsmFault). IsNoLater v (fault.Twice p)) (same_fault (fault.UnknownLabel place) a h) (no_later (fault.UnknownLabel place) (fault.Twice p) (omega (arith, s.0)) (omega arith))
    label_first own w a (fault.TooLong p) b e c h s = absurd s.1
    label_first own w a fault.Memory b e c h s = absurd s

    jump_first : (own : List Statement) (l : Label) (a : AsmFault) (o : Option ℕ) (program : List Statement) → place_in program l.word ≡ o → jump_fault program l ≡ Some a
        → a ≡ fault.UnknownLabel l.place
    jump_first own l a (Some n) program p h = absurd (let k = rw (p, jump_fault) at h in cc)
    jump_first own l a None program p h = sym (same_fault (fault.UnknownLabel l.place) a (let k = rw (p, jump_fault) at h in k))

    -- of an instruction's fault at its operand, another fault at an operand is no earlier
    operand_first : (own : List Statement) (w : Written) (a : AsmFault) (p : ℕ) → operand_fault (own ++ record { place = place; item = Item.Instruction (Some w) } ∷ after) w ≡ Some a
        → NamesUnknown w (own ++ record { place = place; item = Item.Instruction (Some w) } ∷ after) p → IsNoLater a (fault.UnknownLabel p)
    operand_first own (Ready i) a p h s = absurd s
    operand_first own (Jump l) a p h s =
        let program : List Statement = own ++ record { place = place; item = Item.Instruction (Some (Jump l)) } ∷ after in
        subst (λ (v : AsmFault). IsNoLater v (fault.UnknownLabel p)) (sym (jump_first own l a (place_in program l.word) program refl h))
        (no_later (fault.UnknownLabel l.place) (fault.UnknownLabel p) (omega (arith, s.0)) (omega arith))
    operand_first own (JumpIf test x y l) a p h s =
        let program : List Statement = own ++ record { place = place; item = Item.Instruction (Some (JumpIf test x y l)) } ∷ after in
        subst (λ (v : AsmFault). IsNoLater v (fault.UnknownLabel p)) (sym (jump_first own l a (place_in program l.word) program refl h))
        (no_later (fault.UnknownLabel l.place) (fault.UnknownLabel p) (omega (arith, s.0)) (omega arith))

    instruction_first : (own : List Statement) (w : Written) (a g : AsmFault) (b : Bool) → (instruction_count own == MAX_INSTRUCTIONS) ≡ b → OnLabel (place + 1) r w
        → (if b then Some (fault.TooLong place) else operand_fault (own ++ record { place = place; item = Item.Instruction (Some w) } ∷ after) w) ≡ Some a
        → StandsAt before (Some own) (record { place = place; item = Item.Instruction (Some w) }) after g → IsNoLater a g
    instruction_first own w a (fault.Token p) b e on h s = absurd s
    instruction_first own w a (fault.UnknownMnemonic p) b e on h s = absurd (let k = s.1 in cc)
    instruction_first own w a (fault.Operand p) b e on h s = absurd (let k = s.1 in cc)
    instruction_first own w a (fault.UnknownLabel p) true e on h s =
        let n = names_inside (place + 1) r w (own ++ record { place = place; item = Item.Instruction (Some w) } ∷ after) p on s in
        subst (λ (v : AsmFault). IsNoLater v (fault.UnknownLabel p)) (same_fault (fault.TooLong place) a h) (inl (omega (arith, n.0)))
    instruction_first own w a (fault.UnknownLabel p) false e on h s = operand_first own w a p h s
    instruction_first own w a (fault.Twice p) b e on h s = absurd s
    instruction_first own w a (fault.TooLong p) true e on h s =
        subst (λ (v : AsmFault). IsNoLater v (fault.TooLong p)) (same_fault (fault.TooLong place) a h) (no_later (fault.TooLong place) (fault.TooLong p) (omega (arith, s.0)) (omega arith))
    instruction_first own w a (fault.TooLong p) false e on h s = absurd (let k = eq-eqb (instruction_count own) MAX_INSTRUCTIONS s.1 in cc)
    instruction_first own w a fault.Memory b e on h s = absurd s

    title_first : (own : Option (List Statement)) (kind : ProgramKind) (t : Title) (a g : AsmFault) (b : Bool)
        → (if b then Some (fault.Twice t.place) else None) ≡ Some a
        → StandsAt before own (record { place = place; item = Item.Program kind (Some t) }) after g → IsNoLater a g
    title_first own kind t a (fault.Token p) b h s = absurd s
    title_first own kind t a (fault.UnknownMnemonic p) b h s = absurd s.1
    title_first own kind t a (fault.Operand p) b h s = absurd (let k = s.1 in cc)
    title_first own kind t a (fault.UnknownLabel p) b h s = absurd s
    title_first own kind t a (fault.Twice p) true h s =
        subst (λ (v : AsmFault). IsNoLater v (fault.Twice p)) (same_fault (fault.Twice t.place) a h) (no_later (fault.Twice t.place) (fault.Twice p) (omega (arith, s.0)) (omega arith))
    title_first own kind t a (fault.Twice p) false h s = absurd cc
    title_first own kind t a (fault.TooLong p) b h s = absurd s.1
    title_first own kind t a fault.Memory b h s = absurd s

    -- a fault at the statement's place with the lowest number that any can have there
    lowest : (own : Option (List Statement)) (i : Item) (a g : AsmFault) (found : AsmFault) → Some found ≡ Some a → place_of found ≡ place → number_of found ≤ number_of g
        → OnName (place + 1) r i → StandsAt before own (record { place = place; item = i }) after g → IsNoLater a g
    lowest own i a g found h at number on s =
        let n = stands_inside r own i g low on s in
        subst (λ (v : AsmFault). IsNoLater v g) (same_fault found a h) (no_later found g (omega (arith, at, n.0)) number)

    statement_first : (own : Option (List Statement)) (i : Item) (a g : AsmFault) → OnName (place + 1) r i → statement_fault before own (record { place = place; item = i }) after ≡ Some a
        → StandsAt before own (record { place = place; item = i }) after g → IsNoLater a g
    statement_first None (Item.Label w) a g on h s = lowest None (Item.Label w) a g (fault.UnknownMnemonic place) h refl (from_two None (Item.Label w) g s) on s
    statement_first (Some own) (Item.Label w) a g on h s = label_first own w a g (has_instruction after) refl (defines own w) h s
    statement_first None (Item.Instruction o) a g on h s = lowest None (Item.Instruction o) a g (fault.UnknownMnemonic place) h refl (from_two None (Item.Instruction o) g s) on s
    statement_first (Some own) (Item.Instruction None) a g on h s =
        lowest (Some own) (Item.Instruction None) a g (fault.Operand place) h refl (from_three (Some own) (Item.Instruction None) g (λ k. cc) s) on s
    statement_first (Some own) (Item.Instruction (Some w)) a g on h s = instruction_first own w a g (instruction_count own == MAX_INSTRUCTIONS) refl on h s
    statement_first own (Item.Program kind None) a g on h s =
        lowest own (Item.Program kind None) a g (fault.Operand place) h refl (from_three own (Item.Program kind None) g (λ k. k) s) on s
    statement_first own (Item.Program kind (Some t)) a g on h s = title_first own kind t a g (has_program before kind t.name) h s
    statement_first own Item.Unknown a g on h s = lowest own Item.Unknown a g (fault.UnknownMnemonic place) h refl (from_two own Item.Unknown g s) on s

-- ---- all statements

-- the fault stands in these statements, behind others
StandsIn : List Statement → List Statement → AsmFault → Type 0
StandsIn before [] g = ⊥
StandsIn before (x ∷ after) g = StandsAt before (open_after None before) x after g ⊎ StandsIn (before ++ x ∷ []) after g

stands_in : (before front : List Statement) (x : Statement) (after : List Statement) (g : AsmFault)
    → StandsAt (before ++ front) (open_after None (before ++ front)) x after g → StandsIn before (front ++ x ∷ after) g
unfolding StandsIn
stands_in before [] x after g h = inl (subst (λ (b : List Statement). StandsAt b (open_after None b) x after g) (append-nil before) h)
stands_in before (y ∷ front) x after g h =
    inr (stands_in (before ++ y ∷ []) front x after g
    (subst (λ (b : List Statement). StandsAt b (open_after None b) x after g) (sym (append_assoc before (y ∷ []) front)) h))

stands_later : (before rest : List Statement) (q : ℕ) (g : AsmFault) → StatementsRise q rest → StandsIn before rest g → q ≤ place_of g
unfolding StandsIn
stands_later before [] q g rise h = absurd h
stands_later before (x ∷ after) q g rise (inl h) =
    let n = stands_inside before after x.place rise.0 (open_after None before) x.item g rise.1.before rise.1.named h in omega (arith, n.0, rise.1.from)
stands_later before (x ∷ after) q g rise (inr h) =
    let n = stands_later (before ++ x ∷ []) after rise.0 g rise.2 h in omega (arith, n, rise.1.from, rise.1.before)

first_by : (before : List Statement) (x : Statement) (after : List Statement) (r : ℕ) (e g : AsmFault) (o : Option AsmFault) → x.place < r → OnName (x.place + 1) r x.item
    → statement_fault before (open_after None before) x after ≡ o → or_else o (fault_behind (before ++ x ∷ []) after) ≡ Some e
    → (StandsIn (before ++ x ∷ []) after g → r ≤ place_of g)
    → (fault_behind (before ++ x ∷ []) after ≡ Some e → StandsIn (before ++ x ∷ []) after g → IsNoLater e g)
    → StandsAt before (open_after None before) x after g ⊎ StandsIn (before ++ x ∷ []) after g → IsNoLater e g
first_by before x after r e g (Some f) low on is h later more (inl s) =
    statement_first before after x.place r low (open_after None before) x.item e g on (is ∙ h) s
first_by before x after r e g (Some f) low on is h later more (inr s) =
    let n = stands_inside before after x.place r (open_after None before) x.item f low on (statement_found before after x.place (open_after None before) x.item f is) in
    inl (omega (arith, later s, n.1, ap place_of (same_fault f e h)))
first_by before x after r e g None low on is h later more (inl s) =
    absurd (statement_none before after x.place (open_after None before) x.item g is s)
first_by before x after r e g None low on is h later more (inr s) = more h s

first_behind : (before rest : List Statement) (q : ℕ) (e g : AsmFault) → StatementsRise q rest → fault_behind before rest ≡ Some e → StandsIn before rest g → IsNoLater e g
unfolding StandsIn
first_behind before [] q e g rise h s = absurd s
first_behind before (x ∷ after) q e g rise h s =
    first_by before x after rise.0 e g (statement_fault before (open_after None before) x after) rise.1.before rise.1.named refl h
    (λ t. stands_later (before ++ x ∷ []) after rise.0 g rise.2 t) (λ k t. first_behind (before ++ x ∷ []) after rise.0 e g rise.2 k t) s

-- the fault that is found in what a text says is the first of all that stand there
pub is_first : (text : List ℕ) (es : List Statement) (e : AsmFault) → Says text es → first_fault es ≡ Some e → IsFirstFault (Stands es) e
is_first text es e says h = record {
  stands = first_stands es e h;
  first = λ g s. first_behind [] es 0 e g (reads_rise 0 says.reads (lexes_rise says.lexes)) h
      (subst (λ (xs : List Statement). StandsIn [] xs g) (sym s.whole) (stands_in [] s.before s.statement s.after g s.stands));
}
