-- What is kept of the open program says which faults its statements have.
use Rattle.std.proofs.Common.{◌≡◌, ℕ, suc, ◌+◌, ◌-◌, ◌<◌, ◌≤◌, ◌==◌, Bool, true, false, List, [], ◌∷◌, ◌++◌, length, take, drop, get_or, Option, Some, None, refl, sym, ap, ◌∙◌, subst, arith, length-drop, add-one}
use Rattle.std.specs.Prelude.{if◌then◌else◌, nat_lt, bytes_eq, ◌&&◌, IfSome}
use Rattle.std.specs.Option.{option_map}
use Rattle.std.specs.Borrow.{Bor}
use Rattle.std.specs.Ordering.{nat_cmp}
use Rattle.std.specs.Cmp.Lexicographic.{slice_cmp}
use Rattle.std.specs.BTreeSet.{BTreeSet, contains_by, UpdatesBy}
use Rattle.std.proofs.lemmas.Map.Text.{is_eq-slice_cmp}
use Rattle.std.proofs.lemmas.List.{length-take}
use Rattle.osek_base.specs.declared.limits.TheConstants.{MAX_INSTRUCTIONS}
use Rattle.task_asm.specs.declared.program.ProgramKind.{ProgramKind}
use Rattle.task_asm.specs.declared.labels.Definition.{Definition}
use Rattle.task_asm.specs.declared.text_faults.Open.{Open}
use Rattle.task_asm.specs.declared.text_faults.ProgramNames.{ProgramNames}
use Rattle.task_asm.specs.declared.fault.AsmFault.{AsmFault}
use Rattle.task_asm.specs.declared.fault.AsmFault.TheVariants as fault
use Rattle.task_asm.specs.declared.operands.Title.{Title}
use Rattle.task_asm.specs.Lines.{Written, Ready, Jump, JumpIf, Label}
use Rattle.task_asm.specs.Statements.{Statement, Item}
use Rattle.task_asm.specs.Labels.{is_program, is_instruction, is_kind, is_named, place_in, has_instruction, defines, instruction_count, has_program}
use Rattle.task_asm.specs.Walk.{definition_from, finds, is_before, program_size, IsClosed, IsOpen, Knows, KnowsNames, has_name, has_title, open_label_fault, open_jump_fault, open_operand_fault, open_instruction_fault, label_fault, jump_fault, operand_fault, instruction_fault, front_fault, own_of}
use Rattle.task_asm.proofs.LabelLemmas.{same_place, defined_before, goes_on}
use Rattle.task_asm.proofs.FaultLemmas.{Walk, joined, here, so_far, own_more, at_program, at_other}

-- ---- the faults of an statement

elim_same : (a : AsmFault) (p : Option Definition) (q : Option ℕ) → option_map (λ d. d.place) p ≡ option_map (λ n. 0 + n) q
    → ◌≡◌ {A = Option AsmFault} (elim p [ Some d ↦ None | None ↦ Some a ]) (elim q [ Some n ↦ None | None ↦ Some a ])
elim_same a None None e = refl
elim_same a None (Some n) e = absurd cc
elim_same a (Some d) None e = absurd cc
elim_same a (Some d) (Some n) e = refl

module _ (es : List Statement) (at passed : ℕ) (o : Open) (it : IsOpen es at passed o) where
  whole : take (at - o.start) (drop o.start es) ++ drop at es ≡ drop o.start es
  whole = joined es o.start at it.started

  jump_same : (l : Label) → open_jump_fault o l ≡ jump_fault (take (at - o.start) (drop o.start es) ++ drop at es) l
  jump_same l =
      elim_same (fault.UnknownLabel l.place) (finds o.labels.definitions l.word) (place_in (take (at - o.start) (drop o.start es) ++ drop at es) l.word)
      (ap (λ (p : Option Definition). option_map (λ d. d.place) p) (it.labels.found l.word) ∙ same_place 0 0 (drop o.start es) l.word
      ∙ ap (λ (xs : List Statement). option_map (λ n. 0 + n) (place_in xs l.word)) (sym whole))

  operand_same : (w : Written) → open_operand_fault o w ≡ operand_fault (take (at - o.start) (drop o.start es) ++ drop at es) w
  operand_same (Ready i) = refl
  operand_same (Jump l) = jump_same l
  operand_same (JumpIf test a b l) = jump_same l

  pub instruction_same : (place : ℕ) (w : Option Written)
      → open_instruction_fault o passed place w ≡ instruction_fault (Some (take (at - o.start) (drop o.start es))) (drop at es) place w
  instruction_same place None = refl
  instruction_same place (Some w) =
      ap (λ (n : ℕ). if n == MAX_INSTRUCTIONS then Some (fault.TooLong place) else open_operand_fault o w) it.count
      ∙ ap (λ (f : Option AsmFault). if instruction_count (take (at - o.start) (drop o.start es)) == MAX_INSTRUCTIONS then Some (fault.TooLong place) else f) (operand_same w)

  pub label_same : (x : Statement) (v : List ℕ) → at < length es → x ≡ get_or es at x → x.item ≡ Item.Label v → (place : ℕ)
      → open_label_fault o at passed place v ≡ label_fault (Some (take (at - o.start) (drop o.start es))) place v (drop (at + 1) es)
  label_same x v inside is e place =
      let said : Statement = record { place = x.place; item = Item.Label v } in
      let after : List Statement = drop (at + 1) es in
      let front : drop at es ≡ said ∷ after =
      here es at x inside is ∙ ap (λ (i : Item). let y : Statement = record { place = x.place; item = i } in y ∷ drop (at + 1) es) e in
      let parts : drop o.start es ≡ take (at - o.start) (drop o.start es) ++ said ∷ after =
      sym whole ∙ ap (λ (xs : List Statement). take (at - o.start) (drop o.start es) ++ xs) front in
      let started : o.start ≤ at = it.started in
      let size : 0 + length (take (at - o.start) (drop o.start es)) ≡ at - o.start = omega (arith, length-take (at - o.start) (drop o.start es), length-drop o.start es) in
      let a : nat_lt passed o.labels.instructions ≡ has_instruction after =
      goes_on (take (at - o.start) (drop o.start es)) x.place v after passed o.labels.instructions it.closed it.count (it.labels.size ∙ ap program_size parts) in
      let b : is_before (at - o.start) (finds o.labels.definitions v) ≡ defines (take (at - o.start) (drop o.start es)) v =
      ap (is_before (at - o.start)) (it.labels.found v ∙ ap (λ (xs : List Statement). definition_from 0 0 xs v) parts)
      ∙ defined_before (at - o.start) 0 0 (take (at - o.start) (drop o.start es)) (said ∷ after) v it.closed size in
      rw (a, b) refl

  module _ (x : Statement) (inside : at < length es) (is : x ≡ get_or es at x) (place : ℕ) (q : place ≡ x.place) where
    front : (i : Item) → x.item ≡ i → drop at es ≡ record { place = x.place; item = i } ∷ drop (at + 1) es
    front i e = here es at x inside is ∙ ap (λ (j : Item). let y : Statement = record { place = x.place; item = j } in y ∷ drop (at + 1) es) e

    pub label_front : (v : List ℕ) → x.item ≡ Item.Label v
        → open_label_fault o at passed place v ≡ front_fault (take at es) (own_of es at (Some o.start)) (drop at es)
    label_front v e =
        label_same x v inside is e place
        ∙ ap (λ (n : ℕ). label_fault (Some (take (at - o.start) (drop o.start es))) n v (drop (at + 1) es)) q
        ∙ sym (ap (front_fault (take at es) (own_of es at (Some o.start))) (front (Item.Label v) e))

    pub instruction_front : (w : Option Written) → x.item ≡ Item.Instruction w
        → open_instruction_fault o passed place w ≡ front_fault (take at es) (own_of es at (Some o.start)) (drop at es)
    instruction_front w e =
        instruction_same place w
        ∙ ap (λ (n : ℕ). instruction_fault (Some (take (at - o.start) (drop o.start es))) (drop at es) n w) q
        ∙ ap (λ (xs : List Statement). instruction_fault (Some (take (at - o.start) (drop o.start es))) xs x.place w) (front (Item.Instruction w) e)
        ∙ sym (ap (front_fault (take at es) (own_of es at (Some o.start))) (front (Item.Instruction w) e))

-- ---- one statement after the other

closed_push : (xs : List Statement) (x : Statement) → IsClosed xs → is_program x ≡ false → IsClosed (xs ++ x ∷ [])
closed_push [] x closed e = (e, tt)
closed_push (y ∷ xs) x closed e = (closed.0, closed_push xs x closed.1 e)

one_more : (x : Statement) (n : ℕ) (b c : Bool) → (if b then suc (if c then suc n else n) else (if c then suc n else n)) ≡ (if c then suc (if b then suc n else n) else (if b then suc n else n))
one_more x n true true = refl
one_more x n true false = refl
one_more x n false true = refl
one_more x n false false = refl

count_push : (xs : List Statement) (x : Statement) → instruction_count (xs ++ x ∷ []) ≡ (if is_instruction x then suc (instruction_count xs) else instruction_count xs)
count_push [] x = refl
count_push (y ∷ xs) x =
    ap (λ (n : ℕ). if is_instruction y then suc n else n) (count_push xs x) ∙ one_more x (instruction_count xs) (is_instruction y) (is_instruction x)

some_same : (a b : List Statement) → Some a ≡ Some b → a ≡ b
some_same a b e = cc

pub opened : (es : List Statement) (at : ℕ) (o : Open) → o.start ≡ at → Knows o.labels (drop at es) → IsOpen es at 0 o
opened es at o e knows =
    let zero : at - o.start ≡ 0 = omega (arith, e) in
    record {
      started = omega (arith, e);
      closed = rw zero tt;
      count = rw zero refl;
      labels = rw e knows;
    }

module _ (es : List Statement) (at passed : ℕ) (o : Open) (it : IsOpen es at passed o) (x : Statement) (inside : at < length es) (is : x ≡ get_or es at x) (no_program : is_program x ≡ false) where
  longer : take (at - o.start) (drop o.start es) ++ x ∷ [] ≡ take (at + 1 - o.start) (drop o.start es)
  longer = some_same _ _ (own_more es at x inside is (Some o.start) it.started)

  pub still_open : (next : ℕ) → next ≡ (if is_instruction x then suc passed else passed) → IsOpen es (at + 1) next o
  still_open next e = record {
    started = omega (arith, it.started);
    closed = subst IsClosed longer (closed_push (take (at - o.start) (drop o.start es)) x it.closed no_program);
    count = e ∙ ap (λ (n : ℕ). if is_instruction x then suc n else n) it.count ∙ sym (count_push (take (at - o.start) (drop o.start es)) x) ∙ ap instruction_count longer;
    labels = it.labels;
  }

-- ---- names

two_tests : (a b c : Bool) → (if a then true else (if b then true else c)) ≡ (if b then true else (if a then true else c))
two_tests true true c = refl
two_tests true false c = refl
two_tests false b c = refl

has_push : (xs : List Statement) (x : Statement) (kind : ProgramKind) (w : List ℕ) → has_program (xs ++ x ∷ []) kind w ≡ (if is_named kind w x then true else has_program xs kind w)
has_push [] x kind w = refl
has_push (y ∷ xs) x kind w =
    ap (λ (b : Bool). if is_named kind w y then true else b) (has_push xs x kind w) ∙ two_tests (is_named kind w y) (is_named kind w x) (has_program xs kind w)

module _ (es : List Statement) (at : ℕ) (x : Statement) (inside : at < length es) (is : x ≡ get_or es at x) where
  title_is : (k : ProgramKind) (t : Option Title) (kind : ProgramKind) (w : List ℕ) (place : ℕ) → has_title k t kind w ≡ is_named kind w (record { place = place; item = Item.Program k t })
  title_is k None kind w place = refl
  title_is k (Some t) kind w place = refl

  -- a directive is passed
  pub name_noted : (old new : ProgramNames) (k : ProgramKind) (t : Option Title) → x.item ≡ Item.Program k t → KnowsNames old (take at es)
      → ((kind : ProgramKind) (w : List ℕ) → has_name new kind w ≡ (if has_title k t kind w then true else has_name old kind w)) → KnowsNames new (take (at + 1) es)
  name_noted old new k t e known step kind w =
      step kind w
      ∙ ap (λ (b : Bool). if b then true else has_name old kind w) (title_is k t kind w x.place ∙ ap (λ (i : Item). is_named kind w (let y : Statement = record { place = x.place; item = i } in y)) (sym e))
      ∙ ap (λ (b : Bool). if is_named kind w x then true else b) (known kind w)
      ∙ sym (has_push (take at es) x kind w) ∙ ap (λ (xs : List Statement). has_program xs kind w) (sym (so_far es at x inside is))

  pub name_kept : (names : ProgramNames) → ((kind : ProgramKind) (w : List ℕ) → is_named kind w x ≡ false) → KnowsNames names (take at es) → KnowsNames names (take (at + 1) es)
  name_kept names other known kind w =
      known kind w ∙ sym (ap (λ (b : Bool). if b then true else has_program (take at es) kind w) (other kind w))
      ∙ sym (has_push (take at es) x kind w) ∙ ap (λ (xs : List Statement). has_program xs kind w) (sym (so_far es at x inside is))

-- ---- sets of words

-- what a set with one more word has
pub set_more : (old new : BTreeSet (Bor (List ℕ))) (v : List ℕ) → UpdatesBy (λ x y. slice_cmp nat_cmp x.now y.now) (λ k. slice_cmp nat_cmp v k.now) old new true
    → (w : List ℕ) → contains_by (λ k. slice_cmp nat_cmp w k.now) new ≡ (if bytes_eq v w then true else contains_by (λ k. slice_cmp nat_cmp w k.now) old)
set_more old new v h w =
    let key : Bor (List ℕ) = record { ref_ptr = (0, 0); now = w } in
    h.0 key ∙ ap (λ (b : Bool). if b then true else contains_by (λ k. slice_cmp nat_cmp w k.now) old) (is_eq-slice_cmp v w)

pub task_added : (names : ProgramNames) (new : BTreeSet (Bor (List ℕ))) (v : List ℕ) → UpdatesBy (λ x y. slice_cmp nat_cmp x.now y.now) (λ k. slice_cmp nat_cmp v k.now) names.tasks new true
    → (k : ProgramKind) (w : List ℕ) → has_name (record { tasks = new; routines = names.routines }) k w ≡ (if is_kind ProgramKind.Task k && bytes_eq v w then true else has_name names k w)
task_added names new v h ProgramKind.Task w = set_more names.tasks new v h w
task_added names new v h ProgramKind.Routine w = refl

pub routine_added : (names : ProgramNames) (new : BTreeSet (Bor (List ℕ))) (v : List ℕ) → UpdatesBy (λ x y. slice_cmp nat_cmp x.now y.now) (λ k. slice_cmp nat_cmp v k.now) names.routines new true
    → (k : ProgramKind) (w : List ℕ) → has_name (record { tasks = names.tasks; routines = new }) k w ≡ (if is_kind ProgramKind.Routine k && bytes_eq v w then true else has_name names k w)
routine_added names new v h ProgramKind.Task w = refl
routine_added names new v h ProgramKind.Routine w = set_more names.routines new v h w

-- ---- the loop

-- what is known behind an statement
pub record Behind (es : List Statement) (at : ℕ) (program : Option Open) (passed : ℕ) (names : ProgramNames) : Type 0 where
  pub fewer : passed ≤ at
  pub walk : Walk es at (option_map (λ o. o.start) program)
  pub is_open : IfSome program (IsOpen es at passed)
  pub known : KnowsNames names (take at es)

module _ (es : List Statement) (at passed : ℕ) (program : Option Open) (names : ProgramNames) (before : Behind es at program passed names)
    (x : Statement) (inside : at < length es) (is : x ≡ get_or es at x)
    (none : front_fault (take at es) (own_of es at (option_map (λ o. o.start) program)) (drop at es) ≡ None) where
  pub behind_program : (k : ProgramKind) (t : Option Title) (o : Open) (new : ProgramNames) → x.item ≡ Item.Program k t → o.start ≡ at + 1 → Knows o.labels (drop (at + 1) es)
      → ((kind : ProgramKind) (w : List ℕ) → has_name new kind w ≡ (if has_title k t kind w then true else has_name names kind w))
      → Behind es (at + 1) (Some o) 0 new
  behind_program k t o new e start knows step =
      let directive : is_program x ≡ true = ap (λ (i : Item). is_program (let y : Statement = record { place = x.place; item = i } in y)) e in
      record {
        fewer = omega arith;
        walk = subst (λ (s : ℕ). Walk es (at + 1) (Some s)) (sym start) (at_program es at x inside is (option_map (λ o. o.start) program) before.walk none directive);
        is_open = opened es (at + 1) o start knows;
        known = name_noted es at x inside is names new k t e before.known step;
      }

  opened_on : (next : ℕ) → is_program x ≡ false → next ≡ (if is_instruction x then suc passed else passed)
      → (p : Option Open) → IfSome p (IsOpen es at passed) → IfSome p (IsOpen es (at + 1) next)
  opened_on next other count None h = tt
  opened_on next other count (Some o) h = still_open es at passed o h x inside is other next count

  pub behind_other : (next : ℕ) → is_program x ≡ false → ((kind : ProgramKind) (w : List ℕ) → is_named kind w x ≡ false)
      → next ≡ (if is_instruction x then suc passed else passed) → next ≤ passed + 1 → Behind es (at + 1) program next names
  behind_other next other unnamed count few = record {
    fewer = omega (arith, before.fewer);
    walk = at_other es at x inside is (option_map (λ o. o.start) program) before.walk none other;
    is_open = opened_on next other count program before.is_open;
    known = name_kept es at x inside is names unnamed before.known;
  }

  pub behind_instruction : {o : _} → x.item ≡ Item.Instruction o → Behind es (at + 1) program (passed + 1) names
  behind_instruction e =
      let said : Item → Statement = λ i. record { place = x.place; item = i } in
      behind_other (passed + 1) (ap (λ (i : Item). is_program (said i)) e) (λ kind w. ap (λ (i : Item). is_named kind w (said i)) e)
      (add-one passed ∙ sym (ap (λ (i : Item). if is_instruction (said i) then suc passed else passed) e)) (omega arith)

  pub behind_label : {w : _} → x.item ≡ Item.Label w → Behind es (at + 1) program passed names
  behind_label e =
      let said : Item → Statement = λ i. record { place = x.place; item = i } in
      behind_other passed (ap (λ (i : Item). is_program (said i)) e) (λ kind w. ap (λ (i : Item). is_named kind w (said i)) e)
      (sym (ap (λ (i : Item). if is_instruction (said i) then suc passed else passed) e)) (omega arith)

  pub behind_unknown : x.item ≡ Item.Unknown → Behind es (at + 1) program passed names
  behind_unknown e =
      let said : Item → Statement = λ i. record { place = x.place; item = i } in
      behind_other passed (ap (λ (i : Item). is_program (said i)) e) (λ kind w. ap (λ (i : Item). is_named kind w (said i)) e)
      (sym (ap (λ (i : Item). if is_instruction (said i) then suc passed else passed) e)) (omega arith)
