-- What a proper system's programs keep: known operands, and no place past their ends.
use Rattle.std.proofs.Common.{◌≡◌, ℕ, zero, suc, ◌+◌, ◌-◌, ◌<◌, ◌≤◌, Bool, true, false, ◌&&◌, List, [], ◌∷◌, length, sym, ◌∙◌, ap, refl, arith, inl, inr}
use Rattle.std.specs.Prelude.{Some, slice_get, slice_index_or}
use Rattle.std.specs.List.{list_all}
use Rattle.std.specs.Option.{option_map_or}
use Rattle.std.proofs.lemmas.Bool.{cases_lt, false≢true, true≢false, leb-true}
use Rattle.osek_base.specs.declared.ids.Owner.{Owner}
use Rattle.osek_base.specs.declared.instr.Instr.{Instr}
use Rattle.osek_base.specs.declared.instr.Plain.{Plain}
use Rattle.osek_base.specs.declared.limits.TheConstants.{MAX_TASK_PRIORITY, MAX_INSTRUCTIONS}
use Rattle.osek_base.specs.System.{System, no_task, no_routine, program, instruction_in, instruction_at}
use Rattle.osek_base.specs.Separable.{IsOwner}
use Rattle.osek_base.specs.Proper.{IsProper, has_proper_objects, are_falling, is_proper_task, is_proper_routine, is_proper_program, is_proper_instruction, is_end_instruction, ends_well}

pub and_split : (a b : Bool) → (a && b) ≡ true → (a ≡ true) × (b ≡ true)
and_split true true h = (refl, refl)
and_split true false h = absurd (false≢true h)
and_split false true h = absurd (false≢true h)
and_split false false h = absurd (false≢true h)

-- what passes of all passes of one
pub all_at : {X : Type 0} (p : X → Bool) (xs : List X) (i : ℕ) (d : X) → i < length xs → list_all p xs ≡ true → p (slice_index_or xs i d) ≡ true
all_at p [] i d below h = absurd (omega arith)
all_at p (x ∷ xs) zero d below h = (and_split _ _ h).0
all_at p (x ∷ xs) (suc i) d below h = all_at p xs i d (omega arith) (and_split _ _ h).1

-- whether an owner is a routine
abbrev pub is_routine : Owner → Bool
is_routine (Owner.Task t) = false
is_routine (Owner.Routine i) = true

six : (f t r m c a : Bool) → (f && t && r && m && c && a) ≡ true → (t ≡ true) × (r ≡ true)
six f t r m c a h =
    let ftrmc = and_split (f && t && r && m && c) a h in
    let ftrm = and_split (f && t && r && m) c ftrmc.0 in
    let ftr = and_split (f && t && r) m ftrm.0 in
    let ft = and_split (f && t) r ftr.0 in
    ((and_split f t ft.0).1, ft.1)

-- the tasks and routines of a proper system are proper
objects_split : (S : System) → has_proper_objects S ≡ true
    → (list_all (is_proper_task S) S.tasks ≡ true) × (list_all (is_proper_routine S) S.routines ≡ true)
objects_split S h = six (are_falling MAX_TASK_PRIORITY S.tasks) _ _ _ _ _ h

-- a program of a proper system is proper
pub proper_program : (S : System) (owner : Owner) → IsProper S → IsOwner S owner
    → is_proper_program S (is_routine owner) (program S owner) ≡ true
proper_program S (Owner.Task t) h below =
    let tasks : list_all (is_proper_task S) S.tasks ≡ true = (objects_split S h.objects).0 in
    (and_split _ _ (all_at (is_proper_task S) S.tasks t no_task below tasks)).1
proper_program S (Owner.Routine i) h below =
    let routines : list_all (is_proper_routine S) S.routines ≡ true = (objects_split S h.objects).1 in
    (and_split _ _ (all_at (is_proper_routine S) S.routines i no_routine below routines)).1

-- a program that ends well isn't empty
pub some_instruction : (p : List Instr) → ends_well p ≡ true → 0 < length p
some_instruction [] h = absurd (false≢true h)
some_instruction (i ∷ is) h = omega arith

last_is : (p : List Instr) (i : ℕ) → i < length p → slice_get p i ≡ Some (instruction_in p i)
last_is [] i below = absurd (omega arith)
last_is (x ∷ xs) zero below = refl
last_is (x ∷ xs) (suc i) below = last_is xs i (omega arith)

-- behind an instruction that isn't an end there is another one
pub has_next : (p : List Instr) (place : ℕ) → place < length p → ends_well p ≡ true
    → is_end_instruction (instruction_in p place) ≡ false → place + 1 < length p
has_next p place below ends other = elim (cases_lt (place + 1) (length p)) [
  | inl lt ↦ lt
  | inr ge ↦
      (let e : length p - 1 ≡ place = omega arith in
      let there : option_map_or is_end_instruction (slice_get p place) false ≡ true =
      ap (λ k. option_map_or is_end_instruction (slice_get p k) false) (sym e) ∙ ends in
      let one : is_end_instruction (instruction_in p place) ≡ true =
      sym (ap (λ o. option_map_or is_end_instruction o false) (last_is p place below)) ∙ there in
      absurd (true≢false (sym one ∙ other)))
]

-- what is known of an owner at a place of its program
pub record KnownPlace (S : System) (owner : Owner) (place : ℕ) : Type 0 where
  pub operands : is_proper_instruction S (is_routine owner) (length (program S owner)) (instruction_at S owner place) ≡ true
  pub next : is_end_instruction (instruction_at S owner place) ≡ false → place + 1 < length (program S owner)
  pub short : length (program S owner) ≤ MAX_INSTRUCTIONS
  pub some : 0 < length (program S owner)

pub known_place : (S : System) (owner : Owner) (place : ℕ) → IsProper S → IsOwner S owner → place < length (program S owner)
    → KnownPlace S owner place
known_place S owner place h known below =
    let p = program S owner in
    let whole = and_split _ _ (proper_program S owner h known) in
    let first = and_split _ _ whole.0 in
    record {
      operands = all_at (is_proper_instruction S (is_routine owner) (length p)) p place (Instr.Plain Plain.Nop) below first.0;
      next = has_next p place below first.1;
      short = leb-true _ _ whole.1;
      some = some_instruction p first.1;
    }

-- a proper task's program has an instruction
pub some_program : (S : System) (owner : Owner) → IsProper S → IsOwner S owner → 0 < length (program S owner)
some_program S owner h known =
    let whole = and_split _ _ (proper_program S owner h known) in
    some_instruction (program S owner) (and_split _ _ whole.0).1
