-- Where all is needed, each instruction of a proper system is respected.
use Rattle.std.proofs.Common.{ℕ, zero, ◌≡◌, ◌<◌, ◌≤◌, ◌+◌, ◌&&◌, nat_lt, true, false, Bool, IsTrue, length, refl, sym, ◌∙◌, ap, subst, inl, inr, ◌⊎◌}
use Rattle.std.specs.Prelude.{Some}
use Rattle.std.proofs.lemmas.Bool.{cases_lt, and_parts, and_from, ltb-true, lt-ltb}
use Rattle.osek_base.specs.declared.limits.TheConstants.{REGISTERS, WINDOW_WORDS}
use Rattle.osek_base.specs.declared.ids.ResId.{ResId}
use Rattle.osek_base.specs.declared.ids.Owner.{Owner}
use Rattle.osek_base.specs.declared.instr.Plain.{Plain}
use Rattle.osek_base.specs.declared.instr.Service.{Service}
use Rattle.osek_base.specs.declared.instr.Instr.{Instr}
use Rattle.osek_base.specs.Types.{PlainInstr, ServiceCall}
use Rattle.osek_base.specs.System.{System, program, instruction_in}
use Rattle.osek_base.specs.Separable.{IsOwner}
use Rattle.osek_base.specs.Proper.{IsProper, is_proper_plain, is_proper_service, is_proper_instruction, is_register, is_resource_operand, is_alarm_operand}
use Rattle.osek_base.proofs.PlaceLemmas.{known_place}
use Rattle.law_future.specs.Need.{implies, DataFollows, IndicesFollow, Passes, PassesBut, MayHoldAll, Respects, respects_service}
use Rattle.search_needs.specs.declared.table.OwnerNeeds.{OwnerNeeds}
use Rattle.search_needs.specs.declared.table.Needs.{Needs}
use Rattle.search_needs.specs.Table.{has, allows, need_by}
use Rattle.search_needs.specs.Entries.{EntryRespects, TasksRespect, RoutinesRespect}
use Rattle.search_needs.specs.Everything.{IsAll, AreAll}
use Rattle.search_needs.proofs.EntryLemmas.{past_end}

implies_so : (a b : Bool) → b ≡ true → implies a b ≡ true
implies_so true b h = h
implies_so false b h = refl

module _ (S : System) (own : OwnerNeeds) (shared : ℕ) (all : IsAll own) (declared : (r : ℕ) → has shared r ≡ nat_lt r (length S.resources)) where
  register : (r : ℕ) → IsTrue (is_register r) → IsTrue (has own.registers r)
  register r h = all.registers r ∙ h

  registers : (a b : ℕ) → IsTrue (is_register a) → IsTrue (is_register b) → IsTrue (has own.registers a && has own.registers b)
  registers a b h k = and_from (has own.registers a) (has own.registers b) (register a h) (register b k)

  word : (i : ℕ) → i < WINDOW_WORDS → IsTrue (has own.words i)
  word i low = all.words i ∙ lt-ltb i WINDOW_WORDS low

  index : (place r i : ℕ) → IsTrue (allows own.indices.items place r i)
  index place r i = ap (λ rows. allows rows place r i) all.indices

  followed : (place size : ℕ) (p : PlainInstr) → IsTrue (is_proper_plain size p)
      → DataFollows (has own.registers) (has own.words) (allows own.indices.items place) p
  followed place size Plain.Nop h = tt
  followed place size (Plain.Li d n) h = tt
  followed place size (Plain.Mov d a) h =
      implies_so (has own.registers d) (has own.registers a) (register a (and_parts (is_register d) (is_register a) h).1)
  followed place size (Plain.Compute operation d a b) h =
      let front = and_parts (is_register d && is_register a) (is_register b) h in
      implies_so (has own.registers d) (has own.registers a && has own.registers b)
      (registers a b (and_parts (is_register d) (is_register a) front.0).1 front.1)
  followed place size (Plain.Ld d a) h =
      λ needed. (register a (and_parts (is_register d) (is_register a) h).1, λ i low may. word i low)
  followed place size (Plain.St a b) h =
      let both = and_parts (is_register a) (is_register b) h in
      λ i low needed. (register a both.0, λ may. register b both.1)
  followed place size (Plain.Jmp to) h = tt
  followed place size (Plain.JumpIf test a b to) h =
      let front = and_parts (is_register a && is_register b) (nat_lt to size) h in
      let both = and_parts (is_register a) (is_register b) front.0 in
      registers a b both.0 both.1

  passes : (place to : ℕ) → Passes (allows own.indices.items place) (allows own.indices.items to)
  passes place to r i h = index to r i

  passes_but : (d place to : ℕ) → PassesBut d (allows own.indices.items place) (allows own.indices.items to)
  passes_but d place to r i apart h = index to r i

  may_hold : (place d : ℕ) → MayHoldAll (allows own.indices.items place) d
  may_hold place d i low = index place d i

  indices : (place : ℕ) (p : PlainInstr) → IndicesFollow (allows own.indices.items) place p
  indices place Plain.Nop = passes place (place + 1)
  indices place (Plain.Li d n) = (passes_but d place (place + 1), index (place + 1) d _)
  indices place (Plain.Mov d a) = (passes_but d place (place + 1), λ i h. index (place + 1) d i)
  indices place (Plain.Compute operation d a b) = (passes_but d place (place + 1), may_hold (place + 1) d)
  indices place (Plain.Ld d a) = (passes_but d place (place + 1), may_hold (place + 1) d)
  indices place (Plain.St a b) = passes place (place + 1)
  indices place (Plain.Jmp to) = passes place to
  indices place (Plain.JumpIf test a b to) = (passes place (place + 1), passes place to)

  resource : (r : ℕ) → IsTrue (is_resource_operand S (Some (ResId.Declared r))) → IsTrue (has shared r)
  resource r h = declared r ∙ (and_parts (nat_lt r (length S.resources)) _ h).0

  service : (call : ServiceCall) → IsTrue (is_proper_service S call) → IsTrue (respects_service (has own.registers) (has shared) call)
  service (Service.SetRelAlarm a x y) h =
      let front = and_parts (is_alarm_operand S a && is_register x) (is_register y) h in
      registers x y (and_parts (is_alarm_operand S a) (is_register x) front.0).1 front.1
  service (Service.SetAbsAlarm a x y) h =
      let front = and_parts (is_alarm_operand S a && is_register x) (is_register y) h in
      registers x y (and_parts (is_alarm_operand S a) (is_register x) front.0).1 front.1
  service (Service.LoadShared (Some (ResId.Declared r)) x) h =
      let both = and_parts (is_resource_operand S (Some (ResId.Declared r))) (is_register x) h in
      implies_so (has own.registers 1) (has own.registers x && has shared r)
      (and_from (has own.registers x) (has shared r) (register x both.1) (resource r both.0))
  service (Service.StoreShared (Some (ResId.Declared r)) x y) h =
      let front = and_parts (is_resource_operand S (Some (ResId.Declared r)) && is_register x) (is_register y) h in
      implies_so (has shared r) (has own.registers x && has own.registers y)
      (registers x y (and_parts (is_resource_operand S (Some (ResId.Declared r))) (is_register x) front.0).1 front.1)
  service call h = refl

  respects_all : (who : Owner) (in_routine : Bool) (size place : ℕ) (what : Instr) → IsTrue (is_proper_instruction S in_routine size what)
      → Respects (need_by own shared) who place what
  respects_all who in_routine size place (Instr.Plain p) h = (followed place size p h, indices place p)
  respects_all who in_routine size place (Instr.Service call) h = (service call h, passes place (place + 1), λ r low. may_hold (place + 1) r)
  respects_all who in_routine size place (Instr.Control control) h = passes place (place + 1)

  pub entry_all : (owner : Owner) → IsProper S → IsOwner S owner → EntryRespects own shared (program S owner)
  entry_all owner proper known = record {
    zero = λ r. index 0 r 0;
    each = λ who place. at who place (cases_lt place (length (program S owner)));
    registers = λ r h. ltb-true r REGISTERS (sym (all.registers r) ∙ h);
    words = λ i h. ltb-true i WINDOW_WORDS (sym (all.words i) ∙ h);
  }
    where
      at : (who : Owner) (place : ℕ) → (place < length (program S owner)) ⊎ (length (program S owner) ≤ place)
          → Respects (need_by own shared) who place (instruction_in (program S owner) place)
      at who place (inl low) =
          respects_all who _ _ place (instruction_in (program S owner) place) (known_place S owner place proper known low).operands
      at who place (inr past) =
          subst (λ what. Respects (need_by own shared) who place what) (sym (past_end (program S owner) place (Instr.Plain Plain.Nop) past))
          (respects_all who false 0 place (Instr.Plain Plain.Nop) refl)

pub tasks_all : (S : System) (needs : Needs) → IsProper S → AreAll needs.tasks.items
    → ((r : ℕ) → has needs.shared r ≡ nat_lt r (length S.resources)) → TasksRespect S needs (length S.tasks)
tasks_all S needs proper all declared t low own is = entry_all S own needs.shared (all t own is) declared (Owner.Task t) proper low

pub routines_all : (S : System) (needs : Needs) → IsProper S → AreAll needs.routines.items
    → ((r : ℕ) → has needs.shared r ≡ nat_lt r (length S.resources)) → RoutinesRespect S needs (length S.routines)
routines_all S needs proper all declared i low own is = entry_all S own needs.shared (all i own is) declared (Owner.Routine i) proper low
