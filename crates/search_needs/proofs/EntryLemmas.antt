-- From the entries of a table to the need that it stands for.
use Rattle.std.proofs.Common.{ℕ, zero, suc, ◌≡◌, ◌<◌, ◌≤◌, ◌+◌, true, false, IsTrue, List, [], ◌∷◌, length, slice_get, refl, sym, ◌∙◌, ap, subst, arith, inl, inr, ◌⊎◌, not-suc-le-zero, le_of_suc-le-suc, true≢false, get_or}
use Rattle.std.specs.Prelude.{Option, Some, None, slice_index, slice_index_or, nat_le, ◌||◌}
use Rattle.std.specs.Option.{option_map_or}
use Rattle.std.proofs.lemmas.Bool.{cases_lt}
use Rattle.std.proofs.lemmas.Option.{slice_get_past, slice_get_within, slice_get_cases, none-some}
use Rattle.osek_base.specs.declared.limits.TheConstants.{REGISTERS, WINDOW_WORDS}
use Rattle.osek_base.specs.declared.ids.Owner.{Owner}
use Rattle.osek_base.specs.declared.instr.Plain.{Plain}
use Rattle.osek_base.specs.declared.instr.Instr.{Instr}
use Rattle.osek_base.specs.System.{System, Task, Routine, no_task, no_routine, program, instruction_in, instruction_at}
use Rattle.osek_base.specs.Separable.{IsOwner}
use Rattle.law_future.specs.Need.{HaveAsked, Need, Respects, Suffices}
use Rattle.search_needs.specs.declared.table.OwnerNeeds.{OwnerNeeds}
use Rattle.search_needs.specs.declared.table.Needs.{Needs}
use Rattle.search_needs.specs.Table.{has, allows, entry, need_of, need_by}
use Rattle.search_needs.specs.Entries.{PlacesRespect, EntryRespects, TasksRespect, RoutinesRespect}
use Rattle.search_needs.specs.Within.{IsWithin}
use Rattle.search_needs.proofs.PassLemmas.{beyond_all}

-- one number more
pub below_more : (P : ℕ → Type 0) (n : ℕ) → ((k : ℕ) → k < n → P k) → P n → (k : ℕ) → k < n + 1 → P k
below_more P n each last k low = go (cases_lt k n)
  where
    go : (k < n) ⊎ (n ≤ k) → P k
    go (inl below) = each k below
    go (inr past) = subst P (omega (arith, low, past)) last

-- the first eight registers are all
pub zeros_stand : (rows : List (List ℕ)) → ((r : ℕ) → r < REGISTERS → IsTrue (allows rows 0 r 0)) → (r : ℕ) → IsTrue (allows rows 0 r 0)
zeros_stand rows each r = go (cases_lt r REGISTERS)
  where
    go : (r < REGISTERS) ⊎ (REGISTERS ≤ r) → IsTrue (allows rows 0 r 0)
    go (inl low) = each r low
    go (inr past) = beyond_all rows 0 r 0 past

-- beyond the end of a list
pub past_end : {X : Type 0} (xs : List X) (i : ℕ) (d : X) → length xs ≤ i → slice_index_or xs i d ≡ d
past_end [] i d h = refl
past_end (x ∷ xs) zero d h = absurd (not-suc-le-zero h)
past_end (x ∷ xs) (suc i) d h = past_end xs i d (le_of_suc-le-suc h)

-- an element within a list, whatever stands for one beyond
pub element : {X : Type 0} (xs : List X) (i : ℕ) (x d : X) → i < length xs → get_or xs i x ≡ slice_index_or xs i d
element [] i x d low = absurd (not-suc-le-zero low)
element (y ∷ ys) zero x d low = refl
element (y ∷ ys) (suc i) x d low = element ys i x d (le_of_suc-le-suc low)

-- beyond the last place each register may have each index
pub past_all : (rows : List (List ℕ)) (place r i : ℕ) → length rows ≤ place → IsTrue (allows rows place r i)
past_all rows place r i past = ap (λ row. option_map_or (λ words. nat_le REGISTERS r || has (slice_index words r) i) row true) (slice_get_past rows place past)

-- a program is respected beyond its end too
pub each_place : (own : OwnerNeeds) (shared : ℕ) (instrs : List Instr) → length instrs ≡ length own.indices.items
    → PlacesRespect own shared instrs (length instrs)
    → (who : Owner) (place : ℕ) → Respects (need_by own shared) who place (instruction_in instrs place)
each_place own shared instrs same each who place = go (cases_lt place (length instrs))
  where
    go : (place < length instrs) ⊎ (length instrs ≤ place) → Respects (need_by own shared) who place (instruction_in instrs place)
    go (inl low) = each who place low
    go (inr past) =
        subst (λ what. Respects (need_by own shared) who place what) (sym (past_end instrs place (Instr.Plain Plain.Nop) past))
        (tt, λ r i h. past_all own.indices.items (place + 1) r i (omega (arith, past, same)))

-- ---- from entries

-- a need of one entry, of each who
abbrev as_entry : Needs → Owner → Option OwnerNeeds → Need
as_entry needs who e =
    record {
      registers = λ x r. option_map_or (λ o. has o.registers r) e false;
      words = λ x i. option_map_or (λ o. has o.words i) e false;
      shared = has needs.shared;
      counters = has needs.counters;
      indices = λ x p r i. option_map_or (λ o. allows o.indices.items p r i) e true;
    }

by_entry : (needs : Needs) (who : Owner) (own : OwnerNeeds) → entry needs who ≡ Some own → (place : ℕ) (what : Instr)
    → Respects (need_by own needs.shared) who place what → Respects (need_of needs) who place what
by_entry needs who own is place what h = back what (subst (λ e. Respects (as_entry needs who e) who place what) (sym is) (at_once what h))
  where
    at_once : (instr : Instr) → Respects (need_by own needs.shared) who place instr → Respects (as_entry needs who (Some own)) who place instr
    at_once (Instr.Plain p) k = k
    at_once (Instr.Service call) k = k
    at_once (Instr.Control control) k = k

    back : (instr : Instr) → Respects (as_entry needs who (entry needs who)) who place instr → Respects (need_of needs) who place instr
    back (Instr.Plain p) k = k
    back (Instr.Service call) k = k
    back (Instr.Control control) k = k

module _ (S : System) (needs : Needs) (tasks_long : length needs.tasks.items ≡ length S.tasks) (routines_long : length needs.routines.items ≡ length S.routines) where
  no_program : (who : Owner) → entry needs who ≡ None → program S who ≡ []
  no_program (Owner.Task t) none = go (slice_get_cases needs.tasks.items t).1
    where
      go : ((x : OwnerNeeds) × (t < length needs.tasks.items) × (slice_get needs.tasks.items t ≡ Some x) × (get_or needs.tasks.items t x ≡ x))
          ⊎ ((length needs.tasks.items ≤ t) × (slice_get needs.tasks.items t ≡ None)) → program S (Owner.Task t) ≡ []
      go (inl there) = absurd (none-some there.0 (sym none ∙ there.2))
      go (inr past) = ap (λ (a : Task). a.program) (past_end S.tasks t no_task (omega (arith, past.0, tasks_long)))
  no_program (Owner.Routine n) none = go (slice_get_cases needs.routines.items n).1
    where
      go : ((x : OwnerNeeds) × (n < length needs.routines.items) × (slice_get needs.routines.items n ≡ Some x) × (get_or needs.routines.items n x ≡ x))
          ⊎ ((length needs.routines.items ≤ n) × (slice_get needs.routines.items n ≡ None)) → program S (Owner.Routine n) ≡ []
      go (inl there) = absurd (none-some there.0 (sym none ∙ there.2))
      go (inr past) = ap (λ (a : Routine). a.program) (past_end S.routines n no_routine (omega (arith, past.0, routines_long)))

  module _ (tasks : TasksRespect S needs (length S.tasks)) (routines : RoutinesRespect S needs (length S.routines)) where
    in_table : (who : Owner) (own : OwnerNeeds) → entry needs who ≡ Some own
        → IsOwner S who × EntryRespects own needs.shared (program S who)
    in_table (Owner.Task t) own is =
        let low : t < length S.tasks = omega (arith, slice_get_within needs.tasks.items t own is, tasks_long) in
        (low, tasks t low own is)
    in_table (Owner.Routine n) own is =
        let low : n < length S.routines = omega (arith, slice_get_within needs.routines.items n own is, routines_long) in
        (low, routines n low own is)

    zero_there : (who : Owner) (r : ℕ) (e : Option OwnerNeeds) → entry needs who ≡ e → IsTrue ((need_of needs).indices who 0 r 0)
    zero_there who r None is = ap (λ e. (as_entry needs who e).indices who 0 r 0) is
    zero_there who r (Some own) is =
        ap (λ e. (as_entry needs who e).indices who 0 r 0) is ∙ (in_table who own is).1.zero r

    beyond_there : (who : Owner) (place r : ℕ) (e : Option OwnerNeeds) → entry needs who ≡ e → REGISTERS ≤ r
        → IsTrue ((need_of needs).indices who place r 0)
    beyond_there who place r None is past = ap (λ e. (as_entry needs who e).indices who place r 0) is
    beyond_there who place r (Some own) is past =
        ap (λ e. (as_entry needs who e).indices who place r 0) is ∙ beyond_all own.indices.items place r 0 past

    each_there : (who : Owner) (place : ℕ) (e : Option OwnerNeeds) → entry needs who ≡ e
        → Respects (need_of needs) who place (instruction_at S who place)
    each_there who place None is =
        subst (λ code. Respects (need_of needs) who place (instruction_in code place)) (sym (no_program who is))
        (tt, λ r i h. ap (λ e. (as_entry needs who e).indices who (place + 1) r i) is)
    each_there who place (Some own) is =
        by_entry needs who own is place (instruction_at S who place) ((in_table who own is).1.each who place)

    pub closed_from : HaveAsked S (has needs.counters) → Suffices S (need_of needs)
    closed_from asked = record {
      zero = λ who r. zero_there who r (entry needs who) refl;
      beyond = λ who place r past. beyond_there who place r (entry needs who) refl past;
      each = λ who place. each_there who place (entry needs who) refl;
      counters = asked;
    }

    registers_there : (who : Owner) (r : ℕ) (e : Option OwnerNeeds) → entry needs who ≡ e → IsTrue ((need_of needs).registers who r)
        → IsOwner S who × (r < REGISTERS)
    registers_there who r None is h = absurd (true≢false (sym h ∙ ap (λ e. (as_entry needs who e).registers who r) is))
    registers_there who r (Some own) is h =
        ((in_table who own is).0, (in_table who own is).1.registers r (sym (ap (λ e. (as_entry needs who e).registers who r) is) ∙ h))

    words_there : (who : Owner) (i : ℕ) (e : Option OwnerNeeds) → entry needs who ≡ e → IsTrue ((need_of needs).words who i)
        → IsOwner S who × (i < WINDOW_WORDS)
    words_there who i None is h = absurd (true≢false (sym h ∙ ap (λ e. (as_entry needs who e).words who i) is))
    words_there who i (Some own) is h =
        ((in_table who own is).0, (in_table who own is).1.words i (sym (ap (λ e. (as_entry needs who e).words who i) is) ∙ h))

    pub within_from : ((r : ℕ) → IsTrue (has needs.shared r) → r < length S.resources) → IsWithin S (need_of needs)
    within_from declared = record {
      registers = λ who r h. registers_there who r (entry needs who) refl h;
      words = λ who i h. words_there who i (entry needs who) refl h;
      shared = declared;
    }
