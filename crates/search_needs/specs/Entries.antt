-- What makes a table closed, entry by entry.
use Rattle.std.specs.Prelude.{ℕ, Bool, ◌<◌, ◌≡◌, IsTrue, Some, List, slice_get}
use Rattle.osek_base.specs.declared.limits.TheConstants.{WINDOW_WORDS, REGISTERS}
use Rattle.osek_base.specs.declared.ids.Owner.{Owner}
use Rattle.osek_base.specs.declared.instr.Instr.{Instr}
use Rattle.osek_base.specs.Types.{PlainInstr, ServiceCall}
use Rattle.osek_base.specs.System.{System, program, instruction_in}
use Rattle.law_future.specs.Need.{DataFollows, respects_service, Respects}
use Rattle.search_needs.specs.declared.table.OwnerNeeds.{OwnerNeeds}
use Rattle.search_needs.specs.declared.table.Needs.{Needs}
use Rattle.search_needs.specs.Table.{has, allows, need_by}

-- a plain instruction's data follows at a place, and a service's
abbrev pub PlainFollows : OwnerNeeds → ℕ → PlainInstr → Type 0
PlainFollows own place what = DataFollows (has own.registers) (has own.words) (allows own.indices.items place) what

abbrev pub service_follows : OwnerNeeds → ℕ → ServiceCall → Bool
service_follows own shared call = respects_service (has own.registers) (has shared) call

-- the first n instructions of a program are respected
abbrev pub PlacesRespect : OwnerNeeds → ℕ → List Instr → ℕ → Type 0
PlacesRespect own shared instrs n =
    (who : Owner) (place : ℕ) → place < n → Respects (need_by own shared) who place (instruction_in instrs place)

-- what is needed of a task or routine is closed under its program, and none but its registers and words
pub record EntryRespects (own : OwnerNeeds) (shared : ℕ) (instrs : List Instr) : Type 0 where
  pub zero : (r : ℕ) → IsTrue (allows own.indices.items 0 r 0)
  pub each : (who : Owner) (place : ℕ) → Respects (need_by own shared) who place (instruction_in instrs place)
  pub registers : (r : ℕ) → IsTrue (has own.registers r) → r < REGISTERS
  pub words : (i : ℕ) → IsTrue (has own.words i) → i < WINDOW_WORDS

-- the entry of a task is, and the entry of a routine
abbrev pub TaskRespects : System → Needs → ℕ → Type 0
TaskRespects S needs t =
    (own : OwnerNeeds) → slice_get needs.tasks.items t ≡ Some own
    → EntryRespects own needs.shared (program S (Owner.Task t))

abbrev pub RoutineRespects : System → Needs → ℕ → Type 0
RoutineRespects S needs i =
    (own : OwnerNeeds) → slice_get needs.routines.items i ≡ Some own
    → EntryRespects own needs.shared (program S (Owner.Routine i))

-- so are those of the first n
abbrev pub TasksRespect : System → Needs → ℕ → Type 0
TasksRespect S needs n = (t : ℕ) → t < n → TaskRespects S needs t

abbrev pub RoutinesRespect : System → Needs → ℕ → Type 0
RoutinesRespect S needs n = (i : ℕ) → i < n → RoutineRespects S needs i
