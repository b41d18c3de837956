-- What is needed, as a table of a system's tasks, routines, resources and counters.
use Rattle.std.specs.Prelude.{ℕ, ◌==◌, ◌||◌, nat_le, Bool, true, false, Option, Some, None, List, slice_get, slice_index}
use Rattle.std.specs.Option.{option_map_or}
use Rattle.std.specs.Int.{bit_at}
use Rattle.osek_base.specs.declared.limits.TheConstants.{REGISTERS}
use Rattle.osek_base.specs.declared.ids.ResId.{ResId}
use Rattle.osek_base.specs.declared.ids.Owner.{Owner}
use Rattle.law_future.specs.Need.{Need}
use Rattle.search_needs.specs.declared.table.OwnerNeeds.{OwnerNeeds}
use Rattle.search_needs.specs.declared.table.Needs.{Needs}

-- whether a number is in a set of numbers below 64, a word
abbrev pub has : ℕ → ℕ → Bool
has word n = bit_at word n == 1

-- the indices that a register may have at a place: all, where the list has no such place, or there is no such register
abbrev pub allows : List (List ℕ) → ℕ → ℕ → ℕ → Bool
allows rows place r i = option_map_or (λ row. nat_le REGISTERS r || has (slice_index row r) i) (slice_get rows place) true

-- what stands in the table of a task or routine
abbrev pub entry : Needs → Owner → Option OwnerNeeds
entry needs (Owner.Task t) = slice_get needs.tasks.items t
entry needs (Owner.Routine i) = slice_get needs.routines.items i

abbrev pub need_of : Needs → Need
need_of needs =
    record {
      registers = λ who r. option_map_or (λ own. has own.registers r) (entry needs who) false;
      words = λ who i. option_map_or (λ own. has own.words i) (entry needs who) false;
      shared = has needs.shared;
      counters = has needs.counters;
      indices = λ who place r i. option_map_or (λ own. allows own.indices.items place r i) (entry needs who) true;
    }

-- what is needed of one task or routine, as a need of each, and the value of each counter
abbrev pub need_by : OwnerNeeds → ℕ → Need
need_by own shared =
    record {
      registers = λ who. has own.registers;
      words = λ who. has own.words;
      shared = has shared;
      counters = λ c. true;
      indices = λ who. allows own.indices.items;
    }

-- the declared resource of an operand
abbrev pub declared_in : Option ResId → Option ℕ
declared_in (Some (ResId.Declared r)) = Some r
declared_in (Some ResId.Scheduler) = None
declared_in None = None
