-- Value change dumps: the lines of a tick.
use Rattle.std.specs.Prelude.{ℕ, Bool, false, if◌then◌else◌, Option, Some, None, List, [], ◌∷◌, ◌++◌, codes, decimal}
use Rattle.std.specs.Fmt.{digits}
use Rattle.osek_base.specs.declared.ids.Owner.{Owner}
use Rattle.osek_base.specs.Names.{Names, name_at, task_name}
use Rattle.view_dumps.specs.Codes.{code}
use Rattle.view_dumps.specs.declared.variable.Variable.{Variable}

-- the time
abbrev pub time_line : ℕ → List ℕ
time_line t = codes "#" ++ decimal t ++ 10 ∷ []

-- the end of a line: the identifier code of its variable
abbrev pub line_end : Variable → List ℕ
line_end v = code v ++ 10 ∷ []

-- an event fires
abbrev pub event_line : Variable → List ℕ
event_line v = codes "1" ++ line_end v

-- a wire is high or low
abbrev pub wire_line : Variable → Bool → List ℕ
wire_line v is_high = (if is_high then codes "1" else codes "0") ++ line_end v

-- a number in binary, without leading zeros
abbrev pub binary : ℕ → List ℕ
binary n = digits 2 false n

-- a vector has that number
abbrev pub number_line : Variable → ℕ → List ℕ
number_line v n = codes "b" ++ binary n ++ codes " " ++ line_end v

-- a vector has that number, or is unknown
abbrev pub vector_line : Variable → Option ℕ → List ℕ
vector_line v None = codes "bx " ++ line_end v
vector_line v (Some n) = number_line v n

-- a string variable has that value
abbrev pub string_line : Variable → List ℕ → List ℕ
string_line v name = codes "s" ++ name ++ codes " " ++ line_end v

-- who executes, as a string
abbrev pub executor_name : Names → Option Owner → List ℕ
executor_name names None = codes "-"
executor_name names (Some (Owner.Task t)) = name_at names.tasks t
executor_name names (Some (Owner.Routine i)) = codes "ISR." ++ name_at names.routines i

-- who holds a resource, as a string
abbrev pub holder_name : Names → Option ℕ → List ℕ
holder_name names None = codes "-"
holder_name names (Some t) = task_name names t
