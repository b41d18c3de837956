-- Value change dumps: identifier codes, each of one or two printable characters of ASCII but the space.
use Rattle.std.specs.Prelude.{ℕ, ◌+◌, ◌-◌, ◌*◌, ◌/◌, ◌%◌, nat_lt, if◌then◌else◌, List, [], ◌∷◌}
use Rattle.osek_base.specs.declared.ids.ResId.{ResId}
use Rattle.view_dumps.specs.declared.variable.Variable.{Variable}

-- the number of a variable, by its kind and the number of its object: behind the executor three for each of 64 tasks, three for
-- each of 16 routines, one for each of 32 declared resources and RES_SCHEDULER, and one for each alarm
abbrev pub number_of : Variable → ℕ
number_of Variable.Executor = 0
number_of (Variable.State t) = 1 + 3 * t
number_of (Variable.Priority t) = 1 + 3 * t + 1
number_of (Variable.Jobs t) = 1 + 3 * t + 2
number_of (Variable.Pending i) = 193 + 3 * i
number_of (Variable.Active i) = 193 + 3 * i + 1
number_of (Variable.Lost i) = 193 + 3 * i + 2
number_of (Variable.Holder (ResId.Declared r)) = 241 + r
number_of (Variable.Holder ResId.Scheduler) = 273
number_of (Variable.Expiry a) = 274 + a

-- a number in digits to the base 94, which begin with '!', the lowest digit first; a second one counts from 1
abbrev pub code_of : ℕ → List ℕ
code_of n = if nat_lt n 94 then (33 + n) ∷ [] else (33 + n % 94) ∷ (33 + (n / 94 - 1)) ∷ []

-- the identifier code of a variable
abbrev pub code : Variable → List ℕ
code v = code_of (number_of v)
