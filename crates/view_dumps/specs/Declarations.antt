-- Value change dumps: the declarations, which stand before the first tick.
use Rattle.std.specs.Prelude.{ℕ, zero, suc, if◌then◌else◌, List, [], ◌++◌, codes, length}
use Rattle.osek_base.specs.declared.ids.ResId.{ResId}
use Rattle.osek_base.specs.Names.{Names, alarm_name, name_at, resource_name, task_name}
use Rattle.osek_base.specs.System.{System}
use Rattle.view_dumps.specs.Codes.{code}
use Rattle.view_dumps.specs.declared.variable.Variable.{Variable}

-- a variable: its type and width in bits, its identifier code and its name
unfoldable pub var_line : List ℕ → Variable → List ℕ → List ℕ
var_line kind v name = codes "$var " ++ kind ++ codes " " ++ code v ++ codes " " ++ name ++ codes " $end\n"

-- the beginning and the end of a scope
unfoldable pub scope_line : List ℕ → List ℕ
scope_line name = codes "$scope module " ++ name ++ codes " $end\n"

unfoldable pub scope_end : List ℕ
scope_end = codes "$upscope $end\n"

-- what stands in a scope
abbrev pub scope : List ℕ → List ℕ → List ℕ
scope name inner = scope_line name ++ inner ++ scope_end

-- the texts of the numbers below n
abbrev pub each_below : (ℕ → List ℕ) → ℕ → List ℕ
each_below text zero = []
each_below text (suc n) = each_below text n ++ text n

unfoldable pub task_scope : Names → ℕ → List ℕ
task_scope names t =
    scope (task_name names t)
    (var_line (codes "wire 2") (Variable.State t) (codes "state")
    ++ var_line (codes "wire 6") (Variable.Priority t) (codes "priority")
    ++ var_line (codes "wire 4") (Variable.Jobs t) (codes "jobs"))

unfoldable pub routine_scope : Names → ℕ → List ℕ
routine_scope names i =
    scope (name_at names.routines i)
    (var_line (codes "wire 1") (Variable.Pending i) (codes "pending")
    ++ var_line (codes "wire 1") (Variable.Active i) (codes "active")
    ++ var_line (codes "event 1") (Variable.Lost i) (codes "lost"))

unfoldable pub resource_line : Names → ResId → List ℕ
resource_line names r = var_line (codes "string 1") (Variable.Holder r) (resource_name names r)

unfoldable pub alarm_line : Names → ℕ → List ℕ
alarm_line names a = var_line (codes "event 1") (Variable.Expiry a) (alarm_name names a)

unfoldable pub tasks_scope : System → List ℕ
tasks_scope S = scope (codes "tasks") (each_below (task_scope S.names) (length S.tasks))

unfoldable pub routines_scope : System → List ℕ
routines_scope S = scope (codes "routines") (each_below (routine_scope S.names) (length S.routines))

-- RES_SCHEDULER stands last, where the system has it
unfoldable pub scheduler_line : System → List ℕ
scheduler_line S = if S.use_res_scheduler then resource_line S.names ResId.Scheduler else []

unfoldable pub resources_scope : System → List ℕ
resources_scope S = scope (codes "resources") (each_below (λ r. resource_line S.names (ResId.Declared r)) (length S.resources) ++ scheduler_line S)

unfoldable pub alarms_scope : System → List ℕ
alarms_scope S = scope (codes "alarms") (each_below (alarm_line S.names) (length S.alarms))

unfoldable pub header : List ℕ
header = codes "$comment One unit of time is one tick. $end\n$version Paddlelychee $end\n$timescale 1 us $end\n"

unfoldable pub trailer : List ℕ
trailer = codes "$enddefinitions $end\n"

unfoldable pub objects : System → List ℕ
objects S = tasks_scope S ++ routines_scope S ++ resources_scope S ++ alarms_scope S

unfoldable pub system_scope : System → List ℕ
system_scope S = scope (codes "system") (var_line (codes "string 1") Variable.Executor (codes "executor") ++ objects S)

unfoldable pub declarations : System → List ℕ
declarations S = header ++ system_scope S ++ trailer
