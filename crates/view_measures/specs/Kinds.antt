-- The kinds of things of which figures are told: their words and names, and how many there are.
use Rattle.std.specs.Prelude.{ℕ, cond, Option, Some, None, List, [], ◌∷◌, ◌++◌, length, codes}
use Rattle.std.specs.Option.{option_to_list}
use Rattle.osek_base.specs.System.{System}
use Rattle.osek_base.specs.Names.{Names, name_at}
use Rattle.view_figures.specs.FigureSums.{held_count}
use Rattle.view_measures.specs.declared.kind.Kind.{Kind}

-- the kinds, in the order in which they stand
abbrev pub kinds : List Kind
kinds = Kind.Task ∷ Kind.Routine ∷ Kind.Resource ∷ Kind.Alarm ∷ Kind.System ∷ []

abbrev pub kind_word : Kind → List ℕ
kind_word Kind.Task = codes "task"
kind_word Kind.Routine = codes "routine"
kind_word Kind.Resource = codes "resource"
kind_word Kind.Alarm = codes "alarm"
kind_word Kind.System = codes "system"

-- how many things of a kind a system has
abbrev pub count_of : System → Kind → ℕ
count_of S Kind.Task = length S.tasks
count_of S Kind.Routine = length S.routines
count_of S Kind.Resource = held_count S
count_of S Kind.Alarm = length S.alarms
count_of S Kind.System = 1

-- ---- names

-- the names of the declared things of a kind
abbrev pub declared_names : Names → Kind → List (List ℕ)
declared_names names Kind.Task = names.tasks
declared_names names Kind.Routine = names.routines
declared_names names Kind.Resource = names.resources
declared_names names Kind.Alarm = names.alarms
declared_names names Kind.System = []

-- what stands behind them: RES_SCHEDULER, where it is used, and of the system what may end a run
abbrev pub last_name : System → Kind → Option (List ℕ)
last_name S Kind.Task = None
last_name S Kind.Routine = None
last_name S Kind.Resource = cond S.use_res_scheduler (Some (codes "RES_SCHEDULER")) None
last_name S Kind.Alarm = None
last_name S Kind.System = Some (codes "ShutdownOS")

-- the names of the things of a kind, each at its number, and the name of one
abbrev pub names_of : System → Kind → List (List ℕ)
names_of S kind = declared_names S.names kind ++ option_to_list (last_name S kind)

abbrev pub name_of : System → Kind → ℕ → List ℕ
name_of S kind n = name_at (names_of S kind) n
