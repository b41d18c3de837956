-- OIL: names of objects. The names that a system keeps.
use Rattle.std.specs.Prelude.{ℕ, List, [], map, slice_get}
use Rattle.std.specs.Option.{option_map_or}
use Rattle.osek_base.specs.Names.{Names}
use Rattle.osek_base.specs.Numbering.{task_order}
use Rattle.oil_reader.specs.Configuration.{Configuration, TaskRecord}

-- the name of the task at a declared place
abbrev pub task_name : List TaskRecord → ℕ → List ℕ
task_name tasks place = option_map_or (λ t. t.name) (slice_get tasks place) []

-- the declared places of tasks in the order of their numbers: by falling priority, ties in declaration order
abbrev pub order_of : List TaskRecord → List ℕ
order_of tasks = task_order (map (λ t. t.priority) tasks)

-- the names that a system of a file keeps
abbrev pub names_of : Configuration → Names
names_of f = record {
  tasks = map (task_name f.tasks) (order_of f.tasks);
  routines = map (λ o. o.name) f.routines;
  resources = map (λ o. o.name) f.resources;
  events = map (λ o. o.name) f.events;
  alarms = map (λ o. o.name) f.alarms;
  modes = f.app_modes;
}
