-- Short words for the worked runs: instructions by their mnemonics, objects with usual attributes, and what a run is.
use Rattle.std.specs.Prelude.{ℕ, ◌≡◌, true, false, IsTrue, List, [], ◌∷◌, ◌++◌, Option, Some, None, length, codes}
use Rattle.std.specs.List.{flat_map}
use Rattle.osek_base.specs.declared.ids.ResId.{ResId}
use Rattle.osek_base.specs.declared.instr.Operation.{Operation}
use Rattle.osek_base.specs.declared.instr.Comparison.{Comparison}
use Rattle.osek_base.specs.declared.instr.Plain.{Plain}
use Rattle.osek_base.specs.declared.instr.Service.{Service}
use Rattle.osek_base.specs.declared.instr.Control.{Control}
use Rattle.osek_base.specs.declared.instr.Instr.{Instr}
use Rattle.osek_base.specs.declared.task.Schedule.{Schedule}
use Rattle.osek_base.specs.declared.task.Property.{Property}
use Rattle.osek_base.specs.declared.task.Counter.{Counter}
use Rattle.osek_base.specs.declared.task.Action.{Action}
use Rattle.osek_base.specs.declared.task.Hooks.{Hooks}
use Rattle.osek_base.specs.Names.{Names}
use Rattle.osek_base.specs.System.{System, Task, Alarm}
use Rattle.osek_base.specs.Proper.{IsProper}
use Rattle.osek_base.specs.State.{JobId}
use Rattle.osek_base.specs.declared.arrivals.Arrival.{Arrival}
use Rattle.osek_base.specs.Trace.{boot, run}
use Rattle.osek_base.specs.Text.{lines}
use Rattle.osek_base.specs.BlockingText.{blocking_lines}
use Rattle.osek_base.specs.Blocker.{is_ready_from, blockers}

-- ---- instructions

abbrev pub nop : Instr
nop = Instr.Plain Plain.Nop

abbrev pub li : ℕ → ℕ → Instr
li d n = Instr.Plain (Plain.Li d n)

abbrev pub compute : Operation → ℕ → ℕ → ℕ → Instr
compute operation d a b = Instr.Plain (Plain.Compute operation d a b)

abbrev pub ld : ℕ → ℕ → Instr
ld d a = Instr.Plain (Plain.Ld d a)

abbrev pub st : ℕ → ℕ → Instr
st a b = Instr.Plain (Plain.St a b)

abbrev pub jmp : ℕ → Instr
jmp to = Instr.Plain (Plain.Jmp to)

abbrev pub jump_if : Comparison → ℕ → ℕ → ℕ → Instr
jump_if test a b to = Instr.Plain (Plain.JumpIf test a b to)

abbrev pub act : Option ℕ → Instr
act t = Instr.Service (Service.ActivateTask t)

abbrev pub term : Instr
term = Instr.Service Service.TerminateTask

abbrev pub chain : Option ℕ → Instr
chain t = Instr.Service (Service.ChainTask t)

abbrev pub sched : Instr
sched = Instr.Service Service.Schedule

abbrev pub gtid : Instr
gtid = Instr.Service Service.GetTaskId

abbrev pub gtst : Option ℕ → Instr
gtst t = Instr.Service (Service.GetTaskState t)

abbrev pub getr : Option ResId → Instr
getr r = Instr.Service (Service.GetResource r)

abbrev pub relr : Option ResId → Instr
relr r = Instr.Service (Service.ReleaseResource r)

abbrev pub ldr : Option ResId → ℕ → Instr
ldr r x = Instr.Service (Service.LoadShared r x)

abbrev pub str : Option ResId → ℕ → ℕ → Instr
str r x y = Instr.Service (Service.StoreShared r x y)

abbrev pub sete : Option ℕ → ℕ → Instr
sete t mask = Instr.Service (Service.SetEvent t mask)

abbrev pub clre : ℕ → Instr
clre mask = Instr.Service (Service.ClearEvent mask)

abbrev pub gete : Option ℕ → Instr
gete t = Instr.Service (Service.GetEvent t)

abbrev pub wait : ℕ → Instr
wait mask = Instr.Service (Service.WaitEvent mask)

abbrev pub srel : Option ℕ → ℕ → ℕ → Instr
srel a increment cycle = Instr.Service (Service.SetRelAlarm a increment cycle)

abbrev pub sabs : Option ℕ → ℕ → ℕ → Instr
sabs a start cycle = Instr.Service (Service.SetAbsAlarm a start cycle)

abbrev pub cana : Option ℕ → Instr
cana a = Instr.Service (Service.CancelAlarm a)

abbrev pub galm : Option ℕ → Instr
galm a = Instr.Service (Service.GetAlarm a)

abbrev pub sai : Instr
sai = Instr.Control Control.SuspendAllInterrupts

abbrev pub rai : Instr
rai = Instr.Control Control.ResumeAllInterrupts

abbrev pub soi : Instr
soi = Instr.Control Control.SuspendOsInterrupts

abbrev pub roi : Instr
roi = Instr.Control Control.ResumeOsInterrupts

abbrev pub shut : ℕ → Instr
shut n = Instr.Control (Control.ShutdownOs n)

abbrev pub reti : Instr
reti = Instr.Control Control.ReturnFromInterrupt

-- ---- objects

-- a task of that priority: FULL, one activation, and no more than its program, behind which it jumps on the spot
abbrev pub task : ℕ → List Instr → Task
task priority program =
    record {
      priority = priority;
      schedule = Schedule.Full;
      activation = 1;
      autostart = [];
      resources = [];
      events = [];
      program = program ++ jmp (length program) ∷ [];
    }

abbrev pub autostarted : Task → Task
autostarted a = record a { autostart = 0 ∷ [] }

abbrev pub with_activation : ℕ → Task → Task
with_activation n a = record a { activation = n }

abbrev pub non : Task → Task
non a = record a { schedule = Schedule.Non }

abbrev pub listing_resources : List ℕ → Task → Task
listing_resources rs a = record a { resources = rs }

abbrev pub listing_events : List ℕ → Task → Task
listing_events masks a = record a { events = masks }

-- an alarm on the first counter that activates a task; one that starts by itself
abbrev pub activating : ℕ → Alarm
activating t = record { counter = 0; action = Action.ActivateTask t; autostart = None }

abbrev pub activating_from : ℕ → ℕ → ℕ → Alarm
activating_from time cycle t =
    record { counter = 0; action = Action.ActivateTask t; autostart = Some (record { time = time; cycle = cycle; modes = 0 ∷ [] }) }

-- a counter that counts to 7, once a tick
abbrev pub to_seven : Counter
to_seven = record { max_allowed_value = 7; ticks_per_base = 1; min_cycle = 1 }

-- the resource of that number, as an operand
abbrev pub declared : ℕ → Option ResId
declared r = Some (ResId.Declared r)

-- routine 0 arrives in a tick
abbrev pub arrival_in : ℕ → Arrival
arrival_in tick = record { tick = tick; routine = 0 }

-- ---- systems

abbrev pub no_hooks : Hooks
no_hooks = record { startup = false; error = false; shutdown = false; pre_task = false; post_task = false }

-- the names of a system with nothing but the mode M
abbrev pub one_mode : Names
one_mode = record { tasks = []; routines = []; resources = []; events = []; alarms = []; modes = codes "M" ∷ [] }

-- nothing but the mode M
abbrev pub quiet : System
quiet =
    record {
      names = one_mode;
      tasks = [];
      routines = [];
      resources = [];
      events = [];
      counters = [];
      alarms = [];
      hooks = no_hooks;
      use_res_scheduler = true;
    }

-- tasks of these names
abbrev pub of_tasks : List (List ℕ) → List Task → System
of_tasks names tasks = record quiet { names = record one_mode { tasks = names }; tasks = tasks }

-- one task A of that program, which starts by itself
abbrev pub alone : List Instr → System
alone program = of_tasks (codes "A" ∷ []) (autostarted (task 1 program) ∷ [])

-- the same with one more kind of object: a routine I, a resource R, an event E, or an alarm AL on a counter to 7
abbrev pub with_routine : ℕ → List Instr → System → System
with_routine priority program S =
    record S {
      names = record S.names { routines = codes "I" ∷ [] };
      routines = record { priority = priority; program = program } ∷ [];
    }

abbrev pub with_resource : Property → System → System
with_resource property S =
    record S { names = record S.names { resources = codes "R" ∷ [] }; resources = property ∷ [] }

abbrev pub with_event : System → System
with_event S = record S { names = record S.names { events = codes "E" ∷ [] }; events = 1 ∷ [] }

abbrev pub with_alarm : Alarm → System → System
with_alarm a S =
    record S { names = record S.names { alarms = codes "AL" ∷ [] }; counters = to_seven ∷ []; alarms = a ∷ [] }

abbrev pub with_hooks : Hooks → System → System
with_hooks hooks S = record S { hooks = hooks }

-- ---- runs

-- a proper system, whose first n ticks in its first mode have these lines
pub record IsWorkedRun (S : System) (arrivals : List Arrival) (n : ℕ) (ls : List (List ℕ)) : Type 0 where
  pub proper : IsProper S
  pub told : lines S.names (run S 0 arrivals n) ≡ ls

-- the lines with the numbers of blockers
abbrev pub TellsBlockers : System → List Arrival → ℕ → List (List ℕ) → Type 0
TellsBlockers S arrivals n ls = flat_map (blocking_lines S 0 arrivals) (run S 0 arrivals n).steps ≡ ls

-- in those ticks a job becomes ready before the instruction of tick u, and has that many blockers from then on
pub record HasBlockers (S : System) (arrivals : List Arrival) (n u : ℕ) (job : JobId) (count : ℕ) : Type 0 where
  pub ready : IsTrue (is_ready_from S (boot S 0).state (run S 0 arrivals n).steps u job)
  pub blocked : length (blockers S (run S 0 arrivals n).steps u job) ≡ count
