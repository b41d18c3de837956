-- Nodes of four small systems by hand.
use Rattle.std.specs.Prelude.{ℕ, ◌≡◌, true, false, if◌then◌else◌, ◌==◌, List, [], ◌∷◌, ◌++◌, Option, Some, None, drop, map}
use Rattle.osek_base.specs.declared.ids.Owner.{Owner}
use Rattle.osek_base.specs.declared.ids.ResId.{ResId}
use Rattle.osek_base.specs.declared.instr.Comparison.{Comparison}
use Rattle.osek_base.specs.declared.instr.Control.{Control}
use Rattle.osek_base.specs.declared.instr.Instr.{Instr}
use Rattle.osek_base.specs.declared.instr.Operation.{Operation}
use Rattle.osek_base.specs.declared.instr.Plain.{Plain}
use Rattle.osek_base.specs.declared.instr.Service.{Service}
use Rattle.osek_base.specs.declared.task.Action.{Action}
use Rattle.osek_base.specs.declared.task.Property.{Property}
use Rattle.osek_base.specs.declared.task.Schedule.{Schedule}
use Rattle.osek_base.specs.System.{System, Task, no_task}
use Rattle.law_costs.specs.Left.{Weights, on}
use Rattle.law_nodes.specs.Closed.{is_closed}
use Rattle.law_nodes.specs.Nodes.{Node, Table, fresh_node}
use Rattle.law_nodes.specs.Paid.{EventCosts, prices_pay}
use Rattle.law_nodes.specs.Prices.{Priced}
use Rattle.law_nodes.specs.Steps.{steps}

-- a system of a task and perhaps a routine, a resource and an event
abbrev pub of_task : Task → System
of_task a =
    record {
      names =
          record {
            tasks = [];
            routines = [];
            resources = [];
            events = [];
            alarms = [];
            modes = [] ∷ [];
          };
      tasks = record a { priority = 1; activation = 1 } ∷ [];
      routines = [];
      resources = [];
      events = [];
      counters = [];
      alarms = [];
      hooks =
          record {
            startup = false;
            shutdown = false;
            error = false;
            pre_task = false;
            post_task = false;
          };
      use_res_scheduler = false;
    }

-- a node of the task at a place; r0, r1 and r2 are those, all others 0
abbrev pub at : ℕ → Option ℕ → Option ℕ → Option ℕ → Node
at place x y z =
    record (fresh_node (Owner.Task 0)) {
      place = place;
      registers =
          x ∷ y ∷ z ∷ Some 0 ∷ Some 0 ∷ Some 0 ∷ Some 0 ∷ Some 0 ∷ [];
    }

-- ---- a loop of three rounds

abbrev pub counting : System
counting =
    of_task (record no_task {
      program =
          Instr.Plain (Plain.Li 1 3) ∷ Instr.Plain (Plain.Li 2 1)
          ∷ Instr.Plain (Plain.Compute Operation.Sub 1 1 2)
          ∷ Instr.Plain (Plain.JumpIf Comparison.NotEqual 1 3 2)
          ∷ Instr.Service Service.TerminateTask ∷ Instr.Plain (Plain.Jmp 5) ∷ [];
    })

-- a node for each of its ticks
abbrev pub counted : Table
counted =
    at 0 (Some 0) (Some 0) (Some 0) ∷ at 1 (Some 0) (Some 3) (Some 0)
    ∷ at 2 (Some 0) (Some 3) (Some 1) ∷ at 3 (Some 0) (Some 2) (Some 1)
    ∷ at 2 (Some 0) (Some 2) (Some 1) ∷ at 3 (Some 0) (Some 1) (Some 1)
    ∷ at 2 (Some 0) (Some 1) (Some 1) ∷ at 3 (Some 0) (Some 0) (Some 1)
    ∷ at 4 (Some 0) (Some 0) (Some 1) ∷ []

-- ---- a task that takes a resource and waits for an event, which a routine sets

abbrev pub waiting : System
waiting =
    record (of_task (record no_task {
      resources = 0 ∷ [];
      events = 1 ∷ [];
      program =
          Instr.Service (Service.GetResource (Some (ResId.Declared 0)))
          ∷ Instr.Service (Service.ReleaseResource (Some (ResId.Declared 0)))
          ∷ Instr.Service (Service.WaitEvent 1) ∷ Instr.Service Service.TerminateTask
          ∷ Instr.Plain (Plain.Jmp 4) ∷ [];
    })) {
      routines =
          record {
            priority = 1;
            program =
                Instr.Service (Service.SetEvent (Some 0) 1)
                ∷ Instr.Control Control.ReturnFromInterrupt ∷ [];
          } ∷ [];
      resources = Property.Standard ∷ [];
      events = 1 ∷ [];
    }

abbrev pub zero_but : Option ℕ → ℕ → Node
zero_but x place = at place x (Some 0) (Some 0)

abbrev pub of_routine_at : Option ℕ → ℕ → Node
of_routine_at x place = record (zero_but x place) { owner = Owner.Routine 0 }

-- it holds the resource
abbrev pub holding : Node
holding = record (zero_but (Some 0) 1) { held = ResId.Declared 0 ∷ [] }

-- it waits, and goes on by the event, which is used then
abbrev pub resting : Node
resting = record (zero_but (Some 0) 3) { waits_for = Some 1 }

abbrev pub going_on : Node
going_on = record (zero_but (Some 0) 3) { used = 1 }

-- where r0 isn't known behind SetEvent, one node stands for two
abbrev pub waited : Table
waited =
    zero_but (Some 0) 0 ∷ holding ∷ zero_but (Some 0) 2 ∷ going_on ∷ resting
    ∷ of_routine_at (Some 0) 0 ∷ of_routine_at None 1 ∷ []

-- ---- a loop that waits for an event, clears it and works

abbrev pub looping : System
looping =
    record (of_task (record no_task {
      events = 1 ∷ [];
      program =
          Instr.Service (Service.WaitEvent 1) ∷ Instr.Service (Service.ClearEvent 1)
          ∷ Instr.Plain Plain.Nop ∷ Instr.Plain (Plain.Jmp 0) ∷ [];
    })) { events = 1 ∷ [] }

abbrev pub zero_at : ℕ → Node
zero_at place = zero_but (Some 0) place

-- by each place once, and where it waits
abbrev pub looped : Table
looped =
    zero_at 0 ∷ record (zero_at 1) { used = 1 } ∷ zero_at 2 ∷ zero_at 3
    ∷ record (zero_at 1) { waits_for = Some 1 } ∷ []

-- ---- a task that sets an alarm, which activates another task

abbrev pub of_level : List Instr → Task
of_level program = record no_task { priority = 1; activation = 1; program = program }

abbrev pub timing : ℕ → System
timing cycle =
    record (of_task no_task) {
      tasks =
          of_level
          (Instr.Plain (Plain.Li 1 5) ∷ Instr.Plain (Plain.Li 2 cycle)
          ∷ Instr.Service (Service.SetRelAlarm (Some 0) 1 2)
          ∷ Instr.Service Service.TerminateTask ∷ Instr.Plain (Plain.Jmp 4) ∷ [])
          ∷ of_level (Instr.Service Service.TerminateTask ∷ Instr.Plain (Plain.Jmp 1) ∷ []) ∷ [];
      counters = record { max_allowed_value = 9; ticks_per_base = 1; min_cycle = 1 } ∷ [];
      alarms =
          record { counter = 0; action = Action.ActivateTask 1; autostart = None } ∷ [];
    }

-- the alarm may be in use: behind SetRelAlarm r0 isn't known
abbrev pub timed : ℕ → Table
timed cycle =
    at 0 (Some 0) (Some 0) (Some 0) ∷ at 1 (Some 0) (Some 5) (Some 0)
    ∷ at 2 (Some 0) (Some 5) (Some cycle) ∷ at 3 None (Some 5) (Some cycle)
    ∷ record (at 0 (Some 0) (Some 0) (Some 0)) { owner = Owner.Task 1 } ∷ []

-- ---- a NON task that turns interrupts off and on, below one that ends at once

abbrev pub shielding : System
shielding =
    record (of_task no_task) {
      tasks =
          record no_task {
            priority = 1;
            schedule = Schedule.Non;
            activation = 1;
            program =
                Instr.Control Control.DisableAllInterrupts ∷ Instr.Plain Plain.Nop
                ∷ Instr.Control Control.EnableAllInterrupts
                ∷ Instr.Service Service.TerminateTask ∷ Instr.Plain (Plain.Jmp 4) ∷ [];
          }
          ∷ record no_task {
            priority = 2;
            activation = 1;
            program = Instr.Service Service.TerminateTask ∷ Instr.Plain (Plain.Jmp 1) ∷ [];
          } ∷ [];
    }

-- it finds them off
abbrev pub off_at : ℕ → Node
off_at place = record (zero_at place) { switch = record on { disabled = true } }

-- each of its instructions, and that of the other task
abbrev pub shielded : Table
shielded =
    zero_at 0 ∷ off_at 1 ∷ off_at 2 ∷ zero_at 3
    ∷ record (zero_at 0) { owner = Owner.Task 1 } ∷ []

-- ---- what they cost

-- what the first event costs, and what it holds where it is set early
abbrev pub of_first : ℕ → ℕ → EventCosts
of_first set held =
    record {
      set = λ t b. if b == 0 then set else 0;
      held = λ t b. if b == 0 then held else 0;
    }

-- costs of a task and of an interrupt of the routine; nothing is below the level
abbrev pub weights : ℕ → ℕ → Weights
weights task arrival =
    record {
      of_active = λ w a. 0;
      of_job = λ m w j. 0;
      of_task = λ t. task;
      of_event = λ t m. 0;
      of_section = 0;
      of_alarm = λ a. 0;
      costs =
          record { of_arrival = λ i. arrival; of_expiry = λ a. 0; at_boot = 0; at_begin = 0 };
    }

-- a table with costs, node by node
abbrev pub with_costs : Table → List ℕ → List Priced
with_costs (n ∷ table) (cost ∷ costs) =
    record { node = n; cost = cost } ∷ with_costs table costs
with_costs _ _ = []

-- from nine down to one
abbrev pub counted_costs : List Priced
counted_costs = with_costs counted (9 ∷ 8 ∷ 7 ∷ 6 ∷ 5 ∷ 4 ∷ 3 ∷ 2 ∷ 1 ∷ [])

-- four instructions of the task, of which the event pays for the last one, and two of the routine,
-- which sets the event
abbrev pub waited_costs : List Priced
waited_costs = with_costs waited (4 ∷ 3 ∷ 2 ∷ 1 ∷ 1 ∷ 3 ∷ 1 ∷ [])

-- .. which pays for it where it is set early, too
abbrev pub waited_early : List Priced
waited_early = with_costs waited (3 ∷ 2 ∷ 1 ∷ 1 ∷ 1 ∷ 3 ∷ 1 ∷ [])

-- to its first wait the loop costs one, and each time that the event is set, ClearEvent, NOP, JMP
-- and WaitEvent
abbrev pub looped_costs : List Priced
looped_costs = with_costs looped (1 ∷ 4 ∷ 3 ∷ 2 ∷ 1 ∷ [])

-- of the shielding task all four instructions are one section, and the other task has one
abbrev pub shielded_costs : List Priced
shielded_costs = with_costs shielded (4 ∷ 3 ∷ 2 ∷ 1 ∷ 1 ∷ [])

-- costs of the other task, and of a section that a dispatch begins
abbrev pub with_section : ℕ → Weights
with_section cost =
    record (weights 0 0) {
      of_task = λ t. if t == 1 then 1 else 0;
      of_section = cost;
      costs = record (weights 0 0).costs { at_boot = cost; at_begin = cost };
    }

-- ---- what they come to

-- the first task pays for the one instruction of the other, and where a window begins the alarm may
-- be set
abbrev pub timed_weights : ℕ → ℕ → Weights
timed_weights boot begin =
    record (weights 0 0) {
      of_task = λ t. if t == 0 then 5 else 1;
      of_alarm = λ a. 1;
      costs =
          record { of_arrival = λ i. 0; of_expiry = λ a. 0; at_boot = boot; at_begin = begin };
    }

abbrev pub timed_costs : ℕ → List Priced
timed_costs cycle = with_costs (timed cycle) (5 ∷ 4 ∷ 3 ∷ 1 ∷ 1 ∷ [])

pub record WorkedNodes : Type 0 where
  -- each node has the next one for its only step, and the last one none
  pub counting_steps : map (steps counting) counted
      ≡ map (λ n. n ∷ []) (drop 1 counted) ++ [] ∷ []
  pub counting_closed : is_closed counting counted ≡ true
  -- without the last node the table isn't closed, nor without the first
  pub open_end : is_closed counting
      (at 0 (Some 0) (Some 0) (Some 0) ∷ at 1 (Some 0) (Some 3) (Some 0) ∷ []) ≡ false
  pub open_start : is_closed counting (drop 1 counted) ≡ false
  -- the resource, which the task lists, is refused with E_OS_ACCESS where the job holds it, and
  -- nowhere else
  pub getting : steps waiting (zero_but (Some 0) 0) ≡ holding ∷ []
  pub getting_again : steps waiting (record holding { place = 0 })
      ≡ record holding { registers = (zero_but (Some 1) 1).registers } ∷ []
  -- who holds it releases it; who doesn't is answered E_OS_NOFUNC
  pub releasing : steps waiting holding ≡ zero_but (Some 0) 2 ∷ []
  pub refused : steps waiting (zero_but (Some 1) 1) ≡ zero_but (Some 5) 2 ∷ []
  -- it goes on or waits, and while it waits it does nothing
  pub awaiting : steps waiting (zero_but (Some 0) 2) ≡ going_on ∷ resting ∷ []
  pub at_rest : steps waiting resting ≡ []
  -- the task may have no job: E_OS_STATE
  pub setting : steps waiting (of_routine_at (Some 0) 0)
      ≡ of_routine_at (Some 7) 1 ∷ of_routine_at (Some 0) 1 ∷ []
  pub waiting_closed : is_closed waiting waited ≡ true
  -- with interrupts off nothing but the status changes: E_OS_SYS_DISABLED
  pub disabled : steps waiting
      (record holding { switch = record { disabled = true; suspended_all = 0; suspended_os = 0 } })
      ≡ record holding {
        switch = record { disabled = true; suspended_all = 0; suspended_os = 0 };
        place = 2;
        registers = (zero_but (Some 32) 2).registers;
      } ∷ []
  -- one instruction a node is enough for the loop, and with less they don't pay
  pub counting_pays : prices_pay counting 0 1 (weights 9 0) (of_first 0 0) counted_costs ≡ true
  pub too_little : prices_pay counting 0 1 (weights 8 0) (of_first 0 0) counted_costs ≡ false
  pub one_too_cheap : prices_pay counting 0 1 (weights 9 0) (of_first 0 0)
      (with_costs counted (9 ∷ 8 ∷ 7 ∷ 6 ∷ 5 ∷ 5 ∷ 3 ∷ 2 ∷ 1 ∷ [])) ≡ false
  pub waiting_pays : prices_pay waiting 0 1 (weights 4 3) (of_first 1 0) waited_costs ≡ true
  pub event_is_free : prices_pay waiting 0 1 (weights 4 3) (of_first 0 0) waited_costs ≡ false
  pub interrupt_too_cheap : prices_pay waiting 0 1 (weights 4 2) (of_first 1 0) waited_costs ≡ false
  -- .. an event that is set early pays for the last instruction where it holds that
  pub early_pays : prices_pay waiting 0 1 (weights 3 3) (of_first 1 1) waited_early ≡ true
  pub early_is_free : prices_pay waiting 0 1 (weights 3 3) (of_first 1 0) waited_early ≡ false
  -- the loop has a bound by what each event costs, and none where events hold nothing
  pub looping_steps : steps looping (zero_at 0)
      ≡ record (zero_at 1) { used = 1 } ∷ record (zero_at 1) { waits_for = Some 1 } ∷ []
  pub looping_clears : steps looping (record (zero_at 1) { used = 1 }) ≡ zero_at 2 ∷ []
  pub looping_closed : is_closed looping looped ≡ true
  pub looping_pays : prices_pay looping 0 1 (weights 1 0) (of_first 4 4) looped_costs ≡ true
  pub held_too_cheap : prices_pay looping 0 1 (weights 1 0) (of_first 4 3) looped_costs ≡ false
  pub event_too_cheap : prices_pay looping 0 1 (weights 1 0) (of_first 3 3) looped_costs ≡ false
  -- who sets the alarm pays for what its expiry starts, and so does each window that begins
  pub timing_closed : is_closed (timing 0) (timed 0) ≡ true
  pub timing_pays : prices_pay (timing 0) 0 1 (timed_weights 1 1) (of_first 0 0) (timed_costs 0)
      ≡ true
  pub setting_too_cheap : prices_pay (timing 0) 0 1 (timed_weights 1 1) (of_first 0 0)
      (with_costs (timed 0) (4 ∷ 3 ∷ 2 ∷ 1 ∷ 1 ∷ [])) ≡ false
  pub boot_too_cheap : prices_pay (timing 0) 0 1 (timed_weights 0 1) (of_first 0 0) (timed_costs 0)
      ≡ false
  pub begin_too_cheap : prices_pay (timing 0) 0 1 (timed_weights 1 0) (of_first 0 0) (timed_costs 0)
      ≡ false
  -- .. and an alarm with a cycle may not pay, as it stays set
  pub set_again : prices_pay (timing 5) 0 1 (timed_weights 1 1) (of_first 0 0) (timed_costs 5)
      ≡ false
  -- the level above the NON task has a bound by the section that its dispatch begins: with interrupts
  -- off it counts behind each instruction, so no other section may begin there
  pub shielding_closed : is_closed shielding shielded ≡ true
  pub shielding_pays : prices_pay shielding 0 2 (with_section 4) (of_first 0 0) shielded_costs
      ≡ true
  pub section_too_short : prices_pay shielding 0 2 (with_section 3) (of_first 0 0) shielded_costs
      ≡ false
  pub shield_too_cheap : prices_pay shielding 0 2 (with_section 4) (of_first 0 0)
      (with_costs shielded (4 ∷ 3 ∷ 1 ∷ 1 ∷ 1 ∷ [])) ≡ false
