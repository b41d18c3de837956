-- OSEK/VDX OS: system services; the modelled processor. A system between two phases of a tick, and the picture that is kept of
-- it.
use Rattle.std.specs.Prelude.{ℕ, ◌≡◌, ◌<◌, ◌≤◌, ◌-◌, ◌+◌, true, false, not, List, [], Option, length}
use Rattle.std.specs.List.{list_all}
use Rattle.osek_base.specs.declared.limits.TheConstants.{MAX_ACTIVATION, MAX_RECORDS, MAX_TICKS}
use Rattle.osek_base.specs.declared.ids.Owner.{Owner}
use Rattle.osek_base.specs.declared.trace_event.TraceEvent.{TraceEvent}
use Rattle.osek_base.specs.System.{System, activation_of, instruction_at}
use Rattle.osek_base.specs.Alarm.{is_due_at}
use Rattle.osek_base.specs.Proper.{IsProper}
use Rattle.osek_base.specs.State.{Expiry}
use Rattle.osek_base.specs.Trace.{boot, starting_tasks}
use Rattle.osek_base.proofs.PlaceLemmas.{KnownPlace}
use Rattle.law_runs.proofs.Formed.{IsPlaced}
use Rattle.machine.specs.Code.{Programs, programs_of}
use Rattle.machine.specs.Packed.{instr_of}
use Rattle.machine.specs.Windows.{word}
use Rattle.law_kept.specs.Kept.{Kept, kept}
use Rattle.law_kept.specs.KeptTick.{all_activated_in, begun_in}
use Rattle.law_kept.specs.Standing.{MayServe, runner_waits}
use Rattle.services.specs.Objects.{Objects, kept_in, kept_of}
use Rattle.services.specs.Calls.{IsExecuting, context_in}
use Rattle.kernel.specs.declared.next.Next.{Next}

-- the objects of the services, the system among them, and the words of all windows
pub record Processor : Type 0 where
  pub objects : Objects
  pub words : List ℕ

-- all that is kept of a state
abbrev pub picture : Processor → Kept
picture p = kept_of (word p.words) p.objects

abbrev pub system_of : Processor → System
system_of p = p.objects.system

-- the same at another tick
abbrev pub at_tick : Processor → ℕ → Processor
at_tick p t = record { objects = record p.objects { tick = t }; words = p.words }

-- the clock goes on
abbrev pub clocked : Processor → Processor
clocked p = at_tick p (p.objects.tick + 1)

-- what a processor keeps: the programs of its system
pub record IsProcessor (S : System) (o : Objects) (code : Programs) : Type 0 where
  pub system : o.system ≡ S
  pub proper : IsProper S
  pub programs : code ≡ programs_of S

-- no alarm expires at count 0
abbrev pub AreAhead : List (Option Expiry) → Type 0
AreAhead alarms = list_all (λ e. not (is_due_at 0 e)) alarms ≡ true

-- ready for the tick of that number: the clock still shows the one before
pub record IsBefore (tick : ℕ) (p : Processor) : Type 0 where
  pub clock : p.objects.tick ≡ tick - 1
  pub limit : tick < MAX_TICKS
  pub ready : runner_waits (picture p) ≡ false
  pub alarms : length p.objects.alarms ≡ length (system_of p).alarms
  pub ahead : tick ≡ 0 → AreAhead p.objects.alarms

-- an alarm of the system may act, and there is room for its record
pub record AlarmMayAct (a : ℕ) (p : Processor) (records : List TraceEvent) : Type 0 where
  pub alarm : a < length (system_of p).alarms
  pub ready : runner_waits (picture p) ≡ false
  pub room : length records < MAX_RECORDS

-- ready for an instruction
pub record MayExecute (p : Processor) : Type 0 where
  pub serves : MayServe (system_of p) (picture p)
  pub all : p.objects.suspended_all < MAX_TICKS
  pub os : p.objects.suspended_os < MAX_TICKS

-- no task may have more jobs than the limit
abbrev pub HasFewJobs : System → Type 0
HasFewJobs S = (t : ℕ) → t < length S.tasks → activation_of S t ≤ MAX_ACTIVATION

-- who executes, at its place
pub record MayFetch (p : Processor) (who : Owner) : Type 0 where
  pub executes : IsExecuting (picture p) who
  pub placed : IsPlaced (system_of p) who (context_in (picture p) who)

-- who executes, and the instruction at its place
pub record IsNext (p : Processor) (next : Next) : Type 0 where
  pub who : IsExecuting (picture p) next.owner
  pub place : next.place ≡ (context_in (picture p) next.owner).place
  pub placed : IsPlaced (system_of p) next.owner (context_in (picture p) next.owner)
  pub known : KnownPlace (system_of p) next.owner (context_in (picture p) next.owner).place
  pub instruction : instruction_at (system_of p) next.owner (context_in (picture p) next.owner).place ≡ instr_of next.packed

-- it comes to be executed, and nothing is recorded behind it
pub record ComesTo (p : Processor) (instruction : Next) (behind : List TraceEvent) : Type 0 where
  pub next : IsNext p instruction
  pub may : MayExecute p
  pub none : behind ≡ []

-- the tasks that start in the mode were activated by number, and the alarms of the mode are set
pub record IsStarting (S : System) (mode : ℕ) (o : Objects) : Type 0 where
  pub system : o.system ≡ S
  pub kept : kept_in o ≡ all_activated_in S (starting_tasks S mode) (begun_in S mode)

-- what boot leaves, and the records that stand before those of the first tick
pub record IsStarted (S : System) (mode : ℕ) (p : Processor) (opening : List TraceEvent) : Type 0 where
  pub system : system_of p ≡ S
  pub proper : IsProper S
  pub kept : picture p ≡ kept S (boot S mode).state
  pub events : opening ≡ (boot S mode).events
  pub few : length opening ≤ 3
