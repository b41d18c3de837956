-- What the texts of a run mean together, the trace that is asked for, and which fault is the
-- first.
use Rattle.std.specs.Prelude.{◌≡◌, ◌⊎◌, ℕ, List, None, Some}
use Rattle.oil_reader.specs.Configuration.{Configuration}
use Rattle.oil_reader.specs.Faults.{HasFault as HasOilFault, Means}
use Rattle.oil_reader.specs.declared.fault.OilFault.{OilFault}
use Rattle.task_asm.specs.Programs.{Program}
use Rattle.task_asm.specs.Meaning.{HasFault as HasAsmFault, IsProgramText}
use Rattle.task_asm.specs.declared.fault.AsmFault.{AsmFault}
use Rattle.system_gen.specs.declared.fault.GenFault.{GenFault}
use Rattle.system_gen.specs.Generated.{generated}
use Rattle.system_gen.specs.Faults.{generation_fault}
use Rattle.osek_base.specs.declared.arrivals.Arrival.{Arrival}
use Rattle.osek_base.specs.Names.{number_of}
use Rattle.osek_base.specs.System.{System}
use Rattle.osek_base.specs.Text.{text}
use Rattle.osek_base.specs.BlockingText.{blocking_text}
use Rattle.osek_base.specs.Trace.{run}
use Rattle.kernel.specs.declared.boot.BootFault.{BootFault}
use Rattle.kernel.specs.Progress.{Progress}
use Rattle.arrival_reader.specs.ArrivalText.{IsArrivalList, IsFirstFault}
use Rattle.tracer.specs.Shown.{numbers_shown, text_shown}
use Rattle.tracer.specs.declared.run_fault.RunFault.{RunFault}
use Rattle.tracer.specs.declared.shown.Shown.{Shown}

-- what a trace is asked for by
pub record Input : Type 0 where
  pub oil : List ℕ
  pub asm : List ℕ
  pub irqs : List ℕ
  pub mode : List ℕ
  pub ticks : ℕ

-- ---- the system of two texts

-- what generation gives of a file and programs, in which no fault applies
pub record IsGenerated (file : Configuration) (programs : List Program) (S : System) : Type 0 where
  pub value : S ≡ generated file programs
  pub sound : generation_fault file programs ≡ None

-- the texts mean a file and programs, and generation gives the system of them
pub record IsSystemOf (oil asm : List ℕ) (S : System) : Type 0 where
  pub file : Configuration
  pub programs : List Program
  pub meant : Means oil file
  pub written : IsProgramText asm programs
  pub generated : IsGenerated file programs S

-- ---- the trace

-- the system is booted in the mode of that name, with the arrivals of that list
pub record IsBegun (S : System) (irqs mode : List ℕ) (r : Progress) : Type 0 where
  pub system : r.system ≡ S
  pub listed : IsArrivalList S.names irqs r.arrivals
  pub started : number_of mode S.names.modes ≡ Some r.mode
  pub ticks : r.ticks ≡ 0

-- the bytes are the text of the run in the mode of that name, with the arrivals of that list
pub record IsTextOf (S : System) (text_of : ℕ → List Arrival → List ℕ) (irqs mode bytes : List ℕ) : Type 0 where
  pub number : ℕ
  pub arrivals : List Arrival
  pub listed : IsArrivalList S.names irqs arrivals
  pub started : number_of mode S.names.modes ≡ Some number
  pub spelled : bytes ≡ text_of number arrivals

-- the bytes are what is shown of so many ticks of the system
abbrev pub IsShown : System → Shown → Input → List ℕ → Type 0
IsShown S shown i =
    IsTextOf S (λ number arrivals. text_shown S shown (numbers_shown shown S number arrivals) (run S number arrivals i.ticks)) i.irqs i.mode

-- the bytes are what is shown of so many ticks of the system of the texts
abbrev pub IsShownOf : Input → Shown → List ℕ → Type 0
IsShownOf i shown bytes = (S : System) × IsSystemOf i.oil i.asm S × IsShown S shown i bytes

-- the bytes are the trace of so many ticks of the system of the texts
abbrev pub IsTrace : Input → List ℕ → Type 0
IsTrace i bytes =
    (S : System) × IsSystemOf i.oil i.asm S
    × IsTextOf S (λ number arrivals. text S.names (run S number arrivals i.ticks)) i.irqs i.mode bytes

-- the bytes are that trace with the numbers of blockers
abbrev pub IsBlockingTrace : Input → List ℕ → Type 0
IsBlockingTrace i bytes =
    (S : System) × IsSystemOf i.oil i.asm S
    × IsTextOf S (λ number arrivals. blocking_text S number arrivals i.ticks) i.irqs i.mode bytes

-- ---- the first fault

-- of the OIL text; of the programs, where the OIL text has none; of the system of both. Want of memory is no fault of theirs
abbrev pub RefusesSystem : List ℕ → List ℕ → RunFault → Type 0
RefusesSystem oil asm (RunFault.Oil OilFault.Memory) = ⊥
RefusesSystem oil asm (RunFault.Oil fault) = HasOilFault oil fault
RefusesSystem oil asm (RunFault.Asm AsmFault.Memory) = ⊥
RefusesSystem oil asm (RunFault.Asm fault) = (file : Configuration) × Means oil file × HasAsmFault asm fault
RefusesSystem oil asm (RunFault.Gen GenFault.Memory) = ⊥
RefusesSystem oil asm (RunFault.Gen fault) =
    (file : Configuration) × ((programs : List Program) × Means oil file × IsProgramText asm programs × (generation_fault file programs ≡ Some fault))
RefusesSystem oil asm RunFault.Memory = Unit {0}
RefusesSystem oil asm _ = ⊥

-- of the arrival list; of the mode, where the list has none
abbrev pub RefusesStart : System → List ℕ → List ℕ → RunFault → Type 0
RefusesStart S irqs mode (RunFault.Irq fault) = IsFirstFault S.names irqs fault
RefusesStart S irqs mode (RunFault.Boot BootFault.Memory) = ⊥
RefusesStart S irqs mode (RunFault.Boot BootFault.UnknownMode) =
    (arrivals : List Arrival) × IsArrivalList S.names irqs arrivals × (number_of mode S.names.modes ≡ None)
RefusesStart S irqs mode RunFault.Memory = Unit {0}
RefusesStart S irqs mode _ = ⊥

-- of the system, or else of the start
abbrev pub IsFirstRefusal : Input → RunFault → Type 0
IsFirstRefusal i fault =
    RefusesSystem i.oil i.asm fault ⊎ ((S : System) × IsSystemOf i.oil i.asm S × RefusesStart S i.irqs i.mode fault)
