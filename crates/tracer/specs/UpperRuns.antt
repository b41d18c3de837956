-- Partitions. The view of a run that is asked for, and which refusal is the first.
use Rattle.std.specs.Prelude.{◌≡◌, ◌⊎◌, ℕ, List, Some}
use Rattle.osek_base.specs.Names.{owner_name}
use Rattle.osek_base.specs.System.{System}
use Rattle.osek_base.specs.Separable.{Separable, first_denial}
use Rattle.osek_base.specs.Trace.{run}
use Rattle.partition_check.specs.Partition.{denial_of}
use Rattle.partition_check.specs.declared.denial.NamedDenial.{NamedDenial}
use Rattle.tracer.specs.Shown.{view_text}
use Rattle.tracer.specs.WholeRuns.{Input, IsSystemOf, IsTextOf, RefusesSystem, RefusesStart}
use Rattle.tracer.specs.declared.run_fault.RunFault.{RunFault}

-- ---- what is written

-- the bytes are the text of the view at p of so many ticks of the system of the texts, which is separable at p
abbrev pub IsView : Input → ℕ → List ℕ → Type 0
IsView i p bytes =
    (S : System) × IsSystemOf i.oil i.asm S × Separable S p
    × IsTextOf S (λ number arrivals. view_text S p (run S number arrivals i.ticks)) i.irqs i.mode bytes

-- ---- the first refusal

-- the system's first denial at p, with the name of its subject
pub record IsFirstDenial (S : System) (p : ℕ) (told : NamedDenial) : Type 0 where
  pub first : first_denial S p ≡ Some (denial_of told.denial)
  pub name : told.name ≡ owner_name S.names told.denial.subject

-- of the partition at p
abbrev pub RefusesPartition : System → ℕ → RunFault → Type 0
RefusesPartition S p (RunFault.Denied told) = IsFirstDenial S p told
RefusesPartition S p _ = ⊥

-- of the system; or else of its partition; or else of the start
abbrev pub IsFirstViewRefusal : Input → ℕ → RunFault → Type 0
IsFirstViewRefusal i p fault =
    RefusesSystem i.oil i.asm fault
    ⊎ ((S : System) × IsSystemOf i.oil i.asm S
    × (RefusesPartition S p fault ⊎ (Separable S p × RefusesStart S i.irqs i.mode fault)))
