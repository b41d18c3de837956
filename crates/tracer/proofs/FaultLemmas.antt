-- What the refusals of a run's texts tell, once they are faults of the run.
use Rattle.std.proofs.Common.{ℕ, List, inl, inr}
use Rattle.oil_reader.specs.Configuration.{Configuration}
use Rattle.oil_reader.specs.Faults.{HasFault as HasOilFault, Means}
use Rattle.oil_reader.specs.declared.fault.OilFault.{OilFault}
use Rattle.task_asm.specs.Programs.{Program}
use Rattle.task_asm.specs.Meaning.{HasFault as HasAsmFault, IsProgramText}
use Rattle.task_asm.specs.declared.fault.AsmFault.{AsmFault}
use Rattle.system_gen.specs.declared.fault.GenFault.{GenFault}
use Rattle.tracer.specs.RunFaults.{of_oil, of_asm, of_gen}
use Rattle.system_gen.specs.Checks.{IsFoundOrMemory}
use Rattle.system_gen.specs.Faults.{generation_fault}
use Rattle.tracer.specs.WholeRuns.{RefusesSystem}

pub told_of_oil : (oil asm : List ℕ) (fault : OilFault) → HasOilFault oil fault → RefusesSystem oil asm (of_oil fault)
told_of_oil oil asm OilFault.Memory h = tt
told_of_oil oil asm (OilFault.Token place) h = h
told_of_oil oil asm (OilFault.Syntax place) h = h
told_of_oil oil asm (OilFault.UnknownAttribute place) h = h
told_of_oil oil asm (OilFault.Missing place) h = h
told_of_oil oil asm (OilFault.Twice place) h = h
told_of_oil oil asm (OilFault.Range place) h = h

pub told_of_programs : (oil asm : List ℕ) (file : Configuration) (fault : AsmFault) → Means oil file → HasAsmFault asm fault
    → RefusesSystem oil asm (of_asm fault)
told_of_programs oil asm file AsmFault.Memory m h = tt
told_of_programs oil asm file (AsmFault.Token place) m h = (file, m, h)
told_of_programs oil asm file (AsmFault.UnknownMnemonic place) m h = (file, m, h)
told_of_programs oil asm file (AsmFault.Operand place) m h = (file, m, h)
told_of_programs oil asm file (AsmFault.UnknownLabel place) m h = (file, m, h)
told_of_programs oil asm file (AsmFault.Twice place) m h = (file, m, h)
told_of_programs oil asm file (AsmFault.TooLong place) m h = (file, m, h)

pub told_of_system : (oil asm : List ℕ) (file : Configuration) (programs : List Program) (fault : GenFault) → Means oil file
    → IsProgramText asm programs → IsFoundOrMemory (generation_fault file programs) fault → RefusesSystem oil asm (of_gen fault)
told_of_system oil asm file programs GenFault.Memory m p h = tt
told_of_system oil asm file programs (GenFault.UnknownName name) m p (inl e) = absurd (cc e)
told_of_system oil asm file programs (GenFault.UnknownName name) m p (inr h) = (file, (programs, m, p, h))
told_of_system oil asm file programs (GenFault.Limit kind) m p (inl e) = absurd (cc e)
told_of_system oil asm file programs (GenFault.Limit kind) m p (inr h) = (file, (programs, m, p, h))
told_of_system oil asm file programs (GenFault.ExtendedActivation name) m p (inl e) = absurd (cc e)
told_of_system oil asm file programs (GenFault.ExtendedActivation name) m p (inr h) = (file, (programs, m, p, h))
told_of_system oil asm file programs (GenFault.TwoInternal name) m p (inl e) = absurd (cc e)
told_of_system oil asm file programs (GenFault.TwoInternal name) m p (inr h) = (file, (programs, m, p, h))
told_of_system oil asm file programs (GenFault.NoProgram name) m p (inl e) = absurd (cc e)
told_of_system oil asm file programs (GenFault.NoProgram name) m p (inr h) = (file, (programs, m, p, h))
told_of_system oil asm file programs (GenFault.LastNotJump name) m p (inl e) = absurd (cc e)
told_of_system oil asm file programs (GenFault.LastNotJump name) m p (inr h) = (file, (programs, m, p, h))
told_of_system oil asm file programs (GenFault.RetiInTask name) m p (inl e) = absurd (cc e)
told_of_system oil asm file programs (GenFault.RetiInTask name) m p (inr h) = (file, (programs, m, p, h))
told_of_system oil asm file programs (GenFault.Mask name) m p (inl e) = absurd (cc e)
told_of_system oil asm file programs (GenFault.Mask name) m p (inr h) = (file, (programs, m, p, h))
told_of_system oil asm file programs (GenFault.Counter name) m p (inl e) = absurd (cc e)
told_of_system oil asm file programs (GenFault.Counter name) m p (inr h) = (file, (programs, m, p, h))
told_of_system oil asm file programs (GenFault.Alarm name) m p (inl e) = absurd (cc e)
told_of_system oil asm file programs (GenFault.Alarm name) m p (inr h) = (file, (programs, m, p, h))
