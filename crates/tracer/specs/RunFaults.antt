-- Which refusal of a run comes of a refused input.
use Rattle.oil_reader.specs.declared.fault.OilFault.{OilFault}
use Rattle.task_asm.specs.declared.fault.AsmFault.{AsmFault}
use Rattle.system_gen.specs.declared.fault.GenFault.{GenFault}
use Rattle.kernel.specs.declared.boot.BootFault.{BootFault}
use Rattle.arrival_reader.specs.declared.irq_fault.IrqFault.{IrqFault}
use Rattle.tracer.specs.declared.run_fault.RunFault.{RunFault}

abbrev pub of_oil : OilFault → RunFault
of_oil OilFault.Memory = RunFault.Memory
of_oil fault = RunFault.Oil fault

abbrev pub of_asm : AsmFault → RunFault
of_asm AsmFault.Memory = RunFault.Memory
of_asm fault = RunFault.Asm fault

abbrev pub of_gen : GenFault → RunFault
of_gen GenFault.Memory = RunFault.Memory
of_gen fault = RunFault.Gen fault

abbrev pub of_irq : IrqFault → RunFault
of_irq IrqFault.Memory = RunFault.Memory
of_irq fault = RunFault.Irq fault

abbrev pub of_boot : BootFault → RunFault
of_boot BootFault.Memory = RunFault.Memory
of_boot fault = RunFault.Boot fault
