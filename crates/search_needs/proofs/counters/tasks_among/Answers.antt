use Rattle.std.proofs.Common.{subst}
use Rattle.osek_base.specs.declared.ids.Owner.{Owner}
use Rattle.osek_base.specs.declared.instr.Instr.{Instr}
use Rattle.std.specs.Prelude.{List, length}
use Rattle.search_needs.specs.Asked.{LinesAsk, ProgramAsks}
use Rattle.search_needs.specs.Table.{has}
use Rattle.search_needs.proofs.EntryLemmas.{below_more}
use Rattle.search_needs.proofs.counters.tasks_among.Goals as goal

pub loop-number-preserved : goal.loop-number-preserved
loop-number-preserved c =
    below_more (λ k. ProgramAsks c.args.system.now (has c.args.counters) (Owner.Task k))
    c.loop-number.number c.loop-number.invariant
    (subst (λ (code : List Instr). LinesAsk c.args.system.now (has c.args.counters) code (length code))
    c.task_lines.ensures (c.lines_among.ensures c.if-not-lines_among.false))
