use Rattle.std.proofs.Common.{sym, ◌∙◌}
use Rattle.kernel.proofs.GoingLemmas.{first_of}
use Rattle.kernel.proofs.watched.Watched.early_phases.Goals as goal

pub returns-then-len-eq0-clause-first : goal.returns-then-len-eq0-clause-first
returns-then-len-eq0-clause-first g c =
    first_of _ c.reschedule.new.records c.steady_task.result (sym c.len.ensures ∙ c.if-len-eq0.true) c.steady_task.ensures
