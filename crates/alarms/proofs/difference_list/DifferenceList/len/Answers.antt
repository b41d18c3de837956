use Rattle.std.proofs.Common.{length, ap, sym, ◌∙◌}
use Rattle.alarms.proofs.WaitLemmas.{length-waits}
use Rattle.alarms.proofs.difference_list.DifferenceList.len.Goals as goal

pub returns-clause-value : goal.returns-clause-value
returns-clause-value c = c.len.ensures.value ∙ (sym (length-waits c.self.inside.entries.items) ∙ ap length c.self.view_is)
