use Rattle.std.proofs.Common.{length, ap, sym, ◌∙◌, arith}
use Rattle.std.proofs.lemmas.List.{length-take-le}
use Rattle.alarms.proofs.due_list.DueList.len.Goals as goal

pub returns-clause-value : goal.returns-clause-value
returns-clause-value c =
    sym (length-take-le c.self.inside.len c.self.inside.alarms (omega (arith, c.self.invariant.0, c.self.invariant.1))) ∙ ap length c.self.view_is
