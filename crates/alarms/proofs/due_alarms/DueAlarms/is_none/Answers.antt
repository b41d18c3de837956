use Rattle.std.proofs.Common.{sym, ap, ◌∙◌}
use Rattle.std.proofs.lemmas.Bool.{eqb-true}
use Rattle.alarms.specs.Waits.{is_raised}
use Rattle.alarms.proofs.TableLemmas.{none_raised, none_listed}
use Rattle.alarms.proofs.due_alarms.DueAlarms.is_none.Goals as goal

pub returns : goal.returns
returns c = λ none count.
    let empty = sym c.self.view_is ∙ eqb-true c.self.inside.word 0 none in
    none_listed c.args.self.now count (λ a. ap (is_raised a) empty ∙ none_raised a)
