use Rattle.std.proofs.Common.{sym, ◌∙◌}
use Rattle.search_states.proofs.JobLemmas.{none_held}
use Rattle.search_states.proofs.tasks.push_held.Goals as goal

pub returns-then-holds_none : goal.returns-then-holds_none
returns-then-holds_none c =
    let same = none_held c.args.slot.now.held (sym c.holds_none.ensures ∙ c.if-holds_none.true) in
    rw same c.push_byte.ensures
