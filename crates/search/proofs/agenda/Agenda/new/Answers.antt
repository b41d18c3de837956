use Rattle.search.proofs.AgendaLemmas.{none_marked}
use Rattle.search.proofs.agenda.Agenda.new.Goals as goal

pub invariant_of-result : goal.invariant_of-result
invariant_of-result c = rw (c.new.ensures.items, c.new-2.ensures.items) none_marked
