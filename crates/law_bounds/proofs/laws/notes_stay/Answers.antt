use Rattle.law_bounds.proofs.Notes.{notes_stay}
use Rattle.law_bounds.proofs.laws.notes_stay.Goals as goal

pub returns : goal.returns
returns c = notes_stay
