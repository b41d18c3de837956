use Rattle.std.proofs.Common.{subst}
use Rattle.search.specs.Rules.{StaysNoted}
use Rattle.search_bounds.specs.Exploring.{AreNotedIn, Explorer}
use Rattle.search_bounds.proofs.explorer.ExplorerSteps.repeats.Goals as goal

pub returns-clause-notes : goal.returns-clause-notes
returns-clause-notes g c =
    subst (λ (h : Explorer). StaysNoted AreNotedIn h c.without_lost.new.self) c.self.view_is
    c.without_lost.ensures.notes
