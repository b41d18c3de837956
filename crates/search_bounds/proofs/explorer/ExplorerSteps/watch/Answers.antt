use Rattle.search_bounds.proofs.Exploring.{same_stay}
use Rattle.search_bounds.proofs.explorer.ExplorerSteps.watch.Goals as goal

pub returns-clause-notes : goal.returns-clause-notes
returns-clause-notes g c = same_stay c.args.self.now _ c.self.view_is
