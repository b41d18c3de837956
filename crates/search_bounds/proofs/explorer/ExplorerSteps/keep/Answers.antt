use Rattle.search_bounds.proofs.Exploring.{same_stay}
use Rattle.search_bounds.proofs.explorer.ExplorerSteps.keep.Goals as goal

pub returns-in_err-entry-clause-notes : goal.returns-in_err-entry-clause-notes
returns-in_err-entry-clause-notes g c = same_stay c.args.self.now _ c.self.view_is

pub returns-in_err-base-clause-notes : goal.returns-in_err-base-clause-notes
returns-in_err-base-clause-notes g c = same_stay c.args.self.now _ c.self.view_is

pub returns-clause-notes : goal.returns-clause-notes
returns-clause-notes g c = same_stay c.args.self.now _ c.self.view_is

pub returns-in_err-self-inside-clause-notes : goal.returns-in_err-self-inside-clause-notes
returns-in_err-self-inside-clause-notes g c = same_stay c.args.self.now _ c.self.view_is
