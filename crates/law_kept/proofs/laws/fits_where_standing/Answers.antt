use Rattle.law_kept.proofs.Fitting.{fits_where_standing}
use Rattle.law_kept.proofs.laws.fits_where_standing.Goals as goal

pub returns : goal.returns
returns c = fits_where_standing
