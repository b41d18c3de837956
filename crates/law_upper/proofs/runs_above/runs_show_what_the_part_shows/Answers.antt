use Rattle.law_upper.proofs.RunsAbove.{runs_show_what_the_part_shows}
use Rattle.law_upper.proofs.runs_above.runs_show_what_the_part_shows.Goals as goal

pub returns : goal.returns
returns c = runs_show_what_the_part_shows
