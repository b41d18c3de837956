use Rattle.view_timelines.proofs.TilingLemmas.{tiles}
use Rattle.view_timelines.proofs.laws.tile_the_ticks.Goals as goal

pub returns : goal.returns
returns c = tiles
