use Rattle.std.proofs.Common.{◌≡◌, replicate}
use Rattle.view_timelines.specs.Rows.{nothing_kept}
use Rattle.view_timelines.proofs.track.bare_tracks.Given as goal

abbrev pub invariant-loop-made : goal.invariant-loop-made
invariant-loop-made l = l.tracks.items ≡ replicate l._made nothing_kept
