use Rattle.std.proofs.Common.{◌≡◌}
use Rattle.view_timelines.proofs.chosen_rows.choose_tracks.Given as goal

abbrev pub invariant-loop-number : goal.invariant-loop-number
invariant-loop-number l = l.tracks ≡ l.initial.tracks
