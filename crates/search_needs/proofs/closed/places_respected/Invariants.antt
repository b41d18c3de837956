use Rattle.search_needs.specs.Entries.{PlacesRespect}
use Rattle.search_needs.proofs.closed.places_respected.Given as goal

abbrev pub invariant-loop-place : goal.invariant-loop-place
invariant-loop-place l = PlacesRespect l.own l.shared l.lines l.place
