use Rattle.std.proofs.Common.{◌≡◌, take, false}
use Rattle.std.specs.List.{list_any}
use Rattle.law_kept.specs.KeptService.{holds_in}
use Rattle.services.proofs.resource_services.any_holds.Given as goal

-- none of those so far holds it
abbrev pub invariant-loop-number : goal.invariant-loop-number
invariant-loop-number l = list_any (holds_in l.resource) (take l.number l.slots) ≡ false
