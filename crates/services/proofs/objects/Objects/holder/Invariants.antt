use Rattle.std.proofs.Common.{◌≡◌, drop, length}
use Rattle.std.specs.List.{find}
use Rattle.osek_base.specs.Lists.{below}
use Rattle.law_kept.specs.KeptService.{holds_in}
use Rattle.services.specs.Objects.{by_task, kept_in}
use Rattle.law_kept.specs.Seen.{holder_in}
use Rattle.services.proofs.objects.Objects.holder.Given as goal

-- the first holder is the first of those that are left
abbrev pub invariant-loop-number : goal.invariant-loop-number
invariant-loop-number g l =
    holder_in l.self.system (kept_in l.self) l.resource
    ≡ find (λ t. holds_in l.resource (by_task l.self.slots t)) (drop l.number (below (length l.self.system.tasks)))
