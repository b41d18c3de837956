use Rattle.std.proofs.Common.{◌∙◌, ap, length}
use Rattle.std.specs.List.{list_any}
use Rattle.law_kept.specs.KeptService.{holds_in, is_held_in}
use Rattle.services.specs.Objects.{Objects, kept_in}
use Rattle.services.proofs.HeldLemmas.{any_slot}
use Rattle.services.proofs.objects.Objects.is_held.Goals as goal

pub returns : goal.returns
returns g c =
    c.any_holds.ensures ∙ ap (list_any (holds_in c.args.resource.now)) c.deref.ensures.value
    ∙ any_slot (holds_in c.args.resource.now) c.self.inside.slots.items (length c.self.inside.system.now.tasks) c.self.invariant.slots
    ∙ ap (λ (k : Objects). is_held_in k.system (kept_in k) c.args.resource.now) c.self.view_is
