use Rattle.std.proofs.Common.{◌≡◌, ◌<◌, ◌∙◌, ap, sym, subst, length, arith}
use Rattle.std.specs.Bool.{IsFalse}
use Rattle.law_kept.specs.Kept.{Slot}
use Rattle.law_kept.specs.KeptService.{holds_in}
use Rattle.services.specs.Objects.{Objects, kept_in, by_task}
use Rattle.services.proofs.HeldLemmas.{none_below, at_task}
use Rattle.services.proofs.objects.Objects.get_held.Goals as goal

pub get-requires : goal.get-requires
get-requires g c =
    let t = c.in-Some.task in
    let slots = c.self.inside.slots.items in
    let known : t < length c.args.self.now.system.tasks = c.in-Some.ensures.known in
    let inside : t < length c.self.inside.system.now.tasks = subst (λ (k : Objects). t < length k.system.tasks) (sym c.self.view_is) known in
    let number = c.number.ensures.is in
    let long = c.self.invariant.slots in
    let low : c.number.result < length slots = omega (arith, inside, number, long) in
    let here : c.index_mut-slot.result.now ≡ by_task c.args.self.now.slots t =
    c.index_mut-slot.ensures.value ∙ at_task slots c.number.result c.index_mut-slot.result.now low ∙ ap (by_task slots) number
    ∙ ap (λ (k : Objects). by_task k.slots t) c.self.view_is in
    subst (λ (a : Slot). IsFalse (holds_in c.args.resource.now a)) (sym here)
    (none_below (λ u. holds_in c.args.resource.now ((kept_in c.args.self.now).slots u)) (length c.args.self.now.system.tasks) t c.requires.free known)
