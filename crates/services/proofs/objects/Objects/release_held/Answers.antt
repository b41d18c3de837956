use Rattle.std.proofs.Common.{◌≡◌, ◌<◌, ◌∙◌, cond, set, ap, sym, subst, length, arith}
use Rattle.osek_base.specs.Lists.{last_of}
use Rattle.osek_base.specs.Service.{is_resource}
use Rattle.law_kept.specs.Kept.{Slot}
use Rattle.law_kept.specs.KeptService.{slot_releases}
use Rattle.services.specs.Objects.{Objects, by_task, kept_in}
use Rattle.services.proofs.HeldLemmas.{at_task}
use Rattle.services.proofs.ReleasedLemmas.{released}
use Rattle.services.proofs.objects.Objects.release_held.Goals as goal

pub returns-in-Some-clause-kept : goal.returns-in-Some-clause-kept
returns-in-Some-clause-kept g c =
    let o : Objects = c.args.self.now in
    let r = c.args.resource.now in
    let t = c.in-Some.task in
    let n = c.number.result in
    let a : Slot = c.release.new.self in
    let slots = c.self.inside.slots.items in
    let known : t < length o.system.tasks = c.in-Some.ensures.known in
    let number = c.number.ensures.is in
    let long : length o.slots ≡ length o.system.tasks = subst (λ (k : Objects). length k.slots ≡ length k.system.tasks) c.self.view_is c.self.invariant.slots in
    let inside : t < length o.slots = omega (arith, known, long) in
    let listed : length slots ≡ length o.slots = ap (λ (k : Objects). length k.slots) c.self.view_is in
    let low : n < length slots = omega (arith, inside, listed, number) in
    let here : c.index_mut-slot.result.now ≡ by_task o.slots t =
    c.index_mut-slot.ensures.value ∙ at_task slots n c.index_mut-slot.result.now low ∙ ap (by_task slots) number
    ∙ ap (λ (k : Objects). by_task k.slots t) c.self.view_is in
    ap (λ (k : Objects). kept_in (record k { slots = set k.slots n a })) c.self.view_is
    ∙ released o r t n a (sym c.calling_task.ensures.value ∙ c.in-Some.is) number inside
    (c.release.ensures.slot ∙ ap (λ (x : Slot). cond (is_resource (last_of x.held) r) (slot_releases x) x) here)
