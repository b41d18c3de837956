use Rattle.std.proofs.Common.{◌≡◌, Some, sym, ap, ◌∙◌}
use Rattle.osek_base.specs.Lists.{last_of}
use Rattle.osek_base.specs.Service.{is_resource}
use Rattle.resources.proofs.HeldLemmas.{last_of-slice_get}
use Rattle.resources.proofs.held.Held.is_last.Goals as goal

pub returns-in-Some : goal.returns-in-Some
returns-in-Some c =
    let same : c.as_slice.result.now ≡ c.args.self.now = c.as_slice.ensures.value ∙ c.self.view_is in
    let last : last_of c.args.self.now ≡ Some c.in-Some.last.now =
    ap last_of (sym same) ∙ (sym (last_of-slice_get c.as_slice.result.now) ∙ sym c.in-Some.ensures.value) in
    c.is_same.ensures ∙ sym (ap (λ o. is_resource o c.args.resource) last)
