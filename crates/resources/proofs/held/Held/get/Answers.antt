use Rattle.std.proofs.Common.{◌≡◌, ◌≤◌, ◌+◌, false, length, lit<, [], ◌∷◌, ◌++◌, arith}
use Rattle.std.proofs.lemmas.List.{length-append}
use Rattle.osek_base.specs.declared.limits.TheConstants.{MAX_RESOURCES}
use Rattle.resources.specs.Held.{IsEachOnce, is_held}
use Rattle.resources.proofs.HeldLemmas.{length-held, once-get}
use Rattle.resources.proofs.held.Held.get.Goals as goal

pub push-requires : goal.push-requires
push-requires c =
    let new : is_held c.args.resource c.self.inside.resources.items ≡ false = rw c.self.view_is c.requires in
    let once : IsEachOnce (c.self.inside.resources.items ++ c.args.resource ∷ []) = once-get _ _ c.self.invariant c.number_of-number.ensures.low new in
    let most : length (c.self.inside.resources.items ++ c.args.resource ∷ []) ≤ MAX_RESOURCES + 1 = length-held _ once in
    (lit< tt, omega (arith, length-append c.self.inside.resources.items (c.args.resource ∷ [])))

pub invariant_of-self : goal.invariant_of-self
invariant_of-self c =
    let new : is_held c.args.resource c.self.inside.resources.items ≡ false = rw c.self.view_is c.requires in
    rw c.push.ensures.items (once-get _ _ c.self.invariant c.number_of-number.ensures.low new)
