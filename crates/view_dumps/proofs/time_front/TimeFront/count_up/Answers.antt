use Rattle.std.proofs.Common.{◌-◌, arith, refl}
use Rattle.view_dumps.proofs.TimeLemmas.{counted_up}
use Rattle.view_dumps.proofs.time_front.TimeFront.count_up.Goals as goal

pub invariant_of-self : goal.invariant_of-self
invariant_of-self c =
    let inside = c.self.inside in
    let is = c.self.view_is in (
      c.self.invariant.0,
      omega (arith, c.self.invariant.1),
      counted_up inside.cells inside.len (inside.len - 1) inside.tens (omega (arith, is, c.requires.some)) (omega (arith, is, c.requires.digit))
          (omega (arith, is, c.requires.fits)) (omega (arith, c.self.invariant.0, c.self.told)) refl c.self.invariant.2,
    )
