use Rattle.std.proofs.Common.{◌≡◌, subst}
use Rattle.law_kept.specs.KeptTick.{silent_in}
use Rattle.law_kept.specs.Moves.{rescheduled}
use Rattle.services.specs.Objects.{Objects, kept_in}
use Rattle.services.proofs.DispatchedLemmas.{rescheduled_again}
use Rattle.services.proofs.os_core.Core.is_dispatched.Goals as goal

pub returns : goal.returns
returns g c = λ known.
    let o : Objects = c.self.inside.objects in
    subst (λ (x : Objects). rescheduled x.system (kept_in x) ≡ silent_in (kept_in x)) c.self.view_is
    (rescheduled_again o.system (kept_in o) (c.self.invariant.dispatched known))
