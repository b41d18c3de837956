use Rattle.std.proofs.Common.{◌≡◌, List, Bool, false, slice_index_or, length, subst}
use Rattle.std.specs.Prelude.{None}
use Rattle.osek_base.specs.Lists.{below}
use Rattle.osek_base.specs.System.{routine}
use Rattle.osek_base.specs.Tick.{routine_choice}
use Rattle.law_kept.specs.KeptService.{bare}
use Rattle.services.specs.Objects.{Objects, kept_in}
use Rattle.services.proofs.RoutineLemmas.{foremost_nowhere}
use Rattle.services.proofs.objects.Objects.is_none_pending.Goals as goal

pub returns : goal.returns
returns g c = λ is.
    let S = c.self.inside.system.now in
    let flags : List Bool = c.self.inside.pending in
    subst (λ (k : Objects). routine_choice k.system (bare (kept_in k)) ≡ None) c.self.view_is
    (foremost_nowhere (λ i. slice_index_or flags i false) (λ i. (routine S i).priority) (c.is_unset.ensures is)
    (below (length S.routines)))
