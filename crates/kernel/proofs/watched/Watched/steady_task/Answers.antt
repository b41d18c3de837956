use Rattle.std.proofs.Common.{◌<◌, ℕ, length, ◌∙◌, ap}
use Rattle.std.specs.Prelude.{Option, Some, None, IfSome}
use Rattle.osek_base.specs.declared.ids.Owner.{Owner}
use Rattle.law_runs.proofs.Formed.{IsPlaced}
use Rattle.services.specs.Calls.{context_in}
use Rattle.services.specs.Objects.{Objects, kept_in}
use Rattle.services.specs.Steady.{IsSteady}
use Rattle.kernel.specs.Steady.{ExecutesNext}
use Rattle.kernel.specs.Watches.{Watched}
use Rattle.kernel.proofs.SteadyLemmas.{executes_by_objects}
use Rattle.kernel.proofs.WatchLemmas.{watched_of}
use Rattle.kernel.proofs.watched.Watched.steady_task.Goals as goal

pub returns : goal.returns
returns g c =
    go c.steady_task.result c.steady_task.ensures.steady c.steady_task.ensures.known c.steady_task.ensures.placed
  where
    o : Objects
    o = c.self-inside.inside.0.0.core

    go : (r : Option ℕ) → IfSome r (IsSteady o.system (kept_in o)) → IfSome r (λ t. t < length o.system.tasks)
        → IfSome r (λ t. IsPlaced o.system (Owner.Task t) (context_in (kept_in o) (Owner.Task t)))
        → IfSome r (ExecutesNext c.args.self.now)
    go None h known placed = h
    go (Some t) h known placed =
        executes_by_objects c.args.self.now o c.self-inside.inside.0.0.windows t
        (ap (λ (x : Watched). x.processor)
        ((λ i. watched_of (c.self-inside.view_is i).processor (c.self-inside.view_is i).blocking) ∙ c.self.view_is))
        h known placed
