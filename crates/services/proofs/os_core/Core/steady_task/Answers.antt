use Rattle.std.proofs.Common.{◌<◌, length, subst, sym}
use Rattle.std.specs.Prelude.{IfSome, Some}
use Rattle.osek_base.specs.declared.ids.Owner.{Owner}
use Rattle.law_runs.proofs.Formed.{IsPlaced}
use Rattle.services.specs.Calls.{context_in}
use Rattle.services.specs.Objects.{Objects, kept_in}
use Rattle.services.specs.Steady.{IsSteady}
use Rattle.services.proofs.StandsLemmas.{fit_where_stands}
use Rattle.services.proofs.SteadyLemmas.{runner_known, runner_placed, steady}
use Rattle.services.proofs.os_core.Core.steady_task.Goals as goal

pub runner-requires : goal.runner-requires
runner-requires g c = (c.self.invariant.settled c.if-self.true).runs

pub returns-then-self-clause-steady : goal.returns-then-self-clause-steady
returns-then-self-clause-steady g c =
    let o : Objects = c.self.inside.objects in
    subst (λ (x : Objects). IfSome (Some c.runner.result) (IsSteady x.system (kept_in x))) c.self.view_is
    (steady o.system (kept_in o) (c.self.invariant.dispatched (c.self.invariant.both c.if-self.true)) (c.self.invariant.settled c.if-self.true)
    (Some c.runner.result) (sym c.runner.ensures))

pub returns-then-self-clause-known : goal.returns-then-self-clause-known
returns-then-self-clause-known g c =
    let o : Objects = c.self.inside.objects in
    subst (λ (x : Objects). c.runner.result < length x.system.tasks) c.self.view_is
    (runner_known o.system (kept_in o) c.runner.result (fit_where_stands o c.self.invariant.stands) c.runner.ensures)

pub returns-then-self-clause-placed : goal.returns-then-self-clause-placed
returns-then-self-clause-placed g c =
    let o : Objects = c.self.inside.objects in
    let stands = (steady o.system (kept_in o) (c.self.invariant.dispatched (c.self.invariant.both c.if-self.true)) (c.self.invariant.settled c.if-self.true)
    (Some c.runner.result) (sym c.runner.ensures)).stands in
    subst (λ (x : Objects). IsPlaced x.system (Owner.Task c.runner.result) (context_in (kept_in x) (Owner.Task c.runner.result))) c.self.view_is
    (runner_placed o.system (kept_in o) c.runner.result (fit_where_stands o c.self.invariant.stands) c.runner.ensures stands)
