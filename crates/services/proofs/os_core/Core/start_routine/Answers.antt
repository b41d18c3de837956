use Rattle.services.proofs.StandsLemmas.{stands_routine}
use Rattle.services.proofs.SteadyLemmas.{started_settled, still_settled}
use Rattle.services.proofs.os_core.Core.start_routine.Goals as goal
use Rattle.law_kept.specs.KeptTick.{start_phase_in}
use Rattle.services.specs.Objects.{Objects, kept_in}
use Rattle.services.proofs.DispatchedLemmas.{started_dispatched, still_dispatched}

pub invariant_of-self : goal.invariant_of-self
invariant_of-self g c =
    let o : Objects = c.self.inside.objects in
    record {
      stands = stands_routine o c.start_routine.new.self c.start_routine.ensures.system c.self.invariant.stands c.start_routine.ensures.kept;
      dispatched = λ known.
          still_dispatched o c.start_routine.new.self (start_phase_in o.system) c.start_routine.ensures.system c.start_routine.ensures.kept
          (started_dispatched o.system (kept_in o)) (c.self.invariant.dispatched known);
      settled = λ known.
          still_settled o c.start_routine.new.self (start_phase_in o.system) c.start_routine.ensures.system c.start_routine.ensures.kept
          (started_settled o.system (kept_in o) (c.self.invariant.settled known));
      both = c.self.invariant.both;
    }
