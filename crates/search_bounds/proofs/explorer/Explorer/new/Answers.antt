use Rattle.std.proofs.Common.{◌≡◌, false}
use Rattle.std.specs.Prelude.{Ok}
use Rattle.kernel.specs.Machine.{IsBooted}
use Rattle.search_nodes.specs.Ground.{Ground}
use Rattle.search_bounds.proofs.Fallible.{of_ok}
use Rattle.search_bounds.proofs.explorer.Explorer.new.Goals as goal

pub invariant_of-result : goal.invariant_of-result
invariant_of-result g c =
    let states = c.in_ok-states.states in
    let current = c.in_ok-states.current in
    let made = c.in_ok-states.ensures.one in
    let is_first = of_ok (λ p. c.new.result ≡ Ok p.0) c.both-machines.result (states, current)
    made c.both-machines.ensures.one in
    let is_second = of_ok (λ p. c.boot-current.result ≡ Ok p.1) c.both-machines.result
    (states, current) made c.both-machines.ensures.other in
    let booted = of_ok (IsBooted false c.args.system.now c.args.mode) c.boot-current.result
    current is_second c.boot-current.ensures in
    record {
      ground = c.requires;
      machines = λ i. record {
        system = of_ok (λ (h : Ground). h.system ≡ c.args.system.now) c.new.result states
            is_first c.new.ensures.system i;
        needs = of_ok (λ (h : Ground). h.needs ≡ c.args.needs.now) c.new.result states
            is_first c.new.ensures.needs i;
      };
      system = booted.system;
      of_run = booted.of_run;
    }
