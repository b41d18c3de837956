use Rattle.std.proofs.Common.{◌∙◌, sym}
use Rattle.std.specs.Prelude.{slice_range}
use Rattle.kernel.specs.Machine.{next_tick}
use Rattle.search_witnesses.proofs.Walking.{advanced, known_now, lent}
use Rattle.search_witnesses.proofs.walk.Walk.advance.Goals as goal

pub tick-requires-clause-known : goal.tick-requires-clause-known
tick-requires-clause-known c =
    let w = c.self.inside in
    known_now w.system.now w.mode w.arrivals.now w.routines.items w.came w.machine w.watcher
    c.self.invariant
    (slice_range c.as_slice.result.now w.came c.came_by-end.result)
    (lent w.arrivals.now c.list.result.now w.routines.items c.as_slice.result.now
    (next_tick w.machine) c.next_tick-tick.result w.came c.came_by-end.result
    c.list.ensures.value c.self.invariant.routines c.as_slice.ensures.value
    c.next_tick-tick.ensures.value c.came_by-end.ensures.these c.came_by-end.ensures.left).these

pub invariant_of-self : goal.invariant_of-self
invariant_of-self c =
    let w = c.self.inside in
    let t = c.tick.ensures in
    advanced w.system.now w.mode w.arrivals.now w.routines.items w.came w.machine w.watcher
    c.self.invariant c.came_by-end.result
    (slice_range c.as_slice.result.now w.came c.came_by-end.result)
    c.tick.new.machine c.tick.new.self (sym c.is_shut_down.ensures ∙ c.if-is_shut_down.false)
    (lent w.arrivals.now c.list.result.now w.routines.items c.as_slice.result.now
    (next_tick w.machine) c.next_tick-tick.result w.came c.came_by-end.result
    c.list.ensures.value c.self.invariant.routines c.as_slice.ensures.value
    c.next_tick-tick.ensures.value c.came_by-end.ensures.these c.came_by-end.ensures.left)
    (record { system = t.system; after = t.after; next = t.next; seen = t.seen })
