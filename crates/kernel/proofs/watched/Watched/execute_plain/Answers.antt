use Rattle.std.proofs.Common.{◌≡◌, List, [], ◌∷◌, length, sym, ap, subst, arith}
use Rattle.osek_base.specs.declared.trace_event.TraceEvent.{TraceEvent}
use Rattle.machine.specs.Packed.{instr_of}
use Rattle.kernel.specs.Processor.{IsNext}
use Rattle.kernel.specs.Watches.{Watched, WatchesWithin, executing}
use Rattle.kernel.proofs.ExecutedStamps.{plain_watched}
use Rattle.kernel.proofs.WatchLemmas.{watched_of}
use Rattle.kernel.proofs.watched.Watched.execute_plain.Goals as goal

pub returns : goal.returns
returns g c =
    let k = c.self.inside in
    let counted = g.B.Blockers.are_counted in
    let next = c.args.next in
    let event = TraceEvent.Executed next.owner next.place (instr_of next.packed) c.execute_plain.result in
    let none : length c.args.behind.now ≡ 0 = ap (λ (v : List TraceEvent). length v) c.requires.may.ready.none in
    subst (λ (x : Watched). WatchesWithin counted 2 executing c.args.tick x (watched_of c.execute_plain.new.self k.blocking) [] (event ∷ c.args.behind.now))
    c.self.view_is
    (record {
      does =
          plain_watched counted c.args.tick (watched_of k.processor k.blocking) c.execute_plain.new.self next event c.args.behind.now
          (subst (λ (x : Watched). IsNext x.processor next) (sym c.self.view_is) c.requires.may.next) c.requires.plain
          c.requires.may.ready.none c.execute_plain.ensures;
      few = omega (arith, none);
    })
