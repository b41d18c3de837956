use Rattle.std.proofs.Common.{[], ◌∷◌, sym, subst}
use Rattle.osek_base.specs.declared.trace_event.Outcome.{Outcome}
use Rattle.osek_base.specs.declared.trace_event.TraceEvent.{TraceEvent}
use Rattle.machine.specs.Packed.{instr_of, service_of}
use Rattle.kernel.specs.Answered.{MayChangeIf}
use Rattle.kernel.specs.Processor.{IsNext}
use Rattle.kernel.specs.Watches.{HasBegun, Watched, WatchesWithin, executing}
use Rattle.kernel.proofs.AnsweredStamps.{answered_watched, may_change, status_is}
use Rattle.kernel.proofs.KindLemmas.{service_is}
use Rattle.kernel.proofs.WatchLemmas.{watched_of}
use Rattle.kernel.proofs.watched.Watched.serve_unlooked.Goals as goal

pub answered-requires-clause-room : goal.answered-requires-clause-room
answered-requires-clause-room g c = λ on.
    let k = c.self.inside in
    let next = c.args.next.now in
    let r = c.execute_service-status in
    let call = service_of (instr_of next.packed) in
    let is = service_is (instr_of next.packed) c.requires.may.call.plain c.requires.may.call.control in
    let comes = subst (λ (x : Watched). IsNext x.processor next) (sym c.self.view_is) c.requires.may.may.next in
    let begun = subst (HasBegun g.B.Blockers.are_counted) (sym c.self.view_is) c.requires.may.may.ready.begun in
    subst (λ s. MayChangeIf s next.owner call k.blocking.stamps)
    (sym (status_is k.processor r.new.self next comes call is _ r.result r.new.results r.new.behind r.ensures.does.does))
    (may_change k.processor next comes call is k.blocking.stamps r.ensures.few (begun.each on) (c.self.invariant.sized on))

pub returns : goal.returns
returns g c =
    let k = c.self.inside in
    let counted = g.B.Blockers.are_counted in
    let next = c.args.next.now in
    let r = c.execute_service-status in
    let call = service_of (instr_of next.packed) in
    let events = TraceEvent.Executed next.owner next.place (instr_of next.packed) (Outcome.Answer r.result r.new.results) ∷ r.new.behind in
    let is = service_is (instr_of next.packed) c.requires.may.call.plain c.requires.may.call.control in
    let comes = subst (λ (x : Watched). IsNext x.processor next) (sym c.self.view_is) c.requires.may.may.next in
    let begun = subst (HasBegun counted) (sym c.self.view_is) c.requires.may.may.ready.begun in
    subst (λ (x : Watched). WatchesWithin counted 2 executing c.args.tick x (watched_of r.new.self c.answered.new.self) [] events) c.self.view_is
    (record {
      does =
          answered_watched counted c.args.tick (watched_of k.processor k.blocking) r.new.self c.answered.new.self next call r.result [] events comes is
          c.requires.unlooked begun.each
          (status_is k.processor r.new.self next comes call is _ r.result r.new.results r.new.behind r.ensures.does.does)
          r.ensures.does.does c.answered.ensures.stamps c.answered.ensures.told;
      few = r.ensures.does.few;
    })
