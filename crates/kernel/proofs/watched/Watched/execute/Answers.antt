use Rattle.std.proofs.Common.{[], ◌∷◌, sym, ◌∙◌, subst}
use Rattle.osek_base.specs.declared.trace_event.Outcome.{Outcome}
use Rattle.osek_base.specs.declared.trace_event.TraceEvent.{TraceEvent}
use Rattle.machine.specs.Packed.{instr_of}
use Rattle.kernel.specs.Processor.{IsNext}
use Rattle.kernel.specs.Watches.{Watched, WatchesWithin, executing}
use Rattle.kernel.proofs.ExecutedStamps.{control_watched}
use Rattle.kernel.proofs.WatchLemmas.{watched_of}
use Rattle.kernel.proofs.watched.Watched.execute.Goals as goal

pub returns-then-is_control : goal.returns-then-is_control
returns-then-is_control g c =
    let k = c.self.inside in
    let counted = g.B.Blockers.are_counted in
    let next = c.args.next in
    let events = TraceEvent.Executed next.owner next.place (instr_of next.packed) Outcome.Control ∷ c.execute_control.new.behind in
    subst (λ (x : Watched). WatchesWithin counted 2 executing c.args.tick x (watched_of c.execute_control.new.self k.blocking) [] events)
    c.self.view_is
    (record {
      does =
          control_watched counted c.args.tick (watched_of k.processor k.blocking) c.execute_control.new.self next [] events
          (subst (λ (x : Watched). IsNext x.processor next) (sym c.self.view_is) c.requires.may.next)
          (sym c.is_control.ensures ∙ c.if-is_control.true) c.execute_control.ensures.does;
      few = c.execute_control.ensures.few;
    })
