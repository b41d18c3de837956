use Rattle.std.proofs.Common.{◌≡◌, [], ◌∷◌, ◌<◌, length, sym, ◌∙◌, ap, subst}
use Rattle.std.specs.Prelude.{IfSome}
use Rattle.osek_base.specs.declared.instr.Instr.{Instr}
use Rattle.osek_base.specs.declared.trace_event.Outcome.{Outcome}
use Rattle.osek_base.specs.declared.trace_event.TraceEvent.{TraceEvent}
use Rattle.machine.specs.Packed.{instr_of}
use Rattle.law_blockers.specs.Restamping.{stamps_at}
use Rattle.kernel.specs.declared.stamping.Stand.{Stand}
use Rattle.kernel.specs.Processor.{IsNext, picture, system_of}
use Rattle.kernel.specs.Watches.{HasBegun, Watched, WatchesWithin, executing}
use Rattle.kernel.proofs.ExecutedStamps.{counted_stand, known_stand, named_there, served}
use Rattle.kernel.proofs.KindLemmas.{service_is}
use Rattle.kernel.proofs.WatchLemmas.{watched_of}
use Rattle.kernel.proofs.watched.Watched.serve.Goals as goal

pub stand-before-requires : goal.stand-before-requires
stand-before-requires g c =
    let p = c.self.inside.processor in
    let next = c.args.next.now in
    named_there p next c.service-service.result c.acting_task-named.result
    (subst (λ (x : Watched). IsNext x.processor next) (sym c.self.view_is) c.requires.may.next)
    (service_is (instr_of next.packed) c.requires.call.plain c.requires.call.control ∙ ap Instr.Service (sym c.service-service.ensures))
    c.acting_task-named.ensures

pub stand-after-requires : goal.stand-after-requires
stand-after-requires g c =
    let p = c.self.inside.processor in
    let next = c.args.next.now in
    subst (λ S. IfSome c.acting_task-named.result (λ t. t < length S.tasks)) (sym c.execute_service-status.ensures.does.does.system)
    (named_there p next c.service-service.result c.acting_task-named.result
    (subst (λ (x : Watched). IsNext x.processor next) (sym c.self.view_is) c.requires.may.next)
    (service_is (instr_of next.packed) c.requires.call.plain c.requires.call.control ∙ ap Instr.Service (sym c.service-service.ensures))
    c.acting_task-named.ensures)

pub executed_since-requires : goal.executed_since-requires
executed_since-requires g c = λ on.
    let k = c.self.inside in
    let next = c.args.next.now in
    let known = named_there k.processor next c.service-service.result c.acting_task-named.result
    (subst (λ (x : Watched). IsNext x.processor next) (sym c.self.view_is) c.requires.may.next)
    (service_is (instr_of next.packed) c.requires.call.plain c.requires.call.control ∙ ap Instr.Service (sym c.service-service.ensures))
    c.acting_task-named.ensures in
    let begun = subst (HasBegun g.B.Blockers.are_counted) (sym c.self.view_is) c.requires.may.ready.begun in
    record {
      running = subst (λ n. IfSome c.stand-before.result.running (λ t. t < n)) (sym (c.self.invariant.sized on)) c.stand-before.ensures.known;
      task = subst (λ n. IfSome c.stand-before.result.named (λ b. b.task < n)) (sym (c.self.invariant.sized on))
          (subst (λ (v : Stand). IfSome v.named (λ b. b.task < length (system_of k.processor).tasks)) (sym c.stand-before.ensures.value)
          (known_stand (picture k.processor) (length (system_of k.processor).tasks) c.acting_task-named.result known));
      counted = subst (λ (v : Stand). IfSome v.named (λ b. length (stamps_at k.blocking.stamps b.task) ≡ b.count)) (sym c.stand-before.ensures.value)
          (counted_stand (picture k.processor) k.blocking.stamps c.acting_task-named.result (begun.each on));
      few = c.stand-after.ensures.few;
    }

pub returns : goal.returns
returns g c =
    let k = c.self.inside in
    let counted = g.B.Blockers.are_counted in
    let next = c.args.next.now in
    let r = c.execute_service-status in
    let events = TraceEvent.Executed next.owner next.place (instr_of next.packed) (Outcome.Answer r.result r.new.results) ∷ r.new.behind in
    let is = service_is (instr_of next.packed) c.requires.call.plain c.requires.call.control ∙ ap Instr.Service (sym c.service-service.ensures) in
    subst (λ (x : Watched). WatchesWithin counted 2 executing c.args.tick x (watched_of r.new.self c.executed_since.new.self) [] events) c.self.view_is
    (record {
      does = served counted c.args.tick (watched_of k.processor k.blocking) r.new.self c.executed_since.new.self next c.service-service.result c.acting_task-named.result
          c.stand-before.result c.stand-after.result [] events (subst (λ (x : Watched). IsNext x.processor next) (sym c.self.view_is) c.requires.may.next) is
          c.acting_task-named.ensures c.stand-before.ensures.value c.stand-after.ensures.value r.ensures.does.does c.executed_since.ensures.stamps
          c.executed_since.ensures.told;
      few = r.ensures.does.few;
    })
