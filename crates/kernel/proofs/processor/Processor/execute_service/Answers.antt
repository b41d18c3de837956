use Rattle.std.proofs.Common.{◌≡◌, ◌++◌, ◌+◌, ◌<◌, List, length, refl, sym, ◌∙◌, ap, subst, arith}
use Rattle.osek_base.specs.declared.instr.Instr.{Instr}
use Rattle.osek_base.specs.declared.trace_event.Outcome.{Outcome}
use Rattle.osek_base.specs.declared.trace_event.Source.{Source}
use Rattle.osek_base.specs.declared.trace_event.TraceEvent.{TraceEvent}
use Rattle.osek_base.specs.Instruction.{Context}
use Rattle.osek_base.specs.Tick.{answered, error_record}
use Rattle.law_runs.proofs.Formed.{IsPlaced}
use Rattle.machine.specs.Packed.{instr_of, service_of}
use Rattle.machine.specs.Windows.{word}
use Rattle.services.specs.Calls.{context_in}
use Rattle.services.specs.Objects.{kept_in}
use Rattle.services.proofs.BoundLemmas.{activation_few}
use Rattle.services.proofs.CallerLemmas.{answered_still, context_still}
use Rattle.kernel.specs.Processor.{HasFewJobs, system_of}
use Rattle.kernel.proofs.Execution.{executing}
use Rattle.kernel.proofs.ExecutionLemmas.{service_goes, service_told}
use Rattle.kernel.proofs.KindLemmas.{service_is}
use Rattle.kernel.proofs.NextLemmas.{executed_does, fetched}
use Rattle.kernel.proofs.PlaceLemmas.{service_known, service_short, service_stays}
use Rattle.kernel.proofs.processor.Processor.execute_service.Goals as goal

pub serve-status-requires-clause-known : goal.serve-status-requires-clause-known
serve-status-requires-clause-known g c =
    let k = c.self.inside in
    let next = c.args.next.now in
    let f = fetched c.args.self.now k.system.now k.core k.windows k.code next c.self.view_is c.self.invariant c.requires.comes.next in
    let e = executing k.core next.owner in
    let is = service_is (instr_of next.packed) c.requires.call.plain c.requires.call.control in
    service_known k.core.system e.owner e.cpu f.known (service_of (instr_of next.packed)) (f.instruction ∙ is)

pub answer-requires-clause-room : goal.answer-requires-clause-room
answer-requires-clause-room g c = λ there.
    let k = c.self.inside in
    let next = c.args.next.now in
    let f = fetched c.args.self.now k.system.now k.core k.windows k.code next c.self.view_is c.self.invariant c.requires.comes.next in
    let e = executing k.core next.owner in
    let is = service_is (instr_of next.packed) c.requires.call.plain c.requires.call.control in
    subst (λ (x : Context). x.place + 1 < 1024)
    (sym (context_still k.core c.serve-status.new.self e.owner c.serve-status.ensures.caller there))
    (service_short k.core.system e.owner e.cpu f.known (service_of (instr_of next.packed)) (f.instruction ∙ is))

pub answer-requires-clause-placed : goal.answer-requires-clause-placed
answer-requires-clause-placed g c = λ there.
    let k = c.self.inside in
    let next = c.args.next.now in
    let f = fetched c.args.self.now k.system.now k.core k.windows k.code next c.self.view_is c.self.invariant c.requires.comes.next in
    let e = executing k.core next.owner in
    let r = c.serve-status in
    let is = service_is (instr_of next.packed) c.requires.call.plain c.requires.call.control in
    subst (λ T. IsPlaced T e.owner (answered c.serve-status.result r.new.results (context_in (kept_in r.new.self) e.owner))) (sym r.ensures.system)
    (subst (λ (x : Context). IsPlaced k.core.system e.owner (answered c.serve-status.result r.new.results x))
    (sym (context_still k.core r.new.self e.owner r.ensures.caller there))
    (service_stays k.core.system e.owner e.cpu f.known f.proper (service_of (instr_of next.packed)) _ _ (f.instruction ∙ is) f.placed))

pub returns-clause-does : goal.returns-clause-does
returns-clause-does g c =
    let k = c.self.inside in
    let next = c.args.next.now in
    let f = fetched c.args.self.now k.system.now k.core k.windows k.code next c.self.view_is c.self.invariant c.requires.comes.next in
    let e = executing k.core next.owner in
    let r = c.serve-status in
    let call = service_of (instr_of next.packed) in
    let is = service_is (instr_of next.packed) c.requires.call.plain c.requires.call.control in
    let none : length c.args.behind.now ≡ 0 = ap (λ (v : List TraceEvent). length v) c.requires.comes.none in
    record {
      does =
          executed_does c.args.self.now k.core c.answer.new.self k.windows k.windows next c.self.view_is f (Instr.Service call) is
          (Outcome.Answer c.serve-status.result r.new.results) c.record_refusal.new.behind (c.answer.ensures.system ∙ r.ensures.system)
          (service_goes k.core.system e call (word k.windows) k.core r.new.self c.answer.new.self (answered c.serve-status.result r.new.results e.cpu)
          c.serve-status.result r.new.results f.who r.ensures.status r.ensures.results r.ensures.kept refl
          (c.answer.ensures.kept ∙ answered_still k.core r.new.self e.owner c.serve-status.result r.new.results r.ensures.caller))
          (service_told k.core.system e call (word k.windows) k.core c.serve-status.result r.new.results f.who r.ensures.status r.ensures.results
          c.record_refusal.new.behind
          (c.record_refusal.ensures.value ∙ ap (λ v. v ++ error_record k.system.now (Source.Owner e.owner) (Instr.Service call) c.serve-status.result) c.requires.comes.none
          ∙ ap (λ T. error_record T (Source.Owner e.owner) (Instr.Service call) c.serve-status.result) (sym c.self.invariant.system)));
      few = omega (arith, c.record_refusal.ensures.few, none);
    }

pub returns-clause-few : goal.returns-clause-few
returns-clause-few g c =
    let k = c.self.inside in
    subst HasFewJobs (sym c.self.invariant.system ∙ ap system_of c.self.view_is) (activation_few k.system.now c.self.invariant.proper)
