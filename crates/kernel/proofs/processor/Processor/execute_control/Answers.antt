use Rattle.std.proofs.Common.{◌≡◌, ◌∷◌, ◌++◌, ◌+◌, ◌<◌, List, length, sym, ◌∙◌, ap, subst, arith}
use Rattle.osek_base.specs.declared.instr.Instr.{Instr}
use Rattle.osek_base.specs.declared.trace_event.Outcome.{Outcome}
use Rattle.osek_base.specs.declared.trace_event.TraceEvent.{TraceEvent}
use Rattle.osek_base.specs.Instruction.{Context}
use Rattle.osek_base.specs.Tick.{shutdown_record}
use Rattle.law_runs.proofs.Formed.{IsPlaced}
use Rattle.machine.specs.Packed.{instr_of}
use Rattle.machine.specs.Windows.{word}
use Rattle.kernel.specs.Controls.{control_context}
use Rattle.kernel.proofs.Execution.{executing}
use Rattle.kernel.proofs.ExecutionLemmas.{control_goes, may_still, returning_routine}
use Rattle.kernel.proofs.KindLemmas.{control_is}
use Rattle.kernel.proofs.NextLemmas.{executed_does, fetched, goes_on_there}
use Rattle.kernel.proofs.PlaceLemmas.{control_next, control_stays}
use Rattle.kernel.proofs.processor.Processor.execute_control.Goals as goal

pub following-requires : goal.following-requires
following-requires g c = λ goes.
    let k = c.self.inside in
    let next = c.args.next.now in
    let f = fetched c.args.self.now k.system.now k.core k.windows k.code next c.self.view_is c.self.invariant c.requires.comes.next in
    let e = executing k.core next.owner in
    let is = f.instruction ∙ control_is (instr_of next.packed) c.requires.control ∙ ap Instr.Control (sym c.control-control.ensures) in
    let short : e.cpu.place + 1 < 1024 = omega (arith, control_next k.core.system e.owner e.cpu f.known c.control-control.result is goes, f.known.short) in
    subst (λ (x : Context). x.place + 1 < 1024) (sym c.cpu_of-cpu.ensures) short

pub go_on-requires-clause-who : goal.go_on-requires-clause-who
go_on-requires-clause-who g c =
    let k = c.self.inside in
    let next = c.args.next.now in
    let f = fetched c.args.self.now k.system.now k.core k.windows k.code next c.self.view_is c.self.invariant c.requires.comes.next in
    may_still k.core c.control.new.self next.owner (goes_on_there k.core next f) c.control.ensures.caller

pub go_on-requires-clause-placed : goal.go_on-requires-clause-placed
go_on-requires-clause-placed g c =
    let k = c.self.inside in
    let next = c.args.next.now in
    let f = fetched c.args.self.now k.system.now k.core k.windows k.code next c.self.view_is c.self.invariant c.requires.comes.next in
    let e = executing k.core next.owner in
    let is = f.instruction ∙ control_is (instr_of next.packed) c.requires.control ∙ ap Instr.Control (sym c.control-control.ensures) in
    subst (λ T. IsPlaced T e.owner c.following.result) (sym c.control.ensures.system)
    (subst (λ (x : Context). IsPlaced k.core.system e.owner x)
    (sym (c.following.ensures ∙ ap (λ (x : Context). control_context c.control-control.result x) c.cpu_of-cpu.ensures))
    (control_stays k.core.system e.owner e.cpu f.known f.proper c.control-control.result is f.placed))

pub returns : goal.returns
returns g c =
    let k = c.self.inside in
    let next = c.args.next.now in
    let f = fetched c.args.self.now k.system.now k.core k.windows k.code next c.self.view_is c.self.invariant c.requires.comes.next in
    let e = executing k.core next.owner in
    let control = c.control-control.result in
    let is = control_is (instr_of next.packed) c.requires.control ∙ ap Instr.Control (sym c.control-control.ensures) in
    let none : length c.args.behind.now ≡ 0 = ap (λ (v : List TraceEvent). length v) c.requires.comes.none in
    record {
      does =
          executed_does c.args.self.now k.core c.go_on.new.self k.windows k.windows next c.self.view_is f (Instr.Control control) is
          Outcome.Control c.record_shutdown.new.records (c.go_on.ensures.system ∙ c.control.ensures.system)
          (control_goes k.core.system e control (word k.windows) k.core c.control.new.self c.go_on.new.self c.following.result
          (returning_routine k.core.system e.owner e.cpu.place control f.known (f.instruction ∙ is)) c.control.ensures.kept
          (c.following.ensures ∙ ap (λ (x : Context). control_context control x) c.cpu_of-cpu.ensures) c.go_on.ensures.kept)
          (ap (λ (v : List TraceEvent). TraceEvent.Executed e.owner e.cpu.place (Instr.Control control) Outcome.Control ∷ v)
          (c.record_shutdown.ensures.value ∙ ap (λ v. v ++ shutdown_record k.system.now control) c.requires.comes.none
          ∙ ap (λ T. shutdown_record T control) (sym c.self.invariant.system)));
      few = omega (arith, c.record_shutdown.ensures.few, none);
    }
