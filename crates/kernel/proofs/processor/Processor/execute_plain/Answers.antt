use Rattle.std.proofs.Common.{[], ◌∷◌, refl, ◌∙◌, ap}
use Rattle.osek_base.specs.declared.instr.Instr.{Instr}
use Rattle.osek_base.specs.declared.trace_event.Effect.{Effect}
use Rattle.osek_base.specs.declared.trace_event.Outcome.{Outcome}
use Rattle.osek_base.specs.declared.trace_event.TraceEvent.{TraceEvent}
use Rattle.osek_base.specs.Instruction.{plain}
use Rattle.machine.specs.Packed.{instr_of, plain_of}
use Rattle.machine.specs.Windows.{word}
use Rattle.kernel.proofs.Execution.{executing}
use Rattle.kernel.proofs.ExecutionLemmas.{plain_goes}
use Rattle.kernel.proofs.KindLemmas.{plain_is}
use Rattle.kernel.proofs.NextLemmas.{executed_does, fetched}
use Rattle.kernel.proofs.PlaceLemmas.{has_next, plain_stays}
use Rattle.kernel.proofs.processor.Processor.execute_plain.Goals as goal

pub exec_packed-requires-clause-plain : goal.exec_packed-requires-clause-plain
exec_packed-requires-clause-plain g c =
    let k = c.self.inside in
    let next = c.args.next in
    let f = fetched c.args.self.now k.system.now k.core k.windows k.code next c.self.view_is c.self.invariant c.requires.next in
    record {
      tells = c.requires.plain;
      next =
          has_next k.core.system next.owner (executing k.core next.owner).cpu f.known (plain_of (instr_of next.packed))
          (f.instruction ∙ plain_is (instr_of next.packed) c.requires.plain);
    }

pub exec_packed-requires-clause-placed : goal.exec_packed-requires-clause-placed
exec_packed-requires-clause-placed g c =
    let k = c.self.inside in
    let next = c.args.next in
    let f = fetched c.args.self.now k.system.now k.core k.windows k.code next c.self.view_is c.self.invariant c.requires.next in
    plain_stays k.core.system next.owner (executing k.core next.owner).cpu f.known f.proper (plain_of (instr_of next.packed)) _
    (f.instruction ∙ plain_is (instr_of next.packed) c.requires.plain) f.placed

pub returns : goal.returns
returns g c =
    let k = c.self.inside in
    let next = c.args.next in
    let r = c.exec_packed in
    let e = executing k.core next.owner in
    let p = plain_of (instr_of next.packed) in
    executed_does c.args.self.now k.core r.new.self k.windows r.new.windows next c.self.view_is
    (fetched c.args.self.now k.system.now k.core k.windows k.code next c.self.view_is c.self.invariant c.requires.next)
    (Instr.Plain p) (plain_is (instr_of next.packed) c.requires.plain) (Outcome.Plain r.result) [] r.ensures.system
    (plain_goes k.core.system e p k.windows r.new.windows k.core r.new.self (plain p e.cpu (word k.windows e.owner)).context r.result r.ensures.effect refl r.ensures.words r.ensures.kept)
    (ap (λ (f : Effect). TraceEvent.Executed e.owner e.cpu.place (Instr.Plain p) (Outcome.Plain f) ∷ []) r.ensures.effect)
