use Rattle.std.proofs.Common.{List, map, sym, ◌∙◌, ap, arith}
use Rattle.std.specs.Prelude.{Some}
use Rattle.osek_base.specs.declared.instr.Instr.{Instr}
use Rattle.machine.specs.Code.{meant}
use Rattle.machine.proofs.CodeLemmas.{all_meant, instrs_are, meant_more}
use Rattle.machine.proofs.packed_program.PackedProgram.of.Goals as goal

pub loop-place-preserved : goal.loop-place-preserved
loop-place-preserved c =
    let p = c.args.program.now in
    ap meant c.in_ok-push.ensures.items
    ∙ meant_more c.loop-place.words.items p c.loop-place.place c.pack.result c.at.result c.loop-place.invariant c.at.ensures
    (omega (arith, c.loop-place-test.true, c.len-place-end.ensures)) c.pack.ensures.back

pub invariant_of-result : goal.invariant_of-result
invariant_of-result c =
    let p = c.args.program.now in
    let all = all_meant c.loop-place.words.items p c.loop-place.place c.loop-place.invariant
    (omega (arith, c.loop-place-test.false, c.len-place-end.ensures)) in
    all ∙ sym (ap (λ (xs : List Instr). map Some xs) (instrs_are c.loop-place.words.items p all))

pub returns : goal.returns
returns c =
    let p = c.args.program.now in
    instrs_are c.loop-place.words.items p (all_meant c.loop-place.words.items p c.loop-place.place c.loop-place.invariant
    (omega (arith, c.loop-place-test.false, c.len-place-end.ensures)))
