use Rattle.std.proofs.Common.{sym, ◌∙◌, ap, arith}
use Rattle.osek_base.specs.declared.limits.TheConstants.{REGISTERS}
use Rattle.osek_base.specs.Instruction.{value}
use Rattle.search_needs.specs.Table.{need_of}
use Rattle.search_keys.specs.Bytes.{needed, number}
use Rattle.search_states.proofs.SetLemmas.{written_below, written_next}
use Rattle.search_states.proofs.executing.push_registers.Goals as goal

pub loop-number-preserved : goal.loop-number-preserved
loop-number-preserved c =
    let values = value c.args.cpu.now in
    let need = (need_of c.args.needs.now).registers c.args.owner.now in
    let n = c.in-Some.number in (
      omega (arith, c.in-Some.ensures.1),
      written_next _ c.needed_registers-registers.result c.loop-number.from
          (λ r. needed (need r) (values r))
          (λ r low none.
          ap (λ b. needed b (values r)) (c.needed_registers-registers.ensures r ∙ none))
          c.loop-number.out.items _ _ n _ c.in-Some.ensures.0 c.in_ok-push_number.ensures
          (ap number (c.value.ensures ∙ ap values c.new.ensures)
          ∙ sym (ap (λ b. needed b (values n))
          (c.needed_registers-registers.ensures n ∙ c.in-Some.ensures.0.inside)))
          c.loop-number.invariant.1 (omega arith),
    )

pub returns : goal.returns
returns c =
    let values = value c.args.cpu.now in
    let need = (need_of c.args.needs.now).registers c.args.owner.now in
    written_below _ c.needed_registers-registers.result c.loop-number.from
    (λ r. needed (need r) (values r))
    (λ r low none.
    ap (λ b. needed b (values r)) (c.needed_registers-registers.ensures r ∙ none))
    c.loop-number.out.items REGISTERS (omega arith) c.loop-number.invariant.0
    c.in_default.ensures c.loop-number.invariant.1
