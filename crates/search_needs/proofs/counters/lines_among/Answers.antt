use Rattle.std.proofs.Common.{◌≡◌, ◌∙◌, subst}
use Rattle.osek_base.specs.declared.instr.Plain.{Plain}
use Rattle.osek_base.specs.declared.instr.Instr.{Instr}
use Rattle.osek_base.specs.System.{instruction_in}
use Rattle.search_needs.specs.Asked.{Asks}
use Rattle.search_needs.specs.Table.{has}
use Rattle.search_needs.proofs.EntryLemmas.{below_more, element}
use Rattle.search_needs.proofs.counters.lines_among.Goals as goal

pub loop-place-preserved : goal.loop-place-preserved
loop-place-preserved c =
    below_more (λ k. Asks c.args.system.now (has c.args.counters) (instruction_in c.args.lines.now k))
    c.loop-place.place c.loop-place.invariant
    (subst (Asks c.args.system.now (has c.args.counters)) here (c.is_among.ensures c.if-not-is_among.false))
  where
    here : c.instr.result.now ≡ instruction_in c.args.lines.now c.loop-place.place
    here =
        c.instr.ensures ∙ c.index-lines-place.is
        ∙ element c.args.lines.now c.loop-place.place c.index-lines-place.result (Instr.Plain Plain.Nop) c.loop-place-test.true
