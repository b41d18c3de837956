use Rattle.std.proofs.Common.{◌≡◌, ◌∙◌, subst}
use Rattle.osek_base.specs.declared.instr.Plain.{Plain}
use Rattle.osek_base.specs.declared.instr.Instr.{Instr}
use Rattle.osek_base.specs.System.{instruction_in}
use Rattle.law_future.specs.Need.{Respects}
use Rattle.search_needs.specs.Table.{need_by}
use Rattle.search_needs.proofs.EntryLemmas.{below_more, element}
use Rattle.search_needs.proofs.closed.places_respected.Goals as goal

pub loop-place-preserved : goal.loop-place-preserved
loop-place-preserved c who =
    below_more (λ k. Respects (need_by c.args.own.now c.args.shared) who k (instruction_in c.args.lines.now k))
    c.loop-place.place (c.loop-place.invariant who)
    (subst (λ what. Respects (need_by c.args.own.now c.args.shared) who c.loop-place.place what) here
    (c.respects.ensures c.if-not-respects.false who))
  where
    here : c.instr.result.now ≡ instruction_in c.args.lines.now c.loop-place.place
    here =
        c.instr.ensures ∙ c.index-lines-place.is
        ∙ element c.args.lines.now c.loop-place.place c.index-lines-place.result (Instr.Plain Plain.Nop) c.loop-place-test.true
