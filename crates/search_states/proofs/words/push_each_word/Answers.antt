use Rattle.std.proofs.Common.{sym, ◌∙◌, ap, arith}
use Rattle.kernel.specs.Machine.{picture}
use Rattle.search_needs.specs.Table.{need_of}
use Rattle.search_keys.specs.Bytes.{needed, number}
use Rattle.search_states.proofs.SetLemmas.{written_next, written_all}
use Rattle.search_states.proofs.words.push_each_word.Goals as goal

pub loop-index-preserved : goal.loop-index-preserved
loop-index-preserved g c =
    let words = (picture c.args.machine.now).words c.args.owner.now in
    let need = (need_of c.args.needs.now).words c.args.owner.now in
    let n = c.in-Some.index in (
      omega (arith, c.in-Some.ensures.low),
      written_next _ c.needed_words-words.result c.loop-index.from (λ i. needed (need i) (words i))
          (λ i low none.
          ap (λ b. needed b (words i)) (c.needed_words-words.ensures i ∙ none))
          c.loop-index.out.items _ _ n _ c.in-Some.ensures c.in_ok-push_number.ensures
          (ap number c.word.ensures
          ∙ sym (ap (λ b. needed b (words n))
          (c.needed_words-words.ensures n ∙ c.in-Some.ensures.inside)))
          c.loop-index.invariant.1 (omega arith),
    )

pub returns : goal.returns
returns g c =
    let words = (picture c.args.machine.now).words c.args.owner.now in
    let need = (need_of c.args.needs.now).words c.args.owner.now in
    written_all _ c.needed_words-words.result c.loop-index.from (λ i. needed (need i) (words i))
    (λ i low none. ap (λ b. needed b (words i)) (c.needed_words-words.ensures i ∙ none))
    c.loop-index.out.items c.loop-index.invariant.0 c.in_default.ensures c.loop-index.invariant.1
