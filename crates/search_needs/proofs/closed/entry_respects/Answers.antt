use Rattle.std.proofs.Common.{ℕ, ◌≡◌, IsTrue, length, sym, ◌∙◌, ap, subst}
use Rattle.std.proofs.lemmas.Bool.{ltb-true}
use Rattle.osek_base.specs.declared.limits.TheConstants.{REGISTERS, WINDOW_WORDS}
use Rattle.search_needs.specs.Table.{allows}
use Rattle.search_needs.proofs.EntryLemmas.{each_place}
use Rattle.search_needs.proofs.closed.entry_respects.Goals as goal

pub returns : goal.returns
returns c h = record {
  zero = subst (λ rows. (r : ℕ) → IsTrue (allows rows 0 r 0)) c.deref.ensures.value (c.zeros_may_stand.ensures c.if-not-zeros_may_stand.false);
  each = each_place c.args.own.now c.args.shared c.args.lines.now same (c.places_respected.ensures h);
  registers = λ r k. ltb-true r REGISTERS (sym (c.below.ensures r) ∙ c.is_within.ensures c.if-not-is_within.false r k);
  words = λ i k. ltb-true i WINDOW_WORDS (sym (c.below-2.ensures i) ∙ c.is_within-2.ensures c.if-not-is_within-2.false i k);
}
  where
    same : length c.args.lines.now ≡ length c.args.own.now.indices.items
    same = c.if-lines-len.false ∙ c.len.ensures ∙ sym c.deref.ensures.len ∙ ap length c.deref.ensures.value
