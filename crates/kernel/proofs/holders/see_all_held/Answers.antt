use Rattle.std.proofs.Common.{◌≡◌, ◌<◌, ◌-◌, ◌+◌, true, List, length, map, refl, sym, ◌∙◌, ap, ap₂, arith}
use Rattle.osek_base.specs.declared.ids.ResId.{ResId}
use Rattle.osek_base.specs.Lists.{below, is_empty}
use Rattle.std.proofs.lemmas.List.{get_or_default}
use Rattle.law_kept.specs.Kept.{Slot}
use Rattle.services.specs.Objects.{by_task}
use Rattle.seen_ticks.proofs.SeenSteps.{seen_count}
use Rattle.kernel.specs.Holders.{all_noted, holder_from}
use Rattle.kernel.proofs.HolderLemmas.{held_noted, leaves_all, none_from}
use Rattle.kernel.proofs.holders.see_all_held.Goals as goal

pub loop-number-init : goal.loop-number-init
loop-number-init c =
    let slots = c.args.slots.now in
    (refl, c.requires.free ∙ none_from slots c.args.declared (length c.args.places.now) (length slots) refl)

pub loop-number-preserved-then-not-holds_none : goal.loop-number-preserved-then-not-holds_none
loop-number-preserved-then-not-holds_none c =
    let slots = c.args.slots.now in
    let declared = c.args.declared in
    let count = length c.args.places.now in
    let t = c.loop-number.number - 1 in
    let here : c.loop-number.number ≡ t + 1 = omega (arith, c.loop-number-test.true) in
    let low : t < length slots = omega (arith, c.loop-number-test.true, c.loop-number.auto.number) in
    let (long, done) = c.loop-number.invariant in
    let noted : c.note_all.new.places ≡ map (holder_from slots declared t) (below count) =
    c.note_all.ensures
    ∙ ap₂ (λ u (rs : List ResId). all_noted declared u rs c.loop-number.places) c.new.ensures
    (c.held.ensures.value ∙ ap (λ (a : Slot). a.held) (c.index-slots-number.is ∙ get_or_default slots t _ _ low))
    ∙ ap (all_noted declared t (by_task slots t).held) (done ∙ ap (λ n. map (holder_from slots declared n) (below count)) here)
    ∙ held_noted declared t count c.requires.least c.requires.most slots low in
    (seen_count (holder_from slots declared t) count c.note_all.new.places noted, noted)

pub loop-number-preserved : goal.loop-number-preserved
loop-number-preserved c =
    let slots = c.args.slots.now in
    let declared = c.args.declared in
    let count = length c.args.places.now in
    let t = c.loop-number.number - 1 in
    let here : c.loop-number.number ≡ t + 1 = omega (arith, c.loop-number-test.true) in
    let low : t < length slots = omega (arith, c.loop-number-test.true, c.loop-number.auto.number) in
    let none : is_empty (by_task slots t).held ≡ true =
    ap (λ (a : Slot). is_empty a.held) (sym (c.index-slots-number.is ∙ get_or_default slots t _ _ low)) ∙ sym c.holds_none.ensures ∙ c.if-not-holds_none.false in
    let (long, done) = c.loop-number.invariant in (
      long,
      done ∙ ap (λ n. map (holder_from slots declared n) (below count)) here ∙ leaves_all slots declared t low none count,
    )
