use Rattle.std.proofs.Common.{◌≡◌, ◌+◌, cond, List, length, map, sym, ◌∙◌, ap}
use Rattle.osek_base.specs.Lists.{below}
use Rattle.osek_base.specs.System.{System}
use Rattle.services.specs.Objects.{Objects, by_task, kept_in}
use Rattle.seen_ticks.proofs.SeenSteps.{seen_count}
use Rattle.seen_ticks.specs.declared.holder.Holder.{Holder}
use Rattle.kernel.specs.Holders.{holder_from}
use Rattle.kernel.proofs.Filled.{filled_anew}
use Rattle.kernel.proofs.HolderLemmas.{held_in}
use Rattle.kernel.proofs.holders.see_holders.Goals as goal

pub returns : goal.returns
returns g c =
    let o : Objects = c.args.objects.now in
    let S : System = o.system in
    let slots = c.slots_of.result.now in
    let d = c.resource_count-declared.result in
    let xs = c.give_places.new.list.items in
    let ws = c.see_all.new.places in
    let held : ws ≡ map (holder_from slots d 0) (below (length xs)) =
    c.see_all.ensures
    ∙ ap (λ (v : List Holder). map (holder_from slots d 0) (below (length v))) c.as_mut_slice-places.ensures.value in
    let count : d ≡ length S.resources =
    c.resource_count-declared.ensures.value ∙ ap (λ (x : Objects). length x.system.resources) c.objects.view_is in
    let long : length xs ≡ d + cond S.use_res_scheduler 1 0 =
    c.give_places.ensures ∙ c.place_count.ensures.value
    ∙ ap (λ (x : Objects). length x.system.resources + cond x.system.use_res_scheduler 1 0) c.objects.view_is
    ∙ ap (λ n. n + cond S.use_res_scheduler 1 0) (sym count) in
    filled_anew xs ws (seen_count (holder_from slots d 0) (length xs) ws held)
    ∙ held_in S (kept_in o) slots (ap by_task (sym c.slots_of.ensures.slots)) c.slots_of.ensures.count d (length xs) ws count long held
