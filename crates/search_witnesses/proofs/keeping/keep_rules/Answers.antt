use Rattle.std.proofs.Common.{◌∙◌, ap, ap₂, sym}
use Rattle.std.specs.Prelude.{nat_lt}
use Rattle.std.specs.List.{list_all}
use Rattle.osek_base.specs.declared.arrivals.Arrival.{Arrival}
use Rattle.osek_base.specs.ArrivalList.{are_in_order}
use Rattle.search_witnesses.specs.Listing.{come_once, keep_each}
use Rattle.search_witnesses.proofs.KeptLists.{in_order, keep}
use Rattle.search_witnesses.proofs.keeping.keep_rules.Goals as goal

pub come_once-requires : goal.come_once-requires
come_once-requires c =
    ap (are_in_order 0) c.list-list.ensures.value
    ∙ in_order c.args.arrivals.now c.list-list.ensures.kept

pub returns : goal.returns
returns c each =
    let rules = c.args.rules.now in
    let same = c.list-list.ensures.value in
    keep c.args.system.now rules c.args.arrivals.now
    (record {
      list = c.list-list.ensures.kept;
      known =
          ap₂ (λ n xs. list_all (λ (a : Arrival). nat_lt a.routine n) xs)
          (sym c.routine_count.ensures.value) (sym same)
          ∙ sym c.are_known.ensures ∙ c.if-not-are_known.false;
      once = ap come_once (sym same) ∙ sym c.come_once.ensures ∙ c.if-not-come_once.false;
      each = ap (keep_each rules) (sym same) ∙ sym c.keep_each.ensures ∙ each;
    })
