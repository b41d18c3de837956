-- A run that comes twice to one state is endless.
use Rattle.std.proofs.Common.{ℕ, ◌<◌, List}
use Rattle.std.specs.List.{AllByRecursion}
use Rattle.osek_base.specs.declared.arrivals.Arrival.{Arrival}
use Rattle.osek_base.specs.System.{System}
use Rattle.arrival_rules.specs.declared.rule.ArrivalRule.{ArrivalRule}
use Rattle.search_needs.specs.declared.table.Needs.{Needs}
use Rattle.search_needs.specs.Table.{need_of}
use Rattle.search_nodes.specs.Ground.{IsGround}
use Rattle.arrival_rules.specs.Rules.{KeepRules}
use Rattle.law_bounds.specs.Lassos.{IsUnending, LassosAreEndless, again}
use Rattle.search_witnesses.specs.declared.endless.Endless.{Endless}
use Rattle.search_witnesses.specs.Endless.{IsEndless}
use Rattle.search_witnesses.specs.Listing.{ArePaid}
use Rattle.search_witnesses.specs.Listed.{IsKeptList}
use Rattle.search_witnesses.specs.Walks.{ComesTwice}

pub endless : LassosAreEndless → (S : System) (needs : Needs) (mode : ℕ) (rules : List ArrivalRule)
    (k : ℕ) (e : Endless) → IsGround (record { system = S; needs = needs }) → e.from < e.until
    → AllByRecursion (λ (a : Arrival). a.tick < e.until) e.arrivals
    → IsKeptList S rules e.arrivals
    → KeepRules S rules (again e.from e.until e.arrivals)
    → ArePaid rules e.arrivals e.from e.until
    → ComesTwice S mode (need_of needs) e.arrivals e.from e.until k
    → IsEndless S mode rules k e
endless law S needs mode rules k e ground less before kept more paid twice =
    let is : IsUnending S mode rules e.arrivals e.from e.until k =
    law S mode rules (need_of needs) e.arrivals e.from e.until k ground.proper
    ground.suffices ground.own
    (record {
      less = less;
      before = before;
      key = twice.key;
      stands = twice.stands;
      keep = kept.keep;
      again = more;
      pays = paid;
    }) in
    record {
      ever = is.ever;
      arrivals = kept;
      less = less;
      before = before;
      goes_on = is.goes_on;
    }
