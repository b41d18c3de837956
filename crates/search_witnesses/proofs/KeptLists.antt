-- Lists that are tried are lists that keep rules.
use Rattle.std.proofs.Common.{ℕ, zero, suc, ◌≡◌, ◌<◌, ◌*◌, Bool, true, List, [], ◌∷◌, length, sym, ◌∙◌, subst, arith}
use Rattle.std.specs.Prelude.{nat_le, nat_lt}
use Rattle.std.specs.List.{All, AllByRecursion, list_all}
use Rattle.std.proofs.lemmas.Bool.{ltb-true}
use Rattle.std.proofs.lemmas.List.Elements.{All-cons, All-nil}
use Rattle.osek_base.specs.declared.arrivals.Arrival.{Arrival}
use Rattle.osek_base.specs.declared.limits.TheConstants.{MAX_ARRIVALS}
use Rattle.osek_base.specs.ArrivalList.{are_in_order, is_arrival_list}
use Rattle.osek_base.specs.System.{System}
use Rattle.osek_base.proofs.PlaceLemmas.{and_split}
use Rattle.arrival_rules.specs.declared.rule.ArrivalRule.{ArrivalRule}
use Rattle.arrival_rules.specs.Rules.{KeepsRule, comings, rule_at}
use Rattle.kernel.specs.Progress.{AreKnown}
use Rattle.search_witnesses.specs.Listing.{come_once, keep_each, keeps_from}
use Rattle.search_witnesses.specs.Listed.{IsKeptList}
use Rattle.search_witnesses.proofs.Once.{once}
use Rattle.search_witnesses.proofs.Owing.{kept}

known : (count : ℕ) (xs : List Arrival)
    → list_all (λ (a : Arrival). nat_lt a.routine count) xs ≡ true
    → AllByRecursion (λ (a : Arrival). a.routine < count) xs
known count [] are = tt
known count (a ∷ rest) are =
    let both = and_split (nat_lt a.routine count)
    (list_all (λ (x : Arrival). nat_lt x.routine count) rest) are in
    (ltb-true a.routine count both.0, known count rest both.1)

pub all_known : (count : ℕ) (xs : List Arrival)
    → AllByRecursion (λ (a : Arrival). a.routine < count) xs
    → All (λ (a : Arrival). a.routine < count) xs
all_known count [] are = All-nil (λ (a : Arrival). a.routine < count)
all_known count (a ∷ rest) are =
    All-cons (λ (x : Arrival). x.routine < count) a rest are.0 (all_known count rest are.1)

pub in_order : (xs : List Arrival) → is_arrival_list xs ≡ true → are_in_order 0 xs ≡ true
in_order xs list = (and_split (nat_le (length xs) MAX_ARRIVALS) (are_in_order 0 xs) list).1

-- arrivals that were asked one by one are of routines of the system
pub are_known : (S : System) (xs : List Arrival) (count : ℕ) (b : Bool) → count ≡ length S.routines
    → b ≡ list_all (λ (a : Arrival). nat_lt a.routine count) xs → b ≡ true → AreKnown S xs
are_known S xs count b many are is =
    subst (λ n. All (λ (a : Arrival). a.routine < n) xs) many
    (all_known count xs (known count xs (sym are ∙ is)))

-- each rule is kept, and so is one that says nothing
each : (xs : List Arrival) → are_in_order 0 xs ≡ true → (rules : List ArrivalRule)
    → keep_each rules xs ≡ true → (n : ℕ) → KeepsRule xs (rule_at rules n)
each xs ordered [] all n =
    λ t count one other.
    let none : comings xs 0 t count * 0 ≡ 0 = omega arith in omega (arith, none)
each xs ordered (rule ∷ rules) all zero =
    kept rule xs 0 0 (and_split (keeps_from rule 0 0 xs) (keep_each rules xs) all).0 ordered
each xs ordered (rule ∷ rules) all (suc n) =
    each xs ordered rules (and_split (keeps_from rule 0 0 xs) (keep_each rules xs) all).1 n

-- what is tried of a list
pub record IsTried (S : System) (rules : List ArrivalRule) (xs : List Arrival) : Type 0 where
  pub list : is_arrival_list xs ≡ true
  pub known : list_all (λ (a : Arrival). nat_lt a.routine (length S.routines)) xs ≡ true
  pub once : come_once xs ≡ true
  pub each : keep_each rules xs ≡ true

pub keep : (S : System) (rules : List ArrivalRule) (xs : List Arrival) → IsTried S rules xs
    → IsKeptList S rules xs
keep S rules xs tried = record {
  list = tried.list;
  keep = record {
    known = known (length S.routines) xs tried.known;
    each = each xs (in_order xs tried.list) rules tried.each;
    once = λ i t. once xs tried.once i t;
  };
}
