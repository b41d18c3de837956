-- One state of a node tells of all that it stands for, and subsets are the sets that may arrive.
use Rattle.std.proofs.Common.{ℕ, ◌≡◌, inl, inr, false, length, sym, ◌∙◌, subst, arith}
use Rattle.std.specs.Int.{bit_at}
use Rattle.std.proofs.lemmas.Bool.{cases_eq, cases_lt, eq-eqb, eqb-true}
use Rattle.std.proofs.lemmas.Nat.Bits.{bit_at-lt, bit_at_above}
use Rattle.osek_base.specs.Proper.{IsProper}
use Rattle.law_kept.specs.Kept.{Kept}
use Rattle.law_future.specs.Need.{Suffices}
use Rattle.view_figures.specs.FigureSums.{levels_of, lower_executes}
use Rattle.search.specs.Subsets.{IsSubset}
use Rattle.search.proofs.SubsetLemmas.{subset_within}
use Rattle.search_keys.specs.InRange.{NeedsOwnWords}
use Rattle.search_labels.specs.Labels.{IsAtLeast, arrives_in, next_labels}
use Rattle.search_peaks.specs.Noting.{IsNoted, TickShown}
use Rattle.law_bounds.specs.Going.{GoOnAlike, HaveOneFuture, KeysTellFutures}
use Rattle.law_bounds.specs.Nodes.{May, Node, Setting, StandsFor, routines_of, tick_shown_from}
use Rattle.law_bounds.specs.Trying.{AreFree, LabelsAreOrdered, OneStateTells, SubsetsMay}
use Rattle.law_bounds.proofs.Arrived.{all_chosen}
use Rattle.law_bounds.proofs.Ordered.{at_least_itself, at_least_joined}

pub labels_are_ordered : LabelsAreOrdered
labels_are_ordered = record { itself = at_least_itself; joined = at_least_joined }

-- ---- states of a node

module _ (futures : KeysTellFutures) (s : Setting) (x : Node) (set : ℕ) (o : Kept)
    (proper : IsProper s.system) (enough : Suffices s.system s.need)
    (own : NeedsOwnWords s.system s.need) (going : x.over ≡ false) (stands : StandsFor s x o) where
  -- another state of the node goes on as this one
  goes_as : (p : Kept) → StandsFor s x p → GoOnAlike s.system s.need (routines_of s set) o p
  goes_as p too =
      let future : HaveOneFuture s.system s.need o p =
      futures s.system s.need o p proper enough own stands.comes too.comes
      (stands.key ∙ sym too.key) in
      future.next (routines_of s set) (all_chosen s.system (arrives_in set)) (stands.over ∙ going)

  shown_as : (p : Kept) → StandsFor s x p → tick_shown_from s set o ≡ tick_shown_from s set p
  shown_as p too =
      let alike = goes_as p too in
      λ i. record {
        executor = alike.executor i;
        seen = alike.seen i;
        failure = alike.failure i;
        over = alike.over i;
      }

pub one_state_tells : KeysTellFutures → OneStateTells
one_state_tells futures s x set o proper enough own going stands = record {
  next = λ y after p too.
      let alike = goes_as futures s x set o proper enough own going stands p too in
      record {
        key = sym alike.key ∙ after.key;
        over = sym alike.over ∙ after.over;
        labels =
            subst
            (λ (t : TickShown). IsAtLeast y.labels
            (next_labels (lower_executes (levels_of s.system) t.executor) s.cap s.rules set
            t.seen x.labels))
            (shown_as futures s x set o proper enough own going stands p too) after.labels;
      };
  noted = λ peaks noted p too.
      subst (λ (t : TickShown). IsNoted (levels_of s.system) s.cap peaks t x.labels)
      (shown_as futures s x set o proper enough own going stands p too) noted;
}

-- ---- sets

module _ (s : Setting) (x : Node) (whole : ℕ) (going : x.over ≡ false)
    (free : AreFree (length s.system.routines) s.rules x.labels whole) where
  subset_may : (set : ℕ) → IsSubset set whole → May s x set
  subset_may set is = record {
    going = going;
    low =
        let within = subset_within set whole is in
        let high = free.low in
        omega (arith, within, high);
    free = λ i low here.
        let bit : bit_at set i ≡ 1 = eqb-true (bit_at set i) 1 here in
        let less = is i in
        let small = bit_at-lt whole i in
        let all : bit_at whole i ≡ 1 = omega (arith, bit, less, small) in
        free.free i (eq-eqb (bit_at whole i) 1 all);
  }

  may_subset : (set : ℕ) → May s x set → IsSubset set whole
  may_subset set may thing = elim (cases_lt thing (length s.system.routines)) [
    | inl low ↦ elim (cases_eq (bit_at set thing) 1) [
      | inl here ↦
          let all : bit_at whole thing ≡ 1 =
          eqb-true (bit_at whole thing) 1
          (free.others thing low (may.free thing low (eq-eqb (bit_at set thing) 1 here))) in
          omega (arith, here, all)
      | inr away ↦
          let small = bit_at-lt set thing in
          omega (arith, small, away)
    ]
    | inr high ↦
        let none = bit_at_above set (length s.system.routines) thing may.low high in
        omega (arith, none)
  ]

pub subsets_may : SubsetsMay
subsets_may s x whole going free = record {
  may = subset_may s x whole going free;
  others = may_subset s x whole going free;
}
