-- The set of the routines that arrive in a tick stands for them.
use Rattle.std.proofs.Common.{ℕ, zero, suc, ◌≡◌, ◌<◌, ◌≤◌, ◌^◌, inl, inr, Bool, List, [], ◌∷◌, length, sym, ◌∙◌, ap, subst, arith}
use Rattle.std.specs.Prelude.{◌==◌}
use Rattle.std.specs.List.{All, AllByRecursion}
use Rattle.std.proofs.lemmas.Bool.{cases_lt}
use Rattle.std.proofs.lemmas.List.Elements.{All-append, All-filter}
use Rattle.std.proofs.lemmas.Nat.Bits.{bit_at_above}
use Rattle.osek_base.specs.declared.arrivals.Arrival.{Arrival}
use Rattle.osek_base.specs.Lists.{below}
use Rattle.osek_base.specs.Proper.{IsProper}
use Rattle.osek_base.specs.System.{System}
use Rattle.osek_base.specs.Trace.{arriving}
use Rattle.law_kept.specs.KeptTick.{before_execution_in, tick_in}
use Rattle.seen_ticks.specs.Observed.{times}
use Rattle.law_future.specs.Alike.{kept_after}
use Rattle.law_future.specs.Shown.{arrives, chosen_of}
use Rattle.law_future.proofs.Arrivals.{before_chosen, tick_chosen}
use Rattle.law_future.proofs.Sets.{set_has, set_low, set_of}
use Rattle.law_future.proofs.Sizes.{size}
use Rattle.law_future.proofs.Tables.{filter_same}
use Rattle.search_labels.specs.Labels.{arrives_in}
use Rattle.law_bounds.proofs.Counted.{times_chosen}
use Rattle.law_bounds.proofs.Known.{unknown_in}

-- ---- routines that are chosen are of the system

all_below : (n m : ℕ) → n ≤ m → All (λ i. i < m) (below n)
all_below zero m most = λ k d low. absurd (omega (arith, low))
all_below (suc n) m most =
    All-append (λ i. i < m) (below n) (n ∷ []) (all_below n m (omega (arith, most))) last
  where
    last : All (λ i. i < m) (n ∷ [])
    last zero d low = omega (arith, most)
    last (suc k) d low = absurd (omega (arith, low))

pub all_chosen : (S : System) (test : ℕ → Bool)
    → All (λ i. i < length S.routines) (chosen_of S test)
all_chosen S test =
    All-filter test (λ i. i < length S.routines) (below (length S.routines))
    (all_below (length S.routines) (length S.routines) (omega arith))

-- ---- those that arrive in a tick

-- a tick by some routines is tick n of a run, in which each of them arrives once
pub record StandFor (S : System) (mode : ℕ) (arrivals : List Arrival) (n : ℕ)
    (chosen : List ℕ) : Type 0 where
  pub before : before_execution_in S (arriving arrivals n) (kept_after S mode arrivals n)
      ≡ before_execution_in S chosen (kept_after S mode arrivals n)
  pub tick : tick_in S (arriving arrivals n) (kept_after S mode arrivals n)
      ≡ tick_in S chosen (kept_after S mode arrivals n)
  pub times : (k : ℕ) → k < length S.routines → times k (arriving arrivals n) ≡ times k chosen

module _ (S : System) (arrivals : List Arrival) (n : ℕ) where
  abbrev pub set_at : ℕ
  set_at = set_of (arrives arrivals n) (length S.routines)

  pub set_is_low : set_at < 2 ^ length S.routines
  set_is_low = set_low (arrives arrivals n) (length S.routines)

  pub in_set : (i : ℕ) → i < length S.routines → arrives_in set_at i ≡ arrives arrivals n i
  in_set i low = set_has (arrives arrivals n) (length S.routines) i low

  -- and none of another routine arrives, or is in the set
  pub arrive_alike : AllByRecursion (λ (a : Arrival). a.routine < length S.routines) arrivals
      → (i : ℕ) → arrives_in set_at i ≡ arrives arrivals n i
  arrive_alike known i = elim (cases_lt i (length S.routines)) [
    | inl low ↦ in_set i low
    | inr high ↦
        ap (λ b. b == 1) (bit_at_above set_at (length S.routines) i set_is_low high)
        ∙ sym (unknown_in (length S.routines) n i arrivals known high)
  ]

  chosen_same : chosen_of S (arrives arrivals n) ≡ chosen_of S (arrives_in set_at)
  chosen_same =
      filter_same (arrives arrivals n) (arrives_in set_at) (length S.routines)
      (λ i low. sym (in_set i low))

  pub set_stands : (mode : ℕ) → IsProper S
      → ((i : ℕ) → times i (arriving arrivals n) ≤ 1)
      → StandFor S mode arrivals n (chosen_of S (arrives_in set_at))
  set_stands mode proper once =
      subst (StandFor S mode arrivals n) chosen_same
      (record {
        before =
            before_chosen S (arriving arrivals n) (kept_after S mode arrivals n)
            (size S proper mode arrivals n);
        tick =
            tick_chosen S (arriving arrivals n) (kept_after S mode arrivals n)
            (size S proper mode arrivals n);
        times = λ k low. times_chosen S (arriving arrivals n) k low (once k);
      })
