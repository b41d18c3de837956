-- A set of routines repeats the set without those whose interrupts are lost.
use Rattle.std.proofs.Common.{ℕ, ◌≡◌, ◌<◌, ◌≤◌, arith, true, false, sym, ◌∙◌, length, inl, inr}
use Rattle.std.specs.Prelude.{◌≢◌, IsTrue}
use Rattle.std.specs.Int.{bit_at}
use Rattle.std.proofs.lemmas.Bool.{and_parts, cases_lt, eq-eqb, eqb-true, leb-true, true≢false}
use Rattle.osek_base.specs.declared.limits.TheConstants.{MAX_ROUTINES}
use Rattle.osek_base.specs.Proper.{IsProper}
use Rattle.osek_base.specs.System.{System}
use Rattle.law_future.specs.Spans.{is_pending_in}
use Rattle.law_kept.specs.Kept.{Kept}
use Rattle.kernel.specs.Machine.{Machine, picture}
use Rattle.search.specs.Rules.{Repeats}
use Rattle.search_labels.specs.Labels.{arrives_in}
use Rattle.view_measures.specs.declared.measure.Measure.{Measure}
use Rattle.view_measures.specs.Measures.{figure}
use Rattle.search_peaks.specs.Peaks.{Peaks, told}
use Rattle.law_bounds.specs.Lost.{IsWithoutLost, LoseNothing, LostChangeNothing}
use Rattle.law_bounds.specs.Nodes.{AreNoted, IsNext, May, Node, Setting, StandsFor, search_rules}
use Rattle.law_bounds.specs.Trying.{OneStateTells, TellsAll}
use Rattle.search_bounds.specs.Held.{IsIn}
use Rattle.search_nodes.specs.Ground.{IsGround}
use Rattle.search_bounds.specs.Exploring.{Explorer, setting_of}
use Rattle.search_bounds.proofs.Exploring.{stands, tells_all}

pub few_routines : (S : System) → IsProper S → length S.routines ≤ MAX_ROUTINES
few_routines S proper =
    leb-true _ _ (and_parts _ _ (and_parts _ _ (and_parts _ _ (and_parts _ _ (and_parts _ _
    (and_parts _ _ (and_parts _ _ proper.limits).0).0).0).0).0).0).1

-- a set without what is pending in a state
pub without_lost : (s : Setting) (set pending fewer : ℕ) (o : Kept)
    → length s.system.routines ≤ 64
    → ((i : ℕ) → bit_at pending i ≡ 1 → is_pending_in o i ≡ true)
    → ((i : ℕ) → bit_at fewer i ≡ 1 → bit_at set i ≡ 1)
    → ((i : ℕ) → i < 64 → bit_at set i ≡ 1 → bit_at fewer i ≢ 1 → bit_at pending i ≡ 1)
    → IsWithoutLost s set fewer o
without_lost s set pending fewer o few pends less others = record {
  less = λ i arrives. eq-eqb (bit_at set i) 1 (less i (eqb-true (bit_at fewer i) 1 arrives));
  pend = λ i low arrives isnt.
      pends i (others i (omega (arith, low, few)) (eqb-true (bit_at set i) 1 arrives)
      (λ bit. true≢false (sym (eq-eqb (bit_at fewer i) 1 bit) ∙ isnt)));
}

-- those that are lost are noted
pub losses_noted : (losses : ℕ → ℕ) (count set pending fewer lost : ℕ) → count ≤ MAX_ROUTINES
    → ((i : ℕ) → i < 64 → bit_at set i ≡ 1 → bit_at fewer i ≢ 1 → bit_at pending i ≡ 1)
    → ((i : ℕ) → bit_at set i ≡ 1 → bit_at pending i ≡ 1 → bit_at lost i ≡ 1)
    → ((i : ℕ) → i < MAX_ROUTINES → losses i ≡ 0 → bit_at lost i ≡ 0)
    → (i : ℕ) → i < count → IsTrue (arrives_in set i) → arrives_in fewer i ≡ false
    → 1 ≤ losses i
losses_noted losses count set pending fewer lost few others both noted i low arrives isnt =
    elim (cases_lt (losses i) 1) [
      | inl lt ↦
          let none = noted i (omega (arith, low, few)) (omega (arith, lt)) in
          absurd (omega (arith, none, is_lost))
      | inr le ↦ le
    ]
  where
    in_set : bit_at set i ≡ 1
    in_set = eqb-true (bit_at set i) 1 arrives

    is_lost : bit_at lost i ≡ 1
    is_lost =
        both i in_set (others i (omega (arith, low, few)) in_set (λ bit. true≢false (sym (eq-eqb (bit_at fewer i) 1 bit) ∙ isnt)))

module _ (e : Explorer) (x : Node) (set fewer : ℕ) (m : Machine) (tells : OneStateTells)
    (lost : LostChangeNothing) (ground : IsGround e.ground) (may : May (setting_of e) x set)
    (is : IsIn e.ground x.key m)
    (without : IsWithoutLost (setting_of e) set fewer (picture m)) where
  abbrev here : StandsFor (setting_of e) x (picture m)
  here = stands e x m is may.going

  abbrev all : TellsAll (setting_of e) x set (picture m)
  all = tells_all e x set m tells ground may.going is

  abbrev nothing : LoseNothing (setting_of e) x set fewer (picture m)
  nothing = lost (setting_of e) x set fewer (picture m) may without

  next_too : (y : Node) → IsNext (setting_of e) x fewer y → IsNext (setting_of e) x set y
  next_too y comes = all.next y (nothing.next y (comes (picture m) here))

  noted_too : (peaks : Peaks) → AreNoted (setting_of e) peaks x fewer
      → ((i : ℕ) → i < length (setting_of e).system.routines → IsTrue (arrives_in set i)
      → arrives_in fewer i ≡ false → 1 ≤ told peaks (figure Measure.Loss i))
      → AreNoted (setting_of e) peaks x set
  noted_too peaks noted losses =
      all.noted peaks (nothing.noted peaks (noted (picture m) here) losses)

  may_fewer : fewer < set → May (setting_of e) x fewer
  may_fewer low = record {
    going = may.going;
    low = (let least = may.low in omega (arith, low, least));
    free = λ i inside arrives. may.free i inside (without.less i arrives);
  }

  pub repeats_it : fewer < set → (peaks : Peaks)
      → ((i : ℕ) → i < length (setting_of e).system.routines → IsTrue (arrives_in set i)
      → arrives_in fewer i ≡ false → 1 ≤ told peaks (figure Measure.Loss i))
      → Repeats (search_rules (setting_of e)) (AreNoted (setting_of e) peaks) x set fewer
  repeats_it low peaks losses = record {
    low = low;
    may = may_fewer low;
    next = next_too;
    noted = λ noted. noted_too peaks noted losses;
  }
