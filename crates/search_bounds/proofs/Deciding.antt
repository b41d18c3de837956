-- What a search has come to, and what that says of runs: where it is decided of all, else of those of
-- so many ticks.
use Rattle.std.proofs.Common.{ℕ, ◌≡◌, List, sym, ◌∙◌, ap, subst}
use Rattle.std.specs.Prelude.{Result, Ok, Err, IfOk}
use Rattle.osek_base.specs.Proper.{IsProper}
use Rattle.osek_base.specs.System.{System}
use Rattle.arrival_rules.specs.declared.rule.ArrivalRule.{ArrivalRule}
use Rattle.law_future.specs.Need.{Need, Suffices}
use Rattle.search_needs.specs.Table.{need_of}
use Rattle.search.specs.declared.outcome.Outcome.{Outcome}
use Rattle.search.specs.declared.outcome.Outcome.TheVariants.{Decided, Undecided}
use Rattle.search.specs.Outcomes.{IsOutcome}
use Rattle.search_keys.specs.InRange.{NeedsOwnWords}
use Rattle.search_peaks.specs.Peaks.{Peaks}
use Rattle.law_bounds.specs.Bounds.{AreBounds, AreBoundsUpTo, LevelsBound, SearchesBound}
use Rattle.law_bounds.specs.Ending.{BoundedJobsEnd}
use Rattle.law_bounds.specs.Nodes.{AreNoted, Setting, search_rules}
use Rattle.law_bounds.specs.Starting.{BoundedInterruptsStart}
use Rattle.search_bounds.specs.Exploring.{AreNotedIn, Explorer, setting_of}
use Rattle.search_nodes.specs.declared.found.Bounds.{Bounds}
use Rattle.search_nodes.specs.declared.found.Extent.{Extent}
use Rattle.search_nodes.specs.Found.{AreFound, HoldsEnd, InterruptsStart, IsOfSearch, JobsEnd, Says, limits_of, setting_by}
use Rattle.law_bounds.specs.Releasing.{BoundedHoldsEnd}
use Rattle.search_nodes.specs.Ground.{Ground, IsGround}
use Rattle.search_bounds.proofs.Fallible.{if_ok}

-- ---- by an explorer of a setting

abbrev pub setting_on : Ground → ℕ → List ArrivalRule → ℕ → Setting
setting_on g mode rules cap = setting_by g.system mode (need_of g.needs) rules cap

pub all_are_searched : {E : Type 0} (g : Ground) (mode : ℕ) (rules : List ArrivalRule) (extent : Extent)
    (e f : Explorer) (searched : Result Outcome E) (r : Result Bounds E) → IsGround g
    → setting_of f ≡ setting_of e → setting_of e ≡ setting_on g mode rules extent.cap
    → IfOk searched (IsOutcome (search_rules (setting_of e)) (AreNotedIn f) (limits_of extent))
    → IfOk r (λ b. searched ≡ Ok b.outcome) → IfOk r (λ b. b.peaks ≡ f.peaks)
    → IfOk r (λ b. b.cap ≡ f.cap) → IfOk r (IsOfSearch g.system mode rules extent)
all_are_searched g mode rules extent e f q (Err d) ground same made is a b c = tt
all_are_searched g mode rules extent e f q (Ok x) ground same made is a b c =
    let limits = limits_of extent in
    let s = setting_on g mode rules extent.cap in
    record {
      need = need_of g.needs;
      suffices = ground.suffices;
      own = ground.own;
      outcome =
          subst
          (λ k. IsOutcome (search_rules (setting_on g mode rules k))
          (AreNoted (setting_on g mode rules k) x.peaks) limits x.outcome)
          (sym (c ∙ ap (λ (t : Setting). t.cap) (same ∙ made)))
          (subst (λ p. IsOutcome (search_rules s) (AreNoted s p) limits x.outcome) (sym b)
          (subst (λ (t : Setting). IsOutcome (search_rules t) (AreNoted s f.peaks) limits x.outcome) made
          (subst (λ (t : Setting).
          IsOutcome (search_rules (setting_of e)) (AreNoted t f.peaks) limits x.outcome) (same ∙ made)
          (subst (λ o. IfOk o (IsOutcome (search_rules (setting_of e)) (AreNotedIn f) limits)) a is))));
    }

-- ---- of runs

module _ (S : System) (mode : ℕ) (rules : List ArrivalRule) (proper : IsProper S) where
  module _ (bound : SearchesBound) (up_to : LevelsBound) (extent : Extent) where
    found_by : (need : Need) (cap : ℕ) (peaks : Peaks) (outcome : Outcome) → Suffices S need
        → NeedsOwnWords S need
        → IsOutcome (search_rules (setting_by S mode need rules cap))
        (AreNoted (setting_by S mode need rules cap) peaks) (limits_of extent) outcome
        → Says outcome (AreBounds S mode rules cap peaks)
        (AreBoundsUpTo S mode rules cap peaks)
    found_by need cap peaks (Decided p) enough own is =
        bound (setting_by S mode need rules cap) peaks is.1.nodes proper enough own is.1.all
    found_by need cap peaks (Undecided obstacle p) enough own is =
        up_to (setting_by S mode need rules cap) peaks p.levels is.1.levels proper enough own
        is.1.are

    one_found : (found : Bounds) → IsOfSearch S mode rules extent found
        → AreFound S mode rules found
    one_found found is =
        found_by is.need found.cap found.peaks found.outcome is.suffices is.own is.outcome

    pub are_found : {E : Type 0} (found : Result Bounds E)
        → IfOk found (IsOfSearch S mode rules extent) → IfOk found (AreFound S mode rules)
    are_found found is =
        if_ok (IsOfSearch S mode rules extent) (AreFound S mode rules) found one_found is

  module _ (law : BoundedJobsEnd) where
    ends_by : (found : Bounds) (outcome : Outcome)
        → Says outcome (AreBounds S mode rules found.cap found.peaks)
        (AreBoundsUpTo S mode rules found.cap found.peaks)
        → JobsEnd S mode rules (record found { outcome = outcome })
    ends_by found (Decided p) bounds = λ k low below.
        law S mode rules found.cap found.peaks k proper bounds low below
    ends_by found (Undecided obstacle p) bounds = tt

    pub jobs_end : {E : Type 0} (found : Result Bounds E) → IfOk found (AreFound S mode rules)
        → IfOk found (JobsEnd S mode rules)
    jobs_end found are =
        if_ok (AreFound S mode rules) (JobsEnd S mode rules) found
        (λ b is. ends_by b b.outcome is) are

  module _ (law : BoundedInterruptsStart) where
    starts_by : (found : Bounds) (outcome : Outcome)
        → Says outcome (AreBounds S mode rules found.cap found.peaks)
        (AreBoundsUpTo S mode rules found.cap found.peaks)
        → InterruptsStart S mode rules (record found { outcome = outcome })
    starts_by found (Decided p) bounds =
        law S mode rules found.cap found.peaks proper bounds
    starts_by found (Undecided obstacle p) bounds = tt

    pub interrupts_start : {E : Type 0} (found : Result Bounds E)
        → IfOk found (AreFound S mode rules) → IfOk found (InterruptsStart S mode rules)
    interrupts_start found are =
        if_ok (AreFound S mode rules) (InterruptsStart S mode rules) found
        (λ b is. starts_by b b.outcome is) are

  module _ (law : BoundedHoldsEnd) where
    releases_by : (found : Bounds) (outcome : Outcome)
        → Says outcome (AreBounds S mode rules found.cap found.peaks)
        (AreBoundsUpTo S mode rules found.cap found.peaks)
        → HoldsEnd S mode rules (record found { outcome = outcome })
    releases_by found (Decided p) bounds = λ r low below.
        law S mode rules found.cap found.peaks r proper bounds low below
    releases_by found (Undecided obstacle p) bounds = tt

    pub holds_end : {E : Type 0} (found : Result Bounds E) → IfOk found (AreFound S mode rules)
        → IfOk found (HoldsEnd S mode rules)
    holds_end found are =
        if_ok (AreFound S mode rules) (HoldsEnd S mode rules) found
        (λ b is. releases_by b b.outcome is) are
