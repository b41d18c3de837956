-- What is among some, and what is known so.
use Rattle.std.specs.Prelude.{ℕ, ◌≡◌, ◌==◌, ◌||◌, ◌⊎◌, if◌then◌else◌, IsTrue, Bool, true, false, List, [], ◌∷◌}
use Rattle.std.specs.List.{All, list_any}
use Rattle.std.proofs.Common.{◌∙◌, ap, inl, inr, subst, refl, sym, eqb-true}
use Rattle.std.proofs.lemmas.Bool.{and_parts, false≢true}
use Rattle.std.proofs.lemmas.List.Elements.{All-head, All-tail}
use Rattle.osek_base.specs.System.{System}
use Rattle.arrival_rules.specs.declared.rule.ArrivalRule.{ArrivalRule}
use Rattle.view_measures.specs.declared.figure.Figure.{Figure}
use Rattle.view_measures.specs.declared.measure.Measure.{Measure}
use Rattle.view_measures.specs.Measures.{is_same, place_of}
use Rattle.search_peaks.specs.Peaks.{told}
use Rattle.law_bounds.specs.Unending.{NeedNotEnd}
use Rattle.search_witnesses.specs.declared.findings.Findings.{Findings}
use Rattle.search_witnesses.specs.Failing.{Fails}
use Rattle.search_witnesses.specs.Findings.{AreFindings, HasNoEnd, HasNoEndBy, IsShown, is_endless, is_endless_by, is_reached}
use Rattle.search_witnesses.specs.Shown.{IsReached}

-- the measure of a place, so that measures of one place are one
measure_at : ℕ → Measure
measure_at n =
    if n == 0 then Measure.Response
    else if n == 1 then Measure.Blocked
    else if n == 2 then Measure.Blockers
    else if n == 3 then Measure.Jobs
    else if n == 4 then Measure.Refusal
    else if n == 5 then Measure.Errors
    else if n == 6 then Measure.Latency
    else if n == 7 then Measure.Loss
    else if n == 8 then Measure.RoutineErrors
    else if n == 9 then Measure.Hold
    else if n == 10 then Measure.RefusedAction
    else Measure.Shutdown

at_place : (m : Measure) → measure_at (place_of m) ≡ m
unfolding measure_at
at_place Measure.Response = refl
at_place Measure.Blocked = refl
at_place Measure.Blockers = refl
at_place Measure.Jobs = refl
at_place Measure.Refusal = refl
at_place Measure.Errors = refl
at_place Measure.Latency = refl
at_place Measure.Loss = refl
at_place Measure.RoutineErrors = refl
at_place Measure.Hold = refl
at_place Measure.RefusedAction = refl
at_place Measure.Shutdown = refl

one_place : (m n : Measure) → place_of m ≡ place_of n → m ≡ n
one_place m n same = sym (at_place m) ∙ ap measure_at same ∙ at_place n

same_is : (a b : Figure) → IsTrue (is_same a b) → a ≡ b
same_is a b h =
    let parts = and_parts (place_of a.measure == place_of b.measure) (a.number == b.number) h in
    let measures = one_place a.measure b.measure (eqb-true _ _ parts.0) in
    let numbers = eqb-true a.number b.number parts.1 in
    λ i. record { measure = measures i; number = numbers i }

-- what holds of each holds of one that is among them
among : {X : Type 0} (P : X → Type 0) (same : X → Bool) (x : X)
    → ((y : X) → same y ≡ true → y ≡ x) → (ys : List X) → All P ys → list_any same ys ≡ true → P x
among P same x one [] all h = absurd (false≢true h)
among P same x one (y ∷ ys) all h =
    by_first (same y) refl h (among P same x one ys (All-tail P y ys all))
  where
    by_first : (b : Bool) → same y ≡ b → (b || list_any same ys) ≡ true
        → (list_any same ys ≡ true → P x) → P x
    by_first true is h rest = subst P (one y is) (All-head P y ys all)
    by_first false is h rest = rest h

-- one of two tests holds, each of which says something
one_of : {P Q : Type 0} (a b : Bool) → (a || b) ≡ true → (a ≡ true → P) → (b ≡ true → Q) → P ⊎ Q
one_of true b h first second = inl (first refl)
one_of false b h first second = inr (second h)

module _ (S : System) (mode : ℕ) (rules : List ArrivalRule) (f : Findings) where
  shown : All (IsReached S mode rules f.bounds) f.reached.items
      → (figure : Figure) → IsTrue (is_reached f figure) → IsShown S mode rules f.bounds figure
  shown all figure h =
      one_of (told f.bounds.peaks figure == 0)
      (list_any (λ known. is_same known figure) f.reached.items) h (eqb-true _ _)
      (among (IsReached S mode rules f.bounds) (λ known. is_same known figure) figure
      (λ known same. same_is known figure same) f.reached.items all)

  no_end_by : All (NeedNotEnd S mode rules) f.endless.items → (measure : Measure) (k : ℕ)
      → IsTrue (is_endless_by f measure k) → HasNoEndBy S mode rules measure k
  no_end_by all Measure.Response k h =
      among (NeedNotEnd S mode rules) (λ known. known == k) k
      (λ known same. eqb-true known k same) f.endless.items all h
  no_end_by all other k h = absurd (false≢true h)

  no_end : All (NeedNotEnd S mode rules) f.endless.items
      → (figure : Figure) → IsTrue (is_endless f figure) → HasNoEnd S mode rules figure
  no_end all figure h = no_end_by all figure.measure figure.number h

  -- what holds of all that is known holds of each
  pub are_findings : All (IsReached S mode rules f.bounds) f.reached.items
      → All (NeedNotEnd S mode rules) f.endless.items
      → All (Fails S mode rules f.bounds.peaks) f.failing.items
      → AreFindings S mode rules f
  are_findings reached endless failing =
      record {
        reached = shown reached;
        endless = no_end endless;
        failing = λ k h.
            among (Fails S mode rules f.bounds.peaks) (λ known. known == k) k
            (λ known same. eqb-true known k same) f.failing.items failing h;
      }
