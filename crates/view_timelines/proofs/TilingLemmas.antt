-- The stretches of ticks tile them, and neighbours differ.
use Rattle.std.proofs.Common.{ℕ, suc, ◌≡◌, ◌≤◌, ◌+◌, ◌-◌, true, false, List, [], ◌∷◌, ◌++◌, refl, sym, ◌∙◌, ap, inl, inr, arith}
use Rattle.std.specs.Prelude.{replicate}
use Rattle.std.proofs.lemmas.Bool.{cases_Bool, false≢true}
use Rattle.std.proofs.lemmas.Grind.{common_steps}
use Rattle.view_timelines.specs.declared.activity.Activity.{Activity}
use Rattle.view_timelines.specs.declared.moment.Moment.{Moment}
use Rattle.view_timelines.specs.declared.stretch.Stretch.{Stretch}
use Rattle.view_timelines.specs.Stretches.{same, same_activity, one_tick, put_before, stretches}
use Rattle.view_timelines.specs.Tiling.{spelled, AreLaid, DiffersFrom, AreUnlike, TileTheTicks, DifferFromTheNext}
use Rattle.view_timelines.proofs.StretchLemmas.{equal_from_same}

same_itself_activity : (a : Activity) → same_activity a a ≡ true
same_itself_activity Activity.Nothing = refl
same_itself_activity Activity.Executing = refl
same_itself_activity Activity.Ready = refl
same_itself_activity Activity.Preempted = refl
same_itself_activity Activity.Interrupted = refl
same_itself_activity Activity.Blocked = refl
same_itself_activity Activity.Waiting = refl

same_itself : (m : Moment) → same m m ≡ true
same_itself m = rw (same_itself_activity m.activity) (grind (arith, common_steps))

unlike_from_same : (a b : Moment) → same a b ≡ false → a ≡ b → ⊥
unlike_from_same a b h e = false≢true (sym h ∙ (ap (λ (x : Moment). same x b) e ∙ same_itself b))

laid_before : (t : ℕ) (m : Moment) (ss : List Stretch) → AreLaid (t + 1) ss → AreLaid t (put_before t m ss)
laid_before t m [] h = (refl, omega arith, tt)
laid_before t m (s ∷ later) h = elim (cases_Bool (same m s.moment)) [
  | inl e ↦ rw e (refl, omega (arith, h.1), h.2)
  | inr e ↦ rw e (refl, omega arith, h)
]

differs_by : (a b : Moment) (ss : List Stretch) → a ≡ b → DiffersFrom b ss → DiffersFrom a ss
differs_by a b ss e h = rw e h

unlike_before : (t : ℕ) (m : Moment) (ss : List Stretch) → AreUnlike ss → AreUnlike (put_before t m ss)
unlike_before t m [] h = (tt, tt)
unlike_before t m (s ∷ later) h = elim (cases_Bool (same m s.moment)) [
  | inl e ↦ rw e (differs_by m s.moment later (equal_from_same m s.moment e) h.0, h.1)
  | inr e ↦ rw e (unlike_from_same m s.moment e, h)
]

replicate_more : (n k : ℕ) (m : Moment) → n ≡ suc k → replicate n m ≡ m ∷ replicate k m
replicate_more n k m e = rw e

one_spelled : (t : ℕ) (m : Moment) (ss : List Stretch) → spelled (one_tick t m ∷ ss) ≡ m ∷ spelled ss
one_spelled t m ss =
    let e : t + 1 - t ≡ suc 0 = omega arith in
    ap (λ (x : List Moment). x ++ spelled ss) (replicate_more (t + 1 - t) 0 m e)

more_spelled : (t : ℕ) (m : Moment) (s : Stretch) (later : List Stretch) → m ≡ s.moment → s.first ≡ t + 1 → t + 1 ≤ s.last
    → replicate (s.last + 1 - t) m ++ spelled later ≡ m ∷ spelled (s ∷ later)
more_spelled t m s later same begins ends =
    let e : s.last + 1 - t ≡ suc (s.last + 1 - s.first) = omega (arith, begins, ends) in
    ap (λ (x : List Moment). x ++ spelled later) (replicate_more (s.last + 1 - t) (s.last + 1 - s.first) m e)
    ∙ ap (λ (x : Moment). m ∷ (replicate (s.last + 1 - s.first) x ++ spelled later)) same

spelled_before : (t : ℕ) (m : Moment) (ss : List Stretch) → AreLaid (t + 1) ss → spelled (put_before t m ss) ≡ m ∷ spelled ss
spelled_before t m [] h = one_spelled t m []
spelled_before t m (s ∷ later) h = elim (cases_Bool (same m s.moment)) [
  | inl e ↦ rw e (more_spelled t m s later (equal_from_same m s.moment e) h.0 h.1)
  | inr e ↦ rw e (one_spelled t m (s ∷ later))
]

are_laid : (start : ℕ) (moments : List Moment) → AreLaid start (stretches start moments)
are_laid start [] = tt
are_laid start (m ∷ moments) = laid_before start m (stretches (start + 1) moments) (are_laid (start + 1) moments)

are_spelled : (start : ℕ) (moments : List Moment) → spelled (stretches start moments) ≡ moments
are_spelled start [] = refl
are_spelled start (m ∷ moments) =
    spelled_before start m (stretches (start + 1) moments) (are_laid (start + 1) moments)
    ∙ ap (λ (x : List Moment). m ∷ x) (are_spelled (start + 1) moments)

pub tiles : TileTheTicks
tiles start moments = (are_laid start moments, are_spelled start moments)

pub differs : DifferFromTheNext
differs start [] = tt
differs start (m ∷ moments) = unlike_before start m (stretches (start + 1) moments) (differs (start + 1) moments)
