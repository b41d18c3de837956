-- A tick more at the end of a row: its stretches, and those of all ticks.
use Rattle.std.proofs.Common.{ℕ, ◌≡◌, ◌+◌, Bool, true, false, ◌&&◌, eqb, List, [], ◌∷◌, ◌++◌, length, Option, Some, None, refl, sym, ◌∙◌, ap, inl, inr, arith}
use Rattle.std.proofs.lemmas.Bool.{cases_Bool, false≢true, eqb-true}
use Rattle.std.proofs.lemmas.List.{append_assoc}
use Rattle.std.proofs.lemmas.Option.{none-some}
use Rattle.std.specs.Prelude.{IfNone}
use Rattle.std.specs.Option.{option_to_list}
use Rattle.view_timelines.specs.declared.activity.Activity.{Activity}
use Rattle.view_timelines.specs.declared.moment.Moment.{Moment}
use Rattle.view_timelines.specs.declared.stretch.Stretch.{Stretch}
use Rattle.view_timelines.specs.Stretches.{same, same_activity, one_tick, longer, put_before, stretches, added}

both : (a b : Bool) → (a && b) ≡ true → (a ≡ true) × (b ≡ true)
both true true h = (refl, refl)
both true false h = absurd (false≢true h)
both false true h = absurd (false≢true h)
both false false h = absurd (false≢true h)

activities_equal : (a b : Activity) → same_activity a b ≡ true → a ≡ b
activities_equal Activity.Nothing Activity.Nothing h = refl
activities_equal Activity.Nothing Activity.Executing h = absurd (false≢true h)
activities_equal Activity.Nothing Activity.Ready h = absurd (false≢true h)
activities_equal Activity.Nothing Activity.Preempted h = absurd (false≢true h)
activities_equal Activity.Nothing Activity.Interrupted h = absurd (false≢true h)
activities_equal Activity.Nothing Activity.Blocked h = absurd (false≢true h)
activities_equal Activity.Nothing Activity.Waiting h = absurd (false≢true h)
activities_equal Activity.Executing Activity.Nothing h = absurd (false≢true h)
activities_equal Activity.Executing Activity.Executing h = refl
activities_equal Activity.Executing Activity.Ready h = absurd (false≢true h)
activities_equal Activity.Executing Activity.Preempted h = absurd (false≢true h)
activities_equal Activity.Executing Activity.Interrupted h = absurd (false≢true h)
activities_equal Activity.Executing Activity.Blocked h = absurd (false≢true h)
activities_equal Activity.Executing Activity.Waiting h = absurd (false≢true h)
activities_equal Activity.Ready Activity.Nothing h = absurd (false≢true h)
activities_equal Activity.Ready Activity.Executing h = absurd (false≢true h)
activities_equal Activity.Ready Activity.Ready h = refl
activities_equal Activity.Ready Activity.Preempted h = absurd (false≢true h)
activities_equal Activity.Ready Activity.Interrupted h = absurd (false≢true h)
activities_equal Activity.Ready Activity.Blocked h = absurd (false≢true h)
activities_equal Activity.Ready Activity.Waiting h = absurd (false≢true h)
activities_equal Activity.Preempted Activity.Nothing h = absurd (false≢true h)
activities_equal Activity.Preempted Activity.Executing h = absurd (false≢true h)
activities_equal Activity.Preempted Activity.Ready h = absurd (false≢true h)
activities_equal Activity.Preempted Activity.Preempted h = refl
activities_equal Activity.Preempted Activity.Interrupted h = absurd (false≢true h)
activities_equal Activity.Preempted Activity.Blocked h = absurd (false≢true h)
activities_equal Activity.Preempted Activity.Waiting h = absurd (false≢true h)
activities_equal Activity.Interrupted Activity.Nothing h = absurd (false≢true h)
activities_equal Activity.Interrupted Activity.Executing h = absurd (false≢true h)
activities_equal Activity.Interrupted Activity.Ready h = absurd (false≢true h)
activities_equal Activity.Interrupted Activity.Preempted h = absurd (false≢true h)
activities_equal Activity.Interrupted Activity.Interrupted h = refl
activities_equal Activity.Interrupted Activity.Blocked h = absurd (false≢true h)
activities_equal Activity.Interrupted Activity.Waiting h = absurd (false≢true h)
activities_equal Activity.Blocked Activity.Nothing h = absurd (false≢true h)
activities_equal Activity.Blocked Activity.Executing h = absurd (false≢true h)
activities_equal Activity.Blocked Activity.Ready h = absurd (false≢true h)
activities_equal Activity.Blocked Activity.Preempted h = absurd (false≢true h)
activities_equal Activity.Blocked Activity.Interrupted h = absurd (false≢true h)
activities_equal Activity.Blocked Activity.Blocked h = refl
activities_equal Activity.Blocked Activity.Waiting h = absurd (false≢true h)
activities_equal Activity.Waiting Activity.Nothing h = absurd (false≢true h)
activities_equal Activity.Waiting Activity.Executing h = absurd (false≢true h)
activities_equal Activity.Waiting Activity.Ready h = absurd (false≢true h)
activities_equal Activity.Waiting Activity.Preempted h = absurd (false≢true h)
activities_equal Activity.Waiting Activity.Interrupted h = absurd (false≢true h)
activities_equal Activity.Waiting Activity.Blocked h = absurd (false≢true h)
activities_equal Activity.Waiting Activity.Waiting h = refl

abbrev moment : Activity → ℕ → ℕ → ℕ → Moment
moment x p n b = record { activity = x; priority = p; jobs = n; held = record { bits = b } }

from_fields : (x y : Activity) (p q n m b c : ℕ) → x ≡ y → p ≡ q → n ≡ m → b ≡ c → moment x p n b ≡ moment y q m c
from_fields x y p q n m b c e f g h = rw (e, f, g, h)

-- what shows the same is equal
pub equal_from_same : (a b : Moment) → same a b ≡ true → a ≡ b
equal_from_same a b h =
    let third = both (same_activity a.activity b.activity && eqb a.priority b.priority && eqb a.jobs b.jobs) (eqb a.held.bits b.held.bits) h in
    let second = both (same_activity a.activity b.activity && eqb a.priority b.priority) (eqb a.jobs b.jobs) third.0 in
    let first = both (same_activity a.activity b.activity) (eqb a.priority b.priority) second.0 in
    from_fields a.activity b.activity a.priority b.priority a.jobs b.jobs a.held.bits b.held.bits
    (activities_equal a.activity b.activity first.0) (eqb-true a.priority b.priority first.1)
    (eqb-true a.jobs b.jobs second.1) (eqb-true a.held.bits b.held.bits third.1)

-- behind closed stretches, the last alone decides
added_last : (t : ℕ) (m : Moment) (front : List Stretch) (s : Stretch)
    → added t m (front ++ s ∷ []) ≡ front ++ added t m (s ∷ [])
added_last t m [] s = refl
added_last t m (a ∷ []) s = refl
added_last t m (a ∷ b ∷ front) s = ap (λ (x : List Stretch). a ∷ x) (added_last t m (b ∷ front) s)

-- a tick before and a tick behind don't meet
put_added : (t u : ℕ) (w m : Moment) (ss : List Stretch)
    → put_before t w (added u m ss) ≡ added u m (put_before t w ss)
put_added t u w m [] = refl
put_added t u w m (s ∷ []) = elim (cases_Bool (same w s.moment)) [
  | inl front ↦
      let e : same w m ≡ same s.moment m = ap (λ (x : Moment). same x m) (equal_from_same w s.moment front) in
      elim (cases_Bool (same s.moment m)) [
        | inl back ↦ rw (back, front, e, back)
        | inr back ↦ rw (back, front, e, back)
      ]
  | inr front ↦ elim (cases_Bool (same s.moment m)) [
    | inl back ↦ rw (back, front, back)
    | inr back ↦ rw (back, front, back)
  ]
]
put_added t u w m (s ∷ next ∷ later) = elim (cases_Bool (same w s.moment)) [
  | inl front ↦ rw front
  | inr front ↦ rw front
]

-- the stretches of ticks with one more at their end
pub stretches_added : (start u : ℕ) (m : Moment) (moments : List Moment) → u ≡ start + length moments
    → stretches start (moments ++ m ∷ []) ≡ added u m (stretches start moments)
stretches_added start u m [] h = let e : start ≡ u = omega (arith, h) in rw e
stretches_added start u m (w ∷ moments) h =
    let e : u ≡ start + 1 + length moments = omega (arith, h) in
    ap (put_before start w) (stretches_added (start + 1) u m moments e)
    ∙ put_added start u w m (stretches (start + 1) moments)

added_same : (t : ℕ) (m : Moment) (front : List Stretch) (s : Stretch) → same s.moment m ≡ true
    → front ++ longer t s ∷ [] ≡ added t m (front ++ s ∷ [])
added_same t m front s h = rw (added_last t m front s, h)

added_other : (t : ℕ) (m : Moment) (front : List Stretch) (s : Stretch) → same s.moment m ≡ false
    → (front ++ s ∷ []) ++ one_tick t m ∷ [] ≡ added t m (front ++ s ∷ [])
added_other t m front s h = rw (added_last t m front s, h, append_assoc)

-- the last stretch goes on
pub goes_on : (t : ℕ) (m : Moment) (front : List Stretch) (s : Stretch) (last : Option Stretch) (old : List Stretch) (r : Stretch)
    → old ≡ front ++ option_to_list last → last ≡ Some s → same s.moment m ≡ true → r ≡ longer t s
    → front ++ r ∷ [] ≡ added t m old
goes_on t m front s last old r view is h e = rw (view, is, e) (added_same t m front s h)

-- the last stretch is closed, and the tick begins one
pub begins : (t : ℕ) (m : Moment) (front closed : List Stretch) (s : Stretch) (last : Option Stretch) (old : List Stretch) (r : Stretch)
    → old ≡ front ++ option_to_list last → last ≡ Some s → same s.moment m ≡ false → r ≡ one_tick t m → closed ≡ front ++ s ∷ []
    → closed ++ r ∷ [] ≡ added t m old
begins t m front closed s last old r view is h e f = rw (view, is, e, f) (added_other t m front s h)

-- the first tick of all begins one
pub begins_first : (t : ℕ) (m : Moment) (front : List Stretch) (last : Option Stretch) (old : List Stretch) (r : Stretch)
    → old ≡ front ++ option_to_list last → last ≡ None → IfNone last (front ≡ []) → r ≡ one_tick t m
    → front ++ r ∷ [] ≡ added t m old
begins_first t m front None old r view is bare e = rw (view, bare, e)
begins_first t m front (Some s) old r view is bare e = absurd (none-some s (sym is))

-- so a row that had the stretches of some ticks has those of one more
pub further : (t : ℕ) (m : Moment) (old new : List Stretch) → new ≡ added t m old
    → (start : ℕ) (moments : List Moment) → old ≡ stretches start moments → t ≡ start + length moments
    → new ≡ stretches start (moments ++ m ∷ [])
further t m old new step start moments were next =
    step ∙ (ap (added t m) were ∙ sym (stretches_added start t m moments next))
