-- Labels: values that go on tick by tick, by what is seen in each tick.
use Rattle.std.specs.Prelude.{ℕ, suc, ◌≡◌, ◌<◌, ◌≤◌, ◌-◌, ◌^◌, List, [], ◌∷◌, Option, Some, None, IfSome}
use Rattle.view_figures.specs.declared.reached.Reached.{Reached}
use Rattle.view_figures.specs.Counts.{capped}
use Rattle.view_figures.specs.Reaching.{worst, put}

-- a label before the first tick, and after a tick in which something is seen
pub record Label (T L : Type 0) : Type 0 where
  pub first : L
  pub next : T → L → L

-- the label after ticks, newest first
abbrev pub label_after : {T L : Type 0} → Label T L → List T → L
label_after label [] = label.first
label_after label (t ∷ before) = label.next t (label_after label before)

-- something holds in each tick of what is seen in it and of the label before it
abbrev pub InEach : {T L : Type 0} → Label T L → (T → L → Type 0) → List T → Type 0
InEach label P [] = Unit {0}
InEach label P (t ∷ before) = P t (label_after label before) × InEach label P before

-- the number of each tick is one more than that of the tick before it
abbrev pub AreNumbered : {T : Type 0} → (T → ℕ) → List T → Type 0
AreNumbered number [] = Unit {0}
AreNumbered number (t ∷ []) = Unit {0}
AreNumbered number (t ∷ (u ∷ before)) =
    (number t ≡ suc (number u)) × AreNumbered number (u ∷ before)

-- ---- what labels show

-- a number of ticks that a label shows in a tick, as figures tell it
abbrev pub reached : ℕ → Option ℕ → Option Reached
reached tick None = None
reached tick (Some n) = Some (record { ticks = capped n; at = tick })

-- the numbers that labels show in ticks, newest first
abbrev pub all_shown : {T L : Type 0} → Label T L → (T → ℕ) → (T → L → Option ℕ) → List T
    → List Reached
all_shown label number show [] = []
all_shown label number show (t ∷ before) =
    put (reached (number t) (show t (label_after label before)))
    (all_shown label number show before)

abbrev pub IsAtMost : ℕ → Option ℕ → Type 0
IsAtMost m shown = IfSome shown (λ n. n ≤ m)

abbrev pub IsWithin : ℕ → Option Reached → Type 0
IsWithin m figure = IfSome figure (λ (r : Reached). r.ticks ≤ m)

-- no label shows more than so many ticks
abbrev pub NoneShowsMore : {T L : Type 0} → Label T L → (T → L → Option ℕ) → ℕ → List T → Type 0
NoneShowsMore label show m seen = InEach label (λ t l. IsAtMost m (show t l)) seen

-- a figure is the greatest number that a label shows; below the greatest count it is within a
-- bound exactly where no label shows more
pub record IsGreatest {T L : Type 0} (label : Label T L) (number : T → ℕ) (show : T → L → Option ℕ)
    (seen : List T) (figure : Option Reached) : Type 0 where
  pub told : figure ≡ worst (all_shown label number show seen)
  pub within : (m : ℕ) → NoneShowsMore label show m seen → IsWithin m figure
  pub shown : (m : ℕ) → m < 2 ^ 32 - 1 → IsWithin m figure → NoneShowsMore label show m seen

-- ---- an order of labels

-- a step keeps an order
pub record IsOrder {T L : Type 0} (label : Label T L) (AtLeast : L → L → Type 0) : Type 0 where
  pub itself : (l : L) → AtLeast l l
  pub joined : (l m n : L) → AtLeast l m → AtLeast m n → AtLeast l n
  pub next : (t : T) (l m : L) → AtLeast l m → AtLeast (label.next t l) (label.next t m)

-- a greater label shows no less
abbrev pub ShowsNoLess : {T L : Type 0} → (L → L → Type 0) → (T → L → Option ℕ) → Type 0
ShowsNoLess {T} {L} AtLeast show =
    (t : T) (l k : L) (m : ℕ) → AtLeast l k → IsAtMost m (show t l) → IsAtMost m (show t k)
