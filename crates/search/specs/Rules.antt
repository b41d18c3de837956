-- What a search goes through.
use Rattle.std.specs.Prelude.{ℕ, ◌-◌, ◌^◌, ◌<◌, ◌≤◌}

-- nodes: which may stand at the beginning, which choices may be made in a node, which nodes stand for what comes of a node
-- under a choice, and which nodes stand for all that another one stands for
pub record Rules (N : Type 0) : Type 1 where
  pub is_first : N → Type 0
  pub may : N → ℕ → Type 0
  pub is_next : N → ℕ → N → Type 0
  pub covers : N → N → Type 0

-- where a node stands for something, so does each that covers it; and what covers it, covers what it covers
pub record AreKept {N : Type 0} (r : Rules N) : Type 0 where
  pub first : (x y : N) → r.is_first x → r.covers y x → r.is_first y
  pub next : (x y z : N) (choice : ℕ) → r.is_next x choice y → r.covers z y → r.is_next x choice z
  pub joined : (x y z : N) → r.covers x y → r.covers y z → r.covers x z

-- one node covers two
abbrev pub CoversBoth : {N : Type 0} → Rules N → N → N → N → Type 0
CoversBoth r x y z = r.covers x y × r.covers x z

-- of the choices from one number up to another none may be made
abbrev pub NoneMay : {N : Type 0} → Rules N → N → ℕ → ℕ → Type 0
NoneMay r x from to = (choice : ℕ) → from ≤ choice → choice < to → ¬ r.may x choice

-- and none at all from a number on
abbrev pub NoMoreMay : {N : Type 0} → Rules N → N → ℕ → Type 0
NoMoreMay r x from = (choice : ℕ) → from ≤ choice → ¬ r.may x choice

-- a choice is the first from a number on that may be made. The greatest number of 64 bits is none
pub record IsNextChoice {N : Type 0} (r : Rules N) (x : N) (from choice : ℕ) : Type 0 where
  pub high : from ≤ choice
  pub low : choice < 2 ^ 64 - 1
  pub may : r.may x choice
  pub others : NoneMay r x from choice

-- a lower choice, which may be made too, tells all of this one: what comes of the lower one comes of this one, and where what is
-- seen with the lower one is noted, so is what is seen with this one
pub record Repeats {N : Type 0} (r : Rules N) (is_noted : N → ℕ → Type 0) (x : N) (choice lower : ℕ) : Type 0 where
  pub low : lower < choice
  pub may : r.may x lower
  pub next : (y : N) → r.is_next x lower y → r.is_next x choice y
  pub noted : is_noted x lower → is_noted x choice

-- what was noted of choices in nodes stays noted
abbrev pub StaysNoted : {X N : Type 0} → (X → N → ℕ → Type 0) → X → X → Type 0
StaysNoted {X} {N} is_noted before after = (x : N) (choice : ℕ) → is_noted before x choice → is_noted after x choice
