-- How a visit goes.
use Rattle.std.specs.Prelude.{ℕ, ◌≡◌, ◌<◌, true, Bool, cond, List, Some, Any, slice_get, take, drop}
use Rattle.search.specs.Rules.{Repeats, Rules}
use Rattle.search.specs.Searched.{IsTried, IsVisited}
use Rattle.search.specs.Numbers.{is_in}
use Rattle.search.specs.Admitted.{IsClosed, IsCoveredAt, Admits, AreMore}
use Rattle.search.specs.declared.searching.Tried.{Tried}

-- each choice below a number was tried that may be made in the node
abbrev pub AreTried : {N : Type 0} → Rules N → (N → ℕ → Type 0) → List N → N → ℕ → Type 0
AreTried r is_noted nodes x bound = (choice : ℕ) → choice < bound → r.may x choice → IsTried r is_noted nodes x choice

-- each node was visited whose number isn't open
abbrev pub AreVisited : {N : Type 0} → Rules N → (N → ℕ → Type 0) → List N → List ℕ → Type 0
AreVisited {N} r is_noted nodes open_numbers =
    (number : ℕ) (x : N) → IsClosed nodes open_numbers number x → IsVisited r is_noted nodes x

-- a choice is tried in the node of a number: what comes of it is admitted, and what is seen is noted
pub record Tries {N : Type 0} (r : Rules N) (is_noted : N → ℕ → Type 0) (before : List N) (open_before : List ℕ) (after : List N)
    (open_after : List ℕ) (number choice : ℕ) : Type 0 where
  pub from : N
  pub to : N
  pub here : slice_get before number ≡ Some from
  pub next : r.is_next from choice to
  pub noted : is_noted from choice
  pub admits : Admits r before open_before after open_after to

-- the node of a number stays
abbrev pub Stays : {N : Type 0} → List N → List N → ℕ → Type 0
Stays {N} before after number = (x : N) → slice_get before number ≡ Some x → slice_get after number ≡ Some x

-- a choice repeats a lower one in the node of a number, and nothing changes
pub record Passes {N : Type 0} (r : Rules N) (is_noted : N → ℕ → Type 0) (before : List N) (open_before : List ℕ) (after : List N)
    (open_after : List ℕ) (number choice : ℕ) : Type 0 where
  pub from : N
  pub here : slice_get before number ≡ Some from
  pub lower : ℕ
  pub repeats : Repeats r is_noted from choice lower
  pub nodes : after ≡ before
  pub numbers : open_after ≡ open_before

-- where a choice was tried, the node in which it was stays, unless what comes of it was joined with that one
abbrev pub GoesOn : {N : Type 0} → Rules N → (N → ℕ → Type 0) → List N → List ℕ → List N → List ℕ → ℕ → ℕ → Tried → Type 0
GoesOn r is_noted before open_before after open_after number choice Tried.Apart =
    Tries r is_noted before open_before after open_after number choice × Stays before after number
GoesOn r is_noted before open_before after open_after number choice Tried.Before =
    Passes r is_noted before open_before after open_after number choice
GoesOn r is_noted before open_before after open_after number choice Tried.Itself =
    Tries r is_noted before open_before after open_after number choice
GoesOn r is_noted before open_before after open_after number choice (Tried.Not obstacle) = Unit {0}

-- the node of a number is being visited: what stood for the beginning still does, each node was visited whose number isn't open,
-- each that was there is still covered by that of its number, what was opened comes last, and if it is done, the node is as it was, and was visited
pub record Visits {N : Type 0} (r : Rules N) (is_noted : N → ℕ → Type 0) (before : List N) (open_before : List ℕ) (after : List N)
    (open_after : List ℕ) (number : ℕ) (is_done : Bool) : Type 0 where
  pub first : Any r.is_first before → Any r.is_first after
  pub visited : AreVisited r is_noted after open_after
  pub grows : (k : ℕ) (x : N) → slice_get before k ≡ Some x → IsCoveredAt r after k x
  pub last : AreMore open_before open_after
  pub done : is_done ≡ true → (x : N) → slice_get before number ≡ Some x → (slice_get after number ≡ Some x) × IsVisited r is_noted after x

abbrev pub closed_by : Bool → ℕ
closed_by is_done = cond is_done 1 0

-- so many of the numbers that were open for longest were closed: their nodes were visited
pub record Closes {N : Type 0} (r : Rules N) (is_noted : N → ℕ → Type 0) (before : List N) (open_before : List ℕ) (after : List N)
    (open_after : List ℕ) (closed : ℕ) : Type 0 where
  pub first : Any r.is_first before → Any r.is_first after
  pub visited : AreVisited r is_noted after open_after
  pub grows : (k : ℕ) (x : N) → slice_get before k ≡ Some x → IsCoveredAt r after k x
  pub last : AreMore (drop closed open_before) open_after
  pub done : (k : ℕ) (x : N) → is_in k (take closed open_before) ≡ true → slice_get before k ≡ Some x → IsVisited r is_noted after x
