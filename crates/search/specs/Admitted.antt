-- Nodes by number, some of them open.
use Rattle.std.specs.Prelude.{ℕ, ◌≡◌, ◌≢◌, ◌<◌, ◌≤◌, length, false, List, ◌++◌, Some, Any, slice_get, slice_set, ◌⊎◌}
use Rattle.search.specs.Rules.{Rules}
use Rattle.search.specs.Numbers.{is_in}
use Rattle.search.specs.declared.table.Admitted.{Admitted}
use Rattle.search.specs.declared.joining.Joined.{Joined}
use Rattle.search.specs.declared.joining.Joined.TheVariants.{At, Apart}

-- a node is another one, or covers it
abbrev pub IsAbove : {N : Type 0} → Rules N → N → N → Type 0
IsAbove r y x = (y ≡ x) ⊎ r.covers y x

-- some node of a list is this one, or covers it
abbrev pub IsCovered : {N : Type 0} → Rules N → List N → N → Type 0
IsCovered r nodes y = Any (λ z. IsAbove r z y) nodes

-- the node of a number is this one, or covers it
pub record IsCoveredAt {N : Type 0} (r : Rules N) (nodes : List N) (number : ℕ) (x : N) : Type 0 where
  pub node : N
  pub here : slice_get nodes number ≡ Some node
  pub above : IsAbove r node x

-- a node has a number that isn't open
pub record IsClosed {N : Type 0} (nodes : List N) (open_numbers : List ℕ) (number : ℕ) (x : N) : Type 0 where
  pub here : slice_get nodes number ≡ Some x
  pub closed : is_in number open_numbers ≡ false

-- numbers, and more behind them
pub record AreMore (before after : List ℕ) : Type 0 where
  pub more : List ℕ
  pub same : after ≡ before ++ more

-- a node was admitted: it is covered, each that was there still is by that of its number, what is closed was closed before, and
-- what is opened comes last
pub record Admits {N : Type 0} (r : Rules N) (before : List N) (open_before : List ℕ) (after : List N) (open_after : List ℕ) (y : N) : Type 0 where
  pub more : length before ≤ length after
  pub covered : IsCovered r after y
  pub grows : (number : ℕ) (x : N) → slice_get before number ≡ Some x → IsCoveredAt r after number x
  pub stays : (number : ℕ) (x : N) → IsClosed after open_after number x → IsClosed before open_before number x
  pub last : AreMore open_before open_after

-- the node of a number was joined with another one: what stands there now covers both
pub record IsJoinedAt {N : Type 0} (r : Rules N) (before after : List N) (y : N) (number : ℕ) : Type 0 where
  pub old : N
  pub new : N
  pub here : slice_get before number ≡ Some old
  pub set_here : after ≡ slice_set before number new
  pub mine : r.covers new old
  pub others : r.covers new y

abbrev pub IsJoined : {N : Type 0} → Rules N → List N → List N → N → Joined N → Type 0
IsJoined r before after y (At number) = IsJoinedAt r before after y number
IsJoined r before after y (Apart same) = (same ≡ y) × (after ≡ before)

-- where a number of a node is told, there are more nodes
abbrev pub IsAt : ℕ → Admitted → Type 0
IsAt count Admitted.Covered = Unit {0}
IsAt count (Admitted.At number) = number < count
IsAt count Admitted.Full = Unit {0}

-- each node stays but that of a number that is told
abbrev pub OthersStay : {N : Type 0} → List N → List N → Admitted → Type 0
OthersStay {N} before after done =
    (number : ℕ) (x : N) → done ≢ Admitted.At number → slice_get before number ≡ Some x → slice_get after number ≡ Some x
