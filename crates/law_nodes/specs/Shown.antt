-- OSEK/VDX OS: GetEvent. What a job may find set for its own task.
use Rattle.std.specs.Prelude.{ℕ, zero, suc, ◌^◌, Bool, ◌&&◌, ◌==◌, nat_le, if◌then◌else◌, List, [], ◌∷◌, ◌++◌, map, Some, slice_set, bit_or, count_ones}
use Rattle.osek_base.specs.declared.ids.Owner.{Owner}
use Rattle.osek_base.specs.declared.limits.TheConstants.{MAX_EVENTS}
use Rattle.osek_base.specs.System.{System}
use Rattle.law_costs.specs.Settable.{settable}
use Rattle.law_nodes.specs.Early.{is_mask, is_set}
use Rattle.law_nodes.specs.Nodes.{Node}

-- masks, and each with one more event of a mask, if that has it
abbrev pub with_event : ℕ → ℕ → List ℕ → List ℕ
with_event m b vs = if is_set m b then vs ++ map (λ v. bit_or v (2 ^ b)) vs else vs

-- all that has no others than the first so many events of a mask
abbrev pub choices : ℕ → ℕ → List ℕ
choices m zero = 0 ∷ []
choices m (suc b) = with_event m b (choices m b)

-- .. than its events
unfoldable pub subsets : ℕ → List ℕ
subsets m = choices m MAX_EVENTS

-- of more events it isn't told which are set
abbrev pub MOST_SHOWN : ℕ
MOST_SHOWN = 4

abbrev pub are_few : ℕ → Bool
are_few m = is_mask m && nat_le (count_ones m) MOST_SHOWN

-- a job that finds these events set: r1 has them, and all of them are used
abbrev pub shown_node : Node → ℕ → Node
shown_node n v = record n { used = v; registers = slice_set n.registers 1 (Some v) }

-- by all that it may find, of its own task, if few events may be set for that
abbrev pub shown_to : Owner → System → ℕ → Node → List Node
shown_to (Owner.Task u) S t n =
    if u == t && are_few (settable S t) then map (shown_node n) (subsets (settable S t))
    else n ∷ []
shown_to (Owner.Routine i) S t n = n ∷ []
