-- OSEK/VDX OS: task management, interrupt processing, alarms. What a key of bytes asks of states to
-- tell all that is needed of them, and that it does.
use Rattle.std.specs.Prelude.{ℕ, ◌≡◌, ◌<◌, ◌≤◌, [], IfSome, List, length, true}
use Rattle.osek_base.specs.declared.limits.TheConstants.{MAX_TASK_PRIORITY, REGISTERS, WINDOW_WORDS, SHARED_WORDS}
use Rattle.osek_base.specs.declared.ids.Owner.{Owner}
use Rattle.osek_base.specs.declared.arrivals.Arrival.{Arrival}
use Rattle.osek_base.specs.System.{System}
use Rattle.osek_base.specs.Instruction.{Context}
use Rattle.osek_base.specs.State.{shared_window}
use Rattle.osek_base.specs.Proper.{IsProper}
use Rattle.osek_base.specs.Separable.{IsOwner}
use Rattle.law_kept.specs.Kept.{Kept, unbegun}
use Rattle.law_future.specs.Need.{Need}
use Rattle.law_future.specs.Alike.{kept_after}
use Rattle.law_future.specs.AlikeIn.{AreAlikeIn}
use Rattle.law_future.specs.Relative.{AreAhead}
use Rattle.search_keys.specs.Key.{key}

abbrev pub HasRegisters : Context → Type 0
HasRegisters x = length x.registers ≡ REGISTERS

-- a state has what a system has and no more, and no alarm has passed its count
pub record IsInRange (S : System) (o : Kept) : Type 0 where
  -- where there is no job, nothing is kept of one; none is of a task beyond the system's
  pub unused : (t : ℕ) → (o.slots t).count ≡ 0 → o.slots t ≡ unbegun 0
  pub tasks : (t : ℕ) → length S.tasks ≤ t → (o.slots t).count ≡ 0
  pub registers : (t : ℕ) → HasRegisters (o.slots t).context
  pub active : IfSome o.active (λ a. HasRegisters a.context)
  -- no task is ready above the highest priority that a task may have
  pub levels : (l : ℕ) → MAX_TASK_PRIORITY < l → o.queues l ≡ []
  pub pending : length o.pending ≡ length S.routines
  pub masks : length o.masks ≡ length S.tasks
  pub shared : length o.shared ≡ length S.resources
  pub windows : (r : ℕ) → r < length S.resources → length (shared_window o.shared r) ≡ SHARED_WORDS
  pub ahead : AreAhead S o

-- no word is needed beyond the windows of the system's tasks and routines
abbrev pub NeedsOwnWords : System → Need → Type 0
NeedsOwnWords S need =
    (who : Owner) (i : ℕ) → need.words who i ≡ true → IsOwner S who × (i < WINDOW_WORDS)

-- ---- the laws

-- states in range whose keys are equal are alike in what is needed
abbrev pub KeysTell : Type 0
KeysTell =
    (S : System) (need : Need) (o p : Kept) → NeedsOwnWords S need → IsInRange S o → IsInRange S p
    → key S need o ≡ key S need p → AreAlikeIn S need o p

-- states in range that are alike in what is needed have equal keys
abbrev pub AlikeHaveOneKey : Type 0
AlikeHaveOneKey =
    (S : System) (need : Need) (o p : Kept) → IsInRange S o → IsInRange S p
    → AreAlikeIn S need o p → key S need o ≡ key S need p

-- what is kept after each tick of every run is in range
abbrev pub RunsAreInRange : Type 0
RunsAreInRange =
    (S : System) (mode : ℕ) (arrivals : List Arrival) (n : ℕ) → IsProper S
    → IsInRange S (kept_after S mode arrivals n)
