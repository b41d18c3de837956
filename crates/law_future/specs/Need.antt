-- The modelled processor. Which data of the programs what a run does may depend on, word by word.
use Rattle.std.specs.Prelude.{ℕ, suc, ◌<◌, ◌≤◌, ◌+◌, ◌%◌, ◌==◌, ◌≢◌, Bool, true, not, ◌&&◌, ◌||◌, ◌≡◌, IsTrue, Option, Some, None, List, [], ◌∷◌, length, slice_get, if◌then◌else◌}
use Rattle.std.specs.Option.{option_map}
use Rattle.osek_base.specs.declared.limits.TheConstants.{WINDOW_WORDS, REGISTERS}
use Rattle.osek_base.specs.declared.ids.ResId.{ResId}
use Rattle.osek_base.specs.declared.ids.Owner.{Owner}
use Rattle.osek_base.specs.declared.instr.Plain.{Plain}
use Rattle.osek_base.specs.declared.instr.Service.{Service}
use Rattle.osek_base.specs.declared.instr.Instr.{Instr}
use Rattle.osek_base.specs.Types.{PlainInstr, ServiceCall}
use Rattle.osek_base.specs.Instruction.{Context}
use Rattle.osek_base.specs.State.{fresh_context}
use Rattle.osek_base.specs.System.{System, Alarm, instruction_at}

-- which registers of each task and routine are needed, which words of its window, which declared resource's window, and of
-- which counters the value; and which indices, numbers mod 64, each register may have at each place
pub record Need : Type 0 where
  pub registers : Owner → ℕ → Bool
  pub words : Owner → ℕ → Bool
  pub shared : ℕ → Bool
  pub counters : ℕ → Bool
  pub indices : Owner → ℕ → ℕ → ℕ → Bool

-- where a is needed, b is
abbrev pub implies : Bool → Bool → Bool
implies a b = not a || b

-- what a jump compares is needed. For a register that is needed, so is what it is worked out from: of a load the words
-- that it may read. Where a word of the window is needed, so are the indices of stores; of a store that may write one,
-- the value
abbrev pub DataFollows : (ℕ → Bool) → (ℕ → Bool) → (ℕ → ℕ → Bool) → PlainInstr → Type 0
DataFollows register word index (Plain.Mov d a) = IsTrue (implies (register d) (register a))
DataFollows register word index (Plain.Compute operation d a b) = IsTrue (implies (register d) (register a && register b))
DataFollows register word index (Plain.Ld d a) =
    IsTrue (register d) → IsTrue (register a) × ((i : ℕ) → i < WINDOW_WORDS → IsTrue (index a i) → IsTrue (word i))
DataFollows register word index (Plain.St a b) =
    (i : ℕ) → i < WINDOW_WORDS → IsTrue (word i) → IsTrue (register a) × (IsTrue (index a i) → IsTrue (register b))
DataFollows register word index (Plain.JumpIf test a b to) = IsTrue (register a && register b)
DataFollows register word index _ = Unit {0}

-- a register may have each index
abbrev pub MayHoldAll : (ℕ → ℕ → Bool) → ℕ → Type 0
MayHoldAll index d = (i : ℕ) → i < WINDOW_WORDS → IsTrue (index d i)

-- what registers may have, they may have afterwards; so may all but one
abbrev pub Passes : (ℕ → ℕ → Bool) → (ℕ → ℕ → Bool) → Type 0
Passes before after = (r i : ℕ) → IsTrue (before r i) → IsTrue (after r i)

abbrev pub PassesBut : ℕ → (ℕ → ℕ → Bool) → (ℕ → ℕ → Bool) → Type 0
PassesBut d before after = (r i : ℕ) → r ≢ d → IsTrue (before r i) → IsTrue (after r i)

-- what registers may have at a place, and what they may have at the places that may follow
abbrev pub IndicesFollow : (ℕ → ℕ → ℕ → Bool) → ℕ → PlainInstr → Type 0
IndicesFollow index place (Plain.Li d n) =
    PassesBut d (index place) (index (place + 1)) × IsTrue (index (place + 1) d (n % WINDOW_WORDS))
IndicesFollow index place (Plain.Mov d a) =
    PassesBut d (index place) (index (place + 1)) × ((i : ℕ) → IsTrue (index place a i) → IsTrue (index (place + 1) d i))
IndicesFollow index place (Plain.Compute operation d a b) =
    PassesBut d (index place) (index (place + 1)) × MayHoldAll (index (place + 1)) d
IndicesFollow index place (Plain.Ld d a) = PassesBut d (index place) (index (place + 1)) × MayHoldAll (index (place + 1)) d
IndicesFollow index place (Plain.Jmp to) = Passes (index place) (index to)
IndicesFollow index place (Plain.JumpIf test a b to) = Passes (index place) (index (place + 1)) × Passes (index place) (index to)
IndicesFollow index place _ = Passes (index place) (index (place + 1))

-- the times of an alarm are needed. A resource's words come into r1
abbrev pub respects_service : (ℕ → Bool) → (ℕ → Bool) → ServiceCall → Bool
respects_service register shared (Service.SetRelAlarm a increment cycle) = register increment && register cycle
respects_service register shared (Service.SetAbsAlarm a start cycle) = register start && register cycle
respects_service register shared (Service.LoadShared (Some (ResId.Declared r)) i) = implies (register 1) (register i && shared r)
respects_service register shared (Service.StoreShared (Some (ResId.Declared r)) i v) = implies (shared r) (register i && register v)
respects_service register shared _ = true

-- a service answers into r0 to r3
abbrev pub Respects : Need → Owner → ℕ → Instr → Type 0
Respects need who place (Instr.Plain p) =
    DataFollows (need.registers who) (need.words who) (need.indices who place) p × IndicesFollow (need.indices who) place p
Respects need who place (Instr.Service call) =
    IsTrue (respects_service (need.registers who) need.shared call)
    × Passes (need.indices who place) (need.indices who (place + 1))
    × ((r : ℕ) → r < 4 → MayHoldAll (need.indices who (place + 1)) r)
Respects need who place (Instr.Control control) = Passes (need.indices who place) (need.indices who (place + 1))

-- the counter whose value a service asks for: that of an alarm which it sets to a value of it
abbrev pub asked_by_service : System → ServiceCall → Option ℕ
asked_by_service S (Service.SetAbsAlarm (Some a) start cycle) = option_map (λ (x : Alarm). x.counter) (slice_get S.alarms a)
asked_by_service S _ = None

abbrev pub asked_by : System → Instr → Option ℕ
asked_by S (Instr.Service call) = asked_by_service S call
asked_by S _ = None

-- the counters whose values programs ask for are among these
abbrev pub HaveAsked : System → (ℕ → Bool) → Type 0
HaveAsked S counters =
    (who : Owner) (place c : ℕ) → asked_by S (instruction_at S who place) ≡ Some c → IsTrue (counters c)

-- a need suffices: at its first place each register may have 0, and each instruction of each program is respected. Beyond
-- r7 is none. The values that programs ask for are needed
pub record Suffices (S : System) (need : Need) : Type 0 where
  pub zero : (who : Owner) (r : ℕ) → IsTrue (need.indices who 0 r 0)
  pub beyond : (who : Owner) (place r : ℕ) → REGISTERS ≤ r → IsTrue (need.indices who place r 0)
  pub each : (who : Owner) (place : ℕ) → Respects need who place (instruction_at S who place)
  pub counters : HaveAsked S need.counters

-- registers have the indices that they may have
abbrev pub are_allowed : (ℕ → ℕ → Bool) → List ℕ → Bool
are_allowed index [] = true
are_allowed index (v ∷ vs) = index 0 (v % WINDOW_WORDS) && are_allowed (λ r. index (suc r)) vs

-- there are eight, and they do
abbrev pub has_allowed : (ℕ → ℕ → ℕ → Bool) → Context → Bool
has_allowed index x = (length x.registers == REGISTERS) && are_allowed (index x.place) x.registers

-- ---- states in which registers have the indices that they may have

abbrev pub allowed_context : (ℕ → ℕ → ℕ → Bool) → Context → Context
allowed_context index x = if has_allowed index x then x else fresh_context
