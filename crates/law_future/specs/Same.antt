-- What is kept of a state, and what a run records, in the data that is needed.
use Rattle.std.specs.Prelude.{ℕ, suc, Bool, if◌then◌else◌, List, [], ◌∷◌, map, ◌≡◌}
use Rattle.std.specs.Option.{option_map}
use Rattle.osek_base.specs.declared.ids.Owner.{Owner}
use Rattle.osek_base.specs.declared.trace_event.Effect.{Effect}
use Rattle.osek_base.specs.declared.trace_event.Results.{Results}
use Rattle.osek_base.specs.declared.trace_event.Outcome.{Outcome}
use Rattle.osek_base.specs.declared.trace_event.TraceEvent.{TraceEvent}
use Rattle.osek_base.specs.Instruction.{Context}
use Rattle.osek_base.specs.State.{Active, Words}
use Rattle.law_kept.specs.Kept.{Kept, Slot}
use Rattle.law_kept.specs.KeptTick.{KeptStep}
use Rattle.law_future.specs.Need.{Need, allowed_context}

-- ---- states

-- registers, of which those that aren't needed are 0
abbrev pub cleaned_registers : (ℕ → Bool) → List ℕ → List ℕ
cleaned_registers need [] = []
cleaned_registers need (v ∷ vs) = (if need 0 then v else 0) ∷ cleaned_registers (λ r. need (suc r)) vs

abbrev pub cleaned_context : (ℕ → Bool) → Context → Context
cleaned_context need x = record x { registers = cleaned_registers need x.registers }

abbrev pub cleaned_slot : (ℕ → Bool) → Slot → Slot
cleaned_slot need a = record a { context = cleaned_context need a.context }

abbrev pub cleaned_slots : Need → (ℕ → Slot) → ℕ → Slot
cleaned_slots need slots t = cleaned_slot (need.registers (Owner.Task t)) (slots t)

abbrev pub cleaned_routine : Need → Active → Active
cleaned_routine need a = record a { context = cleaned_context (need.registers (Owner.Routine a.routine)) a.context }

-- words of owners, of which those that aren't needed are 0
abbrev pub cleaned_words : Need → Words → Words
cleaned_words need words owner index = if need.words owner index then words owner index else 0

-- windows of resources
abbrev pub zeros : List ℕ → List ℕ
zeros words = map (λ v. 0) words

abbrev pub cleaned_shared : (ℕ → Bool) → List (List ℕ) → List (List ℕ)
cleaned_shared need [] = []
cleaned_shared need (words ∷ rest) = (if need 0 then words else zeros words) ∷ cleaned_shared (λ r. need (suc r)) rest

-- what is kept of a state, with 0 for all data that isn't needed
abbrev pub cleaned : Need → Kept → Kept
cleaned need o =
    record o {
      slots = cleaned_slots need o.slots;
      active = option_map (cleaned_routine need) o.active;
      words = cleaned_words need o.words;
      shared = cleaned_shared need.shared o.shared;
    }

-- two states have the same needed data: they are equal but for data that isn't needed
abbrev pub HaveSameNeeded : Need → Kept → Kept → Type 0
HaveSameNeeded need o p = cleaned need o ≡ cleaned need p

-- ---- records

abbrev pub blanked_effect : Effect → Effect
blanked_effect Effect.Nothing = Effect.Nothing
blanked_effect (Effect.Value v) = Effect.Value 0
blanked_effect (Effect.Stored i v) = Effect.Stored 0 0

abbrev pub blanked_results : Results → Results
blanked_results Results.Nothing = Results.Nothing
blanked_results (Results.One a) = Results.One 0
blanked_results (Results.Three a b c) = Results.Three 0 0 0

abbrev pub blanked_outcome : Outcome → Outcome
blanked_outcome (Outcome.Plain effect) = Outcome.Plain (blanked_effect effect)
blanked_outcome (Outcome.Answer status results) = Outcome.Answer status (blanked_results results)
blanked_outcome Outcome.Control = Outcome.Control

-- a record, with 0 for each value that an instruction shows
abbrev pub blanked : TraceEvent → TraceEvent
blanked (TraceEvent.Executed who place what outcome) = TraceEvent.Executed who place what (blanked_outcome outcome)
blanked event = event

-- two ticks record the same but for values, and leave states that have the same needed data
pub record AreStepsOfSame (need : Need) (a b : KeptStep) : Type 0 where
  pub events : map blanked a.events ≡ map blanked b.events
  pub after : HaveSameNeeded need a.after b.after

-- ---- states in which registers have the indices that they may have

abbrev pub allowed_routine : Need → Active → Active
allowed_routine need a = record a { context = allowed_context (need.indices (Owner.Routine a.routine)) a.context }

-- what is kept of a state, with fresh registers and place where a register has another index
abbrev pub allowed : Need → Kept → Kept
allowed need o =
    record o {
      slots = λ t. record (o.slots t) { context = allowed_context (need.indices (Owner.Task t)) (o.slots t).context };
      active = option_map (allowed_routine need) o.active;
    }

-- no register does
abbrev pub HasAllowedIndices : Need → Kept → Type 0
HasAllowedIndices need o = allowed need o ≡ o
