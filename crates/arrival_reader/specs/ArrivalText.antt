-- The text of an arrival list: what it means, and its first fault.
use Rattle.std.specs.Prelude.{◌≡◌, ℕ, ◌+◌, ◌<◌, ◌≤◌, ◌⊎◌, Bool, true, false, not, ◌&&◌, ◌==◌, nat_le, IsTrue, List, [], ◌∷◌, ◌++◌, length, Some, None, if◌then◌else◌}
use Rattle.std.specs.List.{list_all}
use Rattle.osek_base.specs.declared.limits.TheConstants.{MAX_ARRIVALS, MAX_TICKS}
use Rattle.osek_base.specs.declared.arrivals.Arrival.{Arrival}
use Rattle.osek_base.specs.Names.{Names, number_of}
use Rattle.osek_base.specs.Words.{is_digit, is_letter, is_word_byte, number_from}
use Rattle.arrival_reader.specs.declared.irq_fault.IrqFault.{IrqFault}

-- ---- lines

-- none of the bytes is this one
abbrev pub lacks : ℕ → List ℕ → Bool
lacks byte bytes = list_all (λ b. not (b == byte)) bytes

abbrev pub onto_first : ℕ → List (List ℕ) → List (List ℕ)
onto_first b [] = (b ∷ []) ∷ []
onto_first b (line ∷ lines) = (b ∷ line) ∷ lines

-- the lines of a text; each ends with LF, and the last may lack it
abbrev pub lines_of : List ℕ → List (List ℕ)
lines_of [] = []
lines_of (b ∷ bytes) = if b == 10 then [] ∷ lines_of bytes else onto_first b (lines_of bytes)

-- the first digit is no 0, unless it is the only one
abbrev pub has_no_leading_zero : List ℕ → Bool
has_no_leading_zero [] = false
has_no_leading_zero (d ∷ []) = true
has_no_leading_zero (d ∷ e ∷ digits) = not (d == 48)

-- a decimal number without leading zeros, of any length
abbrev pub is_decimal : List ℕ → Bool
is_decimal digits = list_all is_digit digits && has_no_leading_zero digits

abbrev pub begins_with_letter : List ℕ → Bool
begins_with_letter [] = false
begins_with_letter (b ∷ bytes) = is_letter b

-- a NAME: a letter or _, then letters, digits and _, at most 32 bytes
abbrev pub is_name : List ℕ → Bool
is_name bytes = begins_with_letter bytes && list_all is_word_byte bytes && nat_le (length bytes) 32

-- a tick, one space and a NAME
pub record IsLineOf (line : List ℕ) (tick : ℕ) (name : List ℕ) : Type 0 where
  pub digits : List ℕ
  pub spelled : line ≡ digits ++ 32 ∷ name
  pub decimal : IsTrue (is_decimal digits)
  pub value : tick ≡ number_from 10 0 digits
  pub named : IsTrue (is_name name)

-- ---- what a line says

-- line `number` is an arrival of the named routine, no earlier than the line before
pub record IsRead (names : Names) (number before : ℕ) (line : List ℕ) (a : Arrival) : Type 0 where
  pub name : List ℕ
  pub formed : IsLineOf line a.tick name
  pub known : number_of name names.routines ≡ Some a.routine
  pub ordered : before ≤ a.tick
  pub few : number ≤ MAX_ARRIVALS
  pub small : a.tick < MAX_TICKS

-- the line has the form and names a routine
pub record IsKnown (names : Names) (line : List ℕ) (tick : ℕ) : Type 0 where
  pub name : List ℕ
  pub routine : ℕ
  pub formed : IsLineOf line tick name
  pub known : number_of name names.routines ≡ Some routine

-- the lowest fault of line `number`
abbrev pub LineFault : Names → ℕ → ℕ → List ℕ → IrqFault → Type 0
LineFault names number before line (IrqFault.Syntax n) =
    (n ≡ number) × ((tick : ℕ) (name : List ℕ) → ¬ IsLineOf line tick name)
LineFault names number before line (IrqFault.UnknownIsr n) =
    (n ≡ number) × ((tick : ℕ) × (name : List ℕ) × IsLineOf line tick name × (number_of name names.routines ≡ None))
LineFault names number before line (IrqFault.Order n) =
    (n ≡ number) × ((tick : ℕ) × IsKnown names line tick × (tick < before))
LineFault names number before line (IrqFault.TooMany n) =
    (n ≡ number) × ((tick : ℕ) × IsKnown names line tick × (before ≤ tick) × (MAX_ARRIVALS < number))
LineFault names number before line (IrqFault.TickRange n) =
    (n ≡ number) × ((tick : ℕ) × IsKnown names line tick × (before ≤ tick) × (number ≤ MAX_ARRIVALS) × (MAX_TICKS ≤ tick))
LineFault names number before line IrqFault.Memory = ⊥

-- ---- the whole text

-- the lines from `number` on say these arrivals
abbrev pub AreRead : Names → ℕ → ℕ → List (List ℕ) → List Arrival → Type 0
AreRead names number before [] [] = Unit {0}
AreRead names number before [] (a ∷ arrivals) = ⊥
AreRead names number before (line ∷ lines) [] = ⊥
AreRead names number before (line ∷ lines) (a ∷ arrivals) =
    IsRead names number before line a × AreRead names (number + 1) a.tick lines arrivals

-- of the lines from `number` on, the first that says no arrival has this fault
abbrev pub HasFirstFault : Names → ℕ → ℕ → List (List ℕ) → IrqFault → Type 0
HasFirstFault names number before [] fault = ⊥
HasFirstFault names number before (line ∷ lines) fault =
    LineFault names number before line fault
    ⊎ ((a : Arrival) × IsRead names number before line a × HasFirstFault names (number + 1) a.tick lines fault)

-- the text is this list of arrivals
abbrev pub IsArrivalList : Names → List ℕ → List Arrival → Type 0
IsArrivalList names text arrivals = AreRead names 1 0 (lines_of text) arrivals

-- the text's first fault
abbrev pub IsFirstFault : Names → List ℕ → IrqFault → Type 0
IsFirstFault names text fault = HasFirstFault names 1 0 (lines_of text) fault
