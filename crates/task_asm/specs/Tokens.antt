-- The tokens of a program text, each with its place.
use Rattle.std.specs.Prelude.{◌≡◌, ℕ, ◌<◌, ◌≤◌, ◌⊎◌, ◌||◌, ◌==◌, List, length, take, slice_index, Option, Some, None, option_map, if◌then◌else◌, codes}
use Rattle.osek_base.specs.declared.limits.TheConstants.{MAX_NAME}
use Rattle.osek_base.specs.Words.{is_letter, is_digit, IsRun, IsNumeral, IsLine}
use Rattle.osek_base.specs.Tokens as base
use Rattle.osek_base.specs.Tokens.{Lexeme, LexFails}
use Rattle.task_asm.specs.declared.program.ProgramKind.{ProgramKind}
use Rattle.task_asm.specs.declared.tokens.Class.{Class}
use Rattle.task_asm.specs.declared.tokens.Class.TheVariants as class
use Rattle.task_asm.specs.declared.tokens.Sign.{Sign}
use Rattle.task_asm.specs.declared.tokens.Sign.TheVariants.{Comma, Colon, Plus}
use Rattle.task_asm.specs.declared.tokens.Token.{Token}
use Rattle.task_asm.specs.declared.tokens.Token.TheVariants as token
use Rattle.osek_base.specs.declared.lexing.Placed.{Placed}
use Rattle.osek_base.specs.declared.lexing.Piece.{Piece}
use Rattle.task_asm.specs.declared.fault.AsmFault.{AsmFault}
use Rattle.task_asm.specs.declared.fault.AsmFault.TheVariants as fault

-- what may begin with a byte
abbrev pub class_of : ℕ → Class
class_of b =
    if is_letter b then class.Letter
    else (if is_digit b then class.Digit
    else (if (b == 32) || (b == 9) || (b == 13) then class.Blank
    else (if b == 10 then class.LineEnd
    else (if b == 59 then class.Semicolon
    else (if b == 46 then class.Dot
    else (if b == 44 then class.Mark Comma
    else (if b == 58 then class.Mark Colon
    else (if b == 43 then class.Mark Plus
    else class.Other))))))))

-- a token without where it lies in memory
pub data Symbol : Type 0 where
  Word : List ℕ → Symbol
  Number : ℕ → Symbol
  Directive : ProgramKind → Symbol
  Mark : Sign → Symbol
  LineEnd : Symbol

-- .task or .isr, also where a word follows at once
abbrev pub IsDirective : List ℕ → ℕ → Option Symbol → Type 0
IsDirective bytes n t =
    ((n ≡ 5) × (take 5 bytes ≡ codes ".task") × (t ≡ Some (Directive ProgramKind.Task)))
    ⊎ ((n ≡ 4) × (take 4 bytes ≡ codes ".isr") × (t ≡ Some (Directive ProgramKind.Routine)))

-- the first n bytes are a piece of the text: a token, or what means nothing, as a comment, which is ; and the rest of its line
abbrev pub IsPieceOf : Class → List ℕ → ℕ → Option Symbol → Type 0
IsPieceOf class.Letter bytes n t = IsRun bytes n × (n ≤ MAX_NAME) × (t ≡ Some (Word (take n bytes)))
IsPieceOf class.Digit bytes n t = IsRun bytes n × (v : ℕ) × IsNumeral (take n bytes) v × (t ≡ Some (Number v))
IsPieceOf class.Blank bytes n t = (n ≡ 1) × (t ≡ None)
IsPieceOf class.LineEnd bytes n t = (n ≡ 1) × (t ≡ Some LineEnd)
IsPieceOf class.Semicolon bytes n t = IsLine bytes n × (t ≡ None)
IsPieceOf class.Dot bytes n t = IsDirective bytes n t
IsPieceOf (class.Mark s) bytes n t = (n ≡ 1) × (t ≡ Some (Mark s))
IsPieceOf class.Other bytes n t = ⊥

abbrev pub IsPiece : List ℕ → ℕ → Option Symbol → Type 0
IsPiece bytes n t = (0 < length bytes) × IsPieceOf (class_of (slice_index bytes 0)) bytes n t

-- ---- what the code holds

abbrev pub symbol_of : Token → Symbol
symbol_of (token.Word s) = Word s.now
symbol_of (token.Number n) = Number n
symbol_of (token.Directive kind) = Directive kind
symbol_of (token.Sign s) = Mark s
symbol_of token.LineEnd = LineEnd

abbrev pub lexeme_of : Placed Token → Lexeme Symbol
lexeme_of t = base.lexeme_of symbol_of t

abbrev pub lexemes_of : List (Placed Token) → List (Lexeme Symbol)
lexemes_of ts = base.lexemes_of symbol_of ts

-- a function that looks for a piece of a class: what it found, or there is none
abbrev pub GivesPiece : Class → List ℕ → Option (Piece Token) → Type 0
GivesPiece k bytes (Some p) = IsPieceOf k bytes p.len (option_map symbol_of p.token) × (0 < p.len) × (p.len ≤ length bytes)
GivesPiece k bytes None = (n : ℕ) (t : Option Symbol) → ¬ IsPieceOf k bytes n t

-- a fault of the tokens: want of memory, or the first place at which no piece of the text begins
abbrev pub IsTokenFault : List ℕ → AsmFault → Type 0
IsTokenFault text fault.Memory = Unit {0}
IsTokenFault text (fault.Token p) = LexFails IsPiece text 0 p
IsTokenFault text _ = ⊥
