-- OIL: grammar. The tokens of a text, each with its place.
use Rattle.std.specs.Prelude.{◌≡◌, ℕ, ◌+◌, ◌-◌, ◌<◌, ◌≤◌, ◌⊎◌, ◌||◌, ◌==◌, List, length, take, slice_index, Option, Some, None, if◌then◌else◌, codes}
use Rattle.osek_base.specs.declared.limits.TheConstants.{MAX_NAME}
use Rattle.osek_base.specs.Words.{is_letter, is_digit, IsRun, IsNumeral, IsLine}
use Rattle.osek_base.specs.Tokens as base
use Rattle.oil_reader.specs.declared.tokens.Class.{Class}
use Rattle.oil_reader.specs.declared.tokens.Class.TheVariants as class
use Rattle.oil_reader.specs.declared.tokens.Sign.{Sign}
use Rattle.oil_reader.specs.declared.tokens.Sign.TheVariants.{Open, Close, Equals, Semicolon}
use Rattle.oil_reader.specs.declared.tokens.Token.{Token}
use Rattle.oil_reader.specs.declared.tokens.Token.TheVariants as token
use Rattle.osek_base.specs.declared.lexing.Placed.{Placed}

-- ---- pieces

-- what may begin with a byte
abbrev pub class_of : ℕ → Class
class_of b =
    if is_letter b then class.Letter
    else (if is_digit b then class.Digit
    else (if (b == 32) || (b == 9) || (b == 13) || (b == 10) then class.Blank
    else (if b == 47 then class.Slash
    else (if b == 34 then class.Quote
    else (if b == 123 then class.Mark Open
    else (if b == 125 then class.Mark Close
    else (if b == 61 then class.Mark Equals
    else (if b == 59 then class.Mark Semicolon
    else class.Other))))))))

-- // and what stands before the next LF or the end
abbrev pub IsLineComment : List ℕ → ℕ → Type 0
IsLineComment bytes n = (slice_index bytes 1 ≡ 47) × IsLine bytes n

-- */ stands at i
abbrev pub ClosesAt : List ℕ → ℕ → Type 0
ClosesAt bytes i = (slice_index bytes i ≡ 42) × (slice_index bytes (i + 1) ≡ 47)

-- /* up to and with the next */
pub record IsBlockComment (bytes : List ℕ) (n : ℕ) : Type 0 where
  pub opens : slice_index bytes 1 ≡ 42
  pub within : n ≤ length bytes
  pub long : 4 ≤ n
  pub closes : ClosesAt bytes (n - 2)
  pub shortest : (i : ℕ) → 2 ≤ i → i + 2 < n → ¬ ClosesAt bytes i

-- a token without where it lies in memory
pub data Word : Type 0 where
  Name : List ℕ → Word
  Number : ℕ → Word
  Version : Word
  Mark : Sign → Word

-- the first n bytes are a piece of the text: a token, or what means nothing
abbrev pub IsPieceOf : Class → List ℕ → ℕ → Option Word → Type 0
IsPieceOf class.Letter bytes n t = IsRun bytes n × (n ≤ MAX_NAME) × (t ≡ Some (Name (take n bytes)))
IsPieceOf class.Digit bytes n t = IsRun bytes n × (v : ℕ) × IsNumeral (take n bytes) v × (t ≡ Some (Number v))
IsPieceOf class.Blank bytes n t = (n ≡ 1) × (t ≡ None)
IsPieceOf class.Slash bytes n t = (IsLineComment bytes n ⊎ IsBlockComment bytes n) × (t ≡ None)
IsPieceOf class.Quote bytes n t = (n ≡ 5) × (take 5 bytes ≡ codes "\"2.5\"") × (t ≡ Some Version)
IsPieceOf (class.Mark s) bytes n t = (n ≡ 1) × (t ≡ Some (Mark s))
IsPieceOf class.Other bytes n t = ⊥

abbrev pub IsPiece : List ℕ → ℕ → Option Word → Type 0
IsPiece bytes n t = (0 < length bytes) × IsPieceOf (class_of (slice_index bytes 0)) bytes n t

-- a token at its place
abbrev pub Lexeme : Type 0
Lexeme = base.Lexeme Word

-- the tokens of a text
abbrev pub IsTokensOf : List ℕ → List Lexeme → Type 0
IsTokensOf text ts = base.Lexes IsPiece text 0 ts

-- the first byte at which no token, white space or comment begins
abbrev pub IsTokenFaultAt : List ℕ → ℕ → Type 0
IsTokenFaultAt text p = base.LexFails IsPiece text 0 p

-- ---- what the code holds

abbrev pub word_of : Token → Word
word_of (token.Name s) = Name s.text.now
word_of (token.Number n) = Number n
word_of token.Version = Version
word_of (token.Sign s) = Mark s

abbrev pub lexeme_of : Placed Token → Lexeme
lexeme_of t = base.lexeme_of word_of t

abbrev pub lexemes_of : List (Placed Token) → List Lexeme
lexemes_of ts = base.lexemes_of word_of ts
