-- Which fault a text has.
use Rattle.std.specs.Prelude.{◌≡◌, ℕ, List, ◌⊎◌, Option, Some, None, option_map, length, ◌<◌, ◌≤◌}
use Rattle.oil_reader.specs.declared.fault.OilFault.{OilFault}
use Rattle.oil_reader.specs.declared.fault.OilFault.TheVariants as fault
use Rattle.oil_reader.specs.declared.tokens.Token.{Token}
use Rattle.oil_reader.specs.declared.tokens.Class.{Class}
use Rattle.osek_base.specs.declared.lexing.Piece.{Piece}
use Rattle.oil_reader.specs.Tokens.{Word, Lexeme, IsTokensOf, IsTokenFaultAt, word_of, IsPieceOf}
use Rattle.oil_reader.specs.Grammar.{File, IsFile, IsSyntaxFault}
use Rattle.oil_reader.specs.Order.{IsFirstFault}
use Rattle.oil_reader.specs.Attributes.{Stands, IsSoundFile}
use Rattle.oil_reader.specs.Configuration.{Configuration}
use Rattle.oil_reader.specs.Meaning.{configuration_of}

-- what the tokenizer answers where it doesn't give tokens
abbrev pub IsTokenFault : List ℕ → OilFault → Type 0
IsTokenFault text fault.Memory = Unit {0}
IsTokenFault text (fault.Token p) = IsTokenFaultAt text p
IsTokenFault text _ = ⊥

abbrev pub piece_word : Option Token → Option Word
piece_word t = option_map word_of t

-- a function that looks for a piece of a class: what it found, or there is none
abbrev pub GivesPiece : Class → List ℕ → Option (Piece Token) → Type 0
GivesPiece k bytes (Some p) = IsPieceOf k bytes p.len (piece_word p.token) × (0 < p.len) × (p.len ≤ length bytes)
GivesPiece k bytes None = (n : ℕ) (t : Option Word) → ¬ IsPieceOf k bytes n t

-- what the parser answers where it doesn't give a tree
abbrev pub IsSyntaxAnswer : ℕ → List Lexeme → OilFault → Type 0
IsSyntaxAnswer len ts fault.Memory = Unit {0}
IsSyntaxAnswer len ts (fault.Syntax p) = IsSyntaxFault len ts p
IsSyntaxAnswer len ts _ = ⊥

-- ---- what a text means, and which fault it has

-- the text is tokens, and these spell the tree
abbrev pub IsTreeOf : List ℕ → File → Type 0
IsTreeOf text f = (ts : List Lexeme) × IsTokensOf text ts × IsFile f ts

-- a fault of the tokens, or else of the syntax
abbrev pub HasSyntaxFault : List ℕ → OilFault → Type 0
HasSyntaxFault text fault.Memory = Unit {0}
HasSyntaxFault text (fault.Token p) = IsTokenFaultAt text p
HasSyntaxFault text (fault.Syntax p) = (ts : List Lexeme) × IsTokensOf text ts × IsSyntaxFault (length text) ts p
HasSyntaxFault text _ = ⊥

-- the text is a tree, and this is the first fault that stands in it
abbrev pub HasFileFault : List ℕ → OilFault → Type 0
HasFileFault text e = (f : File) × IsTreeOf text f × IsFirstFault (Stands f) e

-- the fault of a text: of its tokens, else of its syntax, else the first of its attributes and objects. Want of memory
-- is no fault of the text, and says nothing of it
abbrev pub HasFault : List ℕ → OilFault → Type 0
HasFault text e = HasSyntaxFault text e ⊎ HasFileFault text e

-- the text is a tree without a fault, and the file holds what the tree says
pub record Means (text : List ℕ) (c : Configuration) : Type 0 where
  pub tree : File
  pub is_tree : IsTreeOf text tree
  pub sound : IsSoundFile tree
  pub content : c ≡ configuration_of tree
