-- OIL: grammar. The tokens along a text, for any kind of token, given what is a piece at the front of some bytes.
use Rattle.std.specs.Prelude.{◌≡◌, ℕ, ◌+◌, ◌<◌, List, [], ◌∷◌, length, drop, map, Option, Some, None}
use Rattle.osek_base.specs.declared.lexing.Placed.{Placed}
use Rattle.osek_base.specs.declared.lexing.LexFault.{LexFault}
use Rattle.osek_base.specs.declared.lexing.LexFault.TheVariants as fault

-- a token at its place
pub record Lexeme (W : Type 0) : Type 0 where
  pub place : ℕ
  pub word : W

-- from the place on, the text is pieces, and these are its tokens. A piece without a token, as white space, means nothing
pub data Lexes {W : Type 0} (IsPiece : List ℕ → ℕ → Option W → Type 0) (text : List ℕ) : ℕ → List (Lexeme W) → Type 0 where
  ends : {p : ℕ} → p ≡ length text → Lexes IsPiece text p []
  passes : {p : ℕ} (n : ℕ) {ts : List (Lexeme W)} → IsPiece (drop p text) n None → Lexes IsPiece text (p + n) ts → Lexes IsPiece text p ts
  takes : {p : ℕ} (n : ℕ) {w : W} {ts : List (Lexeme W)} → IsPiece (drop p text) n (Some w) → Lexes IsPiece text (p + n) ts
      → Lexes IsPiece text p (record { place = p; word = w } ∷ ts)

-- from the place on, the text is pieces up to the last place, where none begins
pub data LexFails {W : Type 0} (IsPiece : List ℕ → ℕ → Option W → Type 0) (text : List ℕ) : ℕ → ℕ → Type 0 where
  here : {p : ℕ} → p < length text → ((n : ℕ) (t : Option W) → ¬ IsPiece (drop p text) n t) → LexFails IsPiece text p p
  later : {p : ℕ} (n : ℕ) (t : Option W) {q : ℕ} → IsPiece (drop p text) n t → LexFails IsPiece text (p + n) q → LexFails IsPiece text p q

-- bytes begin with one piece at most, of whole length within them and not without bytes: what makes tokens unique
pub record IsTokenRelation {W : Type 0} (IsPiece : List ℕ → ℕ → Option W → Type 0) : Type 0 where
  pub some : (bytes : List ℕ) (n : ℕ) (t : Option W) → IsPiece bytes n t → 0 < length bytes
  pub same_length : (bytes : List ℕ) (m n : ℕ) (t u : Option W) → IsPiece bytes m t → IsPiece bytes n u → m ≡ n
  pub same_token : (bytes : List ℕ) (m n : ℕ) (t u : Option W) → IsPiece bytes m t → IsPiece bytes n u → t ≡ u

-- ---- what the code holds

abbrev pub lexeme_of : {T W : Type 0} → (T → W) → Placed T → Lexeme W
lexeme_of word t = record { place = t.place; word = word t.token }

abbrev pub lexemes_of : {T W : Type 0} → (T → W) → List (Placed T) → List (Lexeme W)
lexemes_of word ts = map (lexeme_of word) ts

-- want of memory, or the first place at which no piece of the text begins
abbrev pub IsLexFault : {W : Type 0} → (List ℕ → ℕ → Option W → Type 0) → List ℕ → LexFault → Type 0
IsLexFault IsPiece text fault.Memory = Unit {0}
IsLexFault IsPiece text (fault.NoPiece p) = LexFails IsPiece text 0 p
