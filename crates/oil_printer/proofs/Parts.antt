-- The parts of a printed text, and that those which are tokens are its tokens.
use Rattle.std.proofs.Common.{◌≡◌, ℕ, ◌+◌, List, [], ◌∷◌, ◌++◌, length, drop, Some, None, arith, refl, sym, ap, ◌∙◌, subst, append_assoc, length-append}
use Rattle.std.specs.Prelude.{codes, decimal}
use Rattle.std.proofs.lemmas.List.{append-nil}
use Rattle.std.proofs.Math.Seq.{drop-append_seam}
use Rattle.osek_base.specs.Tokens.{Lexes}
use Rattle.osek_base.specs.Tokens.Lexes.{ends, passes, takes}
use Rattle.oil_reader.specs.declared.tokens.Sign.{Sign}
use Rattle.oil_reader.specs.declared.tokens.Sign.TheVariants.{Open, Close, Equals, Semicolon}
use Rattle.oil_reader.specs.Tokens.{Word, Name, Number, Version, Mark, Lexeme, IsPiece}
use Rattle.oil_reader.specs.Grammar.{at}

-- a byte of white space, or a token
pub data Part : Type 0 where
  Blank : ℕ → Part
  Token : Word → Part

abbrev pub sign_byte : Sign → ℕ
sign_byte Open = 123
sign_byte Close = 125
sign_byte Equals = 61
sign_byte Semicolon = 59

abbrev pub word_text : Word → List ℕ
word_text (Name s) = s
word_text (Number n) = decimal n
word_text Version = codes "\"2.5\""
word_text (Mark s) = sign_byte s ∷ []

abbrev pub text_of : List Part → List ℕ
text_of [] = []
text_of (Blank b ∷ xs) = b ∷ text_of xs
text_of (Token w ∷ xs) = word_text w ++ text_of xs

-- the tokens, the first part being at the place
abbrev pub lexemes_at : ℕ → List Part → List Lexeme
lexemes_at p [] = []
lexemes_at p (Blank b ∷ xs) = lexemes_at (p + 1) xs
lexemes_at p (Token w ∷ xs) = at p w ∷ lexemes_at (p + length (word_text w)) xs

-- each part is a piece of the text that begins with it
unfoldable pub ArePieces : List Part → Type 0
ArePieces [] = Unit {0}
ArePieces (Blank b ∷ xs) = IsPiece (b ∷ text_of xs) 1 None × ArePieces xs
ArePieces (Token w ∷ xs) = IsPiece (word_text w ++ text_of xs) (length (word_text w)) (Some w) × ArePieces xs

-- what stands behind some bytes
behind : (text front rest : List ℕ) (p : ℕ) → p ≡ length front → text ≡ front ++ rest → drop p text ≡ rest
behind text front rest p here e = rw (here, e) (drop-append_seam front rest)

pub lexes_from : (text front : List ℕ) (p : ℕ) (xs : List Part) → p ≡ length front → text ≡ front ++ text_of xs → ArePieces xs → Lexes IsPiece text p (lexemes_at p xs)
unfolding ArePieces
lexes_from text front p [] here e h = ends (here ∙ sym (ap length (e ∙ append-nil front)))
lexes_from text front p (Blank b ∷ xs) here e h =
    let left = behind text front (b ∷ text_of xs) p here e in
    passes 1 (subst (λ (bytes : List ℕ). IsPiece bytes 1 None) (sym left) h.0)
    (lexes_from text (front ++ b ∷ []) (p + 1) xs (omega (arith, here, length-append front (b ∷ []))) (e ∙ sym (append_assoc front (b ∷ []) (text_of xs))) h.1)
lexes_from text front p (Token w ∷ xs) here e h =
    let left = behind text front (word_text w ++ text_of xs) p here e in
    takes (length (word_text w)) (subst (λ (bytes : List ℕ). IsPiece bytes (length (word_text w)) (Some w)) (sym left) h.0)
    (lexes_from text (front ++ word_text w) (p + length (word_text w)) xs (omega (arith, here, length-append front (word_text w))) (e ∙ sym (append_assoc front (word_text w) (text_of xs))) h.1)

-- the tokens of the text of parts
pub lexes : (xs : List Part) → ArePieces xs → Lexes IsPiece (text_of xs) 0 (lexemes_at 0 xs)
lexes xs h = lexes_from (text_of xs) [] 0 xs (omega arith) refl h
