-- A text has one list of tokens, or one place where none begins.
use Rattle.std.proofs.Common.{◌≡◌, ℕ, ◌-◌, ◌≤◌, ◌⊎◌, List, take, get_or, Option, Some, None, arith, inl, inr, sym, ap, ◌∙◌, subst}
use Rattle.std.proofs.lemmas.Bool.{cases_lt}
use Rattle.std.specs.Prelude.{IfNone}
use Rattle.osek_base.specs.declared.lexing.Piece.{Piece}
use Rattle.oil_reader.specs.declared.tokens.Token.{Token}
use Rattle.oil_reader.specs.Faults.{GivesPiece}
use Rattle.osek_base.specs.Tokens.{IsTokenRelation}
use Rattle.osek_base.proofs.TokenLemmas as base
use Rattle.oil_reader.specs.declared.tokens.Class.{Class}
use Rattle.oil_reader.specs.declared.tokens.Class.TheVariants as class
use Rattle.oil_reader.specs.Tokens.{Word, Name, Number, Lexeme, IsLineComment, IsBlockComment, IsPieceOf, IsPiece, class_of, IsTokensOf, IsTokenFaultAt}

block_le : (bytes : List ℕ) (m n : ℕ) → IsBlockComment bytes m → IsBlockComment bytes n → m ≤ n
block_le bytes m n p q =
    elim (cases_lt n m) [
      | inl lt ↦ absurd (p.shortest (n - 2) (omega (arith, q.long)) (omega (arith, q.long)) q.closes)
      | inr le ↦ le
    ]

comment_unique : (bytes : List ℕ) (m n : ℕ) → IsLineComment bytes m ⊎ IsBlockComment bytes m → IsLineComment bytes n ⊎ IsBlockComment bytes n → m ≡ n
comment_unique bytes m n (inl p) (inl q) = base.line_unique bytes m n p.1 q.1
comment_unique bytes m n (inr p) (inr q) = omega (arith, block_le bytes m n p q, block_le bytes n m q p)
comment_unique bytes m n (inl p) (inr q) = absurd (omega (arith, p.0, q.opens))
comment_unique bytes m n (inr p) (inl q) = absurd (omega (arith, p.opens, q.0))

piece_unique : (k : Class) (bytes : List ℕ) (m n : ℕ) (t u : Option Word) → IsPieceOf k bytes m t → IsPieceOf k bytes n u → (m ≡ n) × (t ≡ u)
piece_unique class.Letter bytes m n t u p q =
    let same = base.run_unique bytes m n p.0 q.0 in
    (same, p.2 ∙ ap (λ (i : ℕ). Some (Name (take i bytes))) same ∙ sym q.2)
piece_unique class.Digit bytes m n t u p q =
    let same = base.number_unique bytes m n p.1 q.1 (record { run = p.0; numeral = p.2 }) (record { run = q.0; numeral = q.2 }) in
    (same.0, p.3 ∙ ap (λ (v : ℕ). Some (Number v)) same.1 ∙ sym q.3)
piece_unique class.Blank bytes m n t u p q = (p.0 ∙ sym q.0, p.1 ∙ sym q.1)
piece_unique class.Slash bytes m n t u p q = (comment_unique bytes m n p.0 q.0, p.1 ∙ sym q.1)
piece_unique class.Quote bytes m n t u p q = (p.0 ∙ sym q.0, p.2 ∙ sym q.2)
piece_unique (class.Mark s) bytes m n t u p q = (p.0 ∙ sym q.0, p.1 ∙ sym q.1)
piece_unique class.Other bytes m n t u p q = absurd p

one_piece : IsTokenRelation IsPiece
one_piece = record {
  some = λ bytes n t p. p.0;
  same_length = λ bytes m n t u p q. (piece_unique (class_of (get_or bytes 0 0)) bytes m n t u p.1 q.1).0;
  same_token = λ bytes m n t u p q. (piece_unique (class_of (get_or bytes 0 0)) bytes m n t u p.1 q.1).1;
}

pub tokens_unique : (text : List ℕ) (ts us : List Lexeme) → IsTokensOf text ts → IsTokensOf text us → ts ≡ us
tokens_unique text ts us p q = base.Lexes-unique IsPiece one_piece text p q

-- a text with tokens has no place where none begins
pub tokens_apart : (text : List ℕ) (ts : List Lexeme) (p : ℕ) → IsTokensOf text ts → IsTokenFaultAt text p → ⊥
tokens_apart text ts p t f = base.fails_apart IsPiece one_piece text f t

-- a text has one place where no token begins
pub fault_unique : (text : List ℕ) (p q : ℕ) → IsTokenFaultAt text p → IsTokenFaultAt text q → p ≡ q
fault_unique text p q a b = base.fails_once IsPiece one_piece text a b

-- where no piece of the first byte's class stands at the front, none does
pub no_piece : (k : Class) (bytes : List ℕ) (o : Option (Piece Token)) → class_of (get_or bytes 0 0) ≡ k → GivesPiece k bytes o
    → IfNone o ((n : ℕ) (t : Option Word) → ¬ IsPiece bytes n t)
no_piece k bytes None e h = λ n t piece. h n t (subst (λ (c : Class). IsPieceOf c bytes n t) e piece.1)
no_piece k bytes (Some p) e h = tt
