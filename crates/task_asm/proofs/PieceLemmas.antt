-- A text begins with one piece at most.
use Rattle.std.proofs.Common.{◌≡◌, ℕ, List, [], ◌∷◌, take, get_or, Option, Some, None, arith, inl, inr, sym, ap, ◌∙◌, subst}
use Rattle.std.specs.Prelude.{codes, IfNone}
use Rattle.osek_base.specs.declared.lexing.Piece.{Piece}
use Rattle.osek_base.specs.Tokens.{IsTokenRelation}
use Rattle.osek_base.proofs.TokenLemmas.{run_unique, number_unique, line_unique}
use Rattle.task_asm.specs.Tokens.{Symbol, Word, Number, IsDirective, IsPieceOf, IsPiece, GivesPiece, class_of}
use Rattle.task_asm.specs.declared.tokens.Token.{Token}
use Rattle.task_asm.specs.declared.tokens.Class.{Class}
use Rattle.task_asm.specs.declared.tokens.Class.TheVariants as class

-- the second letter tells the directives apart
not_both : (bytes : List ℕ) → take 5 bytes ≡ codes ".task" → take 4 bytes ≡ codes ".isr" → ⊥
not_both [] p q = cc
not_both (a ∷ []) p q = cc
not_both (a ∷ b ∷ bytes) p q =
    let t : b ≡ 116 = ap (λ (xs : List ℕ). get_or xs 1 0) p in
    let i : b ≡ 105 = ap (λ (xs : List ℕ). get_or xs 1 0) q in
    omega arith

directive_length : (bytes : List ℕ) (m n : ℕ) (t u : Option Symbol) → IsDirective bytes m t → IsDirective bytes n u → m ≡ n
directive_length bytes m n t u (inl p) (inl q) = p.0 ∙ sym q.0
directive_length bytes m n t u (inr p) (inr q) = p.0 ∙ sym q.0
directive_length bytes m n t u (inl p) (inr q) = absurd (not_both bytes p.1 q.1)
directive_length bytes m n t u (inr p) (inl q) = absurd (not_both bytes q.1 p.1)

directive_token : (bytes : List ℕ) (m n : ℕ) (t u : Option Symbol) → IsDirective bytes m t → IsDirective bytes n u → t ≡ u
directive_token bytes m n t u (inl p) (inl q) = p.2 ∙ sym q.2
directive_token bytes m n t u (inr p) (inr q) = p.2 ∙ sym q.2
directive_token bytes m n t u (inl p) (inr q) = absurd (not_both bytes p.1 q.1)
directive_token bytes m n t u (inr p) (inl q) = absurd (not_both bytes q.1 p.1)

piece_length : (k : Class) (bytes : List ℕ) (m n : ℕ) (t u : Option Symbol) → IsPieceOf k bytes m t → IsPieceOf k bytes n u → m ≡ n
piece_length class.Letter bytes m n t u p q = run_unique bytes m n p.0 q.0
piece_length class.Digit bytes m n t u p q = run_unique bytes m n p.0 q.0
piece_length class.Blank bytes m n t u p q = p.0 ∙ sym q.0
piece_length class.LineEnd bytes m n t u p q = p.0 ∙ sym q.0
piece_length class.Semicolon bytes m n t u p q = line_unique bytes m n p.0 q.0
piece_length class.Dot bytes m n t u p q = directive_length bytes m n t u p q
piece_length (class.Mark s) bytes m n t u p q = p.0 ∙ sym q.0
piece_length class.Other bytes m n t u p q = absurd p

piece_token : (k : Class) (bytes : List ℕ) (m n : ℕ) (t u : Option Symbol) → IsPieceOf k bytes m t → IsPieceOf k bytes n u → t ≡ u
piece_token class.Letter bytes m n t u p q =
    p.2 ∙ ap (λ (i : ℕ). Some (Word (take i bytes))) (run_unique bytes m n p.0 q.0) ∙ sym q.2
piece_token class.Digit bytes m n t u p q =
    let same = number_unique bytes m n p.1 q.1 (record { run = p.0; numeral = p.2 }) (record { run = q.0; numeral = q.2 }) in
    p.3 ∙ ap (λ (v : ℕ). Some (Number v)) same.1 ∙ sym q.3
piece_token class.Blank bytes m n t u p q = p.1 ∙ sym q.1
piece_token class.LineEnd bytes m n t u p q = p.1 ∙ sym q.1
piece_token class.Semicolon bytes m n t u p q = p.1 ∙ sym q.1
piece_token class.Dot bytes m n t u p q = directive_token bytes m n t u p q
piece_token (class.Mark s) bytes m n t u p q = p.1 ∙ sym q.1
piece_token class.Other bytes m n t u p q = absurd p

-- a text begins with one piece at most
pub pieces_are_tokens : IsTokenRelation IsPiece
pieces_are_tokens = record {
  some = λ bytes n t p. p.0;
  same_length = λ bytes m n t u p q. piece_length (class_of (get_or bytes 0 0)) bytes m n t u p.1 q.1;
  same_token = λ bytes m n t u p q. piece_token (class_of (get_or bytes 0 0)) bytes m n t u p.1 q.1;
}

-- where no piece of the first byte's class stands at the front, none does
pub no_piece : (k : Class) (bytes : List ℕ) (o : Option (Piece Token)) → class_of (get_or bytes 0 0) ≡ k → GivesPiece k bytes o
    → IfNone o ((n : ℕ) (t : Option Symbol) → ¬ IsPiece bytes n t)
no_piece k bytes None e h = λ n t piece. h n t (subst (λ (c : Class). IsPieceOf c bytes n t) e piece.1)
no_piece k bytes (Some p) e h = tt
