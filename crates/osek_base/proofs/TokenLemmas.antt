-- A text has one list of tokens, or one place where none begins; and a reader's loop over the pieces of a text.
use Rattle.std.proofs.Common.{◌≡◌, ◌≢◌, get_or, ℕ, ◌+◌, ◌≤◌, ◌<◌, List, [], ◌∷◌, ◌++◌, length, take, drop, Option, Some, None, arith, inl, inr, refl, sym, ◌∙◌, ◌⊎◌, subst, append_assoc, length-drop}
use Rattle.std.specs.Option.{option_map}
use Rattle.std.proofs.lemmas.List.{append-nil}
use Rattle.std.proofs.lemmas.Bool.{cases_lt}
use Rattle.osek_base.specs.Words.{IsRun, IsNumeral, IsDecimal, IsHexadecimal, IsNumberOf, IsLine}
use Rattle.osek_base.specs.Tokens.{Lexeme, Lexes, LexFails, IsTokenRelation, lexeme_of}
use Rattle.osek_base.specs.Tokens.Lexes.{ends, passes, takes}
use Rattle.osek_base.specs.Tokens.LexFails.{here, later}

-- ---- one meaning

module _ {W : Type 0} (IsPiece : List ℕ → ℕ → Option W → Type 0) (one : IsTokenRelation IsPiece) (text : List ℕ) where
  none_at_end : (p n : ℕ) (t : Option W) → p ≡ length text → ¬ IsPiece (drop p text) n t
  none_at_end p n t e piece = absurd (omega (arith, length-drop p text, one.some (drop p text) n t piece, e))

  word_same : (v w : W) → Some v ≡ Some w → v ≡ w
  word_same v w e = cc

  -- a text has one list of tokens
  pub Lexes-unique : {p : ℕ} {ts us : List (Lexeme W)} → Lexes IsPiece text p ts → Lexes IsPiece text p us → ts ≡ us
  Lexes-unique (ends e) (ends f) = refl
  Lexes-unique {p} (ends e) (passes n piece more) = absurd (none_at_end p n None e piece)
  Lexes-unique {p} (ends e) (takes n {w} piece more) = absurd (none_at_end p n (Some w) e piece)
  Lexes-unique {p} (passes n piece more) (ends e) = absurd (none_at_end p n None e piece)
  Lexes-unique {p} (takes n {w} piece more) (ends e) = absurd (none_at_end p n (Some w) e piece)
  Lexes-unique {p} (passes m piece more) (passes n {ts = us} piece2 more2) =
      let same = one.same_length (drop p text) n m None None piece2 piece in
      Lexes-unique more (subst (λ (i : ℕ). Lexes IsPiece text (p + i) us) same more2)
  Lexes-unique {p} (passes m piece more) (takes n {w} piece2 more2) =
      let same = one.same_token (drop p text) m n None (Some w) piece piece2 in absurd cc
  Lexes-unique {p} (takes m {w} piece more) (passes n piece2 more2) =
      let same = one.same_token (drop p text) m n (Some w) None piece piece2 in absurd cc
  Lexes-unique {p} (takes m {w} {ts} piece more) (takes n {w = v} {ts = us} piece2 more2) =
      let same = one.same_length (drop p text) n m (Some v) (Some w) piece2 piece in
      let rest = Lexes-unique more (subst (λ (i : ℕ). Lexes IsPiece text (p + i) us) same more2) in
      let word = word_same v w (one.same_token (drop p text) n m (Some v) (Some w) piece2 piece) in
      cc

  -- a text with tokens has no place where none begins
  pub fails_apart : {p q : ℕ} {ts : List (Lexeme W)} → LexFails IsPiece text p q → Lexes IsPiece text p ts → ⊥
  fails_apart (here inside none) (ends e) = omega (arith, inside, e)
  fails_apart (here inside none) (passes n piece more) = none n None piece
  fails_apart (here inside none) (takes n {w} piece more) = none n (Some w) piece
  fails_apart {p} (later n t piece fails) (ends e) = none_at_end p n t e piece
  fails_apart {p} (later m t piece fails) (passes n {ts = us} piece2 more) =
      let same = one.same_length (drop p text) n m None t piece2 piece in
      fails_apart fails (subst (λ (i : ℕ). Lexes IsPiece text (p + i) us) same more)
  fails_apart {p} (later m t piece fails) (takes n {w} {ts = us} piece2 more) =
      let same = one.same_length (drop p text) n m (Some w) t piece2 piece in
      fails_apart fails (subst (λ (i : ℕ). Lexes IsPiece text (p + i) us) same more)

  -- a text has one place where none begins
  pub fails_once : {p q r : ℕ} → LexFails IsPiece text p q → LexFails IsPiece text p r → q ≡ r
  fails_once (here inside none) (here also nothing) = refl
  fails_once (here inside none) (later n t piece more) = absurd (none n t piece)
  fails_once (later n t piece more) (here inside none) = absurd (none n t piece)
  fails_once {p} {q} {r} (later m t piece more) (later n u piece2 more2) =
      let same = one.same_length (drop p text) n m u t piece2 piece in
      fails_once more (subst (λ (i : ℕ). LexFails IsPiece text (p + i) r) same more2)

-- ---- the loop over the pieces

module _ {W : Type 0} (IsPiece : List ℕ → ℕ → Option W → Type 0) (text : List ℕ) where
  -- the tokens before a place, and what they leave to be shown
  pub record TokensBefore (p : ℕ) (ts : List (Lexeme W)) : Type 0 where
    pub within : p ≤ length text
    pub tokens : (more : List (Lexeme W)) → Lexes IsPiece text p more → Lexes IsPiece text 0 (ts ++ more)
    pub fails : (q : ℕ) → LexFails IsPiece text p q → LexFails IsPiece text 0 q

  -- a piece without a token
  pub before_gap : (p : ℕ) (ts : List (Lexeme W)) (n : ℕ) → p < length text → n ≤ length (drop p text)
      → IsPiece (drop p text) n None → TokensBefore p ts → TokensBefore (p + n) ts
  before_gap p ts n inside fits piece before = record {
    within = omega (arith, length-drop p text);
    tokens = λ more h. before.tokens more (passes n piece h);
    fails = λ q h. before.fails q (later n None piece h);
  }

  -- a token
  pub before_token : (p : ℕ) (ts : List (Lexeme W)) (n : ℕ) (w : W) → p < length text → n ≤ length (drop p text)
      → IsPiece (drop p text) n (Some w) → TokensBefore p ts → TokensBefore (p + n) (ts ++ record { place = p; word = w } ∷ [])
  before_token p ts n w inside fits piece before = record {
    within = omega (arith, length-drop p text);
    tokens = λ more h. rw append_assoc (before.tokens (record { place = p; word = w } ∷ more) (takes n piece h));
    fails = λ q h. before.fails q (later n (Some w) piece h);
  }

  -- no piece
  pub before_none : (p : ℕ) (ts : List (Lexeme W)) → p < length text → ((n : ℕ) (t : Option W) → ¬ IsPiece (drop p text) n t)
      → TokensBefore p ts → LexFails IsPiece text 0 p
  before_none p ts inside none before = before.fails p (here inside none)

  -- the end
  pub before_end : (p : ℕ) (ts : List (Lexeme W)) → length text ≤ p → TokensBefore p ts → Lexes IsPiece text 0 ts
  before_end p ts end before = subst (Lexes IsPiece text 0) (append-nil ts) (before.tokens [] (ends (omega (arith, before.within))))

-- the same, by a token as the code holds it
module _ {T W : Type 0} (word : T → W) (IsPiece : List ℕ → ℕ → Option W → Type 0) (text : List ℕ) (p : ℕ) (ts : List (Lexeme W)) (n : ℕ)
    (inside : p < length text) (fits : n ≤ length (drop p text)) (before : TokensBefore IsPiece text p ts) where
  pub gap_at : (o : Option T) → o ≡ None → IsPiece (drop p text) n (option_map word o) → TokensBefore IsPiece text (p + n) ts
  gap_at None e piece = before_gap IsPiece text p ts n inside fits piece before
  gap_at (Some t) e piece = absurd cc

  pub token_at : (o : Option T) (t : T) → o ≡ Some t → IsPiece (drop p text) n (option_map word o)
      → TokensBefore IsPiece text (p + n) (ts ++ lexeme_of word (record { place = p; token = t }) ∷ [])
  token_at None t e piece = absurd cc
  token_at (Some s) t e piece =
      let same : s ≡ t = cc in
      subst (λ (u : T). TokensBefore IsPiece text (p + n) (ts ++ lexeme_of word (record { place = p; token = u }) ∷ [])) same
      (before_token IsPiece text p ts n (word s) inside fits piece before)

-- ---- runs

run_le : (bytes : List ℕ) (m n : ℕ) → IsRun bytes m → IsRun bytes n → m ≤ n
run_le bytes m n p q =
    elim (cases_lt n m) [
      | inl lt ↦ absurd (q.longest (omega (arith, p.within)) (p.each n lt))
      | inr le ↦ le
    ]

-- bytes begin with one longest run
pub run_unique : (bytes : List ℕ) (m n : ℕ) → IsRun bytes m → IsRun bytes n → m ≡ n
run_unique bytes m n p q = omega (arith, run_le bytes m n p q, run_le bytes n m q p)

numeral_unique_of : (word : List ℕ) (m n : ℕ) → IsDecimal word m ⊎ IsHexadecimal word m → IsDecimal word n ⊎ IsHexadecimal word n → m ≡ n
numeral_unique_of word m n (inl p) (inl q) = p.2 ∙ sym q.2
numeral_unique_of word m n (inr p) (inr q) = p.3 ∙ sym q.3
numeral_unique_of word m n (inl p) (inr q) = absurd (omega (arith, p.1 q.0, length-drop 2 word, q.2.some))
numeral_unique_of word m n (inr p) (inl q) = absurd (omega (arith, q.1 p.0, length-drop 2 word, p.2.some))

-- a word has one value
pub numeral_unique : (word : List ℕ) (m n : ℕ) → IsNumeral word m → IsNumeral word n → m ≡ n
numeral_unique word m n p q = numeral_unique_of word m n p.1 q.1

-- where the longest run is no numeral, no number stands at the front
pub no_number : (bytes : List ℕ) (len : ℕ) → IsRun bytes len → ((v : ℕ) → IsNumeral (take len bytes) v → ⊥) → (n v : ℕ) → IsNumberOf bytes n v → ⊥
no_number bytes len run none n v number = none v (subst (λ (k : ℕ). IsNumeral (take k bytes) v) (run_unique bytes n len number.run run) number.numeral)

-- one number stands at the front
pub number_unique : (bytes : List ℕ) (m n u v : ℕ) → IsNumberOf bytes m u → IsNumberOf bytes n v → (m ≡ n) × (u ≡ v)
number_unique bytes m n u v p q =
    let same = run_unique bytes m n p.run q.run in
    (same, numeral_unique (take n bytes) u v (subst (λ (i : ℕ). IsNumeral (take i bytes) u) same p.numeral) q.numeral)

-- ---- lines

line_le : (bytes : List ℕ) (m n : ℕ) → IsLine bytes m → IsLine bytes n → m ≤ n
line_le bytes m n p q =
    elim (cases_lt n m) [
      | inl lt ↦ absurd (p.each n lt (q.longest (omega (arith, p.within))))
      | inr le ↦ le
    ]

pub line_unique : (bytes : List ℕ) (m n : ℕ) → IsLine bytes m → IsLine bytes n → m ≡ n
line_unique bytes m n p q = omega (arith, line_le bytes m n p q, line_le bytes n m q p)

-- a line that doesn't begin with a LF
pub line_some : (bytes : List ℕ) (n : ℕ) → 0 < length bytes → get_or bytes 0 0 ≢ 10 → IsLine bytes n → 0 < n
line_some bytes n some other p =
    elim (cases_lt 0 n) [
      | inl positive ↦ positive
      | inr le ↦ let none : n ≡ 0 = omega arith in absurd (other (subst (λ (i : ℕ). get_or bytes i 0 ≡ 10) none (p.longest (omega arith))))
    ]
