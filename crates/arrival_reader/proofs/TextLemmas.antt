-- Texts cut at the first of a byte: lines at LF, and a line's parts at its space.
use Rattle.std.proofs.Common.{◌≡◌, ℕ, ◌+◌, ◌<◌, Bool, true, false, not, ◌&&◌, ◌==◌, List, [], ◌∷◌, ◌++◌, length, take, drop, get_or, refl, sym, ap, ◌∙◌, add-one, eq-eqb, ne_eqb}
use Rattle.std.proofs.Math.Seq.{drop-cons}
use Rattle.std.proofs.lemmas.Bool.{false≢true, not-true}
use Rattle.std.proofs.lemmas.List.{take-append-drop}
use Rattle.std.specs.List.{list_all}
use Rattle.osek_base.specs.Words.{is_digit}
use Rattle.arrival_reader.specs.ArrivalText.{lacks, lines_of, is_decimal, is_name, has_no_leading_zero, IsLineOf}

-- ---- two tests at once

pub both_left : (a b : Bool) → (a && b) ≡ true → a ≡ true
both_left true b e = refl
both_left false b e = e

pub both_right : (a b : Bool) → (a && b) ≡ true → b ≡ true
both_right true b e = e
both_right false b e = absurd (false≢true e)

-- ---- the first of a byte

lacks_first : (byte b : ℕ) (bytes : List ℕ) → lacks byte (b ∷ bytes) ≡ true → (b == byte) ≡ false
lacks_first byte b bytes e = not-true (b == byte) (both_left (not (b == byte)) (lacks byte bytes) e)

lacks_rest : (byte b : ℕ) (bytes : List ℕ) → lacks byte (b ∷ bytes) ≡ true → lacks byte bytes ≡ true
lacks_rest byte b bytes e = both_right (not (b == byte)) (lacks byte bytes) e

-- a text is what stands before a place, the byte there, and what follows
pub cut_at : (byte : ℕ) (text : List ℕ) (i : ℕ) → i < length text → get_or text i 0 ≡ byte
    → text ≡ take i text ++ byte ∷ drop (i + 1) text
cut_at byte text i h e =
    let rest : drop i text ≡ byte ∷ drop (i + 1) text = rw (drop-cons text i 0 h, add-one i, e) refl in
    sym (take-append-drop i text) ∙ ap (λ r. take i text ++ r) rest

-- ---- a line's parts

pub record SameParts (xs ys front bytes : List ℕ) : Type 0 where
  pub fronts : xs ≡ ys
  pub rests : front ≡ bytes

abbrev head_of : ℕ → List ℕ → ℕ
head_of d [] = d
head_of d (x ∷ xs) = x

abbrev tail_of : List ℕ → List ℕ
tail_of [] = []
tail_of (x ∷ xs) = xs

-- only one cut at the first of a byte
pub same_cut : (byte : ℕ) (xs ys front bytes : List ℕ) → lacks byte xs ≡ true → lacks byte ys ≡ true
    → xs ++ byte ∷ front ≡ ys ++ byte ∷ bytes → SameParts xs ys front bytes
same_cut byte [] [] front bytes p q e = record { fronts = refl; rests = ap tail_of e }
same_cut byte [] (y ∷ ys) front bytes p q e =
    absurd (false≢true (sym (lacks_first byte y ys q) ∙ eq-eqb y byte (sym (ap (head_of 0) e))))
same_cut byte (x ∷ xs) [] front bytes p q e =
    absurd (false≢true (sym (lacks_first byte x xs p) ∙ eq-eqb x byte (ap (head_of 0) e)))
same_cut byte (x ∷ xs) (y ∷ ys) front bytes p q e =
    let k = same_cut byte xs ys front bytes (lacks_rest byte x xs p) (lacks_rest byte y ys q) (ap tail_of e) in
    record { fronts = cc; rests = k.rests }

-- bytes that pass a test lack each that fails it
pub lacks_where : (test : ℕ → Bool) (byte : ℕ) → test byte ≡ false → (bytes : List ℕ)
    → list_all test bytes ≡ true → lacks byte bytes ≡ true
lacks_where test byte fails [] e = refl
lacks_where test byte fails (b ∷ bytes) e =
    let passes : test b ≡ true = both_left (test b) (list_all test bytes) e in
    rw (
      ne_eqb b byte (λ (same : b ≡ byte). false≢true (sym fails ∙ sym (ap test same) ∙ passes)),
      lacks_where test byte fails bytes (both_right (test b) (list_all test bytes) e),
    ) refl

pub digits_lack_space : (digits : List ℕ) → list_all is_digit digits ≡ true → lacks 32 digits ≡ true
digits_lack_space digits e = lacks_where is_digit 32 refl digits e

-- what stands before and behind the first space of a line of the right form
pub record HasParts (line : List ℕ) (i : ℕ) (tick : ℕ) (name : List ℕ) : Type 0 where
  pub decimal : is_decimal (take i line) ≡ true
  pub word : drop (i + 1) line ≡ name
  pub named : is_name (drop (i + 1) line) ≡ true

pub parts_at : (line : List ℕ) (i : ℕ) → i < length line → get_or line i 0 ≡ 32 → lacks 32 (take i line) ≡ true
    → (tick : ℕ) (name : List ℕ) → IsLineOf line tick name → HasParts line i tick name
parts_at line i h there first tick name l =
    let digits = digits_lack_space l.digits (both_left (list_all is_digit l.digits) (has_no_leading_zero l.digits) l.decimal) in
    let same = same_cut 32 (take i line) l.digits (drop (i + 1) line) name first digits (sym (cut_at 32 line i h there) ∙ l.spelled) in
    record { decimal = rw same.fronts l.decimal; word = same.rests; named = rw same.rests l.named }

-- ---- lines

-- a text whose first line ends
pub lines_of_ended : (line rest : List ℕ) → lacks 10 line ≡ true → lines_of (line ++ 10 ∷ rest) ≡ line ∷ lines_of rest
lines_of_ended [] rest e = refl
lines_of_ended (b ∷ line) rest e =
    rw (lacks_first 10 b line e, lines_of_ended line rest (lacks_rest 10 b line e)) refl

-- a text of one line without an end
pub lines_of_one : (b : ℕ) (line : List ℕ) → lacks 10 (b ∷ line) ≡ true → lines_of (b ∷ line) ≡ (b ∷ line) ∷ []
lines_of_one b [] e = rw (lacks_first 10 b [] e) refl
lines_of_one b (d ∷ line) e = rw (lacks_first 10 b (d ∷ line) e, lines_of_one d line (lacks_rest 10 b (d ∷ line) e)) refl
