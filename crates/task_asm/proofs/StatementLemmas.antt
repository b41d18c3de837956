-- What the tokens of a text say, one statement after the other.
use Rattle.std.proofs.Common.{◌≡◌, ℕ, ◌+◌, ◌-◌, ◌≤◌, ◌<◌, true, false, List, [], ◌∷◌, ◌++◌, length, take, drop, get_or, Some, None, sym, ap, ◌∙◌, subst, arith, length-drop, append_assoc}
use Rattle.std.proofs.lemmas.List.{append-nil, drop_more, length-map, drop-map, take-map, drop-drop, drop_all}
use Rattle.osek_base.specs.declared.lexing.Placed.{Placed}
use Rattle.task_asm.specs.declared.tokens.Token.{Token}
use Rattle.task_asm.specs.Tokens.{lexemes_of, lexeme_of}
use Rattle.task_asm.specs.Lines.{Tokens}
use Rattle.task_asm.specs.Statements.{Statement, Item, Label, Reads, head, line_len, label_at, is_line_end}
use Rattle.task_asm.specs.Statements.Reads.{ends, new_line, label, heads}

-- the tokens from a place on: the one there, and those behind it
pub from : (xs : List (Placed Token)) (n : ℕ) (d : Placed Token) → n < length xs → lexemes_of (drop n xs) ≡ lexeme_of (get_or xs n d) ∷ lexemes_of (drop (n + 1) xs)
from xs n d h = ap lexemes_of (drop_more xs n d h)

-- ---- what has been said so far, and what the tokens from a place on say behind it

abbrev pub GoesOn : List (Placed Token) → ℕ → List Statement → Type 0
GoesOn xs n es = (more : List Statement) → Reads (lexemes_of (drop n xs)) more → Reads (lexemes_of xs) (es ++ more)

pub on_line_end : (xs : List (Placed Token)) (n : ℕ) (d : Placed Token) (es : List Statement) → n < length xs → is_line_end (lexeme_of (get_or xs n d)) ≡ true
    → GoesOn xs n es → GoesOn xs (n + 1) es
on_line_end xs n d es inside e goes more h =
    goes more (subst (λ (ts : Tokens). Reads ts more) (sym (from xs n d inside)) (new_line (lexeme_of (get_or xs n d)) e h))

-- a label needs a second token
two_left : (ts : Tokens) (w : List ℕ) → label_at ts ≡ Some w → 2 ≤ length ts
two_left [] w e = absurd cc
two_left (t ∷ []) w e = absurd cc
two_left (t ∷ u ∷ ts) w e = omega arith

pub label_inside : (xs : List (Placed Token)) (n : ℕ) (w : List ℕ) → label_at (lexemes_of (drop n xs)) ≡ Some w → n + 2 ≤ length xs
label_inside xs n w e = omega (arith, two_left (lexemes_of (drop n xs)) w e, length-map (drop n xs) lexeme_of, length-drop n xs)

pub on_label : (xs : List (Placed Token)) (n : ℕ) (d : Placed Token) (es : List Statement) (w : List ℕ) → label_at (lexemes_of (drop n xs)) ≡ Some w
    → GoesOn xs n es → GoesOn xs (n + 2) (es ++ record { place = (get_or xs n d).place; item = Label w } ∷ [])
on_label xs n d es w e goes more h =
    let inside : n + 2 ≤ length xs = label_inside xs n w e in
    let t = lexeme_of (get_or xs n d) in
    let u = lexeme_of (get_or xs (n + 1) d) in
    let rest = lexemes_of (drop (n + 2) xs) in
    let said : Statement = record { place = (get_or xs n d).place; item = Label w } in
    let two : n + 1 + 1 ≡ n + 2 = omega arith in
    let behind : lexemes_of (drop (n + 1) xs) ≡ u ∷ rest =
    from xs (n + 1) d (omega arith) ∙ ap (λ (k : ℕ). u ∷ lexemes_of (drop k xs)) two in
    let whole : lexemes_of (drop n xs) ≡ t ∷ u ∷ rest =
    from xs n d (omega arith) ∙ ap (λ (ts : Tokens). t ∷ ts) behind in
    let is : label_at (t ∷ u ∷ rest) ≡ Some w = ap label_at (sym whole) ∙ e in
    rw append_assoc (goes (said ∷ more) (subst (λ (ts : Tokens). Reads ts (said ∷ more)) (sym whole) (label t u w is h)))

pub on_head : (xs : List (Placed Token)) (n len : ℕ) (d : Placed Token) (es : List Statement) (i : Item) → n < length xs → is_line_end (lexeme_of (get_or xs n d)) ≡ false
    → label_at (lexemes_of (drop n xs)) ≡ None → len ≡ line_len (lexemes_of (drop (n + 1) xs))
    → i ≡ head (lexeme_of (get_or xs n d)) (lexemes_of (take (n + 1 + len - (n + 1)) (drop (n + 1) xs)))
    → GoesOn xs n es → GoesOn xs (n + (1 + len)) (es ++ record { place = (get_or xs n d).place; item = i } ∷ [])
on_head xs n len d es i inside e no_label l is goes more h =
    let t = lexeme_of (get_or xs n d) in
    let rest = lexemes_of (drop (n + 1) xs) in
    let whole : lexemes_of (drop n xs) ≡ t ∷ rest = from xs n d inside in
    let none : label_at (t ∷ rest) ≡ None = ap label_at (sym whole) ∙ no_label in
    let size : n + 1 + len - (n + 1) ≡ len = omega arith in
    let line : lexemes_of (take (n + 1 + len - (n + 1)) (drop (n + 1) xs)) ≡ take (line_len rest) rest =
    sym (take-map lexeme_of (n + 1 + len - (n + 1)) (drop (n + 1) xs)) ∙ ap (λ (k : ℕ). take k rest) (size ∙ l) in
    let place : n + 1 + len ≡ n + (1 + len) = omega arith in
    let left : drop (line_len rest) rest ≡ lexemes_of (drop (n + (1 + len)) xs) =
    ap (λ (k : ℕ). drop k rest) (sym l) ∙ drop-map lexeme_of len (drop (n + 1) xs)
    ∙ ap lexemes_of (drop-drop len (n + 1) xs) ∙ ap (λ (k : ℕ). lexemes_of (drop k xs)) place in
    let said : Item = head t (take (line_len rest) rest) in
    let same : i ≡ said = is ∙ ap (head t) line in
    let read : Reads (drop (line_len rest) rest) more = subst (λ (ts : Tokens). Reads ts more) (sym left) h in
    let place_of : ℕ = (get_or xs n d).place in
    subst (λ (j : Item). Reads (lexemes_of xs) ((es ++ record { place = place_of; item = j } ∷ []) ++ more)) (sym same)
    (rw append_assoc (goes (record { place = place_of; item = said } ∷ more)
    (subst (λ (ts : Tokens). Reads ts (record { place = place_of; item = said } ∷ more)) (sym whole) (heads t e none read))))

pub at_end : (xs : List (Placed Token)) (n : ℕ) (es : List Statement) → length xs ≤ n → GoesOn xs n es → Reads (lexemes_of xs) es
at_end xs n es past goes =
    let none : lexemes_of (drop n xs) ≡ [] = ap lexemes_of (drop_all n xs past) in
    subst (Reads (lexemes_of xs)) (append-nil es) (goes [] (subst (λ (ts : Tokens). Reads ts []) (sym none) ends))
