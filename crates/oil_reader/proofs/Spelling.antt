-- The trees of a text have words for names, and numbers of 32 bits.
use Rattle.std.proofs.Common.{◌≡◌, ℕ, zero, suc, ◌≤◌, ◌<◌, ◌^◌, List, [], ◌∷◌, length, take, get_or, Option, Some, None, Bool, true, false, cond, arith, refl, sym, ap, ◌∙◌, subst, inl, inr}
use Rattle.std.specs.List.{list_all}
use Rattle.std.proofs.lemmas.Bool.{le-leb, lt-ltb, cases_lt, and_from, or_left}
use Rattle.std.proofs.lemmas.List.{length-take-le}
use Rattle.osek_base.specs.declared.limits.TheConstants.{MAX_NAME}
use Rattle.osek_base.specs.Words.{is_letter, is_digit, is_word_byte, IsRun}
use Rattle.osek_base.specs.Tokens as base
use Rattle.osek_base.specs.Tokens.Lexes.{ends, passes, takes}
use Rattle.oil_reader.specs.declared.tokens.Class.{Class}
use Rattle.oil_reader.specs.declared.tokens.Class.TheVariants as class
use Rattle.oil_reader.specs.declared.tokens.Sign.TheVariants.{Open, Close, Equals, Semicolon}
use Rattle.oil_reader.specs.Tokens.{Word, Name, Number, Version, Mark, Lexeme, class_of, IsPieceOf, IsPiece}
use Rattle.oil_reader.specs.Grammar.{Value, Named, Numeric, Setting, Block, Attribute, Object, File, value_word, IsSetting, IsSub, IsBlock, IsAttribute, IsBody, IsObject, AreEach}
use Rattle.oil_reader.specs.Checked.{is_name, is_number}
use Rattle.oil_reader.specs.Meaning.{block_settings}
use Rattle.oil_reader.specs.Spelled.{is_spelled_value, is_spelled_setting, are_spelled_settings, is_spelled_attribute, is_spelled_object, is_spelled}
use Rattle.oil_reader.specs.Faults.{IsTreeOf}

-- ---- a byte of the class of letters is a letter

no_letter : (a b c d e f g h : Bool) → cond a class.Digit (cond b class.Blank (cond c class.Slash (cond d class.Quote (cond e (class.Mark Open) (cond f (class.Mark Close) (cond g (class.Mark Equals) (cond h (class.Mark Semicolon) class.Other))))))) ≡ class.Letter → ⊥
no_letter true b c d e f g h is = absurd cc
no_letter false true c d e f g h is = absurd cc
no_letter false false true d e f g h is = absurd cc
no_letter false false false true e f g h is = absurd cc
no_letter false false false false true f g h is = absurd cc
no_letter false false false false false true g h is = absurd cc
no_letter false false false false false false true h is = absurd cc
no_letter false false false false false false false true is = absurd cc
no_letter false false false false false false false false is = absurd cc

letter_if : (x : Bool) (rest : Class) → (rest ≡ class.Letter → ⊥) → cond x class.Letter rest ≡ class.Letter → x ≡ true
letter_if true rest none is = refl
letter_if false rest none is = absurd (none is)

letter_of : (b : ℕ) → class_of b ≡ class.Letter → is_letter b ≡ true
letter_of b is = letter_if (is_letter b) _ (no_letter _ _ _ _ _ _ _ _) is

-- ---- tokens

abbrev IsSpelledWord : Word → Type 0
IsSpelledWord (Name s) = is_name s ≡ true
IsSpelledWord (Number n) = is_number n ≡ true
IsSpelledWord _ = Unit {0}

abbrev AllSpelled : List Lexeme → Type 0
AllSpelled [] = Unit {0}
AllSpelled (t ∷ ts) = IsSpelledWord t.word × AllSpelled ts

same_name : (s t : List ℕ) → Some (Name s) ≡ Some (Name t) → s ≡ t
same_name s t e = cc

same_number : (m n : ℕ) → Some (Number m) ≡ Some (Number n) → m ≡ n
same_number m n e = cc

-- the first bytes are word bytes
word_bytes : (bytes : List ℕ) (n : ℕ) → n ≤ length bytes → ((i : ℕ) → i < n → is_word_byte (get_or bytes i 0) ≡ true) → list_all is_word_byte (take n bytes) ≡ true
word_bytes bytes zero within each = refl
word_bytes [] (suc n) within each = absurd (omega (arith, within))
word_bytes (b ∷ bytes) (suc n) within each =
    and_from (is_word_byte b) (list_all is_word_byte (take n bytes)) (each 0 (omega arith)) (word_bytes bytes n (omega (arith, within)) (λ i less. each (suc i) (omega (arith, less))))

-- a run that begins with a letter is a name
run_name : (bytes : List ℕ) (n : ℕ) → is_letter (get_or bytes 0 0) ≡ true → IsRun bytes n → 1 ≤ n → n ≤ MAX_NAME → is_name (take n bytes) ≡ true
run_name bytes zero letter run low high = absurd (omega (arith, low))
run_name [] (suc n) letter run low high = absurd (omega (arith, run.within))
run_name (b ∷ bytes) (suc n) letter run low high =
    let within : n ≤ length bytes = omega (arith, run.within) in
    let each = word_bytes bytes n within (λ i less. run.each (suc i) (omega (arith, less))) in
    let long : length (take n bytes) ≡ n = length-take-le n bytes within in
    let short = le-leb (length (take n bytes)) 31 (omega (arith, long, high)) in
    rw (letter, each, short) refl

run_positive : (bytes : List ℕ) (n : ℕ) → 0 < length bytes → is_letter (get_or bytes 0 0) ≡ true → IsRun bytes n → 1 ≤ n
run_positive bytes n some letter run =
    elim (cases_lt 0 n) [
      | inl lt ↦ lt
      | inr le ↦
          let none : n ≡ 0 = omega arith in
          let word : is_word_byte (get_or bytes 0 0) ≡ true = or_left (is_letter (get_or bytes 0 0)) (is_digit (get_or bytes 0 0)) letter in
          absurd (run.longest (omega arith) (subst (λ (i : ℕ). is_word_byte (get_or bytes i 0) ≡ true) (sym none) word))
    ]

name_piece : (k : Class) (bytes : List ℕ) (n : ℕ) (s : List ℕ) → 0 < length bytes → class_of (get_or bytes 0 0) ≡ k → IsPieceOf k bytes n (Some (Name s)) → is_name s ≡ true
name_piece class.Letter bytes n s some is p =
    let letter = letter_of (get_or bytes 0 0) is in
    ap is_name (same_name s (take n bytes) p.2) ∙ run_name bytes n letter p.0 (run_positive bytes n some letter p.0) p.1
name_piece class.Digit bytes n s some is p = absurd cc
name_piece class.Blank bytes n s some is p = absurd cc
name_piece class.Slash bytes n s some is p = absurd cc
name_piece class.Quote bytes n s some is p = absurd cc
name_piece (class.Mark m) bytes n s some is p = absurd cc
name_piece class.Other bytes n s some is p = absurd p

number_piece : (k : Class) (bytes : List ℕ) (n m : ℕ) → IsPieceOf k bytes n (Some (Number m)) → is_number m ≡ true
number_piece class.Letter bytes n m p = absurd cc
number_piece class.Digit bytes n m p = ap is_number (same_number m p.1 p.3) ∙ lt-ltb p.1 (2 ^ 32) p.2.0
number_piece class.Blank bytes n m p = absurd cc
number_piece class.Slash bytes n m p = absurd cc
number_piece class.Quote bytes n m p = absurd cc
number_piece (class.Mark s) bytes n m p = absurd cc
number_piece class.Other bytes n m p = absurd p

spelled_word : (w : Word) (bytes : List ℕ) (n : ℕ) → IsPiece bytes n (Some w) → IsSpelledWord w
spelled_word (Name s) bytes n p = name_piece (class_of (get_or bytes 0 0)) bytes n s p.0 refl p.1
spelled_word (Number m) bytes n p = number_piece (class_of (get_or bytes 0 0)) bytes n m p.1
spelled_word Version bytes n p = tt
spelled_word (Mark m) bytes n p = tt

all_spelled : (text : List ℕ) {p : ℕ} {ts : List Lexeme} → base.Lexes IsPiece text p ts → AllSpelled ts
all_spelled text (ends e) = tt
all_spelled text (passes n piece more) = all_spelled text more
all_spelled text (takes n {w} piece more) = (spelled_word w _ n piece, all_spelled text more)

-- ---- what stands behind a part of the tree

after_setting : (s : Setting) (ts rest : List Lexeme) → IsSetting s ts rest → AllSpelled ts → AllSpelled rest
after_setting s ts rest h all = (subst AllSpelled h.spelled all).1.1.1

after_sub : (s : Setting) (ts rest : List Lexeme) → IsSub s ts rest → AllSpelled ts → AllSpelled rest
after_sub s ts rest h all = (after_setting s ts _ h.setting all).1

after_each : {X : Type 0} (Is : X → List Lexeme → List Lexeme → Type 0) → ((x : X) (ts rest : List Lexeme) → Is x ts rest → AllSpelled ts → AllSpelled rest) → (xs : List X) (ts rest : List Lexeme) → AreEach Is xs ts rest → AllSpelled ts → AllSpelled rest
after_each Is one [] ts rest h all = subst AllSpelled h all
after_each Is one (x ∷ xs) ts rest h all = after_each Is one xs h.0 rest h.2 (one x ts h.0 h.1 all)

after_block : (b : Option Block) (ts rest : List Lexeme) → IsBlock b ts rest → AllSpelled ts → AllSpelled rest
after_block None ts rest h all = subst AllSpelled h all
after_block (Some b) ts rest h all = (after_each IsSub after_sub b.settings h.inner _ h.subs (subst AllSpelled h.spelled all).1).1

after_attribute : (a : Attribute) (ts rest : List Lexeme) → IsAttribute a ts rest → AllSpelled ts → AllSpelled rest
after_attribute a ts rest h all = (after_block a.block h.middle _ h.block (after_setting a.setting ts h.middle h.setting all)).1

after_body : (xs : List Attribute) (p : ℕ) (ts rest : List Lexeme) → IsBody xs p ts rest → AllSpelled ts → AllSpelled rest
after_body xs p ts rest (inl h) all = (subst AllSpelled h.spelled all).1
after_body xs p ts rest (inr h) all = (after_each IsAttribute after_attribute xs h.inner _ h.each (subst AllSpelled h.spelled all).1).1.1

after_object : (o : Object) (ts rest : List Lexeme) → IsObject o ts rest → AllSpelled ts → AllSpelled rest
after_object o ts rest h all = after_body o.attributes o.«end» h.middle rest h.body (subst AllSpelled h.kind.spelled all).1.1

-- ---- the parts of the tree

value_spelled : (v : Value) → IsSpelledWord (value_word v) → is_spelled_value v ≡ true
value_spelled (Named s) h = h
value_spelled (Numeric n) h = h

setting_spelled : (s : Setting) (ts rest : List Lexeme) → IsSetting s ts rest → AllSpelled ts → is_spelled_setting s ≡ true
setting_spelled s ts rest h all = value_spelled s.value (subst AllSpelled h.spelled all).1.1.0

sub_spelled : (s : Setting) (ts rest : List Lexeme) → IsSub s ts rest → AllSpelled ts → is_spelled_setting s ≡ true
sub_spelled s ts rest h all = setting_spelled s ts _ h.setting all

each_spelled : {X : Type 0} (Is : X → List Lexeme → List Lexeme → Type 0) (test : X → Bool) → ((x : X) (ts rest : List Lexeme) → Is x ts rest → AllSpelled ts → AllSpelled rest)
    → ((x : X) (ts rest : List Lexeme) → Is x ts rest → AllSpelled ts → test x ≡ true) → (xs : List X) (ts rest : List Lexeme) → AreEach Is xs ts rest → AllSpelled ts → list_all test xs ≡ true
each_spelled Is test after one [] ts rest h all = refl
each_spelled Is test after one (x ∷ xs) ts rest h all =
    and_from (test x) (list_all test xs) (one x ts h.0 h.1 all) (each_spelled Is test after one xs h.0 rest h.2 (after x ts h.0 h.1 all))

block_spelled : (b : Option Block) (ts rest : List Lexeme) → IsBlock b ts rest → AllSpelled ts → are_spelled_settings (block_settings b) ≡ true
block_spelled None ts rest h all = refl
block_spelled (Some b) ts rest h all = each_spelled IsSub is_spelled_setting after_sub sub_spelled b.settings h.inner _ h.subs (subst AllSpelled h.spelled all).1

attribute_spelled : (a : Attribute) (ts rest : List Lexeme) → IsAttribute a ts rest → AllSpelled ts → is_spelled_attribute a ≡ true
attribute_spelled a ts rest h all =
    and_from (is_spelled_setting a.setting) (are_spelled_settings (block_settings a.block))
    (setting_spelled a.setting ts h.middle h.setting all)
    (block_spelled a.block h.middle _ h.block (after_setting a.setting ts h.middle h.setting all))

body_spelled : (xs : List Attribute) (p : ℕ) (ts rest : List Lexeme) → IsBody xs p ts rest → AllSpelled ts → list_all is_spelled_attribute xs ≡ true
body_spelled xs p ts rest (inl h) all = ap (list_all is_spelled_attribute) h.none
body_spelled xs p ts rest (inr h) all = each_spelled IsAttribute is_spelled_attribute after_attribute attribute_spelled xs h.inner _ h.each (subst AllSpelled h.spelled all).1

object_spelled : (o : Object) (ts rest : List Lexeme) → IsObject o ts rest → AllSpelled ts → is_spelled_object o ≡ true
object_spelled o ts rest h all =
    let behind = (subst AllSpelled h.kind.spelled all).1 in
    and_from (is_name o.name) (list_all is_spelled_attribute o.attributes) behind.0 (body_spelled o.attributes o.«end» h.middle rest h.body behind.1)

-- the tree of a text
pub tree_spelled : (text : List ℕ) (f : File) → IsTreeOf text f → is_spelled f ≡ true
tree_spelled text f t =
    let behind = (subst AllSpelled t.2.header.spelled (all_spelled text t.1)).1.1.1.1.1 in
    and_from (is_name f.cpu) (list_all is_spelled_object f.objects) behind.0 (each_spelled IsObject is_spelled_object after_object object_spelled f.objects t.2.inner _ t.2.objects behind.1.1)
