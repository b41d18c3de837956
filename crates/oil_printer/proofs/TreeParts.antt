-- The parts of a tree's text, and that they are its text.
use Rattle.std.proofs.Common.{◌≡◌, ℕ, List, [], ◌∷◌, ◌++◌, Option, Some, None, refl, sym, ap, ◌∙◌, append_assoc}
use Rattle.std.specs.Prelude.{codes}
use Rattle.std.specs.List.{flat_map}
use Rattle.oil_reader.specs.declared.tokens.Sign.TheVariants.{Open, Close, Equals, Semicolon}
use Rattle.oil_reader.specs.Tokens.{Name, Version, Mark}
use Rattle.oil_reader.specs.Grammar.{Value, Named, Numeric, Setting, Block, Attribute, Object, File, kind_word, value_word}
use Rattle.oil_printer.specs.Layout.{value_text, setting_text, sub_text, block_text, attribute_text, object_start, object_end, object_text, version_line, file_start, file_end, file_text}
use Rattle.oil_printer.proofs.Parts.{Part, Blank, Token, word_text, text_of}

-- ---- parts, before those of a rest

abbrev pub setting_parts : Setting → List Part → List Part
setting_parts s rest = Token (Name s.name) ∷ Blank 32 ∷ Token (Mark Equals) ∷ Blank 32 ∷ Token (value_word s.value) ∷ rest

-- of the things of a list one after the other
abbrev pub all_parts : {X : Type 0} → (X → List Part → List Part) → List X → List Part → List Part
all_parts parts [] rest = rest
all_parts parts (x ∷ xs) rest = parts x (all_parts parts xs rest)

abbrev pub sub_parts : Setting → List Part → List Part
sub_parts s rest = Blank 32 ∷ setting_parts s (Token (Mark Semicolon) ∷ rest)

abbrev pub block_parts : Option Block → List Part → List Part
block_parts None rest = rest
block_parts (Some b) rest = Blank 32 ∷ Token (Mark Open) ∷ all_parts sub_parts b.settings (Blank 32 ∷ Token (Mark Close) ∷ rest)

abbrev pub attribute_parts : Attribute → List Part → List Part
attribute_parts a rest =
    Blank 32 ∷ Blank 32 ∷ Blank 32 ∷ Blank 32 ∷ setting_parts a.setting (block_parts a.block (Token (Mark Semicolon) ∷ Blank 10 ∷ rest))

abbrev pub object_parts : Object → List Part → List Part
object_parts o rest =
    Blank 32 ∷ Blank 32 ∷ Token (Name (kind_word o.kind)) ∷ Blank 32 ∷ Token (Name o.name) ∷ Blank 32 ∷ Token (Mark Open) ∷ Blank 10
    ∷ all_parts attribute_parts o.attributes (Blank 32 ∷ Blank 32 ∷ Token (Mark Close) ∷ Token (Mark Semicolon) ∷ Blank 10 ∷ rest)

abbrev pub file_parts : File → List Part
file_parts f =
    Token (Name (codes "OIL_VERSION")) ∷ Blank 32 ∷ Token (Mark Equals) ∷ Blank 32 ∷ Token Version ∷ Token (Mark Semicolon) ∷ Blank 10
    ∷ Token (Name (codes "CPU")) ∷ Blank 32 ∷ Token (Name f.cpu) ∷ Blank 32 ∷ Token (Mark Open) ∷ Blank 10
    ∷ all_parts object_parts f.objects (Token (Mark Close) ∷ Token (Mark Semicolon) ∷ Blank 10 ∷ [])

-- ---- their text

value_is : (v : Value) → word_text (value_word v) ≡ value_text v
value_is (Named s) = refl
value_is (Numeric n) = refl

three : (a m b rest : List ℕ) → a ++ (m ++ (b ++ rest)) ≡ a ++ m ++ b ++ rest
three a m b rest = simp append_assoc refl

setting_is : (s : Setting) (rest : List Part) → text_of (setting_parts s rest) ≡ setting_text s ++ text_of rest
unfolding setting_text
setting_is s rest =
    ap (λ (v : List ℕ). s.name ++ (codes " = " ++ (v ++ text_of rest))) (value_is s.value)
    ∙ three s.name (codes " = ") (value_text s.value) (text_of rest)

all_are : {X : Type 0} (parts : X → List Part → List Part) (text : X → List ℕ) → ((x : X) (rest : List Part) → text_of (parts x rest) ≡ text x ++ text_of rest)
    → (xs : List X) (rest : List Part) → text_of (all_parts parts xs rest) ≡ flat_map text xs ++ text_of rest
all_are parts text one [] rest = refl
all_are parts text one (x ∷ xs) rest =
    one x (all_parts parts xs rest) ∙ ap (λ (t : List ℕ). text x ++ t) (all_are parts text one xs rest) ∙ sym (append_assoc (text x) (flat_map text xs) (text_of rest))

sub_is : (s : Setting) (rest : List Part) → text_of (sub_parts s rest) ≡ sub_text s ++ text_of rest
unfolding sub_text
sub_is s rest =
    ap (λ (t : List ℕ). 32 ∷ t) (setting_is s (Token (Mark Semicolon) ∷ rest) ∙ sym (append_assoc (setting_text s) (codes ";") (text_of rest)))

block_is : (b : Option Block) (rest : List Part) → text_of (block_parts b rest) ≡ block_text b ++ text_of rest
block_is None rest = refl
block_is (Some b) rest =
    ap (λ (t : List ℕ). codes " {" ++ t)
    (all_are sub_parts sub_text sub_is b.settings (Blank 32 ∷ Token (Mark Close) ∷ rest) ∙ sym (append_assoc (flat_map sub_text b.settings) (codes " }") (text_of rest)))

ends_line : (a b c rest : List ℕ) → a ++ (b ++ (c ++ rest)) ≡ a ++ b ++ c ++ rest
ends_line a b c rest = simp append_assoc refl

attribute_is : (a : Attribute) (rest : List Part) → text_of (attribute_parts a rest) ≡ attribute_text a ++ text_of rest
unfolding attribute_text
attribute_is a rest =
    let end = Token (Mark Semicolon) ∷ Blank 10 ∷ rest in
    ap (λ (t : List ℕ). codes "    " ++ t)
    (setting_is a.setting (block_parts a.block end) ∙ ap (λ (t : List ℕ). setting_text a.setting ++ t) (block_is a.block end)
    ∙ ends_line (setting_text a.setting) (block_text a.block) (codes ";\n") (text_of rest))

named : (k n a e rest : List ℕ) → k ++ (codes " " ++ (n ++ (codes " {\n" ++ (a ++ (e ++ rest))))) ≡ k ++ codes " " ++ n ++ codes " {\n" ++ a ++ e ++ rest
named k n a e rest = simp append_assoc refl

object_is : (o : Object) (rest : List Part) → text_of (object_parts o rest) ≡ object_text o ++ text_of rest
unfolding object_text object_start object_end
object_is o rest =
    ap (λ (t : List ℕ). codes "  " ++ (kind_word o.kind ++ (codes " " ++ (o.name ++ (codes " {\n" ++ t)))))
    (all_are attribute_parts attribute_text attribute_is o.attributes (Blank 32 ∷ Blank 32 ∷ Token (Mark Close) ∷ Token (Mark Semicolon) ∷ Blank 10 ∷ rest))
    ∙ ap (λ (t : List ℕ). codes "  " ++ t) (named (kind_word o.kind) o.name (flat_map attribute_text o.attributes) (codes "  };\n") (text_of rest))

pub file_is : (f : File) → text_of (file_parts f) ≡ file_text f
unfolding file_text file_start file_end version_line
file_is f =
    ap (λ (t : List ℕ). codes "OIL_VERSION = \"2.5\";\nCPU " ++ (f.cpu ++ (codes " {\n" ++ t)))
    (all_are object_parts object_text object_is f.objects (Token (Mark Close) ∷ Token (Mark Semicolon) ∷ Blank 10 ∷ []))
    ∙ ap (λ (t : List ℕ). codes "OIL_VERSION = \"2.5\";\nCPU " ++ t) (three f.cpu (codes " {\n") (flat_map object_text f.objects) (codes "};\n"))
