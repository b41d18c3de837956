-- The parts of a tree whose names are words, and whose numbers have 32 bits, are pieces of its text.
use Rattle.std.proofs.Common.{◌≡◌, List, [], ◌∷◌, Option, Some, None, Bool, true, ◌&&◌, refl}
use Rattle.std.specs.Prelude.{codes}
use Rattle.std.specs.List.{list_all}
use Rattle.oil_reader.specs.declared.syntax.Kind.{Kind}
use Rattle.oil_reader.specs.declared.syntax.Kind.TheVariants as kind
use Rattle.oil_reader.specs.declared.tokens.Sign.TheVariants.{Open, Close, Equals, Semicolon}
use Rattle.oil_reader.specs.Tokens.{Mark}
use Rattle.oil_reader.specs.Grammar.{Setting, Block, Attribute, Object, File, kind_word}
use Rattle.oil_reader.specs.Checked.{is_name}
use Rattle.oil_reader.specs.Meaning.{block_settings}
use Rattle.oil_reader.specs.Spelled.{is_spelled_value}
use Rattle.oil_printer.proofs.Parts.{Part, Blank, Token, text_of, ArePieces}
use Rattle.oil_printer.proofs.Words.{Apart, nothing_left, space, line_end, sign, version, name, value}
use Rattle.oil_printer.proofs.TreeParts.{setting_parts, all_parts, sub_parts, block_parts, attribute_parts, object_parts, file_parts}
use Rattle.std.proofs.lemmas.Bool.{and_parts}

-- ---- what can be printed and read

abbrev pub may_print_setting : Setting → Bool
may_print_setting s = is_name s.name && is_spelled_value s.value

abbrev pub may_print_attribute : Attribute → Bool
may_print_attribute a = may_print_setting a.setting && list_all may_print_setting (block_settings a.block)

abbrev pub may_print_object : Object → Bool
may_print_object o = is_name o.name && list_all may_print_attribute o.attributes

abbrev pub may_print : File → Bool
may_print f = is_name f.cpu && list_all may_print_object f.objects

-- ---- its parts are pieces

setting_pieces : (s : Setting) (rest : List Part) → may_print_setting s ≡ true → Apart (text_of rest) → ArePieces rest → ArePieces (setting_parts s rest)
setting_pieces s rest h apart pieces =
    let t = and_parts (is_name s.name) (is_spelled_value s.value) h in
    name s.name _ t.0 refl (space _ (sign Equals _ (space _ (value s.value rest t.1 apart pieces))))

all_pieces : {X : Type 0} (parts : X → List Part → List Part) (test : X → Bool) → ((x : X) (rest : List Part) → test x ≡ true → ArePieces rest → ArePieces (parts x rest))
    → (xs : List X) (rest : List Part) → list_all test xs ≡ true → ArePieces rest → ArePieces (all_parts parts xs rest)
all_pieces parts test one [] rest h pieces = pieces
all_pieces parts test one (x ∷ xs) rest h pieces =
    let t = and_parts (test x) (list_all test xs) h in
    one x (all_parts parts xs rest) t.0 (all_pieces parts test one xs rest t.1 pieces)

sub_pieces : (s : Setting) (rest : List Part) → may_print_setting s ≡ true → ArePieces rest → ArePieces (sub_parts s rest)
sub_pieces s rest h pieces = space _ (setting_pieces s (Token (Mark Semicolon) ∷ rest) h refl (sign Semicolon _ pieces))

block_pieces : (b : Option Block) (rest : List Part) → list_all may_print_setting (block_settings b) ≡ true → ArePieces rest → ArePieces (block_parts b rest)
block_pieces None rest h pieces = pieces
block_pieces (Some b) rest h pieces =
    space _ (sign Open _ (all_pieces sub_parts may_print_setting sub_pieces b.settings (Blank 32 ∷ Token (Mark Close) ∷ rest) h
    (space _ (sign Close _ pieces))))

-- a block, or what follows it, doesn't go on with a word
apart_block : (b : Option Block) (rest : List Part) → Apart (text_of rest) → Apart (text_of (block_parts b rest))
apart_block None rest h = h
apart_block (Some b) rest h = refl

attribute_pieces : (a : Attribute) (rest : List Part) → may_print_attribute a ≡ true → ArePieces rest → ArePieces (attribute_parts a rest)
attribute_pieces a rest h pieces =
    let t = and_parts (may_print_setting a.setting) (list_all may_print_setting (block_settings a.block)) h in
    let end = Token (Mark Semicolon) ∷ Blank 10 ∷ rest in
    space _ (space _ (space _ (space _ (setting_pieces a.setting (block_parts a.block end) t.0 (apart_block a.block end refl)
    (block_pieces a.block end t.1 (sign Semicolon _ (line_end _ pieces)))))))

kind_name : (k : Kind) → is_name (kind_word k) ≡ true
kind_name kind.Os = refl
kind_name kind.AppMode = refl
kind_name kind.Task = refl
kind_name kind.Isr = refl
kind_name kind.Resource = refl
kind_name kind.Event = refl
kind_name kind.Counter = refl
kind_name kind.Alarm = refl

object_pieces : (o : Object) (rest : List Part) → may_print_object o ≡ true → ArePieces rest → ArePieces (object_parts o rest)
object_pieces o rest h pieces =
    let t = and_parts (is_name o.name) (list_all may_print_attribute o.attributes) h in
    space _ (space _ (name (kind_word o.kind) _ (kind_name o.kind) refl (space _ (name o.name _ t.0 refl (space _ (sign Open _ (line_end _
    (all_pieces attribute_parts may_print_attribute attribute_pieces o.attributes _ t.1
    (space _ (space _ (sign Close _ (sign Semicolon _ (line_end _ pieces)))))))))))))

pub file_pieces : (f : File) → may_print f ≡ true → ArePieces (file_parts f)
file_pieces f h =
    let t = and_parts (is_name f.cpu) (list_all may_print_object f.objects) h in
    name (codes "OIL_VERSION") _ refl refl (space _ (sign Equals _ (space _ (version _ (sign Semicolon _ (line_end _
    (name (codes "CPU") _ refl refl (space _ (name f.cpu _ t.0 refl (space _ (sign Open _ (line_end _
    (all_pieces object_parts may_print_object object_pieces f.objects _ t.1 (sign Close _ (sign Semicolon _ (line_end _ nothing_left))))))))))))))))
