-- The tokens of a tree's text spell the same tree with places.
use Rattle.std.proofs.Common.{◌≡◌, ℕ, ◌+◌, List, [], ◌∷◌, length, map, Option, Some, None, option_map, refl, ap, ◌∙◌, inr}
use Rattle.std.specs.Prelude.{codes}
use Rattle.oil_reader.specs.declared.tokens.Sign.TheVariants.{Open, Close, Semicolon}
use Rattle.oil_reader.specs.Tokens.{Mark, Lexeme}
use Rattle.oil_reader.specs.Grammar.{Setting, Block, Attribute, Object, File, at, kind_word, value_word, IsSetting, IsSub, AreEach, IsBlock, IsAttribute, IsObject, IsFile}
use Rattle.oil_printer.proofs.Parts.{Part, Blank, Token, word_text, lexemes_at}
use Rattle.oil_printer.proofs.TreeParts.{setting_parts, all_parts, sub_parts, block_parts, attribute_parts, object_parts, file_parts}

-- ---- trees without places

abbrev pub bare_setting : Setting → Setting
bare_setting s = record { name = s.name; name_place = 0; value = s.value; value_place = 0 }

abbrev pub bare_block : Block → Block
bare_block b = record { settings = map bare_setting b.settings; close = 0 }

abbrev pub bare_attribute : Attribute → Attribute
bare_attribute a = record { setting = bare_setting a.setting; block = option_map bare_block a.block; «end» = 0 }

abbrev pub bare_object : Object → Object
bare_object o = record { kind = o.kind; name = o.name; place = 0; attributes = map bare_attribute o.attributes; «end» = 0 }

abbrev pub bare_file : File → File
bare_file f = record { cpu = f.cpu; objects = map bare_object f.objects; close = 0 }

-- ---- what parts spell

-- tokens spell, before those of a rest, something that is x but for its places
pub record Reads {X : Type 0} (bare : X → X) (Is : X → List Lexeme → List Lexeme → Type 0) (x : X) (ts : List Lexeme) (rest : List Part) : Type 0 where
  pub placed : X
  pub same : bare placed ≡ bare x
  pub next : ℕ
  pub is : Is placed ts (lexemes_at next rest)

reads_all : {X : Type 0} (bare : X → X) (Is : X → List Lexeme → List Lexeme → Type 0) (parts : X → List Part → List Part)
    → ((x : X) (p : ℕ) (rest : List Part) → Reads bare Is x (lexemes_at p (parts x rest)) rest)
    → (xs : List X) (p : ℕ) (rest : List Part) → Reads (map bare) (AreEach Is) xs (lexemes_at p (all_parts parts xs rest)) rest
reads_all bare Is parts one [] p rest = record { placed = []; same = refl; next = p; is = refl }
reads_all {X} bare Is parts one (x ∷ xs) p rest =
    let first = one x p (all_parts parts xs rest) in
    let others = reads_all bare Is parts one xs first.next rest in
    record {
      placed = first.placed ∷ others.placed;
      same = ap (λ (y : X). y ∷ map bare others.placed) first.same ∙ ap (λ (ys : List X). bare x ∷ ys) others.same;
      next = others.next;
      is = (lexemes_at first.next (all_parts parts xs rest), first.is, others.is);
    }

-- where the value of a setting stands
abbrev value_place : ℕ → Setting → ℕ
value_place p s = p + length s.name + 1 + 1 + 1

abbrev placed_setting : ℕ → Setting → Setting
placed_setting p s = record { name = s.name; name_place = p; value = s.value; value_place = value_place p s }

abbrev behind_setting : ℕ → Setting → ℕ
behind_setting p s = value_place p s + length (word_text (value_word s.value))

is_setting : (s : Setting) (p : ℕ) (rest : List Part) → IsSetting (placed_setting p s) (lexemes_at p (setting_parts s rest)) (lexemes_at (behind_setting p s) rest)
is_setting s p rest = record { equals = p + length s.name + 1; spelled = refl }

reads_sub : (s : Setting) (p : ℕ) (rest : List Part) → Reads bare_setting IsSub s (lexemes_at p (sub_parts s rest)) rest
reads_sub s p rest = record {
  placed = placed_setting (p + 1) s;
  same = refl;
  next = behind_setting (p + 1) s + 1;
  is = record { semicolon = behind_setting (p + 1) s; setting = is_setting s (p + 1) (Token (Mark Semicolon) ∷ rest) };
}

reads_block : (b : Option Block) (p : ℕ) (rest : List Part) → Reads (option_map bare_block) IsBlock b (lexemes_at p (block_parts b rest)) rest
reads_block None p rest = record { placed = None; same = refl; next = p; is = refl }
reads_block (Some b) p rest =
    let subs = reads_all bare_setting IsSub sub_parts reads_sub b.settings (p + 1 + 1) (Blank 32 ∷ Token (Mark Close) ∷ rest) in
    record {
      placed = Some (record { settings = subs.placed; close = subs.next + 1 });
      same = ap (λ (ss : List Setting). Some (record { settings = ss; close = 0 })) subs.same;
      next = subs.next + 1 + 1;
      is = record { «open» = p + 1; inner = lexemes_at (p + 1 + 1) (all_parts sub_parts b.settings (Blank 32 ∷ Token (Mark Close) ∷ rest)); spelled = refl; subs = subs.is };
    }

reads_attribute : (a : Attribute) (p : ℕ) (rest : List Part) → Reads bare_attribute IsAttribute a (lexemes_at p (attribute_parts a rest)) rest
reads_attribute a p rest =
    let start = p + 1 + 1 + 1 + 1 in
    let end = Token (Mark Semicolon) ∷ Blank 10 ∷ rest in
    let block = reads_block a.block (behind_setting start a.setting) end in
    record {
      placed = record { setting = placed_setting start a.setting; block = block.placed; «end» = block.next };
      same = ap (λ (b : Option Block). record { setting = bare_setting a.setting; block = b; «end» = 0 }) block.same;
      next = block.next + 1 + 1;
      is = record {
        middle = lexemes_at (behind_setting start a.setting) (block_parts a.block end);
        setting = is_setting a.setting start (block_parts a.block end);
        block = block.is;
      };
    }

reads_object : (o : Object) (p : ℕ) (rest : List Part) → Reads bare_object IsObject o (lexemes_at p (object_parts o rest)) rest
reads_object o p rest =
    let word = p + 1 + 1 in
    let name = word + length (kind_word o.kind) + 1 in
    let brace = name + length o.name + 1 in
    let end = Blank 32 ∷ Blank 32 ∷ Token (Mark Close) ∷ Token (Mark Semicolon) ∷ Blank 10 ∷ rest in
    let inner = all_parts attribute_parts o.attributes end in
    let each = reads_all bare_attribute IsAttribute attribute_parts reads_attribute o.attributes (brace + 1 + 1) end in
    let close = each.next + 1 + 1 in
    record {
      placed = record { kind = o.kind; name = o.name; place = name; attributes = each.placed; «end» = close };
      same = ap (λ (xs : List Attribute). record { kind = o.kind; name = o.name; place = 0; attributes = xs; «end» = 0 }) each.same;
      next = close + 1 + 1 + 1;
      is = record {
        middle = at brace (Mark Open) ∷ lexemes_at (brace + 1 + 1) inner;
        kind = record { place = word; spelled = refl };
        body = inr (record { «open» = brace; semicolon = close + 1; inner = lexemes_at (brace + 1 + 1) inner; spelled = refl; each = each.is });
      };
    }

-- a file's tokens spell it
pub record ReadsFile (f : File) : Type 0 where
  pub placed : File
  pub same : bare_file placed ≡ bare_file f
  pub is : IsFile placed (lexemes_at 0 (file_parts f))

pub reads_file : (f : File) → ReadsFile f
reads_file f =
    let cpu = 20 + 1 + length (codes "CPU") + 1 in
    let brace = cpu + length f.cpu + 1 in
    let end = Token (Mark Close) ∷ Token (Mark Semicolon) ∷ Blank 10 ∷ [] in
    let each = reads_all bare_object IsObject object_parts reads_object f.objects (brace + 1 + 1) end in
    record {
      placed = record { cpu = f.cpu; objects = each.placed; close = each.next };
      same = ap (λ (xs : List Object). record { cpu = f.cpu; objects = xs; close = 0 }) each.same;
      is = record {
        inner = lexemes_at (brace + 1 + 1) (all_parts object_parts f.objects end);
        header = record { p1 = 0; p2 = 12; p3 = 14; p4 = 19; p5 = 21; p6 = cpu; p7 = brace; spelled = refl };
        semicolon = each.next + 1;
        objects = each.is;
      };
    }
