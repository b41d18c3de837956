-- OIL: grammar. How a tree is laid out as text: objects in braces, an attribute a line, each line ended by LF.
use Rattle.std.specs.Prelude.{ℕ, List, [], ◌++◌, Option, Some, None, codes, decimal}
use Rattle.std.specs.List.{flat_map}
use Rattle.oil_reader.specs.Grammar.{Value, Named, Numeric, Setting, Block, Attribute, Object, File, kind_word}

-- a name as it is, a number in decimal
abbrev pub value_text : Value → List ℕ
value_text (Named s) = s
value_text (Numeric n) = decimal n

-- NAME = value
unfoldable pub setting_text : Setting → List ℕ
setting_text s = s.name ++ codes " = " ++ value_text s.value

-- in a block, a space before each setting
unfoldable pub sub_text : Setting → List ℕ
sub_text s = codes " " ++ setting_text s ++ codes ";"

-- a block stands on its attribute's line
abbrev pub block_text : Option Block → List ℕ
block_text None = []
block_text (Some b) = codes " {" ++ flat_map sub_text b.settings ++ codes " }"

-- an attribute's line
unfoldable pub attribute_text : Attribute → List ℕ
attribute_text a = codes "    " ++ setting_text a.setting ++ block_text a.block ++ codes ";\n"

-- an attribute up to its block's opening brace; the end of a block and its attribute
unfoldable pub block_start : Setting → List ℕ
block_start s = codes "    " ++ setting_text s ++ codes " {"

unfoldable pub block_end : List ℕ
block_end = codes " };\n"

-- the first line of an object: the word of its kind, and its name
unfoldable pub object_start : List ℕ → List ℕ → List ℕ
object_start kind name = codes "  " ++ kind ++ codes " " ++ name ++ codes " {\n"

unfoldable pub object_end : List ℕ
object_end = codes "  };\n"

-- the lines of an object
unfoldable pub object_text : Object → List ℕ
object_text o = object_start (kind_word o.kind) o.name ++ flat_map attribute_text o.attributes ++ object_end

-- the first line of a file
unfoldable pub version_line : List ℕ
version_line = codes "OIL_VERSION = \"2.5\";\n"

-- the first lines, up to the opening brace of the CPU of that name
unfoldable pub file_start : List ℕ → List ℕ
file_start cpu = version_line ++ codes "CPU " ++ cpu ++ codes " {\n"

unfoldable pub file_end : List ℕ
file_end = codes "};\n"

-- the lines of a file
unfoldable pub file_text : File → List ℕ
file_text f = file_start f.cpu ++ flat_map object_text f.objects ++ file_end
