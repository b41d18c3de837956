-- The trees that the code holds, without where they lie in memory.
use Rattle.std.specs.Prelude.{List, map, option_map}
use Rattle.oil_reader.specs.declared.syntax.Value as code_value
use Rattle.oil_reader.specs.declared.syntax.Value.TheVariants as value
use Rattle.oil_reader.specs.declared.syntax.Setting as code_setting
use Rattle.oil_reader.specs.declared.syntax.Block as code_block
use Rattle.oil_reader.specs.declared.syntax.Attribute as code_attribute
use Rattle.oil_reader.specs.declared.syntax.Object as code_object
use Rattle.oil_reader.specs.declared.syntax.SyntaxTree.{SyntaxTree}
use Rattle.oil_reader.specs.Grammar.{Value, Named, Numeric, Setting, Block, Attribute, Object, File}

abbrev pub value_of : code_value.Value → Value
value_of (value.Name s) = Named s.text.now
value_of (value.Number n) = Numeric n

abbrev pub setting_of : code_setting.Setting → Setting
setting_of s = record { name = s.name.text.now; name_place = s.name_place; value = value_of s.value; value_place = s.value_place }

abbrev pub block_of : code_block.Block → Block
block_of b = record { settings = map setting_of b.settings.items; close = b.close }

abbrev pub attribute_of : code_attribute.Attribute → Attribute
attribute_of a = record { setting = setting_of a.setting; block = option_map block_of a.block; «end» = a.«end» }

abbrev pub object_of : code_object.Object → Object
object_of o = record { kind = o.kind; name = o.name.text.now; place = o.place; attributes = map attribute_of o.attributes.items; «end» = o.«end» }

abbrev pub file_of : SyntaxTree → File
file_of f = record { cpu = f.cpu.text.now; objects = map object_of f.objects.items; close = f.close }

abbrev pub settings_of : List code_setting.Setting → List Setting
settings_of ss = map setting_of ss

abbrev pub attributes_of : List code_attribute.Attribute → List Attribute
attributes_of xs = map attribute_of xs

abbrev pub objects_of : List code_object.Object → List Object
objects_of os = map object_of os
