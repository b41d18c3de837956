-- OIL: grammar. The trees that tokens can spell: names are words, and numbers have 32 bits.
use Rattle.std.specs.Prelude.{Bool, ◌&&◌, List}
use Rattle.std.specs.List.{list_all}
use Rattle.oil_reader.specs.Grammar.{Value, Named, Numeric, Setting, Attribute, Object, File}
use Rattle.oil_reader.specs.Meaning.{block_settings}
use Rattle.oil_reader.specs.Checked.{is_name, is_number}

abbrev pub is_spelled_value : Value → Bool
is_spelled_value (Named s) = is_name s
is_spelled_value (Numeric n) = is_number n

abbrev pub is_spelled_setting : Setting → Bool
is_spelled_setting x = is_spelled_value x.value

abbrev pub are_spelled_settings : List Setting → Bool
are_spelled_settings xs = list_all is_spelled_setting xs

abbrev pub is_spelled_attribute : Attribute → Bool
is_spelled_attribute a = is_spelled_setting a.setting && are_spelled_settings (block_settings a.block)

abbrev pub is_spelled_object : Object → Bool
is_spelled_object o = is_name o.name && list_all is_spelled_attribute o.attributes

-- a whole file
abbrev pub is_spelled : File → Bool
is_spelled f = is_name f.cpu && list_all is_spelled_object f.objects
