-- The values of attributes are words and numbers that a text can spell.
use Rattle.std.proofs.Common.{◌≡◌, ℕ, List, [], ◌∷◌, ◌++◌, map, Option, Some, None, Bool, true, false, cond, refl, sym, ap, ◌∙◌, inl, inr}
use Rattle.std.specs.List.{list_all}
use Rattle.std.specs.Str.{bytes_eq}
use Rattle.osek_base.specs.Lists.{is_empty}
use Rattle.oil_reader.specs.declared.table.AttributeName.{AttributeName}
use Rattle.oil_reader.specs.Grammar.{Value, Named, Numeric, Setting, Attribute, Object}
use Rattle.oil_reader.specs.Table.{word_of}
use Rattle.oil_reader.specs.Attributes.{Among}
use Rattle.oil_reader.specs.Checked.{is_name, are_names, is_number}
use Rattle.oil_reader.specs.Meaning.{value_at, block_settings, block_at, number_in, number_at, name_in, name_at, names_in, names_at, is_name as holds_name, has_name, settings_in}
use Rattle.oil_reader.specs.Spelled.{is_spelled_value, is_spelled_setting, are_spelled_settings, is_spelled_attribute, is_spelled_object}
use Rattle.std.proofs.lemmas.Bool.{and_parts, and_from}

-- a test that all of a list pass
pub all_is : {X : Type 0} (test : X → Bool) (xs : List X) (x : X) → list_all test xs ≡ true → Among xs x → test x ≡ true
all_is test [] x h among = absurd among
all_is test (y ∷ xs) x h (inl same) = ap test (sym same) ∙ (and_parts (test y) (list_all test xs) h).0
all_is test (y ∷ xs) x h (inr among) = all_is test xs x (and_parts (test y) (list_all test xs) h).1 among

abbrev is_spelled_option : Option Value → Bool
is_spelled_option None = true
is_spelled_option (Some v) = is_spelled_value v

value_step : (b : Bool) (v : Value) (o : Option Value) → is_spelled_value v ≡ true → is_spelled_option o ≡ true → is_spelled_option (cond b (Some v) o) ≡ true
value_step true v o h k = h
value_step false v o h k = k

value_spelled : (p : AttributeName) (xs : List Setting) → are_spelled_settings xs ≡ true → is_spelled_option (value_at p xs) ≡ true
value_spelled p [] h = refl
value_spelled p (x ∷ xs) h =
    let t = and_parts (is_spelled_setting x) (are_spelled_settings xs) h in
    value_step (bytes_eq (word_of p) x.name) x.value (value_at p xs) t.0 (value_spelled p xs t.1)

-- ---- numbers

number_if : (o : Option Value) → is_spelled_option o ≡ true → is_number (number_in o) ≡ true
number_if None h = refl
number_if (Some (Named s)) h = refl
number_if (Some (Numeric n)) h = h

pub number_spelled : (p : AttributeName) (xs : List Setting) → are_spelled_settings xs ≡ true → is_number (number_at p xs) ≡ true
number_spelled p xs h = number_if (value_at p xs) (value_spelled p xs h)

pub bits_spelled : (p : AttributeName) (xs : List Setting) (n : ℕ) → are_spelled_settings xs ≡ true → value_at p xs ≡ Some (Numeric n) → is_number n ≡ true
bits_spelled p xs n h e = ap is_spelled_option (sym e) ∙ value_spelled p xs h

-- ---- names

name_if : (o : Option Value) → is_spelled_option o ≡ true → holds_name o ≡ true → is_name (name_in o) ≡ true
name_if None h has = absurd cc
name_if (Some (Named s)) h has = h
name_if (Some (Numeric n)) h has = absurd cc

pub name_spelled : (p : AttributeName) (xs : List Setting) → are_spelled_settings xs ≡ true → has_name p xs ≡ true → is_name (name_at p xs) ≡ true
name_spelled p xs h has = name_if (value_at p xs) (value_spelled p xs h) has

names_step : (b : Bool) (v : Value) (names : List (List ℕ)) → is_spelled_value v ≡ true → are_names names ≡ true → are_names (cond b (names_in v) [] ++ names) ≡ true
names_step true (Named s) names h k = and_from (is_name s) (are_names names) h k
names_step true (Numeric n) names h k = k
names_step false v names h k = k

pub names_spelled : (p : AttributeName) (xs : List Setting) → are_spelled_settings xs ≡ true → are_names (names_at p xs) ≡ true
names_spelled p [] h = refl
names_spelled p (x ∷ xs) h =
    let t = and_parts (is_spelled_setting x) (are_spelled_settings xs) h in
    names_step (bytes_eq (word_of p) x.name) x.value (names_at p xs) t.0 (names_spelled p xs t.1)

some_step : (b : Bool) (v : Value) (o : Option Value) (names : List (List ℕ)) → holds_name (cond b (Some v) o) ≡ true → (holds_name o ≡ true → is_empty names ≡ false) → is_empty (cond b (names_in v) [] ++ names) ≡ false
some_step true (Named s) o names h next = refl
some_step true (Numeric n) o names h next = absurd cc
some_step false v o names h next = next h

-- a list attribute whose first value is a name has names
pub some_names : (p : AttributeName) (xs : List Setting) → has_name p xs ≡ true → is_empty (names_at p xs) ≡ false
some_names p [] h = absurd cc
some_names p (x ∷ xs) h = some_step (bytes_eq (word_of p) x.name) x.value (value_at p xs) (names_at p xs) h (some_names p xs)

-- ---- objects

settings_from : (xs : List Attribute) → list_all is_spelled_attribute xs ≡ true → are_spelled_settings (map (λ a. a.setting) xs) ≡ true
settings_from [] h = refl
settings_from (a ∷ xs) h =
    let t = and_parts (is_spelled_attribute a) (list_all is_spelled_attribute xs) h in
    let u = and_parts (is_spelled_setting a.setting) (are_spelled_settings (block_settings a.block)) t.0 in
    and_from (is_spelled_setting a.setting) (are_spelled_settings (map (λ a. a.setting) xs)) u.0 (settings_from xs t.1)

block_step : (b : Bool) (first rest : List Setting) → are_spelled_settings first ≡ true → are_spelled_settings rest ≡ true → are_spelled_settings (cond b first rest) ≡ true
block_step true first rest h k = h
block_step false first rest h k = k

block_from : (p : AttributeName) (xs : List Attribute) → list_all is_spelled_attribute xs ≡ true → are_spelled_settings (block_at p xs) ≡ true
block_from p [] h = refl
block_from p (a ∷ xs) h =
    let t = and_parts (is_spelled_attribute a) (list_all is_spelled_attribute xs) h in
    let u = and_parts (is_spelled_setting a.setting) (are_spelled_settings (block_settings a.block)) t.0 in
    block_step (bytes_eq (word_of p) a.setting.name) (block_settings a.block) (block_at p xs) u.1 (block_from p xs t.1)

module _ (o : Object) (h : is_spelled_object o ≡ true) where
  pub object_name : is_name o.name ≡ true
  object_name = (and_parts (is_name o.name) (list_all is_spelled_attribute o.attributes) h).0

  object_attributes : list_all is_spelled_attribute o.attributes ≡ true
  object_attributes = (and_parts (is_name o.name) (list_all is_spelled_attribute o.attributes) h).1

  pub object_settings : are_spelled_settings (settings_in o) ≡ true
  object_settings = settings_from o.attributes object_attributes

  pub object_block : (p : AttributeName) → are_spelled_settings (block_at p o.attributes) ≡ true
  object_block p = block_from p o.attributes object_attributes
