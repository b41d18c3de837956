-- All faults of settings that stand together, as a list.
use Rattle.std.specs.Prelude.{ℕ, List, [], ◌∷◌, ◌++◌, Option, Some, None, Bool, true, false, not, ◌||◌, ◌&&◌, ◌==◌, if◌then◌else◌}
use Rattle.std.specs.List.{list_any}
use Rattle.std.specs.Str.{bytes_eq}
use Rattle.oil_reader.specs.declared.fault.OilFault.{OilFault}
use Rattle.oil_reader.specs.declared.fault.OilFault.TheVariants as fault
use Rattle.oil_reader.specs.declared.table.AttributeName.{AttributeName}
use Rattle.oil_reader.specs.declared.table.Presence.{Presence}
use Rattle.oil_reader.specs.Grammar.{Value, Named, Numeric, Setting, Object}
use Rattle.oil_reader.specs.declared.syntax.Kind.{Kind}
use Rattle.oil_reader.specs.declared.syntax.Kind.TheVariants as kind
use Rattle.oil_reader.specs.Table.{word_of, presence_of, is_list, may_lack, accepts}
use Rattle.oil_reader.specs.Attributes.{attribute_named}

abbrev pub same_value : Value → Value → Bool
same_value (Named s) (Named t) = bytes_eq s t
same_value (Numeric m) (Numeric n) = m == n
same_value _ _ = false

abbrev pub is_again : Presence → Setting → Setting → Bool
is_again o x y = bytes_eq x.name y.name && (not (is_list o) || same_value x.value y.value)

abbrev pub was_set : Presence → List Setting → Setting → Bool
was_set presence before y = list_any (λ x. is_again presence x y) before

abbrev pub faults_by : Option AttributeName → List Setting → Setting → List OilFault
faults_by None before x = fault.UnknownAttribute x.name_place ∷ []
faults_by (Some p) before x =
    (if was_set (presence_of p) before x then fault.Twice x.name_place ∷ [] else [])
    ++ (if accepts p x.value then [] else fault.Range x.value_place ∷ [])

-- the same, where it is known whether its name stood before, and whether its name with this value did
abbrev pub faults_where : Option AttributeName → Bool → Bool → Setting → List OilFault
faults_where None named valued x = fault.UnknownAttribute x.name_place ∷ []
faults_where (Some p) named valued x =
    (if (if is_list (presence_of p) then valued else named) then fault.Twice x.name_place ∷ [] else [])
    ++ (if accepts p x.value then [] else fault.Range x.value_place ∷ [])

-- the faults of a setting behind others
abbrev pub setting_faults : List AttributeName → List Setting → Setting → List OilFault
setting_faults allowed before x = faults_by (attribute_named allowed x.name) before x

abbrev pub settings_faults : List AttributeName → List Setting → List Setting → List OilFault
settings_faults allowed before [] = []
settings_faults allowed before (x ∷ xs) = setting_faults allowed before x ++ settings_faults allowed (before ++ x ∷ []) xs

abbrev pub is_set : List Setting → AttributeName → Bool
is_set settings p = list_any (λ x. bytes_eq (word_of p) x.name) settings

-- what is lacking
abbrev pub lacking_faults : List AttributeName → List Setting → ℕ → List OilFault
lacking_faults [] settings close = []
lacking_faults (p ∷ ps) settings close =
    (if may_lack (presence_of p) || is_set settings p then [] else fault.Missing close ∷ []) ++ lacking_faults ps settings close

abbrev pub scope_faults : List AttributeName → List Setting → ℕ → List OilFault
scope_faults allowed settings close = settings_faults allowed [] settings ++ lacking_faults allowed settings close

-- a value as numbers and bytes: what it is, the word and the number
abbrev pub value_sort : Value → ℕ
value_sort (Named s) = 0
value_sort (Numeric n) = 1

abbrev pub value_word : Value → List ℕ
value_word (Named s) = s
value_word (Numeric n) = []

abbrev pub value_number : Value → ℕ
value_number (Named s) = 0
value_number (Numeric n) = n

-- ---- objects

-- kinds are told apart by numbers
abbrev pub kind_number : Kind → ℕ
kind_number kind.Os = 0
kind_number kind.AppMode = 1
kind_number kind.Task = 2
kind_number kind.Isr = 3
kind_number kind.Resource = 4
kind_number kind.Event = 5
kind_number kind.Counter = 6
kind_number kind.Alarm = 7

abbrev pub same_kind : Kind → Kind → Bool
same_kind j k = kind_number j == kind_number k

abbrev pub is_os : Kind → Bool
is_os kind.Os = true
is_os _ = false

-- the name by which objects of its kind are told apart; of kind OS there is one
abbrev pub key_name : Object → List ℕ
key_name o = if is_os o.kind then [] else o.name

-- y may not stand behind x
abbrev pub clashes : Object → Object → Bool
clashes x y = same_kind x.kind y.kind && (is_os x.kind || bytes_eq x.name y.name)

abbrev pub stood : List Object → Object → Bool
stood before y = list_any (λ x. clashes x y) before

abbrev pub seconds : List Object → List Object → List OilFault
seconds before [] = []
seconds before (x ∷ xs) = (if stood before x then fault.Twice x.place ∷ [] else []) ++ seconds (before ++ x ∷ []) xs

abbrev pub has_kind : Kind → List Object → Bool
has_kind k xs = list_any (λ x. same_kind x.kind k) xs

abbrev pub lacks : List Object → ℕ → List OilFault
lacks xs close = if has_kind kind.Os xs && has_kind kind.AppMode xs then [] else fault.Missing close ∷ []
