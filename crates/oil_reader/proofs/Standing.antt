-- The names and values of the settings before one tell whether it stands again.
use Rattle.std.proofs.Common.{◌≡◌, ℕ, ◌+◌, ◌<◌, List, [], ◌∷◌, ◌++◌, length, take, get_or, Option, Some, None, Bool, true, false, cond, not, ◌||◌, ◌&&◌, ◌==◌, refl, sym, ap, ◌∙◌, subst, Bor, BTreeSet, Ordering}
use Rattle.std.specs.BTreeSet.{contains}
use Rattle.std.specs.BTreeMap.{is_at}
use Rattle.std.specs.Ordering.{is_eq, nat_cmp, ordering_then}
use Rattle.std.specs.Cmp.Lexicographic.{slice_cmp}
use Rattle.std.specs.List.{list_any}
use Rattle.std.specs.Str.{bytes_eq}
use Rattle.std.proofs.lemmas.List.{take_more, map_push}
use Rattle.std.proofs.lemmas.Map.Text.{is_eq-slice_cmp}
use Rattle.oil_reader.specs.declared.fault.OilFault.TheVariants as fault
use Rattle.oil_reader.specs.declared.syntax.Setting as code_setting
use Rattle.oil_reader.specs.declared.table.AttributeName.{AttributeName}
use Rattle.oil_reader.specs.declared.table.Presence.{Presence}
use Rattle.oil_reader.specs.Grammar.{Value, Named, Numeric, Setting}
use Rattle.oil_reader.specs.Table.{presence_of, is_list, accepts}
use Rattle.oil_reader.specs.Checks.{same_value, is_again, was_set, faults_by, faults_where, value_sort, value_word, value_number}
use Rattle.oil_reader.specs.Trees.{setting_of, settings_of}
use Rattle.oil_reader.proofs.Keys.{any_end, any_same, equal_numbers}

abbrev pub NameKey : Type 0
NameKey = Bor (List ℕ)

abbrev pub ValueKey : Type 0
ValueKey = Bor (List ℕ) × ℕ × Bor (List ℕ) × ℕ

abbrev pub same_name : NameKey → NameKey → Bool
same_name a b = bytes_eq a.now b.now

abbrev pub same_value_key : ValueKey → ValueKey → Bool
same_value_key a b = bytes_eq a.0.now b.0.now && (a.1 == b.1) && bytes_eq a.2.now b.2.now && (a.3 == b.3)

-- the orders of names and of values
abbrev pub name_cmp : NameKey → NameKey → Ordering
name_cmp a b = slice_cmp nat_cmp a.now b.now

abbrev pub value_key_cmp : ValueKey → ValueKey → Ordering
value_key_cmp a b = ordering_then (ordering_then (ordering_then (slice_cmp nat_cmp a.0.now b.0.now) (nat_cmp a.1 b.1)) (slice_cmp nat_cmp a.2.now b.2.now)) (nat_cmp a.3 b.3)

four_equal : (a b c d : Ordering) → is_eq (ordering_then (ordering_then (ordering_then a b) c) d) ≡ (is_eq a && is_eq b && is_eq c && is_eq d)
four_equal Ordering.Less b c d = refl
four_equal Ordering.Greater b c d = refl
four_equal Ordering.Equal Ordering.Less c d = refl
four_equal Ordering.Equal Ordering.Greater c d = refl
four_equal Ordering.Equal Ordering.Equal Ordering.Less d = refl
four_equal Ordering.Equal Ordering.Equal Ordering.Greater d = refl
four_equal Ordering.Equal Ordering.Equal Ordering.Equal d = refl

-- what stands at one place of the orders is the same
at_name : (a b : NameKey) → is_at (name_cmp a) b ≡ same_name a b
at_name a b = is_eq-slice_cmp a.now b.now

at_value : (a b : ValueKey) → is_at (value_key_cmp a) b ≡ same_value_key a b
at_value a b =
    let names = is_eq (slice_cmp nat_cmp a.0.now b.0.now) in
    let words = is_eq (slice_cmp nat_cmp a.2.now b.2.now) in
    let numbers = is_eq (nat_cmp a.3 b.3) in
    four_equal (slice_cmp nat_cmp a.0.now b.0.now) (nat_cmp a.1 b.1) (slice_cmp nat_cmp a.2.now b.2.now) (nat_cmp a.3 b.3)
    ∙ ap (λ (t : Bool). names && t && words && numbers) (equal_numbers a.1 b.1)
    ∙ ap (λ (t : Bool). names && (a.1 == b.1) && words && t) (equal_numbers a.3 b.3)
    ∙ ap (λ (t : Bool). t && (a.1 == b.1) && words && (a.3 == b.3)) (is_eq-slice_cmp a.0.now b.0.now)
    ∙ ap (λ (t : Bool). bytes_eq a.0.now b.0.now && (a.1 == b.1) && t && (a.3 == b.3)) (is_eq-slice_cmp a.2.now b.2.now)

abbrev pub has_name : NameKey → Setting → Bool
has_name q x = bytes_eq x.name q.now

abbrev pub has_value : ValueKey → Setting → Bool
has_value q x = bytes_eq x.name q.0.now && (value_sort x.value == q.1) && bytes_eq (value_word x.value) q.2.now && (value_number x.value == q.3)

-- the keys of the sets are those of the settings
abbrev pub AreNamesOf : BTreeSet NameKey → List Setting → Type 0
AreNamesOf seen before = (q : NameKey) → contains name_cmp seen q ≡ list_any (has_name q) before

abbrev pub AreValuesOf : BTreeSet ValueKey → List Setting → Type 0
AreValuesOf seen before = (q : ValueKey) → contains value_key_cmp seen q ≡ list_any (has_value q) before

-- a key is the value's of a setting
pub record IsValueKey (k : ValueKey) (x : Setting) : Type 0 where
  pub name : k.0.now ≡ x.name
  pub sort : k.1 ≡ value_sort x.value
  pub word : k.2.now ≡ value_word x.value
  pub number : k.3 ≡ value_number x.value

names_end : (old new : BTreeSet NameKey) (k : NameKey) (before : List Setting) (x : Setting) → AreNamesOf old before → k.now ≡ x.name
    → ((q : NameKey) → contains name_cmp new q ≡ cond (is_at (name_cmp k) q) true (contains name_cmp old q)) → AreNamesOf new (before ++ x ∷ [])
names_end old new k before x are name_is updates q =
    updates q
    ∙ ap (λ (b : Bool). cond b true (contains name_cmp old q)) (at_name k q)
    ∙ ap (λ (b : Bool). cond (same_name k q) true b) (are q)
    ∙ ap (λ (n : List ℕ). cond (bytes_eq n q.now) true (list_any (has_name q) before)) name_is
    ∙ sym (any_end (has_name q) before x)

values_end : (old new : BTreeSet ValueKey) (k : ValueKey) (before : List Setting) (x : Setting) → AreValuesOf old before → IsValueKey k x
    → ((q : ValueKey) → contains value_key_cmp new q ≡ cond (is_at (value_key_cmp k) q) true (contains value_key_cmp old q)) → AreValuesOf new (before ++ x ∷ [])
values_end old new k before x are is updates q =
    let rest = list_any (has_value q) before in
    updates q
    ∙ ap (λ (b : Bool). cond b true (contains value_key_cmp old q)) (at_value k q)
    ∙ ap (λ (b : Bool). cond (same_value_key k q) true b) (are q)
    ∙ ap (λ (n : List ℕ). cond (bytes_eq n q.0.now && (k.1 == q.1) && bytes_eq k.2.now q.2.now && (k.3 == q.3)) true rest) is.name
    ∙ ap (λ (n : ℕ). cond (bytes_eq x.name q.0.now && (n == q.1) && bytes_eq k.2.now q.2.now && (k.3 == q.3)) true rest) is.sort
    ∙ ap (λ (n : List ℕ). cond (bytes_eq x.name q.0.now && (value_sort x.value == q.1) && bytes_eq n q.2.now && (k.3 == q.3)) true rest) is.word
    ∙ ap (λ (n : ℕ). cond (bytes_eq x.name q.0.now && (value_sort x.value == q.1) && bytes_eq (value_word x.value) q.2.now && (n == q.3)) true rest) is.number
    ∙ sym (any_end (has_value q) before x)

taken : (xs : List code_setting.Setting) (i : ℕ) (d : code_setting.Setting) → i < length xs → d ≡ get_or xs i d → settings_of (take (i + 1) xs) ≡ settings_of (take i xs) ++ setting_of d ∷ []
taken xs i d inside is =
    ap settings_of (take_more xs i d inside) ∙ map_push setting_of (take i xs) (get_or xs i d) ∙ ap (λ (y : code_setting.Setting). settings_of (take i xs) ++ setting_of y ∷ []) (sym is)

pub names_more : (old new : BTreeSet NameKey) (k : NameKey) (xs : List code_setting.Setting) (i : ℕ) (d : code_setting.Setting) → i < length xs → d ≡ get_or xs i d → AreNamesOf old (settings_of (take i xs))
    → k.now ≡ (setting_of d).name → ((q : NameKey) → contains name_cmp new q ≡ cond (is_at (name_cmp k) q) true (contains name_cmp old q)) → AreNamesOf new (settings_of (take (i + 1) xs))
names_more old new k xs i d inside is are name_is updates = subst (AreNamesOf new) (sym (taken xs i d inside is)) (names_end old new k (settings_of (take i xs)) (setting_of d) are name_is updates)

pub values_more : (old new : BTreeSet ValueKey) (k : ValueKey) (xs : List code_setting.Setting) (i : ℕ) (d : code_setting.Setting) → i < length xs → d ≡ get_or xs i d → AreValuesOf old (settings_of (take i xs))
    → IsValueKey k (setting_of d) → ((q : ValueKey) → contains value_key_cmp new q ≡ cond (is_at (value_key_cmp k) q) true (contains value_key_cmp old q)) → AreValuesOf new (settings_of (take (i + 1) xs))
values_more old new k xs i d inside is are key_is updates = subst (AreValuesOf new) (sym (taken xs i d inside is)) (values_end old new k (settings_of (take i xs)) (setting_of d) are key_is updates)

-- ---- what the keys tell

name_alone : (o : Presence) (a b : Bool) → is_list o ≡ false → a ≡ (a && (not (is_list o) || b))
name_alone o a b e = rw e (end_of a)
  where
    end_of : (c : Bool) → c ≡ (c && true)
    end_of true = refl
    end_of false = refl

value_parts : (a : Bool) (v w : Value) → (a && (value_sort v == value_sort w) && bytes_eq (value_word v) (value_word w) && (value_number v == value_number w)) ≡ (a && same_value v w)
value_parts false v w = refl
value_parts true (Named s) (Named t) = end_of (bytes_eq s t)
  where
    end_of : (c : Bool) → (c && true) ≡ c
    end_of true = refl
    end_of false = refl
value_parts true (Named s) (Numeric n) = refl
value_parts true (Numeric m) (Named t) = refl
value_parts true (Numeric m) (Numeric n) = refl

name_value : (o : Presence) (a b c : Bool) → is_list o ≡ true → c ≡ (a && b) → c ≡ (a && (not (is_list o) || b))
name_value o a b c e h = rw e h

-- whether it stands again
pub again_where : (names : BTreeSet NameKey) (values : BTreeSet ValueKey) (j : NameKey) (k : ValueKey) (before : List Setting) (x : Setting) → AreNamesOf names before → AreValuesOf values before
    → j.now ≡ x.name → IsValueKey k x → (o : Presence) (b : Bool) → is_list o ≡ b → cond b (contains value_key_cmp values k) (contains name_cmp names j) ≡ was_set o before x
again_where names values j k before x are_names are_values name_is key_is o false e =
    are_names j
    ∙ ap (λ (n : List ℕ). list_any (λ y. bytes_eq y.name n) before) name_is
    ∙ any_same (λ y. bytes_eq y.name x.name) (λ y. is_again o y x) (λ y. name_alone o (bytes_eq y.name x.name) (same_value y.value x.value) e) before
again_where names values j k before x are_names are_values name_is key_is o true e =
    are_values k
    ∙ ap (λ (n : List ℕ). list_any (λ y. bytes_eq y.name n && (value_sort y.value == k.1) && bytes_eq (value_word y.value) k.2.now && (value_number y.value == k.3)) before) key_is.name
    ∙ ap (λ (n : ℕ). list_any (λ y. bytes_eq y.name x.name && (value_sort y.value == n) && bytes_eq (value_word y.value) k.2.now && (value_number y.value == k.3)) before) key_is.sort
    ∙ ap (λ (n : List ℕ). list_any (λ y. bytes_eq y.name x.name && (value_sort y.value == value_sort x.value) && bytes_eq (value_word y.value) n && (value_number y.value == k.3)) before) key_is.word
    ∙ ap (λ (n : ℕ). list_any (λ y. bytes_eq y.name x.name && (value_sort y.value == value_sort x.value) && bytes_eq (value_word y.value) (value_word x.value) && (value_number y.value == n)) before) key_is.number
    ∙ any_same (λ y. bytes_eq y.name x.name && (value_sort y.value == value_sort x.value) && bytes_eq (value_word y.value) (value_word x.value) && (value_number y.value == value_number x.value)) (λ y. is_again o y x)
    (λ y. name_value o (bytes_eq y.name x.name) (same_value y.value x.value) _ e (value_parts (bytes_eq y.name x.name) y.value x.value)) before

-- the faults of a setting, by what the keys tell
pub faults_are : (allowed : List AttributeName) (before : List Setting) (x : Setting) (named valued : Bool) → ((o : Presence) → cond (is_list o) valued named ≡ was_set o before x)
    → (p : Option AttributeName) → faults_where p named valued x ≡ faults_by p before x
faults_are allowed before x named valued h None = refl
faults_are allowed before x named valued h (Some p) =
    ap (λ (b : Bool). cond b (fault.Twice x.name_place ∷ []) [] ++ cond (accepts p x.value) [] (fault.Range x.value_place ∷ [])) (h (presence_of p))

pub was_not : (added there : Bool) → added ≡ not there → not added ≡ there
was_not added true h = ap not h
was_not added false h = ap not h
