-- The keys of the objects before one tell whether it stands a second time.
use Rattle.std.proofs.Common.{◌≡◌, ℕ, ◌+◌, ◌<◌, List, [], ◌∷◌, ◌++◌, length, take, drop, get_or, Option, Bool, true, false, cond, not, ◌||◌, ◌&&◌, ◌==◌, refl, sym, ap, ◌∙◌, subst, Bor, BTreeSet, Ordering}
use Rattle.std.specs.BTreeSet.{contains}
use Rattle.std.specs.BTreeMap.{is_at}
use Rattle.std.specs.Ordering.{is_eq, nat_cmp, ordering_then}
use Rattle.std.specs.Cmp.{unsigned_tied}
use Rattle.std.specs.Cmp.Lexicographic.{slice_cmp}
use Rattle.std.specs.List.{list_any}
use Rattle.std.specs.Str.{bytes_eq}
use Rattle.std.proofs.lemmas.List.{drop_more, take_more, map_push}
use Rattle.std.proofs.lemmas.Map.Text.{is_eq-slice_cmp}
use Rattle.oil_reader.specs.declared.fault.OilFault.{OilFault}
use Rattle.oil_reader.specs.declared.fault.OilFault.TheVariants as fault
use Rattle.oil_reader.specs.declared.syntax.Object as code_object
use Rattle.oil_reader.specs.Grammar.{Object}
use Rattle.oil_reader.specs.Order.{first_of_all}
use Rattle.oil_reader.specs.Checks.{kind_number, same_kind, is_os, key_name, clashes, stood, seconds}
use Rattle.oil_reader.specs.Trees.{object_of, objects_of}
use Rattle.oil_reader.proofs.ObjectsListed.{same_kind_is}
use Rattle.oil_reader.proofs.Scopes.{first_of_both}

abbrev pub Key : Type 0
Key = ℕ × Bor (List ℕ)

abbrev pub same_key : Key → Key → Bool
same_key a b = (a.0 == b.0) && bytes_eq a.1.now b.1.now

-- the order of keys
abbrev pub key_cmp : Key → Key → Ordering
key_cmp a b = ordering_then (nat_cmp a.0 b.0) (slice_cmp nat_cmp a.1.now b.1.now)

pub both_equal : (a b : Ordering) → is_eq (ordering_then a b) ≡ (is_eq a && is_eq b)
both_equal Ordering.Less b = refl
both_equal Ordering.Equal b = refl
both_equal Ordering.Greater b = refl

pub equal_numbers : (a b : ℕ) → is_eq (nat_cmp a b) ≡ (a == b)
equal_numbers a b = unsigned_tied a b

-- keys that stand at one place of the order are the same
at_key : (a b : Key) → is_at (key_cmp a) b ≡ same_key a b
at_key a b =
    both_equal (nat_cmp a.0 b.0) (slice_cmp nat_cmp a.1.now b.1.now)
    ∙ ap (λ (t : Bool). t && is_eq (slice_cmp nat_cmp a.1.now b.1.now)) (equal_numbers a.0 b.0)
    ∙ ap (λ (t : Bool). (a.0 == b.0) && t) (is_eq-slice_cmp a.1.now b.1.now)

-- an object has the key
abbrev pub has_key : Key → Object → Bool
has_key q x = (kind_number x.kind == q.0) && bytes_eq (key_name x) q.1.now

-- the keys of a set are those of the objects
abbrev pub AreKeysOf : BTreeSet Key → List Object → Type 0
AreKeysOf seen before = (q : Key) → contains key_cmp seen q ≡ list_any (has_key q) before

pub any_end : {X : Type 0} (test : X → Bool) (xs : List X) (x : X) → list_any test (xs ++ x ∷ []) ≡ cond (test x) true (list_any test xs)
any_end test [] x = end_of (test x)
  where
    end_of : (b : Bool) → (b || false) ≡ cond b true false
    end_of true = refl
    end_of false = refl
any_end test (y ∷ xs) x = or_end (test y) (test x) (list_any test xs) (list_any test (xs ++ x ∷ [])) (any_end test xs x)
  where
    or_end : (a b c d : Bool) → d ≡ cond b true c → (a || d) ≡ cond b true (a || c)
    or_end true true c d e = refl
    or_end true false c d e = refl
    or_end false true c d e = e
    or_end false false c d e = e

-- the key of one more
keys_end : (old new : BTreeSet Key) (k : Key) (before : List Object) (x : Object) → AreKeysOf old before → k.0 ≡ kind_number x.kind → k.1.now ≡ key_name x
    → ((q : Key) → contains key_cmp new q ≡ cond (is_at (key_cmp k) q) true (contains key_cmp old q)) → AreKeysOf new (before ++ x ∷ [])
keys_end old new k before x are kind_is name_is updates q =
    updates q
    ∙ ap (λ (b : Bool). cond b true (contains key_cmp old q)) (at_key k q)
    ∙ ap (λ (b : Bool). cond (same_key k q) true b) (are q)
    ∙ ap (λ (j : ℕ). cond ((j == q.0) && bytes_eq k.1.now q.1.now) true (list_any (has_key q) before)) kind_is
    ∙ ap (λ (n : List ℕ). cond ((kind_number x.kind == q.0) && bytes_eq n q.1.now) true (list_any (has_key q) before)) name_is
    ∙ sym (any_end (has_key q) before x)

pub keys_more : (old new : BTreeSet Key) (k : Key) (xs : List code_object.Object) (i : ℕ) (d : code_object.Object) → i < length xs → d ≡ get_or xs i d → AreKeysOf old (objects_of (take i xs))
    → k.0 ≡ kind_number d.kind → k.1.now ≡ key_name (object_of d)
    → ((q : Key) → contains key_cmp new q ≡ cond (is_at (key_cmp k) q) true (contains key_cmp old q)) → AreKeysOf new (objects_of (take (i + 1) xs))
keys_more old new k xs i d inside is are kind_is name_is updates =
    let taken : objects_of (take (i + 1) xs) ≡ objects_of (take i xs) ++ object_of d ∷ [] =
    ap objects_of (take_more xs i d inside) ∙ map_push object_of (take i xs) (get_or xs i d) ∙ ap (λ (y : code_object.Object). objects_of (take i xs) ++ object_of y ∷ []) (sym is) in
    subst (AreKeysOf new) (sym taken) (keys_end old new k (objects_of (take i xs)) (object_of d) are kind_is name_is updates)

-- ---- an object whose key is there stands a second time

clash_if : (y x : Object) (b : Bool) → same_kind y.kind x.kind ≡ b → (b && bytes_eq (key_name y) (key_name x)) ≡ (b && (is_os y.kind || bytes_eq y.name x.name))
clash_if y x false e = refl
clash_if y x true e = by_kind (is_os y.kind) (is_os x.kind) (ap is_os (same_kind_is y.kind x.kind e))
  where
    by_kind : (a b : Bool) → a ≡ b → bytes_eq (cond a [] y.name) (cond b [] x.name) ≡ (a || bytes_eq y.name x.name)
    by_kind true true s = refl
    by_kind true false s = absurd cc
    by_kind false true s = absurd cc
    by_kind false false s = refl

pub any_same : {X : Type 0} (f g : X → Bool) → ((x : X) → f x ≡ g x) → (xs : List X) → list_any f xs ≡ list_any g xs
any_same f g each [] = refl
any_same f g each (x ∷ xs) = ap (λ (b : Bool). b || list_any f xs) (each x) ∙ ap (λ (b : Bool). g x || b) (any_same f g each xs)

pub stood_is : (seen : BTreeSet Key) (k : Key) (before : List Object) (x : Object) → AreKeysOf seen before → k.0 ≡ kind_number x.kind → k.1.now ≡ key_name x → contains key_cmp seen k ≡ stood before x
stood_is seen k before x are kind_is name_is =
    are k
    ∙ ap (λ (j : ℕ). list_any (λ y. (kind_number y.kind == j) && bytes_eq (key_name y) k.1.now) before) kind_is
    ∙ ap (λ (n : List ℕ). list_any (λ y. same_kind y.kind x.kind && bytes_eq (key_name y) n) before) name_is
    ∙ any_same (λ y. same_kind y.kind x.kind && bytes_eq (key_name y) (key_name x)) (λ y. clashes y x) (λ y. clash_if y x (same_kind y.kind x.kind) refl) before

not_not : (a b c : Bool) → a ≡ not b → b ≡ c → not a ≡ c
not_not a b true h e = ap not (h ∙ ap not e)
not_not a b false h e = ap not (h ∙ ap not e)

-- one more object
pub object_more : (xs : List code_object.Object) (i : ℕ) (d : code_object.Object) (found next whole : Option OilFault) (added there : Bool) → i < length xs → d ≡ get_or xs i d
    → added ≡ not there → there ≡ stood (objects_of (take i xs)) (object_of d)
    → next ≡ first_of_all found (cond (not added) (fault.Twice d.place ∷ []) [])
    → first_of_all found (seconds (objects_of (take i xs)) (objects_of (drop i xs))) ≡ whole
    → first_of_all next (seconds (objects_of (take (i + 1) xs)) (objects_of (drop (i + 1) xs))) ≡ whole
object_more xs i d found next whole added there inside is was there_is step so_far =
    let before = objects_of (take i xs) in
    let after = objects_of (drop (i + 1) xs) in
    let x = object_of d in
    let taken : objects_of (take (i + 1) xs) ≡ before ++ x ∷ [] =
    ap objects_of (take_more xs i d inside) ∙ map_push object_of (take i xs) (get_or xs i d) ∙ ap (λ (y : code_object.Object). before ++ object_of y ∷ []) (sym is) in
    let dropped : objects_of (drop i xs) ≡ x ∷ after = ap objects_of (drop_more xs i d inside) ∙ ap (λ (y : code_object.Object). object_of y ∷ after) (sym is) in
    let now : first_of_all found (seconds before (x ∷ after)) ≡ whole = ap (λ (us : List Object). first_of_all found (seconds before us)) (sym dropped) ∙ so_far in
    let here = not_not added there (stood before x) was there_is in
    ap (λ (us : List Object). first_of_all next (seconds us after)) taken
    ∙ ap (λ (o : Option OilFault). first_of_all o (seconds (before ++ x ∷ []) after)) (step ∙ ap (λ (b : Bool). first_of_all found (cond b (fault.Twice x.place ∷ []) [])) here)
    ∙ sym (first_of_both found (cond (stood before x) (fault.Twice x.place ∷ []) []) (seconds (before ++ x ∷ []) after)) ∙ now
