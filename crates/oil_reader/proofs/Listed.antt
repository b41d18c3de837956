-- The list of faults has just the faults that stand.
use Rattle.std.proofs.Common.{◌≡◌, ℕ, List, [], ◌∷◌, ◌++◌, Option, Some, None, Bool, true, false, cond, ◌||◌, not, refl, sym, ap, ◌∙◌, subst, inl, inr, append_assoc}
use Rattle.std.specs.Prelude.{IsTrue}
use Rattle.std.specs.List.{list_any}
use Rattle.std.specs.Str.{bytes_eq}
use Rattle.std.proofs.lemmas.Bool.{eqb-true, eq-eqb, and_parts, or_parts, or_right}
use Rattle.std.proofs.lemmas.Slice.Eq.{bytes_eq-Decides}
use Rattle.std.proofs.lemmas.List.{append-nil}
use Rattle.oil_reader.specs.declared.fault.OilFault.{OilFault}
use Rattle.oil_reader.specs.declared.fault.OilFault.TheVariants as fault
use Rattle.oil_reader.specs.declared.table.AttributeName.{AttributeName}
use Rattle.oil_reader.specs.declared.table.Presence.{Presence}
use Rattle.oil_reader.specs.Grammar.{Value, Named, Numeric, Setting, Attribute}
use Rattle.oil_reader.specs.Table.{word_of, presence_of, is_list, may_lack, accepts}
use Rattle.oil_reader.specs.Attributes.{Among, Scope, attribute_named, Names, IsUnknown, IsMissing, IsRepeated, IsOutOfRange, ScopeFault, BlockFault, block_scope, Finds}
use Rattle.oil_reader.specs.Order.{first_of_all}
use Rattle.oil_reader.specs.Checks.{same_value, is_again, was_set, faults_by, setting_faults, settings_faults, is_set, lacking_faults, scope_faults}
use Rattle.oil_reader.proofs.Firsts.{Finds_map, Finds_listed, among_left, among_right, among_either}

-- ---- tests on settings

same_value_is : (v w : Value) → same_value v w ≡ true → v ≡ w
same_value_is (Named s) (Named t) h = ap Named ((bytes_eq-Decides s t).0 h)
same_value_is (Named s) (Numeric n) h = absurd cc
same_value_is (Numeric m) (Named t) h = absurd cc
same_value_is (Numeric m) (Numeric n) h = ap Numeric (eqb-true m n h)

is_same_value : (v w : Value) → v ≡ w → same_value v w ≡ true
is_same_value (Named s) (Named t) h = (bytes_eq-Decides s t).1 cc
is_same_value (Named s) (Numeric n) h = absurd cc
is_same_value (Numeric m) (Named t) h = absurd cc
is_same_value (Numeric m) (Numeric n) h = eq-eqb m n cc

list_is : (a b : Bool) → (not a || b) ≡ true → a ≡ true → b ≡ true
list_is true b h e = h
list_is false b h e = absurd cc

is_list_by : (a b : Bool) → (a ≡ true → b ≡ true) → (not a || b) ≡ true
is_list_by true b h = h refl
is_list_by false b h = refl

again_is : (o : Presence) (x y : Setting) → is_again o x y ≡ true → (x.name ≡ y.name) × (is_list o ≡ true → x.value ≡ y.value)
again_is o x y h =
    let t = and_parts (bytes_eq x.name y.name) (not (is_list o) || same_value x.value y.value) h in
    ((bytes_eq-Decides x.name y.name).0 t.0, λ e. same_value_is x.value y.value (list_is (is_list o) (same_value x.value y.value) t.1 e))

pub is_again_by : (o : Presence) (x y : Setting) → x.name ≡ y.name → (is_list o ≡ true → x.value ≡ y.value) → is_again o x y ≡ true
is_again_by o x y n v = rw ((bytes_eq-Decides x.name y.name).1 n) (is_list_by (is_list o) (same_value x.value y.value) (λ e. is_same_value x.value y.value (v e)))

-- a test that some of the list passes
any_first : {X : Type 0} (test : X → Bool) (y : X) (xs : List X) (b : Bool) → test y ≡ b → (b || list_any test xs) ≡ true → (list_any test xs ≡ true → (x : X) × Among xs x × (test x ≡ true)) → (x : X) × Among (y ∷ xs) x × (test x ≡ true)
any_first test y xs true t h next = (y, inl refl, t)
any_first test y xs false t h next = let n = next h in (n.0, inr n.1, n.2)

pub any_is : {X : Type 0} (test : X → Bool) (xs : List X) → list_any test xs ≡ true → (x : X) × Among xs x × (test x ≡ true)
any_is test [] h = absurd cc
any_is test (x ∷ xs) h = any_first test x xs (test x) refl h (any_is test xs)

pub any_by : {X : Type 0} (test : X → Bool) (xs : List X) (x : X) → Among xs x → test x ≡ true → list_any test xs ≡ true
any_by test [] x h t = absurd h
any_by test (y ∷ xs) x (inl e) t = rw (ap test e ∙ t) refl
any_by test (y ∷ xs) x (inr h) t = or_right (test y) (list_any test xs) (any_by test xs x h t)

-- ---- a fault of the list stands

abbrev pub scope : List AttributeName → List Setting → ℕ → Scope
scope allowed settings close = record { allowed = allowed; settings = settings; close = close }

module _ (allowed : List AttributeName) (close : ℕ) (before : List Setting) (x : Setting) (after : List Setting) (e : OilFault) where
  unknown_to : attribute_named allowed x.name ≡ None → Among (fault.UnknownAttribute x.name_place ∷ []) e → ScopeFault (scope allowed (before ++ x ∷ after) close) e
  unknown_to n (inr h) = absurd h
  unknown_to n (inl h) = subst (ScopeFault (scope allowed (before ++ x ∷ after) close)) h (record {
    setting = x;
    stands = among_right before (x ∷ after) x (inl refl);
    unknown = n;
    place_is = refl;
  })

  twice_to : (p : AttributeName) → Names allowed x.name p → (b : Bool) → was_set (presence_of p) before x ≡ b → Among (cond b (fault.Twice x.name_place ∷ []) []) e → ScopeFault (scope allowed (before ++ x ∷ after) close) e
  twice_to p n false t h = absurd h
  twice_to p n true t (inr h) = absurd h
  twice_to p n true t (inl h) =
      let first = any_is (λ y. is_again (presence_of p) y x) before t in
      let again = again_is (presence_of p) first.0 x first.2 in
      subst (ScopeFault (scope allowed (before ++ x ∷ after) close)) h (record {
        attribute = p;
        names = n;
        front = before;
        second = x;
        back = after;
        parts = refl;
        first = first.0;
        stands = first.1;
        again = again;
        place_is = refl;
      })

  range_to : (p : AttributeName) → Names allowed x.name p → (b : Bool) → accepts p x.value ≡ b → Among (cond b [] (fault.Range x.value_place ∷ [])) e → ScopeFault (scope allowed (before ++ x ∷ after) close) e
  range_to p n true t h = absurd h
  range_to p n false t (inr h) = absurd h
  range_to p n false t (inl h) = subst (ScopeFault (scope allowed (before ++ x ∷ after) close)) h (record {
    setting = x;
    stands = among_right before (x ∷ after) x (inl refl);
    attribute = p;
    names = n;
    refused = λ yes. absurd cc;
    place_is = refl;
  })

  faults_to : (o : Option AttributeName) → attribute_named allowed x.name ≡ o → Among (faults_by o before x) e → ScopeFault (scope allowed (before ++ x ∷ after) close) e
  faults_to None n h = unknown_to n h
  faults_to (Some p) n h =
      elim (among_either (cond (was_set (presence_of p) before x) (fault.Twice x.name_place ∷ []) []) (cond (accepts p x.value) [] (fault.Range x.value_place ∷ [])) e h) [
        | inl a ↦ twice_to p n (was_set (presence_of p) before x) refl a
        | inr b ↦ range_to p n (accepts p x.value) refl b
      ]

settings_to : (allowed : List AttributeName) (close : ℕ) (before xs : List Setting) (e : OilFault) → Among (settings_faults allowed before xs) e → ScopeFault (scope allowed (before ++ xs) close) e
settings_to allowed close before [] e h = absurd h
settings_to allowed close before (x ∷ xs) e h =
    elim (among_either (setting_faults allowed before x) (settings_faults allowed (before ++ x ∷ []) xs) e h) [
      | inl a ↦ faults_to allowed close before x xs e (attribute_named allowed x.name) refl a
      | inr b ↦ subst (λ (s : List Setting). ScopeFault (scope allowed s close) e) (append_assoc before (x ∷ []) xs) (settings_to allowed close (before ++ x ∷ []) xs e b)
    ]

-- ---- a fault that stands is in the list

among_settings : (allowed : List AttributeName) (before xs : List Setting) (x : Setting) (e : OilFault) → Among xs x → ((earlier : List Setting) → Among (setting_faults allowed earlier x) e) → Among (settings_faults allowed before xs) e
among_settings allowed before [] x e h f = absurd h
among_settings allowed before (y ∷ xs) x e (inl same) f =
    among_left (setting_faults allowed before y) (settings_faults allowed (before ++ y ∷ []) xs) e (subst (λ (z : Setting). Among (setting_faults allowed before z) e) (sym same) (f before))
among_settings allowed before (y ∷ xs) x e (inr h) f =
    among_right (setting_faults allowed before y) (settings_faults allowed (before ++ y ∷ []) xs) e (among_settings allowed (before ++ y ∷ []) xs x e h f)

split_settings : (allowed : List AttributeName) (before front : List Setting) (y : Setting) (back : List Setting) (e : OilFault) → Among (setting_faults allowed (before ++ front) y) e → Among (settings_faults allowed before (front ++ y ∷ back)) e
split_settings allowed before [] y back e h =
    among_left (setting_faults allowed before y) (settings_faults allowed (before ++ y ∷ []) back) e (subst (λ (s : List Setting). Among (setting_faults allowed s y) e) (append-nil before) h)
split_settings allowed before (x ∷ front) y back e h =
    among_right (setting_faults allowed before x) (settings_faults allowed (before ++ x ∷ []) (front ++ y ∷ back)) e
    (split_settings allowed (before ++ x ∷ []) front y back e (subst (λ (s : List Setting). Among (setting_faults allowed s y) e) (sym (append_assoc before (x ∷ []) front)) h))

unknown_from : (allowed : List AttributeName) (settings : List Setting) (close place : ℕ) → IsUnknown (scope allowed settings close) place → Among (settings_faults allowed [] settings) (fault.UnknownAttribute place)
unknown_from allowed settings close place u =
    among_settings allowed [] settings u.setting (fault.UnknownAttribute place) u.stands
    (λ before. rw u.unknown (inl (ap (λ (q : ℕ). fault.UnknownAttribute q) (sym u.place_is))))

refused_from : (b : Bool) (p q : ℕ) → ¬ IsTrue b → q ≡ p → Among (cond b [] (fault.Range p ∷ [])) (fault.Range q)
refused_from true p q h e = absurd (h refl)
refused_from false p q h e = inl (ap (λ (r : ℕ). fault.Range r) (sym e))

range_from : (allowed : List AttributeName) (settings : List Setting) (close place : ℕ) → IsOutOfRange (scope allowed settings close) place → Among (settings_faults allowed [] settings) (fault.Range place)
range_from allowed settings close place u =
    among_settings allowed [] settings u.setting (fault.Range place) u.stands
    (λ before. rw u.names
    (among_right (cond (was_set (presence_of u.attribute) before u.setting) (fault.Twice u.setting.name_place ∷ []) []) (cond (accepts u.attribute u.setting.value) [] (fault.Range u.setting.value_place ∷ [])) (fault.Range place)
    (refused_from (accepts u.attribute u.setting.value) u.setting.value_place place u.refused u.place_is)))

twice_from : (allowed : List AttributeName) (settings : List Setting) (close place : ℕ) → IsRepeated (scope allowed settings close) place → Among (settings_faults allowed [] settings) (fault.Twice place)
twice_from allowed settings close place u =
    let was : was_set (presence_of u.attribute) u.front u.second ≡ true =
    any_by (λ y. is_again (presence_of u.attribute) y u.second) u.front u.first u.stands (is_again_by (presence_of u.attribute) u.first u.second u.again.0 u.again.1) in
    subst (λ (s : List Setting). Among (settings_faults allowed [] s) (fault.Twice place)) (sym u.parts)
    (split_settings allowed [] u.front u.second u.back (fault.Twice place)
    (rw (u.names, was) (inl (ap (λ (q : ℕ). fault.Twice q) (sym u.place_is)))))

-- ---- what is lacking

not_set : (settings : List Setting) (p : AttributeName) → is_set settings p ≡ false → (x : Setting) → Among settings x → ¬ (word_of p ≡ x.name)
not_set settings p h x among e = let yes = any_by (λ y. bytes_eq (word_of p) y.name) settings x among ((bytes_eq-Decides (word_of p) x.name).1 e) in absurd cc

is_not_set : (settings : List Setting) (p : AttributeName) → ((x : Setting) → Among settings x → ¬ (word_of p ≡ x.name)) → (b : Bool) → is_set settings p ≡ b → b ≡ false
is_not_set settings p h false e = refl
is_not_set settings p h true e = let x = any_is (λ y. bytes_eq (word_of p) y.name) settings e in absurd (h x.0 x.1 ((bytes_eq-Decides (word_of p) x.0.name).0 x.2))

-- one that is lacking
record Lacks (ps : List AttributeName) (settings : List Setting) (close : ℕ) (e : OilFault) : Type 0 where
  attribute : AttributeName
  allowed : Among ps attribute
  test : (may_lack (presence_of attribute) || is_set settings attribute) ≡ false
  fault_is : fault.Missing close ≡ e

lacks_here : (p : AttributeName) (ps : List AttributeName) (settings : List Setting) (close : ℕ) (e : OilFault) (b : Bool) → (may_lack (presence_of p) || is_set settings p) ≡ b → Among (cond b [] (fault.Missing close ∷ [])) e → Lacks (p ∷ ps) settings close e
lacks_here p ps settings close e true t h = absurd h
lacks_here p ps settings close e false t (inr h) = absurd h
lacks_here p ps settings close e false t (inl h) = record { attribute = p; allowed = inl refl; test = t; fault_is = h }

lacking_to : (ps : List AttributeName) (settings : List Setting) (close : ℕ) (e : OilFault) → Among (lacking_faults ps settings close) e → Lacks ps settings close e
lacking_to [] settings close e h = absurd h
lacking_to (p ∷ ps) settings close e h =
    elim (among_either (cond (may_lack (presence_of p) || is_set settings p) [] (fault.Missing close ∷ [])) (lacking_faults ps settings close) e h) [
      | inl a ↦ lacks_here p ps settings close e (may_lack (presence_of p) || is_set settings p) refl a
      | inr b ↦ let l = lacking_to ps settings close e b in record { attribute = l.attribute; allowed = inr l.allowed; test = l.test; fault_is = l.fault_is }
    ]

lacking_from : (ps : List AttributeName) (settings : List Setting) (close : ℕ) (p : AttributeName) → Among ps p → (may_lack (presence_of p) || is_set settings p) ≡ false → Among (lacking_faults ps settings close) (fault.Missing close)
lacking_from [] settings close p h t = absurd h
lacking_from (q ∷ ps) settings close p (inl same) t = rw (ap (λ (x : AttributeName). may_lack (presence_of x) || is_set settings x) same ∙ t) (inl refl)
lacking_from (q ∷ ps) settings close p (inr h) t =
    among_right (cond (may_lack (presence_of q) || is_set settings q) [] (fault.Missing close ∷ [])) (lacking_faults ps settings close) (fault.Missing close) (lacking_from ps settings close p h t)

-- ---- the whole list

scope_to : (allowed : List AttributeName) (settings : List Setting) (close : ℕ) (e : OilFault) → Among (scope_faults allowed settings close) e → ScopeFault (scope allowed settings close) e
scope_to allowed settings close e h =
    elim (among_either (settings_faults allowed [] settings) (lacking_faults allowed settings close) e h) [
      | inl a ↦ settings_to allowed close [] settings e a
      | inr b ↦
          let l = lacking_to allowed settings close e b in
          let t = or_parts (may_lack (presence_of l.attribute)) (is_set settings l.attribute) l.test in
          subst (ScopeFault (scope allowed settings close)) l.fault_is (record {
            attribute = l.attribute;
            allowed = l.allowed;
            needed = t.0;
            missing = not_set settings l.attribute t.1;
            place_is = refl;
          })
    ]

missing_from : (allowed : List AttributeName) (settings : List Setting) (close place : ℕ) → IsMissing (scope allowed settings close) place → Among (lacking_faults allowed settings close) (fault.Missing place)
missing_from allowed settings close place u =
    let b = is_not_set settings u.attribute u.missing (is_set settings u.attribute) refl in
    subst (λ (q : ℕ). Among (lacking_faults allowed settings close) (fault.Missing q)) (sym u.place_is) (lacking_from allowed settings close u.attribute u.allowed (rw (u.needed, b) refl))

scope_from : (allowed : List AttributeName) (settings : List Setting) (close : ℕ) (e : OilFault) → ScopeFault (scope allowed settings close) e → Among (scope_faults allowed settings close) e
scope_from allowed settings close (fault.UnknownAttribute p) h = among_left (settings_faults allowed [] settings) (lacking_faults allowed settings close) (fault.UnknownAttribute p) (unknown_from allowed settings close p h)
scope_from allowed settings close (fault.Missing p) h = among_right (settings_faults allowed [] settings) (lacking_faults allowed settings close) (fault.Missing p) (missing_from allowed settings close p h)
scope_from allowed settings close (fault.Twice p) h = among_left (settings_faults allowed [] settings) (lacking_faults allowed settings close) (fault.Twice p) (twice_from allowed settings close p h)
scope_from allowed settings close (fault.Range p) h = among_left (settings_faults allowed [] settings) (lacking_faults allowed settings close) (fault.Range p) (range_from allowed settings close p h)
scope_from allowed settings close fault.Memory h = absurd h
scope_from allowed settings close (fault.Token p) h = absurd h
scope_from allowed settings close (fault.Syntax p) h = absurd h

-- the first of the list is the first fault of the settings
pub first_of_scope : (allowed : List AttributeName) (settings : List Setting) (close : ℕ) → Finds (ScopeFault (scope allowed settings close)) (first_of_all None (scope_faults allowed settings close))
first_of_scope allowed settings close = Finds_listed (ScopeFault (scope allowed settings close)) (scope_faults allowed settings close) (scope_to allowed settings close) (scope_from allowed settings close)

-- ---- blocks

pub block_none : (allowed : List AttributeName) (a : Attribute) → attribute_named allowed a.setting.name ≡ None → (g : OilFault) → ¬ BlockFault allowed a g
block_none allowed a n g h = let named = h.1 in absurd cc

some_same : (p q : AttributeName) → Some p ≡ Some q → p ≡ q
some_same p q e = cc

pub block_some : (allowed : List AttributeName) (a : Attribute) (p : AttributeName) (r : Option OilFault) → attribute_named allowed a.setting.name ≡ Some p → Finds (ScopeFault (block_scope p a a.block)) r → Finds (BlockFault allowed a) r
block_some allowed a p r n h = Finds_map (ScopeFault (block_scope p a a.block)) (BlockFault allowed a)
    (λ e s. (p, n, s))
    (λ e b. let same : b.0 ≡ p = some_same b.0 p (sym b.1 ∙ n) in subst (λ (q : AttributeName). ScopeFault (block_scope q a a.block) e) same b.2) r h
