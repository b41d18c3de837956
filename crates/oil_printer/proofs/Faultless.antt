-- Tests that a tree has no fault, whatever its places are.
use Rattle.std.proofs.Common.{◌≡◌, List, [], ◌∷◌, ◌++◌, map, Option, Some, None, Bool, true, false, not, ◌&&◌, ◌||◌, refl, sym, ap, ◌∙◌, subst, inl, inr}
use Rattle.std.specs.List.{list_all, list_any}
use Rattle.std.specs.Str.{bytes_eq}
use Rattle.std.proofs.lemmas.Slice.Eq.{bytes_eq-Decides}
use Rattle.oil_reader.specs.declared.fault.OilFault.{OilFault}
use Rattle.oil_reader.specs.declared.fault.OilFault.TheVariants as fault
use Rattle.oil_reader.specs.declared.syntax.Kind.{Kind}
use Rattle.oil_reader.specs.declared.syntax.Kind.TheVariants as kind
use Rattle.oil_reader.specs.declared.table.AttributeName.{AttributeName}
use Rattle.oil_reader.specs.Grammar.{Value, Setting, Block, Attribute, Object, File}
use Rattle.oil_reader.specs.Table.{word_of, presence_of, may_lack, attributes_of, accepts, block_of, is_one_of}
use Rattle.oil_reader.specs.Attributes.{Among, Scope, attribute_named, BlockFault, block_scope, reserved, OneObjectFault, ObjectFault, Lacks, IsSoundScope, IsSoundFile}
use Rattle.oil_reader.specs.Checks.{is_again, is_set, same_kind, clashes, has_kind}
use Rattle.oil_reader.specs.Meaning.{block_settings, settings_in}
use Rattle.oil_reader.proofs.Firsts.{among_right}
use Rattle.oil_reader.proofs.Listed.{any_is, any_by, is_again_by}
use Rattle.oil_reader.proofs.ObjectsListed.{same_kind_is, is_clash, reserved_none}
use Rattle.std.proofs.lemmas.Bool.{and_parts, not-true}

-- ---- the tests

abbrev pub is_right : Option AttributeName → Value → Bool
is_right None v = false
is_right (Some p) v = accepts p v

abbrev pub repeats_by : Option AttributeName → Setting → Setting → Bool
repeats_by None x y = false
repeats_by (Some p) x y = is_again (presence_of p) x y

-- y may not stand behind x
abbrev pub repeats : List AttributeName → Setting → Setting → Bool
repeats allowed x y = repeats_by (attribute_named allowed y.name) x y

-- nothing of the list clashes with what stands behind it
abbrev pub all_apart : {X : Type 0} → (X → X → Bool) → List X → Bool
all_apart clash [] = true
all_apart clash (x ∷ xs) = not (list_any (clash x) xs) && all_apart clash xs

abbrev pub are_right : List AttributeName → List Setting → Bool
are_right allowed xs = list_all (λ x. is_right (attribute_named allowed x.name) x.value) xs

abbrev pub are_set : List AttributeName → List Setting → Bool
are_set allowed xs = list_all (λ p. may_lack (presence_of p) || is_set xs p) allowed

abbrev pub is_scope_right : List AttributeName → List Setting → Bool
is_scope_right allowed xs = are_right allowed xs && (all_apart (repeats allowed) xs && are_set allowed xs)

abbrev pub is_block_right_by : Option AttributeName → Attribute → Bool
is_block_right_by None a = true
is_block_right_by (Some p) a = is_scope_right (block_of p a.setting.value) (block_settings a.block)

abbrev pub is_block_right : List AttributeName → Attribute → Bool
is_block_right allowed a = is_block_right_by (attribute_named allowed a.setting.name) a

abbrev pub is_object_right : Object → Bool
is_object_right o =
    is_scope_right (attributes_of o.kind) (settings_in o)
    && (list_all (is_block_right (attributes_of o.kind)) o.attributes && not (is_one_of (reserved o.kind) o.name))

abbrev pub is_file_right : File → Bool
is_file_right f =
    list_all is_object_right f.objects && (all_apart clashes f.objects && (has_kind kind.Os f.objects && has_kind kind.AppMode f.objects))

-- ---- lists

pub all_at : {X : Type 0} (test : X → Bool) (xs : List X) → list_all test xs ≡ true → (x : X) → Among xs x → test x ≡ true
all_at test [] h x among = absurd among
all_at test (y ∷ xs) h x (inl same) = sym (ap test same) ∙ (and_parts (test y) (list_all test xs) h).0
all_at test (y ∷ xs) h x (inr among) = all_at test xs (and_parts (test y) (list_all test xs) h).1 x among

not_both : (b : Bool) → not b ≡ true → b ≡ true → ⊥
not_both true h k = absurd cc
not_both false h k = absurd cc

apart_at : {X : Type 0} (clash : X → X → Bool) (front : List X) (second : X) (back : List X) (first : X)
    → all_apart clash (front ++ second ∷ back) ≡ true → Among front first → clash first second ≡ true → ⊥
apart_at clash [] second back first h among e = absurd among
apart_at {X} clash (x ∷ front) second back first h (inl same) e =
    let t = and_parts (not (list_any (clash x) (front ++ second ∷ back))) (all_apart clash (front ++ second ∷ back)) h in
    let found = any_by (clash x) (front ++ second ∷ back) second (among_right front (second ∷ back) second (inl refl)) (ap (λ (y : X). clash y second) same ∙ e) in
    not_both (list_any (clash x) (front ++ second ∷ back)) t.0 found
apart_at clash (x ∷ front) second back first h (inr among) e =
    apart_at clash front second back first (and_parts (not (list_any (clash x) (front ++ second ∷ back))) (all_apart clash (front ++ second ∷ back)) h).1 among e

-- ---- settings that stand together

module _ (s : Scope) (h : is_scope_right s.allowed s.settings ≡ true) where
  right : are_right s.allowed s.settings ≡ true
  right = (and_parts (are_right s.allowed s.settings) (all_apart (repeats s.allowed) s.settings && are_set s.allowed s.settings) h).0

  rest : (all_apart (repeats s.allowed) s.settings && are_set s.allowed s.settings) ≡ true
  rest = (and_parts (are_right s.allowed s.settings) (all_apart (repeats s.allowed) s.settings && are_set s.allowed s.settings) h).1

  apart : all_apart (repeats s.allowed) s.settings ≡ true
  apart = (and_parts (all_apart (repeats s.allowed) s.settings) (are_set s.allowed s.settings) rest).0

  set : are_set s.allowed s.settings ≡ true
  set = (and_parts (all_apart (repeats s.allowed) s.settings) (are_set s.allowed s.settings) rest).1

  right_at : (x : Setting) → Among s.settings x → is_right (attribute_named s.allowed x.name) x.value ≡ true
  right_at x among = all_at (λ x. is_right (attribute_named s.allowed x.name) x.value) s.settings right x among

  or_set : (a b : Bool) → (a || b) ≡ true → a ≡ false → b ≡ true
  or_set true b k e = absurd cc
  or_set false b k e = k

  pub scope_sound : IsSoundScope s
  scope_sound fault.Memory q = q
  scope_sound (fault.Token p) q = q
  scope_sound (fault.Syntax p) q = q
  scope_sound (fault.UnknownAttribute p) q =
      let yes = right_at q.setting q.stands in
      let no = q.unknown in
      absurd (let wrong : is_right None q.setting.value ≡ true = subst (λ (o : Option AttributeName). is_right o q.setting.value ≡ true) no yes in cc)
  scope_sound (fault.Missing p) q =
      let yes = all_at (λ p. may_lack (presence_of p) || is_set s.settings p) s.allowed set q.attribute q.allowed in
      let found = any_is (λ x. bytes_eq (word_of q.attribute) x.name) s.settings (or_set (may_lack (presence_of q.attribute)) (is_set s.settings q.attribute) yes q.needed) in
      q.missing found.0 found.1 ((bytes_eq-Decides (word_of q.attribute) found.0.name).0 found.2)
  scope_sound (fault.Twice p) q =
      let again = is_again_by (presence_of q.attribute) q.first q.second q.again.0 q.again.1 in
      let clash : repeats s.allowed q.first q.second ≡ true = ap (λ (o : Option AttributeName). repeats_by o q.first q.second) q.names ∙ again in
      apart_at (repeats s.allowed) q.front q.second q.back q.first (subst (λ (xs : List Setting). all_apart (repeats s.allowed) xs ≡ true) q.parts apart) q.stands clash
  scope_sound (fault.Range p) q =
      q.refused (subst (λ (o : Option AttributeName). is_right o q.setting.value ≡ true) q.names (right_at q.setting q.stands))

-- ---- blocks and objects

block_scope_sound : (p : AttributeName) (a : Attribute) (b : Option Block) → is_scope_right (block_of p a.setting.value) (block_settings b) ≡ true → IsSoundScope (block_scope p a b)
block_scope_sound p a None h = scope_sound (block_scope p a None) h
block_scope_sound p a (Some b) h = scope_sound (block_scope p a (Some b)) h

block_sound : (allowed : List AttributeName) (a : Attribute) → is_block_right allowed a ≡ true → (e : OilFault) → ¬ BlockFault allowed a e
block_sound allowed a h e q =
    block_scope_sound q.0 a a.block (subst (λ (o : Option AttributeName). is_block_right_by o a ≡ true) q.1 h) e q.2

object_sound : (o : Object) → is_object_right o ≡ true → (e : OilFault) → ¬ OneObjectFault o e
object_sound o h e q =
    let allowed = attributes_of o.kind in
    let t = and_parts (is_scope_right (attributes_of o.kind) (settings_in o)) (list_all (is_block_right (attributes_of o.kind)) o.attributes && not (is_one_of (reserved o.kind) o.name)) h in
    let u = and_parts (list_all (is_block_right (attributes_of o.kind)) o.attributes) (not (is_one_of (reserved o.kind) o.name)) t.1 in
    elim q [
      | inl attribute ↦ elim attribute [
        | inl scope ↦ scope_sound (record { allowed = attributes_of o.kind; settings = map (λ a. a.setting) o.attributes; close = o.«end» }) t.0 e scope
        | inr block ↦ block_sound (attributes_of o.kind) block.0 (all_at (is_block_right (attributes_of o.kind)) o.attributes u.0 block.0 block.1) e block.2
      ]
      | inr name ↦ reserved_none o (not-true (is_one_of (reserved o.kind) o.name) u.1) e name
    ]

-- ---- files

has_some : (f : File) (k : Kind) → has_kind k f.objects ≡ true → ¬ Lacks f k
has_some f k h lacks = let x = any_is (λ o. same_kind o.kind k) f.objects h in lacks x.0 x.1 (same_kind_is x.0.kind k x.2)

objects_sound : (f : File) → all_apart clashes f.objects ≡ true → has_kind kind.Os f.objects ≡ true → has_kind kind.AppMode f.objects ≡ true → (e : OilFault) → ¬ ObjectFault f e
objects_sound f alone os mode fault.Memory q = q
objects_sound f alone os mode (fault.Token p) q = q
objects_sound f alone os mode (fault.Syntax p) q = q
objects_sound f alone os mode (fault.UnknownAttribute p) q = q
objects_sound f alone os mode (fault.Range p) q = q
objects_sound f alone os mode (fault.Missing p) q = elim q.missing [ inl a ↦ has_some f kind.Os os a | inr b ↦ has_some f kind.AppMode mode b ]
objects_sound f alone os mode (fault.Twice p) q =
    apart_at clashes q.front q.second q.back q.first (subst (λ (xs : List Object). all_apart clashes xs ≡ true) q.parts alone) q.stands (is_clash q.first q.second q.kinds q.same)

-- a tree that passes the tests has no fault
pub file_sound : (f : File) → is_file_right f ≡ true → IsSoundFile f
file_sound f h e q =
    let t = and_parts (list_all is_object_right f.objects) (all_apart clashes f.objects && (has_kind kind.Os f.objects && has_kind kind.AppMode f.objects)) h in
    let u = and_parts (all_apart clashes f.objects) (has_kind kind.Os f.objects && has_kind kind.AppMode f.objects) t.1 in
    let v = and_parts (has_kind kind.Os f.objects) (has_kind kind.AppMode f.objects) u.1 in
    elim q [
      | inl object ↦ objects_sound f u.0 v.0 v.1 e object
      | inr one ↦ object_sound one.0 (all_at is_object_right f.objects t.0 one.0 one.1) e one.2
    ]
