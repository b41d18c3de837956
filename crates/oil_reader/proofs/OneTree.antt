-- Tokens spell one tree, a text has one fault, and no text has both a tree and a fault.
use Rattle.std.proofs.Common.{◌≡◌, ℕ, List, [], ◌∷◌, ◌++◌, Option, Some, None, refl, sym, ap, ◌∙◌, subst, inl, inr, append_assoc}
use Rattle.std.specs.Prelude.{codes}
use Rattle.std.proofs.lemmas.List.{append-nil}
use Rattle.oil_reader.specs.declared.syntax.Kind.{Kind}
use Rattle.oil_reader.specs.declared.syntax.Kind.TheVariants as kind
use Rattle.oil_reader.specs.declared.tokens.Sign.TheVariants.{Open, Close, Equals, Semicolon}
use Rattle.oil_reader.specs.Tokens.{Word, Name, Version, Mark, Lexeme}
use Rattle.oil_reader.specs.Grammar.{Value, Named, Numeric, Setting, Block, Attribute, Object, File, at, value_word, kind_word, IsSetting, IsSub, IsBlock, IsAttribute, IsBody, IsObject, IsHeader, IsFile, AreEach, Begins, IsUnexpected, IsSyntaxFault}
use Rattle.oil_reader.specs.Machine.{kind_of}

-- two readings of the same tokens are the same thing before the same rest
pub record Same {X : Type 0} (x y : X) (rest others : List Lexeme) : Type 0 where
  pub thing : x ≡ y
  pub behind : rest ≡ others

value_same : (v w : Value) → value_word v ≡ value_word w → v ≡ w
value_same (Named s) (Named t) e = cc
value_same (Named s) (Numeric n) e = absurd cc
value_same (Numeric m) (Named t) e = absurd cc
value_same (Numeric m) (Numeric n) e = cc

head_same : (t u : Lexeme) (ts us : List Lexeme) → t ∷ ts ≡ u ∷ us → (t ≡ u) × (ts ≡ us)
head_same t u ts us e = (cc, cc)

first_same : (a b : ℕ) (v w : Word) (rest others : List Lexeme) → at a v ∷ rest ≡ at b w ∷ others → (a ≡ b) × (v ≡ w) × (rest ≡ others)
first_same a b v w rest others h =
    let e = head_same (at a v) (at b w) rest others h in
    (ap (λ (x : Lexeme). x.place) e.0, ap (λ (x : Lexeme). x.word) e.0, e.1)

name_same : (s t : List ℕ) → Name s ≡ Name t → s ≡ t
name_same s t e = cc

setting_by : (s t : Setting) → s.name ≡ t.name → s.name_place ≡ t.name_place → s.value ≡ t.value → s.value_place ≡ t.value_place → s ≡ t
setting_by s t a b c d =
    let x : Setting = record { name = s.name; name_place = s.name_place; value = s.value; value_place = s.value_place } in
    let y : Setting = record { name = t.name; name_place = t.name_place; value = t.value; value_place = t.value_place } in
    let e : x ≡ y = cc in
    e

block_by : (b c : Block) → b.settings ≡ c.settings → b.close ≡ c.close → b ≡ c
block_by b c p q =
    let x : Block = record { settings = b.settings; close = b.close } in
    let y : Block = record { settings = c.settings; close = c.close } in
    let e : x ≡ y = cc in
    e

attribute_by : (a b : Attribute) → a.setting ≡ b.setting → a.block ≡ b.block → a.«end» ≡ b.«end» → a ≡ b
attribute_by a b p q r =
    let x : Attribute = record { setting = a.setting; block = a.block; «end» = a.«end» } in
    let y : Attribute = record { setting = b.setting; block = b.block; «end» = b.«end» } in
    let e : x ≡ y = cc in
    e

object_by : (o p : Object) → o.kind ≡ p.kind → o.name ≡ p.name → o.place ≡ p.place → o.attributes ≡ p.attributes → o.«end» ≡ p.«end» → o ≡ p
object_by o p a b c d f =
    let x : Object = record { kind = o.kind; name = o.name; place = o.place; attributes = o.attributes; «end» = o.«end» } in
    let y : Object = record { kind = p.kind; name = p.name; place = p.place; attributes = p.attributes; «end» = p.«end» } in
    let e : x ≡ y = cc in
    e

file_by : (f g : File) → f.cpu ≡ g.cpu → f.objects ≡ g.objects → f.close ≡ g.close → f ≡ g
file_by f g a b c =
    let x : File = record { cpu = f.cpu; objects = f.objects; close = f.close } in
    let y : File = record { cpu = g.cpu; objects = g.objects; close = g.close } in
    let e : x ≡ y = cc in
    e

setting_same : (s t : Setting) (ts rest others : List Lexeme) → IsSetting s ts rest → IsSetting t ts others → Same s t rest others
setting_same s t ts rest others p q =
    let one = first_same s.name_place t.name_place (Name s.name) (Name t.name) (at p.equals (Mark Equals) ∷ at s.value_place (value_word s.value) ∷ rest) (at q.equals (Mark Equals) ∷ at t.value_place (value_word t.value) ∷ others) (sym p.spelled ∙ q.spelled) in
    let two = first_same p.equals q.equals (Mark Equals) (Mark Equals) (at s.value_place (value_word s.value) ∷ rest) (at t.value_place (value_word t.value) ∷ others) one.2 in
    let three = first_same s.value_place t.value_place (value_word s.value) (value_word t.value) rest others two.2 in
    record { thing = setting_by s t (name_same s.name t.name one.1) one.0 (value_same s.value t.value three.1) three.0; behind = three.2 }

sub_same : (s t : Setting) (ts rest others : List Lexeme) → IsSub s ts rest → IsSub t ts others → Same s t rest others
sub_same s t ts rest others p q =
    let h = setting_same s t ts _ _ p.setting q.setting in
    record { thing = h.thing; behind = (first_same p.semicolon q.semicolon (Mark Semicolon) (Mark Semicolon) rest others h.behind).2 }

-- no thing of the kind begins with the sign
abbrev NoneStarts : {X : Type 0} → (X → List Lexeme → List Lexeme → Type 0) → Type 0
NoneStarts {X} Is = (x : X) (place : ℕ) (ts rest : List Lexeme) → Is x (at place (Mark Close) ∷ ts) rest → ⊥

no_setting : (s : Setting) (place : ℕ) (ts rest : List Lexeme) → IsSetting s (at place (Mark Close) ∷ ts) rest → ⊥
no_setting s place ts rest p = let h = (first_same place s.name_place (Mark Close) (Name s.name) ts (at p.equals (Mark Equals) ∷ at s.value_place (value_word s.value) ∷ rest) p.spelled).1 in absurd cc

no_sub : NoneStarts IsSub
no_sub s place ts rest p = no_setting s place ts _ p.setting

no_attribute : NoneStarts IsAttribute
no_attribute a place ts rest p = no_setting a.setting place ts _ p.setting

no_object : NoneStarts IsObject
no_object o place ts rest p = let h = (first_same place p.kind.place (Mark Close) (Name (kind_word o.kind)) ts (at o.place (Name o.name) ∷ p.middle) p.kind.spelled).1 in absurd cc

-- things one after the other, up to the closing brace
module _ {X : Type 0} (Is : X → List Lexeme → List Lexeme → Type 0) (none : NoneStarts Is) (one : (x y : X) (ts rest others : List Lexeme) → Is x ts rest → Is y ts others → Same x y rest others) where
  each_same : (xs ys : List X) (a b : ℕ) (ts rest others : List Lexeme) → AreEach Is xs ts (at a (Mark Close) ∷ rest) → AreEach Is ys ts (at b (Mark Close) ∷ others)
      → (xs ≡ ys) × (a ≡ b) × (rest ≡ others)
  each_same [] [] a b ts rest others p q = let h = first_same a b (Mark Close) (Mark Close) rest others (sym p ∙ q) in (refl, h.0, h.2)
  each_same [] (y ∷ ys) a b ts rest others p q = absurd (none y a rest q.0 (subst (λ (us : List Lexeme). Is y us q.0) p q.1))
  each_same (x ∷ xs) [] a b ts rest others p q = absurd (none x b others p.0 (subst (λ (us : List Lexeme). Is x us p.0) q p.1))
  each_same (x ∷ xs) (y ∷ ys) a b ts rest others p q =
      let h = one x y ts p.0 q.0 p.1 q.1 in
      let more = each_same xs ys a b p.0 rest others p.2 (subst (λ (us : List Lexeme). AreEach Is ys us (at b (Mark Close) ∷ others)) (sym h.behind) q.2) in
      let thing = h.thing in
      let things = more.0 in
      (cc, more.1, more.2)

block_same : (b c : Option Block) (x y : ℕ) (ts rest others : List Lexeme) → IsBlock b ts (at x (Mark Semicolon) ∷ rest) → IsBlock c ts (at y (Mark Semicolon) ∷ others)
    → (b ≡ c) × (x ≡ y) × (rest ≡ others)
block_same None None x y ts rest others p q = let h = first_same x y (Mark Semicolon) (Mark Semicolon) rest others (sym p ∙ q) in (refl, h.0, h.2)
block_same None (Some c) x y ts rest others p q = let h = (first_same x q.«open» (Mark Semicolon) (Mark Open) rest q.inner (sym p ∙ q.spelled)).1 in absurd cc
block_same (Some b) None x y ts rest others p q = let h = (first_same y p.«open» (Mark Semicolon) (Mark Open) others p.inner (sym q ∙ p.spelled)).1 in absurd cc
block_same (Some b) (Some c) x y ts rest others p q =
    let first = first_same p.«open» q.«open» (Mark Open) (Mark Open) p.inner q.inner (sym p.spelled ∙ q.spelled) in
    let h = each_same IsSub no_sub sub_same b.settings c.settings b.close c.close p.inner _ _ p.subs
    (subst (λ (us : List Lexeme). AreEach IsSub c.settings us (at c.close (Mark Close) ∷ at y (Mark Semicolon) ∷ others)) (sym first.2) q.subs) in
    let last = first_same x y (Mark Semicolon) (Mark Semicolon) rest others h.2 in
    (ap (λ (d : Block). Some d) (block_by b c h.0 h.1), last.0, last.2)

attribute_same : (a b : Attribute) (ts rest others : List Lexeme) → IsAttribute a ts rest → IsAttribute b ts others → Same a b rest others
attribute_same a b ts rest others p q =
    let s = setting_same a.setting b.setting ts p.middle q.middle p.setting q.setting in
    let h = block_same a.block b.block a.«end» b.«end» p.middle rest others p.block (subst (λ (us : List Lexeme). IsBlock b.block us (at b.«end» (Mark Semicolon) ∷ others)) (sym s.behind) q.block) in
    record { thing = attribute_by a b s.thing h.0 h.1; behind = h.2 }

body_same : (xs ys : List Attribute) (a b : ℕ) (ts rest others : List Lexeme) → IsBody xs a ts rest → IsBody ys b ts others → (xs ≡ ys) × (a ≡ b) × (rest ≡ others)
body_same xs ys a b ts rest others (inl p) (inl q) =
    let h = first_same a b (Mark Semicolon) (Mark Semicolon) rest others (sym p.spelled ∙ q.spelled) in
    (p.none ∙ sym q.none, h.0, h.2)
body_same xs ys a b ts rest others (inl p) (inr q) = let h = (first_same a q.«open» (Mark Semicolon) (Mark Open) rest q.inner (sym p.spelled ∙ q.spelled)).1 in absurd cc
body_same xs ys a b ts rest others (inr p) (inl q) = let h = (first_same b p.«open» (Mark Semicolon) (Mark Open) others p.inner (sym q.spelled ∙ p.spelled)).1 in absurd cc
body_same xs ys a b ts rest others (inr p) (inr q) =
    let first = first_same p.«open» q.«open» (Mark Open) (Mark Open) p.inner q.inner (sym p.spelled ∙ q.spelled) in
    let h = each_same IsAttribute no_attribute attribute_same xs ys a b p.inner _ _ p.each
    (subst (λ (us : List Lexeme). AreEach IsAttribute ys us (at b (Mark Close) ∷ at q.semicolon (Mark Semicolon) ∷ others)) (sym first.2) q.each) in
    (h.0, h.1, (first_same p.semicolon q.semicolon (Mark Semicolon) (Mark Semicolon) rest others h.2).2)

-- ---- kinds, by their words

word_kind : (k : Kind) → kind_of (kind_word k) ≡ Some k
word_kind kind.Os = refl
word_kind kind.AppMode = refl
word_kind kind.Task = refl
word_kind kind.Isr = refl
word_kind kind.Resource = refl
word_kind kind.Event = refl
word_kind kind.Counter = refl
word_kind kind.Alarm = refl

kind_same : (j k : Kind) → kind_word j ≡ kind_word k → j ≡ k
kind_same j k e = let h = sym (word_kind j) ∙ ap kind_of e ∙ word_kind k in cc

object_same : (o p : Object) (ts rest others : List Lexeme) → IsObject o ts rest → IsObject p ts others → Same o p rest others
object_same o p ts rest others x y =
    let first = first_same x.kind.place y.kind.place (Name (kind_word o.kind)) (Name (kind_word p.kind)) (at o.place (Name o.name) ∷ x.middle) (at p.place (Name p.name) ∷ y.middle) (sym x.kind.spelled ∙ y.kind.spelled) in
    let second = first_same o.place p.place (Name o.name) (Name p.name) x.middle y.middle first.2 in
    let h = body_same o.attributes p.attributes o.«end» p.«end» x.middle rest others x.body (subst (λ (us : List Lexeme). IsBody p.attributes p.«end» us others) (sym second.2) y.body) in
    let kinds = kind_same o.kind p.kind (name_same (kind_word o.kind) (kind_word p.kind) first.1) in
    record { thing = object_by o p kinds (name_same o.name p.name second.1) second.0 h.0 h.1; behind = h.2 }

-- the same tokens behind a token
tail_same : (a b : ℕ) (v w : Word) (rest others : List Lexeme) → at a v ∷ rest ≡ at b w ∷ others → rest ≡ others
tail_same a b v w rest others h = (first_same a b v w rest others h).2

header_same : (c d : List ℕ) (ts rest others : List Lexeme) → IsHeader c ts rest → IsHeader d ts others → (c ≡ d) × (rest ≡ others)
header_same c d ts rest others p q =
    let h5 = tail_same p.p5 q.p5 (Name (codes "CPU")) (Name (codes "CPU")) _ _ (tail_same p.p4 q.p4 (Mark Semicolon) (Mark Semicolon) _ _ (tail_same p.p3 q.p3 Version Version _ _
    (tail_same p.p2 q.p2 (Mark Equals) (Mark Equals) _ _ (tail_same p.p1 q.p1 (Name (codes "OIL_VERSION")) (Name (codes "OIL_VERSION")) _ _ (sym p.spelled ∙ q.spelled))))) in
    let six = first_same p.p6 q.p6 (Name c) (Name d) (at p.p7 (Mark Open) ∷ rest) (at q.p7 (Mark Open) ∷ others) h5 in
    (name_same c d six.1, tail_same p.p7 q.p7 (Mark Open) (Mark Open) rest others six.2)

-- tokens spell one tree
pub tree_same : (f g : File) (ts : List Lexeme) → IsFile f ts → IsFile g ts → f ≡ g
tree_same f g ts p q =
    let header = header_same f.cpu g.cpu ts p.inner q.inner p.header q.header in
    let h = each_same IsObject no_object object_same f.objects g.objects f.close g.close p.inner _ _ p.objects
    (subst (λ (us : List Lexeme). AreEach IsObject g.objects us (at g.close (Mark Close) ∷ at q.semicolon (Mark Semicolon) ∷ [])) (sym header.1) q.objects) in
    file_by f g header.0 h.0 h.1

-- ---- one syntax fault

-- what begins with a beginning of a file is one
shorter_begins : (ts us : List Lexeme) → Begins (ts ++ us) → Begins ts
shorter_begins ts us b = (b.0, us ++ b.1, subst (IsFile b.0) (append_assoc ts us b.1) b.2)

-- of two splits of a list, one front is the other's, or begins it with the token behind
data Fronts (front : List Lexeme) (t : Lexeme) (other : List Lexeme) (u : Lexeme) : Type 0 where
  equal : t ≡ u → Fronts front t other u
  before : (more : List Lexeme) → other ≡ (front ++ t ∷ []) ++ more → Fronts front t other u
  behind : (more : List Lexeme) → front ≡ (other ++ u ∷ []) ++ more → Fronts front t other u

longer : (x : Lexeme) (front : List Lexeme) (t : Lexeme) (other : List Lexeme) (u : Lexeme) → Fronts front t other u → Fronts (x ∷ front) t (x ∷ other) u
longer x front t other u (equal e) = equal e
longer x front t other u (before more e) = before more (ap (λ (us : List Lexeme). x ∷ us) e)
longer x front t other u (behind more e) = behind more (ap (λ (us : List Lexeme). x ∷ us) e)

fronts : (front : List Lexeme) (t : Lexeme) (back : List Lexeme) (other : List Lexeme) (u : Lexeme) (rest : List Lexeme) → front ++ t ∷ back ≡ other ++ u ∷ rest → Fronts front t other u
fronts [] t back [] u rest e = equal (head_same t u back rest e).0
fronts [] t back (y ∷ other) u rest e = before other (ap (λ (x : Lexeme). x ∷ other) (sym (head_same t y back (other ++ u ∷ rest) e).0))
fronts (x ∷ front) t back [] u rest e = behind front (ap (λ (y : Lexeme). y ∷ front) (head_same x u (front ++ t ∷ back) rest e).0)
fronts (x ∷ front) t back (y ∷ other) u rest e =
    let h = head_same x y (front ++ t ∷ back) (other ++ u ∷ rest) e in
    subst (λ (z : Lexeme). Fronts (x ∷ front) t (z ∷ other) u) h.0 (longer x front t other u (fronts front t back other u rest h.1))

begins_up_to : (front : List Lexeme) (t : Lexeme) (back : List Lexeme) → Begins (front ++ t ∷ back) → Begins (front ++ t ∷ [])
begins_up_to front t back b = shorter_begins (front ++ t ∷ []) back (subst Begins (sym (append_assoc front (t ∷ []) back)) b)

-- all tokens begin no file where one of them is unexpected
unexpected_apart : (ts : List Lexeme) (p : ℕ) → IsUnexpected ts p → Begins ts → ⊥
unexpected_apart ts p h b = h.after (begins_up_to h.front h.token h.back (subst Begins h.parts b))

unexpected_same : (ts : List Lexeme) (p q : ℕ) → IsUnexpected ts p → IsUnexpected ts q → p ≡ q
unexpected_same ts p q a b =
    elim (fronts a.front a.token a.back b.front b.token b.back (sym a.parts ∙ b.parts)) [
      | equal e ↦ a.place ∙ ap (λ (x : Lexeme). x.place) e ∙ sym b.place
      | before more e ↦ absurd (a.after (shorter_begins (a.front ++ a.token ∷ []) more (subst Begins e b.before)))
      | behind more e ↦ absurd (b.after (shorter_begins (b.front ++ b.token ∷ []) more (subst Begins e a.before)))
    ]

pub syntax_same : (len : ℕ) (ts : List Lexeme) (p q : ℕ) → IsSyntaxFault len ts p → IsSyntaxFault len ts q → p ≡ q
syntax_same len ts p q (inl a) (inl b) = unexpected_same ts p q a b
syntax_same len ts p q (inl a) (inr b) = absurd (unexpected_apart ts p a b.begins)
syntax_same len ts p q (inr a) (inl b) = absurd (unexpected_apart ts q b a.begins)
syntax_same len ts p q (inr a) (inr b) = a.place ∙ sym b.place

-- tokens with a syntax fault spell no tree
pub syntax_apart : (len : ℕ) (ts : List Lexeme) (p : ℕ) (f : File) → IsSyntaxFault len ts p → IsFile f ts → ⊥
syntax_apart len ts p f (inl a) is = unexpected_apart ts p a (f, [], subst (IsFile f) (sym (append-nil ts)) is)
syntax_apart len ts p f (inr a) is = a.short f is
