-- The machine goes over what the grammar allows.
use Rattle.std.proofs.Common.{◌≡◌, ℕ, List, [], ◌∷◌, ◌++◌, Option, Some, None, Bool, true, false, cond, ◌⊎◌, refl, ap, ◌∙◌, inl, inr}
use Rattle.std.specs.Str.{bytes_eq}
use Rattle.std.proofs.lemmas.Slice.Eq.{bytes_eq-Decides}
use Rattle.oil_reader.specs.declared.syntax.Kind.{Kind}
use Rattle.oil_reader.specs.declared.syntax.Kind.TheVariants as kind
use Rattle.oil_reader.specs.declared.tokens.Sign.TheVariants.{Semicolon}
use Rattle.oil_reader.specs.Tokens.{Name, Mark, Lexeme}
use Rattle.oil_reader.specs.Grammar.{Value, Named, Numeric, Setting, Block, Attribute, Object, File, at, value_word, kind_word, IsSub, IsBlock, IsAttribute, IsBody, IsObject, IsHeader, IsFile, AreEach}
use Rattle.oil_reader.specs.Machine.{Symbol, AnyName, AnyValue, Only, Objects, Body, Attributes, Rest, Subs, refusal, the_file, the_header, kind_of}
use Rattle.std.specs.Prelude.{codes}

-- what holds of each kind holds of any
pub each_kind : (P : Kind → Type 0) → P kind.Os → P kind.AppMode → P kind.Task → P kind.Isr → P kind.Resource → P kind.Event → P kind.Counter → P kind.Alarm → (k : Kind) → P k
each_kind P os mode task isr resource event counter alarm kind.Os = os
each_kind P os mode task isr resource event counter alarm kind.AppMode = mode
each_kind P os mode task isr resource event counter alarm kind.Task = task
each_kind P os mode task isr resource event counter alarm kind.Isr = isr
each_kind P os mode task isr resource event counter alarm kind.Resource = resource
each_kind P os mode task isr resource event counter alarm kind.Event = event
each_kind P os mode task isr resource event counter alarm kind.Counter = counter
each_kind P os mode task isr resource event counter alarm kind.Alarm = alarm

value_passes : (k : List Symbol) (len p : ℕ) (v : Value) (rest : List Lexeme) → refusal (AnyValue ∷ k) len (at p (value_word v) ∷ rest) ≡ refusal k len rest
value_passes k len p (Named s) rest = refl
value_passes k len p (Numeric n) rest = refl

-- ---- a word that names a kind is the kind's

chosen : (b : Bool) (x k : Kind) (o : Option Kind) → cond b (Some x) o ≡ Some k → ((b ≡ true) × (x ≡ k)) ⊎ (o ≡ Some k)
chosen true x k o e = inl (refl, cc)
chosen false x k o e = inr e

pub kind_spelled : (w : List ℕ) (k : Kind) → kind_of w ≡ Some k → w ≡ kind_word k
kind_spelled w k e =
    elim (chosen (bytes_eq w (codes "OS")) kind.Os k _ e) [
      | inl h ↦ (bytes_eq-Decides w (codes "OS")).0 h.0 ∙ ap kind_word h.1
      | inr e2 ↦ elim (chosen (bytes_eq w (codes "APPMODE")) kind.AppMode k _ e2) [
        | inl h ↦ (bytes_eq-Decides w (codes "APPMODE")).0 h.0 ∙ ap kind_word h.1
        | inr e3 ↦ elim (chosen (bytes_eq w (codes "TASK")) kind.Task k _ e3) [
          | inl h ↦ (bytes_eq-Decides w (codes "TASK")).0 h.0 ∙ ap kind_word h.1
          | inr e4 ↦ elim (chosen (bytes_eq w (codes "ISR")) kind.Isr k _ e4) [
            | inl h ↦ (bytes_eq-Decides w (codes "ISR")).0 h.0 ∙ ap kind_word h.1
            | inr e5 ↦ elim (chosen (bytes_eq w (codes "RESOURCE")) kind.Resource k _ e5) [
              | inl h ↦ (bytes_eq-Decides w (codes "RESOURCE")).0 h.0 ∙ ap kind_word h.1
              | inr e6 ↦ elim (chosen (bytes_eq w (codes "EVENT")) kind.Event k _ e6) [
                | inl h ↦ (bytes_eq-Decides w (codes "EVENT")).0 h.0 ∙ ap kind_word h.1
                | inr e7 ↦ elim (chosen (bytes_eq w (codes "COUNTER")) kind.Counter k _ e7) [
                  | inl h ↦ (bytes_eq-Decides w (codes "COUNTER")).0 h.0 ∙ ap kind_word h.1
                  | inr e8 ↦ elim (chosen (bytes_eq w (codes "ALARM")) kind.Alarm k _ e8) [
                    | inl h ↦ (bytes_eq-Decides w (codes "ALARM")).0 h.0 ∙ ap kind_word h.1
                    | inr e9 ↦ absurd cc
                  ]
                ]
              ]
            ]
          ]
        ]
      ]
    ]

-- a list of things, up to and with the sign behind it
pub each_passes : {X : Type 0} (Is : X → List Lexeme → List Lexeme → Type 0) (s : Symbol) (k : List Symbol) (len : ℕ)
    → ((x : X) (ts rest : List Lexeme) → Is x ts rest → refusal (s ∷ k) len ts ≡ refusal (s ∷ k) len rest)
    → (xs : List X) (ts rest : List Lexeme) → AreEach Is xs ts rest → refusal (s ∷ k) len ts ≡ refusal (s ∷ k) len rest
each_passes Is s k len one [] ts rest h = ap (refusal (s ∷ k) len) h
each_passes Is s k len one (x ∷ xs) ts rest h = one x ts h.0 h.1 ∙ each_passes Is s k len one xs h.0 rest h.2

pub sub_passes : (k : List Symbol) (len : ℕ) (s : Setting) (ts rest : List Lexeme) → IsSub s ts rest → refusal (Subs ∷ k) len ts ≡ refusal (Subs ∷ k) len rest
sub_passes k len s ts rest h =
    ap (refusal (Subs ∷ k) len) h.setting.spelled ∙ value_passes (Only Semicolon ∷ Subs ∷ k) len s.value_place s.value (at h.semicolon (Mark Semicolon) ∷ rest)

block_passes : (k : List Symbol) (len p : ℕ) (b : Option Block) (ts rest : List Lexeme) → IsBlock b ts (at p (Mark Semicolon) ∷ rest) → refusal (Rest ∷ k) len ts ≡ refusal k len rest
block_passes k len p None ts rest h = ap (refusal (Rest ∷ k) len) h
block_passes k len p (Some b) ts rest h =
    ap (refusal (Rest ∷ k) len) h.spelled ∙ each_passes IsSub Subs (Only Semicolon ∷ k) len (sub_passes (Only Semicolon ∷ k) len) b.settings h.inner _ h.subs

pub attribute_passes : (k : List Symbol) (len : ℕ) (a : Attribute) (ts rest : List Lexeme) → IsAttribute a ts rest → refusal (Attributes ∷ k) len ts ≡ refusal (Attributes ∷ k) len rest
attribute_passes k len a ts rest h =
    ap (refusal (Attributes ∷ k) len) h.setting.spelled ∙ value_passes (Rest ∷ Attributes ∷ k) len a.setting.value_place a.setting.value h.middle
    ∙ block_passes (Attributes ∷ k) len a.«end» a.block h.middle rest h.block

body_passes : (k : List Symbol) (len : ℕ) (xs : List Attribute) (p : ℕ) (ts rest : List Lexeme) → IsBody xs p ts rest → refusal (Body ∷ k) len ts ≡ refusal k len rest
body_passes k len xs p ts rest (inl h) = ap (refusal (Body ∷ k) len) h.spelled
body_passes k len xs p ts rest (inr h) =
    ap (refusal (Body ∷ k) len) h.spelled ∙ each_passes IsAttribute Attributes (Only Semicolon ∷ k) len (attribute_passes (Only Semicolon ∷ k) len) xs h.inner _ h.each

object_kind : (k : List Symbol) (len p : ℕ) (o : Kind) (rest : List Lexeme) → refusal (Objects ∷ k) len (at p (Name (kind_word o)) ∷ rest) ≡ refusal (AnyName ∷ Body ∷ Objects ∷ k) len rest
object_kind k len p o rest =
    each_kind (λ j. refusal (Objects ∷ k) len (at p (Name (kind_word j)) ∷ rest) ≡ refusal (AnyName ∷ Body ∷ Objects ∷ k) len rest) refl refl refl refl refl refl refl refl o

pub object_passes : (k : List Symbol) (len : ℕ) (o : Object) (ts rest : List Lexeme) → IsObject o ts rest → refusal (Objects ∷ k) len ts ≡ refusal (Objects ∷ k) len rest
object_passes k len o ts rest h =
    ap (refusal (Objects ∷ k) len) h.kind.spelled ∙ object_kind k len h.kind.place o.kind (at o.place (Name o.name) ∷ h.middle)
    ∙ body_passes (Objects ∷ k) len o.attributes o.«end» h.middle rest h.body

-- the whole of a file is gone over
pub file_passes : (len : ℕ) (f : File) (ts : List Lexeme) → IsFile f ts → refusal the_file len ts ≡ None
file_passes len f ts h =
    ap (refusal the_file len) h.header.spelled ∙ each_passes IsObject Objects (Only Semicolon ∷ []) len (object_passes (Only Semicolon ∷ []) len) f.objects h.inner _ h.objects

-- the header is gone over
pub header_passes : (k : List Symbol) (len : ℕ) (cpu : List ℕ) (ts rest : List Lexeme) → IsHeader cpu ts rest → refusal (the_header ++ k) len ts ≡ refusal k len rest
header_passes k len cpu ts rest h = ap (refusal (the_header ++ k) len) h.spelled
