-- OIL: standard objects. The faults of a file whose syntax is right: of attributes and of objects.
use Rattle.std.specs.Prelude.{◌≡◌, ℕ, ◌⊎◌, List, [], ◌∷◌, ◌++◌, map, Option, Some, None, false, IsTrue, codes}
use Rattle.oil_reader.specs.declared.fault.OilFault.{OilFault}
use Rattle.oil_reader.specs.declared.fault.OilFault.TheVariants as fault
use Rattle.oil_reader.specs.declared.syntax.Kind.TheVariants as kind
use Rattle.oil_reader.specs.declared.syntax.Kind.{Kind}
use Rattle.oil_reader.specs.declared.table.AttributeName.{AttributeName}
use Rattle.oil_reader.specs.Grammar.{Setting, Block, Attribute, Object, File}
use Rattle.std.specs.List.{find}
use Rattle.std.specs.Str.{bytes_eq}
use Rattle.oil_reader.specs.Table.{word_of, presence_of, is_list, may_lack, attributes_of, accepts, block_of}
use Rattle.oil_reader.specs.Order.{IsFirstFault}

-- x is one of the list
abbrev pub Among : {X : Type 0} → List X → X → Type 0
Among [] x = ⊥
Among (y ∷ ys) x = (y ≡ x) ⊎ Among ys x

-- settings that stand together, the attributes that may stand there, and the place that lacks one
pub record Scope : Type 0 where
  pub allowed : List AttributeName
  pub settings : List Setting
  pub close : ℕ

abbrev pub object_scope : Object → Scope
object_scope o = record { allowed = attributes_of o.kind; settings = map (λ a. a.setting) o.attributes; close = o.«end» }

-- the block behind a value; where there is none, the semicolon lacks what the value needs
abbrev pub block_scope : AttributeName → Attribute → Option Block → Scope
block_scope p a None = record { allowed = block_of p a.setting.value; settings = []; close = a.«end» }
block_scope p a (Some b) = record { allowed = block_of p a.setting.value; settings = b.settings; close = b.close }

-- the attribute of that word, where it is allowed
abbrev pub attribute_named : List AttributeName → List ℕ → Option AttributeName
attribute_named allowed word = find (λ p. bytes_eq (word_of p) word) allowed

-- the word names that attribute
abbrev pub Names : List AttributeName → List ℕ → AttributeName → Type 0
Names allowed word p = attribute_named allowed word ≡ Some p

-- ---- faults of settings that stand together

-- UnknownAttribute: an attribute that may not stand there, at its name
pub record IsUnknown (s : Scope) (place : ℕ) : Type 0 where
  pub setting : Setting
  pub stands : Among s.settings setting
  pub unknown : attribute_named s.allowed setting.name ≡ None
  pub place_is : place ≡ setting.name_place

-- Missing: one that has to stand there and doesn't, at the closing brace or semicolon
pub record IsMissing (s : Scope) (place : ℕ) : Type 0 where
  pub attribute : AttributeName
  pub allowed : Among s.allowed attribute
  pub needed : may_lack (presence_of attribute) ≡ false
  pub missing : (x : Setting) → Among s.settings x → ¬ (word_of attribute ≡ x.name)
  pub place_is : place ≡ s.close

-- an attribute stands again; a list attribute, with the same value
abbrev pub IsAgain : AttributeName → Setting → Setting → Type 0
IsAgain p x y = (x.name ≡ y.name) × (IsTrue (is_list (presence_of p)) → x.value ≡ y.value)

-- Twice: one that stands again, at its name there
pub record IsRepeated (s : Scope) (place : ℕ) : Type 0 where
  pub front : List Setting
  pub second : Setting
  pub back : List Setting
  pub parts : s.settings ≡ front ++ second ∷ back
  pub attribute : AttributeName
  pub names : Names s.allowed second.name attribute
  pub first : Setting
  pub stands : Among front first
  pub again : IsAgain attribute first second
  pub place_is : place ≡ second.name_place

-- Range: a value that its attribute doesn't take, at the value
pub record IsOutOfRange (s : Scope) (place : ℕ) : Type 0 where
  pub setting : Setting
  pub stands : Among s.settings setting
  pub attribute : AttributeName
  pub names : Names s.allowed setting.name attribute
  pub refused : ¬ IsTrue (accepts attribute setting.value)
  pub place_is : place ≡ setting.value_place

abbrev pub ScopeFault : Scope → OilFault → Type 0
ScopeFault s (fault.UnknownAttribute p) = IsUnknown s p
ScopeFault s (fault.Missing p) = IsMissing s p
ScopeFault s (fault.Twice p) = IsRepeated s p
ScopeFault s (fault.Range p) = IsOutOfRange s p
ScopeFault s _ = ⊥

-- a fault of some thing of a list
abbrev pub SomeFault : {X : Type 0} → (X → OilFault → Type 0) → List X → OilFault → Type 0
SomeFault {X} F xs e = (x : X) × Among xs x × F x e

-- a fault in the block behind a value
abbrev pub BlockFault : List AttributeName → Attribute → OilFault → Type 0
BlockFault allowed a e = (p : AttributeName) × Names allowed a.setting.name p × ScopeFault (block_scope p a a.block) e

-- a fault of an object's attributes
abbrev pub AttributeFault : Object → OilFault → Type 0
AttributeFault o e = ScopeFault (object_scope o) e ⊎ SomeFault (BlockFault (attributes_of o.kind)) o.attributes e

-- ---- faults of objects

-- Twice: an object of the name and kind of one before it, or a second OS, at its name
pub record IsSecondObject (f : File) (place : ℕ) : Type 0 where
  pub front : List Object
  pub second : Object
  pub back : List Object
  pub parts : f.objects ≡ front ++ second ∷ back
  pub first : Object
  pub stands : Among front first
  pub kinds : first.kind ≡ second.kind
  pub same : (first.kind ≡ kind.Os) ⊎ (first.name ≡ second.name)
  pub place_is : place ≡ second.place

-- the names that no object may have: INVALID and the registers
abbrev pub reserved_everywhere : List (List ℕ)
reserved_everywhere = codes "INVALID" ∷ codes "r0" ∷ codes "r1" ∷ codes "r2" ∷ codes "r3" ∷ codes "r4" ∷ codes "r5" ∷ codes "r6" ∷ codes "r7" ∷ []

-- those that no object of the kind may have
abbrev pub reserved : Kind → List (List ℕ)
reserved kind.Resource = codes "RES_SCHEDULER" ∷ reserved_everywhere
reserved _ = reserved_everywhere

-- Range: an object has such a name, at the name
abbrev pub ReservedFault : Object → OilFault → Type 0
ReservedFault o e = Among (reserved o.kind) o.name × (fault.Range o.place ≡ e)

-- there is no object of the kind
abbrev pub Lacks : File → Kind → Type 0
Lacks f k = (o : Object) → Among f.objects o → ¬ (o.kind ≡ k)

-- Missing: there is no OS or no APPMODE, at the CPU's closing brace
pub record LacksObject (f : File) (place : ℕ) : Type 0 where
  pub missing : Lacks f kind.Os ⊎ Lacks f kind.AppMode
  pub place_is : place ≡ f.close

abbrev pub ObjectFault : File → OilFault → Type 0
ObjectFault f (fault.Missing p) = LacksObject f p
ObjectFault f (fault.Twice p) = IsSecondObject f p
ObjectFault f _ = ⊥

-- a fault of one object
abbrev pub OneObjectFault : Object → OilFault → Type 0
OneObjectFault o e = AttributeFault o e ⊎ ReservedFault o e

-- ---- the fault that is answered

-- a fault that stands in the file
abbrev pub Stands : File → OilFault → Type 0
Stands f e = ObjectFault f e ⊎ SomeFault OneObjectFault f.objects e

-- what a check answers
abbrev pub Finds : (OilFault → Type 0) → Option OilFault → Type 0
Finds P None = (g : OilFault) → ¬ P g
Finds P (Some e) = IsFirstFault P e

-- ---- no fault

abbrev pub IsSoundScope : Scope → Type 0
IsSoundScope s = (e : OilFault) → ¬ ScopeFault s e

abbrev pub IsSoundObject : Object → Type 0
IsSoundObject o = (e : OilFault) → ¬ OneObjectFault o e

abbrev pub IsSoundFile : File → Type 0
IsSoundFile f = (e : OilFault) → ¬ Stands f e
