-- OIL: grammar. On lists of tokens: what is spelled by the tokens before a rest.
use Rattle.std.specs.Prelude.{◌≡◌, ℕ, ◌⊎◌, List, [], ◌∷◌, ◌++◌, Option, Some, None, codes}
use Rattle.oil_reader.specs.declared.tokens.Sign.{Sign}
use Rattle.oil_reader.specs.declared.tokens.Sign.TheVariants.{Open, Close, Equals, Semicolon}
use Rattle.oil_reader.specs.declared.syntax.Kind.{Kind}
use Rattle.oil_reader.specs.declared.syntax.Kind.TheVariants as kind
use Rattle.oil_reader.specs.Tokens.{Word, Name, Number, Version, Mark, Lexeme}

-- ---- trees, with the places that faults name

pub data Value : Type 0 where
  Named : List ℕ → Value
  Numeric : ℕ → Value

-- NAME = value
pub record Setting : Type 0 where
  pub name : List ℕ
  pub name_place : ℕ
  pub value : Value
  pub value_place : ℕ

-- what stands behind a value in braces, and the place of the closing brace
pub record Block : Type 0 where
  pub settings : List Setting
  pub close : ℕ

-- an attribute, and the place of its semicolon
pub record Attribute : Type 0 where
  pub setting : Setting
  pub block : Option Block
  pub «end» : ℕ

-- an object; its end is its closing brace, or without braces its semicolon
pub record Object : Type 0 where
  pub kind : Kind
  pub name : List ℕ
  pub place : ℕ
  pub attributes : List Attribute
  pub «end» : ℕ

-- a file, and the place of the CPU's closing brace
pub record File : Type 0 where
  pub cpu : List ℕ
  pub objects : List Object
  pub close : ℕ

-- ---- what spells them

abbrev pub at : ℕ → Word → Lexeme
at p w = record { place = p; word = w }

abbrev pub kind_word : Kind → List ℕ
kind_word kind.Os = codes "OS"
kind_word kind.AppMode = codes "APPMODE"
kind_word kind.Task = codes "TASK"
kind_word kind.Isr = codes "ISR"
kind_word kind.Resource = codes "RESOURCE"
kind_word kind.Event = codes "EVENT"
kind_word kind.Counter = codes "COUNTER"
kind_word kind.Alarm = codes "ALARM"

abbrev pub value_word : Value → Word
value_word (Named s) = Name s
value_word (Numeric n) = Number n

-- NAME "=" value
pub record IsSetting (s : Setting) (ts rest : List Lexeme) : Type 0 where
  pub equals : ℕ
  pub spelled : ts ≡ at s.name_place (Name s.name) ∷ at equals (Mark Equals) ∷ at s.value_place (value_word s.value) ∷ rest

-- the things of a list one after the other
abbrev pub AreEach : {X : Type 0} → (X → List Lexeme → List Lexeme → Type 0) → List X → List Lexeme → List Lexeme → Type 0
AreEach Is [] ts rest = ts ≡ rest
AreEach Is (x ∷ xs) ts rest = (middle : List Lexeme) × Is x ts middle × AreEach Is xs middle rest

-- sub = NAME "=" value ";"
pub record IsSub (s : Setting) (ts rest : List Lexeme) : Type 0 where
  pub semicolon : ℕ
  pub setting : IsSetting s ts (at semicolon (Mark Semicolon) ∷ rest)

-- "{" sub* "}"
pub record IsBraced (b : Block) (ts rest : List Lexeme) : Type 0 where
  pub «open» : ℕ
  pub inner : List Lexeme
  pub spelled : ts ≡ at «open» (Mark Open) ∷ inner
  pub subs : AreEach IsSub b.settings inner (at b.close (Mark Close) ∷ rest)

-- [ "{" sub* "}" ]
abbrev pub IsBlock : Option Block → List Lexeme → List Lexeme → Type 0
IsBlock None ts rest = ts ≡ rest
IsBlock (Some b) ts rest = IsBraced b ts rest

-- attr = NAME "=" value [ "{" sub* "}" ] ";"
pub record IsAttribute (a : Attribute) (ts rest : List Lexeme) : Type 0 where
  pub middle : List Lexeme
  pub setting : IsSetting a.setting ts middle
  pub block : IsBlock a.block middle (at a.«end» (Mark Semicolon) ∷ rest)

-- "{" attr* "}" ";"
pub record IsBracedBody (attributes : List Attribute) (close : ℕ) (ts rest : List Lexeme) : Type 0 where
  pub «open» : ℕ
  pub semicolon : ℕ
  pub inner : List Lexeme
  pub spelled : ts ≡ at «open» (Mark Open) ∷ inner
  pub each : AreEach IsAttribute attributes inner (at close (Mark Close) ∷ at semicolon (Mark Semicolon) ∷ rest)

-- ";" alone
pub record IsBareBody (attributes : List Attribute) (semicolon : ℕ) (ts rest : List Lexeme) : Type 0 where
  pub none : attributes ≡ []
  pub spelled : ts ≡ at semicolon (Mark Semicolon) ∷ rest

-- [ "{" attr* "}" ] ";"
abbrev pub IsBody : List Attribute → ℕ → List Lexeme → List Lexeme → Type 0
IsBody attributes «end» ts rest = IsBareBody attributes «end» ts rest ⊎ IsBracedBody attributes «end» ts rest

-- KIND
pub record IsKind (k : Kind) (ts rest : List Lexeme) : Type 0 where
  pub place : ℕ
  pub spelled : ts ≡ at place (Name (kind_word k)) ∷ rest

-- object = KIND NAME [ "{" attr* "}" ] ";"
pub record IsObject (o : Object) (ts rest : List Lexeme) : Type 0 where
  pub middle : List Lexeme
  pub kind : IsKind o.kind ts (at o.place (Name o.name) ∷ middle)
  pub body : IsBody o.attributes o.«end» middle rest

-- OIL_VERSION "=" "2.5"-string ";" CPU NAME "{"
pub record IsHeader (cpu : List ℕ) (ts rest : List Lexeme) : Type 0 where
  pub p1 : ℕ
  pub p2 : ℕ
  pub p3 : ℕ
  pub p4 : ℕ
  pub p5 : ℕ
  pub p6 : ℕ
  pub p7 : ℕ
  pub spelled : ts ≡ at p1 (Name (codes "OIL_VERSION")) ∷ at p2 (Mark Equals) ∷ at p3 Version ∷ at p4 (Mark Semicolon)
      ∷ at p5 (Name (codes "CPU")) ∷ at p6 (Name cpu) ∷ at p7 (Mark Open) ∷ rest

-- file = OIL_VERSION "=" "2.5"-string ";" CPU NAME "{" object* "}" ";"
pub record IsFile (f : File) (ts : List Lexeme) : Type 0 where
  pub inner : List Lexeme
  pub header : IsHeader f.cpu ts inner
  pub semicolon : ℕ
  pub objects : AreEach IsObject f.objects inner (at f.close (Mark Close) ∷ at semicolon (Mark Semicolon) ∷ [])

-- the list begins with the sign
abbrev pub StartsWith : Sign → List Lexeme → Type 0
StartsWith s [] = ⊥
StartsWith s (t ∷ ts) = t.word ≡ Mark s

-- ---- syntax faults

-- the tokens begin a file
abbrev pub Begins : List Lexeme → Type 0
Begins ts = (f : File) × (more : List Lexeme) × IsFile f (ts ++ more)

-- the first token such that the tokens up to and with it begin no file
pub record IsUnexpected (ts : List Lexeme) (p : ℕ) : Type 0 where
  pub front : List Lexeme
  pub token : Lexeme
  pub back : List Lexeme
  pub parts : ts ≡ front ++ token ∷ back
  pub place : p ≡ token.place
  pub before : Begins front
  pub after : ¬ Begins (front ++ token ∷ [])

-- all tokens together are only a beginning
pub record IsUnfinished (len : ℕ) (ts : List Lexeme) (p : ℕ) : Type 0 where
  pub place : p ≡ len
  pub begins : Begins ts
  pub short : (f : File) → ¬ IsFile f ts

abbrev pub IsSyntaxFault : ℕ → List Lexeme → ℕ → Type 0
IsSyntaxFault len ts p = IsUnexpected ts p ⊎ IsUnfinished len ts p
