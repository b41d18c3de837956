-- A machine for the grammar: what may follow, as a list of symbols, each of which takes one token first.
-- The public contracts don't name it: `proofs/Language.antt` joins it to the grammar.
use Rattle.std.specs.Prelude.{◌≡◌, ℕ, List, [], ◌∷◌, ◌++◌, Bool, true, false, if◌then◌else◌, Option, Some, None, codes}
use Rattle.std.specs.Str.{bytes_eq}
use Rattle.oil_reader.specs.declared.tokens.Sign.{Sign}
use Rattle.oil_reader.specs.declared.tokens.Sign.TheVariants.{Open, Close, Equals, Semicolon}
use Rattle.oil_reader.specs.declared.syntax.Kind.{Kind}
use Rattle.oil_reader.specs.declared.syntax.Kind.TheVariants as kind
use Rattle.oil_reader.specs.declared.fault.OilFault.{OilFault}
use Rattle.oil_reader.specs.declared.fault.OilFault.TheVariants as fault
use Rattle.oil_reader.specs.Tokens.{Word, Name, Number, Version, Mark, Lexeme}

pub data Symbol : Type 0 where
  Keyword : List ℕ → Symbol
  AnyName : Symbol
  AnyKind : Symbol
  AnyValue : Symbol
  TheVersion : Symbol
  Only : Sign → Symbol
  -- objects up to and with a closing brace
  Objects : Symbol
  -- what follows an object's name
  Body : Symbol
  -- attributes up to and with a closing brace
  Attributes : Symbol
  -- what follows an attribute's value
  Rest : Symbol
  -- block attributes up to and with a closing brace
  Subs : Symbol

abbrev pub kind_of : List ℕ → Option Kind
kind_of w =
    if bytes_eq w (codes "OS") then Some kind.Os
    else (if bytes_eq w (codes "APPMODE") then Some kind.AppMode
    else (if bytes_eq w (codes "TASK") then Some kind.Task
    else (if bytes_eq w (codes "ISR") then Some kind.Isr
    else (if bytes_eq w (codes "RESOURCE") then Some kind.Resource
    else (if bytes_eq w (codes "EVENT") then Some kind.Event
    else (if bytes_eq w (codes "COUNTER") then Some kind.Counter
    else (if bytes_eq w (codes "ALARM") then Some kind.Alarm
    else None)))))))

abbrev pub same_sign : Sign → Sign → Bool
same_sign Open Open = true
same_sign Close Close = true
same_sign Equals Equals = true
same_sign Semicolon Semicolon = true
same_sign _ _ = false

-- these symbols, behind a word that names a kind
abbrev pub after_kind : Option Kind → List Symbol → Option (List Symbol)
after_kind None k = None
after_kind (Some _) k = Some k

-- what is still to come of a symbol behind its first token, where it may begin with it
abbrev pub step : Symbol → Word → Option (List Symbol)
step (Keyword w) (Name v) = if bytes_eq v w then Some [] else None
step AnyName (Name v) = Some []
step AnyKind (Name v) = after_kind (kind_of v) []
step AnyValue (Name v) = Some []
step AnyValue (Number n) = Some []
step TheVersion Version = Some []
step (Only s) (Mark r) = if same_sign s r then Some [] else None
step Objects (Mark Close) = Some []
step Objects (Name v) = after_kind (kind_of v) (AnyName ∷ Body ∷ Objects ∷ [])
step Body (Mark Semicolon) = Some []
step Body (Mark Open) = Some (Attributes ∷ Only Semicolon ∷ [])
step Attributes (Mark Close) = Some []
step Attributes (Name v) = Some (Only Equals ∷ AnyValue ∷ Rest ∷ Attributes ∷ [])
step Rest (Mark Semicolon) = Some []
step Rest (Mark Open) = Some (Subs ∷ Only Semicolon ∷ [])
step Subs (Mark Close) = Some []
step Subs (Name v) = Some (Only Equals ∷ AnyValue ∷ Only Semicolon ∷ Subs ∷ [])
step _ _ = None

abbrev pub the_header : List Symbol
the_header = Keyword (codes "OIL_VERSION") ∷ Only Equals ∷ TheVersion ∷ Only Semicolon ∷ Keyword (codes "CPU") ∷ AnyName ∷ Only Open ∷ []

abbrev pub the_file : List Symbol
the_file = the_header ++ (Objects ∷ Only Semicolon ∷ [])

abbrev pub after_step : Option (List Symbol) → ℕ → (List Symbol → Option ℕ) → Option ℕ
after_step None place goes_on = Some place
after_step (Some more) place goes_on = goes_on more

-- the first place at which the tokens are not what the symbols say, where there is one
abbrev pub refusal : List Symbol → ℕ → List Lexeme → Option ℕ
refusal [] len [] = None
refusal (s ∷ k) len [] = Some len
refusal [] len (t ∷ ts) = Some t.place
refusal (s ∷ k) len (t ∷ ts) = after_step (step s t.word) t.place (λ more. refusal (more ++ k) len ts)

-- the answer of a function that reads these symbols, where it refuses
abbrev pub Refuses : List Symbol → ℕ → List Lexeme → OilFault → Type 0
Refuses symbols len ts fault.Memory = Unit {0}
Refuses symbols len ts (fault.Syntax p) = (k : List Symbol) → refusal (symbols ++ k) len ts ≡ Some p
Refuses symbols len ts _ = ⊥

-- the answer of a function that reads these symbols and no more
abbrev pub RefusesAll : List Symbol → ℕ → List Lexeme → OilFault → Type 0
RefusesAll symbols len ts fault.Memory = Unit {0}
RefusesAll symbols len ts (fault.Syntax p) = refusal symbols len ts ≡ Some p
RefusesAll symbols len ts _ = ⊥
