-- Program texts: what the tokens of a text say, line by line.
use Rattle.std.specs.Prelude.{◌≡◌, ℕ, ◌+◌, Bool, List, [], ◌∷◌, take, drop, Option, Some, None, option_map, if◌then◌else◌}
use Rattle.osek_base.specs.Tokens.{Lexeme}
use Rattle.task_asm.specs.declared.program.ProgramKind.{ProgramKind}
use Rattle.task_asm.specs.declared.operands.Title.{Title}
use Rattle.task_asm.specs.declared.statements.Item.{Item as TheItem}
use Rattle.task_asm.specs.declared.tokens.Sign.TheVariants as sign
use Rattle.task_asm.specs.Tokens.{Symbol, Word, Directive, Mark, LineEnd}
use Rattle.task_asm.specs.Mnemonics.{mnemonic_of}
use Rattle.task_asm.specs.Lines.{Tokens, Written, instruction, one_title, is_mark, written_value}

-- a label; an instruction, unless its operands are faulty; a directive, unless no name alone follows; or none of them
pub data Item : Type 0 where
  Label : List ℕ → Item
  Instruction : Option Written → Item
  Program : ProgramKind → Option Title → Item
  Unknown : Item

-- with the place of its first token
pub record Statement : Type 0 where
  pub place : ℕ
  pub item : Item

abbrev pub is_line_end : Lexeme Symbol → Bool
is_line_end t = elim t.word [ LineEnd ↦ Bool.true | _ ↦ Bool.false ]

-- how many tokens stand before the line's end
abbrev pub line_len : Tokens → ℕ
line_len [] = 0
line_len (t ∷ ts) = if is_line_end t then 0 else line_len ts + 1

abbrev pub is_colon : Lexeme Symbol → Bool
is_colon t = elim t.word [ Mark s ↦ is_mark sign.Colon s | _ ↦ Bool.false ]

abbrev pub word_of : Lexeme Symbol → Option (List ℕ)
word_of t = elim t.word [ Word w ↦ Some w | _ ↦ None ]

-- the label at the front: a word and a colon
abbrev pub label_at : Tokens → Option (List ℕ)
label_at [] = None
label_at (t ∷ []) = None
label_at (t ∷ u ∷ ts) = if is_colon u then word_of t else None

-- what a line's first token behind its labels says, with the tokens behind it on the line
abbrev pub head : Lexeme Symbol → Tokens → Item
head t line = elim t.word [
  | Word w ↦ elim (mnemonic_of w) [ Some m ↦ Instruction (instruction m line) | None ↦ Unknown ]
  | Directive kind ↦ Program kind (one_title line)
  | _ ↦ Unknown
]

-- the tokens say these statements: any number of labels on a line, and then what its next token says
pub data Reads : Tokens → List Statement → Type 0 where
  ends : Reads [] []
  new_line : (t : Lexeme Symbol) {ts : Tokens} {es : List Statement} → is_line_end t ≡ Bool.true → Reads ts es → Reads (t ∷ ts) es
  label : (t u : Lexeme Symbol) {ts : Tokens} {es : List Statement} (w : List ℕ) → label_at (t ∷ u ∷ ts) ≡ Some w → Reads ts es
      → Reads (t ∷ u ∷ ts) (record { place = t.place; item = Label w } ∷ es)
  heads : (t : Lexeme Symbol) {ts : Tokens} {es : List Statement} → is_line_end t ≡ Bool.false → label_at (t ∷ ts) ≡ None
      → Reads (drop (line_len ts) ts) es
      → Reads (t ∷ ts) (record { place = t.place; item = head t (take (line_len ts) ts) } ∷ es)

-- ---- what the code holds

abbrev pub item_value : TheItem → Item
item_value (TheItem.Label w) = Label w.now
item_value (TheItem.Instruction o) = Instruction (option_map written_value o)
item_value (TheItem.Program kind o) = Program kind o
item_value TheItem.Unknown = Unknown
