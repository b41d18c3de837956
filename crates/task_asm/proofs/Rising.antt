-- The places of tokens rise along a text, and so do those of what they say.
use Rattle.std.proofs.Common.{◌≡◌, ◌≢◌, subst, ℕ, zero, suc, ◌+◌, ◌<◌, ◌≤◌, Bool, true, false, List, [], ◌∷◌, length, take, drop, get_or, Option, Some, None, refl, arith, inl, inr}
use Rattle.std.specs.Prelude.{IfSome, IsTrue, if◌then◌else◌}
use Rattle.std.specs.Option.{option_map}
use Rattle.osek_base.specs.Words.{IsRun, is_word_byte}
use Rattle.osek_base.specs.Names.{is_proper_name}
use Rattle.osek_base.specs.Tokens.{Lexeme, Lexes}
use Rattle.osek_base.specs.Tokens.Lexes.{ends as text_ends, passes, takes}
use Rattle.osek_base.specs.declared.instr.Plain.{Plain}
use Rattle.osek_base.proofs.TokenLemmas.{line_some}
use Rattle.task_asm.specs.declared.mnemonic.Mnemonic.{Mnemonic}
use Rattle.task_asm.specs.declared.program.NamedInstr.{NamedInstr}
use Rattle.task_asm.specs.declared.operands.Title.{Title}
use Rattle.task_asm.specs.declared.tokens.Sign.TheVariants as sign
use Rattle.task_asm.specs.declared.tokens.Class.{Class}
use Rattle.task_asm.specs.declared.tokens.Class.TheVariants as class
use Rattle.task_asm.specs.Tokens.{Symbol, Word, Number, Directive, Mark, LineEnd, IsPiece, IsPieceOf, class_of}
use Rattle.task_asm.specs.Mnemonics.{PlainMnemonic, mnemonic_of}
use Rattle.task_asm.specs.Lines.{Tokens, Taken, Label, Written, Ready, Jump, JumpIf, after, first, ended, mark_of, a_mark, register_of, a_register, next_register, label_of, a_label, next_label, one_label, register_and_number, two_registers, three_registers, service_instruction, control_instruction, plain_instruction, instruction, title_of, one_title}
use Rattle.task_asm.specs.Statements.{Statement, Item, Reads, head, line_len}
use Rattle.task_asm.specs.Statements.Reads.{ends, new_line, label, heads}

-- ---- tokens

run_some : (bytes : List ℕ) (n : ℕ) → 0 < length bytes → IsTrue (is_word_byte (get_or bytes 0 0)) → IsRun bytes n → 0 < n
run_some bytes zero some word run = absurd (run.longest some word)
run_some bytes (suc n) some word run = omega arith

letter_begins : (b : ℕ) → class_of b ≡ class.Letter → IsTrue (is_word_byte b)
letter_begins b e = grind (arith)

digit_begins : (b : ℕ) → class_of b ≡ class.Digit → IsTrue (is_word_byte b)
digit_begins b e = grind (arith)

comment_begins : (b : ℕ) → class_of b ≡ class.Semicolon → b ≢ 10
comment_begins b e is = let semicolon : class_of 10 ≡ class.Semicolon = subst (λ (n : ℕ). class_of n ≡ class.Semicolon) is e in absurd cc

-- a piece has a byte at least
piece_by : (k : Class) (bytes : List ℕ) (n : ℕ) (t : Option Symbol) → class_of (get_or bytes 0 0) ≡ k → 0 < length bytes → IsPieceOf k bytes n t → 0 < n
piece_by class.Letter bytes n t e some p = run_some bytes n some (letter_begins (get_or bytes 0 0) e) p.0
piece_by class.Digit bytes n t e some p = run_some bytes n some (digit_begins (get_or bytes 0 0) e) p.0
piece_by class.Blank bytes n t e some p = omega (arith, p.0)
piece_by class.LineEnd bytes n t e some p = omega (arith, p.0)
piece_by class.Semicolon bytes n t e some p = line_some bytes n some (comment_begins (get_or bytes 0 0) e) p.0
piece_by class.Dot bytes n t e some p = elim p [ inl d ↦ omega (arith, d.0) | inr d ↦ omega (arith, d.0) ]
piece_by (class.Mark s) bytes n t e some p = omega (arith, p.0)
piece_by class.Other bytes n t e some p = absurd p

piece_some : (bytes : List ℕ) (n : ℕ) (t : Option Symbol) → IsPiece bytes n t → 0 < n
piece_some bytes n t p = piece_by (class_of (get_or bytes 0 0)) bytes n t refl p.0 p.1

-- each token stands from the place on, and behind the one before it
abbrev pub TokensRise : ℕ → Tokens → Type 0
TokensRise q [] = Unit {0}
TokensRise q (t ∷ ts) = (q ≤ t.place) × TokensRise (t.place + 1) ts

tokens_from : (p q : ℕ) (ts : Tokens) → p ≤ q → TokensRise q ts → TokensRise p ts
tokens_from p q [] le h = tt
tokens_from p q (t ∷ ts) le h = (omega (arith, h.0), h.1)

pub lexes_rise : {text : List ℕ} {p : ℕ} {ts : Tokens} → Lexes IsPiece text p ts → TokensRise p ts
lexes_rise (text_ends e) = tt
lexes_rise {text} {p} {ts} (passes n piece more) = tokens_from p (p + n) ts (omega arith) (lexes_rise more)
lexes_rise {text} {p} (takes n {w} {ts} piece more) =
    (omega arith, tokens_from (p + 1) (p + n) ts (omega (arith, piece_some (drop p text) n (Some w) piece)) (lexes_rise more))

-- ---- the operands of a line

-- from a place on and before another
abbrev pub Inside : ℕ → ℕ → ℕ → Type 0
Inside q r p = (q ≤ p) × (p < r)

abbrev pub AreInside : ℕ → ℕ → Tokens → Type 0
AreInside q r [] = Unit {0}
AreInside q r (t ∷ ts) = Inside q r t.place × AreInside q r ts

inside_from : (p q r : ℕ) (ts : Tokens) → p ≤ q → AreInside q r ts → AreInside p r ts
inside_from p q r [] le h = tt
inside_from p q r (t ∷ ts) le h = ((omega (arith, h.0.0), h.0.1), inside_from p q r ts le h.1)

-- where tokens are cut, those before stand before those behind
record Cut (q : ℕ) (line rest : Tokens) : Type 0 where
  at : ℕ
  from : q ≤ at
  inside : AreInside q at line
  rise : TokensRise at rest

cut : (q : ℕ) (ts : Tokens) (n : ℕ) → TokensRise q ts → Cut q (take n ts) (drop n ts)
cut q ts zero h = record { at = q; from = omega arith; inside = tt; rise = h }
cut q [] (suc n) h = record { at = q; from = omega arith; inside = tt; rise = tt }
cut q (t ∷ ts) (suc n) h =
    let c = cut (t.place + 1) ts n h.1 in
    record {
      at = c.at;
      from = omega (arith, c.from, h.0);
      inside = ((h.0, omega (arith, c.from)), inside_from q (t.place + 1) c.at (take n ts) (omega (arith, h.0)) c.inside);
      rise = c.rise;
    }

module _ (q r : ℕ) where
  -- what was taken is so, and the tokens behind it stand there
  OnTaken : {X : Type 0} → (X → Type 0) → Option (Taken X) → Type 0
  OnTaken P None = Unit {0}
  OnTaken P (Some t) = P t.value × AreInside q r t.rest

  first_by : {X : Type 0} (P : X → Type 0) (ts : Tokens) (o : Option X) → ((x : X) → o ≡ Some x → P x) → AreInside q r ts
      → OnTaken P (option_map (λ x. let taken : Taken X = record { value = x; rest = ts } in taken) o)
  unfolding OnTaken
  first_by P ts None f h = tt
  first_by P ts (Some x) f h = (f x refl, h)

  first_on : {X : Type 0} (P : X → Type 0) (meaning : Lexeme Symbol → Option X) → ((t : Lexeme Symbol) (x : X) → Inside q r t.place → meaning t ≡ Some x → P x)
      → (ts : Tokens) → AreInside q r ts → OnTaken P (first meaning ts)
  unfolding OnTaken
  first_on P meaning f [] h = tt
  first_on P meaning f (t ∷ ts) h = first_by P ts (meaning t) (λ x e. f t x h.0 e) h.1

  after_on : {X Y : Type 0} (P : X → Type 0) (Q : Y → Type 0) (o : Option (Taken X)) (more : X → Tokens → Option (Taken Y))
      → ((x : X) (rest : Tokens) → P x → AreInside q r rest → OnTaken Q (more x rest)) → OnTaken P o → OnTaken Q (after o more)
  unfolding OnTaken
  after_on P Q None more f h = tt
  after_on P Q (Some t) more f h = f t.value t.rest h.0 h.1

  after_if : {X Y : Type 0} (P : X → Type 0) (Q : Y → Type 0) (o : Option (Taken X)) (more : X → Tokens → Option Y)
      → ((x : X) (rest : Tokens) → P x → AreInside q r rest → IfSome (more x rest) Q) → OnTaken P o → IfSome (after o more) Q
  unfolding OnTaken
  after_if P Q None more f h = tt
  after_if P Q (Some t) more f h = f t.value t.rest h.0 h.1

  ended_if : {X : Type 0} (Q : X → Type 0) (ts : Tokens) (x : X) → Q x → IfSome (ended ts x) Q
  ended_if Q [] x h = h
  ended_if Q (t ∷ ts) x h = tt

  abbrev Anything : {X : Type 0} → X → Type 0
  Anything x = Unit {0}

  abbrev LabelInside : Label → Type 0
  LabelInside l = Inside q r l.place

  abbrev TitleInside : Title → Type 0
  TitleInside t = Inside q r t.place

  label_by : (place : ℕ) (s : Symbol) (l : Label) → Inside q r place → label_of (record { place = place; word = s }) ≡ Some l → LabelInside l
  label_by place (Word w) l h e = let same : place ≡ l.place = cc in rw (← same) h
  label_by place (Number n) l h e = absurd cc
  label_by place (Directive kind) l h e = absurd cc
  label_by place (Mark s) l h e = absurd cc
  label_by place LineEnd l h e = absurd cc

  title_some : (place : ℕ) (w : List ℕ) (b : Bool) (t : Title) → (if b then Some (let x : Title = record { place = place; name = w } in x) else None) ≡ Some t → place ≡ t.place
  title_some place w true t e = cc
  title_some place w false t e = absurd cc

  title_by : (place : ℕ) (s : Symbol) (t : Title) → Inside q r place → title_of (record { place = place; word = s }) ≡ Some t → TitleInside t
  title_by place (Word w) t h e = let same = title_some place w (is_proper_name w) t e in rw (← same) h
  title_by place (Number n) t h e = absurd cc
  title_by place (Directive kind) t h e = absurd cc
  title_by place (Mark s) t h e = absurd cc
  title_by place LineEnd t h e = absurd cc

  mark_on : (s : _) (ts : Tokens) → AreInside q r ts → OnTaken Anything (a_mark s ts)
  mark_on s ts h = first_on Anything (mark_of s) (λ t x i e. tt) ts h

  register_on : (ts : Tokens) → AreInside q r ts → OnTaken Anything (a_register ts)
  register_on ts h = first_on Anything register_of (λ t x i e. tt) ts h

  label_on : (ts : Tokens) → AreInside q r ts → OnTaken LabelInside (a_label ts)
  label_on ts h = first_on LabelInside label_of (λ t l i e. label_by t.place t.word l i e) ts h

  next_register_on : (ts : Tokens) → AreInside q r ts → OnTaken Anything (next_register ts)
  next_register_on ts h = after_on Anything Anything (a_mark sign.Comma ts) (λ _ rest. a_register rest) (λ x rest p i. register_on rest i) (mark_on sign.Comma ts h)

  next_label_on : (ts : Tokens) → AreInside q r ts → OnTaken LabelInside (next_label ts)
  next_label_on ts h = after_on Anything LabelInside (a_mark sign.Comma ts) (λ _ rest. a_label rest) (λ x rest p i. label_on rest i) (mark_on sign.Comma ts h)

  one_label_if : (ts : Tokens) → AreInside q r ts → IfSome (one_label ts) LabelInside
  one_label_if ts h = after_if LabelInside LabelInside (a_label ts) (λ l rest. ended rest l) (λ l rest p i. ended_if LabelInside rest l p) (label_on ts h)

  pub title_if : (ts : Tokens) → AreInside q r ts → IfSome (one_title ts) TitleInside
  title_if ts h =
      after_if TitleInside TitleInside (first title_of ts) (λ x rest. ended rest x) (λ x rest p i. ended_if TitleInside rest x p)
      (first_on TitleInside title_of (λ t x i e. title_by t.place t.word x i e) ts h)

  -- the label that an instruction names stands there, if it names one
  abbrev pub OnLabel : Written → Type 0
  OnLabel (Ready i) = Unit {0}
  OnLabel (Jump l) = Inside q r l.place
  OnLabel (JumpIf test a b l) = Inside q r l.place

  ready_if : {X : Type 0} (f : X → NamedInstr) (o : Option X) → IfSome (option_map (λ x. Ready (f x)) o) OnLabel
  ready_if f None = tt
  ready_if f (Some x) = tt

  jump_if : (o : Option Label) → IfSome o LabelInside → IfSome (option_map Jump o) OnLabel
  jump_if None h = tt
  jump_if (Some l) h = h

  plain_if : (m : PlainMnemonic) (ts : Tokens) → AreInside q r ts → IfSome (plain_instruction m ts) OnLabel
  plain_if Plain.Nop ts h = ended_if OnLabel ts (Ready (NamedInstr.Plain Plain.Nop)) tt
  plain_if (Plain.Li d n) ts h = ready_if (λ o. NamedInstr.Plain (Plain.Li o.0 o.1)) (register_and_number ts)
  plain_if (Plain.Mov d a) ts h = ready_if (λ o. NamedInstr.Plain (Plain.Mov o.0 o.1)) (two_registers ts)
  plain_if (Plain.Compute operation d a b) ts h = ready_if (λ o. NamedInstr.Plain (Plain.Compute operation o.0 o.1 o.2)) (three_registers ts)
  plain_if (Plain.Ld d a) ts h = ready_if (λ o. NamedInstr.Plain (Plain.Ld o.0 o.1)) (two_registers ts)
  plain_if (Plain.St a b) ts h = ready_if (λ o. NamedInstr.Plain (Plain.St o.0 o.1)) (two_registers ts)
  plain_if (Plain.Jmp to) ts h = jump_if (one_label ts) (one_label_if ts h)
  plain_if (Plain.JumpIf test l r to) ts h =
      after_if Anything OnLabel (a_register ts) (λ a rest. after (next_register rest) (λ b rest. after (next_label rest) (λ l rest. ended rest (JumpIf test a b l))))
      (λ a rest p i. after_if Anything OnLabel (next_register rest) (λ b rest. after (next_label rest) (λ l rest. ended rest (JumpIf test a b l)))
      (λ b rest p i. after_if LabelInside OnLabel (next_label rest) (λ l rest. ended rest (JumpIf test a b l))
      (λ l rest p i. ended_if OnLabel rest (JumpIf test a b l) p) (next_label_on rest i)) (next_register_on rest i)) (register_on ts h)

  pub instruction_if : (m : Mnemonic) (ts : Tokens) → AreInside q r ts → IfSome (instruction m ts) OnLabel
  instruction_if (Mnemonic.Plain m) ts h = plain_if m ts h
  instruction_if (Mnemonic.Service m) ts h = ready_if NamedInstr.Service (service_instruction m ts)
  instruction_if (Mnemonic.Control m) ts h = ready_if NamedInstr.Control (control_instruction m ts)

-- ---- what the tokens say

-- the label or the title that an item names stands there, if it names one
abbrev pub OnName : ℕ → ℕ → Item → Type 0
OnName q r (Item.Label w) = Unit {0}
OnName q r (Item.Instruction o) = IfSome o (OnLabel q r)
OnName q r (Item.Program kind o) = IfSome o (λ t. Inside q r t.place)
OnName q r Item.Unknown = Unit {0}

-- the places of an statement stand from one on and before another, its own first
pub record Lies (x : Statement) (q r : ℕ) : Type 0 where
  pub from : q ≤ x.place
  pub before : x.place < r
  pub named : OnName (x.place + 1) r x.item

abbrev pub StatementsRise : ℕ → List Statement → Type 0
StatementsRise q [] = Unit {0}
StatementsRise q (x ∷ es) = (r : ℕ) × Lies x q r × StatementsRise r es

statements_from : (p q : ℕ) (es : List Statement) → p ≤ q → StatementsRise q es → StatementsRise p es
statements_from p q [] le h = tt
statements_from p q (x ∷ es) le h = (h.0, record { from = omega (arith, h.1.from); before = h.1.before; named = h.1.named }, h.2)

word_on : (q r : ℕ) (o : Option Mnemonic) (line : Tokens) → AreInside q r line
    → OnName q r (elim o [ Some m ↦ Item.Instruction (instruction m line) | None ↦ Item.Unknown ])
word_on q r None line h = tt
word_on q r (Some m) line h = instruction_if q r m line h

head_on : (q r place : ℕ) (s : Symbol) (line : Tokens) → AreInside q r line → OnName q r (head (record { place = place; word = s }) line)
head_on q r place (Word w) line h = word_on q r (mnemonic_of w) line h
head_on q r place (Directive kind) line h = title_if q r line h
head_on q r place (Number n) line h = tt
head_on q r place (Mark s) line h = tt
head_on q r place LineEnd line h = tt

pub reads_rise : {ts : Tokens} {es : List Statement} (q : ℕ) → Reads ts es → TokensRise q ts → StatementsRise q es
reads_rise q ends h = tt
reads_rise q (new_line t {es = es} e more) h = statements_from q (t.place + 1) es (omega (arith, h.0)) (reads_rise (t.place + 1) more h.1)
reads_rise q (label t u w l more) h =
    (u.place + 1, record { from = h.0; before = omega (arith, h.1.0); named = tt }, reads_rise (u.place + 1) more h.1.1)
reads_rise q (heads t {ts} e none more) h =
    let c = cut (t.place + 1) ts (line_len ts) h.1 in
    (c.at, record { from = h.0; before = omega (arith, c.from); named = head_on (t.place + 1) c.at t.place t.word (take (line_len ts) ts) c.inside }, reads_rise c.at more c.rise)
