-- A program text has one list of tokens, which says one list of statements; a text with programs has no fault.
use Rattle.std.proofs.Common.{◌≡◌, ℕ, Bool, true, false, List, ◌∷◌, take, Some, None, refl, sym, ap, ◌∙◌, subst, inl, inr, arith}
use Rattle.std.specs.Prelude.{if◌then◌else◌}
use Rattle.osek_base.specs.Tokens.{Lexeme}
use Rattle.osek_base.proofs.TokenLemmas.{Lexes-unique, fails_apart, fails_once}
use Rattle.osek_base.proofs.FirstFaultLemmas.{first_unique}
use Rattle.task_asm.specs.declared.fault.AsmFault.{AsmFault}
use Rattle.task_asm.specs.declared.fault.AsmFault.TheVariants as fault
use Rattle.task_asm.specs.Tokens.{Symbol, Word, Number, Directive, Mark, LineEnd, IsPiece, IsTokenFault}
use Rattle.task_asm.specs.Lines.{Tokens}
use Rattle.task_asm.specs.Programs.{Program}
use Rattle.task_asm.specs.Statements.{Statement, Reads, head, line_len, label_at, word_of, is_colon, is_line_end}
use Rattle.task_asm.specs.Statements.Reads.{ends, new_line, label, heads}
use Rattle.task_asm.specs.Meaning.{Says, IsProgramText, HasStatementFault, HasFault, programs_of}
use Rattle.task_asm.specs.Order.{place_of, number_of, rank, IsFirstFault}
use Rattle.task_asm.specs.Faults.{Stands}
use Rattle.task_asm.proofs.PieceLemmas.{pieces_are_tokens}

-- ---- statements

-- the end of a line is no word
no_word : (place : ℕ) (s : Symbol) → is_line_end (record { place = place; word = s }) ≡ true → word_of (record { place = place; word = s }) ≡ None
no_word place (Word w) e = absurd cc
no_word place (Number n) e = refl
no_word place (Directive kind) e = refl
no_word place (Mark s) e = refl
no_word place LineEnd e = refl

label_by : (t : Lexeme Symbol) (b : Bool) (w : List ℕ) → word_of t ≡ None → (if b then word_of t else None) ≡ Some w → ⊥
label_by t true w none e = cc
label_by t false w none e = cc

no_label : (t u : Lexeme Symbol) (ts : Tokens) (w : List ℕ) → is_line_end t ≡ true → label_at (t ∷ u ∷ ts) ≡ Some w → ⊥
no_label t u ts w e l = label_by t (is_colon u) w (no_word t.place t.word e) l

word_same : (v w : List ℕ) → Some v ≡ Some w → v ≡ w
word_same v w e = cc

pub Reads-unique : {ts : Tokens} {es fs : List Statement} → Reads ts es → Reads ts fs → es ≡ fs
Reads-unique ends ends = refl
Reads-unique (new_line t e more) (new_line u f more2) = Reads-unique more more2
Reads-unique (new_line t e more) (label t2 u {ts} w l more2) = absurd (no_label t u ts w e l)
Reads-unique (new_line t e more) (heads t2 f none more2) = absurd cc
Reads-unique (label t u {ts} w l more) (new_line t2 e more2) = absurd (no_label t u ts w e l)
Reads-unique (label t u {es = es} w l more) (label t2 u2 {es = fs} v k more2) =
    let same = word_same w v (sym l ∙ k) in
    let rest = Reads-unique more more2 in
    cc
Reads-unique (label t u w l more) (heads t2 f none more2) = absurd cc
Reads-unique (heads t f none more) (new_line t2 e more2) = absurd cc
Reads-unique (heads t f none more) (label t2 u w l more2) = absurd cc
Reads-unique (heads t {ts} f none more) (heads t2 g none2 more2) =
    ap (λ (es : List Statement). let said : Statement = record { place = t.place; item = head t (take (line_len ts) ts) } in said ∷ es) (Reads-unique more more2)

pub says_one : (text : List ℕ) (es fs : List Statement) → Says text es → Says text fs → es ≡ fs
says_one text es fs p q =
    Reads-unique p.reads (subst (λ (ts : Tokens). Reads ts fs) (Lexes-unique IsPiece pieces_are_tokens text q.lexes p.lexes) q.reads)

-- ---- faults

-- a fault is told by its number and its place
told : (e f : AsmFault) → place_of e ≡ place_of f → number_of e ≡ number_of f → e ≡ f
told fault.Memory fault.Memory p n = refl
told (fault.Token q) (fault.Token r) p n = ap fault.Token p
told (fault.UnknownMnemonic q) (fault.UnknownMnemonic r) p n = ap fault.UnknownMnemonic p
told (fault.Operand q) (fault.Operand r) p n = ap fault.Operand p
told (fault.UnknownLabel q) (fault.UnknownLabel r) p n = ap fault.UnknownLabel p
told (fault.Twice q) (fault.Twice r) p n = ap fault.Twice p
told (fault.TooLong q) (fault.TooLong r) p n = ap fault.TooLong p
told _ _ p n = absurd (omega (arith, n))

-- ---- texts

pub one_list : (text : List ℕ) (ps qs : List Program) → IsProgramText text ps → IsProgramText text qs → ps ≡ qs
one_list text ps qs p q = p.are ∙ ap programs_of (says_one text p.statements q.statements p.says q.says) ∙ sym q.are

no_token_fault : (text : List ℕ) (ps : List Program) (e : AsmFault) → IsProgramText text ps → IsTokenFault text e → e ≡ fault.Memory
no_token_fault text ps fault.Memory p h = refl
no_token_fault text ps (fault.Token at) p h = absurd (fails_apart IsPiece pieces_are_tokens text h p.says.lexes)
no_token_fault text ps (fault.UnknownMnemonic at) p h = absurd h
no_token_fault text ps (fault.Operand at) p h = absurd h
no_token_fault text ps (fault.UnknownLabel at) p h = absurd h
no_token_fault text ps (fault.Twice at) p h = absurd h
no_token_fault text ps (fault.TooLong at) p h = absurd h

no_statement_fault : (text : List ℕ) (ps : List Program) (e : AsmFault) → IsProgramText text ps → HasStatementFault text e → ⊥
no_statement_fault text ps e p h =
    p.faultless e (subst (λ (es : List Statement). Stands es e) (says_one text h.statements p.statements h.says p.says) h.first.stands)

pub no_fault : (text : List ℕ) (ps : List Program) (e : AsmFault) → IsProgramText text ps → HasFault text e → e ≡ fault.Memory
no_fault text ps e p (inl h) = no_token_fault text ps e p h
no_fault text ps e p (inr h) = absurd (no_statement_fault text ps e p h)

-- ---- one fault

-- where a token fault stands there are no statements
no_says : (text : List ℕ) (e : AsmFault) (es : List Statement) → (e ≡ fault.Memory → ⊥) → IsTokenFault text e → Says text es → ⊥
no_says text fault.Memory es real h says = real refl
no_says text (fault.Token at) es real h says = fails_apart IsPiece pieces_are_tokens text h says.lexes
no_says text (fault.UnknownMnemonic at) es real h says = h
no_says text (fault.Operand at) es real h says = h
no_says text (fault.UnknownLabel at) es real h says = h
no_says text (fault.Twice at) es real h says = h
no_says text (fault.TooLong at) es real h says = h

one_token_fault : (text : List ℕ) (e f : AsmFault) → (e ≡ fault.Memory → ⊥) → (f ≡ fault.Memory → ⊥) → IsTokenFault text e → IsTokenFault text f → e ≡ f
one_token_fault text (fault.Token p) (fault.Token q) er fr a b = ap fault.Token (fails_once IsPiece pieces_are_tokens text a b)
one_token_fault text fault.Memory f er fr a b = absurd (er refl)
one_token_fault text (fault.Token p) fault.Memory er fr a b = absurd (fr refl)
one_token_fault text (fault.Token p) (fault.UnknownMnemonic q) er fr a b = absurd b
one_token_fault text (fault.Token p) (fault.Operand q) er fr a b = absurd b
one_token_fault text (fault.Token p) (fault.UnknownLabel q) er fr a b = absurd b
one_token_fault text (fault.Token p) (fault.Twice q) er fr a b = absurd b
one_token_fault text (fault.Token p) (fault.TooLong q) er fr a b = absurd b
one_token_fault text (fault.UnknownMnemonic p) f er fr a b = absurd a
one_token_fault text (fault.Operand p) f er fr a b = absurd a
one_token_fault text (fault.UnknownLabel p) f er fr a b = absurd a
one_token_fault text (fault.Twice p) f er fr a b = absurd a
one_token_fault text (fault.TooLong p) f er fr a b = absurd a

pub one_fault : (text : List ℕ) (e f : AsmFault) → HasFault text e → HasFault text f → (e ≡ fault.Memory → ⊥) → (f ≡ fault.Memory → ⊥) → e ≡ f
one_fault text e f (inl a) (inl b) er fr = one_token_fault text e f er fr a b
one_fault text e f (inl a) (inr b) er fr = absurd (no_says text e b.statements er a b.says)
one_fault text e f (inr a) (inl b) er fr = absurd (no_says text f a.statements fr b a.says)
one_fault text e f (inr a) (inr b) er fr =
    let same = says_one text b.statements a.statements b.says a.says in
    first_unique rank told (Stands a.statements) e f a.first (subst (λ (es : List Statement). IsFirstFault (Stands es) f) same b.first)
