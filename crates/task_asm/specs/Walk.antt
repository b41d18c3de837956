-- Program texts: how the code looks for the first fault, and what it keeps of labels and programs.
use Rattle.std.specs.Prelude.{◌≡◌, ℕ, suc, ◌+◌, ◌-◌, ◌≤◌, ◌==◌, Bool, false, ◌&&◌, nat_lt, bytes_eq, List, [], ◌∷◌, ◌++◌, take, drop, Option, Some, None, option_map, if◌then◌else◌}
use Rattle.std.specs.Borrow.{Bor}
use Rattle.std.specs.Ordering.{nat_cmp}
use Rattle.std.specs.Cmp.Lexicographic.{slice_cmp}
use Rattle.std.specs.BTreeMap.{BTreeMap, get_by}
use Rattle.std.specs.BTreeSet.{contains_by}
use Rattle.osek_base.specs.declared.limits.TheConstants.{MAX_INSTRUCTIONS}
use Rattle.task_asm.specs.declared.labels.Definition.{Definition}
use Rattle.task_asm.specs.declared.labels.Labels.{Labels}
use Rattle.task_asm.specs.declared.text_faults.Open.{Open}
use Rattle.task_asm.specs.declared.text_faults.ProgramNames.{ProgramNames}
use Rattle.task_asm.specs.declared.program.ProgramKind.{ProgramKind}
use Rattle.task_asm.specs.declared.program.NamedInstr.{NamedInstr}
use Rattle.task_asm.specs.declared.operands.Title.{Title}
use Rattle.task_asm.specs.declared.fault.AsmFault.{AsmFault}
use Rattle.task_asm.specs.declared.fault.AsmFault.TheVariants as fault
use Rattle.task_asm.specs.Programs.{Program}
use Rattle.task_asm.specs.Mnemonics.{or_else}
use Rattle.task_asm.specs.Lines.{Written, Ready, Jump, JumpIf, Label}
use Rattle.task_asm.specs.Statements.{Statement, Item}
use Rattle.task_asm.specs.Labels.{is_program, is_kind, place_in, has_instruction, defines, instruction_count, has_program, open_after}
use Rattle.task_asm.specs.Meaning.{within_program, target_of, finished}

-- ---- faults

-- a label, where a program is open with these statements before it, and these come after
abbrev pub label_fault : Option (List Statement) → ℕ → List ℕ → List Statement → Option AsmFault
label_fault None place w after = Some (fault.UnknownMnemonic place)
label_fault (Some own) place w after = if has_instruction after
    then (if defines own w then Some (fault.Twice place) else None)
    else Some (fault.UnknownLabel place)

-- a jump, in a program with these statements
abbrev pub jump_fault : List Statement → Label → Option AsmFault
jump_fault program l = elim (place_in program l.word) [ Some n ↦ None | None ↦ Some (fault.UnknownLabel l.place) ]

abbrev pub operand_fault : List Statement → Written → Option AsmFault
operand_fault program (Ready i) = None
operand_fault program (Jump l) = jump_fault program l
operand_fault program (JumpIf test a b l) = jump_fault program l

-- an instruction, where a program is open with these statements before it, and these from it on: 1,024 instructions are the most
abbrev pub instruction_fault : Option (List Statement) → List Statement → ℕ → Option Written → Option AsmFault
instruction_fault None here place o = Some (fault.UnknownMnemonic place)
instruction_fault (Some own) here place None = Some (fault.Operand place)
instruction_fault (Some own) here place (Some w) =
    if instruction_count own == MAX_INSTRUCTIONS then Some (fault.TooLong place) else operand_fault (own ++ here) w

-- a directive behind these statements
abbrev pub program_fault : List Statement → ℕ → ProgramKind → Option Title → Option AsmFault
program_fault before place kind None = Some (fault.Operand place)
program_fault before place kind (Some t) = if has_program before kind t.name then Some (fault.Twice t.place) else None

-- an statement with these before it, of which those of its program if one is open, and these after it
abbrev pub statement_fault : List Statement → Option (List Statement) → Statement → List Statement → Option AsmFault
statement_fault before own x after = elim x.item [
  | Item.Label w ↦ label_fault own x.place w after
  | Item.Instruction o ↦ instruction_fault own (x ∷ after) x.place o
  | Item.Program kind o ↦ program_fault before x.place kind o
  | Item.Unknown ↦ Some (fault.UnknownMnemonic x.place)
]

-- the first of these statements, if there is one
abbrev pub front_fault : List Statement → Option (List Statement) → List Statement → Option AsmFault
front_fault before own [] = None
front_fault before own (x ∷ after) = statement_fault before own x after

-- the first fault of the statements behind others
abbrev pub fault_behind : List Statement → List Statement → Option AsmFault
fault_behind before [] = None
fault_behind before (x ∷ after) = or_else (statement_fault before (open_after None before) x after) (fault_behind (before ++ x ∷ []) after)

-- the first fault of all statements: they stand by their places
abbrev pub first_fault : List Statement → Option AsmFault
first_fault es = fault_behind [] es

-- ---- what is kept of a program and of the names of programs

-- the instructions up to the next directive
abbrev pub program_size : List Statement → ℕ
program_size [] = 0
program_size (x ∷ es) = elim x.item [ Item.Instruction o ↦ suc (program_size es) | Item.Program kind o ↦ 0 | _ ↦ program_size es ]

-- where a label is first defined up to the next directive, behind so many statements and instructions
abbrev pub definition_from : ℕ → ℕ → List Statement → List ℕ → Option Definition
definition_from at place [] w = None
definition_from at place (x ∷ es) w = elim x.item [
  | Item.Label v ↦ if bytes_eq v w then Some (record { statement = at; place = place }) else definition_from (at + 1) place es w
  | Item.Instruction o ↦ definition_from (at + 1) (place + 1) es w
  | Item.Program kind o ↦ None
  | Item.Unknown ↦ definition_from (at + 1) place es w
]

-- what a map has at a word
abbrev pub finds : {X : Type 0} → BTreeMap (Bor (List ℕ)) X → List ℕ → Option X
finds m w = get_by (λ k. slice_cmp nat_cmp w k.now) m

-- the labels and the size of the program with these statements
pub record Knows (l : Labels) (program : List Statement) : Type 0 where
  pub found : (w : List ℕ) → finds l.definitions w ≡ definition_from 0 0 program w
  pub size : l.instructions ≡ program_size program

-- the label is defined among so many statements
abbrev pub is_before : ℕ → Option Definition → Bool
is_before n None = false
is_before n (Some d) = nat_lt d.statement n

abbrev pub open_label_fault : Open → ℕ → ℕ → ℕ → List ℕ → Option AsmFault
open_label_fault o at passed place w = if nat_lt passed o.labels.instructions
    then (if is_before (at - o.start) (finds o.labels.definitions w) then Some (fault.Twice place) else None)
    else Some (fault.UnknownLabel place)

abbrev pub open_jump_fault : Open → Label → Option AsmFault
open_jump_fault o l = elim (finds o.labels.definitions l.word) [ Some d ↦ None | None ↦ Some (fault.UnknownLabel l.place) ]

abbrev pub open_operand_fault : Open → Written → Option AsmFault
open_operand_fault o (Ready i) = None
open_operand_fault o (Jump l) = open_jump_fault o l
open_operand_fault o (JumpIf test a b l) = open_jump_fault o l

abbrev pub open_instruction_fault : Open → ℕ → ℕ → Option Written → Option AsmFault
open_instruction_fault o passed place None = Some (fault.Operand place)
open_instruction_fault o passed place (Some w) = if passed == MAX_INSTRUCTIONS then Some (fault.TooLong place) else open_operand_fault o w

-- the place that a label names, 0 where it isn't defined
abbrev pub found_place : Option Definition → ℕ
found_place None = 0
found_place (Some d) = within_program d.place

abbrev pub found_target : Labels → Written → ℕ
found_target labels (Ready i) = 0
found_target labels (Jump l) = found_place (finds labels.definitions l.word)
found_target labels (JumpIf test a b l) = found_place (finds labels.definitions l.word)

-- no directive is among the statements
abbrev pub IsClosed : List Statement → Type 0
IsClosed [] = Unit {0}
IsClosed (x ∷ es) = (is_program x ≡ false) × IsClosed es

-- behind so many statements, of which so many are its instructions, this program is open
pub record IsOpen (es : List Statement) (at passed : ℕ) (o : Open) : Type 0 where
  pub started : o.start ≤ at
  pub closed : IsClosed (take (at - o.start) (drop o.start es))
  pub count : passed ≡ instruction_count (take (at - o.start) (drop o.start es))
  pub labels : Knows o.labels (drop o.start es)

abbrev pub has_name : ProgramNames → ProgramKind → List ℕ → Bool
has_name names ProgramKind.Task w = contains_by (λ k. slice_cmp nat_cmp w k.now) names.tasks
has_name names ProgramKind.Routine w = contains_by (λ k. slice_cmp nat_cmp w k.now) names.routines

abbrev pub title_fault : ProgramNames → ℕ → ProgramKind → Option Title → Option AsmFault
title_fault names place kind None = Some (fault.Operand place)
title_fault names place kind (Some t) = if has_name names kind t.name then Some (fault.Twice t.place) else None

-- whether a directive has that kind and name
abbrev pub has_title : ProgramKind → Option Title → ProgramKind → List ℕ → Bool
has_title kind None k w = false
has_title kind (Some t) k w = is_kind kind k && bytes_eq t.name w

-- the names are those of the programs among the statements
abbrev pub KnowsNames : ProgramNames → List Statement → Type 0
KnowsNames names es = (kind : ProgramKind) (w : List ℕ) → has_name names kind w ≡ has_program es kind w

-- ---- programs

-- the places that the instructions name, each at the number of its statement
abbrev pub targets_from : List Statement → List Statement → List ℕ
targets_from program [] = []
targets_from program (x ∷ es) = elim x.item [
  | Item.Program kind o ↦ 0 ∷ targets_from es es
  | Item.Instruction o ↦ elim o [ Some w ↦ target_of program w ∷ targets_from program es | None ↦ 0 ∷ targets_from program es ]
  | _ ↦ 0 ∷ targets_from program es
]

abbrev pub targets_of : List Statement → List ℕ
targets_of es = targets_from es es

-- the instructions up to the next directive, and the programs, where the targets are known
abbrev pub lines_with : List Statement → List ℕ → List NamedInstr
lines_with [] ts = []
lines_with (x ∷ es) [] = []
lines_with (x ∷ es) (t ∷ ts) = elim x.item [
  | Item.Program kind o ↦ []
  | Item.Instruction o ↦ elim o [ Some w ↦ finished t w ∷ lines_with es ts | None ↦ lines_with es ts ]
  | _ ↦ lines_with es ts
]

abbrev pub programs_with : List Statement → List ℕ → List Program
programs_with [] ts = []
programs_with (x ∷ es) [] = []
programs_with (x ∷ es) (t ∷ ts) = elim x.item [
  | Item.Program kind o ↦ elim o [
    | Some title ↦ record { kind = kind; name = title.name; instructions = lines_with es ts } ∷ programs_with es ts
    | None ↦ programs_with es ts
  ]
  | _ ↦ programs_with es ts
]

-- the statements from a number up to another
abbrev pub own_of : List Statement → ℕ → Option ℕ → Option (List Statement)
own_of es at start = option_map (λ s. take (at - s) (drop s es)) start
