-- Program texts: labels, instructions and programs among what stands in a text.
use Rattle.std.specs.Prelude.{ℕ, suc, Bool, true, false, ◌&&◌, List, [], ◌∷◌, ◌++◌, Option, Some, None, option_map, if◌then◌else◌, bytes_eq}
use Rattle.task_asm.specs.declared.program.ProgramKind.{ProgramKind}
use Rattle.task_asm.specs.Statements.{Statement, Item}

abbrev pub is_instruction : Statement → Bool
is_instruction x = elim x.item [ Item.Instruction o ↦ true | _ ↦ false ]

abbrev pub is_program : Statement → Bool
is_program x = elim x.item [ Item.Program kind o ↦ true | _ ↦ false ]

abbrev pub is_label : List ℕ → Statement → Bool
is_label w x = elim x.item [ Item.Label v ↦ bytes_eq v w | _ ↦ false ]

-- ---- the statements of one program, up to the next directive

-- the place of the instruction that a label names, counted from 0: as many as stand before the label
abbrev pub place_in : List Statement → List ℕ → Option ℕ
place_in [] w = None
place_in (x ∷ es) w = elim x.item [
  | Item.Label v ↦ if bytes_eq v w then Some 0 else place_in es w
  | Item.Instruction o ↦ option_map suc (place_in es w)
  | Item.Program kind o ↦ None
  | Item.Unknown ↦ place_in es w
]

-- whether an instruction of the program follows
abbrev pub has_instruction : List Statement → Bool
has_instruction [] = false
has_instruction (x ∷ es) = elim x.item [ Item.Instruction o ↦ true | Item.Program kind o ↦ false | _ ↦ has_instruction es ]

abbrev pub defines : List Statement → List ℕ → Bool
defines [] w = false
defines (x ∷ es) w = if is_label w x then true else defines es w

abbrev pub instruction_count : List Statement → ℕ
instruction_count [] = 0
instruction_count (x ∷ es) = if is_instruction x then suc (instruction_count es) else instruction_count es

abbrev pub is_kind : ProgramKind → ProgramKind → Bool
is_kind ProgramKind.Task ProgramKind.Task = true
is_kind ProgramKind.Routine ProgramKind.Routine = true
is_kind _ _ = false

abbrev pub is_named : ProgramKind → List ℕ → Statement → Bool
is_named kind name x = elim x.item [
  | Item.Program other o ↦ elim o [ Some t ↦ is_kind other kind && bytes_eq t.name name | None ↦ false ]
  | _ ↦ false
]

abbrev pub has_program : List Statement → ProgramKind → List ℕ → Bool
has_program [] kind name = false
has_program (x ∷ es) kind name = if is_named kind name x then true else has_program es kind name

-- the statements of the program that is open behind these, where one is
abbrev pub open_after : Option (List Statement) → List Statement → Option (List Statement)
open_after o [] = o
open_after o (x ∷ es) = open_after (if is_program x then Some [] else option_map (λ own. own ++ x ∷ []) o) es
