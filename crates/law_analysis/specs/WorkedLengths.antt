-- Lengths of the nodes of two small routines by hand.
use Rattle.std.specs.Prelude.{ℕ, ◌≡◌, true, false, List, [], ◌∷◌, Some, None}
use Rattle.osek_base.specs.declared.instr.Comparison.{Comparison}
use Rattle.osek_base.specs.declared.instr.Control.{Control}
use Rattle.osek_base.specs.declared.instr.Instr.{Instr}
use Rattle.osek_base.specs.declared.instr.Plain.{Plain}
use Rattle.osek_base.specs.declared.instr.Service.{Service}
use Rattle.osek_base.specs.System.{System}
use Rattle.law_nodes.specs.Nodes.{Table}
use Rattle.law_nodes.specs.Worked.{of_routine_at, waiting, zero_but}
use Rattle.law_analysis.specs.Lengths.{Long, least_length, lengths_hold}

-- nodes with their lengths, one by one
abbrev pub with_counts : Table → List ℕ → List Long
with_counts (n ∷ table) (count ∷ counts) =
    record { node = n; count = count } ∷ with_counts table counts
with_counts _ _ = []

-- a routine sets an event, and jumps over an instruction by the status
abbrev pub jumping : System
jumping =
    record waiting {
      routines =
          record {
            priority = 1;
            program =
                Instr.Service (Service.SetEvent (Some 0) 1)
                ∷ Instr.Plain (Plain.JumpIf Comparison.NotEqual 0 1 3)
                ∷ Instr.Plain Plain.Nop ∷ Instr.Control Control.ReturnFromInterrupt ∷ [];
          } ∷ [];
    }

-- the status isn't known
abbrev pub jumps : Table
jumps =
    of_routine_at (Some 0) 0 ∷ of_routine_at None 1 ∷ of_routine_at None 2
    ∷ of_routine_at None 3 ∷ []

-- a routine that never returns
abbrev pub circling : System
circling =
    record waiting {
      routines = record { priority = 1; program = Instr.Plain (Plain.Jmp 0) ∷ [] } ∷ [];
    }

pub record WorkedLengths : Type 0 where
  -- the least of both ways, and no more
  pub least : lengths_hold jumping (with_counts jumps (3 ∷ 2 ∷ 2 ∷ 1 ∷ [])) ≡ true
  pub fewer : lengths_hold jumping (with_counts jumps (2 ∷ 1 ∷ 1 ∷ 0 ∷ [])) ≡ true
  pub longer_way : lengths_hold jumping (with_counts jumps (4 ∷ 3 ∷ 2 ∷ 1 ∷ [])) ≡ false
  -- a routine that returns executes one
  pub behind_end : lengths_hold jumping (with_counts jumps (3 ∷ 2 ∷ 2 ∷ 2 ∷ [])) ≡ false
  -- each step is at a node of the list
  pub step_missing : lengths_hold jumping
      (with_counts (of_routine_at (Some 0) 0 ∷ of_routine_at (Some 0) 1 ∷ []) (2 ∷ 1 ∷ []))
      ≡ false
  -- it begins at the first
  pub begins : least_length (with_counts jumps (3 ∷ 2 ∷ 2 ∷ 1 ∷ [])) 0 3 ≡ true
  pub begins_with_fewer : least_length (with_counts jumps (3 ∷ 2 ∷ 2 ∷ 1 ∷ [])) 0 4 ≡ false
  pub none_begins : least_length (with_counts jumps (3 ∷ 2 ∷ 2 ∷ 1 ∷ [])) 1 1 ≡ false
  -- nodes of tasks aren't looked at
  pub of_task : lengths_hold jumping (with_counts (zero_but (Some 0) 0 ∷ []) (9 ∷ [])) ≡ true
  -- without a return there is no most
  pub circle : lengths_hold circling (with_counts (of_routine_at (Some 0) 0 ∷ []) (9 ∷ []))
      ≡ true
