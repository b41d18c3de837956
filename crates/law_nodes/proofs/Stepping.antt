-- A plain instruction, and a service without a status, lead from a node to one of its steps.
use Rattle.std.proofs.Common.{◌≡◌, ℕ, ◌+◌, Bool, true, false, cond, ◌||◌, List, [], ◌∷◌, refl, sym, ap}
use Rattle.std.specs.Prelude.{Option, Some, None, slice_set}
use Rattle.osek_base.specs.declared.instr.Plain.{Plain}
use Rattle.osek_base.specs.Instruction.{Context, holds, next, operate, plain, value, with_value}
use Rattle.osek_base.specs.Types.{PlainInstr}
use Rattle.law_runs.proofs.Lists.{clash}
use Rattle.law_nodes.specs.Nodes.{Node, Standing, Table, is_at, is_told}
use Rattle.law_nodes.specs.Steps.{jumped, plain_steps, sets_node}
use Rattle.law_nodes.specs.Values.{known, of_known}
use Rattle.law_nodes.proofs.Knowing.{AreValues, IsValue, of_known_is, value_known, values_set}
use Rattle.law_nodes.proofs.Standing.{is_at_of, node_of}
use Rattle.law_nodes.proofs.Tests.{second_of}

-- ---- at the first of some nodes, or a later one

pub told_first : (y : Standing) (registers : List (Option ℕ)) (used : ℕ) (rest : Table)
    → AreValues registers y.context.registers
    → is_told (node_of y registers used ∷ rest) y ≡ true
told_first y registers used rest all =
    ap (λ b. b || is_told rest y) (is_at_of y registers used all)

pub told_later : (y : Standing) (m : Node) (rest : Table) → is_told rest y ≡ true
    → is_told (m ∷ rest) y ≡ true
told_later y m rest h = second_of (is_at m y) (is_told rest y) h

-- ---- with the context behind an instruction

module _ (x : Standing) (registers : List (Option ℕ)) (used : ℕ)
    (all : AreValues registers x.context.registers) where
  abbrev with : Context → Standing
  with y = record x { context = y }

  sets_told : (d : ℕ) (o : Option ℕ) (v : ℕ) → IsValue o v
      → is_told (sets_node (node_of x registers used) d o ∷ [])
      (with (next (with_value x.context d v))) ≡ true
  sets_told d o v is =
      told_first (with (next (with_value x.context d v))) (slice_set registers d o) used []
      (values_set registers x.context.registers all d o v is)

  known_is : (r : ℕ) → IsValue (known registers r) (value x.context r)
  known_is r = value_known registers x.context.registers all r

  to_told : (to : ℕ) (rest : Table)
      → is_told (node_of (with (record x.context { place = to })) registers used ∷ rest)
      (with (record x.context { place = to })) ≡ true
  to_told to rest = told_first (with (record x.context { place = to })) registers used rest all

  jump_told : (to : ℕ) (o : Option Bool) (b : Bool) → IsValue o b
      → is_told (jumped o to (node_of x registers used))
      (with (record x.context { place = cond b to (x.context.place + 1) })) ≡ true
  jump_told to None true is = to_told to (node_of (with (next x.context)) registers used ∷ [])
  jump_told to None false is =
      told_later (with (next x.context))
      (node_of (with (record x.context { place = to })) registers used)
      (node_of (with (next x.context)) registers used ∷ []) (to_told (x.context.place + 1) [])
  jump_told to (Some true) true is = to_told to []
  jump_told to (Some true) false is = clash is
  jump_told to (Some false) true is = clash (sym is)
  jump_told to (Some false) false is = to_told (x.context.place + 1) []

  pub plain_told : (words : ℕ → ℕ) (what : PlainInstr)
      → is_told (plain_steps what (node_of x registers used))
      (with (plain what x.context words).context) ≡ true
  plain_told words Plain.Nop = to_told (x.context.place + 1) []
  plain_told words (Plain.Li d v) = sets_told d (Some v) v refl
  plain_told words (Plain.Mov d a) = sets_told d (known registers a) _ (known_is a)
  plain_told words (Plain.Compute operation d a b) =
      sets_told d (of_known (operate operation) (known registers a) (known registers b)) _
      (of_known_is (operate operation) (known registers a) (known registers b) (value x.context a)
      (value x.context b) (known_is a) (known_is b))
  plain_told words (Plain.Ld d a) = sets_told d None _ tt
  plain_told words (Plain.St a b) = to_told (x.context.place + 1) []
  plain_told words (Plain.Jmp to) = to_told to []
  plain_told words (Plain.JumpIf test a b to) =
      jump_told to (of_known (holds test) (known registers a) (known registers b))
      (holds test (value x.context a) (value x.context b))
      (of_known_is (holds test) (known registers a) (known registers b) (value x.context a)
      (value x.context b) (known_is a) (known_is b))
