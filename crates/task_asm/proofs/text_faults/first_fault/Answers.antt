-- An statement without fault is passed.
use Rattle.std.proofs.Common.{◌≡◌, ◌∙◌, sym, ap}
use Rattle.task_asm.specs.Statements.{Statement, item_value}
use Rattle.task_asm.proofs.OpenLemmas.{behind_program, behind_instruction, behind_label, behind_unknown}
use Rattle.task_asm.proofs.text_faults.first_fault.Goals as goal
use Rattle.task_asm.proofs.text_faults.first_fault.Goals.{in-Program+in_ok-note_program-in-Program+in_ok-of-in-Program, in-Instruction, in-Label, in-Unknown}

pub statements-preserved : goal.statements-preserved
statements-preserved c =
    let es = c.args.statements.now in
    let x = c.index-statements-at.result in
    let said : x.item ≡ item_value c.statement.inside.item = sym (ap (λ (y : Statement). y.item) c.statement.view_is) in
    let none = sym c.statement_fault-fault.ensures ∙ c.in_default.is in
    elim c.match-statement.branch [
      | in-Program+in_ok-note_program-in-Program+in_ok-of-in-Program w ↦
          rw (w.names-is, w.program-is, w.passed-is)
          (behind_program es c.statements.at c.statements.passed c.statements.program c.statements.names c.statements.invariant x c.statements-test.true c.index-statements-at.is none
          _ _ _ _ (said ∙ ap item_value w.in-Program.is) w.in_ok-of-in-Program.ensures.0 w.in_ok-of-in-Program.ensures.1
          w.in_ok-note_program-in-Program.ensures)
      | in-Instruction w ↦
          rw (w.names-is, w.program-is, w.passed-is)
          (behind_instruction es c.statements.at c.statements.passed c.statements.program c.statements.names c.statements.invariant x c.statements-test.true c.index-statements-at.is none
          (said ∙ ap item_value w.in-Instruction.is))
      | in-Label w ↦
          rw (w.names-is, w.program-is, w.passed-is)
          (behind_label es c.statements.at c.statements.passed c.statements.program c.statements.names c.statements.invariant x c.statements-test.true c.index-statements-at.is none
          (said ∙ ap item_value w.in-Label.is))
      | in-Unknown w ↦
          rw (w.names-is, w.program-is, w.passed-is)
          (behind_unknown es c.statements.at c.statements.passed c.statements.program c.statements.names c.statements.invariant x c.statements-test.true c.index-statements-at.is none
          (said ∙ ap item_value w.in-Unknown.is))
    ]
