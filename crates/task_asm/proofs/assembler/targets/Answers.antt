-- An statement adds the place that it names.
use Rattle.std.proofs.Common.{◌≡◌, ◌∙◌, ◌++◌, ◌∷◌, [], ℕ, Option, sym, ap}
use Rattle.std.proofs.lemmas.List.{take_rest}
use Rattle.task_asm.specs.declared.instructions.Written.{Written as TheWritten}
use Rattle.task_asm.specs.declared.statements.Item.{Item as TheItem}
use Rattle.task_asm.specs.Statements.{Statement, item_value}
use Rattle.task_asm.proofs.TargetLemmas.{aim_program, aim_instruction, aim_faulty, aim_label, aim_unknown}
use Rattle.task_asm.proofs.assembler.targets.Goals as goal
use Rattle.task_asm.proofs.assembler.targets.Goals.{in-Program+in_ok-labels-in-Program, in-Instruction-Some, in-Instruction-None, in-Label, in-Unknown}

pub statements-preserved : goal.statements-preserved
statements-preserved c =
    let es = c.args.statements.now in
    let x = c.index-statements-at.result in
    let said : x.item ≡ item_value c.statement.inside.item = sym (ap (λ (y : Statement). y.item) c.statement.view_is) in
    let pushed : c.push.new.self.items ≡ c.statements.targets.items ++ c.match-statement.target ∷ [] = c.in_ok-push.ensures.items in
    elim c.match-statement.branch [
      | in-Program+in_ok-labels-in-Program w ↦
          rw w.labels-is
          (aim_program es c.statements.at c.statements.labels c.statements.targets.items c.statements.invariant x c.statements-test.true c.index-statements-at.is
          _ _ (said ∙ ap item_value w.in-Program.is) (rw take_rest at w.in_ok-labels-in-Program.ensures)
          (pushed ∙ ap (λ (n : ℕ). c.statements.targets.items ++ n ∷ []) (w.target-is ∙ c.new-target.ensures)))
      | in-Instruction-Some w ↦
          let named = rw w.in-Instruction-Some.is at w.in-Instruction-Some.field-0-is in
          rw w.labels-is
          (aim_instruction es c.statements.at c.statements.labels c.statements.targets.items c.statements.invariant x c.statements-test.true c.index-statements-at.is
          _ _ _ (said ∙ ap item_value w.in-Instruction-Some.is ∙ ap (λ (o : Option TheWritten). item_value (TheItem.Instruction o)) named) w.target_of-target.ensures
          (pushed ∙ ap (λ (n : ℕ). c.statements.targets.items ++ n ∷ []) w.target-is))
      | in-Instruction-None w ↦
          let none = rw w.in-Instruction-None.is at w.in-Instruction-None.field-0-is in
          rw w.labels-is
          (aim_faulty es c.statements.at c.statements.labels c.statements.targets.items c.statements.invariant x c.statements-test.true c.index-statements-at.is
          _ (said ∙ ap item_value w.in-Instruction-None.is ∙ ap (λ (o : Option TheWritten). item_value (TheItem.Instruction o)) none)
          (pushed ∙ ap (λ (n : ℕ). c.statements.targets.items ++ n ∷ []) (w.target-is ∙ c.new-target.ensures)))
      | in-Label w ↦
          rw w.labels-is
          (aim_label es c.statements.at c.statements.labels c.statements.targets.items c.statements.invariant x c.statements-test.true c.index-statements-at.is
          _ (said ∙ ap item_value w.in-Label.is)
          (pushed ∙ ap (λ (n : ℕ). c.statements.targets.items ++ n ∷ []) (w.target-is ∙ c.new-target.ensures)))
      | in-Unknown w ↦
          rw w.labels-is
          (aim_unknown es c.statements.at c.statements.labels c.statements.targets.items c.statements.invariant x c.statements-test.true c.index-statements-at.is
          _ (said ∙ ap item_value w.in-Unknown.is)
          (pushed ∙ ap (λ (n : ℕ). c.statements.targets.items ++ n ∷ []) (w.target-is ∙ c.new-target.ensures)))
    ]
