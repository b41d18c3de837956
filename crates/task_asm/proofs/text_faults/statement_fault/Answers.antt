-- What is kept of the open program says which fault its statement has.
use Rattle.std.proofs.Common.{◌≡◌, ◌∙◌, sym, ap}
use Rattle.task_asm.specs.Statements.{Statement, item_value}
use Rattle.task_asm.specs.Walk.{IsOpen}
use Rattle.task_asm.proofs.OpenLemmas.{label_front, instruction_front}
use Rattle.task_asm.proofs.text_faults.statement_fault.Goals as goal

pub returns-in-Some : goal.returns-in-Some
returns-in-Some c =
    let x = c.index-statements-at.result in
    let said : x.item ≡ item_value c.statement.inside.item = sym (ap (λ (y : Statement). y.item) c.statement.view_is) in
    let it : IsOpen c.args.statements.now c.args.at c.args.passed c.in-Some.program = rw c.in-Some.is at c.requires.program in
    rw c.in-Some.is
    (c.label_fault.ensures ∙ label_front c.args.statements.now c.args.at c.args.passed c.in-Some.program it x c.requires.within c.index-statements-at.is
    c.statement.inside.place (ap (λ (y : Statement). y.place) c.statement.view_is) _ (said ∙ ap item_value c.in-Label.is))

pub returns-in-Some-program : goal.returns-in-Some-program
returns-in-Some-program c =
    let x = c.index-statements-at.result in
    let said : x.item ≡ item_value c.statement.inside.item = sym (ap (λ (y : Statement). y.item) c.statement.view_is) in
    let it : IsOpen c.args.statements.now c.args.at c.args.passed c.in-Some-program.program = rw c.in-Some-program.is at c.requires.program in
    rw c.in-Some-program.is
    (c.instruction_fault.ensures ∙ instruction_front c.args.statements.now c.args.at c.args.passed c.in-Some-program.program it x c.requires.within c.index-statements-at.is
    c.statement.inside.place (ap (λ (y : Statement). y.place) c.statement.view_is) _ (said ∙ ap item_value c.in-Instruction.is))
