-- A label is taken where it is new.
use Rattle.std.proofs.Common.{◌≡◌, ◌∙◌, sym, ap}
use Rattle.std.proofs.lemmas.Map.Text.{btree_map_updates_str}
use Rattle.task_asm.specs.Statements.{Statement, item_value}
use Rattle.task_asm.specs.Walk.{finds}
use Rattle.task_asm.proofs.LabelLemmas.{after_again, after_instruction, after_new, after_unknown}
use Rattle.task_asm.proofs.labels.definitions.Goals as goal
use Rattle.task_asm.proofs.labels.definitions.Goals.{in-Label+in_ok-first-in-Label+in_default, in-Label+in_ok-first-in-Label+in-Some+in_ok-insert-in-Label, in-Instruction, in-Unknown}

pub statements-preserved : goal.statements-preserved
statements-preserved c =
    let es = c.args.statements.now in
    let x = c.index-statements-at.result in
    let said : x.item ≡ item_value c.statement.inside.item = sym (ap (λ (y : Statement). y.item) c.statement.view_is) in
    elim c.match-statement.branch [
      | in-Label+in_ok-first-in-Label+in_default w ↦
          rw (w.definitions-is, w.place-is)
          (after_new es c.statements.at c.statements.place x.place x.item (finds c.statements.definitions) c.statements-test.true c.index-statements-at.is c.statements.invariant _
          (said ∙ ap item_value w.in-Label.is) _
          (sym w.in_ok-first-in-Label.ensures.old ∙ w.in_default.is)
          (λ v. btree_map_updates_str w.in-Label.word.now c.statements.definitions w.insert.new.self _ w.in_ok-first-in-Label.ensures.updates v))
      | in-Label+in_ok-first-in-Label+in-Some+in_ok-insert-in-Label w ↦
          rw (w.definitions-is, w.place-is)
          (after_again es c.statements.at c.statements.place x.place x.item (finds c.statements.definitions) c.statements-test.true c.index-statements-at.is c.statements.invariant _
          (said ∙ ap item_value w.in-Label.is) (finds w.insert.new.self) _ _ _
          (sym w.in_ok-first-in-Label.ensures.old ∙ w.in-Some.is)
          (λ v. btree_map_updates_str w.in-Label.word.now c.statements.definitions w.insert.new.self _ w.in_ok-first-in-Label.ensures.updates v)
          (λ v. btree_map_updates_str w.in-Label.word.now w.insert.new.self w.insert-in-Some.new.self _ w.in_ok-insert-in-Label.ensures.updates v))
      | in-Instruction w ↦
          rw (w.definitions-is, w.place-is)
          (after_instruction es c.statements.at c.statements.place x.place x.item (finds c.statements.definitions) c.statements-test.true c.index-statements-at.is c.statements.invariant
          (said ∙ ap item_value w.in-Instruction.is))
      | in-Unknown w ↦
          rw (w.definitions-is, w.place-is)
          (after_unknown es c.statements.at c.statements.place x.place x.item (finds c.statements.definitions) c.statements-test.true c.index-statements-at.is c.statements.invariant
          (said ∙ ap item_value w.in-Unknown.is))
    ]
