use Rattle.std.proofs.Common.{ℕ, not, length, sym, ◌∙◌, ap, arith}
use Rattle.std.specs.Prelude.{Some}
use Rattle.osek_base.specs.Upper.{is_upper_task}
use Rattle.partition_check.specs.Partition.{denial_of, is_not_full, Told}
use Rattle.partition_check.proofs.Firsts.{task_here, task_later, task_end}
use Rattle.partition_check.proofs.tasks.+first_not_full.Goals as goal

pub returns-then-number-task_count-clause-first : goal.returns-then-number-task_count-clause-first
returns-then-number-task_count-clause-first t c =
    let S = c.args.system.now in
    sym (task_end 1 (is_not_full S) (λ (k : ℕ). not (is_upper_task S c.args.p k)) (length S.tasks) c.args.number (omega arith))

pub returns-then-breaks_schedule-clause-first : goal.returns-then-breaks_schedule-clause-first
returns-then-breaks_schedule-clause-first t c =
    let S = c.args.system.now in
    ap (λ (d : Told). Some (denial_of d)) c.denial_of.ensures
    ∙ sym (task_here 1 (is_not_full S) (λ (k : ℕ). not (is_upper_task S c.args.p k)) (length S.tasks) c.args.number c.new-task.result c.new-task.ensures (omega arith)
    (sym c.breaks_schedule.ensures ∙ c.if-breaks_schedule.true))

pub returns-clause-first : goal.returns-clause-first
returns-clause-first t c =
    let S = c.args.system.now in
    c.first_not_full.ensures.first
    ∙ sym (task_later 1 (is_not_full S) (λ (k : ℕ). not (is_upper_task S c.args.p k)) (length S.tasks) c.args.number c.new-task.result c.new-task.ensures (omega arith)
    (sym c.breaks_schedule.ensures ∙ c.if-breaks_schedule.false))
