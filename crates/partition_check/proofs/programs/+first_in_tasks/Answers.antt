use Rattle.std.proofs.Common.{◌≡◌, ℕ, Bool, cond, length, sym, ◌∙◌, ap, ap₂, arith}
use Rattle.std.specs.Prelude.{None}
use Rattle.osek_base.specs.declared.ids.Owner.{Owner}
use Rattle.partition_check.specs.Partition.{told, first_place, is_of_part}
use Rattle.partition_check.proofs.Firsts.{joined, where_subject, program_step, program_end}
use Rattle.partition_check.proofs.programs.+first_in_tasks.Goals as goal

pub returns-then-number-task_count-clause-first : goal.returns-then-number-task_count-clause-first
returns-then-number-task_count-clause-first t c =
    let S = c.args.system.now in
    sym (program_end S c.args.p c.args.rule (λ (k : ℕ). Owner.Task k) (is_of_part S c.args.p c.args.is_upper) (length S.tasks) c.args.number (omega arith))

pub returns-clause-first : goal.returns-clause-first
returns-clause-first t c =
    let S = c.args.system.now in
    let p = c.args.p in
    let n = c.args.number in
    let among = is_of_part S p c.args.is_upper in
    let same = c.new-task.ensures in
    let here : told c.first_in_task-first.result ≡ cond (among n) (first_place S p c.args.rule (Owner.Task n) 0) None =
    c.first_in_task-first.ensures.first ∙ ap₂ (λ (b : Bool) (k : ℕ). cond b (first_place S p c.args.rule (Owner.Task k) 0) None) (c.is_of_part-is_subject.ensures ∙ ap among same) same in
    joined _ _ _ _ _ c.or.ensures here c.first_in_tasks.ensures.first
    ∙ where_subject (among n) (first_place S p c.args.rule (Owner.Task n) 0) _
    ∙ sym (program_step S p c.args.rule (λ (k : ℕ). Owner.Task k) among (length S.tasks) n (omega arith))
