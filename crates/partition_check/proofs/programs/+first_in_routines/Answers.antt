use Rattle.std.proofs.Common.{◌≡◌, ℕ, length, sym, ◌∙◌, ap, arith}
use Rattle.osek_base.specs.declared.ids.Owner.{Owner}
use Rattle.partition_check.specs.Partition.{told, first_place}
use Rattle.partition_check.proofs.Firsts.{joined, routine_step, routine_end}
use Rattle.partition_check.proofs.programs.+first_in_routines.Goals as goal

pub returns-then-number-routine_count-clause-first : goal.returns-then-number-routine_count-clause-first
returns-then-number-routine_count-clause-first t c =
    let S = c.args.system.now in
    sym (routine_end S c.args.p c.args.rule (length S.routines) c.args.number (omega arith))

pub returns-clause-first : goal.returns-clause-first
returns-clause-first t c =
    let S = c.args.system.now in
    let n = c.args.number in
    let here : told c.first_in_program.result ≡ first_place S c.args.p c.args.rule (Owner.Routine n) 0 =
    c.first_in_program.ensures.first ∙ ap (λ (k : ℕ). first_place S c.args.p c.args.rule (Owner.Routine k) 0) c.new-routine.ensures in
    joined _ _ _ _ _ c.or.ensures here c.first_in_routines.ensures.first
    ∙ sym (routine_step S c.args.p c.args.rule (length S.routines) n (omega arith))
