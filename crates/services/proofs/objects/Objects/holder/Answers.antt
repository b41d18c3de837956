use Rattle.std.proofs.Common.{◌≡◌, ◌<◌, ℕ, true, false, length, sym, ◌∙◌, ap, arith}
use Rattle.std.specs.Prelude.{Some}
use Rattle.law_kept.specs.KeptService.{holds_in}
use Rattle.services.specs.Objects.{Objects, by_task}
use Rattle.services.proofs.RoutineLemmas.{first_here, first_later, first_nowhere}
use Rattle.services.proofs.objects.Objects.holder.Goals as goal

pub returns-then-holds-clause-value : goal.returns-then-holds-clause-value
returns-then-holds-clause-value g c =
    let o : Objects = c.args.self.now in
    let test = λ (t : ℕ). holds_in c.args.resource.now (by_task o.slots t) in
    let count = c.task_count-number-end.ensures.value ∙ ap (λ (k : Objects). length k.system.tasks) c.self.view_is in
    let k = c.loop-number.number in
    let low : k < length o.system.tasks = omega (arith, c.loop-number-test.true, count) in
    let passes : test k ≡ true = ap test (sym c.new-task.ensures) ∙ sym (c.holds.ensures ∙ ap (holds_in c.args.resource.now) c.slot.ensures) ∙ c.if-holds.true in
    ap (λ (t : ℕ). Some t) c.new-task.ensures
    ∙ sym (c.loop-number.invariant ∙ first_here test (length o.system.tasks) k low passes)

pub loop-number-preserved : goal.loop-number-preserved
loop-number-preserved g c =
    let o : Objects = c.args.self.now in
    let test = λ (t : ℕ). holds_in c.args.resource.now (by_task o.slots t) in
    let count = c.task_count-number-end.ensures.value ∙ ap (λ (k : Objects). length k.system.tasks) c.self.view_is in
    let k = c.loop-number.number in
    let low : k < length o.system.tasks = omega (arith, c.loop-number-test.true, count) in
    let fails : test k ≡ false = ap test (sym c.new-task.ensures) ∙ sym (c.holds.ensures ∙ ap (holds_in c.args.resource.now) c.slot.ensures) ∙ c.if-holds.false in
    c.loop-number.invariant ∙ first_later test (length o.system.tasks) k low fails

pub returns-clause-value : goal.returns-clause-value
returns-clause-value g c =
    let o : Objects = c.args.self.now in
    let test = λ (t : ℕ). holds_in c.args.resource.now (by_task o.slots t) in
    let count = c.task_count-number-end.ensures.value ∙ ap (λ (k : Objects). length k.system.tasks) c.self.view_is in
    let k = c.loop-number.number in
    let all : k ≡ length o.system.tasks = omega (arith, c.loop-number-test.false, count, c.loop-number.auto.number-end) in
    sym (c.loop-number.invariant ∙ first_nowhere test (length o.system.tasks) k all)
