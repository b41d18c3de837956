use Rattle.std.proofs.Common.{◌≡◌, length, sym, ◌∙◌, ap, subst, arith}
use Rattle.osek_base.specs.System.{System}
use Rattle.osek_base.specs.Separable.{IsOwner}
use Rattle.osek_base.specs.declared.ids.Owner.{Owner}
use Rattle.trace_lines.specs.Programs.{AreTextsOf, IsTextAt}
use Rattle.trace_lines.proofs.EachLemmas.{each_at}
use Rattle.trace_lines.proofs.instruction_texts.InstructionTexts.executed_text.Goals as goal

pub returns-in-Task : goal.returns-in-Task
returns-in-Task c =
    let S : System = c.self.inside.system.now in
    let executed = c.args.executed.now in
    let texts = c.self.invariant.0 in
    let owner = subst (IsOwner c.args.self.now) c.in-Task.is c.requires.owner in
    let same : length S.tasks ≡ length c.args.self.now.tasks = ap (λ (T : System). length T.tasks) c.self.view_is in
    let program = each_at (λ n. AreTextsOf S (Owner.Task n)) c.self.inside.tasks.items c.number.result c.index-program.result.now texts.each
    (omega (arith, c.number.ensures.is, texts.counted, owner, same)) c.index-program.ensures in
    subst (λ (T : System). IsTextAt T executed.owner executed.place c.text.result.now) c.self.view_is
    (subst (λ (who : Owner). IsTextAt S who executed.place c.text.result.now) (ap Owner.Task c.number.ensures.is ∙ sym c.in-Task.is)
    (program.each executed.place c.text.result.now c.text.ensures))

pub returns-in-Routine : goal.returns-in-Routine
returns-in-Routine c =
    let S : System = c.self.inside.system.now in
    let executed = c.args.executed.now in
    let texts = c.self.invariant.1 in
    let owner = subst (IsOwner c.args.self.now) c.in-Routine.is c.requires.owner in
    let same : length S.routines ≡ length c.args.self.now.routines = ap (λ (T : System). length T.routines) c.self.view_is in
    let program = each_at (λ n. AreTextsOf S (Owner.Routine n)) c.self.inside.routines.items c.number-in-Routine.result c.index-program-in-Routine.result.now texts.each
    (omega (arith, c.number-in-Routine.ensures.is, texts.counted, owner, same)) c.index-program-in-Routine.ensures in
    subst (λ (T : System). IsTextAt T executed.owner executed.place c.text-in-Routine.result.now) c.self.view_is
    (subst (λ (who : Owner). IsTextAt S who executed.place c.text-in-Routine.result.now) (ap Owner.Routine c.number-in-Routine.ensures.is ∙ sym c.in-Routine.is)
    (program.each executed.place c.text-in-Routine.result.now c.text-in-Routine.ensures))
