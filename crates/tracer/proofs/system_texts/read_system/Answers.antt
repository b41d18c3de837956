use Rattle.std.proofs.Common.{Err, ◌∙◌, ap}
use Rattle.std.proofs.lemmas.Result.{err_from_is_err_and}
use Rattle.tracer.proofs.FaultLemmas.{told_of_oil, told_of_programs, told_of_system}
use Rattle.tracer.proofs.TraceLemmas.{if_err}
use Rattle.tracer.proofs.system_texts.read_system.Goals as goal

pub returns-in_err-file-clause-refusal : goal.returns-in_err-file-clause-refusal
returns-in_err-file-clause-refusal c =
    let p = err_from_is_err_and c.from_residual.result c.from_residual.ensures.1 in
    if_err _ _ _ (p.1 ∙ ap Err p.2) (told_of_oil _ _ _ c.in_err-file.ensures.err)

pub returns-in_err-programs-clause-refusal : goal.returns-in_err-programs-clause-refusal
returns-in_err-programs-clause-refusal c =
    let p = err_from_is_err_and c.from_residual-in_err-programs.result c.from_residual-in_err-programs.ensures.1 in
    if_err _ _ _ (p.1 ∙ ap Err p.2) (told_of_programs _ _ _ _ c.in_ok-file.ensures.ok c.in_err-programs.ensures.fault)

pub returns-in_err-generate-clause-refusal : goal.returns-in_err-generate-clause-refusal
returns-in_err-generate-clause-refusal c =
    let p = err_from_is_err_and c.from_residual-in_err-generate.result c.from_residual-in_err-generate.ensures.1 in
    if_err _ _ _ (p.1 ∙ ap Err p.2) (told_of_system _ _ _ _ _ c.in_ok-file.ensures.ok c.in_ok-programs.ensures.programs c.in_err-generate.ensures.fault)
