-- The places that are at hand are those that the labels name.
use Rattle.std.proofs.Common.{◌≡◌, ◌∙◌, Some, inr, sym, ap, length}
use Rattle.task_asm.specs.Walk.{targets_of, programs_with, first_fault}
use Rattle.task_asm.proofs.ProgramLemmas.{programs_are, targets_length}
use Rattle.task_asm.specs.Meaning.{Says}
use Rattle.task_asm.proofs.Firsts.{is_first}
use Rattle.task_asm.proofs.StandLemmas.{none_stands}
use Rattle.task_asm.proofs.assembler.assemble.Goals as goal

pub programs-requires : goal.programs-requires
programs-requires c =
    let es = c.in_ok-statements.statements.items in
    sym (ap length (c.as_slice-4.ensures.value ∙ c.in_ok-targets.ensures ∙ ap targets_of c.as_slice-3.ensures.value) ∙ targets_length es es)

pub returns-clause-programs : goal.returns-clause-programs
returns-clause-programs c =
    let es = c.in_ok-statements.statements.items in
    let targets = c.as_slice-4.ensures.value ∙ c.in_ok-targets.ensures ∙ ap targets_of c.as_slice-3.ensures.value in
    record {
      statements = es;
      says = record { tokens = _; lexes = c.in_ok-tokens.ensures.tokens; reads = rw c.as_slice.ensures.value at c.in_ok-statements.ensures };
      faultless = λ e. none_stands es e (ap first_fault (sym c.as_slice-2.ensures.value) ∙ sym c.in_ok-fault.ensures ∙ c.in_default.is);
      are = c.in_ok-programs.ensures ∙ ap (programs_with es) targets ∙ programs_are es es;
    }

pub returns-in-Some-clause-fault : goal.returns-in-Some-clause-fault
returns-in-Some-clause-fault c =
    let es = c.in_ok-statements.statements.items in
    let says : Says c.args.text.now es =
    record { tokens = _; lexes = c.in_ok-tokens.ensures.tokens; reads = rw c.as_slice.ensures.value at c.in_ok-statements.ensures } in
    let found : first_fault es ≡ Some c.in-Some.fault = ap first_fault (sym c.as_slice-2.ensures.value) ∙ sym c.in_ok-fault.ensures ∙ c.in-Some.is in
    inr (record { statements = es; says = says; first = is_first c.args.text.now es c.in-Some.fault says found })
