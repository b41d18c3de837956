use Rattle.std.proofs.Common.{ℕ, List, sym, subst, ◌∙◌}
use Rattle.osek_base.specs.declared.ids.Owner.{Owner}
use Rattle.trace_lines.specs.Programs.{AreTextsOf, EachAt}
use Rattle.trace_lines.proofs.EachLemmas.{each_more, one_longer}
use Rattle.trace_lines.proofs.instruction_texts.task_texts.Goals as goal

pub tasks-preserved : goal.tasks-preserved
tasks-preserved c =
    let Told : ℕ → List (List ℕ) → Type 0 = λ n. AreTextsOf c.args.system.now (Owner.Task n) in
    let programs : List (List (List ℕ)) = c.tasks.programs.items in
    let program : List (List ℕ) = c.in_ok-of.field-0 in
    let v = c.tasks.invariant in
    record {
      numbered = one_longer programs _ program c.tasks.number v.numbered c.in_ok-push_program.ensures;
      told =
          subst (λ (ps : List (List (List ℕ))). EachAt Told ps) (sym c.in_ok-push_program.ensures)
          (each_more Told programs program v.told (subst (λ n. Told n program) (c.new.ensures ∙ sym v.numbered) c.in_ok-of.ensures));
    }
