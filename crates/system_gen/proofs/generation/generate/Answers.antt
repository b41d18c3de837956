use Rattle.std.proofs.Common.{◌≡◌, true, sym, subst, ap, ◌∙◌}
use Rattle.osek_base.specs.Proper.{IsProper}
use Rattle.system_gen.specs.Generated.{generated}
use Rattle.system_gen.specs.Typed.{are_typed}
use Rattle.system_gen.specs.Faults.{generation_fault}
use Rattle.system_gen.proofs.GeneratedProper.{generated_proper}
use Rattle.system_gen.proofs.generation.generate.Goals as goal

pub new-requires : goal.new-requires
new-requires c =
    let programs = c.args.programs.items in
    let same = c.as_slice.ensures.value in
    let sound = ap (generation_fault c.args.file) (sym same) ∙ c.in_ok-parts.ensures.sound in
    let typed = subst (λ x. are_typed x ≡ true) same c.in_ok-parts.ensures.typed in
    let made = c.in_ok-parts.ensures.made ∙ ap (generated c.args.file) same in
    let proper = generated_proper c.args.file programs c.stays_checked.ensures typed sound in
    subst IsProper (sym made) proper
