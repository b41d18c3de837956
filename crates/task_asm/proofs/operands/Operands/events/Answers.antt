-- A + and a name go from what is still to be read to what was read.
use Rattle.std.proofs.Common.{List, ℕ, sym, ap, ◌∙◌}
use Rattle.std.specs.Option.{option_map}
use Rattle.task_asm.specs.Rest.{rest_of}
use Rattle.task_asm.specs.Lines.{more_names}
use Rattle.task_asm.proofs.EventLemmas.{more_some, behind, behind_with}
use Rattle.task_asm.proofs.operands.Operands.events.Goals as goal

pub more-preserved : goal.more-preserved
more-preserved c =
    let last = rest_of c.name-in-more.new.self in
    let names = c.more.names in
    let n = c.in_ok-name.name in
    let step = more_some (rest_of c.more.self) (rest_of c.plus.new.self) n last c.more-test.ensures c.in_ok-name.ensures in
    let joined = c.in_ok-join.ensures in
    c.more.invariant ∙ ap (option_map (behind names)) step ∙ behind_with names n (more_names last)
    ∙ ap (λ (xs : List (List ℕ)). option_map (behind xs) (more_names last)) (sym joined)
