use Rattle.std.proofs.Common.{sym, subst}
use Rattle.std.specs.Prelude.{IfSome}
use Rattle.search.proofs.searching.try_choice.Goals as goal

pub repeats-requires : goal.repeats-requires
repeats-requires g c =
    subst (λ o. IfSome o (λ x. (g.S.Steps.rules (g.S.Steps.setting c.args.steps.now)).may x c.args.choice)) c.node.ensures c.requires.may

pub next-requires : goal.next-requires
next-requires g c =
    subst (λ s. (g.S.Steps.rules s).may c.node-2.result.now c.args.choice) (sym c.repeats.ensures.setting)
    (subst (λ o. IfSome o (λ x. (g.S.Steps.rules (g.S.Steps.setting c.args.steps.now)).may x c.args.choice)) c.node-2.ensures c.requires.may)
