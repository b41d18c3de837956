use Rattle.std.proofs.Common.{sym, ◌∙◌, subst}
use Rattle.std.specs.Prelude.{IfSome}
use Rattle.search.specs.Rules.{NoneMay, NoMoreMay}
use Rattle.search.specs.Visited.{GoesOn}
use Rattle.search.proofs.VisitLemmas.{again, ends, goes_on, goes_past}
use Rattle.search.proofs.searching.try_choices.Goals as goal
use Rattle.search.proofs.searching.try_choices.Goals.{In_ok-try_choice}
use Rattle.search.proofs.searching.try_choices.Given.{Over}

-- a choice was tried under the setting in which the visit began
tried : (g : Over) (c : In_ok-try_choice g)
    → GoesOn (g.S.Steps.rules (g.S.Steps.setting c.args.steps.now)) (g.S.Steps.is_noted c.try_choice.new.steps) c.choices.table.nodes.items c.choices.table.agenda
    c.try_choice.new.table.nodes.items c.try_choice.new.table.agenda c.args.number c.in-Some.choice c.in_ok-try_choice.field-0
tried g c =
    subst (λ s. GoesOn (g.S.Steps.rules s) (g.S.Steps.is_noted c.try_choice.new.steps) c.choices.table.nodes.items c.choices.table.agenda
    c.try_choice.new.table.nodes.items c.try_choice.new.table.agenda c.args.number c.in-Some.choice c.in_ok-try_choice.field-0)
    c.choices.invariant.setting c.in_ok-try_choice.ensures.tries

pub try_choice-requires-clause-may : goal.try_choice-requires-clause-may
try_choice-requires-clause-may g c =
    subst (λ o. IfSome o (λ x. (g.S.Steps.rules (g.S.Steps.setting c.choices.steps)).may x c.in-Some.choice)) (sym c.node.ensures) c.in-Some.ensures.next.may

pub returns-in-Itself-clause-visits : goal.returns-in-Itself-clause-visits
returns-in-Itself-clause-visits g c =
    again (g.S.Steps.rules (g.S.Steps.setting c.args.steps.now)) c.kept.ensures g.S.Steps.is_noted
    c.choices.steps c.try_choice.new.steps c.in_ok-try_choice.ensures.notes
    c.args.table.now.nodes.items c.choices.table.nodes.items c.try_choice.new.table.nodes.items c.args.table.now.agenda c.choices.table.agenda
    c.try_choice.new.table.agenda c.args.number c.choices.from c.in-Some.choice c.choices.invariant.visiting
    (subst (GoesOn (g.S.Steps.rules (g.S.Steps.setting c.args.steps.now)) (g.S.Steps.is_noted c.try_choice.new.steps) c.choices.table.nodes.items
    c.choices.table.agenda c.try_choice.new.table.nodes.items c.try_choice.new.table.agenda c.args.number c.in-Some.choice) c.in-Itself.is
    (tried g (goal.at.returns-in-Itself-clause-visits g c).In_ok-try_choice))

pub choices-preserved : goal.choices-preserved
choices-preserved g c =
    let past =
    subst (GoesOn (g.S.Steps.rules (g.S.Steps.setting c.args.steps.now)) (g.S.Steps.is_noted c.try_choice.new.steps) c.choices.table.nodes.items
    c.choices.table.agenda c.try_choice.new.table.nodes.items c.try_choice.new.table.agenda c.args.number c.in-Some.choice) c.in-Before.is
    (tried g (goal.at.choices-preserved g c).In_ok-try_choice) in
    record {
      setting = c.in_ok-try_choice.ensures.setting ∙ c.choices.invariant.setting;
      notes = λ x choice noted. c.in_ok-try_choice.ensures.notes x choice (c.choices.invariant.notes x choice noted);
      visiting =
          goes_past (g.S.Steps.rules (g.S.Steps.setting c.args.steps.now)) g.S.Steps.is_noted
          c.choices.steps c.try_choice.new.steps c.in_ok-try_choice.ensures.notes
          c.args.table.now.nodes.items c.choices.table.nodes.items c.try_choice.new.table.nodes.items c.args.table.now.agenda c.choices.table.agenda
          c.try_choice.new.table.agenda c.args.number c.choices.from c.in-Some.choice c.choices.invariant.visiting past
          c.node.result.now c.node.ensures
          (subst (λ s. NoneMay (g.S.Steps.rules s) c.node.result.now c.choices.from c.in-Some.choice) c.choices.invariant.setting c.in-Some.ensures.next.others);
    }

pub choices-preserved-in-Apart : goal.choices-preserved-in-Apart
choices-preserved-in-Apart g c =
    let went =
    subst (GoesOn (g.S.Steps.rules (g.S.Steps.setting c.args.steps.now)) (g.S.Steps.is_noted c.try_choice.new.steps) c.choices.table.nodes.items
    c.choices.table.agenda c.try_choice.new.table.nodes.items c.try_choice.new.table.agenda c.args.number c.in-Some.choice) c.in-Apart.is
    (tried g (goal.at.choices-preserved-in-Apart g c).In_ok-try_choice) in
    record {
      setting = c.in_ok-try_choice.ensures.setting ∙ c.choices.invariant.setting;
      notes = λ x choice noted. c.in_ok-try_choice.ensures.notes x choice (c.choices.invariant.notes x choice noted);
      visiting =
          goes_on (g.S.Steps.rules (g.S.Steps.setting c.args.steps.now)) c.kept.ensures g.S.Steps.is_noted
          c.choices.steps c.try_choice.new.steps c.in_ok-try_choice.ensures.notes
          c.args.table.now.nodes.items c.choices.table.nodes.items c.try_choice.new.table.nodes.items c.args.table.now.agenda c.choices.table.agenda
          c.try_choice.new.table.agenda c.args.number c.choices.from c.in-Some.choice c.choices.invariant.visiting went.0
          c.node.result.now c.node.ensures c.in-Some.ensures.next.high
          (subst (λ s. NoneMay (g.S.Steps.rules s) c.node.result.now c.choices.from c.in-Some.choice) c.choices.invariant.setting c.in-Some.ensures.next.others)
          went.1;
    }

pub returns-clause-visits : goal.returns-clause-visits
returns-clause-visits g c =
    ends (g.S.Steps.rules (g.S.Steps.setting c.args.steps.now)) (g.S.Steps.is_noted c.choices.steps) c.args.table.now.nodes.items c.choices.table.nodes.items
    c.args.table.now.agenda c.choices.table.agenda c.args.number c.choices.from c.choices.invariant.visiting c.node.result.now c.node.ensures
    (subst (λ s. NoMoreMay (g.S.Steps.rules s) c.node.result.now c.choices.from) c.choices.invariant.setting c.in_default.ensures.none)
