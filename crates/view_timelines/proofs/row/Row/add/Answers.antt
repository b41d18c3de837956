use Rattle.std.proofs.Common.{sym, ◌∙◌}
use Rattle.view_timelines.proofs.StretchLemmas.{goes_on, begins, begins_first, further}
use Rattle.view_timelines.proofs.row.Row.add.Goals as goal

pub returns-then-is_same-clause-step : goal.returns-then-is_same-clause-step
returns-then-is_same-clause-step c = goes_on _ _ _ c.in-Some.last _ _ _ (sym c.self.view_is) c.in-Some.is (sym c.is_same.ensures ∙ c.if-is_same.true) c.until.ensures

pub returns-then-is_same-clause-stretches : goal.returns-then-is_same-clause-stretches
returns-then-is_same-clause-stretches c = further _ _ _ _ (returns-then-is_same-clause-step c)

pub returns-in_ok-push-in-Some-clause-step : goal.returns-in_ok-push-in-Some-clause-step
returns-in_ok-push-in-Some-clause-step c = begins _ _ _ _ c.in-Some.last _ _ _ (sym c.self.view_is) c.in-Some.is (sym c.is_same.ensures ∙ c.if-is_same.false) c.new.ensures c.in_ok-push-in-Some.ensures.items

pub returns-in_ok-push-in-Some-clause-stretches : goal.returns-in_ok-push-in-Some-clause-stretches
returns-in_ok-push-in-Some-clause-stretches c = further _ _ _ _ (returns-in_ok-push-in-Some-clause-step c)

pub returns-in-None-clause-step : goal.returns-in-None-clause-step
returns-in-None-clause-step c = begins_first _ _ _ _ _ _ (sym c.self.view_is) c.in-None.is c.self.invariant c.new-in-None.ensures

pub returns-in-None-clause-stretches : goal.returns-in-None-clause-stretches
returns-in-None-clause-stretches c = further _ _ _ _ (returns-in-None-clause-step c)
