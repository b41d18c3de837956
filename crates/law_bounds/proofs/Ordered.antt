-- Each label is at least itself, and what is at least a label is at least what that one is.
use Rattle.std.proofs.Common.{refl, ◌∙◌, arith}
use Rattle.law_figures.proofs.AgeOrder.{ages_keep_order}
use Rattle.law_figures.proofs.Blocking.{blocking_keeps_order}
use Rattle.law_figures.proofs.Pending.{pending_keeps_order}
use Rattle.law_figures.proofs.Holding.{holding_keeps_order}
use Rattle.search_labels.specs.Labels.{Labels, IsAtLeast, ages_of, blocked_of, hold_of, pending_of}

pub at_least_itself : (l : Labels) → IsAtLeast l l
at_least_itself l = record {
  rules = refl;
  tasks = refl;
  interrupts = refl;
  resources = refl;
  blockable = refl;
  sooner = λ i. omega arith;
  ages = λ k. ages_keep_order.order.itself (ages_of l k);
  pending = λ i. pending_keeps_order.order.itself (pending_of l i);
  holds = λ r. holding_keeps_order.order.itself (hold_of l r);
  blocked = λ k. blocking_keeps_order.order.itself (blocked_of l k);
}

pub at_least_joined : (l m n : Labels) → IsAtLeast l m → IsAtLeast m n → IsAtLeast l n
at_least_joined l m n first second = record {
  rules = first.rules ∙ second.rules;
  tasks = first.tasks ∙ second.tasks;
  interrupts = first.interrupts ∙ second.interrupts;
  resources = first.resources ∙ second.resources;
  blockable = first.blockable ∙ second.blockable;
  sooner = λ i. let one = first.sooner i in let two = second.sooner i in omega (arith, one, two);
  ages =
      λ k. ages_keep_order.order.joined (ages_of l k) (ages_of m k) (ages_of n k) (first.ages k)
      (second.ages k);
  pending =
      λ i. pending_keeps_order.order.joined (pending_of l i) (pending_of m i) (pending_of n i)
      (first.pending i) (second.pending i);
  holds =
      λ r. holding_keeps_order.order.joined (hold_of l r) (hold_of m r) (hold_of n r)
      (first.holds r) (second.holds r);
  blocked =
      λ k. blocking_keeps_order.order.joined (blocked_of l k) (blocked_of m k) (blocked_of n k)
      (first.blocked k) (second.blocked k);
}
