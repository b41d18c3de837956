use Rattle.std.proofs.Common.{ap, ◌==◌, ◌∷◌, [], ◌++◌, ◌∙◌}
use Rattle.std.proofs.lemmas.Bool.{eq-eqb, ne_eqb}
use Rattle.std.specs.Int.{bit_at}
use Rattle.search_nodes.proofs.SetLemmas.{taken, left_out}
use Rattle.search_nodes.proofs.routine_sets.put_each.Goals.{then-set-number-eq1+in_ok-push, else-set-number-eq1}
use Rattle.search_nodes.proofs.routine_sets.put_each.Goals as goal

pub loop-number-preserved : goal.loop-number-preserved
loop-number-preserved c =
    let number = c.loop-number.number in
    let bit = bit_at c.args.set number in
    elim c.if-set-number-eq1.branch [
      | then-set-number-eq1+in_ok-push w ↦ rw w.routines-is
          (taken (λ i. bit_at c.args.set i == 1) number c.loop-number.routines.items
          w.push.new.self.items
          c.loop-number.invariant (eq-eqb bit 1 w.if-set-number-eq1.true)
          (w.in_ok-push.ensures.items
          ∙ ap (λ k. c.loop-number.routines.items ++ k ∷ []) w.new.ensures))
      | else-set-number-eq1 w ↦ rw w.routines-is
          (left_out (λ i. bit_at c.args.set i == 1) number c.loop-number.routines.items
          c.loop-number.invariant
          (ne_eqb bit 1 w.if-set-number-eq1.false))
    ]
