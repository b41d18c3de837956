-- Each step says one statement more, or passes the end of a line.
use Rattle.std.proofs.Common.{◌+◌, arith, sym, subst, List, length-drop}
use Rattle.std.proofs.lemmas.List.{take_rest}
use Rattle.task_asm.specs.Statements.{Statement}
use Rattle.task_asm.proofs.StatementLemmas.{GoesOn, on_line_end, on_label, on_head, at_end, label_inside}
use Rattle.task_asm.proofs.statements.read_statements.Goals as goal

pub tokens-preserved-in-Some : goal.tokens-preserved-in-Some
tokens-preserved-in-Some c =
    let xs = c.args.tokens.now in
    let n = c.tokens.next in
    let label = rw take_rest at c.in-Some.ensures in
    record {
      within = label_inside xs n c.in-Some.word.now label;
      goes_on = subst (λ (es : List Statement). GoesOn xs (n + 2) es) (sym c.in_ok-push.ensures.items)
          (on_label xs n _ c.tokens.statements.items c.in-Some.word.now label c.tokens.invariant.goes_on);
    }

pub tokens-preserved-then-is_line_end : goal.tokens-preserved-then-is_line_end
tokens-preserved-then-is_line_end c = record {
  within = omega arith;
  goes_on = on_line_end c.args.tokens.now c.tokens.next _ c.tokens.statements.items c.tokens-test.true (sym c.if-is_line_end.ensures) c.tokens.invariant.goes_on;
}

pub tokens-preserved : goal.tokens-preserved
tokens-preserved c =
    let xs = c.args.tokens.now in
    let n = c.tokens.next in
    let no_label = rw take_rest at c.in_default.ensures in
    let len = rw take_rest at c.line_len-len.ensures.len in
    let fits = rw take_rest at c.line_len-len.ensures.within in
    record {
      within = omega (arith, fits, length-drop (n + 1) xs);
      goes_on = subst (λ (es : List Statement). GoesOn xs (n + (1 + c.line_len-len.result)) es) (sym c.in_ok-push-2.ensures.items)
          (on_head xs n c.line_len-len.result _ c.tokens.statements.items _ c.tokens-test.true (sym c.if-is_line_end.ensures) no_label len
          c.in_ok-item.ensures c.tokens.invariant.goes_on);
    }

pub returns : goal.returns
returns c = at_end c.args.tokens.now c.tokens.next c.tokens.statements.items c.tokens-test.false c.tokens.invariant.goes_on
