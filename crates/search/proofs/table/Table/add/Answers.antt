use Rattle.std.proofs.Common.{◌≡◌, ◌+◌, length, ap, ◌∙◌, arith}
use Rattle.std.proofs.lemmas.List.{length_push}
use Rattle.search.proofs.NumberLemmas.{below_more, below_result}
use Rattle.search.proofs.table.Table.add.Goals as goal

pub invariant_of-self-2 : goal.invariant_of-self-2
invariant_of-self-2 g c =
    let before = c.args.self.now.nodes.items in
    let after = c.push.new.self.items in
    let more : length after ≡ length before + 1 = ap length c.in_ok-push.ensures.items ∙ length_push before c.args.node in
    record {
      inside =
          below_result c.put.result (length after) c.len-number.result c.args.self.now.agenda c.put.new.self
          (omega (arith, more, c.len-number.ensures, c.args.self.now.nodes.ok.0))
          (below_more (length before) (length after) c.args.self.now.agenda (omega (arith, more)) c.args.self.now.inside)
          c.put.ensures.ok c.put.ensures.err;
    }
