use Rattle.std.proofs.Common.{◌∙◌, ap, sym}
use Rattle.analysis_bounds.specs.Levels.{numbered}
use Rattle.analysis_bounds.proofs.NodeLemmas.{begin_paid}
use Rattle.analysis_bounds.proofs.beginning.node_is_paid.Goals as goal

pub returns : goal.returns
returns c h n price there paid =
    begin_paid c.args.system.now c.args.graph.now c.args.level.now c.args.number n
    c.index-node.result.now c.index-links.result.now price c.number_at-price.result
    c.requires.graph c.requires.all c.index-node.ensures c.index-links.ensures there paid
    (c.number_at-price.ensures ∙ ap (λ list. numbered list c.args.number) c.deref.ensures.value)
    c.if-price-lt1.false (sym c.section_is_paid.ensures ∙ c.if-not-section_is_paid.false)
    (c.fresh_is_paid.ensures c.if-not-fresh_is_paid.false) (c.woken_is_paid.ensures h)
