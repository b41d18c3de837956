use Rattle.std.proofs.Common.{◌≡◌, ◌∙◌, ◌++◌, ℕ, List, ap}
use Rattle.std.specs.List.{flat_map}
use Rattle.std.specs.String.{string_bytes}
use Rattle.osek_base.specs.Lists.{is_empty}
use Rattle.view_figure_texts.specs.Limits.{broken_text, limit_lines, lines_where, loss_lines, refusal_lines}
use Rattle.view_figure_texts.proofs.VerdictLemmas.{empty_where_kept}
use Rattle.view_figure_texts.proofs.broken.broken_limits.Goals as goal

pub returns-clause-verdict : goal.returns-clause-verdict
unfolding broken_text
returns-clause-verdict c =
    let S = c.args.system.now in
    let f = c.args.figures.now in
    let limits = c.args.limits.now in
    let times = flat_map (limit_lines S f) limits.times.now in
    let losses = lines_where limits.no_loss (loss_lines S f) in
    let refusals = lines_where limits.no_refusal (refusal_lines S f) in
    let text : string_bytes c.push_refusals_where.new.lines ≡ broken_text S f limits =
    c.in_ok-push_refusals_where.ensures
    ∙ ap (λ (x : List ℕ). x ++ refusals) (c.in_ok-push_losses_where.ensures
    ∙ ap (λ (x : List ℕ). x ++ losses) (c.in_ok-push_limits.ensures ∙ ap (λ (x : List ℕ). x ++ times) c.new-lines.ensures.bytes)) in
    ap is_empty text ∙ empty_where_kept S f limits
