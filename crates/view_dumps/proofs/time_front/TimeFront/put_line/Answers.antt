use Rattle.std.proofs.Common.{◌≡◌, ◌+◌, ◌-◌, ◌%◌, [], ◌∷◌, take, ◌∙◌, ap, ◌++◌, arith}
use Rattle.view_dumps.proofs.TimeLemmas.{line_pushed}
use Rattle.view_dumps.proofs.time_front.TimeFront.put_line.Goals as goal

pub returns-clause-same : goal.returns-clause-same
returns-clause-same c =
    let inside = c.self.inside in
    let tens = c.self.view_is ∙ c.go_to.ensures in
    let digit : c.args.tick - inside.first ≡ c.args.tick % 10 = omega (arith, c.self.invariant.1, tens) in
    line_pushed [] (take inside.len inside.cells) c.push_front.new.self c.push_array.new.self c.args.tick inside.tens tens
    c.ranges.tick.fits c.self.invariant.2
    (c.push_front.ensures.same ∙ ap (λ l. l ++ take inside.len inside.cells) c.clear.ensures)
    (c.push_array.ensures.same ∙ ap (λ d. c.push_front.new.self ++ (48 + d) ∷ 10 ∷ []) digit)
