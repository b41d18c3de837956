use Rattle.std.proofs.Common.{◌≡◌, ◌≤◌, ◌∙◌, List, length, ◌++◌, ◌-◌, ap, subst, arith}
use Rattle.seen_ticks.specs.declared.observation.Observation.{Observation}
use Rattle.seen_ticks.specs.Seen.{alike_ticks}
use Rattle.view_timelines.specs.Rows.{AreRows}
use Rattle.view_timelines.specs.Marks.{AreMarks}
use Rattle.view_timelines.proofs.AlikeLemmas.{joined, reaches}
use Rattle.view_timelines.proofs.timeline.Timeline.observe_alike.Goals as goal

-- those before the first that is drawn, those that are drawn, and those behind
pub returns-clause-rows : goal.returns-clause-rows
returns-clause-rows c = λ seen counts le are.
    let S = c.args.system.now in
    let o = c.args.observation.now in
    let first = c.args.first in
    let part = c.drawn_part-begins.ensures in
    let begins = c.drawn_part-begins.result.0 in
    let ends = c.drawn_part-begins.result.1 in
    let before : first ≤ begins = part.before le in
    let one : List Observation = seen ++ alike_ticks o first (begins - first) in
    let two : List Observation = one ++ alike_ticks o begins (ends - begins) in
    let at_begins : length one ≡ begins = reaches o first begins seen before counts in
    let at_ends : length two ≡ ends = reaches o begins ends one part.within at_begins in
    let all = c.pass_alike-2.ensures.rows S two at_ends part.behind
    (c.in_ok-draw_alike.ensures.rows one at_begins part.within (c.pass_alike.ensures.rows S seen counts before are)) in
    subst (λ ws. AreRows S ws c.pass_alike-2.new.self)
    (ap (λ ws. ws ++ alike_ticks o ends (c.args.end - ends)) (joined o first begins ends seen before part.within)
    ∙ joined o first ends c.args.end seen (omega (arith, before, part.within)) part.behind)
    all

pub returns-clause-marks : goal.returns-clause-marks
returns-clause-marks c = λ told seen counts le none are.
    let S = c.args.system.now in
    let o = c.args.observation.now in
    let first = c.args.first in
    let part = c.drawn_part-begins.ensures in
    let begins = c.drawn_part-begins.result.0 in
    let ends = c.drawn_part-begins.result.1 in
    let before : first ≤ begins = part.before le in
    let one : List Observation = seen ++ alike_ticks o first (begins - first) in
    let two : List Observation = one ++ alike_ticks o begins (ends - begins) in
    let at_begins : length one ≡ begins = reaches o first begins seen before counts in
    let at_ends : length two ≡ ends = reaches o begins ends one part.within at_begins in
    let all = c.pass_alike-2.ensures.marks S told two at_ends part.behind
    (c.in_ok-draw_alike.ensures.marks told one at_begins part.within
    (λ t from low. none t (omega (arith, from, before)) (omega (arith, low, part.behind)))
    (c.pass_alike.ensures.marks S told seen counts before are)) in
    subst (λ ws. AreMarks S told ws c.pass_alike-2.new.self)
    (ap (λ ws. ws ++ alike_ticks o ends (c.args.end - ends)) (joined o first begins ends seen before part.within)
    ∙ joined o first ends c.args.end seen (omega (arith, before, part.within)) part.behind)
    all
