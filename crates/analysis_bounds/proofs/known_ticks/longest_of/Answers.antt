use Rattle.std.proofs.Common.{refl}
use Rattle.std.proofs.lemmas.Option.{IfSome_then}
use Rattle.analysis_bounds.proofs.TickLemmas.{short_by_rounds}
use Rattle.analysis_bounds.proofs.known_ticks.longest_of.Goals as goal

pub returns : goal.returns
returns c =
    IfSome_then c.most_at_expiries.result c.most_at_expiries.ensures
    (λ new short.
    short_by_rounds c.args.system.now c.args.rules.now c.args.level.now c.args.timings.now
    new.most c.in_ok-round.round.first c.in_ok-round.round.ticks c.in_ok-end.end
    (c.if-not-are_periodic.ensures refl) (c.if-not-is_round.ensures refl) c.in_ok-end.ensures.1 short)
