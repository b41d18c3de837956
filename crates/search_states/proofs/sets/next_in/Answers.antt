use Rattle.std.proofs.Common.{◌<◌, ◌/◌, ◌^◌, refl, arith}
use Rattle.std.proofs.lemmas.Nat.{shr_le}
use Rattle.search_states.proofs.SetLemmas.{lowest, none_left}
use Rattle.search_states.proofs.sets.next_in.Goals as goal

pub returns-then-left-eq0 : goal.returns-then-left-eq0
returns-then-left-eq0 c = none_left c.args.set c.args.from c.if-left-eq0.true

pub returns : goal.returns
returns c =
    let less = shr_le c.args.set c.args.from in
    let fits : c.args.set / 2 ^ c.args.from < 2 ^ 64 = omega (arith, less, c.ranges.set.fits) in
    lowest c.args.set c.args.from (c.args.set / 2 ^ c.args.from) refl c.if-left-eq0.false fits
    c.ranges.set.fits
