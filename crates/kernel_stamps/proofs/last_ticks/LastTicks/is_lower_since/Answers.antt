use Rattle.std.proofs.Common.{◌≡◌, ◌≤◌, false, slice_index_or, take, nat_lt, sym, subst, arith}
use Rattle.std.specs.List.{list_any}
use Rattle.kernel_stamps.specs.Last.{Last}
use Rattle.kernel_stamps.proofs.LastLemmas.{none_since}
use Rattle.kernel_stamps.proofs.last_ticks.LastTicks.is_lower_since.Goals as goal

pub returns-then-self-tick : goal.returns-then-self-tick
returns-then-self-tick c =
    let k = c.self.inside in
    subst (λ (l : Last). false ≡ list_any (λ after. nat_lt c.args.tick after) (take l.level l.after)) c.self.view_is
    (sym (none_since c.args.tick k.level k.after (λ l inside.
    let bound : slice_index_or k.after l 0 ≤ k.lower = c.self.invariant.below l inside in
    omega (arith, bound, c.if-self-tick.true))))
