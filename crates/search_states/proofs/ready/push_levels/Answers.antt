use Rattle.std.proofs.Common.{ap, arith, refl}
use Rattle.services.specs.CompactQueues.{tasks_at}
use Rattle.search_keys.specs.Key.{level_key}
use Rattle.search_states.proofs.SetLemmas.{written_next, written_all}
use Rattle.search_states.proofs.ready.push_levels.Goals as goal

pub loop-level-preserved : goal.loop-level-preserved
loop-level-preserved c = (
  omega (arith, c.in-Some.ensures.low),
  written_next _ c.levels_of-levels.result c.loop-level.from
      (λ n. level_key n (tasks_at c.args.entries.now n))
      (λ n low none. ap (level_key n) (c.levels_of-levels.ensures n low none))
      c.loop-level.out.items _ _ c.in-Some.level _ c.in-Some.ensures c.in_ok-push_level.ensures
      refl c.loop-level.invariant.1 (omega arith),
)

pub returns : goal.returns
returns c =
    written_all _ c.levels_of-levels.result c.loop-level.from
    (λ n. level_key n (tasks_at c.args.entries.now n))
    (λ n low none. ap (level_key n) (c.levels_of-levels.ensures n low none))
    c.loop-level.out.items c.loop-level.invariant.0 c.in_default.ensures c.loop-level.invariant.1
