use Rattle.std.proofs.Common.{◌≡◌, ◌<◌, List, [], length, refl, ◌∙◌, ap, sym, arith}
use Rattle.seen_ticks.specs.declared.routine_seen.RoutineSeen.{RoutineSeen}
use Rattle.osek_base.specs.System.{System}
use Rattle.kernel.proofs.Filled.{goes_on}
use Rattle.seen_ticks.specs.Observed.{is_pending, routine_seen}
use Rattle.seen_runs.specs.Keeping.{last_tick}
use Rattle.kernel.proofs.Replacing.{next_is, none_replaced, one_replaced}
use Rattle.seen_ticks.proofs.SeenSteps.{read_at, seen_count}
use Rattle.seen_runs.proofs.told_run.ToldRun.see_routines.Goals as goal

pub routine_seen-requires-clause-pending : goal.routine_seen-requires-clause-pending
routine_seen-requires-clause-pending g c =
    let r = c.args.self.now in
    let all : c.routine_count-count.result ≡ length r.system.routines =
    c.routine_count-count.ensures.value ∙ ap (λ (S : System). length S.routines) c.system.ensures in
    let low = c.loop-number-test.true in
    let within : c.loop-number.number < length r.system.routines = omega (arith, low, all) in
    let (long, done, replaced) = c.loop-number.invariant in
    next_is (is_pending (last_tick r).after) c.as_mut_slice-were.result.now (length r.system.routines) c.loop-number.number c.loop-number.were replaced _
    ∙ read_at (is_pending (last_tick r).before) (length r.system.routines) c.as_mut_slice-were.result.now c.args.pending.now.items
    c.loop-number.number c.loop-number.number _ c.as_mut_slice-were.ensures.value c.requires.pending refl within
    ∙ ap (is_pending (last_tick r).before) (sym c.new-routine.ensures)

pub loop-number-init : goal.loop-number-init
loop-number-init g c =
    let r = c.args.self.now in
    let all : c.routine_count-count.result ≡ length r.system.routines =
    c.routine_count-count.ensures.value ∙ ap (λ (S : System). length S.routines) c.system.ensures in (
      ap (λ (v : List RoutineSeen). length v) c.as_mut_slice-places.ensures.value ∙ c.give_places.ensures ∙ all,
      refl {a = []},
      none_replaced (is_pending (last_tick r).after) c.as_mut_slice-were.result.now (length r.system.routines)
          (seen_count (is_pending (last_tick r).before) (length r.system.routines) c.as_mut_slice-were.result.now
          (c.as_mut_slice-were.ensures.value ∙ c.requires.pending)),
    )

pub loop-number-preserved : goal.loop-number-preserved
loop-number-preserved g c =
    let r = c.args.self.now in
    let low = c.loop-number-test.true in
    let all : c.routine_count-count.result ≡ length r.system.routines =
    c.routine_count-count.ensures.value ∙ ap (λ (S : System). length S.routines) c.system.ensures in
    let (long, done, replaced) = c.loop-number.invariant in
    let (longer, more) =
    goes_on (routine_seen (last_tick r)) c.loop-number.number c.loop-number.places (length r.system.routines) c.routine_count-count.result c.new-routine.result
    (long, done) low all c.new-routine.ensures c.routine_seen.result c.routine_seen.ensures.seen in (
      longer,
      more,
      one_replaced (is_pending (last_tick r).after) c.as_mut_slice-were.result.now (length r.system.routines) c.loop-number.number c.loop-number.were
          replaced (omega (arith, low, all))
          (seen_count (is_pending (last_tick r).before) (length r.system.routines) c.as_mut_slice-were.result.now
          (c.as_mut_slice-were.ensures.value ∙ c.requires.pending))
          c.routine_seen.new.pending
          (c.routine_seen.ensures.pending ∙ ap (is_pending (last_tick r).after) c.new-routine.ensures),
    )
