-- States with one key have one future, and show the same.
use Rattle.std.proofs.Common.{ℕ, ◌≡◌, ◌+◌, false, List, map, length, refl, sym, ◌∙◌, ap, subst}
use Rattle.std.proofs.Math.Path.{fun_ext}
use Rattle.osek_base.specs.declared.arrivals.Arrival.{Arrival}
use Rattle.osek_base.specs.Lists.{below}
use Rattle.osek_base.specs.Proper.{IsProper}
use Rattle.osek_base.specs.System.{System}
use Rattle.osek_base.specs.Trace.{Run, run}
use Rattle.law_runs.specs.Arrived.{with_arrived}
use Rattle.law_runs.proofs.Arriving.{goes_on_by_any}
use Rattle.law_kept.specs.Kept.{Kept, kept}
use Rattle.law_kept.specs.KeptTick.{KeptStep, boot_in, tick_in}
use Rattle.law_kept.specs.Moves.{KeptRecorded}
use Rattle.law_kept.proofs.Ticked.{boots, ticks}
use Rattle.law_future.specs.Need.{Need, Suffices}
use Rattle.law_future.specs.Same.{HasAllowedIndices, HaveSameNeeded}
use Rattle.law_future.proofs.Runs.{runs_keep_indices}
use Rattle.law_future.specs.Alike.{AreAlikeBy, kept_after}
use Rattle.law_future.specs.AlikeIn.{AreAlikeIn, TicksAreAlikeIn}
use Rattle.law_future.proofs.AlikeIn.{alike_in_ticks}
use Rattle.law_seen.specs.Seen.{executor_in, failure_in, seen_by, seen_in}
use Rattle.law_seen.specs.Shown.{KeptTicked, ticked_in}
use Rattle.law_seen.specs.ShownAlike.{AreShownAlike}
use Rattle.law_seen.proofs.AlikeShown.{alike_show}
use Rattle.law_seen.proofs.NeededShown.{same_needed_show}
use Rattle.search_keys.specs.InRange.{AlikeHaveOneKey, IsInRange, KeysTell, RunsAreInRange}
use Rattle.law_bounds.specs.Going.{GoOnAlike, HaveOneFuture, KeysTellFutures}
use Rattle.law_bounds.specs.Nodes.{Comes}

-- ---- what is seen

seen_same : (S : System) (x y : KeptTicked) → AreShownAlike S x y → seen_by S x ≡ seen_by S y
seen_same S x y alike = λ i. record {
  tasks = map (fun_ext alike.tasks i) (below (length S.tasks));
  routines = map (fun_ext alike.routines i) (below (length S.routines));
  holders = alike.holders i;
  alarms = map (fun_ext alike.alarms i) (below (length S.alarms));
}

-- a state as another one, but at the time of a third
abbrev at_time_of : Kept → Kept → Kept
at_time_of p o = record o { tick = p.tick; alarms = p.alarms }

module _ (S : System) (need : Need) (proper : IsProper S) (enough : Suffices S need) (o p : Kept)
    (held : HasAllowedIndices need o) (held_too : HasAllowedIndices need p)
    (alike : AreAlikeIn S need o p) where
  by_time : AreAlikeBy S need.counters o (at_time_of p o)
  by_time = record {
    rest = refl;
    values = alike.values;
    phases = alike.phases;
    alarms = alike.alarms;
  }

  by_data : HaveSameNeeded need (at_time_of p o) p
  by_data = λ i. record (alike.rest i) { tick = p.tick; alarms = p.alarms }

  held_between : HasAllowedIndices need (at_time_of p o)
  held_between = λ i. record (held i) { tick = p.tick; alarms = p.alarms }

  module _ (arrived : List ℕ) where
    abbrev first_tick : KeptTicked
    first_tick = ticked_in S false arrived o

    abbrev tick_between : KeptTicked
    tick_between = ticked_in S false arrived (at_time_of p o)

    abbrev other_tick : KeptTicked
    other_tick = ticked_in S false arrived p

    by_times : AreShownAlike S first_tick tick_between
    by_times =
        alike_show S need.counters false arrived o (at_time_of p o) proper enough.counters by_time

    by_datas : AreShownAlike S tick_between other_tick
    by_datas =
        same_needed_show S need false arrived (at_time_of p o) p enough held_between held_too
        by_data

    alike_seen : seen_in S arrived o ≡ seen_in S arrived p
    unfolding seen_in
    alike_seen =
        seen_same S first_tick tick_between by_times ∙ seen_same S tick_between other_tick by_datas

    alike_executor : executor_in S arrived o ≡ executor_in S arrived p
    unfolding executor_in
    alike_executor = by_times.executor ∙ by_datas.executor

    alike_failure : failure_in S arrived o ≡ failure_in S arrived p
    unfolding failure_in
    alike_failure = by_times.failure ∙ by_datas.failure

-- ---- states that come

pub boot_state : (S : System) (mode : ℕ) (arrivals : List Arrival) → IsProper S
    → (boot_in S mode).state ≡ kept_after S mode arrivals 0
unfolding run
boot_state S mode arrivals proper = ap (λ (r : KeptRecorded). r.state) (sym (boots S mode proper))

module _ (S : System) (proper : IsProper S) where
  run_goes_on : (mode : ℕ) (arrivals : List Arrival) (n : ℕ) (arrived : List ℕ)
      → (run S mode arrivals n).state.over ≡ false
      → Comes S (tick_in S arrived (kept_after S mode arrivals n)).after
  run_goes_on mode arrivals n arrived going = record {
    mode = mode;
    arrivals = with_arrived n arrived arrivals;
    ticks = n + 1;
    same =
        sym
        (ap (λ (r : Run). kept S r.state) (goes_on_by_any S mode arrivals n arrived going).1
        ∙ ap (λ (t : KeptStep). t.after) (ticks S mode arrivals n arrived proper));
  }

  pub goes_on : (o : Kept) (arrived : List ℕ) → Comes S o → o.over ≡ false
      → Comes S (tick_in S arrived o).after
  goes_on o arrived comes going =
      subst (λ (x : Kept). Comes S (tick_in S arrived x).after) (sym comes.same)
      (run_goes_on comes.mode comes.arrivals comes.ticks arrived
      (ap (λ (x : Kept). x.over) (sym comes.same) ∙ going))

  in_range : RunsAreInRange → (o : Kept) → Comes S o → IsInRange S o
  in_range ranged o comes =
      subst (IsInRange S) (sym comes.same)
      (ranged S comes.mode comes.arrivals comes.ticks proper)

  held_in : (need : Need) → Suffices S need → (o : Kept) → Comes S o → HasAllowedIndices need o
  held_in need enough o comes =
      subst (HasAllowedIndices need) (sym comes.same)
      (runs_keep_indices S need comes.mode comes.arrivals comes.ticks proper enough)

-- ---- the law

module _ (tell : KeysTell) (one_key : AlikeHaveOneKey) (ranged : RunsAreInRange) (S : System)
    (need : Need) (o p : Kept) (proper : IsProper S) (enough : Suffices S need)
    (first : Comes S o) (second : Comes S p) (alike : AreAlikeIn S need o p) where
  goes_alike : (arrived : List ℕ) → o.over ≡ false → GoOnAlike S need arrived o p
  goes_alike arrived going =
      let held = held_in S proper need enough o first in
      let held_too = held_in S proper need enough p second in
      let going_too : p.over ≡ false = ap (λ (x : Kept). x.over) (sym alike.rest) ∙ going in
      let both : TicksAreAlikeIn S need arrived o p =
      alike_in_ticks S need arrived o p proper enough held held_too alike in
      record {
        key =
            one_key S need (tick_in S arrived o).after (tick_in S arrived p).after
            (in_range S proper ranged (tick_in S arrived o).after
            (goes_on S proper o arrived first going))
            (in_range S proper ranged (tick_in S arrived p).after
            (goes_on S proper p arrived second going_too)) both.after;
        over = ap (λ (x : Kept). x.over) both.after.rest;
        executor = alike_executor S need proper enough o p held held_too alike arrived;
        seen = alike_seen S need proper enough o p held held_too alike arrived;
        failure = alike_failure S need proper enough o p held held_too alike arrived;
      }

  one_future : HaveOneFuture S need o p
  one_future = record {
    over = ap (λ (x : Kept). x.over) alike.rest;
    next = λ arrived known going. goes_alike arrived going;
  }

pub keys_tell_futures : KeysTell → AlikeHaveOneKey → RunsAreInRange → KeysTellFutures
keys_tell_futures tell one_key ranged S need o p proper enough own first second same =
    one_future tell one_key ranged S need o p proper enough first second
    (tell S need o p own (in_range S proper ranged o first) (in_range S proper ranged p second)
    same)
