-- A tick in states that are alike.
use Rattle.std.proofs.Common.{ℕ, ◌≡◌, ◌<◌, ◌+◌, ◌/◌, ◌++◌, cond, inl, inr, List, length, sym, ap₂, subst}
use Rattle.std.specs.Prelude.{Bool, Option, None, slice_index_or}
use Rattle.osek_base.specs.declared.trace_event.TraceEvent.{TraceEvent}
use Rattle.osek_base.specs.System.{System, alarm, counter, counter_of}
use Rattle.osek_base.specs.State.{Expiry}
use Rattle.osek_base.specs.Alarm.{count, expiry, is_due, renewed, due_alarms, alarms_advanced}
use Rattle.osek_base.specs.Proper.{IsProper}
use Rattle.law_kept.specs.Kept.{Kept}
use Rattle.law_kept.specs.Moves.{rescheduled}
use Rattle.law_kept.specs.KeptService.{bare}
use Rattle.law_kept.specs.KeptTick.{and_then_in, alarms_act_in, alarm_phase_in, arrival_phase_in, start_phase_in, execute_phase_in, before_execution_in, last_phase_in, tick_in}
use Rattle.law_future.specs.Need.{HaveAsked}
use Rattle.law_future.specs.Alike.{HaveSameLeft, AreAlikeBy, TicksAreAlikeBy}
use Rattle.law_future.proofs.Counts.{BothMove, both_move, values_next, phases_next}
use Rattle.law_future.proofs.Timed.{AreTimed, IsPair, AreRecorded, keeps, records_keep, joined}
use Rattle.law_future.proofs.Commutes.{alarms_act, starts, reschedules, last_phase}
use Rattle.law_future.proofs.Tables.{one_due, one_expired, one_later, carried, length-table, table_at, filter_same, known_counter, some_base}
use Rattle.law_future.proofs.Calls.{execute_phase}

module _ (S : System) (proper : IsProper S) (valued : ℕ → Bool) where
  -- ---- the alarms

  module _ (o p : Kept) (alike : AreAlikeBy S valued o p) where
    -- an alarm once the due ones have expired
    expired : Kept → ℕ → Option Expiry
    expired x a = cond (is_due S (bare x) a) (renewed (expiry (bare x) a)) (expiry (bare x) a)

    advanced : AreTimed S valued o.tick (alarms_advanced S (bare o)) p.tick (alarms_advanced S (bare p))
    unfolding expired
    advanced = record {
      values = alike.values;
      phases = alike.phases;
      one = length-table (expired o) (length S.alarms);
      other = length-table (expired p) (length S.alarms);
      left = λ a inside.
          carried _ _ _ (expired o a) _ (expired p a) (table_at (expired o) (length S.alarms) a None inside)
          (table_at (expired p) (length S.alarms) a None inside)
          (one_expired (count S (bare o) a) (count S (bare p) a) (expiry (bare o) a) (expiry (bare p) a) (alike.alarms a inside));
    }

    pub due_same : due_alarms S (bare o) ≡ due_alarms S (bare p)
    due_same =
        filter_same (is_due S (bare o)) (is_due S (bare p)) (length S.alarms)
        (λ a inside. one_due (count S (bare o) a) (count S (bare p) a) (expiry (bare o) a) (expiry (bare p) a) (alike.alarms a inside))

    alarm_phase : AreRecorded S valued (alarm_phase_in S o) (alarm_phase_in S p)
    unfolding alarm_phase_in
    alarm_phase =
        subst
        (λ (due : List ℕ). AreRecorded S valued (alarms_act_in S (due_alarms S (bare o)) (record o { alarms = alarms_advanced S (bare o) })) (alarms_act_in S due (record p { alarms = alarms_advanced S (bare p) })))
        due_same
        (records_keep S valued (alarms_act_in S (due_alarms S (bare o))) (λ u fs x. alarms_act S u fs (due_alarms S (bare o)) x)
        (record o { alarms = alarms_advanced S (bare o) }) (record p { alarms = alarms_advanced S (bare p) })
        (record { rest = alike.rest; timed = advanced }))

  -- ---- the phases

  before : (arrived : List ℕ) (o p : Kept) → AreAlikeBy S valued o p → AreRecorded S valued (before_execution_in S arrived o) (before_execution_in S arrived p)
  before arrived o p alike =
      let dispatched :
      AreRecorded S valued (and_then_in (alarm_phase_in S o) (λ a. rescheduled S (arrival_phase_in arrived a))) (and_then_in (alarm_phase_in S p) (λ a. rescheduled S (arrival_phase_in arrived a))) =
      joined S valued (λ a. rescheduled S (arrival_phase_in arrived a))
      (records_keep S valued (λ a. rescheduled S (arrival_phase_in arrived a)) (λ u fs x. reschedules S u fs (arrival_phase_in arrived x)))
      (alarm_phase_in S o) (alarm_phase_in S p) (alarm_phase o p alike) in
      record {
        events = dispatched.events;
        state = keeps S valued (start_phase_in S) (λ u fs x. starts S u fs x) _ _ dispatched.state;
      }

  from_execution : HaveAsked S valued → (o p : Kept) → IsPair S valued o p
      → AreRecorded S valued (and_then_in (execute_phase_in S o) (last_phase_in S)) (and_then_in (execute_phase_in S p) (last_phase_in S))
  from_execution asked o p pair =
      joined S valued (last_phase_in S) (records_keep S valued (last_phase_in S) (λ u fs x. last_phase S u fs x)) (execute_phase_in S o) (execute_phase_in S p)
      (execute_phase S proper valued asked o p pair)

  -- ---- the next tick

  next : (o p : Kept) → IsPair S valued o p → AreAlikeBy S valued (record o { tick = o.tick + 1 }) (record p { tick = p.tick + 1 })
  next o p pair = record {
    rest = pair.rest;
    values = λ c inside is.
        values_next o.tick p.tick (counter S c).ticks_per_base ((counter S c).max_allowed_value + 1) (some_base S c proper inside) (pair.timed.phases c inside)
        (pair.timed.values c inside is);
    phases = λ c inside. phases_next o.tick p.tick (counter S c).ticks_per_base (pair.timed.phases c inside);
    alarms = λ a inside. left a inside (known_counter S a proper inside);
  }
    where
      left : (a : ℕ) → a < length S.alarms → (alarm S a).counter < length S.counters
          → HaveSameLeft ((o.tick + 1) / (counter_of S a).ticks_per_base) (slice_index_or o.alarms a None) ((p.tick + 1) / (counter_of S a).ticks_per_base) (slice_index_or p.alarms a None)
      left a inside known =
          let b : ℕ = (counter_of S a).ticks_per_base in
          let moved : (k : ℕ) → BothMove o.tick p.tick (counter_of S a).ticks_per_base k
          → HaveSameLeft ((o.tick + 1) / (counter_of S a).ticks_per_base) (slice_index_or o.alarms a None) ((p.tick + 1) / (counter_of S a).ticks_per_base) (slice_index_or p.alarms a None) = λ k both.
          subst (λ n. HaveSameLeft n (slice_index_or o.alarms a None) ((p.tick + 1) / (counter_of S a).ticks_per_base) (slice_index_or p.alarms a None)) (sym both.one)
          (subst (λ m. HaveSameLeft (o.tick / (counter_of S a).ticks_per_base + k) (slice_index_or o.alarms a None) m (slice_index_or p.alarms a None)) (sym both.other)
          (one_later (o.tick / (counter_of S a).ticks_per_base) (p.tick / (counter_of S a).ticks_per_base) k (slice_index_or o.alarms a None) (slice_index_or p.alarms a None) (pair.timed.left a inside))) in
          elim (both_move o.tick p.tick (counter_of S a).ticks_per_base (some_base S (alarm S a).counter proper known) (pair.timed.phases (alarm S a).counter known)) [
            | inl both ↦ moved 0 both
            | inr both ↦ moved 1 both
          ]

  pub ticks_alike : HaveAsked S valued → (arrived : List ℕ) (o p : Kept) → AreAlikeBy S valued o p → TicksAreAlikeBy S valued arrived o p
  unfolding tick_in
  ticks_alike asked arrived o p alike =
      let ready : AreRecorded S valued (before_execution_in S arrived o) (before_execution_in S arrived p) = before arrived o p alike in
      let done = from_execution asked (before_execution_in S arrived o).state (before_execution_in S arrived p).state ready.state in
      record {
        events = ap₂ (λ (x y : List TraceEvent). x ++ y) ready.events done.events;
        executing = ready.state.rest;
        after = next _ _ done.state;
      }
