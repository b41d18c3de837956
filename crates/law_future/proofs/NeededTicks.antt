-- A tick of states that have the same needed data.
use Rattle.std.proofs.Common.{◌≡◌, ℕ, ◌+◌, List, ◌++◌, map, sym, ◌∙◌, ap, ap₂, subst}
use Rattle.std.proofs.lemmas.List.{map-append}
use Rattle.osek_base.specs.declared.trace_event.TraceEvent.{TraceEvent}
use Rattle.osek_base.specs.System.{System}
use Rattle.law_kept.specs.Kept.{Kept}
use Rattle.law_kept.specs.Moves.{KeptRecorded}
use Rattle.law_kept.specs.KeptTick.{KeptStep, and_then_in, execute_phase_in, last_phase_in, before_execution_in, tick_in}
use Rattle.law_future.specs.Need.{Need, Suffices}
use Rattle.law_future.specs.Same.{cleaned, cleaned_words, cleaned_shared, HaveSameNeeded, AreStepsOfSame, HasAllowedIndices, blanked}
use Rattle.law_future.specs.Laws.{TicksKeepSame}
use Rattle.law_future.proofs.Steps.{mapped_recorded, before_clean, last_clean}
use Rattle.law_future.proofs.AllowedSteps.{before_held}
use Rattle.law_future.proofs.Executed.{cleaning, fresh_clean, AreAlikeRecorded, execute_alike}

abbrev cleaned_recorded : Need → KeptRecorded → KeptRecorded
cleaned_recorded need r = mapped_recorded (cleaning need) (cleaned_words need) (cleaned_shared need.shared) r

-- the records and the state of something that answers the same of a cleaned state
module _ (need : Need) (f : Kept → KeptRecorded) (clean : (o : Kept) → f (cleaned need o) ≡ cleaned_recorded need (f o)) where
  of_alike : (o p : Kept) → HaveSameNeeded need o p → cleaned_recorded need (f o) ≡ cleaned_recorded need (f p)
  of_alike o p alike = sym (clean o) ∙ ap f alike ∙ clean p

module _ (S : System) (need : Need) (enough : Suffices S need) where
  -- a tick from phases 1 to 4 on
  abbrev finished : KeptRecorded → KeptStep
  finished ready =
      let done = and_then_in (execute_phase_in S ready.state) (last_phase_in S) in
      let last = done.state in
      record { events = ready.events ++ done.events; after = record last { tick = last.tick + 1 } }

  -- where phase 5 is alike, so is the tick
  joined : (before : List TraceEvent) (a b : KeptRecorded) → AreAlikeRecorded need a b
      → AreStepsOfSame need
      (record { events = before ++ (and_then_in a (last_phase_in S)).events; after = record (and_then_in a (last_phase_in S)).state { tick = (and_then_in a (last_phase_in S)).state.tick + 1 } })
      (record { events = before ++ (and_then_in b (last_phase_in S)).events; after = record (and_then_in b (last_phase_in S)).state { tick = (and_then_in b (last_phase_in S)).state.tick + 1 } })
  joined before a b alike =
      let last : cleaned_recorded need (last_phase_in S a.state) ≡ cleaned_recorded need (last_phase_in S b.state) =
      of_alike need (last_phase_in S) (last_clean S (cleaning need) (cleaned_words need) (cleaned_shared need.shared) (fresh_clean need)) a.state b.state alike.state in
      record {
        events =
            map-append blanked before (a.events ++ (last_phase_in S a.state).events)
            ∙ ap (λ es. map blanked before ++ es)
            (map-append blanked a.events (last_phase_in S a.state).events
            ∙ ap₂ (λ xs ys. xs ++ map blanked ys) alike.events (ap (λ (r : KeptRecorded). r.events) last)
            ∙ sym (map-append blanked b.events (last_phase_in S b.state).events))
            ∙ sym (map-append blanked before (b.events ++ (last_phase_in S b.state).events));
        after = ap (λ (r : KeptRecorded). let z = r.state in record z { tick = z.tick + 1 }) last;
      }

  pub tick_of_cleaned : (arrived : List ℕ) (o : Kept) → HasAllowedIndices need o
      → AreStepsOfSame need (tick_in S arrived o) (tick_in S arrived (cleaned need o))
  unfolding tick_in
  tick_of_cleaned arrived o h =
      subst (λ r. AreStepsOfSame need (finished (before_execution_in S arrived o)) (finished r))
      (sym (before_clean S (cleaning need) (cleaned_words need) (cleaned_shared need.shared) (fresh_clean need) arrived o))
      (joined (before_execution_in S arrived o).events (execute_phase_in S (before_execution_in S arrived o).state)
      (execute_phase_in S (cleaned need (before_execution_in S arrived o).state))
      (execute_alike S need enough (before_execution_in S arrived o).state (before_held S need enough arrived o h)))

  pub tick_alike : (arrived : List ℕ) (o p : Kept) → HasAllowedIndices need o → HasAllowedIndices need p → HaveSameNeeded need o p
      → AreStepsOfSame need (tick_in S arrived o) (tick_in S arrived p)
  tick_alike arrived o p h k alike =
      let left = tick_of_cleaned arrived o h in
      let right = tick_of_cleaned arrived p k in
      record {
        events = left.events ∙ ap (λ z. map blanked (tick_in S arrived z).events) alike ∙ sym right.events;
        after = left.after ∙ ap (λ z. cleaned need (tick_in S arrived z).after) alike ∙ sym right.after;
      }

pub ticks_keep_same : TicksKeepSame
ticks_keep_same S need arrived o p enough h k alike = tick_alike S need enough arrived o p h k alike
