-- States that are alike in what is needed, and a tick of them.
use Rattle.std.proofs.Common.{ℕ, ◌≡◌, Bool, List, map, sym, ◌∙◌, ap, subst₂}
use Rattle.osek_base.specs.System.{System}
use Rattle.osek_base.specs.Proper.{IsProper}
use Rattle.law_kept.specs.Kept.{Kept}
use Rattle.law_kept.specs.Moves.{KeptRecorded}
use Rattle.law_kept.specs.KeptTick.{before_execution_in, tick_in}
use Rattle.law_future.specs.Need.{Need, Suffices}
use Rattle.law_future.specs.Same.{cleaned, cleaned_words, cleaned_shared, HasAllowedIndices, AreStepsOfSame, blanked}
use Rattle.law_future.proofs.Steps.{before_clean}
use Rattle.law_future.proofs.AllowedSteps.{tick_held}
use Rattle.law_future.proofs.Executed.{cleaning, fresh_clean}
use Rattle.law_future.proofs.NeededTicks.{tick_of_cleaned}
use Rattle.law_future.specs.Alike.{untimed, AreAlikeBy, TicksAreAlikeBy}
use Rattle.law_future.specs.AlikeIn.{AreAlikeIn, executing_in, TicksAreAlikeIn, AlikeInTicks}
use Rattle.law_future.proofs.Ticks.{ticks_alike}

module _ (S : System) (need : Need) where
  -- cleaned, states stay alike
  cleaned_alike : (valued : ℕ → Bool) (o p : Kept) → AreAlikeBy S valued o p
      → AreAlikeBy S valued (cleaned need o) (cleaned need p)
  cleaned_alike valued o p alike = record {
    rest = ap (cleaned need) alike.rest;
    values = alike.values;
    phases = alike.phases;
    alarms = alike.alarms;
  }

-- ---- one tick

module _ (S : System) (need : Need) (enough : Suffices S need) (arrived : List ℕ) where
  -- the state at the instruction, of a cleaned state and cleaned
  executing_cleaned : (o : Kept)
      → untimed (before_execution_in S arrived (cleaned need o)).state ≡ executing_in S need arrived o
  executing_cleaned o =
      ap (λ (r : KeptRecorded). untimed r.state)
      (before_clean S (cleaning need) (cleaned_words need) (cleaned_shared need.shared)
      (fresh_clean need) arrived o)

  tick : (o p : Kept) → IsProper S → HasAllowedIndices need o → HasAllowedIndices need p
      → AreAlikeIn S need o p → TicksAreAlikeIn S need arrived o p
  tick o p proper held held_too alike =
      let both : TicksAreAlikeBy S need.counters arrived (cleaned need o) (cleaned need p) =
      ticks_alike S proper need.counters enough.counters arrived (cleaned need o) (cleaned need p)
      alike in
      let one : AreStepsOfSame need (tick_in S arrived o) (tick_in S arrived (cleaned need o)) =
      tick_of_cleaned S need enough arrived o held in
      let two : AreStepsOfSame need (tick_in S arrived p) (tick_in S arrived (cleaned need p)) =
      tick_of_cleaned S need enough arrived p held_too in
      record {
        events = one.events ∙ ap (map blanked) both.events ∙ sym two.events;
        executing = sym (executing_cleaned o) ∙ both.executing ∙ executing_cleaned p;
        after =
            subst₂ (AreAlikeBy S need.counters) (sym one.after) (sym two.after)
            (cleaned_alike S need need.counters (tick_in S arrived (cleaned need o)).after
            (tick_in S arrived (cleaned need p)).after both.after);
        indices = tick_held S need enough arrived o held;
        indices_too = tick_held S need enough arrived p held_too;
      }

pub alike_in_ticks : AlikeInTicks
alike_in_ticks S need arrived o p proper enough held held_too alike =
    tick S need enough arrived o p proper held held_too alike
