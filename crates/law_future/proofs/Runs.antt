-- Any further ticks, and whole runs.
use Rattle.std.proofs.Common.{◌≡◌, ℕ, zero, suc, Bool, true, false, List, [], ◌∷◌, sym, ◌∙◌, ap, subst}
use Rattle.osek_base.specs.declared.arrivals.Arrival.{Arrival}
use Rattle.osek_base.specs.System.{System}
use Rattle.osek_base.specs.Proper.{IsProper}
use Rattle.osek_base.specs.Tick.{tick}
use Rattle.osek_base.specs.Trace.{Run, step_added, arriving, run, starting_tasks}
use Rattle.law_kept.specs.Kept.{Kept, kept}
use Rattle.law_kept.proofs.Ticked.{ticks, boots}
use Rattle.law_future.specs.Need.{Need, Suffices, allowed_context}
use Rattle.law_future.specs.Same.{HasAllowedIndices}
use Rattle.law_future.specs.Laws.{RunsKeepIndices}
use Rattle.law_future.proofs.Steps.{activated_clean, rescheduled_clean, unbegun_mapped}
use Rattle.law_future.proofs.AllowedSteps.{tick_held}
use Rattle.law_future.proofs.Indices.{held_fresh}
use Rattle.osek_base.specs.declared.ids.Owner.{Owner}
use Rattle.osek_base.specs.Instruction.{Context}
use Rattle.osek_base.specs.State.{Words, fresh_context}
use Rattle.law_kept.specs.Moves.{KeptRecorded, activated_in, rescheduled}
use Rattle.law_kept.specs.KeptTick.{KeptStep, all_activated_in, begun_in, boot_in}

-- one tick more, unless the run is over
abbrev more_at : System → List Arrival → Run → Bool → Run
more_at S arrivals r over =
    elim over [ true ↦ r | false ↦ step_added r (tick S (arriving arrivals r.state.tick) r.state) ]

module _ (S : System) (need : Need) (enough : Suffices S need) where
  abbrev holding : Owner → Context → Context
  holding who x = allowed_context (need.indices who) x

  abbrev same_words : Words → Words
  same_words w = w

  abbrev same_shared : List (List ℕ) → List (List ℕ)
  same_shared s = s

  fresh_held : (who : Owner) → holding who fresh_context ≡ fresh_context
  fresh_held who = held_fresh (need.indices who)

  begun_held : (mode : ℕ) → HasAllowedIndices need (begun_in S mode)
  begun_held mode = λ i. record (begun_in S mode) { slots = λ t. unbegun_mapped holding fresh_held t 0 i }

  activated_held : (ts : List ℕ) (o : Kept) → HasAllowedIndices need o → HasAllowedIndices need (all_activated_in S ts o)
  activated_held [] o h = h
  activated_held (t ∷ ts) o h =
      activated_held ts (activated_in S t o)
      (sym (activated_clean S holding same_words same_shared fresh_held t o) ∙ ap (activated_in S t) h)

  pub boot_held : (mode : ℕ) → HasAllowedIndices need (boot_in S mode).state
  unfolding boot_in
  boot_held mode =
      let started : Kept = all_activated_in S (starting_tasks S mode) (begun_in S mode) in
      sym (ap (λ (r : KeptRecorded). r.state) (rescheduled_clean S holding same_words same_shared fresh_held (all_activated_in S (starting_tasks S mode) (begun_in S mode))))
      ∙ ap (λ z. (rescheduled S z).state) (activated_held (starting_tasks S mode) (begun_in S mode) (begun_held mode))

  module _ (proper : IsProper S) (mode : ℕ) (arrivals : List Arrival) where
    more_held : (n : ℕ) → HasAllowedIndices need (kept S (run S mode arrivals n).state) → (b : Bool)
        → HasAllowedIndices need (kept S (more_at S arrivals (run S mode arrivals n) b).state)
    more_held n h true = h
    more_held n h false =
        subst (HasAllowedIndices need) (sym (ap (λ (z : KeptStep). z.after) (ticks S mode arrivals n (arriving arrivals (run S mode arrivals n).state.tick) proper)))
        (tick_held S need enough (arriving arrivals (run S mode arrivals n).state.tick) (kept S (run S mode arrivals n).state) h)

    run_held : (n : ℕ) → HasAllowedIndices need (kept S (run S mode arrivals n).state)
    unfolding run
    run_held zero = subst (HasAllowedIndices need) (sym (ap (λ (r : KeptRecorded). r.state) (boots S mode proper))) (boot_held mode)
    run_held (suc n) = more_held n (run_held n) (run S mode arrivals n).state.over

pub runs_keep_indices : RunsKeepIndices
runs_keep_indices S need mode arrivals n proper enough = run_held S need enough proper mode arrivals n
