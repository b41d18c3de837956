-- The number of blockers of who executes, and the last ticks of levels, by what a kernel keeps.
use Rattle.std.proofs.Common.{◌≡◌, ℕ, zero, suc, ◌+◌, ◌<◌, ◌≤◌, Bool, true, false, cond, List, [], ◌∷◌, length, map, take, get_or, refl, sym, ◌∙◌, ap, subst, arith}
use Rattle.std.specs.Prelude.{Option, Some, None, ◌==◌, nat_lt, slice_index_or}
use Rattle.std.specs.Option.{option_map}
use Rattle.std.specs.List.{list_any}
use Rattle.std.proofs.Math.Numerals.{add-one}
use Rattle.std.proofs.lemmas.List.{take_more, get_or-set_same, get_or-set_other, length-set}
use Rattle.std.proofs.lemmas.List.Folds.{list_any-append}
use Rattle.osek_base.specs.declared.limits.TheConstants.{MAX_TASK_PRIORITY}
use Rattle.osek_base.specs.declared.arrivals.Arrival.{Arrival}
use Rattle.osek_base.specs.Lists.{below}
use Rattle.osek_base.specs.System.{System, priority_of}
use Rattle.osek_base.specs.State.{Job, JobId, State}
use Rattle.osek_base.specs.Blocker.{calling_job, executing_job}
use Rattle.osek_base.specs.Service.{Caller, JobCalls, RoutineCalls, NobodyCalls}
use Rattle.osek_base.specs.Proper.{IsProper}
use Rattle.law_runs.proofs.Between.{is_of_level}
use Rattle.law_runs.proofs.Counting.{one_if}
use Rattle.law_runs.proofs.Foremost.{equal}
use Rattle.law_runs.proofs.Known.{IsCaller}
use Rattle.law_kept.specs.KeptService.{kept_caller}
use Rattle.law_kept.proofs.Parts.{IsOldest}
use Rattle.law_kept.proofs.Settled.{IsSettled, Stands, stands_oldest}
use Rattle.kernel_stamps.specs.Stamps.{stamp_of_oldest}
use Rattle.services.proofs.BoundLemmas.{bounds_of, priority_low}
use Rattle.law_blockers.specs.Steps.{step_at}
use Rattle.law_blockers.specs.Stamps.{Stamps, blockers_by, count_by, levels_of}
use Rattle.law_blockers.specs.Restamping.{AreListed, StampLists}
use Rattle.kernel.specs.Stamping.{count_below, noted, number_for}
use Rattle.kernel.specs.Machine.{AreLast}

pub level_low : (S : System) (t : ℕ) → IsProper S → priority_of S t ≤ MAX_TASK_PRIORITY
level_low S t proper = let low = priority_low S t (bounds_of S proper) in omega (arith, low)

module _ (S : System) (mode : ℕ) (arrivals : List Arrival) (n : ℕ) (ends : List ℕ) (levels : AreLast S mode arrivals n ends) where
  any_below : (u level : ℕ) → level ≤ MAX_TASK_PRIORITY + 1
      → list_any (λ b. nat_lt u b) (take level ends) ≡ list_any (λ l. nat_lt u (levels_of S mode arrivals n l)) (below level)
  any_below u zero low = refl
  any_below u (suc m) low =
      let inside : m < length ends = omega (arith, low, levels.count) in
      let lower : m ≤ MAX_TASK_PRIORITY + 1 = omega (arith, low) in
      let here : m ≤ MAX_TASK_PRIORITY = omega (arith, low) in
      ap (λ k. list_any (λ b. nat_lt u b) (take k ends)) (sym (add-one m))
      ∙ ap (λ (xs : List ℕ). list_any (λ b. nat_lt u b) xs) (take_more ends m 0 inside)
      ∙ list_any-append (λ b. nat_lt u b) (take m ends) (get_or ends m 0 ∷ [])
      ∙ rw (any_below u m lower, levels.each m here)
      (sym (list_any-append (λ l. nat_lt u (levels_of S mode arrivals n l)) (below m) (m ∷ [])))

  count_same : (t : ℕ) → IsProper S → (stamp : Option ℕ)
      → option_map (count_below (priority_of S t) ends) stamp ≡ option_map (count_by S (levels_of S mode arrivals n) t) stamp
  count_same t proper None = refl
  count_same t proper (Some u) =
      let low = level_low S t proper in
      ap (λ b. Some (one_if b)) (any_below u (priority_of S t) (omega (arith, low)))

  -- the number of blockers, by stamps and levels
  pub number_is : (e : State) (p : Stamps) (xs : StampLists) → IsProper S → IsSettled S e → AreListed S xs p e
      → (c : Caller) → IsCaller e c
      → number_for S (kept_caller c) ends xs ≡ blockers_by S (levels_of S mode arrivals n) p (calling_job c)
  number_is e p xs proper settled are (JobCalls j) calls =
      let t : ℕ = j.id.task in
      let stands : Stands e j.id = (j, calls.runs, calls.found) in
      let o : IsOldest j.id e.jobs = stands_oldest S e j.id settled stands in
      ap (λ (ys : List (Option ℕ)). option_map (count_below (priority_of S t) ends) (stamp_of_oldest ys))
      (are.lists t ∙ ap (map (λ (k : Job). p k.id)) o.is)
      ∙ ap (λ (i : JobId). option_map (count_below (priority_of S t) ends) (p i)) o.id
      ∙ count_same t proper (p j.id)
  number_is e p xs proper settled are (RoutineCalls a) calls = refl
  number_is e p xs proper settled are NobodyCalls calls = refl

  noted_level : IsProper S → (c : Caller) (l : ℕ) → l ≤ MAX_TASK_PRIORITY
      → slice_index_or (noted S n (kept_caller c) ends) l 0
      ≡ cond (is_of_level S l (calling_job c)) (suc n) (levels_of S mode arrivals n l)
  noted_level proper (JobCalls j) l low = go (priority_of S j.id.task == l) refl
    where
      inside : priority_of S j.id.task < length ends
      inside = let high = level_low S j.id.task proper in omega (arith, high, levels.count)

      go : (b : Bool) → (priority_of S j.id.task == l) ≡ b
          → slice_index_or (noted S n (kept_caller (JobCalls j)) ends) l 0 ≡ cond b (suc n) (levels_of S mode arrivals n l)
      go true e =
          subst (λ m. slice_index_or (noted S n (kept_caller (JobCalls j)) ends) m 0 ≡ suc n) (equal (priority_of S j.id.task) l e)
          (get_or-set_same ends (priority_of S j.id.task) (n + 1) 0 inside ∙ add-one n)
      go false e =
          get_or-set_other ends (priority_of S j.id.task) l (n + 1) 0 (λ same. absurd (grind (arith, e, same)))
          ∙ levels.each l low
  noted_level proper (RoutineCalls a) l low = levels.each l low
  noted_level proper NobodyCalls l low = levels.each l low

  noted_size : (c : Caller) → length (noted S n (kept_caller c) ends) ≡ length ends
  noted_size (JobCalls j) = length-set ends (priority_of S j.id.task) (n + 1)
  noted_size (RoutineCalls a) = refl
  noted_size NobodyCalls = refl

  -- after the tick
  pub noted_last : IsProper S → (c : Caller) → executing_job (step_at S mode arrivals n) ≡ calling_job c
      → AreLast S mode arrivals (n + 1) (noted S n (kept_caller c) ends)
  noted_last proper c is = record {
    count = noted_size c ∙ levels.count;
    each = λ l low.
        noted_level proper c l low
        ∙ ap (λ j. cond (is_of_level S l j) (suc n) (levels_of S mode arrivals n l)) (sym is)
        ∙ ap (λ k. levels_of S mode arrivals k l) (sym (add-one n));
  }
