-- The stamps of a run are the definitions' first ticks, and the number of blockers follows from them.
use Rattle.std.proofs.Common.{◌≡◌, ap₂, ℕ, zero, suc, ◌+◌, ◌<◌, Bool, true, false, ◌&&◌, ◌||◌, nat_le, nat_lt, List, [], ◌∷◌, ◌++◌, length, length-append, refl, sym, ◌∙◌, ap, subst, arith}
use Rattle.std.specs.Prelude.{Option, Some, None, slice_get}
use Rattle.std.specs.Option.{option_map, option_or}
use Rattle.std.specs.List.{list_any}
use Rattle.std.proofs.Math.Path.{fun_ext}
use Rattle.std.proofs.Math.Numerals.{add-one}
use Rattle.osek_base.specs.declared.arrivals.Arrival.{Arrival}
use Rattle.osek_base.specs.Lists.{below}
use Rattle.osek_base.specs.System.{System, priority_of}
use Rattle.osek_base.specs.State.{Job, JobId, State, still}
use Rattle.osek_base.specs.Tick.{Step}
use Rattle.osek_base.specs.Trace.{Run, boot, run}
use Rattle.osek_base.specs.Blocker.{becomes_ready, becomes_ready_in, becomes_ready_after, state_after, executing_job, is_ready_from, is_number}
use Rattle.osek_base.specs.BlockingText.{executes_in, behind_last, ready_since, blockers_at}
use Rattle.osek_base.specs.Proper.{IsProper}
use Rattle.law_runs.proofs.Stamps.{stamp_if, unless, since_next, same_found}
use Rattle.law_runs.proofs.Counting.{one_if}
use Rattle.law_runs.proofs.Between.{behind, at_level, counted_since, blockers_at_counted}
use Rattle.law_blockers.specs.Steps.{step_at}
use Rattle.law_blockers.specs.Stamps.{stamp_where, stamps_in, stamps_of, levels_of, count_by, blockers_by}
use Rattle.law_blockers.proofs.StepLemmas.{run_more, steps_more, going_earlier}

-- ---- a list with one more element

module _ {X : Type 0} where
  get_before : (xs : List X) (y : X) (k : ℕ) → k < length xs → slice_get (xs ++ y ∷ []) k ≡ slice_get xs k
  get_before [] y k less = absurd (omega (arith, less))
  get_before (x ∷ xs) y zero less = refl
  get_before (x ∷ xs) y (suc k) less = get_before xs y k (omega (arith, less))

  get_last : (xs : List X) (y : X) → slice_get (xs ++ y ∷ []) (length xs) ≡ Some y
  get_last [] y = refl
  get_last (x ∷ xs) y = get_last xs y

-- ---- the same steps up to a tick

module _ (S : System) (booted : State) (n : JobId) (xs ys : List Step) where
  same_behind : (v : ℕ) → ((k : ℕ) → k < v → slice_get xs k ≡ slice_get ys k) → behind_last n xs v ≡ behind_last n ys v
  same_behind zero same = refl
  same_behind (suc v) same =
      rw (same v (omega arith), same_behind v (λ k less. same k (omega (arith, less)))) refl

  same_ready : (u : ℕ) → ((k : ℕ) → k < suc u → slice_get xs k ≡ slice_get ys k) → is_ready_from S booted xs u n
      ≡ is_ready_from S booted ys u n
  same_ready zero same = rw (same 0 (omega arith)) refl
  same_ready (suc u) same = rw (same u (omega arith), same (suc u) (omega arith)) refl

  same_since : (v : ℕ) → ((k : ℕ) → k < suc v → slice_get xs k ≡ slice_get ys k) → ready_since S booted xs n v
      ≡ ready_since S booted ys n v
  same_since v same =
      same_found (λ u. nat_le (behind_last n xs v) u && is_ready_from S booted xs u n)
      (λ u. nat_le (behind_last n ys v) u && is_ready_from S booted ys u n) (suc v)
      (λ k less. rw (same_behind v (λ i l. same i (omega (arith, l))), same_ready k (λ i l. same i (omega (arith, less, l))))
      refl)

same_passing : (g : Step → Bool) (xs ys : List Step) (v : ℕ) → ((k : ℕ) → k < v → slice_get xs k ≡ slice_get ys k)
    → behind g xs v ≡ behind g ys v
same_passing g xs ys zero same = refl
same_passing g xs ys (suc v) same = rw
    (same v (omega arith), same_passing g xs ys v (λ k less. same k (omega (arith, less)))) refl

-- ---- runs

module _ (S : System) (mode : ℕ) (arrivals : List Arrival) where
  abbrev pub steps_after : ℕ → List Step
  steps_after n = (run S mode arrivals n).steps

  abbrev pub Going : ℕ → Type 0
  Going n = (run S mode arrivals n).state.over ≡ false

  pub earlier : (n : ℕ) → Going (suc n) → Going n
  earlier n going = going_earlier S mode arrivals n (ap (λ k. (run S mode arrivals k).state.over) (add-one n) ∙ going)

  more : (n : ℕ) → Going n → steps_after (suc n) ≡ steps_after n ++ step_at S mode arrivals n ∷ []
  more n going = ap steps_after (sym (add-one n)) ∙ steps_more S mode arrivals n going

  pub state_more : (n : ℕ) → Going n → (run S mode arrivals (suc n)).state ≡ (step_at S mode arrivals n).after
  state_more n going =
      ap (λ k. (run S mode arrivals k).state) (sym (add-one n)) ∙ ap (λ (r : Run). r.state) (run_more S mode arrivals n going)

  no_steps : steps_after 0 ≡ []
  unfolding run
  no_steps = refl

  pub step_count : (n : ℕ) → Going n → length (steps_after n) ≡ n
  step_count zero going = ap length no_steps
  step_count (suc n) going =
      ap length (more n (earlier n going)) ∙ length-append (steps_after n) (step_at S mode arrivals n ∷ [])
      ∙ ap (λ k. k + 1) (step_count n (earlier n going)) ∙ add-one n

  pub last_step : (n : ℕ) → Going n → slice_get (steps_after (suc n)) n ≡ Some (step_at S mode arrivals n)
  last_step n going =
      ap (λ xs. slice_get xs n) (more n going)
      ∙ subst (λ k. slice_get (steps_after n ++ step_at S mode arrivals n ∷ []) k
      ≡ Some (step_at S mode arrivals n)) (step_count n going)
      (get_last (steps_after n) (step_at S mode arrivals n))

  same_before : (n : ℕ) → Going n → (k : ℕ) → k < n → slice_get (steps_after (suc n)) k ≡ slice_get (steps_after n) k
  same_before n going k less =
      ap (λ xs. slice_get xs k) (more n going)
      ∙ get_before (steps_after n) (step_at S mode arrivals n) k (subst (λ m. k < m) (sym (step_count n going)) less)

  two_stamps : (p : Option ℕ) (a b : Bool) (u : ℕ) → option_or p (stamp_if (a || b) u)
      ≡ option_or (option_or p (stamp_if a u)) (stamp_if b u)
  two_stamps None true b u = refl
  two_stamps None false b u = refl
  two_stamps (Some v) true b u = refl
  two_stamps (Some v) false b u = refl

  zero_run : (run S mode arrivals 0).state ≡ (boot S mode).state
  unfolding run
  zero_run = refl

  -- at the instruction of a tick, the stamps are the definitions' first ticks
  pub stamps_are : (n : ℕ) → Going n → (j : JobId)
      → stamps_in S mode arrivals n (stamps_of S mode arrivals n) j
      ≡ ready_since S (boot S mode).state (steps_after (suc n)) j n
  stamps_are zero going j =
      ap (λ (s : State). option_or (stamps_of S mode arrivals 0 j)
      (stamp_where (becomes_ready s (step_at S mode arrivals 0).executing j) 0)) zero_run
      ∙ sym (two_stamps None (becomes_ready (still S) (boot S mode).state j)
      (becomes_ready (boot S mode).state (step_at S mode arrivals 0).executing j) 0)
      ∙ sym (ap (λ o. stamp_if (becomes_ready (still S) (boot S mode).state j || becomes_ready_in (boot S mode).state o j) 0)
      (last_step 0 going))
  stamps_are (suc n) going j =
      let x : Step = step_at S mode arrivals n in
      let y : Step = step_at S mode arrivals (suc n) in
      let on : Going n = earlier n going in
      let xs : List Step = steps_after (suc (suc n)) in
      let there : slice_get xs n ≡ Some x = same_before (suc n) going n (omega arith) ∙ last_step n on in
      let next : slice_get xs (suc n) ≡ Some y = last_step (suc n) going in
      let since : ready_since S (boot S mode).state xs j n ≡ stamps_in S mode arrivals n (stamps_of S mode arrivals n) j =
      same_since S (boot S mode).state j xs (steps_after (suc n)) n (same_before (suc n) going) ∙ sym (stamps_are n on j) in
      let p : Option ℕ = stamps_in S mode arrivals n (stamps_of S mode arrivals n) j in
      ap (λ (s : State). option_or (stamps_of S mode arrivals (suc n) j)
      (stamp_where (becomes_ready s y.executing j) (suc n))) (state_more n on)
      ∙ sym (two_stamps (unless (is_number j (executing_job x)) p) (becomes_ready x.executing x.after j)
      (becomes_ready x.after y.executing j) (suc n))
      ∙ ap (λ q. option_or (unless (is_number j (executing_job x)) q)
      (stamp_if (becomes_ready x.executing x.after j || becomes_ready x.after y.executing j) (suc n))) (sym since)
      ∙ sym (ap₂
      (λ a b. option_or (unless (executes_in j a) (ready_since S (boot S mode).state xs j n))
      (stamp_if (becomes_ready_after a j || becomes_ready_in (state_after (boot S mode).state a) b j) (suc n))) there next)
      ∙ sym (since_next S (boot S mode).state xs j n)

  -- the last ticks of levels, up to a tick
  levels_are : (n : ℕ) → Going n → (l : ℕ) → behind (at_level S l) (steps_after (suc n)) n ≡ levels_of S mode arrivals n l
  levels_are zero going l = refl
  levels_are (suc n) going l =
      let on : Going n = earlier n going in
      let there : slice_get (steps_after (suc (suc n))) n
      ≡ Some (step_at S mode arrivals n) = same_before (suc n) going n (omega arith) ∙ last_step n on in
      let rest : behind (at_level S l) (steps_after (suc (suc n))) n ≡ levels_of S mode arrivals n l =
      same_passing (at_level S l) (steps_after (suc (suc n))) (steps_after (suc n)) n
      (λ k less. same_before (suc n) going k (omega (arith, less))) ∙ levels_are n on l in
      rw (there, rest) refl

  -- the number of blockers, by stamps and levels
  pub blockers_are : (n : ℕ) → Going n → IsProper S
      → blockers_at S mode arrivals n
      ≡ blockers_by S (levels_of S mode arrivals n) (stamps_in S mode arrivals n (stamps_of S mode arrivals n))
      (executing_job (step_at S mode arrivals n))
  blockers_are n going proper =
      blockers_at_counted S mode arrivals n (step_at S mode arrivals n) (executing_job (step_at S mode arrivals n)) proper
      (last_step n going) refl
      ∙ go (executing_job (step_at S mode arrivals n))
    where
      go : (o : Option Job) → counted_since S (boot S mode).state (steps_after (suc n)) n o
          ≡ blockers_by S (levels_of S mode arrivals n) (stamps_in S mode arrivals n (stamps_of S mode arrivals n)) o
      go None = refl
      go (Some j) =
          ap (λ (last : ℕ
          → ℕ). option_map (λ u. one_if (list_any (λ l. nat_lt u (last l)) (below (priority_of S j.id.task))))
          (ready_since S (boot S mode).state (steps_after (suc n)) j.id n))
          (fun_ext (levels_are n going))
          ∙ ap (option_map (count_by S (levels_of S mode arrivals n) j.id.task)) (sym (stamps_are n going j.id))
