-- How a job of a basic task came that is ready since a tick: by boot, by an alarm in that tick, or
-- by the instruction of the tick before.
use Rattle.std.proofs.Common.{ℕ, zero, suc, ◌≡◌, ◌<◌, ◌≤◌, ◌⊎◌, inl, inr, Bool, true, false, cond, not, ◌&&◌, ◌||◌, List, [], ◌∷◌, length, refl, sym, ◌∙◌, ap, subst, arith}
use Rattle.std.specs.Prelude.{Some, ◌==◌, is_some}
use Rattle.std.specs.List.{AllByRecursion}
use Rattle.std.proofs.lemmas.Bool.{and_parts, cases_lt, false_from_ne_true}
use Rattle.osek_base.specs.declared.arrivals.Arrival.{Arrival}
use Rattle.osek_base.specs.Alarm.{due_alarms, is_due}
use Rattle.osek_base.specs.Blocker.{is_waiting_job}
use Rattle.osek_base.specs.Lists.{below, is_in}
use Rattle.osek_base.specs.Proper.{IsProper}
use Rattle.osek_base.specs.State.{Job, JobId, State, job_of, same_id, waits}
use Rattle.osek_base.specs.System.{System, is_extended, starts_in}
use Rattle.osek_base.specs.Tick.{before_execution, executor}
use Rattle.osek_base.specs.Trace.{arriving, boot, run}
use Rattle.law_runs.proofs.Foremost.{equal, same_ids, self_equal}
use Rattle.law_runs.proofs.Known.{all_below}
use Rattle.law_runs.proofs.Lists.{Pairs, all_both, all_kept, all_weaker, clash, pairs_append, pairs_kept}
use Rattle.law_runs.proofs.RankedTick.{run_ordered}
use Rattle.law_runs.proofs.RunSteps.{going_before, state_more}
use Rattle.law_runs.proofs.Single.{IsSingle, IsSoundJob}
use Rattle.law_blockers.specs.Steps.{step_at}
use Rattle.law_blockers.proofs.StepLemmas.{executing_is}
use Rattle.law_jobs.specs.ReadySince.{AreAges, IsAge, IsReadySince}
use Rattle.law_jobs.specs.Standing.{standing, stands_in}
use Rattle.law_jobs.proofs.Aging.{ages_are_of_jobs}
use Rattle.law_jobs.proofs.Lists.{is_among, is_there}
use Rattle.law_jobs.proofs.Members.{stands_among}
use Rattle.law_jobs.proofs.Ticking.{executing_good, run_grows}
use Rattle.law_analysis.specs.Refusing.{activates_alone, alarm_activates}
use Rattle.law_analysis.proofs.RefusingAlarms.{all_tested}
use Rattle.law_analysis.proofs.RefusingJobs.{after_owes, before_owes, boot_owes}
use Rattle.law_analysis.proofs.RefusingPrograms.{made_by}

-- ---- lists

or_true : (b : Bool) → (b || true) ≡ true
or_true true = refl
or_true false = refl

all_in : (xs : List ℕ) → AllByRecursion (λ x. is_in x xs ≡ true) xs
all_in [] = tt
all_in (x ∷ xs) = (
  ap (λ b. b || is_in x xs) (self_equal x),
  all_weaker (λ y. is_in y xs ≡ true) (λ y. is_in y (x ∷ xs) ≡ true) xs
      (λ y h. ap (λ b. (x == y) || b) h ∙ or_true (x == y)) (all_in xs),
)

rising_below : (n : ℕ) → Pairs (λ t u. t < u) (below n)
rising_below zero = tt
rising_below (suc n) =
    pairs_append (λ t u. t < u) (below n) (n ∷ []) (rising_below n) (tt, tt)
    (all_weaker (λ t. t < n) (λ t. AllByRecursion (λ u. t < u) (n ∷ [])) (below n)
    (λ t h. (h, tt)) (all_below n))

-- ---- alarms that are due

module _ (S : System) (s : State) where
  pub due_rise : Pairs (λ a b. a < b) (due_alarms S s)
  due_rise =
      pairs_kept (λ t u. t < u) (is_due S s) (below (length S.alarms))
      (rising_below (length S.alarms))

  module _ (k a : ℕ) (alone : activates_alone S a k ≡ true) where
    -- of those that activate the task there is but one
    pub only_due : AllByRecursion (λ b. alarm_activates S k b ≡ true → b ≡ a) (due_alarms S s)
    only_due =
        all_weaker (λ b. (b == a || not (alarm_activates S k b)) ≡ true)
        (λ b. alarm_activates S k b ≡ true → b ≡ a) (due_alarms S s)
        (λ b h acts. equal b a (either (b == a) (alarm_activates S k b) h acts))
        (all_kept (λ b. (b == a || not (alarm_activates S k b)) ≡ true) (is_due S s)
        (below (length S.alarms))
        (all_tested (λ b. b == a || not (alarm_activates S k b)) (below (length S.alarms))
        (and_parts _ _ alone).1))
      where
        either : (c d : Bool) → (c || not d) ≡ true → d ≡ true → c ≡ true
        either true d h is = refl
        either false true h is = h
        either false false h is = clash (sym is)

    -- so where one does, that one is due
    pub acts_due : AllByRecursion (λ b. alarm_activates S k b ≡ true
        → is_in a (due_alarms S s) ≡ true) (due_alarms S s)
    acts_due =
        all_weaker
        (λ b. (alarm_activates S k b ≡ true → b ≡ a) × (is_in b (due_alarms S s) ≡ true))
        (λ b. alarm_activates S k b ≡ true → is_in a (due_alarms S s) ≡ true) (due_alarms S s)
        (λ b h acts. subst (λ c. is_in c (due_alarms S s) ≡ true) (h.0 acts) h.1)
        (all_both (λ b. alarm_activates S k b ≡ true → b ≡ a)
        (λ b. is_in b (due_alarms S s) ≡ true) (due_alarms S s) only_due
        (all_in (due_alarms S s)))

-- ---- a job of a basic task stands where it is in the list

module _ (id : JobId) where
  found_there : (jobs : List Job) → is_some (job_of id jobs) ≡ true → is_there id jobs ≡ true
  found_there [] h = h
  found_there (j ∷ js) h = go (same_id j.id id) h (found_there js)
    where
      go : (b : Bool) → is_some (cond b (Some j) (job_of id js)) ≡ true
          → (is_some (job_of id js) ≡ true → is_there id js ≡ true) → (b || is_there id js) ≡ true
      go true k rest = refl
      go false k rest = rest k

  pub stands_there : (s : State) → stands_in s id ≡ true → is_there id s.jobs ≡ true
  stands_there s h =
      found_there s.jobs
      (and_parts (is_some (job_of id s.jobs)) (not (is_waiting_job (job_of id s.jobs))) h).0

  calm_stands : (jobs : List Job) → AllByRecursion (λ j. j.id.task ≡ id.task → waits j ≡ false) jobs
      → is_there id jobs ≡ true
      → (is_some (job_of id jobs) && not (is_waiting_job (job_of id jobs))) ≡ true
  calm_stands [] calm there = there
  calm_stands (j ∷ js) calm there = go (same_id j.id id) refl there (calm_stands js calm.1)
    where
      go : (b : Bool) → same_id j.id id ≡ b → (b || is_there id js) ≡ true
          → (is_there id js ≡ true
          → (is_some (job_of id js) && not (is_waiting_job (job_of id js))) ≡ true)
          → (is_some (cond b (Some j) (job_of id js))
          && not (is_waiting_job (cond b (Some j) (job_of id js)))) ≡ true
      go true same h rest =
          ap not (calm.0 (ap (λ (n : JobId). n.task) (same_ids j.id id same)))
      go false other h rest = rest h

  pub there_stands : (S : System) (s : State) → IsSingle S s → is_extended S id.task ≡ false
      → is_there id s.jobs ≡ true → stands_in s id ≡ true
  there_stands S s single basic there =
      calm_stands s.jobs
      (all_weaker (IsSoundJob S s.made) (λ j. j.id.task ≡ id.task → waits j ≡ false) s.jobs
      (λ j sound of. false_from_ne_true (waits j)
      (λ waiting. clash
      (sym (sound.extended waiting) ∙ ap (is_extended S) of ∙ basic))) single.each)
      there

-- ---- ages

module _ (S : System) (mode : ℕ) (arrivals : List Arrival) (n : ℕ) (id : JobId) where
  aged : (jobs : List JobId) (old : List ℕ) → AreAges S mode arrivals n jobs old
      → is_among jobs id ≡ true → (age : ℕ) × IsAge S mode arrivals n id age
  aged [] old ages among = clash (sym among)
  aged (j ∷ js) [] ages among = absurd ages
  aged (j ∷ js) (age ∷ old) ages among = go (same_id j id) refl among (aged js old ages.1)
    where
      go : (b : Bool) → same_id j id ≡ b → (b || is_among js id) ≡ true
          → (is_among js id ≡ true → (age : ℕ) × IsAge S mode arrivals n id age)
          → (age : ℕ) × IsAge S mode arrivals n id age
      go true same h rest =
          (age, subst (λ i. IsAge S mode arrivals n i age) (same_ids j id same) ages.0)
      go false other h rest = rest h

pub going_until : (S : System) (mode : ℕ) (arrivals : List Arrival) (i n : ℕ) → i ≤ n
    → (run S mode arrivals n).state.over ≡ false → (run S mode arrivals i).state.over ≡ false
going_until S mode arrivals i zero low going =
    let same : 0 ≡ i = omega (arith, low) in
    subst (λ m. (run S mode arrivals m).state.over ≡ false) same going
going_until S mode arrivals i (suc n) low going = elim (cases_lt i (suc n)) [
  | inl less ↦
      going_until S mode arrivals i n (omega (arith, less)) (going_before S mode arrivals n going)
  | inr most ↦
      let same : suc n ≡ i = omega (arith, low, most) in
      subst (λ m. (run S mode arrivals m).state.over ≡ false) same going
]

-- ---- how a job came

module _ (S : System) (mode : ℕ) (arrivals : List Arrival) (proper : IsProper S) where
  abbrev pub here : ℕ → State
  here n = (run S mode arrivals n).state

  abbrev pub at : ℕ → State
  at n = (step_at S mode arrivals n).executing

  abbrev pub Goes : ℕ → Type 0
  Goes n = (run S mode arrivals n).state.over ≡ false

  begun : here 0 ≡ (boot S mode).state
  unfolding run
  begun = refl

  module _ (id : JobId) (known : id.task < length S.tasks) (basic : is_extended S id.task ≡ false)
    where
      -- the instruction of a tick is one that activates its task
      abbrev pub IsMade : ℕ → Type 0
      IsMade n = made_by S (executor (at n)) ≡ Some id.task

      -- each job that is in the list behind a tick was so at its instruction, or is made by it
      was_there : (n : ℕ) → Goes n → is_there id (here (suc n)).jobs ≡ true
          → (is_there id (at n).jobs ≡ true) ⊎ IsMade n
      was_there n going there =
          subst
          (λ (s : State). (is_there id s.jobs ≡ true) ⊎ (made_by S (executor s) ≡ Some id.task))
          (executing_is S mode arrivals n going)
          (after_owes S id
          ((is_there id (before_execution S (arriving arrivals n) (here n)).state.jobs ≡ true)
          ⊎ (made_by S (executor (before_execution S (arriving arrivals n) (here n)).state)
          ≡ Some id.task))
          (arriving arrivals n) (here n) (λ is. inr is) (λ h. inl h)
          (subst (λ (s : State). is_there id s.jobs ≡ true) (state_more S mode arrivals n going)
          there))

      booted : is_there id (here 0).jobs ≡ true → starts_in S mode id.task ≡ true
      booted there =
          boot_owes S id (starts_in S mode id.task ≡ true) mode (λ h. h)
          (subst (λ (s : State). is_there id s.jobs ≡ true) begun there)

      at_stands : (n : ℕ) → Goes n → is_there id (at n).jobs ≡ true → stands_in (at n) id ≡ true
      at_stands n going there =
          there_stands id S (at n)
          (executing_good S mode arrivals n id.task proper going known).good.single basic there

      -- since when it is ready
      pub ready_at : (n : ℕ) → Goes n → is_there id (at n).jobs ≡ true
          → (since : ℕ) × IsReadySince S mode arrivals n id since
      ready_at n going there =
          let age = aged S mode arrivals n id (standing id.task (at n).jobs) _
          (ages_are_of_jobs S mode arrivals n id.task proper going known)
          (go (is_among (standing id.task (at n).jobs) id) refl) in
          (age.1.since, age.1.ready)
        where
          go : (b : Bool) → is_among (standing id.task (at n).jobs) id ≡ b → b ≡ true
          go true is = refl
          go false is =
              clash
              (sym (at_stands n going there)
              ∙ stands_among (at n) id.task id (self_equal id.task) is)

      -- where it is in the list before a tick it is so at its instruction
      pub stays_there : (n : ℕ) → Goes n → is_there id (here n).jobs ≡ true
          → is_there id (at n).jobs ≡ true
      stays_there n going there =
          (run_grows S mode arrivals n id.task proper going known).stays id there

      -- Q follows in a tick of an alarm that is due and activates its task
      module _ (Q : ℕ → Type 0)
          (acts : (n : ℕ) → AllByRecursion (λ b. alarm_activates S id.task b ≡ true → Q n)
          (due_alarms S (here n))) where
        made_in : (n : ℕ) → Goes n → is_there id (here n).jobs ≡ false
            → is_there id (at n).jobs ≡ true → Q n
        made_in n going absent there =
            before_owes S id (Q n) (arriving arrivals n) (here n) (acts n)
            (λ was. clash (sym was ∙ absent))
            (subst (λ (s : State). is_there id s.jobs ≡ true)
            (sym (executing_is S mode arrivals n going)) there)

        abbrev pub HasCome : ℕ → Type 0
        HasCome since =
            ((since ≡ 0) × (starts_in S mode id.task ≡ true))
            ⊎ ((Q since × (is_there id (here since).jobs ≡ false))
            ⊎ ((m : ℕ) × (since ≡ suc m) × IsMade m))

        pub comes : (n since : ℕ) → Goes n → IsReadySince S mode arrivals n id since
            → HasCome since
        comes n since going ready = go (is_there id (here since).jobs) refl
          where
            goes : Goes since
            goes = going_until S mode arrivals since n ready.past going

            -- it didn't stand at the instruction of the tick before
            began : (m : ℕ) → since ≡ suc m → Goes m → is_there id (here (suc m)).jobs ≡ true
                → is_there id (at m).jobs ≡ true → HasCome since
            began m is before there was =
                let stands = there_stands id S (here (suc m))
                (run_ordered S proper mode arrivals (suc m)).single basic there in
                clash
                (sym (subst (λ b. (b && stands_in (here since) id) ≡ true)
                (sym (at_stands m before was))
                (subst (λ u. stands_in (here u) id ≡ true) (sym is) stands)) ∙ ready.first m is)

            first : (m : ℕ) → since ≡ m → is_there id (here m).jobs ≡ true → HasCome since
            first zero is there = inl (is, booted there)
            first (suc m) is there = either (was_there m before there)
              where
                before : Goes m
                before = going_before S mode arrivals m (subst (λ u. Goes u) is goes)

                either : (is_there id (at m).jobs ≡ true) ⊎ IsMade m → HasCome since
                either (inl was) = began m is before there was
                either (inr made) = inr (inr (m, is, made))

            go : (b : Bool) → is_there id (here since).jobs ≡ b → HasCome since
            go true there = first since refl there
            go false absent =
                inr
                (inl (
                  made_in since goes absent
                      (stands_there id (at since) (ready.stands since (omega arith) ready.past)),
                  absent,
                ))
