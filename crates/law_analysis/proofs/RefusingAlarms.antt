-- Which actions of alarms that act in turn are refused.
use Rattle.std.proofs.Common.{ℕ, ◌≡◌, ◌<◌, ◌≤◌, Bool, true, false, cond, not, nat_le, ◌||◌, List, [], ◌∷◌, ◌++◌, length, refl, sym, ◌∙◌, ap, subst, arith}
use Rattle.std.specs.Prelude.{◌==◌}
use Rattle.std.specs.List.{filter, list_all, AllByRecursion}
use Rattle.std.proofs.lemmas.Bool.{and_parts, false_from_ne_true, not-true}
use Rattle.osek_base.specs.declared.status.Status.{Status}
use Rattle.osek_base.specs.declared.task.Action.{Action}
use Rattle.osek_base.specs.Activation.{is_full}
use Rattle.osek_base.specs.Alarm.{due_alarms, is_due}
use Rattle.osek_base.specs.Lists.{below}
use Rattle.osek_base.specs.Service.{NobodyCalls, Reply, answer, first_refusal, unasked_service}
use Rattle.osek_base.specs.State.{Job, JobId, State, jobs_of, same_id}
use Rattle.osek_base.specs.System.{System, activation_of, alarm}
use Rattle.osek_base.specs.Tick.{action_call}
use Rattle.law_runs.proofs.Foremost.{equal, same_self}
use Rattle.law_runs.proofs.Lists.{Pairs, all_both, all_kept, all_weaker, clash}
use Rattle.law_jobs.proofs.Lists.{is_there}
use Rattle.seen_ticks.specs.Observed.{activations_by, is_activation, is_among}
use Rattle.seen_ticks.specs.Told.{if_refused, refused_of}
use Rattle.law_analysis.specs.Refusing.{alarm_activates, no_alarm_activates}
use Rattle.law_analysis.proofs.RefusingJobs.{acted_owes}

-- ---- a test of numbers

pub all_tested : (test : ℕ → Bool) (xs : List ℕ) → list_all test xs ≡ true
    → AllByRecursion (λ x. test x ≡ true) xs
all_tested test [] h = tt
all_tested test (x ∷ xs) h =
    let both = and_parts (test x) (list_all test xs) h in
    (both.0, all_tested test xs both.1)

-- ---- a task without jobs

-- no job of the task is in the list
abbrev pub IsFree : ℕ → List Job → Type 0
IsFree k jobs = (n : JobId) → n.task ≡ k → is_there n jobs ≡ true → ⊥

or_true : (b : Bool) → (b || true) ≡ true
or_true true = refl
or_true false = refl

none_of : (k : ℕ) (jobs : List Job) → IsFree k jobs → jobs_of k jobs ≡ []
none_of k [] free = refl
none_of k (j ∷ js) free = go (j.id.task == k) refl (none_of k js rest)
  where
    rest : IsFree k js
    rest n of there =
        free n of (ap (λ b. same_id j.id n || b) there ∙ or_true (same_id j.id n))

    go : (b : Bool) → (j.id.task == k) ≡ b → jobs_of k js ≡ []
        → cond b (j ∷ jobs_of k js) (jobs_of k js) ≡ []
    go true is none =
        absurd
        (free j.id (equal j.id.task k is) (ap (λ b. b || is_there j.id js) (same_self j.id)))
    go false is none = none

module _ (S : System) (k : ℕ) where
  -- such a task takes one
  pub not_full : (s : State) → IsFree k s.jobs → 1 ≤ activation_of S k → is_full S s k ≡ false
  not_full s free some =
      ap (λ (js : List Job). nat_le (activation_of S k) (length js)) (none_of k s.jobs free)
      ∙ above (activation_of S k) some
    where
      above : (n : ℕ) → 1 ≤ n → nat_le n 0 ≡ false
      above n h = grind (arith, h)

  accepted_by : (s : State) → IsFree k s.jobs → 1 ≤ activation_of S k
      → (action : Action) → is_activation k action ≡ true
      → (unasked_service S NobodyCalls s (action_call action)).status ≡ Status.Ok
  unfolding unasked_service
  accepted_by s free some (Action.ActivateTask u) is =
      let not : is_full S s u ≡ false =
      subst (λ t. is_full S s t ≡ false) (sym (equal u k is)) (not_full s free some) in
      ap (λ b. answer (first_refusal ((b, Status.Limit) ∷ []))) not
  accepted_by s free some (Action.SetEvent u m) is = clash (sym is)

  -- ---- who is refused

  -- an alarm that doesn't activate the task counts for nothing
  passed_over : (a : ℕ) (e : Status) (rest : List ℕ) → alarm_activates S k a ≡ false
      → activations_by S k (if_refused a e ++ rest) ≡ activations_by S k rest
  passed_over a Status.Ok rest other = refl
  passed_over a _ rest other = rw other refl

  -- of alarms none of which activates it none is
  pub none_refused : (due : List ℕ) → AllByRecursion (λ a. alarm_activates S k a ≡ false) due
      → (s : State) → activations_by S k (refused_of S due s) ≡ 0
  none_refused [] other s = refl
  none_refused (a ∷ due) other s =
      let r = unasked_service S NobodyCalls s (action_call (alarm S a).action) in
      passed_over a r.status (refused_of S due r.state) other.0
      ∙ none_refused due other.1 r.state

  -- where no alarm activates it, none of those that are due does
  pub quiet_due : no_alarm_activates S k ≡ true → (s : State)
      → AllByRecursion (λ b. alarm_activates S k b ≡ false) (due_alarms S s)
  quiet_due none s =
      all_kept (λ b. alarm_activates S k b ≡ false) (is_due S s) (below (length S.alarms))
      (all_weaker (λ b. not (alarm_activates S k b) ≡ true) (λ b. alarm_activates S k b ≡ false)
      (below (length S.alarms)) (λ b h. not-true (alarm_activates S k b) h)
      (all_tested (λ b. not (alarm_activates S k b)) (below (length S.alarms)) none))

  -- nor is the one that does, where the task has no job
  pub one_refused : (one : ℕ) (due : List ℕ) → Pairs (λ a b. a < b) due
      → AllByRecursion (λ a. alarm_activates S k a ≡ true → a ≡ one) due
      → 1 ≤ activation_of S k → (s : State) → IsFree k s.jobs
      → activations_by S k (refused_of S due s) ≡ 0
  one_refused one [] rising only some s free = refl
  one_refused one (a ∷ due) rising only some s free =
      go (alarm_activates S k a) refl (one_refused one due rising.1 only.1 some _)
    where
      r : Reply
      r = unasked_service S NobodyCalls s (action_call (alarm S a).action)

      behind : alarm_activates S k a ≡ true
          → AllByRecursion (λ b. alarm_activates S k b ≡ false) due
      behind here =
          all_weaker (λ b. (a < b) × (alarm_activates S k b ≡ true → b ≡ one))
          (λ b. alarm_activates S k b ≡ false) due
          (λ b h. false_from_ne_true (alarm_activates S k b)
          (λ is. later b h.0 (only.0 here ∙ sym (h.1 is))))
          (all_both (λ b. a < b) (λ b. alarm_activates S k b ≡ true → b ≡ one) due rising.0
          only.1)
        where
          later : (b : ℕ) → a < b → a ≡ b → ⊥
          later b less same = absurd (omega (arith, less, same))

      go : (b : Bool) → alarm_activates S k a ≡ b
          → (IsFree k r.state.jobs → activations_by S k (refused_of S due r.state) ≡ 0)
          → activations_by S k (if_refused a r.status ++ refused_of S due r.state) ≡ 0
      go true is rest =
          ap (λ e. activations_by S k (if_refused a e ++ refused_of S due r.state))
          (accepted_by s free some (alarm S a).action is)
          ∙ none_refused due (behind is) r.state
      go false is rest =
          passed_over a r.status (refused_of S due r.state) is
          ∙ rest
          (λ n of. acted_owes S n ⊥ a s
          (λ acts. clash (sym (subst (λ t. alarm_activates S t a ≡ true) of acts) ∙ is))
          (free n of))

  -- where none that activates it is refused, an alarm that does isn't
  pub not_among : (a : ℕ) → alarm_activates S k a ≡ true → (refused : List ℕ)
      → activations_by S k refused ≡ 0 → is_among refused a ≡ false
  not_among a acts [] none = refl
  not_among a acts (b ∷ refused) none =
      go (b == a) refl (alarm_activates S k b) refl none (not_among a acts refused)
    where
      go : (c : Bool) → (b == a) ≡ c → (d : Bool) → alarm_activates S k b ≡ d
          → length (cond d (b ∷ filter (alarm_activates S k) refused)
          (filter (alarm_activates S k) refused)) ≡ 0
          → (activations_by S k refused ≡ 0 → is_among refused a ≡ false)
          → (c || is_among refused a) ≡ false
      go true same d is none rest =
          clash (sym (ap (alarm_activates S k) (equal b a same) ∙ acts) ∙ is ∙ never d none)
        where
          never : (d : Bool)
              → length (cond d (b ∷ filter (alarm_activates S k) refused)
              (filter (alarm_activates S k) refused)) ≡ 0 → d ≡ false
          never true h = absurd (omega (arith, h))
          never false h = refl
      go false other true is none rest = absurd (omega (arith, none))
      go false other false is none rest = rest none
