-- Steps of two runs that are one from above, step by step: a job of an upper task becomes ready in
-- the same of them, and while it is ready the same upper tasks execute, and no lower one.
use Rattle.std.proofs.Common.{◌≡◌, ℕ, zero, suc, ◌+◌, inl, inr, Bool, true, false, cond, not, ◌&&◌, ◌||◌, nat_le, nat_lt, List, [], ◌∷◌, ◌++◌, drop, take, map, refl, sym, ◌∙◌, ap, ap₂, subst}
use Rattle.std.specs.Prelude.{Option, Some, None, slice_get}
use Rattle.std.specs.List.{AllByRecursion, filter, find, list_any, prefix_len}
use Rattle.std.specs.Option.{option_map}
use Rattle.osek_base.specs.Blocker.{becomes_ready_after, becomes_ready_in, executes, is_ready_from, state_after}
use Rattle.osek_base.specs.BlockingText.{behind_last, executes_in, ready_since}
use Rattle.osek_base.specs.Lists.{below}
use Rattle.osek_base.specs.State.{Job, JobId, State, still}
use Rattle.osek_base.specs.System.{System, Task, priority_of}
use Rattle.osek_base.specs.Tick.{Step}
use Rattle.osek_base.proofs.ForemostLemmas.{keep}
use Rattle.law_runs.proofs.Blocking.{until}
use Rattle.law_runs.proofs.Counting.{is_lower, lower_in}
use Rattle.law_runs.proofs.Lists.{clash, none_some, some_inside}
use Rattle.law_runs.proofs.Watched.{HasReadyJob}
use Rattle.partition_check.proofs.UpperState.{is_upper_id, is_upper_job, up, up_job, up_jobs}
use Rattle.law_upper.specs.Above.{AreOneAbove, IsUpperTask}
use Rattle.law_upper.proofs.Below.{AllWait}
use Rattle.law_upper.proofs.Sides.{upper_there}
use Rattle.law_upper.proofs.SightsAbove.{AreOne, SeeAlike, becomes_alike, executing_in, executing_known, executing_up, number_alike, see_alike}
use Rattle.law_upper.proofs.States.{declare_same}

-- ---- while a lower task executes all upper jobs wait

abbrev pub IsQuiet : System → ℕ → State → Type 0
IsQuiet S p s =
    (k : Job) → executing_in s ≡ Some k → is_upper_job S p k ≡ false → AllWait (up S p s).jobs

module _ (S : System) (p : ℕ) (n : JobId) (high : is_upper_id S p n ≡ true) where
  ready_waits : (jobs : List Job) → HasReadyJob n jobs → AllWait (up_jobs S p jobs) → ⊥
  ready_waits [] here all = absurd here
  ready_waits (x ∷ jobs) here all = go (is_upper_job S p x) refl here all (ready_waits jobs)
    where
      go : (b : Bool) → is_upper_job S p x ≡ b → HasReadyJob n (x ∷ jobs)
          → AllWait (map (up_job S p)
          (cond b (x ∷ filter (is_upper_job S p) jobs) (filter (is_upper_job S p) jobs)))
          → (HasReadyJob n jobs → AllWait (up_jobs S p jobs) → ⊥) → ⊥
      go true e (inl is) every rest = clash (sym every.0 ∙ is.1)
      go true e (inr later) every rest = rest later every.1
      go false e (inl is) every rest =
          clash (sym high ∙ ap (is_upper_id S p) (sym is.0) ∙ e)
      go false e (inr later) every rest = rest later every

  -- so where the job of an upper task is ready, who executes is upper
  ready_kept : (s : State) → IsQuiet S p s → HasReadyJob n s.jobs
      → keep (is_upper_job S p) (executing_in s) ≡ executing_in s
  ready_kept s quiet here = go (executing_in s) refl
    where
      by : (k : Job) (b : Bool) → is_upper_job S p k ≡ b → executing_in s ≡ Some k
          → cond b (Some k) None ≡ Some k
      by k true e is = refl
      by k false e is = absurd (ready_waits s.jobs here (quiet k is e))

      go : (o : Option Job) → executing_in s ≡ o → keep (is_upper_job S p) o ≡ o
      go None is = refl
      go (Some k) is = by k (is_upper_job S p k) refl is

-- ---- two lists of steps

pub record StepsAreOne (S B : System) (p : ℕ) (x y : Step) : Type 0 where
  pub executing : AreOne S B p x.executing y.executing
  pub after : AreOne S B p x.after y.after
  pub quiet : IsQuiet S p x.executing
  pub quiet_there : IsQuiet B p y.executing

abbrev pub AreAlike : System → System → ℕ → List Step → List Step → Type 0
AreAlike S B p [] [] = Unit {0}
AreAlike S B p (x ∷ xs) (y ∷ ys) = StepsAreOne S B p x y × AreAlike S B p xs ys
AreAlike S B p [] (y ∷ ys) = ⊥
AreAlike S B p (x ∷ xs) [] = ⊥

abbrev pub BothOrNone : System → System → ℕ → Option Step → Option Step → Type 0
BothOrNone S B p None None = Unit {0}
BothOrNone S B p (Some x) (Some y) = StepsAreOne S B p x y
BothOrNone S B p None (Some y) = ⊥
BothOrNone S B p (Some x) None = ⊥

module _ (S B : System) (p : ℕ) where
  pub appended : (xs ys : List Step) (x y : Step) → AreAlike S B p xs ys → StepsAreOne S B p x y
      → AreAlike S B p (xs ++ x ∷ []) (ys ++ y ∷ [])
  appended [] [] x y are one = (one, tt)
  appended [] (v ∷ ys) x y are one = absurd are
  appended (u ∷ xs) [] x y are one = absurd are
  appended (u ∷ xs) (v ∷ ys) x y are one = (are.0, appended xs ys x y are.1 one)

  got : (xs ys : List Step) → AreAlike S B p xs ys → (k : ℕ)
      → BothOrNone S B p (slice_get xs k) (slice_get ys k)
  got [] [] are k = tt
  got [] (v ∷ ys) are k = absurd are
  got (u ∷ xs) [] are k = absurd are
  got (u ∷ xs) (v ∷ ys) are zero = are.0
  got (u ∷ xs) (v ∷ ys) are (suc k) = got xs ys are.1 k

  pub dropped : (k : ℕ) (xs ys : List Step) → AreAlike S B p xs ys
      → AreAlike S B p (drop k xs) (drop k ys)
  dropped zero xs ys are = are
  dropped (suc k) [] [] are = tt
  dropped (suc k) [] (v ∷ ys) are = absurd are
  dropped (suc k) (u ∷ xs) [] are = absurd are
  dropped (suc k) (u ∷ xs) (v ∷ ys) are = dropped k xs ys are.1

  taken : (k : ℕ) (xs ys : List Step) → AreAlike S B p xs ys
      → AreAlike S B p (take k xs) (take k ys)
  taken zero xs ys are = tt
  taken (suc k) [] [] are = tt
  taken (suc k) [] (v ∷ ys) are = absurd are
  taken (suc k) (u ∷ xs) [] are = absurd are
  taken (suc k) (u ∷ xs) (v ∷ ys) are = (are.0, taken k xs ys are.1)

module _ (S B : System) (p : ℕ) (pair : AreOneAbove S B p) (n : JobId)
    (is : IsUpperTask S p n.task) where
  there : IsUpperTask B p n.task
  there = upper_there S B p pair n.task is

  -- ---- when it becomes ready

  after_same : (o q : Option Step) → BothOrNone S B p o q
      → becomes_ready_after o n ≡ becomes_ready_after q n
  after_same None None both = refl
  after_same None (Some y) both = absurd both
  after_same (Some x) None both = absurd both
  after_same (Some x) (Some y) both =
      becomes_alike n x.executing y.executing x.after y.after
      (see_alike S B p n is.upper there.upper x.executing y.executing both.executing)
      (see_alike S B p n is.upper there.upper x.after y.after both.after)

  in_same : (s b : State) → SeeAlike n s b → (o q : Option Step) → BothOrNone S B p o q
      → becomes_ready_in s o n ≡ becomes_ready_in b q n
  in_same s b old None None both = refl
  in_same s b old None (Some y) both = absurd both
  in_same s b old (Some x) None both = absurd both
  in_same s b old (Some x) (Some y) both =
      becomes_alike n s b x.executing y.executing old
      (see_alike S B p n is.upper there.upper x.executing y.executing both.executing)

  state_same : (s b : State) → SeeAlike n s b → (o q : Option Step) → BothOrNone S B p o q
      → SeeAlike n (state_after s o) (state_after b q)
  state_same s b old None None both = old
  state_same s b old None (Some y) both = absurd both
  state_same s b old (Some x) None both = absurd both
  state_same s b old (Some x) (Some y) both =
      see_alike S B p n is.upper there.upper x.after y.after both.after

  executes_same : (o q : Option Step) → BothOrNone S B p o q → executes_in n o ≡ executes_in n q
  executes_same None None both = refl
  executes_same None (Some y) both = absurd both
  executes_same (Some x) None both = absurd both
  executes_same (Some x) (Some y) both =
      number_alike S B p n is.upper there.upper x.executing y.executing both.executing

  module _ (s b : State) (begun : SeeAlike n s b) (xs ys : List Step)
      (are : AreAlike S B p xs ys) where
    abbrev at : (k : ℕ) → BothOrNone S B p (slice_get xs k) (slice_get ys k)
    at k = got S B p xs ys are k

    pub from_same : (u : ℕ) → is_ready_from S s xs u n ≡ is_ready_from B b ys u n
    from_same zero =
        ap₂ (λ x y. x || y)
        (becomes_alike n (still S) (still B) s b
        (record { is_in = refl; waiting = refl; runs = refl }) begun)
        (in_same s b begun (slice_get xs 0) (slice_get ys 0) (at 0))
    from_same (suc u) =
        ap₂ (λ x y. x || y)
        (after_same (slice_get xs u) (slice_get ys u) (at u))
        (in_same (state_after s (slice_get xs u)) (state_after b (slice_get ys u))
        (state_same s b begun (slice_get xs u) (slice_get ys u) (at u))
        (slice_get xs (suc u)) (slice_get ys (suc u)) (at (suc u)))

    behind_same : (v : ℕ) → behind_last n xs v ≡ behind_last n ys v
    behind_same zero = refl
    behind_same (suc v) =
        ap₂ (λ (c : Bool) k. cond c (suc v) k)
        (executes_same (slice_get xs v) (slice_get ys v) (at v)) (behind_same v)

    pub since_same : (v : ℕ) → ready_since S s xs n v ≡ ready_since B b ys n v
    since_same v = λ i.
        find (λ u. nat_le (behind_same v i) u && from_same u i) (below (suc v))

  -- ---- who executes below it

  prefix_same : (xs ys : List Step) → AreAlike S B p xs ys
      → prefix_len (λ x. not (executes n x)) xs ≡ prefix_len (λ y. not (executes n y)) ys
  prefix_same [] [] are = refl
  prefix_same [] (y ∷ ys) are = absurd are
  prefix_same (x ∷ xs) [] are = absurd are
  prefix_same (x ∷ xs) (y ∷ ys) are =
      ap₂ (λ (c : Bool) k. cond (not c) (1 + k) 0)
      (number_alike S B p n is.upper there.upper x.executing y.executing are.0.executing)
      (prefix_same xs ys are.1)

  pub until_same : (xs ys : List Step) → AreAlike S B p xs ys
      → AreAlike S B p (until S pair.proper n xs) (until B pair.proper_there n ys)
  until_same xs ys are =
      let size : ℕ = prefix_len (λ x. not (executes n x)) xs in
      subst (λ k. AreAlike S B p (take size xs) (take k ys)) (prefix_same xs ys are)
      (taken S B p size xs ys are)

  level_same : (t : ℕ) → IsUpperTask S p t → priority_of S t ≡ priority_of B t
  level_same t of =
      ap (λ (a : Task). a.priority) ((declare_same S B p pair).tasks t of)

  lower_same : (x y : Step) → StepsAreOne S B p x y → HasReadyJob n x.executing.jobs
      → HasReadyJob n y.executing.jobs
      → lower_in S (priority_of S n.task) x ≡ lower_in B (priority_of B n.task) y
  lower_same x y one here here_there =
      go (executing_in x.executing) (executing_in y.executing) refl
      (ap (option_map (up_job S p))
      (sym (ready_kept S p n is.upper x.executing one.quiet here))
      ∙ sym (executing_up S p x.executing) ∙ ap executing_in one.executing.same
      ∙ executing_up B p y.executing
      ∙ ap (option_map (up_job B p))
      (ready_kept B p n there.upper y.executing one.quiet_there here_there))
    where
      upper_is : (k : Job) → executing_in x.executing ≡ Some k → is_upper_job S p k ≡ true
      upper_is k runs =
          by (is_upper_job S p k) refl
          (sym (ap (keep (is_upper_job S p)) runs)
          ∙ ready_kept S p n is.upper x.executing one.quiet here ∙ runs)
        where
          by : (c : Bool) → is_upper_job S p k ≡ c
              → cond (is_upper_job S p k) (Some k) None ≡ Some k → is_upper_job S p k ≡ true
          by true e h = e
          by false e h = absurd (none_some k (sym (ap (λ (d : Bool). cond d (Some k) None) e) ∙ h))

      go : (o q : Option Job) → executing_in x.executing ≡ o
          → option_map (up_job S p) o ≡ option_map (up_job B p) q
          → is_lower S (priority_of S n.task) o ≡ is_lower B (priority_of B n.task) q
      go None None runs same = refl
      go None (Some m) runs same = absurd (none_some (up_job B p m) same)
      go (Some k) None runs same = absurd (none_some (up_job S p k) (sym same))
      go (Some k) (Some m) runs same =
          let id : k.id ≡ m.id =
          ap (λ (j : Job). j.id) (some_inside (up_job S p k) (up_job B p m) same) in
          let known = executing_known S p x.executing one.executing.layered k runs in
          ap₂ nat_lt
          (level_same k.id.task (record { known = known.task; upper = upper_is k runs })
          ∙ ap (λ (j : JobId). priority_of B j.task) id)
          (level_same n.task is)

  pub any_same : (xs ys : List Step) → AreAlike S B p xs ys
      → AllByRecursion (λ (x : Step). HasReadyJob n x.executing.jobs) xs
      → AllByRecursion (λ (y : Step). HasReadyJob n y.executing.jobs) ys
      → list_any (lower_in S (priority_of S n.task)) xs
      ≡ list_any (lower_in B (priority_of B n.task)) ys
  any_same [] [] are here here_there = refl
  any_same [] (y ∷ ys) are here here_there = absurd are
  any_same (x ∷ xs) [] are here here_there = absurd are
  any_same (x ∷ xs) (y ∷ ys) are here here_there =
      ap₂ (λ c d. c || d) (lower_same x y are.0 here.0 here_there.0)
      (any_same xs ys are.1 here.1 here_there.1)
