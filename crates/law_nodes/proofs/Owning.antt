-- The job that calls in a good state: it is the only one of its id, and doesn't wait.
use Rattle.std.proofs.Common.{◌≡◌, ℕ, zero, suc, ◌<◌, Bool, true, false, cond, List, [], ◌∷◌, refl, sym, ◌∙◌, ap, arith}
use Rattle.std.specs.Prelude.{Option, Some, None, is_some, slice_get, slice_index}
use Rattle.std.specs.List.{AllByRecursion, filter, find}
use Rattle.osek_base.specs.GoodState.{IsGood}
use Rattle.osek_base.specs.Lists.{is_empty}
use Rattle.osek_base.specs.State.{Job, JobId, State, same_id, with_job}
use Rattle.osek_base.specs.System.{System}
use Rattle.law_runs.proofs.Foremost.{same_ids}
use Rattle.law_runs.proofs.Known.{IsRunningCaller}
use Rattle.law_runs.proofs.Lists.{all_map, clash, some_inside}

-- what holds of each job of an id
abbrev pub IsOwn : (Job → Type 0) → JobId → Job → Type 0
IsOwn P n k = same_id k.id n ≡ true → P k

-- it holds behind a change of them
pub own_changed : (P Q : Job → Type 0) (n : JobId) (change : Job → Job) (jobs : List Job)
    → ((k : Job) → P k → Q (change k)) → AllByRecursion (IsOwn P n) jobs
    → AllByRecursion (IsOwn Q n) (with_job n change jobs)
own_changed P Q n change jobs step all =
    all_map (IsOwn P n) (IsOwn Q n) (λ k. cond (same_id k.id n) (change k) k) jobs
    (λ k h. one k (same_id k.id n) refl h) all
  where
    one : (k : Job) (b : Bool) → same_id k.id n ≡ b → IsOwn P n k
        → IsOwn Q n (cond b (change k) k)
    one k true is h own = step k (h is)
    one k false is h own = clash (sym own ∙ is)

-- ---- what is found in a list

module _ {X : Type 0} where
  each_by_place : (P : X → Type 0) (xs : List X)
      → ((i : ℕ) (x : X) → slice_get xs i ≡ Some x → P x) → AllByRecursion P xs
  each_by_place P [] f = tt
  each_by_place P (x ∷ xs) f =
      (f zero x refl, each_by_place P xs (λ i y h. f (suc i) y h))

  pub place_found : (test : X → Bool) (xs : List X) (x : X) → find test xs ≡ Some x
      → (i : ℕ) × (slice_get xs i ≡ Some x)
  place_found test [] x h = absurd (grind arith)
  place_found test (y ∷ xs) x h = go (test y) h (place_found test xs x)
    where
      go : (b : Bool) → cond b (Some y) (find test xs) ≡ Some x
          → (find test xs ≡ Some x → (i : ℕ) × (slice_get xs i ≡ Some x))
          → (i : ℕ) × (slice_get (y ∷ xs) i ≡ Some x)
      go true k rest = (zero, k)
      go false k rest = let there = rest k in (suc there.0, there.1)

  pub some_kept : (p test : X → Bool) (xs : List X) (x : X) → find test xs ≡ Some x
      → p x ≡ true → is_empty (filter p xs) ≡ false
  some_kept p test [] x h passes = absurd (grind arith)
  some_kept p test (y ∷ xs) x h passes = go (test y) h (some_kept p test xs x)
    where
      here : (b : Bool) → b ≡ true → is_empty (cond b (y ∷ filter p xs) (filter p xs)) ≡ false
      here true k = refl
      here false k = clash (sym k)

      later : (b : Bool) → is_empty (filter p xs) ≡ false
          → is_empty (cond b (y ∷ filter p xs) (filter p xs)) ≡ false
      later true k = refl
      later false k = k

      go : (b : Bool) → cond b (Some y) (find test xs) ≡ Some x
          → (find test xs ≡ Some x → p x ≡ true → is_empty (filter p xs) ≡ false)
          → is_empty (cond (p y) (y ∷ filter p xs) (filter p xs)) ≡ false
      go true k rest = here (p y) (ap p (some_inside y x k) ∙ passes)
      go false k rest = later (p y) (rest k passes)

-- ---- the job that calls

-- it is the only one of its id, which was given, and it doesn't wait
pub record IsAlone (s : State) (j : Job) : Type 0 where
  pub only : AllByRecursion (IsOwn (λ k. k ≡ j) j.id) s.jobs
  pub ready : j.waits_for ≡ None
  pub given : j.id.serial < slice_index s.made j.id.task

none_is : {X : Type 0} (o : Option X) → is_some o ≡ false → o ≡ None
none_is None h = refl
none_is (Some x) h = clash h

pub caller_alone : (S : System) (s : State) (j : Job) → IsGood S s → IsRunningCaller s j
    → IsAlone s j
caller_alone S s j good calls =
    let there = place_found (λ k. same_id k.id j.id) s.jobs j calls.found in
    record {
      only =
          each_by_place (IsOwn (λ k. k ≡ j) j.id) s.jobs
          (λ i k at_i own.
          some_inside k j
          (sym at_i
          ∙ ap (slice_get s.jobs)
          (good.apart i there.0 k j at_i there.1 (same_ids k.id j.id own))
          ∙ there.1));
      ready = none_is j.waits_for (good.running_ready there.0 j there.1 calls.runs);
      given = good.given there.0 j there.1;
    }
