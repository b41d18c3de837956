-- A job stands where its id is among those that do.
use Rattle.std.proofs.Common.{◌≡◌, ℕ, ◌-◌, Bool, true, false, cond, not, ◌&&◌, ◌||◌, List, [], ◌∷◌, ◌++◌, map, length, refl, sym, ◌∙◌, ap, arith}
use Rattle.std.specs.Prelude.{Option, Some, None, ◌==◌, is_some}
use Rattle.std.specs.List.{filter, list_any, AllByRecursion}
use Rattle.std.proofs.lemmas.List.{length-map}
use Rattle.osek_base.specs.Blocker.{is_waiting_job}
use Rattle.osek_base.specs.Reschedule.{id_of}
use Rattle.osek_base.specs.State.{Job, JobId, State, job_of, jobs_of, same_id, waits}
use Rattle.osek_base.specs.System.{System, is_extended}
use Rattle.law_runs.proofs.Foremost.{AreApart, equal, same_ids, same_self}
use Rattle.law_runs.proofs.Lists.{Pairs, all_any, all_both, all_filter, all_kept, all_weaker, any_none, clash, none_some, pairs_kept, pairs_weaker, some_inside}
use Rattle.law_runs.proofs.Single.{IsSingle, IsSoundJob, IsSoundPair}
use Rattle.law_runs.proofs.SingleMoves.{other_way}
use Rattle.law_kept.proofs.Parts.{filter_all}
use Rattle.law_jobs.specs.Standing.{standing, stands, stands_in}
use Rattle.law_jobs.proofs.Lists.{is_among, mapped_any, one_waits}

-- ---- parts of lists

all_mapped : {X Y : Type 0} (P : Y → Type 0) (f : X → Y) (xs : List X)
    → AllByRecursion (λ x. P (f x)) xs → AllByRecursion P (map f xs)
all_mapped P f [] all = tt
all_mapped P f (x ∷ xs) all = (all.0, all_mapped P f xs all.1)

pub all_front : {X : Type 0} (P : X → Type 0) (xs ys : List X) → AllByRecursion P (xs ++ ys)
    → AllByRecursion P xs
all_front P [] ys all = tt
all_front P (x ∷ xs) ys all = (all.0, all_front P xs ys all.1)

pub all_back : {X : Type 0} (P : X → Type 0) (xs ys : List X) → AllByRecursion P (xs ++ ys)
    → AllByRecursion P ys
all_back P [] ys all = all
all_back P (x ∷ xs) ys all = all_back P xs ys all.1

-- ---- each that is among them stands

found_itself : (S : System) (jobs : List Job) → Pairs AreApart jobs
    → AllByRecursion (λ j. job_of j.id jobs ≡ Some j) jobs
found_itself S [] pairs = tt
found_itself S (x ∷ xs) pairs = (
  rw (same_self x.id) refl,
  all_weaker (λ j. AreApart x j × (job_of j.id xs ≡ Some j)) (λ j. job_of j.id (x ∷ xs) ≡ Some j)
      xs
      (λ j h. ap (λ b. cond b (Some x) (job_of j.id xs)) (other_way S j.id x.id h.0) ∙ h.1)
      (all_both (AreApart x) (λ j. job_of j.id xs ≡ Some j) xs pairs.0
      (found_itself S xs pairs.1)),
)

module _ (S : System) (s : State) (single : IsSingle S s) (k : ℕ) where
  pub each_stands : AllByRecursion (λ n. stands_in s n ≡ true) (standing k s.jobs)
  each_stands =
      all_mapped (λ n. stands_in s n ≡ true) id_of (filter stands (jobs_of k s.jobs))
      (all_weaker (λ j. (job_of j.id s.jobs ≡ Some j) × (stands j ≡ true))
      (λ j. stands_in s j.id ≡ true) (filter stands (jobs_of k s.jobs))
      (λ j h. rw h.0 h.1)
      (all_filter (λ j. job_of j.id s.jobs ≡ Some j) stands (jobs_of k s.jobs)
      (all_kept (λ j. job_of j.id s.jobs ≡ Some j) (λ j. j.id.task == k) s.jobs
      (found_itself S s.jobs
      (pairs_weaker (IsSoundPair S) AreApart s.jobs (λ x y h. h.apart) single.pairs)))))

pub each_of : (k : ℕ) (jobs : List Job)
    → AllByRecursion (λ n. (n.task == k) ≡ true) (standing k jobs)
each_of k jobs =
    all_mapped (λ n. (n.task == k) ≡ true) id_of (filter stands (jobs_of k jobs))
    (all_kept (λ j. (j.id.task == k) ≡ true) stands (jobs_of k jobs)
    (all_weaker (λ j. Unit {0} × ((j.id.task == k) ≡ true)) (λ j. (j.id.task == k) ≡ true)
    (jobs_of k jobs) (λ j h. h.1)
    (all_filter (λ j. Unit {0}) (λ j. j.id.task == k) jobs
    (all_any (λ j. Unit {0}) jobs (λ j. tt)))))

-- ---- and each that stands is among them

either_true : (a b : Bool) → b ≡ true → (a || b) ≡ true
either_true true b h = refl
either_true false b h = h

found_among : (k : ℕ) (n : JobId) → (n.task == k) ≡ true → (jobs : List Job) (j : Job)
    → job_of n jobs ≡ Some j → waits j ≡ false
    → list_any (λ l. same_id l.id n) (filter stands (jobs_of k jobs)) ≡ true
found_among k n of [] j found ready = absurd (none_some j found)
found_among k n of (y ∷ ys) j found ready =
    go (same_id y.id n) refl found (found_among k n of ys j)
  where
    here : (b : Bool) → (y.id.task == k) ≡ b → same_id y.id n ≡ true → waits y ≡ false
        → list_any (λ l. same_id l.id n) (filter stands
        (cond b (y ∷ jobs_of k ys) (jobs_of k ys))) ≡ true
    here true own same up = rw (up, same) refl
    here false other same up =
        clash (sym of ∙ ap (λ (m : JobId). m.task == k) (sym (same_ids y.id n same)) ∙ other)

    later : (b w : Bool) → waits y ≡ w
        → list_any (λ l. same_id l.id n) (filter stands (jobs_of k ys)) ≡ true
        → list_any (λ l. same_id l.id n) (filter stands
        (cond b (y ∷ jobs_of k ys) (jobs_of k ys))) ≡ true
    later false w up h = h
    later true true up h = rw up h
    later true false up h = rw up (either_true (same_id y.id n) _ h)

    go : (b : Bool) → same_id y.id n ≡ b → cond b (Some y) (job_of n ys) ≡ Some j
        → (job_of n ys ≡ Some j → waits j ≡ false
        → list_any (λ l. same_id l.id n) (filter stands (jobs_of k ys)) ≡ true)
        → list_any (λ l. same_id l.id n) (filter stands (jobs_of k (y ∷ ys))) ≡ true
    go true same is rest =
        here (y.id.task == k) refl same (ap waits (some_inside y j is) ∙ ready)
    go false other is rest = later (y.id.task == k) (waits y) refl (rest is ready)

pub stands_among : (s : State) (k : ℕ) (n : JobId) → (n.task == k) ≡ true
    → is_among (standing k s.jobs) n ≡ false → stands_in s n ≡ false
stands_among s k n of none = go (job_of n s.jobs) refl
  where
    at : (j : Job) (w : Bool) → job_of n s.jobs ≡ Some j → waits j ≡ w → not w ≡ false
    at j true found ready = refl
    at j false found ready =
        clash
        (sym (mapped_any (λ m. same_id m n) id_of (filter stands (jobs_of k s.jobs))
        ∙ found_among k n of s.jobs j found ready) ∙ none)

    go : (o : Option Job) → job_of n s.jobs ≡ o → (is_some o && not (is_waiting_job o)) ≡ false
    go None found = refl
    go (Some j) found = at j (waits j) found refl

-- ---- how many

all_stand : (js : List Job) → list_any waits js ≡ false → length (filter stands js) ≡ length js
all_stand js none =
    ap length
    (filter_all stands js
    (all_weaker (λ j. waits j ≡ false) (λ j. stands j ≡ true) js (λ j h. ap not h)
    (any_none waits js none)))

module _ (S : System) (s : State) (single : IsSingle S s) (k : ℕ) where
  sound : AllByRecursion (λ j. IsSoundJob S s.made j × ((j.id.task == k) ≡ true))
      (jobs_of k s.jobs)
  sound = all_filter (IsSoundJob S s.made) (λ j. j.id.task == k) s.jobs single.each

  pairs : Pairs (IsSoundPair S) (jobs_of k s.jobs)
  pairs = pairs_kept (IsSoundPair S) (λ j. j.id.task == k) s.jobs single.pairs

  never : (j l : Job) → IsSoundJob S s.made l × ((l.id.task == k) ≡ true)
      → (j.id.task == k) ≡ true → IsSoundPair S j l → waits l ≡ false
  never j l good of pair = go (waits l) refl
    where
      go : (b : Bool) → waits l ≡ b → b ≡ false
      go false e = refl
      go true e =
          clash
          (sym (good.0.extended e)
          ∙ pair.basic (equal j.id.task k of ∙ sym (equal l.id.task k good.1)))

  others_stand : (j : Job) (js : List Job) → (j.id.task == k) ≡ true
      → AllByRecursion (λ l. IsSoundJob S s.made l × ((l.id.task == k) ≡ true)) js
      → AllByRecursion (IsSoundPair S j) js → AllByRecursion (λ l. waits l ≡ false) js
  others_stand j js of good pair =
      all_weaker
      (λ l. (IsSoundJob S s.made l × ((l.id.task == k) ≡ true)) × IsSoundPair S j l)
      (λ l. waits l ≡ false) js (λ l h. never j l h.0 of h.1)
      (all_both (λ l. IsSoundJob S s.made l × ((l.id.task == k) ≡ true)) (IsSoundPair S j) js good
      pair)

  first_alone : (j : Job) (js : List Job)
      → AllByRecursion (λ l. IsSoundJob S s.made l × ((l.id.task == k) ≡ true)) (j ∷ js)
      → AllByRecursion (IsSoundPair S j) js → waits j ≡ true → js ≡ []
  first_alone j [] good pair waiting = refl
  first_alone j (l ∷ js) good pair waiting =
      clash
      (sym (good.0.0.extended waiting)
      ∙ ap (is_extended S) (equal j.id.task k good.0.1 ∙ sym (equal l.id.task k good.1.0.1))
      ∙ pair.0.basic (equal j.id.task k good.0.1 ∙ sym (equal l.id.task k good.1.0.1)))

  counted : (js : List Job)
      → AllByRecursion (λ l. IsSoundJob S s.made l × ((l.id.task == k) ≡ true)) js
      → Pairs (IsSoundPair S) js
      → length (filter stands js) ≡ length js - cond (list_any waits js) 1 0
  counted [] good pair = refl
  counted (j ∷ js) good pair = go (waits j) refl
    where
      go : (w : Bool) → waits j ≡ w
          → length (cond (not w) (j ∷ filter stands js) (filter stands js))
          ≡ length (j ∷ js) - cond (w || list_any waits js) 1 0
      go true waiting = ap (λ ls. length (filter stands ls)) alone ∙ ap
          (λ ls. length (j ∷ ls) - 1) (sym alone)
        where
          alone : js ≡ []
          alone = first_alone j js good pair.0 waiting
      go false ready =
          let calm : list_any waits js ≡ false = none js
          (others_stand j js good.0.1 good.1 pair.0) in
          let many : length (filter stands js) ≡ length js = all_stand js calm in
          rw calm (omega (arith, many))
        where
          none : (ls : List Job) → AllByRecursion (λ l. waits l ≡ false) ls
              → list_any waits ls ≡ false
          none [] all = refl
          none (l ∷ ls) all = rw all.0 (none ls all.1)

  -- where one waits it is the only one
  pub count_standing : length (standing k s.jobs)
      ≡ length (jobs_of k s.jobs) - cond (one_waits k s.jobs) 1 0
  count_standing =
      length-map (filter stands (jobs_of k s.jobs)) id_of
      ∙ counted (jobs_of k s.jobs) sound pairs
