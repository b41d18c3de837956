-- One job alone holds a resource: what keeps that in a list of jobs, and in each service.
use Rattle.std.proofs.Common.{◌≡◌, ℕ, Bool, true, false, cond, not, ◌&&◌, ◌||◌, List, [], ◌∷◌, ◌++◌, map, refl, sym, ◌∙◌, ap, subst}
use Rattle.std.specs.Prelude.{Some, slice_index}
use Rattle.std.specs.List.{filter, list_any, AllByRecursion}
use Rattle.std.proofs.lemmas.List.Folds.{list_any-append}
use Rattle.osek_base.specs.declared.ids.ResId.{ResId}
use Rattle.osek_base.specs.Lists.{is_empty, last_of, without_last, same_resource}
use Rattle.osek_base.specs.System.{System}
use Rattle.osek_base.specs.Instruction.{Context}
use Rattle.osek_base.specs.State.{Job, JobId, State, same_id, jobs_but, job_of, with_job}
use Rattle.osek_base.specs.Activation.{activated, new_job, released, woken}
use Rattle.osek_base.specs.Service.{Caller, JobCalls, RoutineCalls, NobodyCalls, holds, is_resource}
use Rattle.osek_base.specs.Tick.{job_moved, with_context}
use Rattle.law_runs.proofs.Lists.{EitherWay, clash, all_any, all_weaker, all_both, all_kept, all_append, all_map, found, pairs_weaker, either_way}
use Rattle.law_runs.proofs.Foremost.{AreApart, self_equal, only}
use Rattle.law_runs.proofs.Known.{IsCaller}
use Rattle.law_runs.proofs.Single.{IsSoundPair, IsSingle}
use Rattle.law_runs.proofs.Exclusion.{same_resources}
use Rattle.std.proofs.lemmas.Bool.{and_parts, or_left, or_right}

-- ---- whether an element passes

or_further : (a b c : Bool) → (b ≡ true → c ≡ true) → (a || b) ≡ true → (a || c) ≡ true
or_further true b c f h = refl
or_further false b c f h = f h

or_first : (x a b : Bool) → (x || (a || b)) ≡ true → ((x || a) || b) ≡ true
or_first true a b h = refl
or_first false a b h = h

or_second : (x a b : Bool) → (x || (a || b)) ≡ true → (a || (x || b)) ≡ true
or_second true a b h = or_right a true refl
or_second false a b h = h

module _ {X : Type 0} (p : X → Bool) where
  any_map : (g : X → X) (xs : List X) → AllByRecursion (λ x. p (g x) ≡ p x) xs → list_any p (map g xs) ≡ list_any p xs
  any_map g [] all = refl
  any_map g (x ∷ xs) all = ap (λ b. b || list_any p (map g xs)) all.0 ∙ ap (λ b. p x || b) (any_map g xs all.1)

  pub any_further : (q : X → Bool) (xs : List X) → ((x : X) → p x ≡ true → q x ≡ true) → list_any p xs ≡ true
      → list_any q xs ≡ true
  any_further q [] f h = h
  any_further q (x ∷ xs) f h = go (p x) refl h (any_further q xs f)
    where
      go : (b : Bool) → p x ≡ b → (b || list_any p xs) ≡ true → (list_any p xs ≡ true → list_any q xs ≡ true)
          → (q x || list_any q xs) ≡ true
      go true e k rest = or_left (q x) (list_any q xs) (f x e)
      go false e k rest = or_right (q x) (list_any q xs) (rest k)

  any_kept : (test : X → Bool) (xs : List X) → AllByRecursion (λ x. p x ≡ true → test x ≡ true) xs → list_any p xs ≡ true
      → list_any p (filter test xs) ≡ true
  any_kept test [] all h = h
  any_kept test (x ∷ xs) all h = go (p x) (test x) refl all.0 h (any_kept test xs all.1)
    where
      go : (b c : Bool) → p x ≡ b → (b ≡ true → c ≡ true) → (b || list_any p xs) ≡ true
          → (list_any p xs ≡ true → list_any p (filter test xs) ≡ true)
          → list_any p (cond c (x ∷ filter test xs) (filter test xs)) ≡ true
      go true true e f k rest = or_left (p x) (list_any p (filter test xs)) e
      go true false e f k rest = clash (sym (f refl))
      go false true e f k rest = or_right (p x) (list_any p (filter test xs)) (rest k)
      go false false e f k rest = rest k

  -- what passes stands in one of two parts
  any_split : (test : X → Bool) (xs : List X) → list_any p xs ≡ true
      → (list_any p (filter (λ x. not (test x)) xs) || list_any p (filter test xs)) ≡ true
  any_split test [] h = clash (sym h)
  any_split test (x ∷ xs) h =
      go (test x) (or_further (p x) (list_any p xs) (list_any p stay || list_any p go_on) (any_split test xs) h)
    where
      stay : List X
      stay = filter (λ y. not (test y)) xs

      go_on : List X
      go_on = filter test xs

      go : (c : Bool) → (p x || (list_any p stay || list_any p go_on)) ≡ true
          → (list_any p (cond (not c) (x ∷ stay) stay) || list_any p (cond c (x ∷ go_on) go_on)) ≡ true
      go true k = or_second (p x) (list_any p stay) (list_any p go_on) k
      go false k = or_first (p x) (list_any p stay) (list_any p go_on) k

  any_parted : (test : X → Bool) (g : X → X) (xs : List X) → ((x : X) → p (g x) ≡ p x) → list_any p xs ≡ true
      → list_any p (filter (λ x. not (test x)) xs ++ map g (filter test xs)) ≡ true
  any_parted test g xs same h =
      list_any-append p (filter (λ x. not (test x)) xs) (map g (filter test xs))
      ∙ ap (λ b. list_any p (filter (λ x. not (test x)) xs) || b)
      (any_map g (filter test xs) (all_any (λ x. p (g x) ≡ p x) (filter test xs) same))
      ∙ any_split test xs h

-- ---- what is held

resource_self : (r : ResId) → same_resource r r ≡ true
resource_self (ResId.Declared m) = self_equal m
resource_self ResId.Scheduler = refl

swapped : (q r : ResId) → same_resource q r ≡ true → same_resource r q ≡ true
swapped q r h = subst (λ z. same_resource r z ≡ true) (sym (same_resources q r h)) (resource_self r)

-- what was got last is held
pub last_held : (q : ResId) (held : List ResId) → is_resource (last_of held) q ≡ true → list_any (same_resource q) held ≡ true
last_held q [] h = clash (sym h)
last_held q (x ∷ []) h = or_left (same_resource q x) false (swapped x q h)
last_held q (x ∷ y ∷ ys) h = or_right (same_resource q x) (list_any (same_resource q) (y ∷ ys)) (last_held q (y ∷ ys) h)

-- another resource stays held, or not, where the last is released
pub fewer_held : (r q : ResId) (held : List ResId) → is_resource (last_of held) q ≡ true → same_resource r q ≡ false
    → list_any (same_resource r) (without_last held) ≡ list_any (same_resource r) held
fewer_held r q [] h other = refl
fewer_held r q (x ∷ []) h other = sym (ap (λ b. b || false) (ap (same_resource r) (same_resources x q h) ∙ other))
fewer_held r q (x ∷ y ∷ ys) h other = ap (λ b. same_resource r x || b) (fewer_held r q (y ∷ ys) h other)

pub more_held : (r q : ResId) (held : List ResId) → same_resource r q ≡ false
    → list_any (same_resource r) (held ++ q ∷ []) ≡ list_any (same_resource r) held
more_held r q [] other = ap (λ b. b || false) other
more_held r q (x ∷ xs) other = ap (λ b. same_resource r x || b) (more_held r q xs other)

pub got_held : (r : ResId) (held : List ResId) → list_any (same_resource r) (held ++ r ∷ []) ≡ true
got_held r [] = or_left (same_resource r r) false (resource_self r)
got_held r (x ∷ xs) = or_right (same_resource r x) (list_any (same_resource r) (xs ++ r ∷ [])) (got_held r xs)

pub empty_holds : (r : ResId) (held : List ResId) → not (is_empty held) ≡ false → list_any (same_resource r) held ≡ false
empty_holds r [] h = refl
empty_holds r (x ∷ xs) h = clash h

-- ---- a job alone holds a resource

module _ (r : ResId) (n : JobId) where
  abbrev pub is_its_holder : Job → Bool
  is_its_holder j = same_id j.id n && holds j r

  -- a job that holds the resource is the one of that id
  abbrev pub IsNoOther : Job → Type 0
  IsNoOther j = holds j r ≡ true → same_id j.id n ≡ true

  -- the job of that id holds the resource, and no other job does
  pub record IsHolder (jobs : List Job) : Type 0 where
    pub held : list_any is_its_holder jobs ≡ true
    pub alone : AllByRecursion IsNoOther jobs

  -- the id stays, and whether the resource is held
  abbrev pub IsLikeIt : Job → Job → Type 0
  IsLikeIt j k = (k.id ≡ j.id) × (holds k r ≡ holds j r)

  map_holder : (g : Job → Job) (jobs : List Job) → AllByRecursion (λ j. IsLikeIt j (g j)) jobs → IsHolder jobs
      → IsHolder (map g jobs)
  map_holder g jobs like holder = record {
    held = any_map is_its_holder g jobs
        (all_weaker (λ j. IsLikeIt j (g j)) (λ j. is_its_holder (g j) ≡ is_its_holder j) jobs
        (λ j h. ap (λ m. same_id m n && holds (g j) r) h.0 ∙ ap (λ b. same_id j.id n && b) h.1) like) ∙ holder.held;
    alone =
        all_map (λ j. IsLikeIt j (g j) × IsNoOther j) IsNoOther g jobs
        (λ j h k. ap (λ m. same_id m n) h.0.0 ∙ h.1 (sym h.0.1 ∙ k))
        (all_both (λ j. IsLikeIt j (g j)) IsNoOther jobs like holder.alone);
  }

  pub change_holder : (m : JobId) (f : Job → Job) (jobs : List Job) → ((j : Job) → (f j).id ≡ j.id)
      → AllByRecursion (λ j. same_id j.id m ≡ true → holds (f j) r ≡ holds j r) jobs → IsHolder jobs
      → IsHolder (with_job m f jobs)
  change_holder m f jobs ids keeps holder =
      map_holder (λ j. cond (same_id j.id m) (f j) j) jobs
      (all_weaker (λ j. same_id j.id m ≡ true → holds (f j) r ≡ holds j r)
      (λ j. IsLikeIt j (cond (same_id j.id m) (f j) j)) jobs
      (λ j h. one j (same_id j.id m) refl h) keeps) holder
    where
      one : (j : Job) (b : Bool) → same_id j.id m ≡ b → (same_id j.id m ≡ true → holds (f j) r ≡ holds j r)
          → IsLikeIt j (cond b (f j) j)
      one j true e h = (ids j, h e)
      one j false e h = (refl, refl)

  -- a change that leaves what is held
  pub plain_holder : (m : JobId) (f : Job → Job) (jobs : List Job) → ((j : Job) → (f j).id ≡ j.id)
      → ((j : Job) → (f j).held ≡ j.held)
      → IsHolder jobs → IsHolder (with_job m f jobs)
  plain_holder m f jobs ids same holder =
      change_holder m f jobs ids
      (all_any (λ j. same_id j.id m ≡ true → holds (f j) r ≡ holds j r) jobs
      (λ j e. ap (λ held. list_any (same_resource r) held) (same j))) holder

  pub but_holder : (m : JobId) (jobs : List Job) → AllByRecursion (λ j. same_id j.id m ≡ true → holds j r ≡ false) jobs
      → IsHolder jobs
      → IsHolder (jobs_but m jobs)
  but_holder m jobs none holder = record {
    held = any_kept is_its_holder (λ j. not (same_id j.id m)) jobs
        (all_weaker (λ j. same_id j.id m ≡ true → holds j r ≡ false)
        (λ j. is_its_holder j ≡ true → not (same_id j.id m) ≡ true) jobs
        (λ j h k. stays j (same_id j.id m) h (and_parts (same_id j.id n) (holds j r) k).1) none) holder.held;
    alone = all_kept IsNoOther (λ j. not (same_id j.id m)) jobs holder.alone;
  }
    where
      stays : (j : Job) (b : Bool) → (b ≡ true → holds j r ≡ false) → holds j r ≡ true → not b ≡ true
      stays j true h k = clash (sym k ∙ h refl)
      stays j false h k = refl

  pub released_holder : (m : JobId) (s : State) → IsHolder s.jobs → IsHolder (released m s).jobs
  unfolding released
  released_holder m s holder = record {
    held = any_parted is_its_holder (λ j. same_id j.id m) woken s.jobs (λ j. refl) holder.held;
    alone = all_append IsNoOther (jobs_but m s.jobs) (map woken (filter (λ j. same_id j.id m) s.jobs))
        (all_kept IsNoOther (λ j. not (same_id j.id m)) s.jobs holder.alone)
        (all_map IsNoOther IsNoOther woken (filter (λ j. same_id j.id m) s.jobs) (λ j h. h)
        (all_kept IsNoOther (λ j. same_id j.id m) s.jobs holder.alone));
  }

  pub activated_holder : (S : System) (t : ℕ) (s : State) → IsHolder s.jobs → IsHolder (activated S t s).jobs
  unfolding activated
  activated_holder S t s holder = record {
    held =
        list_any-append is_its_holder s.jobs (new ∷ [])
        ∙ or_left (list_any is_its_holder s.jobs) (list_any is_its_holder (new ∷ [])) holder.held;
    alone = all_append IsNoOther s.jobs (new ∷ []) holder.alone ((λ h. clash (sym h)), tt);
  }
    where
      new : Job
      new = new_job (record { task = t; serial = slice_index s.made t })

  pub with_context_holder : (c : Caller) (x : Context) (s : State) → IsHolder s.jobs → IsHolder (with_context c x s).jobs
  with_context_holder (JobCalls j) x s holder = plain_holder j.id (job_moved x) s.jobs (λ k. refl) (λ k. refl) holder
  with_context_holder (RoutineCalls a) x s holder = holder
  with_context_holder NobodyCalls x s holder = holder

  -- a resource that no job holds isn't this one
  pub held_other : (q : ResId) (jobs : List Job) → IsHolder jobs → list_any (λ j. holds j q) jobs ≡ false
      → same_resource r q ≡ false
  held_other q jobs holder none = go (same_resource r q) refl
    where
      go : (b : Bool) → same_resource r q ≡ b → b ≡ false
      go false e = refl
      go true e =
          let here : list_any (λ j. holds j r) jobs ≡ true =
          any_further is_its_holder (λ j. holds j r) jobs (λ j h. (and_parts (same_id j.id n) (holds j r) h).1) holder.held in
          clash (sym (subst (λ z. list_any (λ j. holds j z) jobs ≡ true) (same_resources r q e) here) ∙ none)

-- ---- the calling job

-- the job that calls is the only one of its id
abbrev pub IsSoleCaller : State → Caller → Type 0
IsSoleCaller s (JobCalls j) = AllByRecursion (λ k. same_id k.id j.id ≡ true → k ≡ j) s.jobs × (job_of j.id s.jobs ≡ Some j)
IsSoleCaller s (RoutineCalls a) = Unit {0}
IsSoleCaller s NobodyCalls = Unit {0}

pub sole_caller : (S : System) (s : State) (c : Caller) → IsSingle S s → IsCaller s c → IsSoleCaller s c
sole_caller S s (JobCalls j) single calls = (
  only j s.jobs (found (λ x. AllByRecursion (EitherWay AreApart x) s.jobs) (λ k. same_id k.id j.id) s.jobs j
      (either_way AreApart s.jobs (pairs_weaker (IsSoundPair S) AreApart s.jobs (λ x y h. h.apart) single.pairs))
      calls.found).0,
  calls.found,
)
sole_caller S s (RoutineCalls a) single calls = tt
sole_caller S s NobodyCalls single calls = tt

-- a caller that holds the resource is the job of that id
pub holding_caller : (r : ResId) (n : JobId) (s : State) (j : Job) → IsHolder r n s.jobs → IsSoleCaller s (JobCalls j)
    → holds j r ≡ true → same_id j.id n ≡ true
holding_caller r n s j holder sole has = (found (IsNoOther r n) (λ k. same_id k.id j.id) s.jobs j holder.alone sole.1).0 has
