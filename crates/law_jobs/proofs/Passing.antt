-- Who holds a resource, in lists of jobs: who does behind a change held it, or got it where nobody
-- held it.
use Rattle.std.proofs.Common.{◌≡◌, ℕ, ◌⊎◌, inl, inr, Bool, true, false, cond, ◌&&◌, ◌||◌, List, [], ◌∷◌, ◌++◌, map, refl, sym, ◌∙◌, ap, subst}
use Rattle.std.specs.Prelude.{slice_index}
use Rattle.std.specs.List.{filter, list_any}
use Rattle.std.proofs.lemmas.Bool.{and_parts}
use Rattle.std.proofs.lemmas.List.Folds.{list_any-append}
use Rattle.osek_base.specs.declared.ids.ResId.{ResId}
use Rattle.osek_base.specs.Activation.{activated, new_job, released, woken}
use Rattle.osek_base.specs.Lists.{same_resource, without_last}
use Rattle.osek_base.specs.Service.{gets, holds}
use Rattle.osek_base.specs.State.{Job, JobId, State, jobs_but, same_id, with_job}
use Rattle.osek_base.specs.System.{System}
use Rattle.law_runs.proofs.Foremost.{same_ids}
use Rattle.law_runs.proofs.Holding.{any_further, is_its_holder}
use Rattle.law_runs.proofs.Lists.{clash}
use Rattle.law_kept.proofs.Parts.{any_moved, any_parts}

-- ---- tests

either_of : (a b : Bool) → b ≡ true → (a || b) ≡ true
either_of true b h = refl
either_of false b h = h

one_weaker : (a b c x y : Bool) → (b ≡ true → x ≡ true) → (c ≡ true → y ≡ true)
    → ((a && b) || c) ≡ true → ((a && x) || y) ≡ true
one_weaker true true c x y f g h = rw (f refl) refl
one_weaker true false c x y f g h = either_of x y (g h)
one_weaker false b c x y f g h = g h

-- what is held without the last got is held
pub fewer_held : (r : ResId) (held : List ResId)
    → list_any (same_resource r) (without_last held) ≡ true → list_any (same_resource r) held ≡ true
fewer_held r [] h = h
fewer_held r (x ∷ []) h = clash (sym h)
fewer_held r (x ∷ y ∷ ys) h =
    one_weaker true (same_resource r x) (list_any (same_resource r) (without_last (y ∷ ys)))
    (same_resource r x) (list_any (same_resource r) (y ∷ ys)) (λ e. e) (fewer_held r (y ∷ ys)) h

module _ (r : ResId) where
  -- whether the job of an id holds the resource
  abbrev pub has : JobId → List Job → Bool
  has n jobs = list_any (is_its_holder r n) jobs

  -- who holds it held it
  abbrev pub Fewer : List Job → List Job → Type 0
  Fewer js ks = (n : JobId) → has n ks ≡ true → has n js ≡ true

  pub unchanged : (js : List Job) → Fewer js js
  unchanged js n h = h

  pub fewer_both : (js ks ls : List Job) → Fewer js ks → Fewer ks ls → Fewer js ls
  fewer_both js ks ls one two n h = one n (two n h)

  -- nobody held it, and one alone holds it
  pub record IsGot (js ks : List Job) : Type 0 where
    pub who : JobId
    pub none : (n : JobId) → has n js ≡ false
    pub only : (n : JobId) → has n ks ≡ true → n ≡ who

  abbrev pub Passes : List Job → List Job → Type 0
  Passes js ks = Fewer js ks ⊎ IsGot js ks

  pub passes_then : (js ks ls : List Job) → Passes js ks → Fewer ks ls → Passes js ls
  passes_then js ks ls (inl fewer) then = inl (fewer_both js ks ls fewer then)
  passes_then js ks ls (inr got) then =
      inr (record { who = got.who; none = got.none; only = λ n h. got.only n (then n h) })

  -- one job at most holds it
  abbrev pub IsAlone : List Job → Type 0
  IsAlone jobs = (m n : JobId) → has m jobs ≡ true → has n jobs ≡ true → m ≡ n

  pub fewer_alone : (js ks : List Job) → IsAlone js → Fewer js ks → IsAlone ks
  fewer_alone js ks alone fewer m n h g = alone m n (fewer m h) (fewer n g)

  pub passes_alone : (js ks : List Job) → IsAlone js → Passes js ks → IsAlone ks
  passes_alone js ks alone (inl fewer) m n h g = fewer_alone js ks alone fewer m n h g
  passes_alone js ks alone (inr got) m n h g = got.only m h ∙ sym (got.only n g)

  -- ---- lists of jobs

  -- jobs are changed where they stand
  mapped_fewer : (g : Job → Job) → ((j : Job) → (g j).id ≡ j.id)
      → ((j : Job) → holds (g j) r ≡ true → holds j r ≡ true) → (js : List Job)
      → Fewer js (map g js)
  mapped_fewer g ids fewer [] n h = h
  mapped_fewer g ids fewer (j ∷ js) n h =
      one_weaker (same_id j.id n) (holds (g j) r) (has n (map g js)) (holds j r) (has n js)
      (fewer j) (mapped_fewer g ids fewer js n)
      (subst (λ (m : JobId). ((same_id m n && holds (g j) r) || has n (map g js)) ≡ true) (ids j) h)

  pub changed_fewer : (m : JobId) (f : Job → Job) → ((j : Job) → (f j).id ≡ j.id)
      → ((j : Job) → holds (f j) r ≡ true → holds j r ≡ true) → (js : List Job)
      → Fewer js (with_job m f js)
  changed_fewer m f ids fewer js =
      mapped_fewer (λ j. cond (same_id j.id m) (f j) j) (λ j. id_kept j (same_id j.id m))
      (λ j. held_kept j (same_id j.id m)) js
    where
      id_kept : (j : Job) (b : Bool) → (cond b (f j) j).id ≡ j.id
      id_kept j true = ids j
      id_kept j false = refl

      held_kept : (j : Job) (b : Bool) → holds (cond b (f j) j) r ≡ true → holds j r ≡ true
      held_kept j true h = fewer j h
      held_kept j false h = h

  pub left_fewer : (test : Job → Bool) (js : List Job) → Fewer js (filter test js)
  left_fewer test [] n h = h
  left_fewer test (j ∷ js) n h = go (test j) (left_fewer test js n) h
    where
      go : (b : Bool) → (has n (filter test js) ≡ true → has n js ≡ true)
          → has n (cond b (j ∷ filter test js) (filter test js)) ≡ true
          → has n (j ∷ js) ≡ true
      go true rest k =
          one_weaker (same_id j.id n) (holds j r) (has n (filter test js)) (holds j r) (has n js)
          (λ e. e) rest k
      go false rest k = either_of (is_its_holder r n j) (has n js) (rest k)

  made_fewer : (m : JobId) (js : List Job) → Fewer js (js ++ new_job m ∷ [])
  made_fewer m js n h =
      go (has n js) (same_id m n)
      (sym (list_any-append (is_its_holder r n) js (new_job m ∷ [])) ∙ h)
    where
      go : (b a : Bool) → (b || ((a && false) || false)) ≡ true → b ≡ true
      go true a k = refl
      go false true k = k
      go false false k = k

  pub released_fewer : (m : JobId) (s : State) → Fewer s.jobs (released m s).jobs
  unfolding released
  released_fewer m s n h =
      sym (list_any-append (is_its_holder r n) (jobs_but m s.jobs)
      (map woken (filter (λ j. same_id j.id m) s.jobs))
      ∙ ap (λ b. has n (jobs_but m s.jobs) || b)
      (any_moved (is_its_holder r n) woken (λ j. refl) (filter (λ j. same_id j.id m) s.jobs))
      ∙ any_parts (is_its_holder r n) (λ j. same_id j.id m) s.jobs) ∙ h

  pub activated_fewer : (S : System) (t : ℕ) (s : State) → Fewer s.jobs (activated S t s).jobs
  unfolding activated
  activated_fewer S t s = made_fewer (record { task = t; serial = slice_index s.made t }) s.jobs

  -- a job gets what nobody held
  pub none_has : (js : List Job) → list_any (λ j. holds j r) js ≡ false → (n : JobId)
      → has n js ≡ false
  none_has js none n = go (has n js) refl
    where
      go : (b : Bool) → has n js ≡ b → b ≡ false
      go false e = refl
      go true e =
          clash
          (sym (any_further (is_its_holder r n) (λ j. holds j r) js
          (λ j h. (and_parts (same_id j.id n) (holds j r) h).1) e) ∙ none)

  pub only_got : (q : ResId) (m : JobId) (js : List Job) → list_any (λ j. holds j r) js ≡ false
      → (n : JobId) → has n (with_job m (gets q) js) ≡ true → n ≡ m
  only_got q m [] none n h = clash (sym h)
  only_got q m (j ∷ js) none n h =
      go (same_id j.id m) (same_id j.id n) (holds j r) refl refl refl none
      (λ e. only_got q m js e n) h
    where
      rest : List Job
      rest = with_job m (gets q) js

      behind : (c : Bool) → (c || list_any (λ k. holds k r) js) ≡ false
          → list_any (λ k. holds k r) js ≡ false
      behind true e = clash e
      behind false e = e

      not_here : (a b : Bool) → ((a && false) || b) ≡ true → b ≡ true
      not_here true b e = e
      not_here false b e = e

      go : (a b c : Bool) → same_id j.id m ≡ a → same_id j.id n ≡ b → holds j r ≡ c
          → (c || list_any (λ k. holds k r) js) ≡ false
          → (list_any (λ k. holds k r) js ≡ false → has n rest ≡ true → n ≡ m)
          → ((same_id (cond a (gets q j) j).id n && holds (cond a (gets q j) j) r)
          || has n rest) ≡ true
          → n ≡ m
      go true true c own is held free then k = sym (same_ids j.id n is) ∙ same_ids j.id m own
      go true false c own is held free then k =
          then (behind c free) (sym (ap (λ b. (b && holds (gets q j) r) || has n rest) is) ∙ k)
      go false b true own is held free then k = clash free
      go false b false own is held free then k =
          then free
          (not_here (same_id j.id n) (has n rest)
          (sym (ap (λ c. (same_id j.id n && c) || has n rest) held) ∙ k))
