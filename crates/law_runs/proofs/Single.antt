-- Of one task only the oldest job is begun: what each job, each two jobs and the running one have, and who keeps it.
use Rattle.std.proofs.Common.{◌≡◌, ℕ, ◌+◌, ◌<◌, Bool, true, false, cond, not, List, [], ◌∷◌, ◌++◌, map, set, length, refl, sym, ◌∙◌, ap, subst, arith, length-set}
use Rattle.std.specs.Prelude.{Option, Some, None, ◌==◌, slice_index}
use Rattle.std.specs.List.{AllByRecursion}
use Rattle.std.proofs.lemmas.List.{get_or-set_same, get_or-set_other}
use Rattle.osek_base.specs.System.{System, is_extended}
use Rattle.osek_base.specs.State.{Job, JobId, State, fresh_context, same_id, waits, jobs_but, with_job}
use Rattle.osek_base.specs.Activation.{activated, new_job}
use Rattle.law_runs.proofs.Lists.{Pairs, clash, all_weaker, all_both, all_kept, all_append, all_map, pairs_both, pairs_of_all, pairs_kept, pairs_map, pairs_append}
use Rattle.law_runs.proofs.Foremost.{AreApart, equal, same_ids}

-- a job's number was given, it holds and has taken nothing before it begins, and waits only in an extended task
pub record IsSoundJob (S : System) (made : List ℕ) (j : Job) : Type 0 where
  pub given : j.id.serial < slice_index made j.id.task
  pub idle : j.begun ≡ false → (j.held ≡ []) × (j.taken ≡ false)
  pub fresh : j.begun ≡ false → j.context ≡ fresh_context
  pub extended : waits j ≡ true → is_extended S j.id.task ≡ true

-- of two jobs of one task, the later isn't begun, and the task is basic
pub record IsSoundPair (S : System) (j l : Job) : Type 0 where
  pub apart : AreApart j l
  pub unbegun : j.id.task ≡ l.id.task → l.begun ≡ false
  pub basic : j.id.task ≡ l.id.task → is_extended S l.id.task ≡ false

-- the number of the running job was given, and it is begun unless it has ended
pub record IsRunner (made : List ℕ) (jobs : List Job) (r : JobId) : Type 0 where
  pub given : r.serial < slice_index made r.task
  pub begun : AllByRecursion (λ j. same_id j.id r ≡ true → j.begun ≡ true) jobs

abbrev pub HasRunner : List ℕ → List Job → Option JobId → Type 0
HasRunner made jobs None = Unit {0}
HasRunner made jobs (Some r) = IsRunner made jobs r

-- the jobs of a state
pub record AreSingle (S : System) (made : List ℕ) (running : Option JobId) (jobs : List Job) : Type 0 where
  pub known : length made ≡ length S.tasks
  pub each : AllByRecursion (IsSoundJob S made) jobs
  pub pairs : Pairs (IsSoundPair S) jobs
  pub runs : HasRunner made jobs running

abbrev pub IsSingle : System → State → Type 0
IsSingle S s = AreSingle S s.made s.running s.jobs

module _ (S : System) where
  -- ---- a job ends

  pub but_single : (n : JobId) (made : List ℕ) (running : Option JobId) (jobs : List Job) → AreSingle S made running jobs
      → AreSingle S made running (jobs_but n jobs)
  but_single n made running jobs single =
      record {
        known = single.known;
        each = all_kept (IsSoundJob S made) (λ j. not (same_id j.id n)) jobs single.each;
        pairs = pairs_kept (IsSoundPair S) (λ j. not (same_id j.id n)) jobs single.pairs;
        runs = go running single.runs;
      }
    where
      go : (o : Option JobId) → HasRunner made jobs o → HasRunner made (jobs_but n jobs) o
      go None h = tt
      go (Some r) h = record {
        given = h.given;
        begun = all_kept (λ j. same_id j.id r ≡ true → j.begun ≡ true) (λ j. not (same_id j.id n)) jobs h.begun;
      }

  -- ---- a job is changed where it stands

  -- a change that keeps a job's id and whether it is begun
  pub record IsFitChange (made : List ℕ) (n : JobId) (f : Job → Job) (j : Job) : Type 0 where
    pub id : (f j).id ≡ j.id
    pub begun : (f j).begun ≡ j.begun
    pub sound : same_id j.id n ≡ true → IsSoundJob S made j → IsSoundJob S made (f j)

  one_changed : (made : List ℕ) (n : JobId) (f : Job → Job) (j : Job) (b : Bool) → same_id j.id n ≡ b → IsFitChange made n f j → IsSoundJob S made j
      → IsSoundJob S made (cond b (f j) j)
  one_changed made n f j true e fit sound = fit.sound e sound
  one_changed made n f j false e fit sound = sound

  changed_id : (made : List ℕ) (n : JobId) (f : Job → Job) (j : Job) (b : Bool) → IsFitChange made n f j → (cond b (f j) j).id ≡ j.id
  changed_id made n f j true fit = fit.id
  changed_id made n f j false fit = refl

  changed_begun : (made : List ℕ) (n : JobId) (f : Job → Job) (j : Job) (b : Bool) → IsFitChange made n f j → (cond b (f j) j).begun ≡ j.begun
  changed_begun made n f j true fit = fit.begun
  changed_begun made n f j false fit = refl

  -- pairs whose ids and beginnings are the same
  same_pair : (x y v w : Job) → v.id ≡ x.id → w.id ≡ y.id → w.begun ≡ y.begun → IsSoundPair S x y → IsSoundPair S v w
  same_pair x y v w ix iy by pair =
      let task : v.id.task ≡ w.id.task → x.id.task ≡ y.id.task = λ e. ap (λ (n : JobId). n.task) (sym ix) ∙ e ∙ ap (λ (n : JobId). n.task) iy in
      record {
        apart = subst (λ n. same_id w.id n ≡ false) (sym ix) (subst (λ n. same_id n x.id ≡ false) (sym iy) pair.apart);
        unbegun = λ e. by ∙ pair.unbegun (task e);
        basic = λ e. subst (λ (n : JobId). is_extended S n.task ≡ false) (sym iy) (pair.basic (task e));
      }

  pub change_single : (n : JobId) (f : Job → Job) (made : List ℕ) (running : Option JobId) (jobs : List Job)
      → AllByRecursion (IsFitChange made n f) jobs → AreSingle S made running jobs → AreSingle S made running (with_job n f jobs)
  change_single n f made running jobs fits single =
      record {
        known = single.known;
        each = all_map (λ j. IsFitChange made n f j × IsSoundJob S made j) (IsSoundJob S made) g jobs
            (λ j h. one_changed made n f j (same_id j.id n) refl h.0 h.1) (all_both (IsFitChange made n f) (IsSoundJob S made) jobs fits single.each);
        pairs = pairs_map (λ x y. IsSoundPair S x y × (IsFitChange made n f x × IsFitChange made n f y)) (IsSoundPair S) g jobs
            (λ x y h. same_pair x y (g x) (g y) (changed_id made n f x (same_id x.id n) h.1.0) (changed_id made n f y (same_id y.id n) h.1.1) (changed_begun made n f y (same_id y.id n) h.1.1) h.0)
            (pairs_both (IsSoundPair S) (λ x y. IsFitChange made n f x × IsFitChange made n f y) jobs single.pairs (pairs_of_all (IsFitChange made n f) jobs fits));
        runs = go running single.runs;
      }
    where
      g : Job → Job
      g j = cond (same_id j.id n) (f j) j

      go : (o : Option JobId) → HasRunner made jobs o → HasRunner made (map g jobs) o
      go None h = tt
      go (Some r) h = record {
        given = h.given;
        begun = all_map (λ j. IsFitChange made n f j × (same_id j.id r ≡ true → j.begun ≡ true)) (λ j. same_id j.id r ≡ true → j.begun ≡ true) g jobs
            (λ j both e. changed_begun made n f j (same_id j.id n) both.0 ∙ both.1 (ap (λ m. same_id m r) (sym (changed_id made n f j (same_id j.id n) both.0)) ∙ e))
            (all_both (IsFitChange made n f) (λ j. same_id j.id r ≡ true → j.begun ≡ true) jobs fits h.begun);
      }

  -- ---- a job more

  bump : (made : List ℕ) (t u m : ℕ) → t < length made → m < slice_index made u → m < slice_index (set made t (slice_index made t + 1)) u
  bump made t u m inside less = go (u == t) refl
    where
      go : (b : Bool) → (u == t) ≡ b → m < slice_index (set made t (slice_index made t + 1)) u
      go true e =
          let same : t ≡ u = sym (equal u t e) in
          subst (λ v. m < slice_index (set made t (slice_index made t + 1)) v) same
          (let here : slice_index (set made t (slice_index made t + 1)) t ≡ slice_index made t + 1 = get_or-set_same made t (slice_index made t + 1) 0 inside in
          let was : m < slice_index made t = subst (λ v. m < slice_index made v) (sym same) less in
          omega arith)
      go false e =
          let other : slice_index (set made t (slice_index made t + 1)) u ≡ slice_index made u = grind (arith, e, get_or-set_other) in
          omega arith

  apart_given : (made : List ℕ) (j : Job) (n : JobId) → j.id.serial < slice_index made j.id.task → n.serial ≡ slice_index made n.task
      → same_id n j.id ≡ false
  apart_given made j n given new = go (same_id n j.id) refl
    where
      go : (b : Bool) → same_id n j.id ≡ b → same_id n j.id ≡ false
      go false e = e
      go true e =
          let less : n.serial < slice_index made n.task = subst (λ (m : JobId). m.serial < slice_index made m.task) (sym (same_ids n j.id e)) given in
          absurd (omega arith)

  pub activated_single : (t : ℕ) (s : State) → t < length S.tasks → AllByRecursion (λ j. j.id.task ≡ t → is_extended S t ≡ false) s.jobs
      → IsSingle S s → AreSingle S (activated S t s).made s.running (activated S t s).jobs
  unfolding activated
  activated_single t s inside room single =
      record {
        known = length-set s.made t _ ∙ single.known;
        each = all_append (IsSoundJob S more) s.jobs (new ∷ []) (all_weaker (IsSoundJob S s.made) (IsSoundJob S more) s.jobs kept single.each) (fresh, tt);
        pairs = pairs_append (IsSoundPair S) s.jobs (new ∷ []) single.pairs (tt, tt)
            (all_weaker (λ j. IsSoundJob S s.made j × (j.id.task ≡ t → is_extended S t ≡ false)) (λ j. AllByRecursion (IsSoundPair S j) (new ∷ [])) s.jobs
            (λ j h. (record { apart = apart_given s.made j id h.0.given refl; unbegun = λ e. refl; basic = h.1 }, tt))
            (all_both (IsSoundJob S s.made) (λ j. j.id.task ≡ t → is_extended S t ≡ false) s.jobs single.each room));
        runs = go s.running single.runs;
      }
    where
      id : JobId
      id = record { task = t; serial = slice_index s.made t }

      new : Job
      new = new_job id

      more : List ℕ
      more = set s.made t (slice_index s.made t + 1)

      within : t < length s.made
      within = subst (λ n. t < n) (sym single.known) inside

      kept : (j : Job) → IsSoundJob S s.made j → IsSoundJob S more j
      kept j h = record { given = bump s.made t j.id.task j.id.serial within h.given; idle = h.idle; fresh = h.fresh; extended = h.extended }

      fresh : IsSoundJob S more new
      fresh =
          let here : slice_index more t ≡ slice_index s.made t + 1 = get_or-set_same s.made t (slice_index s.made t + 1) 0 within in
          record { given = omega arith; idle = λ e. (refl, refl); fresh = λ e. refl; extended = λ e. clash (sym e) }

      go : (o : Option JobId) → HasRunner s.made s.jobs o → HasRunner more (s.jobs ++ new ∷ []) o
      go None h = tt
      go (Some r) h = record {
        given = bump s.made t r.task r.serial within h.given;
        begun = all_append (λ j. same_id j.id r ≡ true → j.begun ≡ true) s.jobs (new ∷ []) h.begun
            (λ e. clash (sym e ∙ apart_given s.made (record new { id = r }) id h.given refl), tt);
      }
