-- In a list of jobs the oldest job of a task ends or begins to wait, or others begin to stand.
use Rattle.std.proofs.Common.{◌≡◌, ℕ, Bool, true, false, cond, not, List, [], ◌∷◌, ◌++◌, map, refl, sym, ◌∙◌, ap, subst, append-nil}
use Rattle.std.specs.Prelude.{Some, ◌==◌, is_some}
use Rattle.std.specs.List.{filter, list_any, AllByRecursion}
use Rattle.osek_base.specs.Reschedule.{id_of}
use Rattle.osek_base.specs.Service.{waiting_for}
use Rattle.osek_base.specs.State.{Job, JobId, State, jobs_but, jobs_of, same_id, waits, with_job}
use Rattle.osek_base.specs.System.{System, is_extended}
use Rattle.law_runs.proofs.Foremost.{equal, same_self}
use Rattle.law_runs.proofs.Lists.{Pairs, all_any, all_filter, all_kept, all_weaker, clash, pairs_kept}
use Rattle.law_runs.proofs.Ranked.{HasReady}
use Rattle.law_runs.proofs.Single.{IsSingle, IsSoundJob, IsSoundPair}
use Rattle.law_kept.proofs.JobMoves.{IsFresh, IsLater, but_of, elsewhere, keeps_id, one_changed, others_later}
use Rattle.law_kept.proofs.Parts.{IsOldest, filter_all, map_unmoved}
use Rattle.law_kept.proofs.Runner.{runner_member, runner_oldest}
use Rattle.law_blockers.proofs.ReadyLemmas.{jobs_of_map}
use Rattle.law_jobs.specs.Standing.{behind, standing, stands}
use Rattle.law_jobs.proofs.Lists.{AreSame, Grows, is_among, is_there, mapped_any, mapped_there, none_any, one_waits}

-- the oldest of those that stand leaves them, if so, and others begin to
pub record Moves (k : ℕ) (leaves : Bool) (js ks : List Job) : Type 0 where
  pub fresh : List JobId
  pub is : standing k ks ≡ cond leaves (behind (standing k js)) (standing k js) ++ fresh
  pub apart : AllByRecursion (λ n. is_among (standing k js) n ≡ false) fresh

pub grown_moves : (k : ℕ) (js ks : List Job) → Grows k js ks → Moves k false js ks
grown_moves k js ks grown = record { fresh = grown.fresh; is = grown.is; apart = grown.apart }

pub same_moves : (k : ℕ) (leaves : Bool) (js ks ls : List Job) → Moves k leaves js ks
    → AreSame k ks ls
    → Moves k leaves js ls
same_moves k leaves js ks ls moves same =
    record { fresh = moves.fresh; is = same.standing ∙ moves.is; apart = moves.apart }

-- ---- the running job

module _ (S : System) (s : State) (single : IsSingle S s) (ready : HasReady s.running s.jobs)
    (n : JobId) (runs : s.running ≡ Some n) (there : is_there n s.jobs ≡ true) where
  abbrev oldest : IsOldest n s.jobs
  oldest = runner_oldest S s single n runs there

  first_ready : waits oldest.job ≡ false
  first_ready =
      runner_member S s single n oldest (λ j. s.running ≡ Some j.id → waits j ≡ false) ready
      (runs ∙ ap Some (sym oldest.id))

  later : AllByRecursion (λ k. IsLater k × (same_id k.id n ≡ false)) oldest.others
  later =
      others_later S s.made n s.jobs single.each
      (all_weaker (IsSoundJob S s.made) IsFresh s.jobs (λ j h. h.fresh) single.each) single.pairs
      oldest

  -- no job of its task waits
  pub runner_calm : one_waits n.task s.jobs ≡ false
  runner_calm =
      ap (list_any waits) oldest.is
      ∙ rw first_ready
      (none_any waits oldest.others
      (all_weaker (λ k. IsLater k × (same_id k.id n ≡ false)) (λ k. waits k ≡ false)
      oldest.others (λ k h. ap is_some h.0.ready) later))

  own_jobs : (k : ℕ) → (n.task == k) ≡ true → jobs_of k s.jobs ≡ oldest.job ∷ oldest.others
  own_jobs k own = ap (λ t. jobs_of t s.jobs) (sym (equal n.task k own)) ∙ oldest.is

  own_standing : (k : ℕ) → (n.task == k) ≡ true
      → standing k s.jobs ≡ oldest.job.id ∷ map id_of (filter stands oldest.others)
  own_standing k own =
      ap (λ ls. map id_of (filter stands ls)) (own_jobs k own)
      ∙ ap (λ b. map id_of
      (cond (not b) (oldest.job ∷ filter stands oldest.others) (filter stands oldest.others)))
      first_ready

  -- it is the oldest that stands, and stands once
  pub runner_first : (k : ℕ) → (n.task == k) ≡ true
      → standing k s.jobs ≡ n ∷ behind (standing k s.jobs)
  runner_first k own =
      own_standing k own
      ∙ ap (λ (i : JobId). i ∷ map id_of (filter stands oldest.others)) oldest.id
      ∙ ap (λ ids. n ∷ behind ids) (sym (own_standing k own))

  pub runner_once : (k : ℕ) → (n.task == k) ≡ true
      → is_among (behind (standing k s.jobs)) n ≡ false
  runner_once k own =
      ap (λ ids. is_among (behind ids) n) (own_standing k own)
      ∙ mapped_any (λ m. same_id m n) id_of (filter stands oldest.others)
      ∙ none_any (λ j. same_id j.id n) (filter stands oldest.others)
      (all_kept (λ j. same_id j.id n ≡ false) stands oldest.others
      (all_weaker (λ l. IsLater l × (same_id l.id n ≡ false)) (λ l. same_id l.id n ≡ false)
      oldest.others (λ l h. h.1) later))

  -- ---- it ends

  others_left : (k : ℕ) → (n.task == k) ≡ false → jobs_of k (jobs_but n s.jobs) ≡ jobs_of k s.jobs
  others_left k other =
      but_of S n s.jobs k
      ∙ filter_all (λ j. not (same_id j.id n)) (jobs_of k s.jobs)
      (all_weaker (λ j. same_id j.id n ≡ false) (λ j. not (same_id j.id n) ≡ true)
      (jobs_of k s.jobs) (λ j h. ap not h) (elsewhere S n s.jobs k other))

  own_left : (k : ℕ) → (n.task == k) ≡ true → jobs_of k (jobs_but n s.jobs) ≡ oldest.others
  own_left k own =
      but_of S n s.jobs k ∙ ap (jobs_but n) (own_jobs k own)
      ∙ rw (oldest.id, same_self n)
      (filter_all (λ j. not (same_id j.id n)) oldest.others
      (all_weaker (λ l. IsLater l × (same_id l.id n ≡ false)) (λ l. not (same_id l.id n) ≡ true)
      oldest.others (λ l h. ap not h.1) later))

  pub ended_moves : (k : ℕ) → Moves k (n.task == k) s.jobs (jobs_but n s.jobs)
  ended_moves k = go (n.task == k) refl
    where
      go : (b : Bool) → (n.task == k) ≡ b → Moves k b s.jobs (jobs_but n s.jobs)
      go true own = record {
        fresh = [];
        is =
            ap (λ ls. map id_of (filter stands ls)) (own_left k own)
            ∙ ap behind (sym (own_standing k own))
            ∙ sym (append-nil (behind (standing k s.jobs)));
        apart = tt;
      }
      go false other = record {
        fresh = [];
        is =
            ap (λ ls. map id_of (filter stands ls)) (others_left k other)
            ∙ sym (append-nil (standing k s.jobs));
        apart = tt;
      }

  -- ---- it begins to wait

  module _ (extended : is_extended S n.task ≡ true) (m : ℕ) where
    tasks : AllByRecursion (λ j. Unit {0} × ((j.id.task == n.task) ≡ true))
        (oldest.job ∷ oldest.others)
    tasks =
        subst (AllByRecursion (λ j. Unit {0} × ((j.id.task == n.task) ≡ true))) oldest.is
        (all_filter (λ j. Unit {0}) (λ j. j.id.task == n.task) s.jobs
        (all_any (λ j. Unit {0}) s.jobs (λ j. tt)))

    pairs : Pairs (IsSoundPair S) (oldest.job ∷ oldest.others)
    pairs =
        subst (Pairs (IsSoundPair S)) oldest.is
        (pairs_kept (IsSoundPair S) (λ j. j.id.task == n.task) s.jobs single.pairs)

    alone : oldest.others ≡ []
    alone = go oldest.others tasks.1 pairs.0
      where
        go : (ks : List Job) → AllByRecursion (λ j. Unit {0} × ((j.id.task == n.task) ≡ true)) ks
            → AllByRecursion (IsSoundPair S oldest.job) ks → ks ≡ []
        go [] are sound = refl
        go (l ∷ ks) are sound =
            let task : l.id.task ≡ n.task = equal l.id.task n.task are.0.1 in
            clash
            (sym extended ∙ ap (is_extended S) (sym task)
            ∙ sound.0.basic (ap (λ (i : JobId). i.task) oldest.id ∙ sym task))

    abbrev changes : Job → Job
    changes = one_changed n (waiting_for m) (λ j. refl)

    changed_first : changes oldest.job ≡ waiting_for m oldest.job
    changed_first = rw (oldest.id, same_self n) refl

    own_changed : (k : ℕ) → (n.task == k) ≡ true
        → jobs_of k (with_job n (waiting_for m) s.jobs) ≡ waiting_for m oldest.job ∷ []
    own_changed k own =
        jobs_of_map k changes (keeps_id n (waiting_for m) (λ j. refl)) s.jobs
        ∙ ap (map changes) (own_jobs k own ∙ ap (λ ls. oldest.job ∷ ls) alone)
        ∙ ap (λ j. j ∷ []) changed_first

    others_changed : (k : ℕ) → (n.task == k) ≡ false
        → jobs_of k (with_job n (waiting_for m) s.jobs) ≡ jobs_of k s.jobs
    others_changed k other =
        jobs_of_map k changes (keeps_id n (waiting_for m) (λ j. refl)) s.jobs
        ∙ map_unmoved changes (jobs_of k s.jobs)
        (all_weaker (λ j. same_id j.id n ≡ false) (λ j. changes j ≡ j) (jobs_of k s.jobs)
        (λ j h. ap (λ b. cond b (waiting_for m j) j) h) (elsewhere S n s.jobs k other))

    pub waited_moves : (k : ℕ) → Moves k (n.task == k) s.jobs (with_job n (waiting_for m) s.jobs)
    waited_moves k = go (n.task == k) refl
      where
        go : (b : Bool) → (n.task == k) ≡ b
            → Moves k b s.jobs (with_job n (waiting_for m) s.jobs)
        go true own = record {
          fresh = [];
          is =
              ap (λ ls. map id_of (filter stands ls)) (own_changed k own)
              ∙ ap (λ ls. map id_of (filter stands ls)) (sym alone)
              ∙ ap behind (sym (own_standing k own))
              ∙ sym (append-nil (behind (standing k s.jobs)));
          apart = tt;
        }
        go false other = record {
          fresh = [];
          is =
              ap (λ ls. map id_of (filter stands ls)) (others_changed k other)
              ∙ sym (append-nil (standing k s.jobs));
          apart = tt;
        }

    pub waited_waits : (k : ℕ) → (n.task == k) ≡ true
        → one_waits k (with_job n (waiting_for m) s.jobs) ≡ true
    waited_waits k own = ap (list_any waits) (own_changed k own)

    pub waited_there : (i : JobId) → is_there i (with_job n (waiting_for m) s.jobs) ≡ is_there i
        s.jobs
    waited_there i =
        mapped_there 0 changes (keeps_id n (waiting_for m) (λ j. refl)) i s.jobs
