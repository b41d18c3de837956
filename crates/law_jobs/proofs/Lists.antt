-- The jobs of a task that stand, in lists of jobs: what changes of jobs make of them.
use Rattle.std.proofs.Common.{◌≡◌, ℕ, Bool, true, false, cond, not, ◌||◌, List, [], ◌∷◌, ◌++◌, map, refl, sym, ◌∙◌, ap, append_assoc, append-nil}
use Rattle.std.specs.Prelude.{◌==◌}
use Rattle.std.specs.List.{filter, list_any, AllByRecursion}
use Rattle.std.proofs.lemmas.List.{map-append}
use Rattle.std.proofs.lemmas.List.Elements.{filter-append}
use Rattle.std.proofs.lemmas.List.Folds.{list_any-append}
use Rattle.osek_base.specs.Activation.{new_job, woken}
use Rattle.osek_base.specs.Reschedule.{id_of}
use Rattle.osek_base.specs.State.{Job, JobId, jobs_but, jobs_of, same_id, waits}
use Rattle.osek_base.specs.System.{System}
use Rattle.law_runs.proofs.Foremost.{equal, same_self}
use Rattle.law_runs.proofs.Lists.{all_any, all_append, all_kept, all_weaker, clash}
use Rattle.law_kept.proofs.JobMoves.{but_of, elsewhere}
use Rattle.law_kept.proofs.Parts.{any_moved, any_parts, filter_all, filter_moved}
use Rattle.law_blockers.proofs.ReadyLemmas.{jobs_of_map, map_same, map_twice}
use Rattle.law_jobs.specs.Standing.{standing, stands}

-- whether a job of a task waits; whether a job of an id is in a list; whether an id is
abbrev pub one_waits : ℕ → List Job → Bool
one_waits k jobs = list_any waits (jobs_of k jobs)

abbrev pub is_there : JobId → List Job → Bool
is_there n jobs = list_any (λ j. same_id j.id n) jobs

abbrev pub is_among : List JobId → JobId → Bool
is_among ids n = list_any (λ m. same_id m n) ids

-- ---- parts of lists

either_false : (a b : Bool) → (a || b) ≡ false → a ≡ false
either_false false b h = refl
either_false true b h = h

pub true_or : (a b : Bool) → a ≡ true → (a || b) ≡ true
true_or true b h = refl
true_or false b h = clash (sym h)

pub standing_append : (k : ℕ) (js ks : List Job)
    → standing k (js ++ ks) ≡ standing k js ++ standing k ks
standing_append k js ks =
    ap (λ ls. map id_of (filter stands ls)) (filter-append (λ j. j.id.task == k) js ks)
    ∙ ap (map id_of) (filter-append stands (jobs_of k js) (jobs_of k ks))
    ∙ map-append id_of (filter stands (jobs_of k js)) (filter stands (jobs_of k ks))

pub waits_append : (k : ℕ) (js ks : List Job)
    → one_waits k (js ++ ks) ≡ (one_waits k js || one_waits k ks)
waits_append k js ks =
    ap (list_any waits) (filter-append (λ j. j.id.task == k) js ks)
    ∙ list_any-append waits (jobs_of k js) (jobs_of k ks)

pub none_any : {X : Type 0} (test : X → Bool) (xs : List X)
    → AllByRecursion (λ x. test x ≡ false) xs
    → list_any test xs ≡ false
none_any test [] all = refl
none_any test (x ∷ xs) all = rw all.0 (none_any test xs all.1)

pub mapped_any : {X Y : Type 0} (test : Y → Bool) (f : X → Y) (xs : List X)
    → list_any test (map f xs) ≡ list_any (λ x. test (f x)) xs
mapped_any test f [] = refl
mapped_any test f (x ∷ xs) = ap (λ b. test (f x) || b) (mapped_any test f xs)

-- an id that no job has isn't among those that stand
pub absent : (k : ℕ) (n : JobId) (js : List Job) → AllByRecursion (λ j. same_id j.id n ≡ false) js
    → is_among (standing k js) n ≡ false
absent k n js all =
    mapped_any (λ m. same_id m n) id_of (filter stands (jobs_of k js))
    ∙ none_any (λ j. same_id j.id n) (filter stands (jobs_of k js))
    (all_kept (λ j. same_id j.id n ≡ false) stands (jobs_of k js)
    (all_kept (λ j. same_id j.id n ≡ false) (λ j. j.id.task == k) js all))

-- ---- jobs that begin to stand behind those that do

-- none of them ends or begins to wait, and none that is in the list leaves it
pub record Grows (k : ℕ) (js ks : List Job) : Type 0 where
  pub fresh : List JobId
  pub is : standing k ks ≡ standing k js ++ fresh
  pub apart : AllByRecursion (λ n. is_among (standing k js) n ≡ false) fresh
  pub calm : one_waits k js ≡ false → one_waits k ks ≡ false
  pub stays : (n : JobId) → is_there n js ≡ true → is_there n ks ≡ true

-- the same of them stand, in the same order
pub record AreSame (k : ℕ) (js ks : List Job) : Type 0 where
  pub standing : standing k ks ≡ standing k js
  pub waits : one_waits k ks ≡ one_waits k js
  pub there : (n : JobId) → is_there n ks ≡ is_there n js

pub same_jobs : (k : ℕ) (js ks : List Job) → ks ≡ js → AreSame k js ks
same_jobs k js ks same = record {
  standing = ap (standing k) same;
  waits = ap (one_waits k) same;
  there = λ n. ap (is_there n) same;
}

pub grows_same : (k : ℕ) (js ks : List Job) → AreSame k js ks → Grows k js ks
grows_same k js ks same = record {
  fresh = [];
  is = same.standing ∙ sym (append-nil (standing k js));
  apart = tt;
  calm = λ h. same.waits ∙ h;
  stays = λ n h. same.there n ∙ h;
}

pub grows_both : (k : ℕ) (js ks ls : List Job) → Grows k js ks → Grows k ks ls → Grows k js ls
grows_both k js ks ls one two = record {
  fresh = one.fresh ++ two.fresh;
  is =
      two.is ∙ ap (λ ids. ids ++ two.fresh) one.is
      ∙ append_assoc (standing k js) one.fresh two.fresh;
  apart =
      all_append (λ n. is_among (standing k js) n ≡ false) one.fresh two.fresh one.apart
      (all_weaker (λ n. is_among (standing k ks) n ≡ false)
      (λ n. is_among (standing k js) n ≡ false) two.fresh before two.apart);
  calm = λ h. two.calm (one.calm h);
  stays = λ n h. two.stays n (one.stays n h);
}
  where
    before : (n : JobId) → is_among (standing k ks) n ≡ false → is_among (standing k js) n ≡ false
    before n h =
        either_false (is_among (standing k js) n) (is_among one.fresh n)
        (sym (ap (λ ids. is_among ids n) one.is
        ∙ list_any-append (λ m. same_id m n) (standing k js) one.fresh) ∙ h)

-- jobs are changed where they stand
module _ (k : ℕ) (g : Job → Job) (ids : (j : Job) → (g j).id ≡ j.id) where
  pub mapped_there : (n : JobId) (js : List Job) → is_there n (map g js) ≡ is_there n js
  mapped_there n js =
      any_moved (λ j. same_id j.id n) g (λ j. ap (λ (m : JobId). same_id m n) (ids j)) js

  module _ (calm : (j : Job) → waits (g j) ≡ waits j) where
    mapped_standing : (js : List Job) → standing k (map g js) ≡ standing k js
    mapped_standing js =
        ap (λ ks. map id_of (filter stands ks)) (jobs_of_map k g ids js)
        ∙ ap (map id_of) (filter_moved stands g (λ j. ap not (calm j)) (jobs_of k js))
        ∙ map_twice id_of g (filter stands (jobs_of k js))
        ∙ map_same (λ j. id_of (g j)) id_of (filter stands (jobs_of k js))
        (all_any (λ j. id_of (g j) ≡ id_of j) (filter stands (jobs_of k js)) ids)

    pub same_mapped : (js : List Job) → AreSame k js (map g js)
    same_mapped js = record {
      standing = mapped_standing js;
      waits =
          ap (list_any waits) (jobs_of_map k g ids js) ∙ any_moved waits g calm (jobs_of k js);
      there = λ n. mapped_there n js;
    }

-- a job is made
pub grows_made : (k : ℕ) (n : JobId) (js : List Job)
    → AllByRecursion (λ j. same_id j.id n ≡ false) js → Grows k js (js ++ new_job n ∷ [])
grows_made k n js none = record {
  fresh = standing k (new_job n ∷ []);
  is = standing_append k js (new_job n ∷ []);
  apart = apart (n.task == k);
  calm = λ h. waits_append k js (new_job n ∷ []) ∙ rw h (idle (n.task == k));
  stays = λ m h.
      list_any-append (λ j. same_id j.id m) js (new_job n ∷ [])
      ∙ true_or (is_there m js) (is_there m (new_job n ∷ [])) h;
}
  where
    apart : (b : Bool) → AllByRecursion (λ m. is_among (standing k js) m ≡ false)
        (map id_of (filter stands (cond b (new_job n ∷ []) [])))
    apart true = (absent k n js none, tt)
    apart false = tt

    idle : (b : Bool) → list_any waits (cond b (new_job n ∷ []) []) ≡ false
    idle true = refl
    idle false = refl

-- the only job of a task is released
module _ (S : System) (k : ℕ) (j : Job) (js : List Job) (waiting : waits j ≡ true)
    (alone : jobs_of j.id.task js ≡ j ∷ []) (those : filter (λ l. same_id l.id j.id) js ≡ j ∷ [])
  where
    same_there : (n : JobId) → is_there n (jobs_but j.id js ++ woken j ∷ []) ≡ is_there n js
    same_there n =
        list_any-append (λ l. same_id l.id n) (jobs_but j.id js) (woken j ∷ [])
        ∙ ap (λ ls. is_there n (jobs_but j.id js) || is_there n ls) (sym those)
        ∙ any_parts (λ l. same_id l.id n) (λ l. same_id l.id j.id) js

    jobs_are : jobs_of k (jobs_but j.id js ++ woken j ∷ [])
        ≡ jobs_but j.id (jobs_of k js) ++ jobs_of k (woken j ∷ [])
    jobs_are =
        filter-append (λ l. l.id.task == k) (jobs_but j.id js) (woken j ∷ [])
        ∙ ap (λ ls. ls ++ jobs_of k (woken j ∷ [])) (but_of S j.id js k)

    others_same : (j.id.task == k) ≡ false → jobs_of k (jobs_but j.id js ++ woken j ∷ []) ≡ jobs_of
        k js
    others_same other =
        jobs_are
        ∙ ap (λ b. jobs_but j.id (jobs_of k js) ++ cond b (woken j ∷ []) []) other
        ∙ append-nil (jobs_but j.id (jobs_of k js))
        ∙ filter_all (λ l. not (same_id l.id j.id)) (jobs_of k js)
        (all_weaker (λ l. same_id l.id j.id ≡ false) (λ l. not (same_id l.id j.id) ≡ true)
        (jobs_of k js) (λ l h. ap not h) (elsewhere S j.id js k other))

    own_jobs : (j.id.task == k) ≡ true → jobs_of k js ≡ j ∷ []
    own_jobs own = ap (λ t. jobs_of t js) (sym (equal j.id.task k own)) ∙ alone

    own_after : (j.id.task == k) ≡ true
        → jobs_of k (jobs_but j.id js ++ woken j ∷ []) ≡ woken j ∷ []
    own_after own =
        jobs_are
        ∙ ap (λ ls. jobs_but j.id ls ++ jobs_of k (woken j ∷ [])) (own_jobs own)
        ∙ rw (same_self j.id, own) refl

    pub grows_released : Grows k js (jobs_but j.id js ++ woken j ∷ [])
    grows_released = go (j.id.task == k) refl
      where
        go : (b : Bool) → (j.id.task == k) ≡ b → Grows k js (jobs_but j.id js ++ woken j ∷ [])
        go false other = record {
          fresh = [];
          is =
              ap (λ ls. map id_of (filter stands ls)) (others_same other)
              ∙ sym (append-nil (standing k js));
          apart = tt;
          calm = λ h. ap (list_any waits) (others_same other) ∙ h;
          stays = λ n h. same_there n ∙ h;
        }
        go true own =
            let none : standing k js ≡ [] =
            ap (λ ls. map id_of (filter stands ls)) (own_jobs own)
            ∙ ap (λ b. map id_of (cond (not b) (j ∷ []) [])) waiting in
            record {
              fresh = j.id ∷ [];
              is =
                  ap (λ ls. map id_of (filter stands ls)) (own_after own)
                  ∙ ap (λ ids. ids ++ j.id ∷ []) (sym none);
              apart = (ap (λ ids. is_among ids j.id) none, tt);
              calm = λ h. ap (list_any waits) (own_after own);
              stays = λ n h. same_there n ∙ h;
            }
