-- The parts of a key, written from what a machine lends.
use Rattle.std.proofs.Common.{ℕ, zero, suc, ◌≡◌, ◌<◌, List, ◌++◌, refl, sym, ◌∙◌, ap, ap₂, arith}
use Rattle.std.proofs.lemmas.List.{append_assoc}
use Rattle.std.specs.Prelude.{Bool}
use Rattle.osek_base.specs.declared.limits.TheConstants.{MAX_TASK_PRIORITY}
use Rattle.ready_queues.specs.Queues.{Queues}
use Rattle.ready_queues.specs.LevelLists.{by_level, level_lists}
use Rattle.ready_queues.proofs.LevelLists.{by_level-below}
use Rattle.osek_base.specs.System.{System}
use Rattle.law_kept.specs.Kept.{Kept}
use Rattle.law_future.specs.Need.{Need}
use Rattle.services.specs.Objects.{Objects, kept_in, kept_of}
use Rattle.search_keys.specs.Bytes.{each, flag, number}
use Rattle.search_keys.specs.Key.{key, level_key, ready_key, words_key}
use Rattle.search_states.specs.Parts.{at_tick, jobs_part, times_key}

each_same : (n : ℕ) (part other : ℕ → List ℕ) → ((k : ℕ) → k < n → part k ≡ other k)
    → each n part ≡ each n other
unfolding each
each_same zero part other same = refl
each_same (suc n) part other same =
    ap₂ (λ xs ys. xs ++ ys) (each_same n part other (λ k low. same k (omega (arith, low))))
    (same n (omega arith))

-- queues by level and by their lists have one key
pub ready_same : (q : Queues)
    → ready_key (suc MAX_TASK_PRIORITY) q
    ≡ ready_key (suc MAX_TASK_PRIORITY) (by_level (level_lists q))
ready_same q =
    ap (λ xs. xs ++ number 0)
    (each_same (suc MAX_TASK_PRIORITY) (λ l. level_key l (q l))
    (λ l. level_key l (by_level (level_lists q) l))
    (λ l low. ap (level_key l) (sym (by_level-below q l (omega (arith, low))))))

-- the parts of a key in the groups in which they are written
regrouped : (old j r a c w f : List ℕ)
    → ((((old ++ j) ++ r) ++ (a ++ c)) ++ w) ++ f ≡ old ++ (((((j ++ r) ++ a) ++ c) ++ w) ++ f)
regrouped old j r a c w f = simp append_assoc refl

-- what is written of the objects of a machine is the part of its picture
module _ (S T : System) (need : Need) (r : Objects) (p : Kept) (t now : ℕ) (same : T ≡ S)
    (pictured : kept_of p.words (record r { tick = t }) ≡ p) where
  jobs_same : jobs_part T need (kept_in r) ≡ jobs_part S need p
  jobs_same = ap₂ (λ (R : System) (o : Kept). jobs_part R need o) same pictured

  times_same : now ≡ t → times_key T need (at_tick now (kept_in r)) ≡ times_key S need p
  times_same is_now =
      ap (λ (k : ℕ). times_key T need (at_tick k (kept_in r))) is_now
      ∙ ap₂ (λ (R : System) (o : Kept). times_key R need o) same pictured

  -- the steps in which a key is written
  pub record AreSteps (q : Queues) (over : Bool)
      (old jobs ready times words all : List ℕ) : Type 0 where
    pub jobs_step : jobs ≡ old ++ jobs_part T need (kept_in r)
    pub ready_step : ready ≡ jobs ++ ready_key (suc MAX_TASK_PRIORITY) q
    pub times_step : times ≡ ready ++ times_key T need (at_tick now (kept_in r))
    pub words_step : words ≡ times ++ words_key T need p
    pub over_step : all ≡ words ++ flag over

  pub key_written : (q : Queues) (over : Bool) (old jobs ready times words all : List ℕ)
      → now ≡ t → by_level (level_lists q) ≡ p.queues → over ≡ p.over
      → AreSteps q over old jobs ready times words all → all ≡ old ++ key S need p
  unfolding key
  key_written q over old jobs ready times words all is_now is_queues is_over k =
      let jobs_are : jobs ≡ old ++ jobs_part S need p =
      k.jobs_step ∙ ap (λ xs. old ++ xs) jobs_same in
      let ready_is : ready ≡ (old ++ jobs_part S need p)
      ++ ready_key (suc MAX_TASK_PRIORITY) p.queues =
      k.ready_step ∙ ap₂ (λ xs ys. xs ++ ys) jobs_are
      (ready_same q ∙ ap (ready_key (suc MAX_TASK_PRIORITY)) is_queues) in
      let times_are = k.times_step ∙ ap₂ (λ xs ys. xs ++ ys) ready_is (times_same is_now) in
      let words_are =
      k.words_step
      ∙ ap₂ (λ xs ys. xs ++ ys) times_are (ap (λ (R : System). words_key R need p) same) in
      k.over_step ∙ ap₂ (λ xs ys. xs ++ ys) words_are (ap flag is_over)
      ∙ regrouped old (jobs_part S need p) (ready_key (suc MAX_TASK_PRIORITY) p.queues) _ _
      (words_key S need p) (flag p.over)
