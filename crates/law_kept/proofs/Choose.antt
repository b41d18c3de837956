-- The choice by queues: the running job against the first of the highest level.
use Rattle.std.proofs.Common.{◌≡◌, ℕ, zero, suc, ◌<◌, ◌≤◌, ◌⊎◌, inl, inr, Bool, true, false, cond, not, ◌&&◌, ◌||◌, nat_le, List, [], ◌∷◌, map, length, refl, sym, ◌∙◌, ap, subst, arith}
use Rattle.std.specs.Prelude.{Option, Some, None, ◌==◌}
use Rattle.std.specs.Option.{option_map}
use Rattle.std.specs.List.{filter, list_any, list_all, AllByRecursion}
use Rattle.std.proofs.lemmas.Bool.{cases_lt, and_parts}
use Rattle.osek_base.specs.Lists.{is_empty}
use Rattle.osek_base.specs.System.{System}
use Rattle.osek_base.specs.State.{Job, JobId, same_id, waits}
use Rattle.osek_base.specs.Priority.{static_priority, dynamic_priority}
use Rattle.osek_base.proofs.ForemostLemmas.{better, best, fits, bounded_best}
use Rattle.osek_base.proofs.LevelLemmas.{level, IsFirst, best_first}
use Rattle.law_runs.proofs.Lists.{Pairs, clash, all_weaker, all_both, all_any, pairs_kept}
use Rattle.law_runs.proofs.Foremost.{AreApart, same_ids, same_self, equal, static_le}
use Rattle.law_runs.proofs.Ranked.{IsBehind}
use Rattle.law_kept.specs.Kept.{is_at, is_queued, task_of, queue}
use Rattle.ready_queues.specs.QueueMoves.{put_oldest, without_first_at_level, rest, first, highest}
use Rattle.law_kept.proofs.Parts.{filter_same, filter_twice, filter_all, any_has}

-- ---- the best of a list

module _ {X : Type 0} (rank : X → ℕ) where
  pub best_same : (p q : X → Bool) (xs : List X) → AllByRecursion (λ x. p x ≡ q x) xs
      → best p rank xs ≡ best q rank xs
  best_same p q [] all = refl
  best_same p q (x ∷ xs) all = rw (all.0, best_same p q xs all.1) refl

  swap_two : (x y : X) → (rank x ≡ rank y → ⊥) → better rank true x (Some y) ≡ better rank true y (Some x)
  swap_two x y apart = go (nat_le (rank y) (rank x)) (nat_le (rank x) (rank y)) refl refl
    where
      go : (a b : Bool) → nat_le (rank y) (rank x) ≡ a → nat_le (rank x) (rank y) ≡ b
          → cond a (Some x) (Some y) ≡ cond b (Some y) (Some x)
      go true true e k = absurd (apart (grind (arith, e, k)))
      go true false e k = refl
      go false true e k = refl
      go false false e k = absurd (grind (arith, e, k))

  low : (m n k : ℕ) → nat_le k m ≡ true → nat_le k n ≡ false → nat_le m n ≡ false
  low m n k e h = grind (arith, e, h)

  -- two that differ in rank, in either order
  pub better_swap : (x y : X) → (rank x ≡ rank y → ⊥) → (o : Option X)
      → better rank true x (better rank true y o) ≡ better rank true y (better rank true x o)
  better_swap x y apart None = swap_two x y apart
  better_swap x y apart (Some z) = go (nat_le (rank z) (rank y)) (nat_le (rank z) (rank x)) refl refl
    where
      go : (a b : Bool) → nat_le (rank z) (rank y) ≡ a → nat_le (rank z) (rank x) ≡ b
          → better rank true x (cond a (Some y) (Some z)) ≡ better rank true y (cond b (Some x) (Some z))
      go true true e k = swap_two x y apart
      go true false e k = rw (low (rank y) (rank x) (rank z) e k, e) refl
      go false true e k = rw (low (rank x) (rank y) (rank z) k e, k) refl
      go false false e k = rw (e, k) refl

  better_none : (t : Bool) (x : X) (o : Option X) → better rank t x o ≡ None → (t ≡ false) × (o ≡ None)
  better_none false x o h = (refl, h)
  better_none true x None h = grind arith
  better_none true x (Some y) h = go (nat_le (rank y) (rank x)) h
    where
      go : (b : Bool) → cond b (Some x) (Some y) ≡ None → (true ≡ false) × (Some y ≡ None)
      go true e = grind arith
      go false e = grind arith

  -- no level has one where there is no best
  pub levels_none : (test : X → Bool) (xs : List X) → best test rank xs ≡ None → (l : ℕ) → level test rank l xs ≡ []
  levels_none test [] h l = refl
  levels_none test (x ∷ xs) h l =
      let both = better_none (test x) x (best test rank xs) h in
      rw both.0 (levels_none test xs both.1 l)

  empty_step : (t : Bool) (m k l : ℕ) → (not t || nat_le m k) ≡ true → k < l → (t && (m == l)) ≡ false
  empty_step false m k l h less = refl
  empty_step true m k l h less = grind (arith, h)

  levels_beneath : (test : X → Bool) (xs : List X) (k l : ℕ)
      → list_all (λ y. not (test y) || nat_le (rank y) k) xs ≡ true → k < l → level test rank l xs ≡ []
  levels_beneath test [] k l h less = refl
  levels_beneath test (x ∷ xs) k l h less =
      let both =
      and_parts (not (test x) || nat_le (rank x) k) (list_all (λ y. not (test y) || nat_le (rank y) k) xs) h in
      rw (empty_step (test x) (rank x) k l both.0 less) (levels_beneath test xs k l both.1 less)

  -- above the best's level there is none
  pub levels_above : (test : X → Bool) (xs : List X) (y : X) → best test rank xs ≡ Some y → (l : ℕ) → rank y < l
      → level test rank l xs ≡ []
  levels_above test xs y h l less =
      let self : nat_le (rank y) (rank y) ≡ true = grind arith in
      levels_beneath test xs (rank y) l (bounded_best test rank (rank y) xs ∙ ap (fits rank (rank y)) h ∙ self) less

-- ---- the highest level

pub highest_none : (n : ℕ) (q : ℕ → List ℕ) → ((l : ℕ) → q l ≡ []) → highest n q ≡ None
unfolding highest
highest_none zero q h = refl
highest_none (suc n) q h = rw (h n) (highest_none n q h)

pub highest_at : (n : ℕ) (q : ℕ → List ℕ) (p : ℕ) → p < n → is_empty (q p) ≡ false → ((l : ℕ) → p < l → q l ≡ [])
    → highest n q ≡ Some p
unfolding highest
highest_at zero q p less some none = absurd (omega arith)
highest_at (suc n) q p less some none = go (cases_lt p n) (λ lt. highest_at n q p lt some none)
  where
    go : (p < n) ⊎ (n ≤ p) → (p < n → highest n q ≡ Some p) → cond (is_empty (q n)) (highest n q) (Some n) ≡ Some p
    go (inl lt) ih = rw (none n lt) (ih lt)
    go (inr ge) ih =
        let same : n ≡ p = omega arith in
        let here : is_empty (q n) ≡ false = ap (λ k. is_empty (q k)) same ∙ some in
        rw here (ap Some same)

-- where there is a highest level, it is below n and has one
pub highest_has : (n : ℕ) (q : ℕ → List ℕ) (l : ℕ) → highest n q ≡ Some l → (l < n) × (0 < length (q l))
unfolding highest
highest_has zero q l h = absurd (grind arith)
highest_has (suc n) q l h = go (q n) refl h (highest_has n q l)
  where
    go : (ts : List ℕ) → q n ≡ ts → cond (is_empty ts) (highest n q) (Some n) ≡ Some l
        → (highest n q ≡ Some l → (l < n) × (0 < length (q l)))
        → (l < suc n) × (0 < length (q l))
    go [] e k ih = let both = ih k in (omega arith, both.1)
    go (t ∷ ts) e k ih =
        let same : n ≡ l = grind arith in
        let many : length (q l) ≡ suc (length ts) = ap (λ m. length (q m)) (sym same) ∙ ap length e in
        (omega arith, omega arith)

module _ (S : System) where
  -- the level of the first to run of those in the queues
  pub highest_queue : (n : ℕ) (running : Option JobId) (jobs : List Job) → ((j : Job) → dynamic_priority S j < n)
      → highest n (queue S running jobs)
      ≡ option_map (dynamic_priority S) (best (is_queued running) (dynamic_priority S) jobs)
  highest_queue n running jobs bound = go (best (is_queued running) (dynamic_priority S) jobs) refl
    where
      go : (o : Option Job) → best (is_queued running) (dynamic_priority S) jobs ≡ o
          → highest n (queue S running jobs) ≡ option_map (dynamic_priority S) o
      go None e =
          highest_none n (queue S running jobs)
          (λ l. ap (map task_of) (levels_none (dynamic_priority S) (is_queued running) jobs e l))
      go (Some y) e =
          let first = best_first (is_queued running) (dynamic_priority S) jobs y e in
          highest_at n (queue S running jobs) (dynamic_priority S y) (bound y)
          (ap (λ js. is_empty (map task_of js)) first.1)
          (λ l less. ap (map task_of) (levels_above (dynamic_priority S) (is_queued running) jobs y e l less))

  -- ---- the running job and the queues

  abbrev pub is_ready : Job → Bool
  is_ready j = not (waits j)

  -- no job before the one of an id is at its level
  abbrev pub IsClear : JobId → ℕ → Job → Job → Type 0
  IsClear n p x y = same_id y.id n ≡ true → waits x ≡ false → dynamic_priority S x ≡ p → ⊥

  pub clear_behind : (r : Job) (jobs : List Job) → AllByRecursion (λ y. same_id y.id r.id ≡ true → y ≡ r) jobs
      → Pairs (IsBehind S (Some r.id)) jobs
      → Pairs (IsClear r.id (dynamic_priority S r)) jobs
  clear_behind r [] itself pairs = tt
  clear_behind r (x ∷ xs) itself pairs = (
    all_weaker (λ y. (same_id y.id r.id ≡ true → y ≡ r) × IsBehind S (Some r.id) x y)
        (IsClear r.id (dynamic_priority S r) x) xs (λ y h. one y h.0 h.1)
        (all_both (λ y. same_id y.id r.id ≡ true → y ≡ r) (IsBehind S (Some r.id) x) xs itself.1 pairs.0),
    clear_behind r xs itself.1 pairs.1,
  )
    where
      one : (y : Job) → (same_id y.id r.id ≡ true → y ≡ r) → IsBehind S (Some r.id) x y
          → IsClear r.id (dynamic_priority S r) x y
      one y itself behind e ready level =
          let same : y ≡ r = itself e in
          let low : static_priority S y ≤ dynamic_priority S y = static_le S y in
          let here : dynamic_priority S y ≡ dynamic_priority S r = ap (dynamic_priority S) same in
          behind (ap (λ (z : Job). Some z.id) (sym same)) ready (omega arith) (omega arith)

  free_other : (n : JobId) (j : Job) → same_id j.id n ≡ false → is_queued (Some n) j ≡ is_ready j
  free_other n j e = rw e refl

  -- the best of all is the better of the running job and the best of the queues
  pub best_against : (r : Job) (jobs : List Job) → waits r ≡ false → Pairs AreApart jobs
      → AllByRecursion (λ y. same_id y.id r.id ≡ true → y ≡ r) jobs
      → Pairs (IsClear r.id (dynamic_priority S r)) jobs → list_any (λ j. same_id j.id r.id) jobs ≡ true
      → best is_ready (dynamic_priority S) jobs
      ≡ better (dynamic_priority S) true r (best (is_queued (Some r.id)) (dynamic_priority S) jobs)
  best_against r [] ready apart itself clear there = clash (sym there)
  best_against r (x ∷ xs) ready apart itself clear there =
      go (same_id x.id r.id) refl there (λ k. best_against r xs ready apart.1 itself.1 clear.1 k)
    where
      N : Option Job
      N = best (is_queued (Some r.id)) (dynamic_priority S) xs

      rank : Job → ℕ
      rank = dynamic_priority S

      alone : same_id x.id r.id ≡ true → best is_ready rank xs ≡ N
      alone e =
          let same : x.id ≡ r.id = same_ids x.id r.id e in
          sym (best_same rank (is_queued (Some r.id)) is_ready xs
          (all_weaker (AreApart x) (λ y. is_queued (Some r.id) y ≡ is_ready y) xs (λ y h. free_other r.id y (subst (λ m. same_id y.id m ≡ false) same h)) apart.0))

      other : (b : Bool) → waits x ≡ b → same_id x.id r.id ≡ false → list_any (λ j. same_id j.id r.id) xs ≡ true
          → better rank (not b) x (better rank true r N) ≡ better rank true r (better rank (not b) x N)
      other true w e k = refl
      other false w e k =
          let one = any_has (λ j. same_id j.id r.id) (IsClear r.id (rank r) x) xs k clear.0 in
          better_swap rank x r (λ level. one.2 one.1 w level) N

      go : (b : Bool) → same_id x.id r.id ≡ b → (b || list_any (λ j. same_id j.id r.id) xs) ≡ true
          → (list_any (λ j. same_id j.id r.id) xs ≡ true → best is_ready rank xs ≡ better rank true r N)
          → better rank (is_ready x) x (best is_ready rank xs)
          ≡ better rank true r (better rank (is_queued (Some r.id) x) x N)
      go true e k ih =
          let same : x ≡ r = itself.0 e in
          rw (e, alone e) (ap (λ z. better rank (is_ready z) z N) same ∙ ap (λ w. better rank (not w) r N) ready)
      go false e k ih = rw (e, ih k) (other (waits x) refl e k)

  -- the running job is the first of its level
  pub first_of_level : (r : Job) (jobs : List Job) → waits r ≡ false
      → AllByRecursion (λ y. same_id y.id r.id ≡ true → y ≡ r) jobs
      → Pairs (IsClear r.id (dynamic_priority S r)) jobs → list_any (λ j. same_id j.id r.id) jobs ≡ true
      → IsFirst r (level is_ready (dynamic_priority S) (dynamic_priority S r) jobs)
  first_of_level r [] ready itself clear there = clash (sym there)
  first_of_level r (x ∷ xs) ready itself clear there =
      go (same_id x.id r.id) refl there (λ k. first_of_level r xs ready itself.1 clear.1 k)
    where
      rank : Job → ℕ
      rank = dynamic_priority S

      out : (b : Bool) → waits x ≡ b → (c : Bool) → (rank x == rank r) ≡ c
          → list_any (λ j. same_id j.id r.id) xs ≡ true → (not b && c) ≡ false
      out true w c l k = refl
      out false w false l k = refl
      out false w true l k =
          let one = any_has (λ j. same_id j.id r.id) (IsClear r.id (rank r) x) xs k clear.0 in
          absurd (one.2 one.1 w (equal (rank x) (rank r) l))

      go : (b : Bool) → same_id x.id r.id ≡ b → (b || list_any (λ j. same_id j.id r.id) xs) ≡ true
          → (list_any (λ j. same_id j.id r.id) xs ≡ true → IsFirst r (level is_ready rank (rank r) xs))
          → IsFirst r (cond (is_ready x && (rank x == rank r)) (x ∷ level is_ready rank (rank r) xs) (level is_ready rank (rank r) xs))
      go true e k ih =
          let same : x ≡ r = itself.0 e in
          let level_self : (rank r == rank r) ≡ true = grind arith in (
            level is_ready rank (rank r) xs,
            ap
                (λ z. cond (is_ready z && (rank z == rank r)) (z ∷ level is_ready rank (rank r) xs) (level is_ready rank (rank r) xs)) same
                ∙ rw (ready, level_self) refl,
          )
      go false e k ih = rw (out (waits x) refl (rank x == rank r) refl k) (ih k)

  -- ---- a job that is first of its level, out of the queues

  -- all that are ready, by level
  abbrev pub all_ready : List Job → ℕ → List ℕ
  all_ready jobs l = map task_of (level is_ready (dynamic_priority S) l jobs)

  module _ (c : Job) (jobs : List Job) (apart : Pairs AreApart jobs) (itself : AllByRecursion (λ y. same_id y.id c.id ≡ true → y ≡ c) jobs)
      (is_first : IsFirst c (level is_ready (dynamic_priority S) (dynamic_priority S c) jobs)) where
    others_apart : AllByRecursion (λ y. not (same_id y.id c.id) ≡ true) is_first.0
    others_apart =
        let kept : Pairs AreApart (level is_ready (dynamic_priority S) (dynamic_priority S c) jobs) =
        pairs_kept AreApart _ jobs apart in
        all_weaker (AreApart c) (λ y. not (same_id y.id c.id) ≡ true) is_first.0 (λ y h. ap not h)
        (subst (Pairs AreApart) is_first.1 kept).0

    without : (l : ℕ)
        → filter (is_at S (Some c.id) l) jobs
        ≡ filter (λ y. not (same_id y.id c.id)) (level is_ready (dynamic_priority S) l jobs)
    without l =
        filter_same (is_at S (Some c.id) l)
        (λ y. (is_ready y && (dynamic_priority S y == l)) && not (same_id y.id c.id)) jobs
        (all_any _ jobs (λ y. go (same_id y.id c.id) (not (waits y)) (dynamic_priority S y == l)))
        ∙ sym (filter_twice (λ y. not (same_id y.id c.id)) (λ y. is_ready y && (dynamic_priority S y == l)) jobs)
      where
        go : (a b d : Bool) → ((not a && b) && d) ≡ ((b && d) && not a)
        go true true true = refl
        go true true false = refl
        go true false d = refl
        go false true true = refl
        go false true false = refl
        go false false d = refl

    -- at its own level: the rest
    at_level : queue S (Some c.id) jobs (dynamic_priority S c) ≡ map task_of is_first.0
    at_level =
        let gone : filter (λ y. not (same_id y.id c.id)) (c ∷ is_first.0) ≡ is_first.0 =
        rw (same_self c.id) (filter_all (λ y. not (same_id y.id c.id)) is_first.0 others_apart) in
        ap (map task_of)
        (without (dynamic_priority S c) ∙ ap (filter (λ y. not (same_id y.id c.id))) is_first.1 ∙ gone)

    -- at other levels: all
    off_level : (l : ℕ) → (dynamic_priority S c == l) ≡ false → queue S (Some c.id) jobs l ≡ all_ready jobs l
    off_level l e =
        ap (map task_of) (filter_same (is_at S (Some c.id) l) (λ y. is_ready y && (dynamic_priority S y == l)) jobs
        (all_weaker (λ y. same_id y.id c.id ≡ true → y ≡ c) _ jobs (λ y h. go y h (same_id y.id c.id) refl) itself))
      where
        no : (b : Bool) → (b && false) ≡ false
        no true = refl
        no false = refl

        go : (y : Job) → (same_id y.id c.id ≡ true → y ≡ c) → (b : Bool) → same_id y.id c.id ≡ b
            → ((not b && not (waits y)) && (dynamic_priority S y == l)) ≡ (is_ready y && (dynamic_priority S y == l))
        go y h false k = refl
        go y h true k = sym (rw (ap (λ z. dynamic_priority S z == l) (h k) ∙ e) (no (is_ready y)))

    pub taken_out : (l : ℕ) → queue S (Some c.id) jobs l ≡ without_first_at_level (all_ready jobs) (dynamic_priority S c) l
    taken_out l = go (dynamic_priority S c == l) refl
      where
        go : (b : Bool) → (dynamic_priority S c == l) ≡ b
            → queue S (Some c.id) jobs l ≡ cond b (rest (all_ready jobs (dynamic_priority S c))) (all_ready jobs l)
        go true e =
            ap (queue S (Some c.id) jobs) (sym (equal (dynamic_priority S c) l e)) ∙ at_level
            ∙ ap (λ js. rest (map task_of js)) (sym is_first.1)
        go false e = off_level l e

    pub put_back : (l : ℕ)
        → all_ready jobs l ≡ put_oldest (queue S (Some c.id) jobs) (dynamic_priority S c) c.id.task l
    put_back l = go (dynamic_priority S c == l) refl
      where
        go : (b : Bool) → (dynamic_priority S c == l) ≡ b
            → all_ready jobs l
            ≡ cond b (c.id.task ∷ queue S (Some c.id) jobs (dynamic_priority S c)) (queue S (Some c.id) jobs l)
        go true e =
            ap (all_ready jobs) (sym (equal (dynamic_priority S c) l e)) ∙ ap (map task_of) is_first.1
            ∙ ap (λ ts. c.id.task ∷ ts) (sym at_level)
        go false e = sym (off_level l e)

    pub first_is : first (all_ready jobs (dynamic_priority S c)) ≡ c.id.task
    first_is = ap (λ js. first (map task_of js)) is_first.1
