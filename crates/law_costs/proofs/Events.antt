-- Masks of events behind activations, SetEvent and ClearEvent: they stay of all other tasks.
use Rattle.std.proofs.Common.{ℕ, zero, suc, ◌≡◌, ◌≤◌, ◌<◌, ◌+◌, inl, inr, Bool, true, false, cond, not, ◌&&◌, ◌||◌, nat_le, List, [], ◌∷◌, ◌++◌, set, length, refl, sym, ◌∙◌, ap, arith}
use Rattle.std.specs.Prelude.{slice_index, slice_set, bit_or, ◌==◌}
use Rattle.std.specs.List.{AllByRecursion, list_any, sum_by}
use Rattle.std.proofs.lemmas.Bool.{and_parts, cases_lt, not-true}
use Rattle.std.proofs.lemmas.List.{get_or-set_other, get_or-set_same, get_or_past}
use Rattle.std.proofs.lemmas.List.Sums.{sum_by-cons}
use Rattle.osek_base.specs.Activation.{activated, is_full}
use Rattle.osek_base.specs.Lists.{is_empty}
use Rattle.osek_base.specs.Priority.{dynamic_priority}
use Rattle.osek_base.specs.Proper.{IsProper}
use Rattle.osek_base.specs.Service.{JobCalls, is_own_task}
use Rattle.osek_base.specs.State.{Job, State, jobs_but, jobs_of, same_id, waits}
use Rattle.osek_base.specs.System.{System, Task, is_extended, no_task}
use Rattle.law_runs.proofs.Foremost.{equal, self_equal, same_self}
use Rattle.law_runs.proofs.Known.{HasRoom, full_room, none_kept}
use Rattle.law_runs.proofs.Lists.{Pairs, all_any, all_both, all_filter, all_kept, all_weaker, clash, pairs_weaker}
use Rattle.law_runs.proofs.RankedMoves.{made_job}
use Rattle.law_runs.proofs.Single.{IsSingle, IsSoundPair}
use Rattle.law_runs.proofs.SingleMoves.{alone}
use Rattle.law_costs.specs.Left.{Switch, Weights, counts, is_off, left_of_job, left_of_jobs}

-- ---- sums

pub sum_same : {X : Type 0} (f g : X → ℕ) (xs : List X) → AllByRecursion (λ x. f x ≡ g x) xs
    → sum_by f xs ≡ sum_by g xs
sum_same f g [] all = refl
sum_same f g (x ∷ xs) all =
    let one = sum_by-cons f x xs in
    let other = sum_by-cons g x xs in
    let rest = sum_same f g xs all.1 in
    let first = all.0 in
    omega (arith, one, other, rest, first)

-- of things of which one at most passes, and that one is more
pub sum_raised : {X : Type 0} (f g : X → ℕ) (t : X → Bool) (d : ℕ) (xs : List X)
    → Pairs (λ x y. t x ≡ true → t y ≡ false) xs
    → AllByRecursion (λ x. (t x ≡ true → f x ≤ g x + d) × (t x ≡ false → f x ≡ g x)) xs
    → sum_by f xs ≤ sum_by g xs + d
sum_raised f g t d [] apart each = omega arith
sum_raised f g t d (x ∷ xs) apart each =
    go (t x) refl (sum_raised f g t d xs apart.1 each.1)
  where
    go : (b : Bool) → t x ≡ b → sum_by f xs ≤ sum_by g xs + d
        → sum_by f (x ∷ xs) ≤ sum_by g (x ∷ xs) + d
    go true is rest =
        let one = sum_by-cons f x xs in
        let other = sum_by-cons g x xs in
        let first = each.0.0 is in
        let others =
        sum_same f g xs
        (all_weaker
        (λ y. (t x ≡ true → t y ≡ false)
        × ((t y ≡ true → f y ≤ g y + d) × (t y ≡ false → f y ≡ g y)))
        (λ y. f y ≡ g y) xs (λ y h. h.1.1 (h.0 is))
        (all_both (λ y. t x ≡ true → t y ≡ false)
        (λ y. (t y ≡ true → f y ≤ g y + d) × (t y ≡ false → f y ≡ g y)) xs apart.0 each.1)) in
        omega (arith, one, other, first, others)
    go false is rest =
        let one = sum_by-cons f x xs in
        let other = sum_by-cons g x xs in
        let first = each.0.1 is in
        omega (arith, one, other, first, rest)

-- ---- masks

pub set_other : (masks : List ℕ) (t u m : ℕ) → (u ≡ t → ⊥)
    → slice_index (slice_set masks t m) u ≡ slice_index masks u
set_other masks t u m other = get_or-set_other masks t u m 0 other

pub set_same : (masks : List ℕ) (t m : ℕ) → t < length masks
    → slice_index (slice_set masks t m) t ≡ m
set_same masks t m inside = get_or-set_same masks t m 0 inside

pub set_zero : (masks : List ℕ) (t : ℕ) → slice_index (set masks t 0) t ≡ 0
set_zero [] t = refl
set_zero (m ∷ masks) zero = refl
set_zero (m ∷ masks) (suc t) = set_zero masks t

-- the events that are set for a job's task
abbrev pub mask_of : List ℕ → Job → ℕ
mask_of masks j = slice_index masks j.id.task

abbrev pub IsAlike : List ℕ → List ℕ → Job → Type 0
IsAlike masks others j = mask_of masks j ≡ mask_of others j

-- events that are set for a task besides
abbrev pub masks_set : List ℕ → ℕ → ℕ → List ℕ
masks_set masks t x = slice_set masks t (bit_or (slice_index masks t) x)

pub mask_set : (masks : List ℕ) (t x : ℕ) (j : Job) → j.id.task ≡ t → j.id.task < length masks
    → mask_of (masks_set masks t x) j ≡ bit_or (mask_of masks j) x
mask_set masks t x j same inside =
    ap (λ u. slice_index (masks_set masks u x) j.id.task) (sym same)
    ∙ set_same masks j.id.task (bit_or (mask_of masks j) x) inside

-- what more is left of a job that doesn't wait, they pay
pub record IsRaised (c : Weights) (find : Job → Switch) (masks : List ℕ) (x : ℕ) (j : Job)
    : Type 0 where
  pub inside : j.id.task < length masks
  pub more : waits j ≡ false
      → c.of_job (bit_or (mask_of masks j) x) (find j) j
      ≤ c.of_job (mask_of masks j) (find j) j + c.of_event j.id.task x

-- ---- an activation

none_empty : (t : ℕ) (jobs : List Job) → AllByRecursion (λ j. (j.id.task == t) ≡ false) jobs
    → is_empty (jobs_of t jobs) ≡ true
none_empty t [] none = refl
none_empty t (j ∷ jobs) none = go (j.id.task == t) none.0 (none_empty t jobs none.1)
  where
    go : (b : Bool) → b ≡ false → is_empty (jobs_of t jobs) ≡ true
        → is_empty (cond b (j ∷ jobs_of t jobs) (jobs_of t jobs)) ≡ true
    go true is rest = clash is
    go false is rest = rest

pub empty_short : (jobs : List Job) → is_empty jobs ≡ true → length jobs < 1
empty_short [] is = omega arith
empty_short (j ∷ jobs) is = clash (sym is)

module _ (S : System) (t : ℕ) where
  -- where one more job may be made, an extended task has none
  pub room : (s : State) → IsProper S → is_full S s t ≡ false → HasRoom S t s.jobs
  room s proper full = elim (cases_lt t (length S.tasks)) [
    | inl inside ↦ full_room S t s proper inside full
    | inr past ↦
        all_any (λ j. j.id.task ≡ t → is_extended S t ≡ false) s.jobs
        (λ j e. ap (λ (k : Task). not (is_empty k.events)) (get_or_past S.tasks t no_task past))
  ]

  cleared_own : (masks : List ℕ) (b : Bool) → b ≡ true
      → slice_index (cond b (slice_set masks t 0) masks) t ≡ 0
  cleared_own masks true is = set_zero masks t
  cleared_own masks false is = clash (sym is)

  pub activated_jobs : (s : State) → (activated S t s).jobs ≡ s.jobs ++ made_job S t s ∷ []
  unfolding activated
  activated_jobs s = refl

  -- the masks of all others stay, and there that of an extended task is 0
  pub activated_alike : (s : State)
      → AllByRecursion (IsAlike (activated S t s).masks s.masks) s.jobs
  unfolding activated
  activated_alike s = go (is_extended S t && is_empty (jobs_of t s.jobs)) refl
    where
      go : (b : Bool) → (is_extended S t && is_empty (jobs_of t s.jobs)) ≡ b
          → AllByRecursion (IsAlike (cond b (slice_set s.masks t 0) s.masks) s.masks) s.jobs
      go false is = all_any (IsAlike s.masks s.masks) s.jobs (λ j. refl)
      go true is =
          all_weaker (λ j. (j.id.task == t) ≡ false) (IsAlike (slice_set s.masks t 0) s.masks)
          s.jobs
          (λ j other.
          set_other s.masks t j.id.task 0
          (λ same. clash (sym (ap (λ u. u == t) same ∙ self_equal t) ∙ other)))
          (none_kept (λ j. j.id.task == t) s.jobs
          (empty_short (jobs_of t s.jobs)
          (and_parts (is_extended S t) (is_empty (jobs_of t s.jobs)) is).1))

  pub activated_clear : (s : State) → HasRoom S t s.jobs → is_extended S t ≡ true
      → slice_index (activated S t s).masks t ≡ 0
  unfolding activated
  activated_clear s has extended =
      cleared_own s.masks (is_extended S t && is_empty (jobs_of t s.jobs))
      (ap (λ b. b && is_empty (jobs_of t s.jobs)) extended
      ∙ none_empty t s.jobs
      (all_weaker (λ j. j.id.task ≡ t → is_extended S t ≡ false) (λ j. (j.id.task == t) ≡ false)
      s.jobs (λ j h. other j (j.id.task == t) refl h) has))
    where
      other : (j : Job) (b : Bool) → (j.id.task == t) ≡ b
          → (j.id.task ≡ t → is_extended S t ≡ false) → b ≡ false
      other j true is h = clash (sym extended ∙ h (equal j.id.task t is))
      other j false is h = refl

-- ---- one job's task

module _ (S : System) (s : State) (single : IsSingle S s) (j : Job)
    (member : (P : Job → Type 0) → AllByRecursion P s.jobs → P j) where
  -- an extended task has that job alone
  pub no_other : is_extended S j.id.task ≡ true
      → AllByRecursion (λ k. k.id.task ≡ j.id.task → ⊥) (jobs_but j.id s.jobs)
  no_other extended =
      all_weaker
      (λ k. (k.id.task ≡ j.id.task → k ≡ j) × (not (same_id k.id j.id) ≡ true))
      (λ k. k.id.task ≡ j.id.task → ⊥) (jobs_but j.id s.jobs)
      (λ k h e.
      clash
      (sym h.1
      ∙ ap not (ap (λ (z : Job). same_id z.id j.id) (h.0 e) ∙ same_self j.id)))
      (all_filter (λ k. k.id.task ≡ j.id.task → k ≡ j) (λ k. not (same_id k.id j.id)) s.jobs
      (alone S j s.jobs member extended single.pairs))

  -- so where its mask is another, those of the others stay
  pub others_alike : is_extended S j.id.task ≡ true → (m : ℕ)
      → AllByRecursion (IsAlike (slice_set s.masks j.id.task m) s.masks) (jobs_but j.id s.jobs)
  others_alike extended m =
      all_weaker (λ k. k.id.task ≡ j.id.task → ⊥)
      (IsAlike (slice_set s.masks j.id.task m) s.masks) (jobs_but j.id s.jobs)
      (λ k other. set_other s.masks j.id.task k.id.task m other) (no_other extended)

  -- and where it ends, one more of its task may be made
  pub chained_room : (t : ℕ) → IsProper S
      → (not (is_own_task (JobCalls j) t) && is_full S s t) ≡ false
      → HasRoom S t (jobs_but j.id s.jobs)
  chained_room t proper unfull = go (j.id.task == t) refl unfull
    where
      own : (b : Bool) → is_extended S t ≡ b → j.id.task ≡ t → HasRoom S t (jobs_but j.id s.jobs)
      own false basic e =
          all_any (λ k. k.id.task ≡ t → is_extended S t ≡ false) (jobs_but j.id s.jobs)
          (λ k task. basic)
      own true extended e =
          all_weaker (λ k. k.id.task ≡ j.id.task → ⊥)
          (λ k. k.id.task ≡ t → is_extended S t ≡ false) (jobs_but j.id s.jobs)
          (λ k other task. absurd (other (task ∙ sym e)))
          (no_other (ap (is_extended S) e ∙ extended))

      go : (b : Bool) → (j.id.task == t) ≡ b → (not b && is_full S s t) ≡ false
          → HasRoom S t (jobs_but j.id s.jobs)
      go true is h = own (is_extended S t) refl (equal j.id.task t is)
      go false is h =
          all_kept (λ k. k.id.task ≡ t → is_extended S t ≡ false) (λ k. not (same_id k.id j.id))
          s.jobs (room S t s proper h)

-- ---- what is left of jobs

module _ (S : System) (p : ℕ) (c : Weights) (find : Job → Switch) where
  abbrev left_by : List ℕ → Job → ℕ
  left_by masks j = left_of_job S p c masks find j

  -- where masks of jobs stay, so does what is left of them
  pub alike_sum : (masks others : List ℕ) (jobs : List Job)
      → AllByRecursion (IsAlike masks others) jobs
      → sum_by (left_by masks) jobs ≡ sum_by (left_by others) jobs
  alike_sum masks others jobs all =
      sum_same (left_by masks) (left_by others) jobs
      (all_weaker (IsAlike masks others) (λ j. left_by masks j ≡ left_by others j) jobs
      (λ j is. ap (λ m. cond (counts S p (find j) j) (c.of_job m (find j) j) 0) is) all)

  pub alike_left : (masks others : List ℕ) (jobs : List Job)
      → AllByRecursion (IsAlike masks others) jobs
      → left_of_jobs S p c masks find jobs ≡ left_of_jobs S p c others find jobs
  alike_left masks others jobs all =
      ap (λ n. cond (list_any (λ j. counts S p (find j) j) jobs) n c.of_section)
      (alike_sum masks others jobs all)

  -- events that are set for an extended task leave no more besides than they pay
  module _ (masks : List ℕ) (t x : ℕ) (extended : is_extended S t ≡ true) where
    abbrev set_there : List ℕ
    set_there = masks_set masks t x

    abbrev Raised : Job → Type 0
    Raised j = IsRaised c find masks x j

    one_raised : (j : Job) → Raised j → (j.id.task == t) ≡ true
        → left_by set_there j ≤ left_by masks j + c.of_event t x
    one_raised j raised is = go (counts S p (find j) j) refl
      where
        same : j.id.task ≡ t
        same = equal j.id.task t is

        now : mask_of set_there j ≡ bit_or (mask_of masks j) x
        now = mask_set masks t x j same raised.inside

        go : (b : Bool) → counts S p (find j) j ≡ b
            → cond b (c.of_job (mask_of set_there j) (find j) j) 0
            ≤ cond b (c.of_job (mask_of masks j) (find j) j) 0 + c.of_event t x
        go false count = omega arith
        go true count =
            let ready =
            not-true (waits j)
            (and_parts (not (waits j))
            (is_off (find j) || nat_le p (dynamic_priority S j)) count).0 in
            let more = raised.more ready in
            let whole = ap (λ m. c.of_job m (find j) j) now in
            let paid = ap (λ u. c.of_event u x) same in
            omega (arith, more, whole, paid)

    raised_apart : (jobs : List Job) → Pairs (IsSoundPair S) jobs
        → Pairs (λ j k. (j.id.task == t) ≡ true → (k.id.task == t) ≡ false) jobs
    raised_apart jobs pairs =
        pairs_weaker (IsSoundPair S)
        (λ j k. (j.id.task == t) ≡ true → (k.id.task == t) ≡ false) jobs
        (λ j k h is. other j k h (equal j.id.task t is) (k.id.task == t) refl) pairs
      where
        other : (j k : Job) → IsSoundPair S j k → j.id.task ≡ t → (b : Bool)
            → (k.id.task == t) ≡ b → b ≡ false
        other j k h is true there =
            let same : k.id.task ≡ t = equal k.id.task t there in
            clash (sym extended ∙ sym (ap (is_extended S) same) ∙ h.basic (is ∙ sym same))
        other j k h is false there = refl

    pub raised_sum : (jobs : List Job) → Pairs (IsSoundPair S) jobs
        → AllByRecursion Raised jobs
        → sum_by (left_by set_there) jobs ≤ sum_by (left_by masks) jobs + c.of_event t x
    raised_sum jobs pairs all =
        sum_raised (left_by set_there) (left_by masks) (λ j. j.id.task == t) (c.of_event t x) jobs
        (raised_apart jobs pairs)
        (all_weaker Raised
        (λ j. ((j.id.task == t) ≡ true → left_by set_there j ≤ left_by masks j + c.of_event t x)
        × ((j.id.task == t) ≡ false → left_by set_there j ≡ left_by masks j))
        jobs (λ j h. (one_raised j h, one_stays j)) all)
      where
        one_stays : (j : Job) → (j.id.task == t) ≡ false → left_by set_there j ≡ left_by masks j
        one_stays j is =
            ap (λ m. cond (counts S p (find j) j) (c.of_job m (find j) j) 0)
            (set_other masks t j.id.task (bit_or (slice_index masks t) x)
            (λ same. clash (sym (ap (λ u. u == t) same ∙ self_equal t) ∙ is)))

    pub raised_left : (jobs : List Job) → Pairs (IsSoundPair S) jobs
        → AllByRecursion Raised jobs
        → left_of_jobs S p c set_there find jobs
        ≤ left_of_jobs S p c masks find jobs + c.of_event t x
    raised_left jobs pairs all =
        go (list_any (λ j. counts S p (find j) j) jobs) (raised_sum jobs pairs all)
      where
        go : (b : Bool)
            → sum_by (left_by set_there) jobs ≤ sum_by (left_by masks) jobs + c.of_event t x
            → cond b (sum_by (left_by set_there) jobs) c.of_section
            ≤ cond b (sum_by (left_by masks) jobs) c.of_section + c.of_event t x
        go true sums = sums
        go false sums = omega arith
