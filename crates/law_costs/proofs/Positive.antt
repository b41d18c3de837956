-- Where work stands, something is left.
use Rattle.std.proofs.Common.{ℕ, ◌≡◌, ◌<◌, ◌≤◌, Bool, true, false, cond, not, ◌&&◌, ◌||◌, nat_le, List, [], ◌∷◌, length, refl, sym, ◌∙◌, ap, subst, arith}
use Rattle.std.specs.Prelude.{IfSome, Option, Some, None, ◌==◌, slice_index}
use Rattle.std.specs.List.{AllByRecursion, filter, list_any, sum_by}
use Rattle.std.proofs.lemmas.Bool.{and_from, and_parts, le-leb, leb-true}
use Rattle.std.proofs.lemmas.List.Sums.{sum_by-cons}
use Rattle.osek_base.specs.Lists.{below, is_in}
use Rattle.osek_base.specs.Priority.{dynamic_priority, static_priority}
use Rattle.osek_base.specs.State.{Active, Job, State, waits}
use Rattle.osek_base.specs.System.{System}
use Rattle.osek_base.specs.Tick.{is_pending}
use Rattle.law_runs.proofs.Foremost.{equal, self_equal, static_le}
use Rattle.law_runs.proofs.Formed.{HasForm}
use Rattle.law_runs.proofs.Lists.{all_weaker, clash}
use Rattle.law_windows.specs.Routines.{begun}
use Rattle.law_windows.specs.Work.{goes_at, has_work, is_active_at, is_pending_at, is_work, some_pending}
use Rattle.law_windows.proofs.Before.{or_true}
use Rattle.law_windows.proofs.Working.{any_below, some_pends}
use Rattle.law_costs.specs.Left.{Weights, counts, is_off, left, left_of_active, on, switch_for, switch_of}
use Rattle.law_costs.specs.Known.{IsKnownJob, IsKnownRoutine, Known, StaysKnown}
use Rattle.law_costs.specs.Paying.{CostSomething, PayForComing}
use Rattle.law_costs.proofs.KnownTick.{HasKnown, known_jobs}
use Rattle.law_costs.proofs.Parts.{any_weaker}
use Rattle.law_costs.proofs.Totals.{part}

-- ---- lists

some_part : {X : Type 0} (q : X → Bool) (f : X → ℕ) (d : ℕ) (xs : List X)
    → AllByRecursion (λ x. q x ≡ true → 1 ≤ f x) xs → list_any q xs ≡ true
    → 1 ≤ sum_by (part q f d) xs
some_part q f d [] dear some = clash (sym some)
some_part q f d (x ∷ xs) dear some = go (q x) refl some (some_part q f d xs dear.1)
  where
    go : (b : Bool) → q x ≡ b → (b || list_any q xs) ≡ true
        → (list_any q xs ≡ true → 1 ≤ sum_by (part q f d) xs)
        → 1 ≤ sum_by (part q f d) (x ∷ xs)
    go true is some rest =
        let whole = sum_by-cons (part q f d) x xs in
        let first : part q f d x ≡ f x = ap (λ b. cond b (f x) 0) is in
        let cost = dear.0 is in
        omega (arith, whole, first, cost)
    go false is some rest =
        let whole = sum_by-cons (part q f d) x xs in
        let others = rest some in
        omega (arith, whole, others)

pub in_below : (n i : ℕ) → i < n → is_in i (below n) ≡ true
in_below n i low = any_below (λ m. m == i) n i low (self_equal i)

some_chosen : (f : ℕ → ℕ) (test : ℕ → Bool) (i : ℕ) (xs : List ℕ) → is_in i xs ≡ true
    → test i ≡ true → 1 ≤ f i → 1 ≤ sum_by f (filter test xs)
some_chosen f test i [] among is dear = clash (sym among)
some_chosen f test i (x ∷ xs) among is dear =
    go (x == i) refl among (λ later. some_chosen f test i xs later is dear)
  where
    more : (b : Bool) → 1 ≤ sum_by f (filter test xs)
        → 1 ≤ sum_by f (cond b (x ∷ filter test xs) (filter test xs))
    more true rest =
        let whole = sum_by-cons f x (filter test xs) in
        omega (arith, whole, rest)
    more false rest = rest

    go : (b : Bool) → (x == i) ≡ b → (b || is_in i xs) ≡ true
        → (is_in i xs ≡ true → 1 ≤ sum_by f (filter test xs))
        → 1 ≤ sum_by f (cond (test x) (x ∷ filter test xs) (filter test xs))
    go true here among rest =
        let same : x ≡ i = equal x i here in
        let whole = sum_by-cons f x (filter test xs) in
        let cost : f x ≡ f i = ap f same in
        subst (λ b. 1 ≤ sum_by f (cond b (x ∷ filter test xs) (filter test xs)))
        (sym (ap test same ∙ is)) (omega (arith, whole, cost, dear))
    go false here among rest = more (test x) (rest among)

-- ---- a state

module _ (S : System) (p : ℕ) (s : State) where
  -- a job of the level counts where it stands
  pub work_counts : (j : Job) → is_work S p j ≡ true → counts S p (switch_for s j) j ≡ true
  work_counts j is =
      let both = and_parts (not (waits j)) (nat_le p (static_priority S j)) is in
      let high = leb-true p (static_priority S j) both.1 in
      let own = static_le S j in
      ap (λ b. b && (is_off (switch_for s j) || nat_le p (dynamic_priority S j))) both.0
      ∙ ap (λ b. is_off (switch_for s j) || b)
      (le-leb p (dynamic_priority S j) (omega (arith, high, own)))
      ∙ or_true (is_off (switch_for s j))

module _ (S : System) (p : ℕ) (c : Weights) (known : Known) (stays : StaysKnown S known)
    (something : CostSomething S p c known) (coming : PayForComing S p c) (s : State)
    (form : HasForm S s) (here : HasKnown S known s) where
  active_left : (a : Active) → s.active ≡ Some a → 1 ≤ left S p c s
  active_left a is =
      let whole : left_of_active c (switch_of s) s.active ≡ c.of_active (switch_of s) a =
      ap (left_of_active c (switch_of s)) is in
      let cost =
      something.active (switch_of s) a
      (subst (λ o. IfSome o (IsKnownRoutine known (switch_of s))) is here.active) in
      omega (arith, whole, cost)

  pending_left : some_pending S p s ≡ true → 1 ≤ left S p c s
  pending_left some =
      let found = some_pends S p s some in
      let inside = found.is.known in
      let pay = coming.routine found.which inside found.is.goes in
      let cost = something.active on (begun found.which) (stays.started found.which inside) in
      let whole =
      some_chosen c.costs.of_arrival (is_pending_at S p s) found.which (below (length S.routines))
      (in_below (length S.routines) found.which inside)
      (and_from (is_pending s found.which) (goes_at S p found.which) found.is.pends
      found.is.goes)
      (omega (arith, pay, cost)) in
      omega (arith, whole)

  abbrev cost_of : Job → ℕ
  cost_of j = c.of_job (slice_index s.masks j.id.task) (switch_for s j) j

  jobs_left : list_any (is_work S p) s.jobs ≡ true → 1 ≤ left S p c s
  jobs_left some =
      let count : list_any (λ j. counts S p (switch_for s j) j) s.jobs ≡ true =
      any_weaker (is_work S p) (λ j. counts S p (switch_for s j) j) s.jobs (work_counts S p s)
      some in
      let sum =
      some_part (λ j. counts S p (switch_for s j) j) (λ j. cost_of j)
      c.of_section s.jobs
      (all_weaker (λ j. IsKnownJob known (switch_for s j) j)
      (λ j. counts S p (switch_for s j) j ≡ true → 1 ≤ cost_of j) s.jobs
      (λ j h is. something.job (slice_index s.masks j.id.task) (switch_for s j) j h is)
      (known_jobs S known s form here.jobs))
      count in
      let whole =
      ap
      (λ b. cond b
      (sum_by (part (λ j. counts S p (switch_for s j) j) (λ j. cost_of j)
      c.of_section) s.jobs)
      c.of_section)
      count in
      omega (arith, sum, whole)

  pub something_left : has_work S p s ≡ true → 1 ≤ left S p c s
  something_left some =
      go s.active refl (some_pending S p s) refl some
    where
      go : (o : Option Active) → s.active ≡ o → (b : Bool) → some_pending S p s ≡ b
          → (is_active_at S p o || (b || list_any (is_work S p) s.jobs)) ≡ true
          → 1 ≤ left S p c s
      go (Some a) is b pends some = active_left a is
      go None is true pends some = pending_left pends
      go None is false pends some = jobs_left some
