-- Bounds of a proper system, and of what fits one.
use Rattle.std.proofs.Common.{◌≡◌, ℕ, zero, suc, ◌-◌, ◌<◌, ◌≤◌, inl, inr, Bool, true, false, not, ◌&&◌, cond, List, [], ◌∷◌, map, length, refl, sym, ◌∙◌, ap, arith}
use Rattle.std.specs.Prelude.{Option, Some, None, IfSome, is_some, ◌==◌}
use Rattle.std.specs.List.{AllByRecursion}
use Rattle.std.proofs.lemmas.Bool.{cases_lt, leb-true}
use Rattle.osek_base.specs.declared.limits.TheConstants.{MAX_TASK_PRIORITY, MAX_ACTIVATION}
use Rattle.ready_queues.specs.declared.ready_queues.TheConstants.{LEVELS}
use Rattle.osek_base.specs.Lists.{greatest, is_empty}
use Rattle.osek_base.specs.System.{System, Task, task, priority_of, activation_of}
use Rattle.osek_base.specs.Ceiling.{top_priority}
use Rattle.osek_base.specs.Proper.{IsProper, are_falling}
use Rattle.osek_base.proofs.PlaceLemmas.{and_split}
use Rattle.law_runs.proofs.Known.{proper_at}
use Rattle.ready_queues.specs.Queues.{total, with_level}
use Rattle.law_kept.specs.Kept.{Kept, unbegun}
use Rattle.ready_queues.specs.QueueMoves.{highest, put_oldest, first, rest, without_first_at_level}
use Rattle.ready_queues.proofs.MoveLemmas.{with_level-changed_at}
use Rattle.ready_queues.proofs.Writes.{total_below-with_level}
use Rattle.law_kept.specs.Moves.{contender, contender_of}
use Rattle.law_kept.specs.KeptService.{KeptCaller, ByTask, ByRoutine, ByNobody, caller_in, caller_by, is_own_in, is_full_in, caller_ended_in}
use Rattle.law_kept.specs.Standing.{Fits, room_for}
use Rattle.law_kept.proofs.Rescheduled.{at_most}
use Rattle.law_kept.proofs.Choose.{highest_has}
use Rattle.services.specs.Objects.{HasBounds}
use Rattle.services.specs.Dispatched.{IsHighest}

-- ---- a proper system

falling_low : (limit : ℕ) (tasks : List Task) → are_falling limit tasks ≡ true → greatest (map (λ a. a.priority) tasks) ≤ limit
falling_low limit [] h = omega arith
falling_low limit (a ∷ rest) h =
    let both = and_split _ _ h in
    let ih = falling_low a.priority rest both.1 in
    let low = leb-true a.priority limit both.0 in
    omega (arith, ih, low)

top_low : (S : System) → IsProper S → top_priority S < LEVELS
top_low S proper =
    let low = falling_low MAX_TASK_PRIORITY S.tasks (and_split _ _ (and_split _ _ (and_split _ _ (and_split _ _ (and_split _ _ proper.objects).0).0).0).0).0 in
    omega (arith, low)

pub activation_few : (S : System) → IsProper S → (t : ℕ) → t < length S.tasks → activation_of S t ≤ MAX_ACTIVATION
activation_few S proper t inside =
    let here = and_split _ _ (and_split _ _ (and_split _ _ (and_split _ _ (proper_at S t proper inside)).0).0).0 in
    leb-true (activation_of S t) MAX_ACTIVATION (and_split _ _ (and_split _ _ here.0).0).1

activation_low : (S : System) → IsProper S → (t : ℕ) → t < length S.tasks → activation_of S t < 255
activation_low S proper t inside = few (activation_of S t) (activation_few S proper t inside)
  where
    few : (n : ℕ) → n ≤ MAX_ACTIVATION → n < 255
    few n low = omega (arith, low)

pub bounds_of : (S : System) → IsProper S → HasBounds S
bounds_of S proper = record { top = top_low S proper; activation = activation_low S proper }

pub priority_low : (S : System) (t : ℕ) → HasBounds S → priority_of S t < LEVELS
priority_low S t bounds = let a = at_most S S.tasks t in let b = bounds.top in omega (arith, a, b)

-- ---- what fits

module _ (S : System) (o : Kept) (fits : Fits S o) where
  -- where a task other than the caller's isn't full, or the caller's own, there is room for a new job
  pub chain_room : (t : ℕ) → t < length S.tasks → (not (is_own_in (caller_in o) t) && is_full_in S o t) ≡ false → total o.queues < room_for S
  chain_room t inside h = go (is_some o.active) o.running refl o.gone refl h
    where
      other : is_full_in S o t ≡ false → total o.queues < room_for S
      other e = fits.added t inside e

      own : (u : ℕ) → o.running ≡ Some u → o.gone ≡ false → (b : Bool) → (not b && is_full_in S o t) ≡ false → total o.queues < room_for S
      own u runs stands true k = fits.beside stands (ap is_some runs)
      own u runs stands false k = other k

      go : (a : Bool) (r : Option ℕ) → o.running ≡ r → (g : Bool) → o.gone ≡ g
          → (not (is_own_in (caller_by a r g) t) && is_full_in S o t) ≡ false → total o.queues < room_for S
      go true r er g eg k = other k
      go false None er g eg k = other k
      go false (Some u) er true eg k = other k
      go false (Some u) er false eg k = own u er eg (u == t) k

  -- a contender stands in no queue
  pub contender_room : (t : ℕ) → contender o ≡ Some t → total o.queues < room_for S
  contender_room t h = go o.running refl o.gone refl h
    where
      go : (r : Option ℕ) → o.running ≡ r → (g : Bool) → o.gone ≡ g → contender_of r g o.slots ≡ Some t → total o.queues < room_for S
      go None er g eg k = absurd (grind arith)
      go (Some u) er true eg k = absurd (grind arith)
      go (Some u) er false eg k = fits.beside eg (ap is_some er)

  ready_known : (t : ℕ) (waits : Bool) → t < length S.tasks → IfSome (cond waits None (Some t)) (λ u. u < length S.tasks)
  ready_known t true inside = tt
  ready_known t false inside = inside

  -- a contender is a task of the system
  pub contender_known : IfSome (contender o) (λ t. t < length S.tasks)
  contender_known = go o.running o.gone fits.running
    where
      go : (r : Option ℕ) (g : Bool) → IfSome r (λ t. t < length S.tasks) → IfSome (contender_of r g o.slots) (λ t. t < length S.tasks)
      go None g inside = tt
      go (Some u) true inside = tt
      go (Some u) false inside = ready_known u (is_some (o.slots u).waits_for) inside

pub ended_queues : (d : KeptCaller) (o : Kept) → (caller_ended_in d o).queues ≡ o.queues
ended_queues (ByTask t) o = refl
ended_queues ByRoutine o = refl
ended_queues ByNobody o = refl

pub ended_count : (d : KeptCaller) (o : Kept) (t : ℕ) → ((caller_ended_in d o).slots t).count ≤ (o.slots t).count
ended_count (ByTask u) o t = go (u == t) refl
  where
    at : (u == t) ≡ true → u ≡ t
    at e = grind (arith, e)

    go : (b : Bool) → (u == t) ≡ b → (cond b (unbegun ((o.slots u).count - 1)) (o.slots t)).count ≤ (o.slots t).count
    go true e = let same : (o.slots u).count ≡ (o.slots t).count = ap (λ v. (o.slots v).count) (at e) in omega (arith, same)
    go false e = omega arith
ended_count ByRoutine o t = omega arith
ended_count ByNobody o t = omega arith

-- ---- the highest level

first_known : (P : ℕ → Type 0) (ts : List ℕ) → AllByRecursion P ts → 0 < length ts → P (first ts)
first_known P [] all some = absurd (omega arith)
first_known P (t ∷ ts) all some = all.0

above_none : (n : ℕ) (q : ℕ → List ℕ) (l : ℕ) → highest n q ≡ Some l → (k : ℕ) → l < k → k < n → q k ≡ []
unfolding highest
above_none zero q l h k above within = absurd (omega arith)
above_none (suc n) q l h k above within = go (q n) refl h (λ e low. above_none n q l e k above low)
  where
    go : (ts : List ℕ) → q n ≡ ts → cond (is_empty ts) (highest n q) (Some n) ≡ Some l → (highest n q ≡ Some l → k < n → q k ≡ []) → q k ≡ []
    go (t ∷ ts) e found rest = absurd (let same : n ≡ l = grind arith in omega (arith, same))
    go [] e found rest = elim (cases_lt k n) [
      | inl low ↦ rest found low
      | inr high ↦ ap q (let same : k ≡ n = omega arith in same) ∙ e
    ]

pub highest_of : (S : System) (o : Kept) (l : ℕ) → Fits S o → highest (suc (top_priority S)) o.queues ≡ Some l → IsHighest S o.queues l
highest_of S o l fits h =
    let has = highest_has (suc (top_priority S)) o.queues l h in
    record {
      low = omega (arith, has.0);
      some = has.1;
      none = λ k above. elim (cases_lt k (suc (top_priority S))) [
        | inl within ↦ above_none (suc (top_priority S)) o.queues l h k above within
        | inr high ↦ fits.high k (omega (arith, high))
      ];
      known = first_known (λ t. t < length S.tasks) (o.queues l) (fits.known l) has.1;
    }

-- a lower level got a task
pub put_below : (q : ℕ → List ℕ) (own task level : ℕ) → own < level → put_oldest q own task level ≡ q level
put_below q own task level less = let e : (own == level) ≡ false = grind arith in rw e refl

rest_fewer : (ts : List ℕ) → length (rest ts) ≤ length ts
rest_fewer [] = omega arith
rest_fewer (t ∷ ts) = omega arith

-- where the first task of a level is taken, there are no more in all
pub take_frees : (q : ℕ → List ℕ) (level : ℕ) → level < LEVELS → total (without_first_at_level q level) ≤ total q
take_frees q level low =
    let same : total (with_level level (rest (q level)) q) ≡ total (without_first_at_level q level) =
    ap total (with_level-changed_at level (rest (q level)) q) in
    let more = total_below-with_level LEVELS level (rest (q level)) q low in
    let fewer = rest_fewer (q level) in
    omega (arith, same, more, fewer)

-- a task that goes to the front of a lower level is put there before or behind that
pub put_behind_take : (q : ℕ → List ℕ) (own task level : ℕ) → own < level
    → put_oldest (without_first_at_level q level) own task ≡ without_first_at_level (put_oldest q own task) level
put_behind_take q own task level less = λ i m. at m i
  where
    apart : (level == own) ≡ false
    apart = grind arith

    other : (own == level) ≡ false
    other = grind arith

    not_both : (m : ℕ) → (own == m) ≡ true → (level == m) ≡ true → ⊥
    not_both m a b = grind arith

    either : (a b : Bool) (x y z : List ℕ) → (a ≡ true → b ≡ true → ⊥) → cond a x (cond b y z) ≡ cond b y (cond a x z)
    either true true x y z none = absurd (none refl refl)
    either true false x y z none = refl
    either false b x y z none = refl

    at : (m : ℕ) → put_oldest (without_first_at_level q level) own task m ≡ without_first_at_level (put_oldest q own task) level m
    at m =
        ap (λ b. cond (own == m) (task ∷ cond b (rest (q level)) (q own)) (cond (level == m) (rest (q level)) (q m))) apart
        ∙ either (own == m) (level == m) (task ∷ q own) (rest (q level)) (q m) (not_both m)
        ∙ ap (λ b. cond (level == m) (rest (cond b (task ∷ q own) (q level))) (cond (own == m) (task ∷ q own) (q m))) (sym other)
