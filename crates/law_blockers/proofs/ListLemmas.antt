-- The lists of the stamps of all tasks, when one task is looked at.
use Rattle.std.proofs.Common.{◌≡◌, ℕ, zero, suc, ◌<◌, Bool, true, false, cond, List, [], ◌∷◌, length, length-set, refl, sym, ◌∙◌, ap, ap₂, subst, arith}
use Rattle.std.specs.Prelude.{Option, Some, None, ◌==◌}
use Rattle.std.proofs.lemmas.List.{get_or-set_same, get_or-set_other}
use Rattle.osek_base.specs.System.{System}
use Rattle.osek_base.specs.State.{JobId, State}
use Rattle.osek_base.specs.Blocker.{is_in_state}
use Rattle.law_runs.proofs.Foremost.{equal}
use Rattle.law_kept.specs.Kept.{kept}
use Rattle.law_kept.specs.Moves.{contender}
use Rattle.law_kept.proofs.JobMoves.{differ}
use Rattle.kernel_stamps.specs.Stamps.{stamp_oldest}
use Rattle.law_blockers.specs.Stamps.{Stamps, stamped, listed}
use Rattle.law_blockers.specs.Restamping.{StampLists, stamps_at, changed_list, restamped_at, is_task, preempted_by, preempted, AreListed}
use Rattle.law_blockers.proofs.WakeLemmas.{IsOneChange, listed_twice}
use Rattle.law_blockers.proofs.RestampedLemmas.{restamped_between, IsLooked, same_listed}
use Rattle.law_blockers.proofs.PreemptLemmas.{preempted_at, IsPreempted}

-- ---- one list is changed

-- that of a task that exists, or any by a change that leaves the empty list so
abbrev Keeps : (List (Option ℕ) → List (Option ℕ)) → StampLists → ℕ → Type 0
Keeps f xs t = stamps_at (changed_list t f xs) t ≡ f (stamps_at xs t)

same_any : (f : List (Option ℕ) → List (Option ℕ)) → f [] ≡ [] → (xs : StampLists) (t : ℕ) → Keeps f xs t
same_any f none [] t = sym none
same_any f none (x ∷ xs) zero = refl
same_any f none (x ∷ xs) (suc t) = same_any f none xs t

changed_by : (f : List (Option ℕ) → List (Option ℕ)) (xs : StampLists) (t v : ℕ) → Keeps f xs t
    → stamps_at (changed_list t f xs) v ≡ cond (t == v) (f (stamps_at xs v)) (stamps_at xs v)
changed_by f xs t v same = go (t == v) refl
  where
    go : (b : Bool) → (t == v) ≡ b → stamps_at (changed_list t f xs) v ≡ cond b (f (stamps_at xs v)) (stamps_at xs v)
    go true e = subst (λ x. stamps_at (changed_list t f xs) x ≡ f (stamps_at xs x)) (equal t v e) same
    go false e = get_or-set_other xs t v (f (stamps_at xs t)) [] (λ k. differ t v e (sym k))

pub changed_inside : (f : List (Option ℕ) → List (Option ℕ)) (xs : StampLists) (t v : ℕ) → t < length xs
    → stamps_at (changed_list t f xs) v ≡ cond (t == v) (f (stamps_at xs v)) (stamps_at xs v)
changed_inside f xs t v inside = changed_by f xs t v (get_or-set_same xs t (f (stamps_at xs t)) [] inside)

pub changed_any : (f : List (Option ℕ) → List (Option ℕ)) → f [] ≡ [] → (xs : StampLists) (t v : ℕ)
    → stamps_at (changed_list t f xs) v ≡ cond (t == v) (f (stamps_at xs v)) (stamps_at xs v)
changed_any f none xs t v = changed_by f xs t v (same_any f none xs t)

pub changed_count : (f : List (Option ℕ) → List (Option ℕ)) (xs : StampLists) (t : ℕ) → length (changed_list t f xs)
    ≡ length xs
changed_count f xs t = length-set xs t (f (stamps_at xs t))

-- ---- what the lists are

module _ (S : System) (s e : State) (u : ℕ) (p : Stamps) (xs : StampLists) (are : AreListed S xs p s) where
  -- one task is looked at
  pub restamped_lists : (t : ℕ) → t < length S.tasks → IsLooked S u t s e p
      → AreListed S (restamped_at u t (kept S s) (kept S e) xs) (stamped s e u p) e
  restamped_lists t inside restamped = record {
    count = changed_count (restamped_between S u t s e) xs t ∙ are.count;
    lists = λ v.
        changed_inside (restamped_between S u t s e) xs t v (let n = are.count in omega (arith, inside, n))
        ∙ ap (λ list. cond (t == v) (restamped_between S u t s e list) list) (are.lists v) ∙ sym (restamped v);
  }

  -- the running task after a reschedule
  pub preempted_lists : IsPreempted S u s e p → AreListed S (preempted u (kept S s) (kept S e) xs) (stamped s e u p) e
  preempted_lists right = record {
    count = size (contender (kept S s)) ∙ are.count;
    lists = λ v.
        at (contender (kept S s)) v
        ∙ ap (preempted_at u (contender (kept S s)) (kept S e).running v) (are.lists v) ∙ sym (right v);
  }
    where
      size : (c : Option ℕ) → length (preempted_by u c (kept S e).running xs) ≡ length xs
      size None = refl
      size (Some t) = go (is_task t (kept S e).running)
        where
          go : (b : Bool) → length (cond b xs (changed_list t (stamp_oldest u) xs)) ≡ length xs
          go true = refl
          go false = changed_count (stamp_oldest u) xs t

      at : (c : Option ℕ) (v : ℕ)
          → stamps_at (preempted_by u c (kept S e).running xs) v ≡ preempted_at u c (kept S e).running v (stamps_at xs v)
      at None v = refl
      at (Some t) v = go (is_task t (kept S e).running)
        where
          go : (b : Bool)
              → stamps_at (cond b xs (changed_list t (stamp_oldest u) xs)) v
              ≡ cond b (stamps_at xs v) (cond (t == v) (stamp_oldest u (stamps_at xs v)) (stamps_at xs v))
          go true = refl
          go false = changed_any (stamp_oldest u) refl xs t v

  -- jobs stay as they are
  pub same_lists : e.jobs ≡ s.jobs → e.running ≡ s.running → AreListed S xs (stamped s e u p) e
  same_lists jobs running = record {
    count = are.count;
    lists = λ v. are.lists v ∙ sym (same_listed S s e u 0 p jobs running v);
  }

-- two changes within half a tick
pub twice_lists : (S : System) (s m e : State) (u : ℕ) (p : Stamps) (xs : StampLists)
    → AreListed S xs (stamped m e u (stamped s m u p)) e → ((n : JobId) → is_in_state e n ≡ true → IsOneChange s m e n)
    → AreListed S xs (stamped s e u p) e
twice_lists S s m e u p xs are one = record {
  count = are.count;
  lists = λ v. are.lists v ∙ listed_twice s m e u p v one;
}

-- a state of the same jobs, of which the same runs
pub alike_lists : (S : System) (s m e : State) (u : ℕ) (p : Stamps) (xs : StampLists) → AreListed S xs (stamped s m u p) m
    → e.jobs ≡ m.jobs → e.running ≡ m.running → AreListed S xs (stamped s e u p) e
alike_lists S s m e u p xs are jobs running = record {
  count = are.count;
  lists = λ v.
      are.lists v
      ∙ ap₂ (λ js r. listed (stamped s (record m { jobs = js; running = r }) u p) v js) (sym jobs) (sym running);
}
