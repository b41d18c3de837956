-- The stamps of all tasks' jobs while alarms act: as many as jobs, and what is left to act completes the whole.
use Rattle.std.proofs.Common.{◌≡◌, ℕ, ◌+◌, ◌<◌, Bool, true, false, cond, not, ◌&&◌, List, [], ◌∷◌, length, length-append, refl, sym, ◌∙◌, ap, subst, arith}
use Rattle.std.specs.Prelude.{Option, Some, None, ◌==◌, nat_lt, bit_or, slice_index}
use Rattle.std.proofs.lemmas.List.{get_or-set_same, get_or-set_other}
use Rattle.osek_base.specs.declared.task.Action.{Action}
use Rattle.osek_base.specs.declared.instr.Service.{Service}
use Rattle.osek_base.specs.declared.status.Status.{Status}
use Rattle.osek_base.specs.System.{System, alarm}
use Rattle.osek_base.specs.Service.{first_refusal, is_met}
use Rattle.osek_base.specs.Tick.{action_call}
use Rattle.law_runs.proofs.Foremost.{equal}
use Rattle.law_kept.specs.Kept.{Kept}
use Rattle.law_kept.specs.Moves.{activated_in, released_in}
use Rattle.law_kept.specs.KeptService.{ByNobody, refusals_in, reply_in, unasked_in, with_mask}
use Rattle.law_kept.specs.KeptTick.{alarm_acts_in}
use Rattle.kernel_stamps.specs.Stamps.{stamp_oldest}
use Rattle.law_blockers.specs.Restamping.{StampLists, acting_task, alarm_restamped, changed_list, restamped, restamped_at, stamps_at, task_waits}
use Rattle.kernel.specs.Stamping.{AreCounted, acts_on}

-- ---- the number of a task's jobs, and of its stamps

self_eq : (n : ℕ) → (n == n) ≡ true
self_eq n = grind arith

-- a task gets one job more, or none, and no other does
record GetsOne (t : ℕ) (o n : Kept) : Type 0 where
  pub more : Bool
  pub own : (n.slots t).count ≡ cond more ((o.slots t).count + 1) (o.slots t).count
  pub others : (v : ℕ) → (t == v) ≡ false → (n.slots v).count ≡ (o.slots v).count

none_more : (t : ℕ) (o : Kept) → GetsOne t o o
none_more t o = record { more = false; own = refl; others = λ v other. refl }

module _ (S : System) (o : Kept) where
  activated_one : (t : ℕ) → GetsOne t o (activated_in S t o)
  activated_one t = record { more = true; own = rw (self_eq t) refl; others = λ v other. rw other refl }

  set_one : (t m : ℕ) (b : Bool) → GetsOne t o (cond b (released_in S t (with_mask t m o)) (with_mask t m o))
  set_one t m true = record { more = false; own = rw (self_eq t) refl; others = λ v other. rw other refl }
  set_one t m false = record { more = false; own = refl; others = λ v other. refl }

  acts_one : (action : Action) → GetsOne (acting_task action) o (unasked_in S ByNobody o (action_call action)).state
  unfolding unasked_in
  acts_one (Action.ActivateTask t) = go (first_refusal (refusals_in S ByNobody o (Service.ActivateTask (Some t))))
    where
      go : (r : Option Status) → GetsOne t o (reply_in S ByNobody o (Service.ActivateTask (Some t)) r).state
      go None = activated_one t
      go (Some refusal) = none_more t o
  acts_one (Action.SetEvent t m) = go (first_refusal (refusals_in S ByNobody o (Service.SetEvent (Some t) m)))
    where
      go : (r : Option Status) → GetsOne t o (reply_in S ByNobody o (Service.SetEvent (Some t) m) r).state
      go None =
          set_one t (bit_or (slice_index o.masks t) m) (is_met (bit_or (slice_index o.masks t) m) (o.slots t).waits_for)
      go (Some refusal) = none_more t o

stamp_length : (u : ℕ) (list : List (Option ℕ)) → length (stamp_oldest u list) ≡ length list
stamp_length u [] = refl
stamp_length u (None ∷ later) = refl
stamp_length u (Some v ∷ later) = refl

restamped_length : (u count : ℕ) (waited waits more : Bool) (list : List (Option ℕ)) → count ≡ cond more (length list + 1) (length list)
    → length (restamped u count waited waits list) ≡ count
restamped_length u count waited waits true list is =
    let higher : nat_lt (length list) count ≡ true = grind (arith, is) in
    rw higher (length-append list (Some u ∷ []) ∙ sym is)
restamped_length u count waited waits false list is =
    let same : nat_lt (length list) count ≡ false = grind (arith, is) in
    rw same (go (waited && not waits))
  where
    go : (b : Bool) → length (cond b (stamp_oldest u list) list) ≡ count
    go true = stamp_length u list ∙ sym is
    go false = sym is

module _ (t : ℕ) (f : List (Option ℕ) → List (Option ℕ)) (xs : StampLists) where
  -- the stamps of the task, and those of another
  pub at_changed : t < length xs → stamps_at (changed_list t f xs) t ≡ f (stamps_at xs t)
  at_changed inside = get_or-set_same xs t (f (stamps_at xs t)) [] inside

  pub at_other : (v : ℕ) → (t == v) ≡ false → stamps_at (changed_list t f xs) v ≡ stamps_at xs v
  at_other v other = get_or-set_other xs t v (f (stamps_at xs t)) [] (λ same. absurd (grind (arith, other, same)))

restamped_counted : (u t : ℕ) (o n : Kept) (xs : StampLists) → GetsOne t o n → AreCounted xs o → t < length xs
    → AreCounted (restamped_at u t o n xs) n
restamped_counted u t o n xs one counted inside v = go (t == v) refl
  where
    go : (b : Bool) → (t == v) ≡ b → length (stamps_at (restamped_at u t o n xs) v) ≡ (n.slots v).count
    go true e =
        subst (λ w. length (stamps_at (restamped_at u t o n xs) w) ≡ (n.slots w).count) (equal t v e)
        (ap (λ (ys : List (Option ℕ)). length ys) (at_changed t (restamped u (n.slots t).count (task_waits o t) (task_waits n t)) xs inside)
        ∙ restamped_length u (n.slots t).count (task_waits o t) (task_waits n t) one.more (stamps_at xs t)
        (one.own ∙ ap (λ k. cond one.more (k + 1) k) (sym (counted t))))
    go false e = ap (λ (ys : List (Option ℕ)). length ys) (at_other t (restamped u (n.slots t).count (task_waits o t) (task_waits n t)) xs v e) ∙ counted v ∙ sym (one.others v e)

-- each task has as many stamps as jobs after an alarm's action too
pub acted_counted : (S : System) (u a : ℕ) (o n : Kept) (xs : StampLists) → AreCounted xs o → acts_on S a < length xs
    → n ≡ (alarm_acts_in S a o).state → AreCounted (alarm_restamped S u a o xs) n
acted_counted S u a o n xs counted inside is =
    subst (AreCounted (alarm_restamped S u a o xs)) (sym is)
    (restamped_counted u (acts_on S a) o (alarm_acts_in S a o).state xs (acts_one S o (alarm S a).action) counted inside)
