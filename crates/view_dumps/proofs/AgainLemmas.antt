-- A tick in which the same is seen as in the one before has no value to write.
use Rattle.std.proofs.Common.{◌≡◌, ℕ, suc, nat_eq, cond, Bool, true, false, List, [], ◌∷◌, ◌++◌, Option, Some, None, refl, ap, ap₂, eq-eqb}
use Rattle.seen_ticks.specs.declared.observation.Observation.{Observation}
use Rattle.seen_ticks.specs.declared.routine_seen.RoutineSeen.{RoutineSeen}
use Rattle.seen_ticks.specs.declared.task_seen.TaskSeen.{TaskSeen}
use Rattle.osek_base.specs.declared.ids.Owner.{Owner}
use Rattle.osek_base.specs.declared.status.TaskState.{TaskState}
use Rattle.osek_base.specs.Service.{state_number}
use Rattle.osek_base.specs.System.{System}
use Rattle.view_dumps.specs.Changes.{shown, written}
use Rattle.view_dumps.specs.Lines.{executor_name, holder_name, number_line, string_line, vector_line, wire_line}
use Rattle.view_dumps.specs.Ticks.{after_tick, changes_from, events_text, holder_after, holder_text, line_of, resource_at, routine_after, routine_text, same_flag, same_option, same_owner, same_state, task_after, task_text, tick_text, timed, values_after, values_text}
use Rattle.view_dumps.specs.declared.last_values.LastValues.{LastValues}
use Rattle.view_dumps.specs.declared.routine_values.RoutineValues.{RoutineValues}
use Rattle.view_dumps.specs.declared.task_values.TaskValues.{TaskValues}
use Rattle.view_dumps.specs.declared.variable.Variable.{Variable}

-- ---- each value is equal to itself

pub number_same : (n : ℕ) → nat_eq n n ≡ true
number_same n = eq-eqb n n refl

pub state_same : (s : TaskState) → same_state s s ≡ true
state_same TaskState.Running = refl
state_same TaskState.Waiting = refl
state_same TaskState.Ready = refl
state_same TaskState.Suspended = refl

pub flag_same : (b : Bool) → same_flag b b ≡ true
flag_same true = refl
flag_same false = refl

pub owner_same : (o : Owner) → same_owner o o ≡ true
owner_same (Owner.Task t) = eq-eqb t t refl
owner_same (Owner.Routine i) = eq-eqb i i refl

pub option_same : {V : Type 0} (same : V → V → Bool) → ((v : V) → same v v ≡ true) → (o : Option V) → same_option same o o ≡ true
option_same same h None = refl
option_same same h (Some v) = h v

-- ---- so what was written last isn't written again

module _ {V : Type 0} (same : V → V → Bool) (h : (v : V) → same v v ≡ true) (line : V → List ℕ) where
  stays : (l v : V) (t : Bool) → same l v ≡ t → written same (shown (Some l) (cond t None (Some v))) v ≡ None
  stays l v true e = ap (λ (b : Bool). cond b None (Some v)) e
  stays l v false e = ap (λ (b : Bool). cond b None (Some v)) (h v)

  pub written_again : (last : Option V) (v : V) → written same (shown last (written same last v)) v ≡ None
  written_again None v = ap (λ (b : Bool). cond b None (Some v)) (h v)
  written_again (Some l) v = stays l v (same l v) refl

  line_again : (last : Option V) (v : V) → line_of line (written same (shown last (written same last v)) v) ≡ []
  line_again last v = ap (line_of line) (written_again last v)

both : (a b : List ℕ) → a ≡ [] → b ≡ [] → a ++ b ≡ []
both a b p q = ap₂ (λ (x y : List ℕ). x ++ y) p q

-- ---- of no thing

task_again : (t : ℕ) (last : TaskValues) (seen : TaskSeen) → task_text t (task_after last seen) seen ≡ []
task_again t last seen =
    both _ _
    (both _ _
    (line_again same_state state_same (λ now. number_line (Variable.State t) (state_number now)) last.state seen.state)
    (line_again (same_option nat_eq) (option_same nat_eq number_same) (vector_line (Variable.Priority t)) last.priority seen.priority))
    (line_again nat_eq number_same (number_line (Variable.Jobs t)) last.jobs seen.jobs)

routine_again : (i : ℕ) (last : RoutineValues) (seen : RoutineSeen) → routine_text i (routine_after last seen) seen ≡ []
routine_again i last seen =
    both _ _ (line_again same_flag flag_same (wire_line (Variable.Pending i)) last.pending seen.is_pending)
    (line_again same_flag flag_same (wire_line (Variable.Active i)) last.active seen.executes)

holder_again : (S : System) (r : ℕ) (last : Option (Option ℕ)) (holder : Option ℕ) → holder_text S r (holder_after last holder) holder ≡ []
holder_again S r last holder =
    line_again (same_option nat_eq) (option_same nat_eq number_same) (λ who. string_line (Variable.Holder (resource_at S r)) (holder_name S.names who)) last
    holder

module _ {V T : Type 0} (text : ℕ → V → T → List ℕ) (after : V → T → V) (h : (n : ℕ) (v : V) (x : T) → text n (after v x) x ≡ []) where
  each_again : (n : ℕ) (vs : List V) (xs : List T) → changes_from text n (values_after after vs xs) xs ≡ []
  each_again n vs [] = refl
  each_again n [] (x ∷ xs) = refl
  each_again n (v ∷ vs) (x ∷ xs) = both _ _ (h n v x) (each_again (suc n) vs xs)

values_again : (S : System) (last : LastValues) (seen : Observation) → values_text S (after_tick last seen) seen ≡ []
values_again S last seen =
    both _ _
    (both _ _
    (both _ _
    (line_again (same_option same_owner) (option_same same_owner owner_same) (λ who. string_line Variable.Executor (executor_name S.names who)) last.executor
    seen.executor)
    (each_again task_text task_after task_again 0 last.tasks seen.tasks.items))
    (each_again routine_text routine_after routine_again 0 last.routines seen.routines.items))
    (each_again (holder_text S) holder_after (holder_again S) 0 last.holders seen.holders.items)

-- nor is anything told where no event fires
pub told_once : (S : System) (t : ℕ) (last : LastValues) (seen : Observation) → events_text seen ≡ [] → tick_text S true t (after_tick last seen) seen ≡ []
told_once S t last seen none = ap (timed t) (both _ _ (values_again S last seen) none)
