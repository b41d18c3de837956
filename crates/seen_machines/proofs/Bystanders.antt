-- What is seen of a task that neither executes nor ends nor is refused, and of alarms where none
-- is due.
use Rattle.std.proofs.Common.{◌≡◌, ℕ, ◌+◌, ◌-◌, ◌==◌, true, false, ◌&&◌, List, [], ◌∷◌, length, refl, sym, ◌∙◌, ap, arith, eq-eqb, eqb-true, ne_eqb, true≢false}
use Rattle.std.specs.Prelude.{Option, Some, None}
use Rattle.seen_ticks.specs.declared.task_seen.TaskSeen.{TaskSeen}
use Rattle.osek_base.specs.declared.executed.Executed.{Executed}
use Rattle.osek_base.specs.declared.ids.Owner.{Owner}
use Rattle.osek_base.specs.Lists.{same_owner}
use Rattle.osek_base.specs.System.{System}
use Rattle.law_kept.specs.Kept.{Kept}
use Rattle.law_kept.specs.KeptService.{task_state_in}
use Rattle.kernel.specs.declared.acted.Acted.{Acted}
use Rattle.seen_ticks.specs.declared.task_at.TaskAt.{TaskAt}
use Rattle.seen_ticks.specs.Observed.{activations_by, is_among, is_by, is_number, is_waiting, one_if, state_seen, task_of}
use Rattle.seen_machines.specs.declared.told.Told.{Told}
use Rattle.seen_machines.specs.Told.{NoneActed, NoneIsRefused, alarm_seen_by, bystander, executing, jobs_told, not_due, number_or_none, task_at_told, task_seen_by}

-- a task that hasn't the number of the one that executes doesn't execute
by_other : (t : ℕ) (owner : Owner) → (number_or_none (task_of owner) == t) ≡ false
    → same_owner (Owner.Task t) owner ≡ false
by_other t (Owner.Task u) h =
    ne_eqb t u (λ e. true≢false (sym (eq-eqb u t (sym e)) ∙ h))
by_other t (Owner.Routine i) h = refl

pub executes_not : (t : ℕ) (e : Option Executed) → (number_or_none (executing e) == t) ≡ false
    → is_by (Owner.Task t) e ≡ false
executes_not t None h = refl
executes_not t (Some e) h = by_other t e.owner h

empty : (xs : List ℕ) → length xs ≡ 0 → xs ≡ []
empty [] h = refl
empty (x ∷ xs) h = absurd (omega (arith, h))

pub none_acted : (acted : Acted) → (length acted.due + length acted.refused == 0) ≡ true
    → NoneActed acted
none_acted acted h =
    let sum = eqb-true (length acted.due + length acted.refused) 0 h in
    record {
      due = empty acted.due (omega (arith, sum));
      refused = empty acted.refused (omega (arith, sum));
    }

pub still_alarm : (acted : Acted) (a : ℕ) → NoneActed acted
    → not_due ≡ alarm_seen_by acted a
still_alarm acted a none =
    sym (λ i. record {
      has_expired = is_among (none.due i) a;
      is_refused = is_among (none.refused i) a;
    })

pub stands_by : (S : System) (w : Told) (o : Kept) (acted : Acted) (t : ℕ)
    → (number_or_none (executing w.execution.executed) == t) ≡ false
    → is_number t w.execution.ending ≡ false → NoneIsRefused w acted
    → bystander (task_at_told w t) (o.slots t).count (jobs_told w t) ≡ task_seen_by S w o acted t
stands_by S w o acted t executes ends none =
    let at = task_at_told w t in
    let before = jobs_told w t in
    let own : is_by (Owner.Task t) w.execution.executed ≡ false = executes_not t w.execution.executed executes in
    let made : (o.slots t).count + one_if (is_number t w.execution.ending) - before
    ≡ (o.slots t).count - before =
    ap (λ b. (o.slots t).count + one_if b - before) ends ∙ ap (λ n. n - before) (omega arith) in
    sym (λ i. record {
      state = state_seen (own i) at.state;
      priority = at.priority;
      jobs = at.jobs;
      made = made i;
      refused = one_if (is_number t (none.by_instruction i)) + activations_by S t (none.by_alarms i);
      ended = ends i;
      waits = own i && is_waiting (task_state_in o t);
    })

-- what is so seen, where each of these is known under another name
pub seen_by : (S : System) (w : Told) (o : Kept) (acted : Acted) (t : ℕ) (seen : TaskSeen)
    (at : TaskAt) (jobs before executor : ℕ) → seen ≡ bystander at jobs before
    → at ≡ task_at_told w t → jobs ≡ (o.slots t).count → before ≡ jobs_told w t
    → executor ≡ number_or_none (executing w.execution.executed) → (executor == t) ≡ false
    → is_number t w.execution.ending ≡ false → NoneIsRefused w acted
    → seen ≡ task_seen_by S w o acted t
seen_by S w o acted t seen at jobs before executor is here now was number other ends none =
    is ∙ (λ i. bystander (here i) (now i) (was i))
    ∙ stands_by S w o acted t (sym (ap (λ n. n == t) number) ∙ other) ends none
