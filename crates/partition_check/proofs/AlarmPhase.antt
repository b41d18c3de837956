-- Due alarms in the system and in its upper core.
use Rattle.std.proofs.Common.{◌≡◌, ℕ, ◌<◌, ◌/◌, true, false, cond, List, [], ◌∷◌, ◌++◌, map, length, sym, ◌∙◌, ap, ap₂}
use Rattle.std.specs.Prelude.{Option, Some, None, decimal, codes, slice_index_or}
use Rattle.std.specs.List.{filter}
use Rattle.std.proofs.lemmas.List.{length-map}
use Rattle.osek_base.specs.declared.instr.Instr.{Instr}
use Rattle.osek_base.specs.declared.status.Status.{Status}
use Rattle.osek_base.specs.declared.task.Action.{Action}
use Rattle.osek_base.specs.declared.task.Counter.{Counter}
use Rattle.osek_base.specs.declared.trace_event.Source.{Source}
use Rattle.osek_base.specs.declared.trace_event.TraceEvent.{TraceEvent}
use Rattle.osek_base.specs.Lists.{below}
use Rattle.osek_base.specs.System.{System, alarm, no_alarm}
use Rattle.osek_base.specs.State.{State, Expiry}
use Rattle.osek_base.specs.Alarm.{count, expiry, is_due, is_due_at, renewed, due_alarms, alarms_advanced}
use Rattle.osek_base.specs.Tick.{action_call, error_record, status_number}
use Rattle.osek_base.specs.Text.{instruction_text, listed, mask_text}
use Rattle.osek_base.specs.Upper.{is_upper_task, is_upper_alarm, action_task}
use Rattle.osek_base.specs.Agree.{rank, upper_alarms, upper_core}
use Rattle.osek_base.specs.Proper.{IsProper, is_proper_alarm, is_proper_action}
use Rattle.partition_check.proofs.UpperState.{up}
use Rattle.partition_check.proofs.Ranks.{at_map, below_at, length_below}
use Rattle.partition_check.proofs.Renumbering.{map_ranked, filter_ranked, renumbered_kept}
use Rattle.partition_check.proofs.Falling.{all_at, map_kept}
use Rattle.partition_check.proofs.CoreFacts.{true_lt}
use Rattle.partition_check.proofs.PriorityUp.{first_tasks}
use Rattle.partition_check.proofs.Dispatch.{lines_none, lines_one, lines_hidden, hooked_one, hooked_hidden, still_upper}
use Rattle.partition_check.proofs.Shared.{IsCounterpart, IsLayered, SameLines}
use Rattle.std.proofs.lemmas.Bool.{and_parts}

-- ---- expiries

-- an expiry after the due ones have expired
abbrev pub advanced : System → State → ℕ → Option Expiry
advanced S s a = cond (is_due S s a) (renewed (expiry s a)) (expiry s a)

module _ (S : System) (p : ℕ) (both : IsCounterpart S p) (s : State) where
  expiry_up : (a : ℕ) → a < length S.alarms → is_upper_alarm S p a ≡ true
      → expiry (up S p s) (rank (is_upper_alarm S p) a) ≡ expiry s a
  expiry_up a inside high =
      at_map (expiry s) (upper_alarms S p) (rank (is_upper_alarm S p) a) a None (both.alarm_at a inside high)

  count_up : (a : ℕ) → a < length S.alarms → is_upper_alarm S p a ≡ true
      → count (upper_core S p) (up S p s) (rank (is_upper_alarm S p) a) ≡ count S s a
  count_up a inside high = ap (λ (c : Counter). s.tick / c.ticks_per_base) (both.counters a inside high)

  due_up : (a : ℕ) → a < length S.alarms → is_upper_alarm S p a ≡ true
      → is_due (upper_core S p) (up S p s) (rank (is_upper_alarm S p) a) ≡ is_due S s a
  due_up a inside high = ap₂ is_due_at (count_up a inside high) (expiry_up a inside high)

  -- the due alarms of the upper core are the upper ones by their new numbers
  pub due_alarms_up : due_alarms (upper_core S p) (up S p s) ≡ renumbered_kept (is_upper_alarm S p) (due_alarms S s)
  due_alarms_up =
      ap (λ n. filter (is_due (upper_core S p) (up S p s)) (below n)) both.alarm_count
      ∙ filter_ranked (is_due S s) (is_due (upper_core S p) (up S p s)) (is_upper_alarm S p) (length S.alarms) due_up

  advanced_up : (a : ℕ) → a < length S.alarms → is_upper_alarm S p a ≡ true
      → advanced (upper_core S p) (up S p s) (rank (is_upper_alarm S p) a) ≡ advanced S s a
  advanced_up a inside high =
      ap₂ (λ b (o : Option Expiry). cond b (renewed o) o) (due_up a inside high) (expiry_up a inside high)

  advanced_list : map (expiry (record s { alarms = alarms_advanced S s })) (upper_alarms S p) ≡ alarms_advanced (upper_core S p) (up S p s)
  advanced_list =
      map_kept (λ a. slice_index_or (alarms_advanced S s) a None) (advanced S s) (is_upper_alarm S p) (length S.alarms)
      (λ a inside. at_map (advanced S s) (below (length S.alarms)) a a None (below_at (length S.alarms) a inside))
      ∙ sym (map_ranked (advanced S s) (advanced (upper_core S p) (up S p s)) (is_upper_alarm S p) (length S.alarms) advanced_up)
      ∙ ap (λ n. map (advanced (upper_core S p) (up S p s)) (below n)) (sym both.alarm_count)

  pub alarms_advanced_up : up S p (record s { alarms = alarms_advanced S s })
      ≡ record (up S p s) { alarms = alarms_advanced (upper_core S p) (up S p s) }
  alarms_advanced_up = λ i. record (up S p s) { alarms = advanced_list i }

pub advanced_layered : (S : System) (p : ℕ) (s : State) → IsLayered S p s → IsLayered S p (record s { alarms = alarms_advanced S s })
advanced_layered S p s layered = record {
  made = layered.made;
  masks = layered.masks;
  shared = layered.shared;
  alarms = length-map (below (length S.alarms)) (advanced S s) ∙ length_below (length S.alarms);
  jobs = layered.jobs;
  running = layered.running;
  quiet = layered.quiet;
}

-- ---- the task of an alarm exists

alarm_proper : (S : System) → IsProper S → (a : ℕ) → a < length S.alarms → is_proper_alarm S (alarm S a) ≡ true
alarm_proper S proper a inside =
    all_at (is_proper_alarm S) S.alarms a no_alarm (and_parts _ _ proper.objects).1 inside

action_known : (S : System) (act : Action) → is_proper_action S act ≡ true → action_task act < length S.tasks
action_known S (Action.ActivateTask t) h = true_lt t (length S.tasks) h
action_known S (Action.SetEvent t m) h = true_lt t (length S.tasks) (and_parts _ _ (and_parts _ _ h).0).0

pub acts_on_known : (S : System) → IsProper S → (a : ℕ) → a < length S.alarms → action_task (alarm S a).action < length S.tasks
acts_on_known S proper a inside =
    action_known S (alarm S a).action (and_parts _ _ (and_parts _ _ (alarm_proper S proper a inside)).0).1

-- ---- the record of an alarm's error

abbrev pub error_line : ℕ → List ℕ → List ℕ → Status → List ℕ
error_line n alarm_is action_is status =
    decimal n ++ codes " " ++ (codes "error " ++ (codes "@" ++ alarm_is) ++ codes " " ++ action_is ++ codes " " ++ decimal (status_number status))

module _ (S : System) (p : ℕ) (both : IsCounterpart S p) where
  action_text : (act : Action) → action_task act < length S.tasks → is_upper_task S p (action_task act) ≡ true
      → instruction_text S.names (Instr.Service (action_call act)) ≡ instruction_text (upper_core S p).names (Instr.Service (action_call act))
  action_text (Action.ActivateTask t) inside high =
      ap (λ (name : List ℕ). codes "ACT" ++ codes " " ++ name ++ []) (sym (both.task_names t (first_tasks S p both t inside high)))
  action_text (Action.SetEvent t m) inside high =
      ap (λ (name : List ℕ). codes "SETE" ++ codes " " ++ name ++ listed (mask_text m ∷ [])) (sym (both.task_names t (first_tasks S p both t inside high)))

  upper_in_core : (a : ℕ) (act : Action) → a < length S.alarms → is_upper_alarm S p a ≡ true
      → (alarm S a).action ≡ act → action_task act < length S.tasks → is_upper_task S p (action_task act) ≡ true
      → is_upper_alarm (upper_core S p) p (rank (is_upper_alarm S p) a) ≡ true
  upper_in_core a act inside high is known upper =
      ap (λ (x : Action). is_upper_task (upper_core S p) p (action_task x)) (both.actions a inside high ∙ is)
      ∙ still_upper S p both (action_task act) known upper

  -- the record of an upper alarm
  error_upper : (a : ℕ) (act : Action) (status : Status) → a < length S.alarms → is_upper_alarm S p a ≡ true
      → (alarm S a).action ≡ act → action_task act < length S.tasks → is_upper_task S p (action_task act) ≡ true
      → SameLines S p (TraceEvent.Error (Source.Alarm a) (Instr.Service (action_call act)) status ∷ [])
      (TraceEvent.Error (Source.Alarm (rank (is_upper_alarm S p) a)) (Instr.Service (action_call act)) status ∷ [])
  error_upper a act status inside high is known upper =
      lines_one S p (TraceEvent.Error (Source.Alarm a) (Instr.Service (action_call act)) status)
      (TraceEvent.Error (Source.Alarm (rank (is_upper_alarm S p) a)) (Instr.Service (action_call act)) status)
      (ap (λ b. cond b (Some (TraceEvent.Error (Source.Alarm a) (Instr.Service (action_call act)) status)) None) high)
      (ap (λ b. cond b (Some (TraceEvent.Error (Source.Alarm (rank (is_upper_alarm S p) a)) (Instr.Service (action_call act)) status)) None) (upper_in_core a act inside high is known upper))
      (λ n. ap₂ (λ alarm_is action_is. error_line n alarm_is action_is status) (sym (both.alarm_names a inside high)) (action_text act known upper))

  pub error_records : (a : ℕ) (act : Action) (status : Status) → a < length S.alarms → is_upper_alarm S p a ≡ true
      → (alarm S a).action ≡ act → action_task act < length S.tasks → is_upper_task S p (action_task act) ≡ true
      → SameLines S p (error_record S (Source.Alarm a) (Instr.Service (action_call act)) status)
      (error_record (upper_core S p) (Source.Alarm (rank (is_upper_alarm S p) a)) (Instr.Service (action_call act)) status)
  error_records a act Status.Ok inside high is known upper = lines_none S p
  error_records a act status inside high is known upper =
      hooked_one S p S.hooks.error (TraceEvent.Error (Source.Alarm a) (Instr.Service (action_call act)) status)
      (TraceEvent.Error (Source.Alarm (rank (is_upper_alarm S p) a)) (Instr.Service (action_call act)) status)
      (error_upper a act status inside high is known upper)

  pub error_hidden : (a : ℕ) (what : Instr) (status : Status) → is_upper_alarm S p a ≡ false
      → SameLines S p (error_record S (Source.Alarm a) what status) []
  error_hidden a what Status.Ok low = lines_none S p
  error_hidden a what status low =
      hooked_hidden S p S.hooks.error (TraceEvent.Error (Source.Alarm a) what status)
      (lines_hidden S p (TraceEvent.Error (Source.Alarm a) what status)
      (ap (λ b. cond b (Some (TraceEvent.Error (Source.Alarm a) what status)) None) low))
