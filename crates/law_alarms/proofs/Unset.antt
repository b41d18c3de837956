-- An alarm that no program has an instruction to set is set by no call.
use Rattle.std.proofs.Common.{ℕ, ◌≡◌, inl, inr, true, false, not, List, length, ap, subst}
use Rattle.std.specs.Prelude.{Some}
use Rattle.std.specs.List.{list_all}
use Rattle.std.proofs.lemmas.Bool.{and_parts, cases_lt, eqb-false, not-true}
use Rattle.std.proofs.lemmas.List.{get_or_past}
use Rattle.osek_base.specs.declared.ids.Owner.{Owner}
use Rattle.osek_base.specs.declared.instr.Instr.{Instr}
use Rattle.osek_base.specs.declared.instr.Plain.{Plain}
use Rattle.osek_base.specs.declared.instr.Service.{Service}
use Rattle.osek_base.specs.declared.task.Counter.{Counter}
use Rattle.osek_base.specs.Instruction.{Context}
use Rattle.osek_base.specs.Service.{Caller, JobCalls, RoutineCalls, NobodyCalls}
use Rattle.osek_base.specs.State.{Expiry}
use Rattle.osek_base.specs.System.{Routine, System, Task, instruction_at, instruction_in, no_routine, no_task, routine, task}
use Rattle.osek_base.specs.Tick.{at_values}
use Rattle.osek_base.specs.Types.{ServiceCall}
use Rattle.osek_base.proofs.PlaceLemmas.{all_at}
use Rattle.law_runs.proofs.Lists.{none_some, some_inside}
use Rattle.law_alarms.specs.Setting.{IsNoSooner, call_by, call_in, is_never_set, leaves_alarm, sets_alarm}
use Rattle.law_alarms.proofs.Ticked.{SetsTo}

-- a call doesn't set the alarm
abbrev pub IsOther : ℕ → ServiceCall → Type 0
IsOther a (Service.SetRelAlarm (Some b) x y) = b ≡ a → ⊥
IsOther a (Service.SetAbsAlarm (Some b) x y) = b ≡ a → ⊥
IsOther a call = Unit {0}

pub other_later : (a least : ℕ) (call : ServiceCall) → IsOther a call → IsNoSooner a least call
other_later a least (Service.SetRelAlarm (Some b) x y) other = λ same. absurd (other same)
other_later a least (Service.SetAbsAlarm (Some b) x y) other = λ same. absurd (other same)
other_later a least _ other = tt

pub other_sets : (c : Counter) (a n : ℕ) (call : ServiceCall) (e : Expiry) → IsOther a call
    → SetsTo c n a call e → ⊥
other_sets c a n (Service.SetRelAlarm (Some b) x y) e other sets = other sets.0
other_sets c a n (Service.SetAbsAlarm (Some b) x y) e other sets = other sets.0
other_sets c a n _ e other sets = sets

-- ---- programs

left_at : (a place : ℕ) (program : List Instr) → leaves_alarm a program ≡ true
    → sets_alarm a (instruction_in program place) ≡ false
left_at a place program leaves = elim (cases_lt place (length program)) [
  | inl low ↦
      not-true (sets_alarm a (instruction_in program place))
      (all_at (λ i. not (sets_alarm a i)) program place (Instr.Plain Plain.Nop) low leaves)
  | inr past ↦ ap (sets_alarm a) (get_or_past program place (Instr.Plain Plain.Nop) past)
]

module _ (S : System) (a : ℕ) (never : is_never_set S a ≡ true) where
  both : (list_all (λ (t : Task). leaves_alarm a t.program) S.tasks ≡ true)
      × (list_all (λ (r : Routine). leaves_alarm a r.program) S.routines ≡ true)
  both = and_parts _ _ never

  task_leaves : (t : ℕ) → leaves_alarm a (task S t).program ≡ true
  task_leaves t = elim (cases_lt t (length S.tasks)) [
    | inl low ↦ all_at (λ (k : Task). leaves_alarm a k.program) S.tasks t no_task low both.0
    | inr past ↦ ap (λ (k : Task). leaves_alarm a k.program) (get_or_past S.tasks t no_task past)
  ]

  routine_leaves : (i : ℕ) → leaves_alarm a (routine S i).program ≡ true
  routine_leaves i = elim (cases_lt i (length S.routines)) [
    | inl low ↦
        all_at (λ (k : Routine). leaves_alarm a k.program) S.routines i no_routine low both.1
    | inr past ↦
        ap (λ (k : Routine). leaves_alarm a k.program) (get_or_past S.routines i no_routine past)
  ]

  never_at : (who : Owner) (place : ℕ) → sets_alarm a (instruction_at S who place) ≡ false
  never_at (Owner.Task t) place = left_at a place (task S t).program (task_leaves t)
  never_at (Owner.Routine i) place = left_at a place (routine S i).program (routine_leaves i)

  -- ---- calls

  other_values : (x : Context) (call : ServiceCall) → sets_alarm a (Instr.Service call) ≡ false
      → IsOther a (at_values x call)
  other_values x (Service.SetRelAlarm (Some b) i j) h = eqb-false b a h
  other_values x (Service.SetAbsAlarm (Some b) i j) h = eqb-false b a h
  other_values x _ h = tt

  other_in : (x : Context) (what : Instr) (call : ServiceCall) → sets_alarm a what ≡ false
      → call_in x what ≡ Some call → IsOther a call
  other_in x (Instr.Service c) call h is =
      subst (IsOther a) (some_inside _ call is) (other_values x c h)
  other_in x (Instr.Plain p) call h is = absurd (none_some call is)
  other_in x (Instr.Control c) call h is = absurd (none_some call is)

  pub never_called : (c : Caller) (call : ServiceCall) → call_by S c ≡ Some call → IsOther a call
  never_called (JobCalls j) call is =
      other_in j.context (instruction_at S (Owner.Task j.id.task) j.context.place) call
      (never_at (Owner.Task j.id.task) j.context.place) is
  never_called (RoutineCalls r) call is =
      other_in r.context (instruction_at S (Owner.Routine r.routine) r.context.place) call
      (never_at (Owner.Routine r.routine) r.context.place) is
  never_called NobodyCalls call is = absurd (none_some call is)
