-- A task that no program activates: no instruction does, and none is refused for it.
use Rattle.std.proofs.Common.{ℕ, ◌≡◌, inl, inr, Bool, true, false, cond, not, List, length, refl, sym, ◌∙◌, ap}
use Rattle.std.specs.Prelude.{Option, Some, None}
use Rattle.std.specs.List.{list_all}
use Rattle.std.proofs.lemmas.Bool.{and_parts, cases_lt, not-true}
use Rattle.std.proofs.lemmas.List.{get_or_past}
use Rattle.osek_base.specs.declared.executed.Executed.{Executed}
use Rattle.osek_base.specs.declared.ids.Owner.{Owner}
use Rattle.osek_base.specs.declared.instr.Instr.{Instr}
use Rattle.osek_base.specs.declared.instr.Plain.{Plain}
use Rattle.osek_base.specs.declared.instr.Service.{Service}
use Rattle.osek_base.specs.Instruction.{Context}
use Rattle.osek_base.specs.Service.{Caller, JobCalls, NobodyCalls, RoutineCalls}
use Rattle.osek_base.specs.System.{Routine, System, Task, instruction_at, instruction_in, no_routine, no_task, routine, task}
use Rattle.osek_base.specs.Tick.{at_values}
use Rattle.osek_base.specs.Types.{ServiceCall}
use Rattle.osek_base.proofs.PlaceLemmas.{all_at}
use Rattle.law_runs.proofs.Foremost.{self_equal}
use Rattle.law_runs.proofs.Lists.{clash, none_some}
use Rattle.seen_ticks.specs.Observed.{activates, instruction, is_limit, is_number, refusing}
use Rattle.law_analysis.specs.Refusing.{is_activated_by_none, leaves_task}

-- the task that who calls activates by its instruction, if that is one that does
abbrev pub made_by : System → Caller → Option ℕ
made_by S (JobCalls j) = activates (instruction_at S (Owner.Task j.id.task) j.context.place)
made_by S (RoutineCalls r) =
    activates (instruction_at S (Owner.Routine r.routine) r.context.place)
made_by S NobodyCalls = None

-- a service with the values of its registers activates the same
pub at_same : (x : Context) (call : ServiceCall)
    → activates (Instr.Service (at_values x call)) ≡ activates (Instr.Service call)
at_same x (Service.SetRelAlarm b i j) = refl
at_same x (Service.SetAbsAlarm b i j) = refl
at_same x (Service.LoadShared r i) = refl
at_same x (Service.StoreShared r i j) = refl
at_same x _ = refl

pub other_made : (k : ℕ) (o : Option ℕ) → o ≡ Some k → is_number k o ≡ false → ⊥
other_made k o is other = clash (sym (ap (is_number k) is ∙ self_equal k) ∙ other)

-- ---- an instruction of a program

pub left_at : (k place : ℕ) (program : List Instr) → leaves_task k program ≡ true
    → is_number k (activates (instruction_in program place)) ≡ false
left_at k place program leaves = elim (cases_lt place (length program)) [
  | inl low ↦
      not-true (is_number k (activates (instruction_in program place)))
      (all_at (λ i. not (is_number k (activates i))) program place (Instr.Plain Plain.Nop) low
      leaves)
  | inr past ↦
      ap (λ i. is_number k (activates i))
      (get_or_past program place (Instr.Plain Plain.Nop) past)
]

pub task_leaves : (S : System) (k : ℕ)
    → list_all (λ (t : Task). leaves_task k t.program) S.tasks ≡ true → (t : ℕ)
    → leaves_task k (task S t).program ≡ true
task_leaves S k all t = elim (cases_lt t (length S.tasks)) [
  | inl low ↦ all_at (λ (x : Task). leaves_task k x.program) S.tasks t no_task low all
  | inr past ↦ ap (λ (x : Task). leaves_task k x.program) (get_or_past S.tasks t no_task past)
]

-- ---- no program has one

module _ (S : System) (k : ℕ) (none : is_activated_by_none S k ≡ true) where
  both : (list_all (λ (t : Task). leaves_task k t.program) S.tasks ≡ true)
      × (list_all (λ (r : Routine). leaves_task k r.program) S.routines ≡ true)
  both = and_parts _ _ none

  routine_leaves : (i : ℕ) → leaves_task k (routine S i).program ≡ true
  routine_leaves i = elim (cases_lt i (length S.routines)) [
    | inl low ↦
        all_at (λ (x : Routine). leaves_task k x.program) S.routines i no_routine low both.1
    | inr past ↦
        ap (λ (x : Routine). leaves_task k x.program) (get_or_past S.routines i no_routine past)
  ]

  activated_never : (who : Owner) (place : ℕ)
      → is_number k (activates (instruction_at S who place)) ≡ false
  activated_never (Owner.Task t) place =
      left_at k place (task S t).program (task_leaves S k both.0 t)
  activated_never (Owner.Routine i) place =
      left_at k place (routine S i).program (routine_leaves i)

  -- nobody activates it
  pub none_made : (c : Caller) → made_by S c ≡ Some k → ⊥
  none_made (JobCalls j) is =
      other_made k _ is (activated_never (Owner.Task j.id.task) j.context.place)
  none_made (RoutineCalls r) is =
      other_made k _ is (activated_never (Owner.Routine r.routine) r.context.place)
  none_made NobodyCalls is = absurd (none_some k is)

  -- and in no tick is the instruction refused for it
  pub none_refusing : (o : Option Executed) → is_number k (refusing S o) ≡ false
  none_refusing None = refl
  none_refusing (Some e) = go (is_limit e.outcome)
    where
      go : (b : Bool) → is_number k (cond b (activates (instruction S e)) None) ≡ false
      go true = activated_never e.owner e.place
      go false = refl
