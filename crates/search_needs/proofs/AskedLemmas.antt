-- From programs to all that they ask for.
use Rattle.std.proofs.Common.{ℕ, ◌≡◌, ◌<◌, ◌≤◌, ◌⊎◌, inl, inr, Bool, IsTrue, [], length, slice_get, refl, sym, ◌∙◌, ap, subst}
use Rattle.std.specs.Prelude.{Option, Some, None, nat_lt}
use Rattle.std.specs.Option.{option_map}
use Rattle.std.proofs.lemmas.Bool.{and_parts, cases_lt, lt-ltb, ltb-true}
use Rattle.std.proofs.lemmas.Option.{get_or_from_slice_get, none-some, same_Some, slice_get_within}
use Rattle.osek_base.specs.declared.ids.Owner.{Owner}
use Rattle.osek_base.specs.declared.instr.Plain.{Plain}
use Rattle.osek_base.specs.declared.instr.Service.{Service}
use Rattle.osek_base.specs.declared.instr.Instr.{Instr}
use Rattle.osek_base.specs.Types.{ServiceCall}
use Rattle.osek_base.specs.System.{System, Task, Routine, Alarm, no_task, no_routine, no_alarm, program, instruction_in, instruction_at}
use Rattle.osek_base.specs.Proper.{IsProper, is_proper_alarm}
use Rattle.osek_base.proofs.PlaceLemmas.{all_at}
use Rattle.law_future.specs.Need.{HaveAsked, asked_by, asked_by_service}
use Rattle.search_needs.specs.Asked.{Asks, ProgramAsks, TasksAsk, RoutinesAsk}
use Rattle.search_needs.proofs.EntryLemmas.{past_end}

-- ---- from programs

module _ (S : System) (counters : ℕ → Bool) where
  -- beyond its end a program asks for nothing
  at_place : (who : Owner) (place : ℕ) → ProgramAsks S counters who → Asks S counters (instruction_at S who place)
  at_place who place asks = go (cases_lt place (length (program S who)))
    where
      go : (place < length (program S who)) ⊎ (length (program S who) ≤ place) → Asks S counters (instruction_at S who place)
      go (inl low) = asks place low
      go (inr past) =
          subst (Asks S counters) (sym (past_end (program S who) place (Instr.Plain Plain.Nop) past))
          (λ c is. absurd (none-some c is))

  -- nor is there a program beyond the tasks and routines
  none_there : (who : Owner) (place : ℕ) → program S who ≡ [] → Asks S counters (instruction_at S who place)
  none_there who place none =
      subst (λ code. Asks S counters (instruction_in code place)) (sym none) (λ c is. absurd (none-some c is))

  pub from_programs : TasksAsk S counters (length S.tasks) → RoutinesAsk S counters (length S.routines) → HaveAsked S counters
  from_programs tasks routines (Owner.Task t) place = elim (cases_lt t (length S.tasks)) [
    | inl low ↦ at_place (Owner.Task t) place (tasks t low)
    | inr past ↦ none_there (Owner.Task t) place (ap (λ (a : Task). a.program) (past_end S.tasks t no_task past))
  ]
  from_programs tasks routines (Owner.Routine i) place = elim (cases_lt i (length S.routines)) [
    | inl low ↦ at_place (Owner.Routine i) place (routines i low)
    | inr past ↦ none_there (Owner.Routine i) place (ap (λ (a : Routine). a.program) (past_end S.routines i no_routine past))
  ]

-- ---- all counters

-- the counter of each alarm of a proper system is declared
declared : (S : System) (a : ℕ) (x : Alarm) → IsProper S → slice_get S.alarms a ≡ Some x → x.counter < length S.counters
declared S a x proper is =
    let low = slice_get_within S.alarms a x is in
    let here = all_at (is_proper_alarm S) S.alarms a no_alarm low (and_parts _ _ proper.objects).1 in
    subst (λ (y : Alarm). y.counter < length S.counters) (get_or_from_slice_get S.alarms a x no_alarm is)
    (ltb-true _ _ (and_parts _ _ (and_parts _ _ here).0).0)

of_alarm : (S : System) (a c : ℕ) (o : Option Alarm) → IsProper S → slice_get S.alarms a ≡ o
    → option_map (λ (x : Alarm). x.counter) o ≡ Some c → c < length S.counters
of_alarm S a c None proper is asked = absurd (none-some c asked)
of_alarm S a c (Some x) proper is asked = subst (λ k. k < length S.counters) (same_Some x.counter c asked) (declared S a x proper is)

of_service : (S : System) (call : ServiceCall) (c : ℕ) → IsProper S → asked_by_service S call ≡ Some c → c < length S.counters
of_service S (Service.SetAbsAlarm (Some a) start cycle) c proper asked = of_alarm S a c (slice_get S.alarms a) proper refl asked
of_service S (Service.SetAbsAlarm None start cycle) c proper asked = absurd (none-some c asked)
of_service S call c proper asked = absurd (none-some c asked)

of_instruction : (S : System) (what : Instr) (c : ℕ) → IsProper S → asked_by S what ≡ Some c → c < length S.counters
of_instruction S (Instr.Service call) c proper asked = of_service S call c proper asked
of_instruction S (Instr.Plain p) c proper asked = absurd (none-some c asked)
of_instruction S (Instr.Control control) c proper asked = absurd (none-some c asked)

pub all_asked : (S : System) (counters : ℕ → Bool) → IsProper S → ((c : ℕ) → counters c ≡ nat_lt c (length S.counters))
    → HaveAsked S counters
all_asked S counters proper all who place c asked =
    all c ∙ lt-ltb c (length S.counters) (of_instruction S (instruction_at S who place) c proper asked)
