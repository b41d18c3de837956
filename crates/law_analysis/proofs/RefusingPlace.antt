-- A routine whose program comes to a place once: behind each instruction it has gone on, towards
-- that place or behind it; and only there may it activate the task.
use Rattle.std.proofs.Common.{ℕ, ◌≡◌, ◌<◌, ◌+◌, inl, inr, Bool, true, false, cond, not, ◌&&◌, ◌||◌, List, [], length, refl, sym, ◌∙◌, ap, subst, arith}
use Rattle.std.specs.Prelude.{Option, Some, None, IfSome, ◌==◌, nat_lt, min}
use Rattle.std.specs.Option.{option_map}
use Rattle.std.proofs.lemmas.Bool.{and_parts, cases_lt, not-true}
use Rattle.std.proofs.lemmas.List.{get_or_past}
use Rattle.osek_base.specs.declared.ids.Owner.{Owner}
use Rattle.osek_base.specs.declared.instr.Control.{Control}
use Rattle.osek_base.specs.declared.instr.Instr.{Instr}
use Rattle.osek_base.specs.declared.instr.Plain.{Plain}
use Rattle.osek_base.specs.declared.status.Status.{Status}
use Rattle.osek_base.specs.declared.trace_event.Results.{Results}
use Rattle.osek_base.specs.Instruction.{Context, holds, next, plain, value}
use Rattle.osek_base.specs.Lists.{below}
use Rattle.osek_base.specs.Reschedule.{reschedule}
use Rattle.osek_base.specs.Service.{Caller, JobCalls, NobodyCalls, RoutineCalls, service}
use Rattle.osek_base.specs.State.{Active, Job, JobId, State, job_of}
use Rattle.osek_base.specs.System.{Routine, System, instruction_at, instruction_in, no_routine, routine, task}
use Rattle.osek_base.specs.Tick.{answered, at_values, before_execution, caller_executes, caller_of, execute_phase, executed, job_caller, moved, running_caller, tick}
use Rattle.osek_base.specs.Types.{PlainInstr}
use Rattle.law_runs.proofs.FormedTick.{active_service}
use Rattle.law_runs.proofs.Foremost.{equal}
use Rattle.law_runs.proofs.Lists.{cond_both, none_some}
use Rattle.seen_ticks.specs.Observed.{activates, is_number}
use Rattle.law_windows.proofs.Working.{each_below}
use Rattle.law_analysis.specs.RefusingByRoutine.{is_activated_at, is_once, leads_on}
use Rattle.law_analysis.specs.Refusing.{leaves_task}
use Rattle.law_analysis.proofs.RefusingAlarms.{all_tested}
use Rattle.law_analysis.proofs.RefusingPrograms.{left_at, made_by, other_made, task_leaves}
use Rattle.law_windows.proofs.Before.{active_reschedule}

-- ---- programs

-- routine i at the place
abbrev pub IsAtPlace : ℕ → ℕ → Caller → Type 0
IsAtPlace i place (JobCalls j) = ⊥
IsAtPlace i place (RoutineCalls a) = (a.routine ≡ i) × (a.context.place ≡ place)
IsAtPlace i place NobodyCalls = ⊥

module _ (S : System) (i place k : ℕ) (once : is_activated_at S i place k ≡ true) where
  others : (r : ℕ) → r < length S.routines → (r == i || leaves_task k (routine S r).program) ≡ true
  others r low =
      each_below (λ r. (r == i || leaves_task k (routine S r).program) ≡ true)
      (length S.routines) r
      (all_tested (λ r. r == i || leaves_task k (routine S r).program) (below (length S.routines))
      (and_parts _ _ (and_parts _ _ once).0).1) low

  other_leaves : (r : ℕ) → (r == i) ≡ false → leaves_task k (routine S r).program ≡ true
  other_leaves r other = elim (cases_lt r (length S.routines)) [
    | inl low ↦
        sym (ap (λ b. b || leaves_task k (routine S r).program) other) ∙ others r low
    | inr past ↦
        ap (λ (x : Routine). leaves_task k x.program) (get_or_past S.routines r no_routine past)
  ]

  abbrev program_of : List Instr
  program_of = (routine S i).program

  own_once : (q : ℕ) → is_once k place q (instruction_in program_of q) ≡ true
  own_once q = elim (cases_lt q (length program_of)) [
    | inl low ↦
        each_below (λ q. is_once k place q (instruction_in program_of q) ≡ true)
        (length program_of) q
        (all_tested (λ q. is_once k place q (instruction_in program_of q))
        (below (length program_of)) (and_parts _ _ once).1) low
    | inr past ↦
        ap (is_once k place q) (get_or_past program_of q (Instr.Plain Plain.Nop) past)
        ∙ nothing (q == place)
  ]
    where
      nothing : (b : Bool) → ((b || true) && true) ≡ true
      nothing true = refl
      nothing false = refl

  own_leads : (r q : ℕ) → r ≡ i
      → leads_on place q (instruction_at S (Owner.Routine r) q) ≡ true
  own_leads r q of =
      subst (λ (r : ℕ). leads_on place q (instruction_at S (Owner.Routine r) q) ≡ true) (sym of)
      (and_parts _ _ (own_once q)).1

  -- who activates the task is the routine at that place
  pub by_place : (c : Caller) → made_by S c ≡ Some k → IsAtPlace i place c
  by_place (JobCalls j) is =
      absurd
      (other_made k _ is
      (left_at k j.context.place (task S j.id.task).program
      (task_leaves S k (and_parts _ _ (and_parts _ _ once).0).0 j.id.task)))
  by_place (RoutineCalls a) is = go (a.routine == i) refl
    where
      there : a.routine ≡ i → (b : Bool) → (a.context.place == place) ≡ b
          → a.context.place ≡ place
      there of true same = equal a.context.place place same
      there of false other =
          absurd
          (other_made k (activates (instruction_in program_of a.context.place))
          (subst
          (λ (r : ℕ). activates (instruction_at S (Owner.Routine r) a.context.place) ≡ Some k)
          of is)
          (not-true (is_number k (activates (instruction_in program_of a.context.place)))
          (sym
          (ap (λ b. b || not (is_number k (activates (instruction_in program_of a.context.place))))
          other)
          ∙ (and_parts _ _ (own_once a.context.place)).0)))

      go : (b : Bool) → (a.routine == i) ≡ b → (a.routine ≡ i) × (a.context.place ≡ place)
      go true same =
          let of = equal a.routine i same in
          (of, there of (a.context.place == place) refl)
      go false other =
          absurd
          (other_made k _ is
          (left_at k a.context.place (routine S a.routine).program
          (other_leaves a.routine other)))
  by_place NobodyCalls is = absurd (none_some k is)

  -- ---- behind an instruction

  -- who is active is who was, further on
  abbrev pub CameOn : Option Active → Active → Type 0
  CameOn None b = ⊥
  CameOn (Some a) b =
      (b.routine ≡ a.routine)
      × (a.routine ≡ i → min a.context.place place < b.context.place)

  abbrev pub IsOn : Option Active → Option Active → Type 0
  IsOn o behind = IfSome behind (CameOn o)

  by_next : (q : ℕ) → min q place < q + 1
  by_next q = omega arith

  by_jump : (b : Bool) (to q : ℕ) → nat_lt (min q place) to ≡ true
      → min q place < cond b to (q + 1)
  by_jump true to q on = grind (arith, on)
  by_jump false to q on = by_next q

  plain_on : (p : PlainInstr) (x : Context) (words : ℕ → ℕ)
      → leads_on place x.place (Instr.Plain p) ≡ true
      → min x.place place < (plain p x words).context.place
  plain_on Plain.Nop x words on = by_next x.place
  plain_on (Plain.Li d n) x words on = by_next x.place
  plain_on (Plain.Mov d a) x words on = by_next x.place
  plain_on (Plain.Compute operation d a b) x words on = by_next x.place
  plain_on (Plain.Ld d a) x words on = by_next x.place
  plain_on (Plain.St a b) x words on = by_next x.place
  plain_on (Plain.Jmp to) x words on = by_jump true to x.place on
  plain_on (Plain.JumpIf test a b to) x words on =
      by_jump (holds test (value x a) (value x b)) to x.place on

  answered_on : (e : Status) (found : Results) (x : Context)
      → min x.place place < (answered e found x).place
  answered_on e Results.Nothing x = by_next x.place
  answered_on e (Results.One a) x = by_next x.place
  answered_on e (Results.Three a b c) x = by_next x.place

  moved_on : (a : Active) (y : Context) (o : Option Active) → o ≡ Some a
      → (a.routine ≡ i → min a.context.place place < y.place)
      → IsOn (Some a) (option_map (moved y) o)
  moved_on a y o is on =
      subst (λ o. IsOn (Some a) (option_map (moved y) o)) (sym is) (refl, on)

  executed_on : (who : Owner) (a : Active) (what : Instr) (s : State) → s.active ≡ Some a
      → (a.routine ≡ i → leads_on place a.context.place what ≡ true)
      → IsOn (Some a) (executed S who (RoutineCalls a) a.context what s).state.active
  executed_on who a (Instr.Plain p) s is on =
      moved_on a (plain p a.context (s.words who)).context s.active is
      (λ of. plain_on p a.context (s.words who) (on of))
  executed_on who a (Instr.Service call) s is on =
      let r = service S (RoutineCalls a) s (at_values a.context call) in
      moved_on a (answered r.status r.results a.context) r.state.active
      (active_service S s (RoutineCalls a) (at_values a.context call) ∙ is)
      (λ of. answered_on r.status r.results a.context)
  executed_on who a (Instr.Control Control.ReturnFromInterrupt) s is on = tt
  executed_on who a (Instr.Control Control.DisableAllInterrupts) s is on =
      moved_on a (next a.context) s.active is (λ of. by_next a.context.place)
  executed_on who a (Instr.Control _) s is on =
      moved_on a (next a.context) s.active is (λ of. by_next a.context.place)

  -- a job starts no routine
  executed_idle : (who : Owner) (j : Job) (x : Context) (what : Instr) (s : State)
      → s.active ≡ None → (executed S who (JobCalls j) x what s).state.active ≡ None
  executed_idle who j x (Instr.Plain p) s is = is
  executed_idle who j x (Instr.Service call) s is =
      active_service S s (JobCalls j) (at_values x call) ∙ is
  executed_idle who j x (Instr.Control Control.ReturnFromInterrupt) s is = refl
  executed_idle who j x (Instr.Control Control.DisableAllInterrupts) s is = is
  executed_idle who j x (Instr.Control _) s is = is

  found_idle : (o : Option Job) (s : State) → s.active ≡ None
      → (caller_executes S (job_caller o) s).state.active ≡ None
  found_idle None s is = is
  found_idle (Some j) s is =
      executed_idle (Owner.Task j.id.task) j j.context
      (instruction_at S (Owner.Task j.id.task) j.context.place) s is

  running_idle : (o : Option JobId) (jobs : List Job) (s : State) → s.active ≡ None
      → (caller_executes S (running_caller o jobs) s).state.active ≡ None
  running_idle None jobs s is = is
  running_idle (Some r) jobs s is = found_idle (job_of r jobs) s is

  execute_on : (s : State) → IsOn s.active (execute_phase S s).state.active
  unfolding execute_phase
  execute_on s = go s.active refl
    where
      go : (o : Option Active) → s.active ≡ o
          → IsOn o (caller_executes S (caller_of o s.running s.jobs) s).state.active
      go None is = subst (λ o. IsOn None o) (sym (running_idle s.running s.jobs s is)) tt
      go (Some a) is =
          executed_on (Owner.Routine a.routine) a
          (instruction_at S (Owner.Routine a.routine) a.context.place) s is
          (own_leads a.routine a.context.place)

  pub tick_on : (arrived : List ℕ) (s : State)
      → IsOn (before_execution S arrived s).state.active (tick S arrived s).after.active
  unfolding tick
  tick_on arrived s =
      let e : State = (before_execution S arrived s).state in
      let done : State = (execute_phase S e).state in
      cond_both (λ r. IsOn e.active r.state.active) done.over (record { events = []; state = done })
      (reschedule S done) (execute_on e)
      (subst (λ o. IsOn e.active o) (sym (active_reschedule S done)) (execute_on e))
