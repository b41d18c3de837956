-- No alarm passes its count.
use Rattle.std.proofs.Common.{ℕ, zero, suc, ◌≡◌, ◌<◌, ◌+◌, ◌/◌, inl, inr, Bool, true, false, cond, ◌||◌, List, [], ◌∷◌, length, set, get_or, refl, sym, ◌∙◌, ap, subst, arith, length-set}
use Rattle.std.specs.Prelude.{Option, Some, None, ◌==◌, nat_lt, is_some, slice_index, slice_index_or, slice_set, bit_or}
use Rattle.std.proofs.Math.Nat.{zero-div}
use Rattle.std.proofs.lemmas.Bool.{cases_lt, cases_eq, eq-eqb, eqb-true, eqb-false}
use Rattle.std.proofs.lemmas.List.{get_or-set_other}
use Rattle.std.proofs.lemmas.Grind.{get_or-set_at}
use Rattle.osek_base.specs.declared.arrivals.Arrival.{Arrival}
use Rattle.osek_base.specs.declared.ids.Owner.{Owner}
use Rattle.osek_base.specs.declared.instr.Service.{Service}
use Rattle.osek_base.specs.declared.instr.Instr.{Instr}
use Rattle.osek_base.specs.declared.status.Status.{Status}
use Rattle.osek_base.specs.Types.{ServiceCall}
use Rattle.osek_base.specs.System.{System, alarm, counter_of, instruction_at}
use Rattle.osek_base.specs.Instruction.{Context, plain, next}
use Rattle.osek_base.specs.State.{Active, Expiry, interrupts_off, words_after}
use Rattle.osek_base.specs.Alarm.{count, expiry, is_due, is_due_at, renewed, next_count, is_bad_cycle, due_alarms, alarms_advanced}
use Rattle.osek_base.specs.Service.{first_refusal}
use Rattle.osek_base.specs.Tick.{at_values, answered}
use Rattle.osek_base.specs.Trace.{starting_tasks, arriving, run}
use Rattle.osek_base.specs.Proper.{IsProper}
use Rattle.law_kept.specs.Kept.{Kept}
use Rattle.law_kept.specs.Moves.{KeptRecorded, activated_in, rescheduled}
use Rattle.law_kept.specs.KeptService.{KeptCaller, ByTask, ByRoutine, ByNobody, bare, with_caller_in, caller_ended_in, slot_gets, slot_releases, events_cleared_in, event_awaited_in, refusals_in, effect_in, reply_in, service_in, caller_in}
use Rattle.law_kept.specs.KeptTick.{alarms_act_in, alarm_phase_in, arrival_phase_in, start_phase_in, with_context_in, controlled_in, executed_in, routine_executes, caller_executes_in, execute_phase_in, before_execution_in, last_phase_in, tick_in, begun_in, all_activated_in, boot_in}
use Rattle.law_kept.proofs.Ticked.{boots}
use Rattle.law_future.specs.Alike.{kept_after}
use Rattle.law_future.specs.Relative.{IsAhead, AreAhead, AlwaysAhead}
use Rattle.law_future.proofs.Counts.{no_further}
use Rattle.law_future.proofs.Timed.{retimed}
use Rattle.law_future.proofs.Commutes.{ends, changes, gives_up, clears, awaits, sets, controls, moves, alarms_act, starts, reschedules, last_phase}
use Rattle.law_future.proofs.Tables.{length-table, table_at, known_counter, some_base}
use Rattle.law_future.proofs.Futures.{kept_more, kept_over}

-- within a tick each alarm that is on is due in a later one
abbrev IsLater : ℕ → Option Expiry → Type 0
IsLater n None = Unit {0}
IsLater n (Some e) = n < e.count

module _ (S : System) where
  record AreLater (t : ℕ) (es : List (Option Expiry)) : Type 0 where
    size : length es ≡ length S.alarms
    each : (a : ℕ) → a < length S.alarms → IsLater (t / (counter_of S a).ticks_per_base) (slice_index_or es a None)

  abbrev IsLaterIn : Kept → Type 0
  IsLaterIn o = AreLater o.tick o.alarms

  -- a step that does the same at each tick, with all alarms, leaves both
  later_stays : (f : Kept → Kept) → ((u : ℕ) (fs : List (Option Expiry)) (x : Kept) → f (retimed u fs x) ≡ retimed u fs (f x))
      → (o : Kept) → IsLaterIn o → IsLaterIn (f o)
  later_stays f commutes o later = subst IsLaterIn (sym (commutes o.tick o.alarms o)) later

  ahead_stays : (f : Kept → Kept) → ((u : ℕ) (fs : List (Option Expiry)) (x : Kept) → f (retimed u fs x) ≡ retimed u fs (f x))
      → (o : Kept) → AreAhead S o → AreAhead S (f o)
  ahead_stays f commutes o ahead = subst (AreAhead S) (sym (commutes o.tick o.alarms o)) ahead

  -- ---- alarms expire

  expires : (n : ℕ) (e : Option Expiry) → IsAhead n e → IsLater n (cond (is_due_at n e) (renewed e) e)
  expires n None ahead = tt
  expires n (Some e) ahead = go (e.count == n) refl (e.cycle == 0) refl
    where
      go : (b : Bool) → (e.count == n) ≡ b → (c : Bool) → (e.cycle == 0) ≡ c
          → IsLater n (cond b (cond c None (Some (record { count = e.count + e.cycle; cycle = e.cycle }))) (Some e))
      go true now true once = tt
      go true now false cyclic =
          let is : e.count ≡ n = eqb-true e.count n now in
          let some : e.cycle ≡ 0 → ⊥ = eqb-false e.cycle 0 cyclic in
          elim (cases_lt 0 e.cycle) [
            | inl more ↦ omega (arith, is, more)
            | inr none ↦ absurd (some (omega (arith, none)))
          ]
      go false now c other =
          let not_now : e.count ≡ n → ⊥ = eqb-false e.count n now in
          elim (cases_lt n e.count) [
            | inl more ↦ more
            | inr least ↦ absurd (not_now (omega (arith, ahead, least)))
          ]

  advanced_later : (o : Kept) → AreAhead S o → IsLaterIn (record o { alarms = alarms_advanced S (bare o) })
  advanced_later o ahead = record {
    size = length-table (λ a. cond (is_due S (bare o) a) (renewed (expiry (bare o) a)) (expiry (bare o) a)) (length S.alarms);
    each = λ a inside.
        subst (IsLater (o.tick / (counter_of S a).ticks_per_base))
        (sym (table_at (λ k. cond (is_due S (bare o) k) (renewed (expiry (bare o) k)) (expiry (bare o) k)) (length S.alarms) a None inside))
        (expires (count S (bare o) a) (expiry (bare o) a) (ahead a inside));
  }

  phase_later : (o : Kept) → AreAhead S o → IsLaterIn (alarm_phase_in S o).state
  unfolding alarm_phase_in
  phase_later o ahead =
      later_stays (λ x. (alarms_act_in S (due_alarms S (bare o)) x).state)
      (λ u fs x. ap (λ (r : KeptRecorded). r.state) (alarms_act S u fs (due_alarms S (bare o)) x))
      (record o { alarms = alarms_advanced S (bare o) }) (advanced_later o ahead)

  -- ---- alarms are set

  set_later : (o : Kept) → IsLaterIn o → (a : ℕ) (e : Option Expiry) → IsLater (o.tick / (counter_of S a).ticks_per_base) e
      → IsLaterIn (record o { alarms = slice_set o.alarms a e })
  set_later o later a e here = record { size = length-set o.alarms a e ∙ later.size; each = at }
    where
      at : (b : ℕ) → b < length S.alarms → IsLater (o.tick / (counter_of S b).ticks_per_base) (get_or (set o.alarms a e) b None)
      at b inside = elim (cases_eq b a) [
        | inl same ↦
            let long = later.size in
            subst (IsLater (o.tick / (counter_of S b).ticks_per_base)) (sym (get_or-set_at o.alarms a b e None same (omega (arith, long, same, inside))))
            (subst (λ k. IsLater (o.tick / (counter_of S k).ticks_per_base) e) (sym same) here)
        | inr away ↦
            subst (IsLater (o.tick / (counter_of S b).ticks_per_base)) (sym (get_or-set_other o.alarms a b e None away)) (later.each b inside)
      ]

  -- a count that SetRelAlarm sets without a refusal is above the present one
  some_increment : (off used : Bool) (x : ℕ) (much bad : Bool)
      → first_refusal ((off, Status.SysDisabled) ∷ (used, Status.State) ∷ (x == 0 || much || bad, Status.Value) ∷ []) ≡ None → 0 < x
  some_increment true used x much bad h = absurd (grind (arith, h))
  some_increment false true x much bad h = absurd (grind (arith, h))
  some_increment false false x much bad h = elim (cases_lt 0 x) [
    | inl more ↦ more
    | inr none ↦ absurd (never ((x == 0 || much) || bad) (ap (λ b. (b || much) || bad) (eq-eqb x 0 (omega (arith, none)))) h)
  ]
    where
      never : (b : Bool) → b ≡ true → cond b (Some Status.Value) None ≡ None → ⊥
      never true is k = grind (arith, k)
      never false is k = grind (arith, is)

  effect_later : (d : KeptCaller) (o : Kept) → IsLaterIn o → (call : ServiceCall)
      → first_refusal ((interrupts_off (bare o), Status.SysDisabled) ∷ refusals_in S d o call) ≡ None → IsLaterIn (effect_in S d o call)
  effect_later d o later (Service.ActivateTask None) free = later
  effect_later d o later (Service.ActivateTask (Some t)) free = later_stays (activated_in S t) (λ u fs x. refl) o later
  effect_later d o later Service.TerminateTask free = later_stays (caller_ended_in d) (λ u fs x. ends S u fs d x) o later
  effect_later d o later (Service.ChainTask None) free = later
  effect_later d o later (Service.ChainTask (Some t)) free =
      later_stays (λ x. activated_in S t (caller_ended_in d x)) (λ u fs x. ap (activated_in S t) (ends S u fs d x)) o later
  effect_later d o later Service.Schedule free = later_stays (λ x. effect_in S d x Service.Schedule) (λ u fs x. gives_up S u fs d x) o later
  effect_later d o later Service.GetTaskId free = later
  effect_later d o later (Service.GetTaskState t) free = later
  effect_later d o later (Service.GetResource None) free = later
  effect_later d o later (Service.GetResource (Some r)) free =
      later_stays (with_caller_in d (slot_gets r)) (λ u fs x. changes S u fs d (slot_gets r) x) o later
  effect_later d o later (Service.ReleaseResource None) free = later
  effect_later d o later (Service.ReleaseResource (Some r)) free =
      later_stays (with_caller_in d slot_releases) (λ u fs x. changes S u fs d slot_releases x) o later
  effect_later d o later (Service.LoadShared r n) free = later
  effect_later d o later (Service.StoreShared None n v) free = later
  effect_later d o later (Service.StoreShared (Some r) n v) free =
      later_stays (λ x. effect_in S d x (Service.StoreShared (Some r) n v)) (λ u fs x. refl) o later
  effect_later d o later (Service.SetEvent None m) free = later
  effect_later d o later (Service.SetEvent (Some t) m) free =
      later_stays (λ x. effect_in S d x (Service.SetEvent (Some t) m)) (λ u fs x. sets S u fs t (bit_or (slice_index x.masks t) m) x) o later
  effect_later d o later (Service.ClearEvent m) free = later_stays (events_cleared_in d m) (λ u fs x. clears S u fs d m x) o later
  effect_later d o later (Service.GetEvent t) free = later
  effect_later d o later (Service.WaitEvent m) free = later_stays (event_awaited_in d m) (λ u fs x. awaits S u fs d m x) o later
  effect_later d o later (Service.SetRelAlarm None x y) free = later
  effect_later d o later (Service.SetRelAlarm (Some a) x y) free =
      let n : ℕ = o.tick / (counter_of S a).ticks_per_base in
      let some : 0 < x =
      some_increment (interrupts_off (bare o)) (is_some (slice_index_or o.alarms a None)) x
      (nat_lt (counter_of S a).max_allowed_value x) (is_bad_cycle (counter_of S a) y) free in
      set_later o later a (Some (record { count = n + x; cycle = y })) (omega (arith, some))
  effect_later d o later (Service.SetAbsAlarm None x y) free = later
  effect_later d o later (Service.SetAbsAlarm (Some a) x y) free =
      let n : ℕ = o.tick / (counter_of S a).ticks_per_base in
      set_later o later a (Some (record { count = next_count (counter_of S a) n x; cycle = y })) (omega arith)
  effect_later d o later (Service.CancelAlarm None) free = later
  effect_later d o later (Service.CancelAlarm (Some a)) free = set_later o later a None tt
  effect_later d o later (Service.GetAlarm a) free = later
  effect_later d o later (Service.GetAlarmBase a) free = later

  service_later : (d : KeptCaller) (o : Kept) → IsLaterIn o → (call : ServiceCall) → IsLaterIn (service_in S d o call).state
  unfolding service_in
  service_later d o later call = go (first_refusal ((interrupts_off (bare o), Status.SysDisabled) ∷ refusals_in S d o call)) refl
    where
      go : (refusal : Option Status) → first_refusal ((interrupts_off (bare o), Status.SysDisabled) ∷ refusals_in S d o call) ≡ refusal
          → IsLaterIn (reply_in S d o call refusal).state
      go None free = effect_later d o later call free
      go (Some refusal) is = later

  -- ---- the instruction

  executed_later : (who : Owner) (d : KeptCaller) (x : Context) (what : Instr) (o : Kept) → IsLaterIn o → IsLaterIn (executed_in S who d x what o).state
  executed_later who d x (Instr.Plain i) o later =
      later_stays (λ y. (executed_in S who d x (Instr.Plain i) y).state)
      (λ u fs y. moves S u fs d (plain i x (y.words who)).context (record y { words = words_after y.words who (plain i x (y.words who)).effect }))
      o later
  executed_later who d x (Instr.Service call) o later =
      later_stays
      (with_context_in d (answered (service_in S d o (at_values x call)).status (service_in S d o (at_values x call)).results x))
      (λ u fs y. moves S u fs d (answered (service_in S d o (at_values x call)).status (service_in S d o (at_values x call)).results x) y)
      (service_in S d o (at_values x call)).state (service_later d o later (at_values x call))
  executed_later who d x (Instr.Control control) o later =
      later_stays (λ y. (executed_in S who d x (Instr.Control control) y).state)
      (λ u fs y. ap (with_context_in d (next x)) (controls S u fs control y) ∙ moves S u fs d (next x) (controlled_in control y)) o later

  routine_later : (o : Kept) (active : Option Active) → IsLaterIn o → IsLaterIn (routine_executes S active o).state
  routine_later o None later = later
  routine_later o (Some a) later =
      executed_later (Owner.Routine a.routine) ByRoutine a.context (instruction_at S (Owner.Routine a.routine) a.context.place) o later

  caller_later : (d : KeptCaller) (o : Kept) → IsLaterIn o → IsLaterIn (caller_executes_in S d o).state
  caller_later (ByTask t) o later =
      executed_later (Owner.Task t) (ByTask t) (o.slots t).context (instruction_at S (Owner.Task t) (o.slots t).context.place) o later
  caller_later ByRoutine o later = routine_later o o.active later
  caller_later ByNobody o later = later

  execute_later : (o : Kept) → IsLaterIn o → IsLaterIn (execute_phase_in S o).state
  unfolding execute_phase_in
  execute_later o later = caller_later (caller_in o) o later

  -- ---- the tick

  next_ahead : IsProper S → (o : Kept) → IsLaterIn o → AreAhead S (record o { tick = o.tick + 1 })
  next_ahead proper o later a inside =
      go (slice_index_or o.alarms a None) (later.each a inside)
    where
      go : (e : Option Expiry) → IsLater (o.tick / (counter_of S a).ticks_per_base) e → IsAhead ((o.tick + 1) / (counter_of S a).ticks_per_base) e
      go None h = tt
      go (Some e) h =
          let most = no_further o.tick (counter_of S a).ticks_per_base (some_base S (alarm S a).counter proper (known_counter S a proper inside)) in
          omega (arith, h, most)

  tick_ahead : IsProper S → (arrived : List ℕ) (o : Kept) → AreAhead S o → AreAhead S (tick_in S arrived o).after
  unfolding tick_in
  tick_ahead proper arrived o ahead =
      let ready : IsLaterIn (before_execution_in S arrived o).state =
      later_stays (λ x. start_phase_in S (rescheduled S (arrival_phase_in arrived x)).state)
      (λ u fs x. ap (λ (r : KeptRecorded). start_phase_in S r.state) (reschedules S u fs (arrival_phase_in arrived x)) ∙ starts S u fs (rescheduled S (arrival_phase_in arrived x)).state)
      (alarm_phase_in S o).state (phase_later o ahead) in
      next_ahead proper (last_phase_in S (execute_phase_in S (before_execution_in S arrived o).state).state).state
      (later_stays (λ x. (last_phase_in S x).state) (λ u fs x. ap (λ (r : KeptRecorded). r.state) (last_phase S u fs x))
      (execute_phase_in S (before_execution_in S arrived o).state).state (execute_later (before_execution_in S arrived o).state ready))

  -- ---- boot

  all_activate : (u : ℕ) (fs : List (Option Expiry)) (ts : List ℕ) (x : Kept) → all_activated_in S ts (retimed u fs x) ≡ retimed u fs (all_activated_in S ts x)
  all_activate u fs [] x = refl
  all_activate u fs (t ∷ ts) x = all_activate u fs ts (activated_in S t x)

  begun_ahead : (mode : ℕ) → AreAhead S (begun_in S mode)
  begun_ahead mode a inside = go (slice_index_or (begun_in S mode).alarms a None)
    where
      go : (e : Option Expiry) → IsAhead (0 / (counter_of S a).ticks_per_base) e
      go None = tt
      go (Some e) = let none = zero-div (counter_of S a).ticks_per_base in omega (arith, none)

  boot_ahead : (mode : ℕ) → AreAhead S (boot_in S mode).state
  unfolding boot_in
  boot_ahead mode =
      ahead_stays (λ x. (rescheduled S (all_activated_in S (starting_tasks S mode) x)).state)
      (λ u fs x. ap (λ y. (rescheduled S y).state) (all_activate u fs (starting_tasks S mode) x)
      ∙ ap (λ (r : KeptRecorded). r.state) (reschedules S u fs (all_activated_in S (starting_tasks S mode) x)))
      (begun_in S mode) (begun_ahead mode)

module _ (S : System) (proper : IsProper S) (mode : ℕ) (arrivals : List Arrival) where
  first_ahead : AreAhead S (kept_after S mode arrivals 0)
  unfolding run
  first_ahead = subst (AreAhead S) (ap (λ (r : KeptRecorded). r.state) (sym (boots S mode proper))) (boot_ahead S mode)

  ahead : (n : ℕ) → AreAhead S (kept_after S mode arrivals n)
  ahead zero = first_ahead
  ahead (suc n) = go (run S mode arrivals n).state.over refl (ahead n)
    where
      go : (over : Bool) → (run S mode arrivals n).state.over ≡ over → AreAhead S (kept_after S mode arrivals n) → AreAhead S (kept_after S mode arrivals (suc n))
      go true is before = subst (AreAhead S) (sym (kept_over S mode arrivals n is)) before
      go false is before =
          subst (AreAhead S) (sym (kept_more S mode arrivals proper n is))
          (tick_ahead S proper (arriving arrivals n) (kept_after S mode arrivals n) before)

pub always_ahead : AlwaysAhead
always_ahead S mode arrivals n proper = ahead S proper mode arrivals n
