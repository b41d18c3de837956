-- Of a run, ticks in which nothing happens, and a kernel that passes them.
use Rattle.std.proofs.Common.{◌≡◌, ℕ, zero, suc, ◌+◌, ◌-◌, ◌<◌, Bool, true, false, List, [], ◌∷◌, ◌++◌, refl, sym, ◌∙◌, ap, ap₂, subst, arith}
use Rattle.std.specs.Prelude.{None}
use Rattle.std.proofs.lemmas.Bool.{true≢false}
use Rattle.osek_base.specs.declared.arrivals.Arrival.{Arrival}
use Rattle.osek_base.specs.declared.trace_event.TraceEvent.{TraceEvent}
use Rattle.osek_base.specs.Alarm.{due_alarms}
use Rattle.osek_base.specs.Blocker.{calling_job}
use Rattle.osek_base.specs.BlockingText.{blockers_at}
use Rattle.osek_base.specs.Proper.{IsProper}
use Rattle.osek_base.specs.Service.{Caller, JobCalls, RoutineCalls, NobodyCalls}
use Rattle.osek_base.specs.System.{System}
use Rattle.osek_base.specs.Tick.{executor, tick}
use Rattle.osek_base.specs.Trace.{Run, arriving, run}
use Rattle.law_blockers.specs.Stamps.{blockers_by, levels_of, stamps_in, stamps_of}
use Rattle.law_blockers.specs.Steps.{record_at, step_at}
use Rattle.law_blockers.proofs.StampLemmas.{blockers_are}
use Rattle.law_blockers.proofs.StepLemmas.{run_more, run_tick, unwritten_more}
use Rattle.law_kept.specs.Kept.{Kept, kept}
use Rattle.law_kept.specs.KeptService.{KeptCaller, ByNobody, bare, caller_in, kept_caller}
use Rattle.law_kept.specs.KeptTick.{KeptStep, before_execution_in, silent_in, tick_in}
use Rattle.law_kept.specs.Moves.{KeptRecorded}
use Rattle.law_kept.specs.Quiet.{idle_step, later}
use Rattle.law_kept.proofs.InRuns.{before_alike}
use Rattle.law_kept.proofs.Served.{executor_kept}
use Rattle.law_kept.proofs.Ticked.{ticks}
use Rattle.kernel.specs.Idle.{StaysIdle}
use Rattle.kernel.specs.Keeping.{IsKernel}
use Rattle.kernel.specs.Machine.{HasCome, Machine, next_tick, picture}
use Rattle.kernel.specs.Progress.{AreFree, AreLeft, HasIdled, LeavesAll, Progress}
use Rattle.kernel.proofs.ArrivalLemmas.{left_behind, none_between}
use Rattle.kernel.proofs.KeepingLemmas.{step_is}
use Rattle.kernel.proofs.LawLemmas.{lawful}
use Rattle.kernel.proofs.TickLemmas.{further}

-- a tick in which nobody executes has no number of blockers
unblocked : (S : System) (mode : ℕ) (arrivals : List Arrival) (n : ℕ) → IsProper S → (run S mode arrivals n).state.over ≡ false
    → kept_caller (executor (step_at S mode arrivals n).executing) ≡ ByNobody → blockers_at S mode arrivals n ≡ None
unblocked S mode arrivals n proper going is =
    blockers_are S mode arrivals n going proper
    ∙ ap (blockers_by S (levels_of S mode arrivals n) (stamps_in S mode arrivals n (stamps_of S mode arrivals n)))
    (jobless (executor (step_at S mode arrivals n).executing) is)
  where
    is_nobody : KeptCaller → Bool
    is_nobody ByNobody = true
    is_nobody _ = false

    jobless : (c : Caller) → kept_caller c ≡ ByNobody → calling_job c ≡ None
    jobless (JobCalls j) is = absurd (true≢false (sym (ap is_nobody is)))
    jobless (RoutineCalls a) is = refl
    jobless NobodyCalls is = refl

module _ (S : System) (proper : IsProper S) (mode : ℕ) (arrivals : List Arrival) (t : ℕ) (o : Kept) (on : o.over ≡ false) where
  -- the run so many ticks later
  pub record IsThere (k : ℕ) : Type 0 where
    pub same : later k o ≡ kept S (run S mode arrivals (t + k)).state
    pub unwritten : (run S mode arrivals (t + k)).unwritten ≡ []

  pub going_there : (k : ℕ) → IsThere k → (run S mode arrivals (t + k)).state.over ≡ false
  going_there k there = sym (ap (λ (x : Kept). x.over) there.same) ∙ on

  begins_there : o ≡ kept S (run S mode arrivals t).state → (run S mode arrivals t).unwritten ≡ [] → IsThere 0
  begins_there same none =
      let here : t ≡ t + 0 = omega arith in
      let tick_is : o.tick + 0 ≡ o.tick = omega arith in
      record {
        same = ap (λ n. record o { tick = n }) tick_is ∙ same ∙ ap (λ n. kept S (run S mode arrivals n).state) here;
        unwritten = ap (λ n. (run S mode arrivals n).unwritten) (sym here) ∙ none;
      }

  goes_there : (k : ℕ) → arriving arrivals (t + k) ≡ [] → tick_in S [] (later k o) ≡ idle_step (later k o) → IsThere k → IsThere (suc k)
  goes_there k free idle there =
      let more : t + k + 1 ≡ t + suc k = omega arith in
      let tick_is : o.tick + suc k ≡ o.tick + k + 1 = omega arith in
      let going = going_there k there in
      record {
        same =
            ap (λ n. record o { tick = n }) tick_is
            ∙ sym (ap (λ (x : KeptStep). x.after) idle)
            ∙ ap (λ v. (tick_in S v (later k o)).after) (sym free)
            ∙ further S proper mode arrivals (t + k) (later k o) there.same going
            ∙ ap (λ n. kept S (run S mode arrivals n).state) more;
        unwritten = ap (λ n. (run S mode arrivals n).unwritten) (sym more) ∙ unwritten_more S mode arrivals (t + k) going;
      }

  pub all_there : (k : ℕ) → o ≡ kept S (run S mode arrivals t).state → (run S mode arrivals t).unwritten ≡ []
      → ((i : ℕ) → i < k → arriving arrivals (t + i) ≡ []) → ((i : ℕ) → i < k → tick_in S [] (later i o) ≡ idle_step (later i o)) → IsThere k
  all_there zero same none free idle = begins_there same none
  all_there (suc k) same none free idle =
      goes_there k (free k (omega arith)) (idle k (omega arith))
      (all_there k same none (λ i low. free i (omega (arith, low))) (λ i low. idle i (omega (arith, low))))

  -- its records there
  pub idle_there : (k : ℕ) → arriving arrivals (t + k) ≡ [] → tick_in S [] (later k o) ≡ idle_step (later k o) → IsThere k
      → record_at S mode arrivals (t + k) ≡ TraceEvent.Idle ∷ []
  idle_there k free idle there =
      let r : Run = run S mode arrivals (t + k) in
      ap₂ (λ (u : List TraceEvent) m. u ++ (tick S (arriving arrivals m) r.state).events) there.unwritten (run_tick S mode arrivals (t + k) (going_there k there))
      ∙ ap (λ (x : KeptStep). x.events) (ticks S mode arrivals (t + k) (arriving arrivals (t + k)) proper)
      ∙ ap₂ (λ v x. (tick_in S v x).events) free (sym there.same)
      ∙ ap (λ (x : KeptStep). x.events) idle

  -- what is kept when its instruction is executed
  pub at_there : (k : ℕ) → arriving arrivals (t + k) ≡ [] → before_execution_in S [] (later k o) ≡ silent_in (later k o)
      → IsThere k → kept S (step_at S mode arrivals (t + k)).executing ≡ later k o
  at_there k free silent there =
      ap (kept S) (sym (step_is S proper mode arrivals (t + k) (later k o) there.same (going_there k there)))
      ∙ ap (λ (r : KeptRecorded). r.state) (before_alike S mode arrivals (t + k) (arriving arrivals (t + k)) proper)
      ∙ ap₂ (λ v x. (before_execution_in S v x).state) free (sym there.same)
      ∙ ap (λ (r : KeptRecorded). r.state) silent

  -- and behind it
  pub behind_there : (k : ℕ) → arriving arrivals (t + k) ≡ [] → tick_in S [] (later k o) ≡ idle_step (later k o) → IsThere k
      → kept S (step_at S mode arrivals (t + k)).after ≡ later 1 (later k o)
  behind_there k free idle there =
      let going = going_there k there in
      sym (ap (λ (r : Run). kept S r.state) (run_more S mode arrivals (t + k) going))
      ∙ sym (further S proper mode arrivals (t + k) (later k o) there.same going)
      ∙ ap (λ v. (tick_in S v (later k o)).after) free ∙ ap (λ (x : KeptStep). x.after) idle

  leaves_all : (k : ℕ) → arriving arrivals (t + k) ≡ [] → due_alarms S (bare (later k o)) ≡ [] → caller_in o ≡ ByNobody
      → before_execution_in S [] (later k o) ≡ silent_in (later k o) → tick_in S [] (later k o) ≡ idle_step (later k o)
      → IsThere k → LeavesAll S mode arrivals (t + k) (later k o)
  leaves_all k free none nobody silent idle there =
      let at = at_there k free silent there in
      record {
        none_arrive = free;
        none_due = ap (λ (x : Kept). due_alarms S (bare x)) (sym there.same) ∙ none;
        no_blockers =
            unblocked S mode arrivals (t + k) proper (going_there k there)
            (executor_kept S (step_at S mode arrivals (t + k)).executing ∙ ap caller_in at ∙ nobody);
        before = sym there.same;
        at = at;
        behind = behind_there k free idle there;
      }

-- ---- a machine that stays idle

module _ (counted : Bool) (S : System) (proper : IsProper S) (mode : ℕ) (arrivals : List Arrival)
    (m new : Machine) (most n : ℕ) (come : HasCome counted S mode arrivals (next_tick m) m)
    (idled : StaysIdle counted most n m new)
    (free : (i : ℕ) → i < n → arriving arrivals (next_tick m + i) ≡ []) where
  -- the run has come to it
  comes_to : HasCome counted S mode arrivals (next_tick new) new
  comes_to =
      subst (λ (T : System). HasCome counted T mode arrivals (next_tick new) new) (idled.system ∙ come.at.system)
      (idled.goes_on mode arrivals free (subst (λ (T : System). HasCome counted T mode arrivals (next_tick m) m) (sym come.at.system) come))

  abbrev o : Kept
  o = picture m

  stays : (i : ℕ) → i < n → tick_in S [] (later i o) ≡ idle_step (later i o)
  stays i low = subst (λ (T : System). tick_in T [] (later i o) ≡ idle_step (later i o)) come.at.system (idled.idle i low)

  is_there : (k : ℕ) (low : k < n) → IsThere S proper mode arrivals (next_tick m) o (idled.on (omega (arith, low))) k
  is_there k low =
      all_there S proper mode arrivals (next_tick m) o (idled.on (omega (arith, low))) k come.at.same
      (sym come.at.unwritten ∙ idled.begun (omega (arith, low)))
      (λ i less. free i (omega (arith, less, low))) (λ i less. stays i (omega (arith, less, low)))

  idle_records : (k : ℕ) → k < n → record_at S mode arrivals (next_tick m + k) ≡ TraceEvent.Idle ∷ []
  idle_records k low =
      idle_there S proper mode arrivals (next_tick m) o (idled.on (omega (arith, low))) k (free k low) (stays k low) (is_there k low)

  idle_leaves : (k : ℕ) → k < n → LeavesAll S mode arrivals (next_tick m + k) (later k (kept S (run S mode arrivals (next_tick m)).state))
  idle_leaves k low =
      subst (λ (x : Kept). LeavesAll S mode arrivals (next_tick m + k) (later k x)) come.at.same
      (leaves_all S proper mode arrivals (next_tick m) o (idled.on (omega (arith, low))) k (free k low)
      (subst (λ (T : System). due_alarms T (bare (later k o)) ≡ []) come.at.system (idled.none_due k low))
      (idled.nobody (omega (arith, low)))
      (subst (λ (T : System). before_execution_in T [] (later k o) ≡ silent_in (later k o)) come.at.system (idled.before k low))
      (stays k low) (is_there k low))

  idle_going : (k : ℕ) → k < n → (run S mode arrivals (next_tick m + k)).state.over ≡ false
  idle_going k low = going_there S proper mode arrivals (next_tick m) o (idled.on (omega (arith, low))) k (is_there k low)

-- ---- and a kernel with it

abbrev pub progress : System → ℕ → List Arrival → Machine → Progress
progress S mode arrivals m = record { system = S; mode = mode; arrivals = arrivals; ticks = next_tick m }

-- the kernel keeps the run behind them, and has idled
pub record KernelIdles (counted : Bool) (S : System) (mode : ℕ) (arrivals : List Arrival) (lent : List ℕ)
    (cursor coming most n : ℕ) (old : Progress) (new : Machine) : Type 0 where
  pub keeps : IsKernel counted S mode arrivals lent cursor cursor coming new
  pub idled : HasIdled most old (progress S mode arrivals new) n

pub kernel_idles : (counted : Bool) (S : System) (mode : ℕ) (arrivals list : List Arrival) (lent : List ℕ)
    (earlier cursor coming tick most free n : ℕ) (old : Progress) (m new : Machine) → progress S mode arrivals m ≡ old
    → IsKernel counted S mode arrivals lent earlier cursor coming m → list ≡ arrivals → tick ≡ next_tick m
    → AreFree list cursor tick most free → StaysIdle counted free n m new → 0 < n
    → KernelIdles counted S mode arrivals lent cursor coming most n old new
kernel_idles counted S mode arrivals list lent earlier cursor coming tick most free n old m new is v list_is tick_is freed idles
    some =
    let few = idles.few in
    let left = subst (λ t. AreFree arrivals cursor t most free) tick_is
    (subst (λ xs. AreFree xs cursor tick most free) list_is freed) in
    let fewer = left.few in
    let none : (i : ℕ) → i < n → arriving arrivals (next_tick m + i) ≡ [] =
    λ i low. left.none i (omega (arith, few, low)) in
    let next = idles.next in
    let last_is : next_tick new - 1 ≡ next_tick m + (n - 1) = omega (arith, next, some) in
    record {
      keeps = record {
        proper = v.proper;
        known = v.known;
        routines = v.routines;
        left =
            subst (AreLeft arrivals cursor) (sym next)
            (left_behind arrivals cursor (next_tick m) most free n v.left left few);
        first = λ none. absurd (omega (arith, next, some, none));
        ahead = λ later. v.ahead (idles.not_first some);
        last = λ begun.
            ap (arriving arrivals) last_is ∙ none (n - 1) (omega (arith, some)) ∙ sym (none_between lent cursor);
        forward = omega arith;
        come = comes_to counted S v.proper mode arrivals m new free n v.come idles none;
      };
      idled = subst (λ r. HasIdled most r (progress S mode arrivals new) n) is (record {
        few = omega (arith, few, fewer);
        not_first = idles.not_first;
        records = idle_records counted S v.proper mode arrivals m new free n v.come idles none;
        going = idle_going counted S v.proper mode arrivals m new free n v.come idles none;
        stays = idle_leaves counted S v.proper mode arrivals m new free n v.come idles none;
        next = ap (λ t. record (progress S mode arrivals m) { ticks = t }) next;
        lawful = lawful (progress S mode arrivals new) v.proper;
      });
    }
