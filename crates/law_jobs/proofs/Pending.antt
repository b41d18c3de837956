-- What figures go by of a routine's interrupts is how long one of them is pending, tick by tick.
use Rattle.std.proofs.Common.{◌≡◌, ◌⊎◌, inl, inr, ℕ, zero, suc, ◌+◌, ◌-◌, ◌<◌, ◌≤◌, Bool, true, false, cond, not, ◌&&◌, ◌||◌, List, [], ◌∷◌, replicate, length, refl, sym, ◌∙◌, ap, subst, arith}
use Rattle.std.specs.Prelude.{Option, Some, None, ◌==◌, slice_index_or}
use Rattle.std.specs.Option.{option_map}
use Rattle.std.proofs.lemmas.Bool.{cases_lt}
use Rattle.osek_base.specs.declared.arrivals.Arrival.{Arrival}
use Rattle.osek_base.specs.declared.ids.Owner.{Owner}
use Rattle.osek_base.specs.declared.instr.Instr.{Instr}
use Rattle.osek_base.specs.Activation.{activated}
use Rattle.osek_base.specs.Instruction.{Context}
use Rattle.osek_base.specs.Lists.{same_owner}
use Rattle.osek_base.specs.Proper.{IsProper}
use Rattle.osek_base.specs.Reschedule.{reschedule}
use Rattle.osek_base.specs.Service.{Caller, JobCalls, RoutineCalls}
use Rattle.osek_base.specs.State.{Active, Job, JobId, State, job_of, still}
use Rattle.osek_base.specs.System.{System, instruction_at}
use Rattle.osek_base.specs.Tick.{before_execution, caller_executes, caller_of, execute_phase, executed, is_pending, job_caller, running_caller}
use Rattle.osek_base.specs.Trace.{all_activated, arriving, boot, run, starting_alarms, starting_tasks}
use Rattle.law_runs.proofs.Lists.{clash, none_some, some_inside}
use Rattle.law_kept.specs.Seen.{routine_of}
use Rattle.law_blockers.specs.Steps.{step_at}
use Rattle.law_blockers.proofs.StampLemmas.{Going, earlier, state_more}
use Rattle.law_blockers.proofs.StepLemmas.{executing_is, run_tick}
use Rattle.law_future.specs.Shown.{arrives}
use Rattle.seen_ticks.specs.declared.routine_seen.RoutineSeen.{RoutineSeen}
use Rattle.seen_ticks.specs.Observed.{executed_in, is_by, is_number, routine_seen, tick_at}
use Rattle.seen_ticks.proofs.Staying.{pending_stays}
use Rattle.seen_ticks.proofs.Telling.{record_executed}
use Rattle.law_seen.proofs.Shown.{runs_show}
use Rattle.view_figures.specs.declared.routine_figures.RoutineTick.{RoutineTick}
use Rattle.law_figures.specs.Pending.{pending, pending_in, start_latency}
use Rattle.law_figures.specs.RunFigures.{label_before, routine_ticks}
use Rattle.law_figures.specs.Times.{waited}
use Rattle.law_jobs.specs.PendingSince.{AreOfInterrupts, IsPendingSince, IsWait, LatenciesAreOfInterrupts, is_active, starts_in, ticks_waited}
use Rattle.law_jobs.proofs.Flags.{flag_left, is_raised, starts_raised}

-- ---- who executes

module _ (S : System) (k : ℕ) where
  -- what an owner executes is told to be its own
  executed_by : (who : Owner) (c : Caller) (x : Context) (what : Instr) (s : State)
      → is_by (Owner.Routine k) (executed_in (executed S who c x what s).events)
      ≡ same_owner (Owner.Routine k) who
  executed_by who c x (Instr.Plain p) s = refl
  executed_by who c x (Instr.Service call) s = refl
  executed_by who c x (Instr.Control control) s = refl

  same_number : (m n : ℕ) → (m == n) ≡ (n == m)
  same_number m n = grind arith

  -- a job, or nobody
  found_by : (o : Option Job) (s : State)
      → is_by (Owner.Routine k) (executed_in (caller_executes S (job_caller o) s).events) ≡ false
  found_by None s = refl
  found_by (Some j) s =
      executed_by (Owner.Task j.id.task) (JobCalls j) j.context
      (instruction_at S (Owner.Task j.id.task) j.context.place) s

  running_by : (o : Option JobId) (jobs : List Job) (s : State)
      → is_by (Owner.Routine k) (executed_in (caller_executes S (running_caller o jobs) s).events)
      ≡ false
  running_by None jobs s = refl
  running_by (Some r) jobs s = found_by (job_of r jobs) s

  phase_by : (e : State)
      → is_by (Owner.Routine k) (executed_in (execute_phase S e).events) ≡ is_active e k
  unfolding execute_phase
  phase_by e = go e.active
    where
      go : (o : Option Active)
          → is_by (Owner.Routine k)
          (executed_in (caller_executes S (caller_of o e.running e.jobs) e).events)
          ≡ is_number k (option_map routine_of o)
      go None = running_by e.running e.jobs e
      go (Some a) =
          executed_by (Owner.Routine a.routine) (RoutineCalls a) a.context
          (instruction_at S (Owner.Routine a.routine) a.context.place) e
          ∙ same_number k a.routine

-- ---- at boot no flag is on

all_calm : (S : System) (ts : List ℕ) (s : State) → (all_activated S ts s).pending ≡ s.pending
unfolding activated
all_calm S [] s = refl
all_calm S (t ∷ ts) s = all_calm S ts (activated S t s)

none_flagged : (count k : ℕ) → slice_index_or (replicate count false) k false ≡ false
none_flagged zero k = refl
none_flagged (suc count) zero = refl
none_flagged (suc count) (suc k) = none_flagged count k

module _ (S : System) (mode : ℕ) (arrivals : List Arrival) (k : ℕ) where
  abbrev here : ℕ → State
  here n = (run S mode arrivals n).state

  abbrev at : ℕ → State
  at n = (step_at S mode arrivals n).executing

  boot_flags : (boot S mode).state.pending ≡ (still S).pending
  unfolding boot reschedule
  boot_flags =
      all_calm S (starting_tasks S mode) (record (still S) { alarms = starting_alarms S mode })

  first_flags : (here 0).pending ≡ (boot S mode).state.pending
  unfolding run
  first_flags = refl

  first_off : is_pending (here 0) k ≡ false
  first_off =
      ap (λ (flags : List Bool). slice_index_or flags k false) (first_flags ∙ boot_flags)
      ∙ none_flagged (length S.routines) k

  -- ---- one interrupt

  abbrev Pends : ℕ → ℕ → Type 0
  Pends n since = IsPendingSince S mode arrivals n k since

  one_earlier : (n a b : ℕ) → Pends n a → Pends n b → a < b → ⊥
  one_earlier n a b one two less = clash (sym (one.between b less two.past) ∙ two.taken.first)

  one_since : (n a b : ℕ) → Pends n a → Pends n b → a ≡ b
  one_since n a b one two = go (cases_lt a b) (cases_lt b a)
    where
      go : (a < b) ⊎ (b ≤ a) → (b < a) ⊎ (a ≤ b) → a ≡ b
      go (inl less) other = absurd (one_earlier n a b one two less)
      go (inr low) (inl less) = absurd (one_earlier n b a two one less)
      go (inr low) (inr high) = omega (arith, low, high)

  module _ (proper : IsProper S) (known : k < length S.routines) where
    abbrev shown : ℕ → RoutineTick
    shown = routine_ticks S mode arrivals k

    abbrev starts : ℕ → Bool
    starts n = starts_in S mode arrivals n k

    abbrev up : ℕ → Bool
    up n = is_raised S mode arrivals n k

    -- ---- what is seen

    seen_is : (n : ℕ) → Going S mode arrivals n
        → (shown n).seen ≡ routine_seen (tick_at S mode arrivals n) k
    seen_is n going = sym ((runs_show S mode arrivals n proper going).routines k)

    starts_is : (n : ℕ) → Going S mode arrivals n → (shown n).seen.is_started ≡ starts n
    starts_is n going =
        ap (λ (r : RoutineSeen). r.is_started) (seen_is n going)
        ∙ ap (λ b. b && not (is_active (here n) k))
        (ap (is_by (Owner.Routine k))
        (record_executed S mode arrivals n
        ∙ ap
        (λ t. executed_in (execute_phase S
        (before_execution S (arriving arrivals t) (here n)).state).events)
        (run_tick S mode arrivals n going)
        ∙ ap (λ e. executed_in (execute_phase S e).events) (executing_is S mode arrivals n going))
        ∙ phase_by S k (at n))

    raised_is : (n : ℕ) → Going S mode arrivals n
        → ((shown n).seen.is_pending || (shown n).seen.is_started) ≡ up n
    raised_is n going =
        ap (λ (r : RoutineSeen). r.is_pending || (shown n).seen.is_started) (seen_is n going)
        ∙ ap (λ b. is_pending (at n) k || b) (starts_is n going)
        ∙ go (starts n) (flag_left S mode arrivals n k proper going known)
        (starts_raised S mode arrivals n k proper going known)
      where
        go : (b : Bool) → is_pending (at n) k ≡ cond b false (up n) → (b ≡ true → up n ≡ true)
            → (is_pending (at n) k || b) ≡ up n
        go true flag raised = ap (λ c. c || true) flag ∙ sym (raised refl)
        go false flag raised = ap (λ c. c || false) flag ∙ or_false (up n)
          where
            or_false : (b : Bool) → (b || false) ≡ b
            or_false true = refl
            or_false false = refl

    pub next_flag : (n : ℕ) → Going S mode arrivals n
        → is_pending (here (suc n)) k ≡ cond (starts n) false (up n)
    next_flag n going =
        ap (λ s. is_pending s k) (state_more S mode arrivals n going)
        ∙ ap (λ (flags : List Bool). slice_index_or flags k false) (pending_stays S mode arrivals n)
        ∙ flag_left S mode arrivals n k proper going known

    -- ---- an age between ticks, and in a tick

    record IsAged (n age : ℕ) : Type 0 where
      since : ℕ
      pends : Pends n since
      both : age + since ≡ suc n

    abbrev Aged : ℕ → Option ℕ → Type 0
    Aged n None = up n ≡ false
    Aged n (Some age) = IsAged n age

    record IsOld (n age : ℕ) : Type 0 where
      since : ℕ
      pends : Pends n since
      later : since < n
      both : age + since ≡ n

    abbrev AgedBefore : ℕ → Option ℕ → Type 0
    AgedBefore n None = is_pending (here n) k ≡ false
    AgedBefore n (Some age) = IsOld n age

    aged_in : (n : ℕ) → Going S mode arrivals n → (age : Option ℕ) → AgedBefore n age
        → Aged n (pending_in (shown n) age)
    aged_in n going None off =
        subst (λ b. Aged n (cond b (Some 1) None)) (sym (raised_is n going)) (go (up n) refl)
      where
        comes : (a : Bool) → (a || is_pending (here n) k) ≡ true → a ≡ true
        comes true h = refl
        comes false h = clash (sym h ∙ off)

        go : (b : Bool) → up n ≡ b → Aged n (cond b (Some 1) None)
        go true is = record {
          since = n;
          pends = record {
            past = omega arith;
            taken = record { comes = comes (arrives arrivals n k) is; first = off };
            between = λ i from to. absurd (omega (arith, from, to));
          };
          both = omega arith;
        }
        go false is = is
    aged_in n going (Some age) old =
        let sum = old.both in
        record { since = old.since; pends = old.pends; both = omega (arith, sum) }

    -- an interrupt that pends has raised the flag
    pends_up : (n since : ℕ) → Pends n since → up n ≡ true
    pends_up n since is = go (cases_lt since n)
      where
        first_of : (a b : Bool) → a ≡ true → (a || b) ≡ true
        first_of true b h = refl
        first_of false b h = clash (sym h)

        second_of : (a b : Bool) → b ≡ true → (a || b) ≡ true
        second_of true b h = refl
        second_of false b h = h

        go : (since < n) ⊎ (n ≤ since) → up n ≡ true
        go (inl less) =
            second_of (arrives arrivals n k) (is_pending (here n) k)
            (is.between n less (omega arith))
        go (inr more) =
            let past = is.past in
            let same : since ≡ n = omega (arith, past, more) in
            first_of (arrives arrivals n k) (is_pending (here n) k)
            (subst (λ m. arrives arrivals m k ≡ true) same is.taken.comes)

    -- one that pends and whose routine doesn't start pends in the next tick too
    pub pends_on : (n since : ℕ) → is_pending (here (suc n)) k ≡ up n → Pends n since
        → Pends (suc n) since
    pends_on n since flag is =
        let past = is.past in
        record {
          past = omega (arith, past);
          taken = is.taken;
          between = λ i from to. go i from (cases_lt n i) to;
        }
      where
        go : (i : ℕ) → since < i → (n < i) ⊎ (i ≤ n) → i ≤ suc n → is_pending (here i) k ≡ true
        go i from (inr low) to = is.between i from low
        go i from (inl more) to =
            let same : suc n ≡ i = omega (arith, more, to) in
            subst (λ m. is_pending (here m) k ≡ true) same (flag ∙ pends_up n since is)

    aged_left : (n : ℕ) → Going S mode arrivals n → (age : Option ℕ) → Aged n age
        → AgedBefore (suc n) (cond (shown n).seen.is_started None age)
    aged_left n going age aged =
        subst (λ b. AgedBefore (suc n) (cond b None age)) (sym (starts_is n going))
        (go (starts n) (next_flag n going) age aged)
      where
        go : (b : Bool) → is_pending (here (suc n)) k ≡ cond b false (up n) → (age : Option ℕ)
            → Aged n age → AgedBefore (suc n) (cond b None age)
        go true flag age aged = flag
        go false flag None aged = flag ∙ aged
        go false flag (Some age) aged =
            let past = aged.pends.past in
            record {
              since = aged.since;
              pends = pends_on n aged.since flag aged.pends;
              later = omega (arith, past);
              both = aged.both;
            }

    abbrev before : ℕ → Option ℕ
    before n = label_before pending shown n

    all_before : (n : ℕ) → Going S mode arrivals n → AgedBefore n (before n)
    all_before zero going = first_off
    all_before (suc n) going =
        let on : Going S mode arrivals n = earlier S mode arrivals n going in
        aged_left n on (pending_in (shown n) (before n))
        (aged_in n on (before n) (all_before n on))

    -- ---- the law

    module _ (n : ℕ) (going : Going S mode arrivals n) where
      abbrev waits_by : Bool → Option ℕ → Option ℕ
      waits_by b age = cond b (option_map (λ m. m - 1) age) age

      aged : Aged n (pending_in (shown n) (before n))
      aged = aged_in n going (before n) (all_before n going)

      wait_is : (age : Option ℕ) → Aged n age → (wait : ℕ) → waits_by (starts n) age ≡ Some wait
          → IsWait S mode arrivals n k wait
      wait_is age is wait h = go (starts n) refl age is h
        where
          go : (b : Bool) → starts n ≡ b → (age : Option ℕ) → Aged n age
              → waits_by b age ≡ Some wait → IsWait S mode arrivals n k wait
          go true it None is h = absurd (none_some wait h)
          go false it None is h = absurd (none_some wait h)
          go true it (Some age) is h =
              let sum = is.both in
              let same : age - 1 ≡ wait = some_inside (age - 1) wait h in
              record {
                since = is.since;
                pends = is.pends;
                ticks =
                    sym same ∙ (omega (arith, sum))
                    ∙ sym (ap (λ b. cond b n (suc n) - is.since) it);
              }
          go false it (Some age) is h =
              let sum = is.both in
              let same : age ≡ wait = some_inside age wait h in
              record {
                since = is.since;
                pends = is.pends;
                ticks =
                    sym same ∙ (omega (arith, sum))
                    ∙ sym (ap (λ b. cond b n (suc n) - is.since) it);
              }

      all_waits : (age : Option ℕ) → Aged n age → (since : ℕ) → Pends n since
          → waits_by (starts n) age ≡ Some (ticks_waited S mode arrivals n k since)
      all_waits None off since is = clash (sym (pends_up n since is) ∙ off)
      all_waits (Some age) it since is = go (starts n)
        where
          same : it.since ≡ since
          same = one_since n it.since since it.pends is

          go : (b : Bool) → waits_by b (Some age) ≡ Some (cond b n (suc n) - since)
          go true = let sum = it.both in ap Some (omega (arith, sum, same))
          go false = let sum = it.both in ap Some (omega (arith, sum, same))

      waited_is : waited (shown n) (before n)
          ≡ waits_by (starts n) (pending_in (shown n) (before n))
      waited_is =
          ap (λ b. waits_by b (pending_in (shown n) (before n))) (starts_is n going)

      latency_is : (latency : ℕ) → start_latency (shown n) (before n) ≡ Some latency
          → (starts n ≡ true) × (waited (shown n) (before n) ≡ Some latency)
      latency_is latency h = go (shown n).seen.is_started (starts_is n going) h
        where
          go : (b : Bool) → b ≡ starts n
              → cond b (option_map (λ m. m - 1) (pending_in (shown n) (before n))) None
              ≡ Some latency
              → (starts n ≡ true) × (waits_by b (pending_in (shown n) (before n)) ≡ Some latency)
          go true is h = (sym is, h)
          go false is h = absurd (none_some latency h)

      of_interrupts : AreOfInterrupts S mode arrivals n k
      of_interrupts = record {
        waits = λ wait h.
            wait_is (pending_in (shown n) (before n)) aged wait (sym waited_is ∙ h);
        all = λ since is.
            waited_is ∙ all_waits (pending_in (shown n) (before n)) aged since is;
        latencies = λ latency h.
            let both = latency_is latency h in (
              both.0,
              wait_is (pending_in (shown n) (before n)) aged latency (sym waited_is ∙ both.1),
            );
      }

pub latencies_are_of_interrupts : LatenciesAreOfInterrupts
latencies_are_of_interrupts S mode arrivals n k proper going known =
    of_interrupts S mode arrivals k proper known n going
