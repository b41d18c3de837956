-- Boot leaves no more than is paid for it.
use Rattle.std.proofs.Common.{ℕ, zero, suc, ◌≡◌, ◌≤◌, ◌+◌, Bool, true, false, cond, ◌&&◌, List, [], ◌∷◌, refl, sym, ◌∙◌, ap, subst, arith, replicate, length}
use Rattle.std.specs.Prelude.{slice_index, slice_index_or, slice_set, ◌==◌}
use Rattle.std.specs.List.{filter, sum_by, list_any}
use Rattle.std.proofs.lemmas.Bool.{le-leb}
use Rattle.std.proofs.lemmas.List.Sums.{sum_by-cons, sum_by_push}
use Rattle.osek_base.specs.declared.arrivals.Arrival.{Arrival}
use Rattle.osek_base.specs.Activation.{activated}
use Rattle.osek_base.specs.Lists.{below, is_empty}
use Rattle.osek_base.specs.Proper.{IsProper}
use Rattle.osek_base.specs.State.{Job, State, jobs_of}
use Rattle.osek_base.specs.System.{System, is_extended, priority_of}
use Rattle.osek_base.specs.Tick.{is_pending}
use Rattle.osek_base.specs.Trace.{all_activated, boot, run, starting_tasks}
use Rattle.law_runs.proofs.Foremost.{equal, idle_priority, self_equal}
use Rattle.law_runs.proofs.Lists.{all_any, clash}
use Rattle.law_runs.proofs.RankedMoves.{made_job}
use Rattle.law_runs.proofs.Single.{IsSingle}
use Rattle.law_runs.proofs.SingleTick.{begun, begun_single, first_single, started_keep}
use Rattle.law_windows.specs.Work.{goes_at, is_pending_at}
use Rattle.law_windows.proofs.Losses.{all_pending, none_on}
use Rattle.law_costs.specs.Left.{Weights, counts, left, left_of_active, left_of_job, left_of_jobs, left_of_pending, of_all_alarms, on, switch_of}
use Rattle.law_costs.specs.Known.{Known}
use Rattle.law_costs.specs.Paying.{PayForBoot, PayForDispatch, PayForStarts, is_upper}
use Rattle.law_costs.proofs.Alarms.{no_more}
use Rattle.law_costs.proofs.Dispatch.{high_parts, is_high, reschedule_less}
use Rattle.law_costs.proofs.Events.{IsAlike, alike_left, set_other, set_zero}
use Rattle.law_costs.proofs.Switches.{all_on}
use Rattle.law_costs.proofs.Totals.{none_any}
use Rattle.law_costs.proofs.Work.{none_left}

pub boot_state : (S : System) (mode : ℕ) (arrivals : List Arrival)
    → (run S mode arrivals 0).state ≡ (boot S mode).state
unfolding run
boot_state S mode arrivals = refl

-- ---- what activations leave alone

activated_switch : (S : System) (t : ℕ) (s : State) → switch_of (activated S t s) ≡ switch_of s
unfolding activated
activated_switch S t s = refl

activated_active : (S : System) (t : ℕ) (s : State) → (activated S t s).active ≡ s.active
unfolding activated
activated_active S t s = refl

pub all_switch : (S : System) (ts : List ℕ) (s : State)
    → switch_of (all_activated S ts s) ≡ switch_of s
all_switch S [] s = refl
all_switch S (t ∷ ts) s = all_switch S ts (activated S t s) ∙ activated_switch S t s

pub all_active : (S : System) (ts : List ℕ) (s : State) → (all_activated S ts s).active ≡ s.active
all_active S [] s = refl
all_active S (t ∷ ts) s = all_active S ts (activated S t s) ∙ activated_active S t s

-- no event is set
abbrev IsClear : State → Type 0
IsClear s = (t : ℕ) → slice_index s.masks t ≡ 0

clear_where : (masks : List ℕ) (t u : ℕ) (b : Bool) → ((v : ℕ) → slice_index masks v ≡ 0)
    → slice_index (cond b (slice_set masks t 0) masks) u ≡ 0
clear_where masks t u false clear = clear u
clear_where masks t u true clear = go (u == t) refl
  where
    go : (b : Bool) → (u == t) ≡ b → slice_index (slice_set masks t 0) u ≡ 0
    go true is =
        ap (slice_index (slice_set masks t 0)) (equal u t is) ∙ set_zero masks t
    go false is =
        set_other masks t u 0
        (λ same. clash (sym (ap (λ v. v == t) same ∙ self_equal t) ∙ is))
        ∙ clear u

activated_clears : (S : System) (t : ℕ) (s : State) → IsClear s → IsClear (activated S t s)
unfolding activated
activated_clears S t s clear u =
    clear_where s.masks t u (is_extended S t && is_empty (jobs_of t s.jobs)) clear

all_clear : (S : System) (ts : List ℕ) (s : State) → IsClear s → IsClear (all_activated S ts s)
all_clear S [] s clear = clear
all_clear S (t ∷ ts) s clear = all_clear S ts (activated S t s) (activated_clears S t s clear)

begun_clear : (S : System) (proper : IsProper S) (mode : ℕ) → IsClear (begun S proper mode)
begun_clear S proper mode t = zeros (length S.tasks) t
  where
    zeros : (n u : ℕ) → slice_index (replicate n 0) u ≡ 0
    zeros zero u = refl
    zeros (suc n) zero = refl
    zeros (suc n) (suc u) = zeros n u

none_pending : (S : System) (p : ℕ) (c : Weights) (s : State)
    → s.pending ≡ replicate (length S.routines) false → left_of_pending S p c s ≡ 0
none_pending S p c s is =
    none_left S p c s
    (none_any (is_pending_at S p s) (below (length S.routines))
    (all_any (λ i. is_pending_at S p s i ≡ false) (below (length S.routines))
    (λ i. ap (λ b. b && goes_at S p i) (off i))))
  where
    off : (i : ℕ) → is_pending s i ≡ false
    off i = ap (λ flags. slice_index_or flags i false) is ∙ none_on (length S.routines) i

module _ (S : System) (p : ℕ) (c : Weights) (known : Known)
    (starts : PayForStarts S p c known) where
  -- no event is set while tasks start
  abbrev by : Job → ℕ
  by j = left_of_job S p c [] (λ l. on) j

  abbrev part_on : ℕ → State → ℕ
  part_on t s = by (made_job S t s)

  made_less : (t : ℕ) (s : State)
      → part_on t s ≤ cond (is_upper S p t) (c.of_task t) 0
  made_less t s = go (is_high S p c (made_job S t s)) refl
    where
      go : (b : Bool) → is_high S p c (made_job S t s) ≡ b
          → cond b (c.of_job 0 on (made_job S t s)) 0 ≤ cond (is_upper S p t) (c.of_task t) 0
      go false is = omega arith
      go true is =
          let up : p ≤ priority_of S t =
          subst (λ k. p ≤ k) (idle_priority S (made_job S t s) refl refl)
          (high_parts S p c (made_job S t s) is).1 in
          let pay = starts.task (made_job S t s).id 0 up (λ extended. refl) in
          let whole : cond (is_upper S p t) (c.of_task t) 0 ≡ c.of_task t =
          ap (λ b. cond b (c.of_task t) 0) (le-leb p (priority_of S t) up) in
          omega (arith, pay, whole)

  one_started : (t : ℕ) (s : State)
      → sum_by by (activated S t s).jobs
      ≡ sum_by by s.jobs + part_on t s
  unfolding activated
  one_started t s = sum_by_push by s.jobs (made_job S t s)

  all_started : (ts : List ℕ) (s : State)
      → sum_by by (all_activated S ts s).jobs
      ≤ sum_by by s.jobs + sum_by c.of_task (filter (is_upper S p) ts)
  all_started [] s = omega arith
  all_started (t ∷ ts) s =
      let rest = all_started ts (activated S t s) in
      let here = one_started t s in
      let low = made_less t s in
      let whole = split (is_upper S p t) in
      omega (arith, rest, here, low, whole)
    where
      split : (b : Bool)
          → sum_by c.of_task (cond b (t ∷ filter (is_upper S p) ts) (filter (is_upper S p) ts))
          ≡ cond b (c.of_task t) 0 + sum_by c.of_task (filter (is_upper S p) ts)
      split true = sum_by-cons c.of_task t (filter (is_upper S p) ts)
      split false = omega arith

  pub boot_less : (mode : ℕ) → IsProper S → PayForDispatch S p c → PayForBoot S mode p c
      → left S p c (boot S mode).state ≤ c.costs.at_boot
  unfolding boot
  boot_less mode proper dispatch pays =
      let started : State = all_activated S (starting_tasks S mode) (begun S proper mode) in
      let single : IsSingle S started =
      started_keep S proper (IsSingle S) (first_single S proper) mode
      (begun_single S proper mode) in
      let last = reschedule_less S p c dispatch started single in
      let active : left_of_active c (switch_of started) started.active ≡ 0 =
      ap (left_of_active c (switch_of started))
      (all_active S (starting_tasks S mode) (begun S proper mode)) in
      let pending =
      none_pending S p c started (all_pending S (starting_tasks S mode) (begun S proper mode)) in
      let is : switch_of started ≡ on =
      all_switch S (starting_tasks S mode) (begun S proper mode) in
      let jobs =
      ap (λ find. left_of_jobs S p c started.masks find started.jobs) (all_on started is) in
      let none =
      alike_left S p c (λ l. on) started.masks [] started.jobs
      (all_any (IsAlike started.masks []) started.jobs
      (λ j. all_clear S (starting_tasks S mode) (begun S proper mode) (begun_clear S proper mode)
      j.id.task)) in
      let sums = all_started (starting_tasks S mode) (begun S proper mode) in
      let low = either (list_any (λ j. counts S p on j) started.jobs) sums in
      let held = no_more S c started.alarms in
      omega (arith, last, active, pending, jobs, none, low, held)
    where
      either : (b : Bool)
          → sum_by by
          (all_activated S (starting_tasks S mode) (begun S proper mode)).jobs
          ≤ sum_by by (begun S proper mode).jobs
          + sum_by c.of_task (filter (is_upper S p) (starting_tasks S mode))
          → cond b
          (sum_by by
          (all_activated S (starting_tasks S mode) (begun S proper mode)).jobs)
          c.of_section
          + of_all_alarms S c
          ≤ c.costs.at_boot
      either true sums = let pay = pays.tasks in omega (arith, sums, pay)
      either false sums = pays.section
