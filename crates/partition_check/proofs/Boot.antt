-- Start-up in the system and in its upper core.
use Rattle.std.proofs.Common.{◌≡◌, ℕ, suc, ◌<◌, ◌≤◌, Bool, true, false, cond, ◌&&◌, List, [], ◌∷◌, map, take, replicate, length, refl, sym, ◌∙◌, ap, ap₂, subst, arith}
use Rattle.std.proofs.Math.Path.{fun_ext}
use Rattle.std.specs.Prelude.{Option, None}
use Rattle.std.specs.List.{filter, AllByRecursion}
use Rattle.std.proofs.lemmas.List.{length-map, length-replicate, take-replicate, get_or-map, get_or-replicate}
use Rattle.std.proofs.lemmas.Simd.{splat_is_map}
use Rattle.osek_base.specs.declared.trace_event.TraceEvent.{TraceEvent}
use Rattle.osek_base.specs.Lists.{below, is_in}
use Rattle.osek_base.specs.System.{System, Task, Alarm, alarm, no_alarm, start_in, starts_in}
use Rattle.osek_base.specs.State.{State, Expiry, Words, still, no_shared, shared_window}
use Rattle.osek_base.specs.Alarm.{expiry}
use Rattle.osek_base.specs.Activation.{activated}
use Rattle.osek_base.specs.Reschedule.{hooked, reschedule}
use Rattle.osek_base.specs.Trace.{boot, all_activated, starting_tasks, starting_alarms, first_expiry}
use Rattle.osek_base.specs.Upper.{is_upper_task, is_upper_alarm, is_upper_owner}
use Rattle.osek_base.specs.Agree.{recounted, is_upper_declared, upper_resources, upper_alarms, upper_routine, upper_core}
use Rattle.partition_check.proofs.UpperState.{up, upper_count, up_word}
use Rattle.partition_check.proofs.Falling.{kept_short, kept_same, map_kept, map_twice}
use Rattle.partition_check.proofs.CoreFacts.{lt_true, lt_false}
use Rattle.partition_check.proofs.PriorityUp.{first_tasks}
use Rattle.partition_check.proofs.Dispatch.{lines_append, lines_one, hooked_one}
use Rattle.partition_check.proofs.DispatchUp.{reschedule_layered, dispatch_up, dispatch_lines}
use Rattle.partition_check.proofs.AlarmActs.{AreAlike, all_below}
use Rattle.partition_check.proofs.EffectsUp.{activated_up}
use Rattle.partition_check.proofs.ActionsUp.{activated_lower_up, activated_layered}
use Rattle.partition_check.proofs.Shared.{IsCounterpart, IsLow, IsLayered, SameLines}
use Rattle.partition_check.proofs.ListsUp.{all_filter}

-- ---- the state before the first activation

-- alarms as they start, with no job
abbrev pub begun : System → ℕ → State
begun S mode = record (still S) { alarms = starting_alarms S mode }

recounted_starts : (mode i : ℕ) (all : List Alarm)
    → map (λ a. first_expiry (start_in mode a.autostart)) (recounted i all) ≡ map (λ (a : Alarm). first_expiry (start_in mode a.autostart)) all
recounted_starts mode i [] = refl
recounted_starts mode i (a ∷ all) =
    ap (λ (rest : List (Option Expiry)). first_expiry (start_in mode a.autostart) ∷ rest) (recounted_starts mode (suc i) all)

module _ (S : System) (p : ℕ) (mode : ℕ) where
  starts_up : map (expiry (begun S mode)) (upper_alarms S p) ≡ starting_alarms (upper_core S p) mode
  starts_up =
      map_kept (expiry (begun S mode)) (λ a. first_expiry (start_in mode (alarm S a).autostart)) (is_upper_alarm S p) (length S.alarms)
      (λ a inside. get_or-map (λ (x : Alarm). first_expiry (start_in mode x.autostart)) S.alarms a no_alarm None inside)
      ∙ sym (map_twice (λ (x : Alarm). first_expiry (start_in mode x.autostart)) (alarm S) (upper_alarms S p))
      ∙ sym (recounted_starts mode 0 (map (alarm S) (upper_alarms S p)))

  no_words : ◌≡◌ {A = Words} (λ owner index. up_word (is_upper_owner S p owner) 0) (λ owner index. 0)
  no_words = fun_ext (λ owner. fun_ext (λ index. go (is_upper_owner S p owner)))
    where
      go : (b : Bool) → up_word b 0 ≡ 0
      go true = refl
      go false = refl

  no_shared_up : (both : IsCounterpart S p)
      → map (shared_window (begun S mode).shared) (upper_resources S p)
      ≡ replicate (length (upper_core S p).resources) no_shared
  no_shared_up both =
      map_kept (shared_window (begun S mode).shared) (λ r. no_shared) (is_upper_declared S p) (length S.resources)
      (λ r inside. get_or-replicate (length S.resources) r no_shared [] inside)
      ∙ sym (splat_is_map (upper_resources S p) (length (upper_core S p).resources) no_shared (sym both.resource_count))

  no_jobs : (both : IsCounterpart S p) → take {A = ℕ} (upper_count S p) (replicate (length S.tasks) 0) ≡ replicate (length (upper_core S p).tasks) 0
  no_jobs both =
      take-replicate (upper_count S p) (length S.tasks) 0 both.within ∙ ap (λ n. replicate n 0) (sym both.task_count)

  begun_up : (both : IsCounterpart S p) → up S p (begun S mode) ≡ begun (upper_core S p) mode
  begun_up both =
      let zeros = no_jobs both in
      let flags : replicate (length S.routines) false ≡ replicate (length (upper_core S p).routines) false =
      ap (λ n. replicate n false) (sym (length-map S.routines (upper_routine S p))) in
      let windows = no_shared_up both in
      λ i. record (begun (upper_core S p) mode) {
        made = zeros i;
        pending = flags i;
        alarms = starts_up i;
        words = no_words i;
        masks = zeros i;
        shared = windows i;
      }

  begun_layered : IsLayered S p (begun S mode)
  begun_layered = record {
    made = length-replicate (length S.tasks) 0;
    masks = length-replicate (length S.tasks) 0;
    alarms = length-map S.alarms (λ a. first_expiry (start_in mode a.autostart));
    shared = length-replicate (length S.resources) no_shared;
    jobs = tt;
    running = λ id e. absurd (grind arith);
    quiet = λ id e low idle. refl;
  }

-- ---- the tasks that start

filter_twice : (f g : ℕ → Bool) (xs : List ℕ) → filter f (filter g xs) ≡ filter (λ x. f x && g x) xs
filter_twice f g [] = refl
filter_twice f g (x ∷ xs) = go (f x) refl (g x) (filter_twice f g xs)
  where
    go : (a : Bool) → f x ≡ a → (b : Bool) → filter f (filter g xs) ≡ filter (λ y. f y && g y) xs
        → filter f (cond b (x ∷ filter g xs) (filter g xs)) ≡ cond (f x && b) (x ∷ filter (λ y. f y && g y) xs) (filter (λ y. f y && g y) xs)
    go true e true so_far = rw e (ap (λ rest. x ∷ rest) so_far)
    go true e false so_far = rw e so_far
    go false e true so_far = rw e so_far
    go false e false so_far = rw e so_far

module _ (S : System) (p : ℕ) (both : IsCounterpart S p) (mode : ℕ) where
  starts_same : (t : ℕ) → t < upper_count S p → (is_upper_task S p t && starts_in S mode t) ≡ starts_in (upper_core S p) mode t
  starts_same t inside =
      ap (λ b. b && starts_in S mode t) (both.split t (omega (arith, inside, both.within)) ∙ lt_true t (upper_count S p) inside)
      ∙ sym (ap (λ (a : Task). is_in mode a.autostart) (both.tasks t inside))

  starts_not : (t : ℕ) → upper_count S p ≤ t → t < length S.tasks → (is_upper_task S p t && starts_in S mode t) ≡ false
  starts_not t past inside =
      ap (λ b. b && starts_in S mode t) (both.split t inside ∙ lt_false t (upper_count S p) past)

  -- of the core the upper ones start
  starting_up : filter (is_upper_task S p) (starting_tasks S mode) ≡ starting_tasks (upper_core S p) mode
  starting_up =
      filter_twice (is_upper_task S p) (starts_in S mode) (below (length S.tasks))
      ∙ kept_short (λ t. is_upper_task S p t && starts_in S mode t) (upper_count S p) (length S.tasks) both.within starts_not
      ∙ kept_same (λ t. is_upper_task S p t && starts_in S mode t) (starts_in (upper_core S p) mode) (upper_count S p) starts_same
      ∙ ap (λ n. filter (starts_in (upper_core S p) mode) (below n)) (sym both.task_count)

-- ---- activations

module _ (S : System) (p : ℕ) (both : IsCounterpart S p) where
  -- states alike after some activations
  pub record Activates (mine theirs : State) : Type 0 where
    pub state : up S p mine ≡ theirs
    pub layered : IsLayered S p mine

  all_up : (ts : List ℕ) → AllByRecursion (λ t. t < length S.tasks) ts → (s : State) → IsLayered S p s
      → Activates (all_activated S ts s) (all_activated (upper_core S p) (filter (is_upper_task S p) ts) (up S p s))
  all_up [] all s layered = record { state = refl; layered = layered }
  all_up (t ∷ ts) all s layered =
      go (is_upper_task S p t) refl (all_up ts all.1 (activated S t s) (activated_layered S p t s all.0 layered))
    where
      go : (b : Bool) → is_upper_task S p t ≡ b
          → Activates (all_activated S ts (activated S t s)) (all_activated (upper_core S p) (filter (is_upper_task S p) ts) (up S p (activated S t s)))
          → Activates (all_activated S ts (activated S t s))
          (all_activated (upper_core S p) (cond b (t ∷ filter (is_upper_task S p) ts) (filter (is_upper_task S p) ts)) (up S p s))
      go true h rest =
          subst (λ x. Activates (all_activated S ts (activated S t s)) (all_activated (upper_core S p) (filter (is_upper_task S p) ts) x))
          (sym (activated_up S p both t s (first_tasks S p both t all.0 h) h)) rest
      go false h rest =
          subst (λ x. Activates (all_activated S ts (activated S t s)) (all_activated (upper_core S p) (filter (is_upper_task S p) ts) x))
          (activated_lower_up S p both t s all.0 h) rest

-- ---- boot

startup_lines : (S : System) (p : ℕ) → SameLines S p (hooked S.hooks.startup TraceEvent.Startup) (hooked S.hooks.startup TraceEvent.Startup)
startup_lines S p =
    hooked_one S p S.hooks.startup TraceEvent.Startup TraceEvent.Startup
    (lines_one S p TraceEvent.Startup TraceEvent.Startup refl refl (λ n. refl))

module _ (S : System) (p : ℕ) (both : IsCounterpart S p) (low : IsLow S p) (mode : ℕ) where
  abbrev started : State
  started = all_activated S (starting_tasks S mode) (begun S mode)

  abbrev core_started : State
  core_started = all_activated (upper_core S p) (starting_tasks (upper_core S p) mode) (begun (upper_core S p) mode)

  -- boot is alike in both
  pub boot_alike : AreAlike S p (boot S mode) (boot (upper_core S p) mode)
  unfolding boot
  boot_alike =
      let many : Activates S p both started (all_activated (upper_core S p) (filter (is_upper_task S p) (starting_tasks S mode)) (up S p (begun S mode))) =
      all_up S p both (starting_tasks S mode) (all_filter (λ t. t < length S.tasks) (starts_in S mode) (below (length S.tasks)) (all_below (length S.tasks))) (begun S mode) (begun_layered S p mode) in
      let same : up S p started ≡ core_started =
      many.state
      ∙ ap₂ (λ ts x. all_activated (upper_core S p) ts x) (starting_up S p both mode) (begun_up S p mode both) in
      record {
        state = dispatch_up S p both low started many.layered ∙ ap (λ x. (reschedule (upper_core S p) x).state) same;
        lines =
            lines_append S p (hooked S.hooks.startup TraceEvent.Startup) (reschedule S started).events (hooked S.hooks.startup TraceEvent.Startup) (reschedule (upper_core S p) core_started).events (startup_lines S p)
            (subst (λ x. SameLines S p (reschedule S started).events (reschedule (upper_core S p) x).events) same (dispatch_lines S p both low started many.layered));
        layered = reschedule_layered S p both low started many.layered;
      }
