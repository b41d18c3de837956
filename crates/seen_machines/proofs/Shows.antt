-- What is seen by what is known of a tick is what the tick shows.
use Rattle.std.proofs.Common.{◌≡◌, ℕ, zero, suc, ◌+◌, ◌-◌, ◌<◌, false, not, ◌&&◌, List, [], ◌∷◌, ◌++◌, map, length, slice_index_or, refl, sym, ◌∙◌, ap, ap₂, arith}
use Rattle.std.proofs.lemmas.List.{map-append}
use Rattle.std.specs.Prelude.{Option}
use Rattle.std.specs.Option.{option_map}
use Rattle.osek_base.specs.declared.executed.Executed.{Executed}
use Rattle.osek_base.specs.declared.ids.Owner.{Owner}
use Rattle.osek_base.specs.Lists.{below}
use Rattle.osek_base.specs.System.{System}
use Rattle.law_kept.specs.Kept.{Kept}
use Rattle.law_kept.specs.KeptService.{task_state_in}
use Rattle.law_future.specs.Spans.{is_pending_in}
use Rattle.kernel.specs.declared.acted.Acted.{Acted}
use Rattle.kernel.specs.Told.{acted_in}
use Rattle.seen_ticks.specs.Told.{task_at_in}
use Rattle.seen_ticks.specs.declared.observation.Observation.{Observation}
use Rattle.seen_ticks.specs.Seen.{seen_of}
use Rattle.seen_ticks.specs.Observed.{activations_by, answered, failure_of, is_by, is_number, is_waiting, lost_of, one_if, owner_of, state_seen, times}
use Rattle.seen_ticks.proofs.SeenSteps.{read_at, seen_count}
use Rattle.law_seen.specs.Seen.{answered_in, executor_in, failure_in, seen_in}
use Rattle.law_seen.specs.Shown.{KeptTicked, alarm_seen_in, holders_seen_in, routine_seen_in, task_seen_in, ticked_in}
use Rattle.seen_machines.specs.declared.told.Told.{Told}
use Rattle.seen_machines.specs.Told.{IsOfAll, IsTold, alarm_seen_by, jobs_told, pending_told, routine_seen_by, task_at_told, task_seen_by, without_job}

map_same : {X : Type 0} (f g : ℕ → X) (n : ℕ) → ((i : ℕ) → i < n → f i ≡ g i)
    → map f (below n) ≡ map g (below n)
map_same f g zero h = refl
map_same f g (suc n) h =
    map-append f (below n) (n ∷ [])
    ∙ ap₂ (λ xs y. xs ++ y ∷ []) (map_same f g n (λ i low. h i (omega (arith, low))))
    (h n (omega arith))
    ∙ sym (map-append g (below n) (n ∷ []))

pub of_all : (S : System) (k : KeptTicked) (w : Told) → IsTold S k w → IsOfAll S w
of_all S k w told = record {
  jobs = seen_count (λ t. (k.before.slots t).count) (length S.tasks) w.before.jobs.items told.jobs;
  pending =
      seen_count (is_pending_in k.before) (length S.routines) w.before.pending.items told.pending;
  tasks = seen_count (task_at_in S k.at) (length S.tasks) w.at.tasks.items told.tasks;
}

-- beside the picture behind the tick, and the alarms that acted in it
module _ (S : System) (arrived : List ℕ) (o : Kept) (w : Told) (behind : Kept) (acted : Acted)
    (told : IsTold S (ticked_in S false arrived o) w)
    (after : behind ≡ (ticked_in S false arrived o).after)
    (acts : acted ≡ acted_in S o)
    (stays : behind.pending ≡ (ticked_in S false arrived o).at.pending) where
  abbrev k : KeptTicked
  k = ticked_in S false arrived o

  task_is : (t : ℕ) → t < length S.tasks → task_seen_by S w behind acted t ≡ task_seen_in S k t
  task_is t low =
      let xs = w.at.tasks.items in
      let js = w.before.jobs.items in
      let at : task_at_told w t ≡ task_at_in S k.at t =
      read_at (task_at_in S k.at) (length S.tasks) xs xs t t without_job refl told.tasks refl low in
      let jobs : jobs_told w t ≡ (o.slots t).count =
      read_at (λ u. (o.slots u).count) (length S.tasks) js js t t 0 refl told.jobs refl low in
      λ i. record {
        state = state_seen (is_by (Owner.Task t) (told.executed i)) (at i).state;
        priority = (at i).priority;
        jobs = (at i).jobs;
        made = ((after i).slots t).count + one_if (is_number t (told.ending i)) - jobs i;
        refused =
            one_if (is_number t (told.refusing i)) + activations_by S t (acts i).refused;
        ended = is_number t (told.ending i);
        waits =
            is_by (Owner.Task t) (told.executed i) && is_waiting (task_state_in (after i) t);
      }

  routine_is : (i : ℕ) → i < length S.routines
      → routine_seen_by w behind arrived i ≡ routine_seen_in k i
  routine_is i low =
      let xs = w.before.pending.items in
      let was : pending_told w i ≡ is_pending_in o i =
      read_at (is_pending_in o) (length S.routines) xs xs i i false refl told.pending refl low in
      λ j. record {
        executes = is_by (Owner.Routine i) (told.executed j);
        is_pending = slice_index_or (stays j) i false;
        is_started =
            is_by (Owner.Routine i) (told.executed j) && not (is_number i (told.active j));
        arrived = times i arrived;
        lost = lost_of (was j) (times i arrived);
      }

  pub tasks_are : map (task_seen_by S w behind acted) (below (length S.tasks))
      ≡ map (task_seen_in S k) (below (length S.tasks))
  tasks_are =
      map_same (task_seen_by S w behind acted) (task_seen_in S k) (length S.tasks) task_is

  pub routines_are : map (routine_seen_by w behind arrived) (below (length S.routines))
      ≡ map (routine_seen_in k) (below (length S.routines))
  routines_are =
      map_same (routine_seen_by w behind arrived) (routine_seen_in k) (length S.routines) routine_is

  pub alarms_are : map (alarm_seen_by acted) (below (length S.alarms))
      ≡ map (alarm_seen_in k) (below (length S.alarms))
  alarms_are = ap (λ (x : Acted). map (alarm_seen_by x) (below (length S.alarms))) acts

pub seen_is : (S : System) (arrived : List ℕ) (o : Kept) (seen : Observation)
    → seen.tasks.items ≡ map (task_seen_in S (ticked_in S false arrived o)) (below (length S.tasks))
    → seen.routines.items
    ≡ map (routine_seen_in (ticked_in S false arrived o)) (below (length S.routines))
    → seen.holders.items ≡ holders_seen_in S (ticked_in S false arrived o).at
    → seen.alarms.items
    ≡ map (alarm_seen_in (ticked_in S false arrived o)) (below (length S.alarms))
    → seen_of seen ≡ seen_in S arrived o
unfolding seen_in
seen_is S arrived o seen tasks routines holders alarms = λ i. record {
  tasks = tasks i;
  routines = routines i;
  holders = holders i;
  alarms = alarms i;
}

-- who executed, and what that was answered, where the instruction is the tick's
module _ (S : System) (arrived : List ℕ) (o : Kept) (told : Option Executed)
    (is : told ≡ (ticked_in S false arrived o).executed) where
  pub executor_is : option_map owner_of told ≡ executor_in S arrived o
  unfolding executor_in
  executor_is = ap (option_map owner_of) is

  pub answered_is : answered told ≡ answered_in S arrived o
  unfolding answered_in
  answered_is = ap answered is

  pub failure_is : failure_of told ≡ failure_in S arrived o
  unfolding failure_in
  failure_is = ap failure_of is
