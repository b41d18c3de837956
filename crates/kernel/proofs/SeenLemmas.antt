-- What is seen of what a kernel keeps is what the state of its run has.
use Rattle.std.proofs.Common.{◌≡◌, ℕ, Bool, cond, List, [], ◌∷◌, ◌++◌, map, length, ◌∙◌, ap, ap₂}
use Rattle.std.specs.Prelude.{Option}
use Rattle.std.proofs.Math.Path.{fun_ext}
use Rattle.osek_base.specs.declared.arrivals.Arrival.{Arrival}
use Rattle.osek_base.specs.declared.ids.ResId.{ResId}
use Rattle.osek_base.specs.Lists.{below}
use Rattle.osek_base.specs.System.{System}
use Rattle.osek_base.specs.State.{State, jobs_of}
use Rattle.osek_base.specs.Proper.{IsProper}
use Rattle.osek_base.specs.Trace.{run}
use Rattle.law_runs.proofs.RankedTick.{IsRunState, run_ordered}
use Rattle.law_runs.proofs.FormedTick.{run_form}
use Rattle.law_kept.specs.Kept.{Kept, kept}
use Rattle.law_kept.specs.Seen.{holder_in}
use Rattle.law_kept.proofs.Ticked.{settled_of, known_of}
use Rattle.seen_ticks.specs.Observed.{holders_seen}
use Rattle.seen_ticks.specs.Shown.{holder}
use Rattle.seen_ticks.specs.Told.{task_at, task_at_in}
use Rattle.seen_ticks.proofs.SeenLemmas.{counted, holder_is, task_is}
use Rattle.services.specs.Objects.{Objects, kept_in, kept_of}
use Rattle.machine.specs.Windows.{word}
use Rattle.kernel.specs.Holders.{holders_in}
use Rattle.kernel.specs.Machine.{HasCome, Machine, next_tick, system_of}

-- ---- what is kept of the state of a run

module _ (counting : Bool) (S : System) (proper : IsProper S) (mode : ℕ) (arrivals : List Arrival) (m : Machine)
    (come : HasCome counting S mode arrivals (next_tick m) m)
    (o : Objects) (here : o.system ≡ system_of m) (objects : record o { tick = next_tick m } ≡ m.processor.objects) where
  system : o.system ≡ S
  system = here ∙ come.at.system

  same : kept_of (word m.processor.words) (record o { tick = next_tick m }) ≡ kept S (run S mode arrivals (next_tick m)).state
  same = ap (kept_of (word m.processor.words)) objects ∙ come.at.same

  pub count_seen : (t : ℕ) → ((kept_in o).slots t).count ≡ length (jobs_of t (run S mode arrivals (next_tick m)).state.jobs)
  count_seen t = ap (λ (k : Kept). (k.slots t).count) same ∙ counted (jobs_of t (run S mode arrivals (next_tick m)).state.jobs)

  pub holder_seen : (r : ResId) → holder_in o.system (kept_in o) r ≡ holder S (run S mode arrivals (next_tick m)).state r
  holder_seen r =
      ap (λ T. holder_in T (kept_in o) r) system ∙ ap (λ k. holder_in S k r) same
      ∙ holder_is S (run S mode arrivals (next_tick m)).state r

  pub holders_told : holders_in o.system (kept_in o) ≡ holders_seen S (run S mode arrivals (next_tick m)).state
  holders_told =
      ap (λ T. holders_in T (kept_in o)) system
      ∙ ap (λ (h : ResId → Option ℕ). map (λ r. h (ResId.Declared r)) (below (length S.resources))
      ++ cond S.use_res_scheduler (h ResId.Scheduler ∷ []) [])
      (fun_ext (λ r. ap (λ k. holder_in S k r) same ∙ holder_is S (run S mode arrivals (next_tick m)).state r))

  pub task_seen : (t : ℕ) → task_at_in o.system (kept_in o) t ≡ task_at S (run S mode arrivals (next_tick m)).state t
  task_seen t =
      let s : State = (run S mode arrivals (next_tick m)).state in
      let good : IsRunState S s = run_ordered S proper mode arrivals (next_tick m) in
      ap₂ (λ T k. task_at_in T k t) system same
      ∙ task_is S s (settled_of S s good.single good.ordered.ranked) (known_of S s (run_form S proper mode arrivals (next_tick m))) t
