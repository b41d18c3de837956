-- While a job of an upper task stands in a run, it does so in the runs of systems that agree.
use Rattle.std.proofs.Common.{◌≡◌, ℕ, ◌<◌, ◌≤◌, Bool, false, ◌||◌, List, length, sym, ◌∙◌, ap, subst}
use Rattle.osek_base.specs.declared.arrivals.Arrival.{Arrival}
use Rattle.osek_base.specs.Proper.{IsProper}
use Rattle.osek_base.specs.System.{System}
use Rattle.osek_base.specs.Trace.{arriving, run}
use Rattle.seen_ticks.specs.declared.task_seen.TaskSeen.{TaskSeen}
use Rattle.seen_ticks.specs.Observed.{task_seen, tick_at}
use Rattle.seen_ticks.specs.Seen.{unseen_task}
use Rattle.law_kept.specs.Kept.{Kept}
use Rattle.law_future.specs.Alike.{kept_after}
use Rattle.law_future.proofs.Tables.{table_at}
use Rattle.law_seen.specs.Seen.{seen_in}
use Rattle.law_seen.specs.Shown.{task_seen_in, ticked_in}
use Rattle.law_seen.proofs.Shown.{runs_show}
use Rattle.view_figures.specs.ResponseSums.{standing_jobs}
use Rattle.search_labels.specs.Ticks.{task_in}
use Rattle.law_bounds.specs.Unending.{Stands}
use Rattle.law_upper.specs.Above.{AreOneAbove, IsUpperTask}
use Rattle.law_upper.specs.ShownAbove.{TicksShowTheSame}
use Rattle.law_upper.proofs.Sides.{upper_there}

-- what is seen of a task but for the jobs that are made, of which boot's count in tick 0 alone
abbrev but_made : TaskSeen → TaskSeen
but_made x = record x { made = 0 }

abbrev leaves : TaskSeen → Bool
leaves x = x.ended || x.waits

task_at : (S : System) (arrived : List ℕ) (o : Kept) (t : ℕ) → t < length S.tasks
    → task_in (seen_in S arrived o) t ≡ task_seen_in S (ticked_in S false arrived o) t
unfolding seen_in
task_at S arrived o t low =
    table_at (task_seen_in S (ticked_in S false arrived o)) (length S.tasks) t unseen_task low

seen_is : (S : System) (mode : ℕ) (arrivals : List Arrival) (n t : ℕ) → IsProper S
    → (run S mode arrivals n).state.over ≡ false → t < length S.tasks
    → but_made (task_in (seen_in S (arriving arrivals n) (kept_after S mode arrivals n)) t)
    ≡ but_made (task_seen S (tick_at S mode arrivals n) t)
seen_is S mode arrivals n t proper going low =
    ap but_made (task_at S (arriving arrivals n) (kept_after S mode arrivals n) t low)
    ∙ sym (ap but_made ((runs_show S mode arrivals n proper going).tasks t))

module _ (S B : System) (p : ℕ) (pair : AreOneAbove S B p) (shown : TicksShowTheSame S B p)
    (over : (mode : ℕ) (arrivals : List Arrival) (n : ℕ)
    → (run S mode arrivals n).state.over ≡ (run B mode arrivals n).state.over) where
  pub stands_there : (mode : ℕ) (arrivals : List Arrival) (n t : ℕ) → IsUpperTask S p t
      → Stands S mode arrivals n t → Stands B mode arrivals n t
  stands_there mode arrivals n t is it =
      let going : (run B mode arrivals n).state.over ≡ false =
      sym (over mode arrivals n) ∙ it.going in
      let same : but_made (task_in (seen_in S (arriving arrivals n)
      (kept_after S mode arrivals n)) t)
      ≡ but_made (task_in (seen_in B (arriving arrivals n) (kept_after B mode arrivals n)) t) =
      seen_is S mode arrivals n t pair.proper it.going is.known
      ∙ ap but_made ((shown mode arrivals n it.going).tasks t is)
      ∙ sym (seen_is B mode arrivals n t pair.proper_there going
      (upper_there S B p pair t is).known) in
      record {
        going = going;
        stands = subst (λ (x : TaskSeen). 1 ≤ standing_jobs x) same it.stands;
        stays = sym (ap leaves same) ∙ it.stays;
      }
