-- Where a task executes next, and nothing else comes before its instruction.
use Rattle.std.proofs.Common.{◌≡◌, ℕ, suc, ◌<◌, Bool, true, false, cond, not, ◌&&◌, length, refl, sym, ◌∙◌, ap, subst}
use Rattle.std.specs.Option.{option_map}
use Rattle.std.specs.Prelude.{Option, Some, None, IfSome}
use Rattle.std.proofs.lemmas.Bool.{not-true}
use Rattle.osek_base.specs.System.{System}
use Rattle.osek_base.specs.Ceiling.{top_priority}
use Rattle.osek_base.proofs.PlaceLemmas.{and_split}
use Rattle.osek_base.specs.Instruction.{Context}
use Rattle.osek_base.specs.declared.ids.Owner.{Owner}
use Rattle.osek_base.specs.Tick.{moved, routine_choice}
use Rattle.law_runs.proofs.Formed.{IsPlaced}
use Rattle.law_kept.specs.Kept.{Kept}
use Rattle.law_kept.specs.Standing.{Fits, IsRunnerPlaced}
use Rattle.law_kept.specs.Moves.{may_dispatch_in, slot_changed}
use Rattle.law_kept.specs.KeptService.{KeptCaller, ByTask, ByRoutine, ByNobody, bare, slot_moved}
use Rattle.law_kept.specs.KeptTick.{routine_started_in, start_phase_in, with_context_in}
use Rattle.services.specs.Objects.{Objects, kept_in}
use Rattle.ready_queues.specs.QueueMoves.{highest}
use Rattle.services.specs.Dispatched.{is_dispatched_by, is_dispatched_in, runs_on}
use Rattle.services.specs.Quiet.{IsSettled}
use Rattle.services.specs.Steady.{IsSteady}
use Rattle.services.proofs.DispatchedLemmas.{rescheduled_again}

module _ (S : System) (o : Kept) (known : is_dispatched_in S o ≡ true) (settled : IsSettled S o) where
  stands_so : (t : ℕ) → o.running ≡ Some t → o.gone ≡ false
  stands_so t runs =
      let top : Option ℕ = highest (suc (top_priority S)) o.queues in
      let so : (not o.gone && runs_on S t (o.slots t) top) ≡ true =
      sym (ap (λ r. is_dispatched_by S r o.gone o.slots top) runs) ∙ known in
      not-true o.gone (and_split (not o.gone) (runs_on S t (o.slots t) top) so).0

  pub steady : (r : Option ℕ) → r ≡ o.running → IfSome r (IsSteady S o)
  steady None is = _
  steady (Some t) is = record {
    on = settled.on;
    runs = sym is;
    stands = stands_so t (sym is);
    no_routine = settled.no_routine;
    none_pending = settled.none_pending;
    known = known;
    dispatched = rescheduled_again S o known;
  }

-- the running task is one of the system, and stands at a place of its program
pub runner_known : (S : System) (o : Kept) (t : ℕ) → Fits S o → o.running ≡ Some t → t < length S.tasks
runner_known S o t fits runs = subst (λ r. IfSome r (λ (v : ℕ). v < length S.tasks)) runs fits.running

pub runner_placed : (S : System) (o : Kept) (t : ℕ) → Fits S o → o.running ≡ Some t → o.gone ≡ false
    → IsPlaced S (Owner.Task t) (o.slots t).context
runner_placed S o t fits runs stands =
    let there : IsRunnerPlaced S o t = subst (λ r. IfSome r (IsRunnerPlaced S o)) runs (fits.runner stands) in
    there.placed

-- ---- steps that leave a system settled

-- a step that leaves it so
pub still_settled : (o n : Objects) (f : Kept → Kept) → n.system ≡ o.system → kept_in n ≡ f (kept_in o)
    → IsSettled o.system (f (kept_in o)) → IsSettled n.system (kept_in n)
still_settled o n f system new settled =
    subst (λ S. IsSettled S (kept_in n)) (sym system) (subst (IsSettled o.system) (sym new) settled)

module _ (S : System) (o : Kept) (settled : IsSettled S o) where
  -- who executes goes on
  pub gone_on_settled : (d : KeptCaller) (x : Context) → IsSettled S (with_context_in d x o)
  gone_on_settled (ByTask t) x = go o.gone
    where
      go : (b : Bool) → IsSettled S (cond b o (slot_changed t (slot_moved x) o))
      go true = settled
      go false = record { on = settled.on; runs = settled.runs; no_routine = settled.no_routine; none_pending = settled.none_pending }
  gone_on_settled ByRoutine x = record {
    on = settled.on;
    runs = settled.runs;
    no_routine = ap (option_map (moved x)) settled.no_routine;
    none_pending = settled.none_pending;
  }
  gone_on_settled ByNobody x = settled

  -- no routine starts
  none_starts : start_phase_in S o ≡ o
  unfolding start_phase_in
  none_starts = go (may_dispatch_in o)
    where
      go : (b : Bool) → cond b (routine_started_in (routine_choice S (bare o)) o) o ≡ o
      go true = ap (λ c. routine_started_in c o) settled.none_pending
      go false = refl

  pub started_settled : IsSettled S (start_phase_in S o)
  started_settled = subst (IsSettled S) (sym none_starts) settled
