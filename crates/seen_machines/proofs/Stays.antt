-- What stays in a part of a machine's tick: who holds each resource up to its instruction, and the
-- flags of pending routines from then on.
use Rattle.std.proofs.Common.{◌≡◌, ℕ, Bool, cond, List, [], ◌∷◌, ◌++◌, map, length, refl, sym, ◌∙◌, ap, subst}
use Rattle.std.specs.Prelude.{Option}
use Rattle.std.specs.List.{find}
use Rattle.std.proofs.Math.Path.{fun_ext}
use Rattle.osek_base.specs.declared.ids.ResId.{ResId}
use Rattle.osek_base.specs.Lists.{below}
use Rattle.osek_base.specs.State.{State}
use Rattle.osek_base.specs.System.{System}
use Rattle.osek_base.specs.Tick.{before_execution, tick}
use Rattle.osek_base.specs.Trace.{run}
use Rattle.law_kept.specs.Kept.{Kept}
use Rattle.law_kept.specs.KeptService.{holds_in}
use Rattle.law_kept.specs.KeptTick.{KeptStep, before_execution_in, tick_in}
use Rattle.law_kept.specs.Moves.{KeptRecorded}
use Rattle.law_kept.proofs.InRuns.{before_alike}
use Rattle.law_kept.proofs.Ticked.{ticks}
use Rattle.law_kept.specs.Seen.{holder_in}
use Rattle.kernel.specs.Machine.{IsOfRun, Machine, next_tick, picture, system_of}
use Rattle.seen_ticks.proofs.Staying.{before_same, pending_tick}
use Rattle.law_seen.specs.Shown.{holders_seen_in}

module _ (S : System) (arrived : List ℕ) (o : Kept) where
  abbrev at : Kept
  at = (before_execution_in S arrived o).state

  held_same : (r : ResId) (t : ℕ) → holds_in r (o.slots t) ≡ holds_in r (at.slots t)
  held_same r t =
      ap (λ held. holds_in r (record (o.slots t) { held = held })) (sym (before_same S arrived o t))

  holder_same : (r : ResId) → holder_in S o r ≡ holder_in S at r
  holder_same r = ap (λ p. find p (below (length S.tasks))) (fun_ext (held_same r))

  pub holders_stay : holders_seen_in S o ≡ holders_seen_in S at
  holders_stay =
      ap (λ (h : ResId → Option ℕ). map (λ r. h (ResId.Declared r)) (below (length S.resources))
      ++ cond S.use_res_scheduler (h ResId.Scheduler ∷ []) []) (fun_ext holder_same)

executing_is : (S : System) (arrived : List ℕ) (s : State)
    → (tick S arrived s).executing ≡ (before_execution S arrived s).state
unfolding tick
executing_is S arrived s = refl

abbrev Stays : System → List ℕ → Kept → Type 0
Stays S arrived o =
    (tick_in S arrived o).after.pending ≡ (before_execution_in S arrived o).state.pending

pub pending_stays : (counted : Bool) (m : Machine) (arrived : List ℕ) → IsOfRun counted m
    → Stays (system_of m) arrived (picture m)
pending_stays counted m arrived of_run =
    let S : System = system_of m in
    let n : ℕ = next_tick m in
    let s : State = (run S of_run.mode of_run.arrivals n).state in
    subst (Stays S arrived) (sym of_run.come.at.same)
    (sym (ap (λ (u : KeptStep). u.after.pending)
    (ticks S of_run.mode of_run.arrivals n arrived of_run.proper))
    ∙ pending_tick S arrived s ∙ ap (λ (x : State). x.pending) (executing_is S arrived s)
    ∙ ap (λ (r : KeptRecorded). r.state.pending)
    (before_alike S of_run.mode of_run.arrivals n arrived of_run.proper))
