-- Where a routine isn't of a level, no task and no job is, in whatever section it is.
use Rattle.std.proofs.Common.{ℕ, ◌≡◌, ◌<◌, Bool, true, false, not, ◌||◌, nat_le, refl, sym, ◌∙◌, arith}
use Rattle.std.specs.Prelude.{Some}
use Rattle.std.specs.List.{list_any}
use Rattle.std.proofs.lemmas.Bool.{and_parts, leb-false, leb-true}
use Rattle.osek_base.specs.Priority.{dynamic_priority, static_priority}
use Rattle.osek_base.specs.State.{Job, State, waits}
use Rattle.osek_base.specs.System.{System}
use Rattle.osek_base.specs.Tick.{routine_choice, routine_started, with_start_of}
use Rattle.law_kept.proofs.Rescheduled.{dynamic_top}
use Rattle.law_runs.proofs.Foremost.{static_le}
use Rattle.law_runs.proofs.Lists.{all_any, clash}
use Rattle.law_windows.specs.Work.{goes_at, has_work, is_work, level_of_routine, some_pending}
use Rattle.law_windows.proofs.Losses.{not_taken}
use Rattle.law_windows.proofs.Working.{start_goes, some_pends}
use Rattle.law_costs.specs.Left.{Weights, counts, on}
use Rattle.law_costs.proofs.Dispatch.{not_high}
use Rattle.law_costs.proofs.Totals.{none_any}

module _ (S : System) (p i : ℕ) (lower : goes_at S p i ≡ false) where
  pub beneath : (k : Job) → dynamic_priority S k < p
  beneath k =
      let under = leb-false p (level_of_routine S i) lower in
      let top = dynamic_top S k in
      omega (arith, under, top)

  pub unwork : (k : Job) → is_work S p k ≡ false
  unwork k = go (is_work S p k) refl
    where
      go : (b : Bool) → is_work S p k ≡ b → b ≡ false
      go false is = refl
      go true is =
          let high =
          leb-true p (static_priority S k)
          (and_parts (not (waits k)) (nat_le p (static_priority S k)) is).1 in
          let own = static_le S k in
          let low = beneath k in
          absurd (omega (arith, high, own, low))

  pub uncounted : (c : Weights) (k : Job) → counts S p on k ≡ false
  uncounted c k = not_high S p c k (λ ready. beneath k)

-- ---- starts

-- where work stands behind the start of a routine, that is of the level: the others of it that are
-- pending are no more urgent
pub work_starts : (S : System) (p : ℕ) (s : State) (i : ℕ) → routine_choice S s ≡ Some i
    → has_work S p (with_start_of s (routine_started (Some i) s)) ≡ true → goes_at S p i ≡ true
work_starts S p s i chosen some = go (goes_at S p i) refl some
  where
    there : State
    there = with_start_of s (routine_started (Some i) s)

    beside : goes_at S p i ≡ false → (b : Bool) → some_pending S p there ≡ b
        → (b || list_any (is_work S p) s.jobs) ≡ true → goes_at S p i ≡ true
    beside low true pends some =
        let one = some_pends S p there pends in
        start_goes S p s i one.which chosen
        (record {
          known = one.is.known;
          goes = one.is.goes;
          pends = not_taken s.pending i one.which one.is.pends;
        })
    beside low false pends some =
        clash
        (sym some
        ∙ none_any (is_work S p) s.jobs
        (all_any (λ k. is_work S p k ≡ false) s.jobs (unwork S p i low)))

    go : (b : Bool) → goes_at S p i ≡ b
        → (b || (some_pending S p there || list_any (is_work S p) s.jobs)) ≡ true
        → goes_at S p i ≡ true
    go true is some = is
    go false is some = beside is (some_pending S p there) refl some
