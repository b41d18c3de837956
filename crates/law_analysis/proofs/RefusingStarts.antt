-- The interrupt by which a routine starts: it has been pending since it came, and it came behind
-- each earlier start.
use Rattle.std.proofs.Common.{ℕ, zero, suc, ◌≡◌, ◌<◌, ◌≤◌, inl, inr, Bool, true, false, cond, ◌||◌, List, replicate, length, refl, sym, ◌∙◌, ap, subst, arith}
use Rattle.std.proofs.lemmas.Bool.{cases_lt}
use Rattle.osek_base.specs.declared.arrivals.Arrival.{Arrival}
use Rattle.osek_base.specs.Proper.{IsProper}
use Rattle.osek_base.specs.State.{State, still}
use Rattle.osek_base.specs.System.{System}
use Rattle.osek_base.specs.Tick.{is_pending}
use Rattle.osek_base.specs.Trace.{all_activated, boot, run, starting_alarms, starting_tasks}
use Rattle.law_runs.proofs.Lists.{clash}
use Rattle.law_runs.proofs.RunSteps.{going_before}
use Rattle.law_future.specs.Shown.{arrives}
use Rattle.law_jobs.specs.PendingSince.{starts_in}
use Rattle.law_jobs.proofs.Flags.{is_raised, starts_raised}
use Rattle.law_jobs.proofs.Pending.{next_flag}
use Rattle.law_windows.proofs.Before.{pending_reschedule}
use Rattle.law_windows.proofs.Losses.{all_pending, flag, none_on}

module _ (S : System) (mode : ℕ) (arrivals : List Arrival) (i : ℕ) where
  abbrev here : ℕ → State
  here n = (run S mode arrivals n).state

  abbrev Goes : ℕ → Type 0
  Goes n = (run S mode arrivals n).state.over ≡ false

  booted_flags : (here 0).pending ≡ replicate (length S.routines) false
  unfolding run boot
  booted_flags =
      let set : State = record (still S) { alarms = starting_alarms S mode } in
      pending_reschedule S (all_activated S (starting_tasks S mode) set)
      ∙ all_pending S (starting_tasks S mode) set

  booted_off : is_pending (here 0) i ≡ false
  booted_off =
      ap (λ flags. flag flags i) booted_flags ∙ none_on (length S.routines) i

  module _ (proper : IsProper S) (known : i < length S.routines) where
    -- an interrupt that came in a tick has been pending behind each tick up to another
    pub record IsPended (n : ℕ) : Type 0 where
      pub since : ℕ
      pub past : since ≤ n
      pub comes : arrives arrivals since i ≡ true
      pub pends : (t : ℕ) → since ≤ t → t < n → is_pending (here (suc t)) i ≡ true

    now_pends : (n : ℕ) → arrives arrivals n i ≡ true → IsPended n
    now_pends n is = record {
      since = n;
      past = omega arith;
      comes = is;
      pends = λ t low high. absurd (omega (arith, low, high));
    }

    still_pends : (n : ℕ) → is_pending (here (suc n)) i ≡ true → IsPended n → IsPended (suc n)
    still_pends n on p = record {
      since = p.since;
      past = let past = p.past in omega (arith, past);
      comes = p.comes;
      pends = λ t low high. elim (cases_lt t n) [
        | inl less ↦ p.pends t low less
        | inr more ↦
            let same : n ≡ t = omega (arith, high, more) in
            subst (λ (m : ℕ). is_pending (here (suc m)) i ≡ true) same on
      ];
    }

    pended : (n : ℕ) → Goes n → is_raised S mode arrivals n i ≡ true → IsPended n
    pended zero going up = go (arrives arrivals 0 i) refl up
      where
        go : (b : Bool) → arrives arrivals 0 i ≡ b → (b || is_pending (here 0) i) ≡ true
            → IsPended 0
        go true is up = now_pends 0 is
        go false is up = clash (sym up ∙ booted_off)
    pended (suc n) going up =
        go (arrives arrivals (suc n) i) refl up (pended n before)
      where
        before : Goes n
        before = going_before S mode arrivals n going

        raised : (b : Bool) → cond (starts_in S mode arrivals n i) false b ≡ true → b ≡ true
        raised b h = off (starts_in S mode arrivals n i) b h
          where
            off : (c b : Bool) → cond c false b ≡ true → b ≡ true
            off true b h = clash (sym h)
            off false b h = h

        go : (b : Bool) → arrives arrivals (suc n) i ≡ b
            → (b || is_pending (here (suc n)) i) ≡ true
            → (is_raised S mode arrivals n i ≡ true → IsPended n) → IsPended (suc n)
        go true is up rest = now_pends (suc n) is
        go false is up rest =
            still_pends n up
            (rest (raised (is_raised S mode arrivals n i)
            (sym (next_flag S mode arrivals i proper known n before) ∙ up)))

    pub starts_pended : (n : ℕ) → Goes n → starts_in S mode arrivals n i ≡ true → IsPended n
    starts_pended n going starts =
        pended n going (starts_raised S mode arrivals n i proper going known starts)

    -- whose interrupt came before an earlier start, that start took
    pub later_comes : (m n : ℕ) → Goes m → m < n → starts_in S mode arrivals m i ≡ true
        → (p : IsPended n) → m < p.since
    later_comes m n going less starts p = elim (cases_lt m p.since) [
      | inl later ↦ later
      | inr sooner ↦
          clash
          (sym (p.pends m sooner less) ∙ next_flag S mode arrivals i proper known m going
          ∙ ap (λ b. cond b false (is_raised S mode arrivals m i)) starts)
    ]
