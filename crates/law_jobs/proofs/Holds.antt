-- A resource's hold is that of one job, tick by tick.
use Rattle.std.proofs.Common.{◌≡◌, ℕ, zero, suc, ◌+◌, ◌<◌, ◌≤◌, ◌⊎◌, inl, inr, Bool, true, false, cond, List, refl, sym, ◌∙◌, ap, subst, arith}
use Rattle.std.specs.Prelude.{Option, Some, None, is_some, slice_index_or}
use Rattle.std.proofs.lemmas.Bool.{cases_lt}
use Rattle.osek_base.specs.declared.arrivals.Arrival.{Arrival}
use Rattle.osek_base.specs.declared.ids.ResId.{ResId}
use Rattle.osek_base.specs.Proper.{IsProper}
use Rattle.osek_base.specs.State.{JobId, State}
use Rattle.osek_base.specs.System.{System}
use Rattle.osek_base.specs.Trace.{arriving, boot, run}
use Rattle.law_runs.proofs.Foremost.{self_equal}
use Rattle.law_runs.proofs.Lists.{clash, some_inside, none_some}
use Rattle.law_runs.proofs.RankedTick.{IsExecuting, before_executing, run_ordered}
use Rattle.law_blockers.specs.Steps.{step_at}
use Rattle.law_blockers.proofs.StampLemmas.{Going, earlier, state_more}
use Rattle.law_blockers.proofs.StepLemmas.{executing_is}
use Rattle.law_future.specs.Spans.{resource_of}
use Rattle.law_seen.proofs.Shown.{runs_show}
use Rattle.seen_ticks.specs.Shown.{holder}
use Rattle.view_figures.specs.FigureSums.{held_count}
use Rattle.view_figures.specs.ResourceSums.{is_same}
use Rattle.law_figures.specs.Holding.{Hold, held_in, holding}
use Rattle.law_figures.specs.RunFigures.{holder_ticks, label_before}
use Rattle.law_jobs.specs.HeldSince.{HoldsAreOfJobs, IsHeldSince, IsHold, held_for}
use Rattle.law_jobs.proofs.Getting.{before_fewer, boot_none, tick_passes}
use Rattle.law_jobs.proofs.Holders.{HasHolder, held_seen, holder_job, job_holder}
use Rattle.law_jobs.proofs.Passing.{Fewer, IsAlone, Passes, fewer_alone, has, passes_alone}

module _ (S : System) (mode : ℕ) (arrivals : List Arrival) (r : ℕ) where
  abbrev at : ℕ → State
  at n = (step_at S mode arrivals n).executing

  abbrev here : ℕ → State
  here n = (run S mode arrivals n).state

  abbrev res : ResId
  res = resource_of S r

  -- the job of an id holds it at the instruction of a tick
  abbrev Holds : ℕ → JobId → Type 0
  Holds n job = has res job (at n).jobs ≡ true

  -- ---- from tick to tick

  first_state : here 0 ≡ (boot S mode).state
  unfolding run
  first_state = refl

  before_at : (n : ℕ) → Going S mode arrivals n → Fewer res (here n).jobs (at n).jobs
  before_at n going =
      subst (λ (s : State). Fewer res (here n).jobs s.jobs) (executing_is S mode arrivals n going)
      (before_fewer res S (arriving arrivals n) (here n))

  from_at : (n : ℕ) → Going S mode arrivals n → Passes res (at n).jobs (here (suc n)).jobs
  from_at n going =
      subst (λ (s : State). Passes res (at n).jobs s.jobs)
      (sym (state_more S mode arrivals n going))
      (tick_passes res S (arriving arrivals (here n).tick) (here n))

  -- one job at most holds it
  alone_at : (n : ℕ) → Going S mode arrivals n → IsAlone res (at n).jobs
  alone_at zero going m n h g =
      absurd
      (boot_none res S mode m
      (ap (λ (s : State). has res m s.jobs) (sym first_state) ∙ before_at 0 going m h))
  alone_at (suc n) going m k h g =
      let on : Going S mode arrivals n = earlier S mode arrivals n going in
      fewer_alone res (here (suc n)).jobs (at (suc n)).jobs
      (passes_alone res (at n).jobs (here (suc n)).jobs (alone_at n on) (from_at n on))
      (before_at (suc n) going) m k h g

  -- who holds it held it in the tick before, if any job did
  one_goes_on : (n : ℕ) → Going S mode arrivals (suc n) → (job other : JobId)
      → Holds (suc n) job → Holds n other → Holds n job
  one_goes_on n going job other now before =
      go (from_at n (earlier S mode arrivals n going)) (before_at (suc n) going job now)
    where
      go : Passes res (at n).jobs (here (suc n)).jobs → has res job (here (suc n)).jobs ≡ true
          → Holds n job
      go (inl fewer) h = fewer job h
      go (inr got) h = clash (sym before ∙ got.none other)

  -- ---- since when

  last_or_before : (i n : ℕ) → i ≤ suc n → (i ≤ n) ⊎ (i ≡ suc n)
  last_or_before i n low = go (cases_lt i (suc n))
    where
      go : (i < suc n) ⊎ (suc n ≤ i) → (i ≤ n) ⊎ (i ≡ suc n)
      go (inl less) = inl (omega (arith, less))
      go (inr more) = inr (omega (arith, low, more))

  abbrev Since : ℕ → JobId → ℕ → Type 0
  Since n job since = IsHeldSince S mode arrivals n r job since

  new_since : (n : ℕ) (job : JobId) → Holds n job
      → ((i : ℕ) → n ≡ suc i → has res job (at i).jobs ≡ false) → Since n job n
  new_since n job now before = record {
    past = omega arith;
    holds = λ i from to.
        let same : n ≡ i = omega (arith, from, to) in
        subst (λ m. Holds m job) same now;
    first = before;
  }

  older_since : (n : ℕ) (job : JobId) (since : ℕ) → Since n job since → Holds (suc n) job
      → Since (suc n) job since
  older_since n job since is now = record {
    past = let past = is.past in omega (arith, past);
    holds = λ i from to. go i from (last_or_before i n to);
    first = is.first;
  }
    where
      go : (i : ℕ) → since ≤ i → (i ≤ n) ⊎ (i ≡ suc n) → Holds i job
      go i from (inl low) = is.holds i from low
      go i from (inr same) = subst (λ m. Holds m job) (sym same) now

  -- a job holds it since one tick
  not_before : (n : ℕ) (job : JobId) (a b : ℕ) → Since n job a → Since n job b → a < b → ⊥
  not_before n job a zero one two less = omega (arith, less)
  not_before n job a (suc b) one two less =
      let past = two.past in
      clash (sym (one.holds b (omega (arith, less)) (omega (arith, past))) ∙ two.first b refl)

  one_since : (n : ℕ) (job : JobId) (a b : ℕ) → Since n job a → Since n job b → a ≡ b
  one_since n job a b one two = go (cases_lt a b) (cases_lt b a)
    where
      go : (a < b) ⊎ (b ≤ a) → (b < a) ⊎ (a ≤ b) → a ≡ b
      go (inl less) q = absurd (not_before n job a b one two less)
      go (inr high) (inl less) = absurd (not_before n job b a two one less)
      go (inr high) (inr low) = omega (arith, high, low)

  -- ---- who is seen

  module _ (proper : IsProper S) (known : r < held_count S) where
    abbrev shown : ℕ → Option ℕ
    shown n = (holder_ticks S mode arrivals r n).holder

    abbrev label : ℕ → Hold
    label n = label_before holding (holder_ticks S mode arrivals r) n

    shown_is : (n : ℕ) → Going S mode arrivals n → shown n ≡ holder S (at n) res
    shown_is n going =
        sym (ap (λ (xs : List (Option ℕ)). slice_index_or xs r None)
        (runs_show S mode arrivals n proper going).holders)
        ∙ held_seen S (at n) r known

    at_good : (n : ℕ) → Going S mode arrivals n → IsExecuting S proper (at n)
    at_good n going =
        subst (IsExecuting S proper) (executing_is S mode arrivals n going)
        (before_executing S proper (arriving arrivals n) (here n)
        (run_ordered S proper mode arrivals n))

    shown_job : (n t : ℕ) → Going S mode arrivals n → shown n ≡ Some t → HasHolder S (at n) res t
    shown_job n t going is = holder_job S (at n) res t (sym (shown_is n going) ∙ is)

    job_shown : (n : ℕ) (job : JobId) → Going S mode arrivals n → Holds n job
        → shown n ≡ Some job.task
    job_shown n job going now =
        shown_is n going
        ∙ job_holder S (at n) res (at_good n going).good.single (alone_at n going) job now

    -- for how many ticks
    record IsSince (n : ℕ) (job : JobId) : Type 0 where
      since : ℕ
      holds : Since n job since
      both : held_in (Some job.task) (label n) + since ≡ suc n

    since_next : (n : ℕ) → Going S mode arrivals (suc n) → (job : JobId) → Holds (suc n) job
        → (b : Bool) → has res job (at n).jobs ≡ b → (Holds n job → IsSince n job)
        → IsSince (suc n) job
    since_next n going job now true before rest =
        let is : IsSince n job = rest before in
        let was : shown n ≡ Some job.task =
        job_shown n job (earlier S mode arrivals n going) before in
        let longer : held_in (Some job.task) (label (suc n))
        ≡ suc (held_in (Some job.task) (label n)) =
        ap (λ o. suc (cond (is_same (Some job.task) o) (held_in o (label n)) 0)) was
        ∙ ap (λ b. suc (cond b (held_in (Some job.task) (label n)) 0)) (self_equal job.task) in
        let sum = is.both in
        record {
          since = is.since;
          holds = older_since n job is.since is.holds now;
          both = ap (λ m. m + is.since) longer ∙ omega (arith, sum);
        }
    since_next n going job now false before rest = record {
      since = suc n;
      holds =
          new_since (suc n) job now
          (λ i e.
          let same : n ≡ i = omega (arith, e) in
          subst (λ m. has res job (at m).jobs ≡ false) same before);
      both = ap (λ m. m + suc n) (nobody (shown n) refl) ∙ omega arith;
    }
      where
        nobody : (o : Option ℕ) → shown n ≡ o
            → held_in (Some job.task) (record { holder = o; held = held_in o (label n) }) ≡ 1
        nobody None is = refl
        nobody (Some t) is =
            let there : HasHolder S (at n) res t =
            shown_job n t (earlier S mode arrivals n going) is in
            clash (sym (one_goes_on n going job there.job now there.held) ∙ before)

    since_at : (n : ℕ) → Going S mode arrivals n → (job : JobId) → Holds n job → IsSince n job
    since_at zero going job now = record {
      since = 0;
      holds = new_since 0 job now (λ i e. absurd (omega (arith, e)));
      both = ap (λ m. m + 0) first_one ∙ omega arith;
    }
      where
        first_one : held_in (Some job.task) (label 0) ≡ 1
        first_one = refl
    since_at (suc n) going job now =
        since_next n going job now (has res job (at n).jobs) refl
        (since_at n (earlier S mode arrivals n going) job)

    -- ---- the law

    shown_held : (n t : ℕ) → shown n ≡ Some t
        → held_for S mode arrivals r n ≡ Some (held_in (Some t) (label n))
    shown_held n t is = ap (λ o. cond (is_some o) (Some (held_in o (label n))) None) is

    pub seen_hold : (n held : ℕ) → Going S mode arrivals n
        → held_for S mode arrivals r n ≡ Some held → IsHold S mode arrivals n r held
    seen_hold n held going h = go (shown n) refl
      where
        go : (o : Option ℕ) → shown n ≡ o → IsHold S mode arrivals n r held
        go None is =
            absurd
            (none_some held
            (sym (ap (λ o. cond (is_some o) (Some (held_in o (label n))) None) is) ∙ h))
        go (Some t) is =
            let there : HasHolder S (at n) res t = shown_job n t going is in
            let it : IsSince n there.job = since_at n going there.job there.held in
            let same : held_in (Some there.job.task) (label n) ≡ held =
            ap (λ u. held_in (Some u) (label n)) there.task
            ∙ some_inside (held_in (Some t) (label n)) held (sym (shown_held n t is) ∙ h) in
            record {
              job = there.job;
              holder = is ∙ ap Some (sym there.task);
              since = it.since;
              holds = it.holds;
              both = ap (λ m. m + it.since) (sym same) ∙ it.both;
            }

    pub holder_told : (n : ℕ) (job : JobId) (since : ℕ) → Going S mode arrivals n
        → Since n job since → shown n ≡ Some job.task
    holder_told n job since going is =
        job_shown n job going (is.holds n is.past (omega arith))

    pub hold_told : (n : ℕ) (job : JobId) (since held : ℕ) → Going S mode arrivals n
        → Since n job since → held + since ≡ suc n → held_for S mode arrivals r n ≡ Some held
    hold_told n job since held going is both =
        let it : IsSince n job = since_at n going job (is.holds n is.past (omega arith)) in
        let same : it.since ≡ since = one_since n job it.since since it.holds is in
        let sum = it.both in
        let number : held_in (Some job.task) (label n) ≡ held = omega (arith, same, sum, both) in
        shown_held n job.task (holder_told n job since going is) ∙ ap Some number

pub holds_are_of_jobs : HoldsAreOfJobs
holds_are_of_jobs S mode arrivals n r proper going known = record {
  seen = λ held h. seen_hold S mode arrivals r proper known n held going h;
  told = λ job since held is both.
      hold_told S mode arrivals r proper known n job since held going is both;
  holder = λ job since is. holder_told S mode arrivals r proper known n job since going is;
}
