-- The running job of a state with single jobs: its slot, and whether it waits.
use Rattle.std.proofs.Common.{◌≡◌, Bool, true, false, not, ◌&&◌, ◌∷◌, refl, sym, ◌∙◌, ap, subst}
use Rattle.std.specs.Prelude.{Option, Some, None, ◌==◌, is_some}
use Rattle.std.specs.Option.{option_map}
use Rattle.std.specs.List.{list_any, AllByRecursion}
use Rattle.osek_base.specs.System.{System}
use Rattle.osek_base.specs.State.{Job, JobId, State, same_id, waits}
use Rattle.law_runs.proofs.Lists.{some_inside, none_some, Pairs, EitherWay, clash, all_weaker, all_any, all_kept, pairs_weaker, either_way, any_none}
use Rattle.law_runs.proofs.Foremost.{AreApart, same_self, only}
use Rattle.law_runs.proofs.Single.{IsSoundPair, HasRunner, IsSingle}
use Rattle.law_runs.proofs.Ranked.{HasReady}
use Rattle.law_kept.specs.Kept.{slot_of, slots_of, task_in, is_gone, kept}
use Rattle.law_kept.specs.Standing.{waits_in, runner_waits}
use Rattle.law_kept.proofs.Parts.{IsOldest, oldest}

module _ (S : System) (s : State) (single : IsSingle S s) where
  apart : Pairs AreApart s.jobs
  apart = pairs_weaker (IsSoundPair S) AreApart s.jobs (λ x y h. h.apart) single.pairs

  pub runner_oldest : (n : JobId) → s.running ≡ Some n → list_any (λ j. same_id j.id n) s.jobs ≡ true
      → IsOldest n s.jobs
  runner_oldest n e there = oldest S n s.jobs single.pairs (subst (HasRunner s.made s.jobs) e single.runs).begun there

  module _ (n : JobId) (o : IsOldest n s.jobs) where
    pub runner_member : (P : Job → Type 0) → AllByRecursion P s.jobs → P o.job
    runner_member P all = (subst (AllByRecursion P) o.is (all_kept P (λ k. k.id.task == n.task) s.jobs all)).0

    -- only the job itself has its id
    pub runner_itself : AllByRecursion (λ y. same_id y.id n ≡ true → y ≡ o.job) s.jobs
    runner_itself =
        subst (λ (m : JobId). AllByRecursion (λ y. same_id y.id m ≡ true → y ≡ o.job) s.jobs) o.id
        (only o.job s.jobs (runner_member (λ x. AllByRecursion (EitherWay AreApart x) s.jobs) (either_way AreApart s.jobs apart)))

    pub runner_slot : slots_of s.jobs n.task ≡ slot_of (o.job ∷ o.others)
    runner_slot = ap slot_of o.is

  -- ---- whether it waits

  -- whether the running job waits is what its slot says
  waits_by : (n : JobId) (o : IsOldest n s.jobs) → list_any (λ j. same_id j.id n) s.jobs ≡ true
      → waits_in (Some n.task) (is_gone (Some n) s.jobs) (slots_of s.jobs) ≡ waits o.job
  waits_by n o there =
      ap (λ b. not (not b) && is_some (slots_of s.jobs n.task).waits_for) there
      ∙ ap (λ a. is_some a.waits_for) (runner_slot n o)

  pub unwaiting : HasReady s.running s.jobs → runner_waits (kept S s) ≡ false
  unwaiting ready = go s.running refl
    where
      go : (r : Option JobId) → s.running ≡ r
          → waits_in (option_map task_in r) (is_gone r s.jobs) (slots_of s.jobs) ≡ false
      go None e = refl
      go (Some n) e = at (list_any (λ j. same_id j.id n) s.jobs) refl
        where
          at : (b : Bool) → list_any (λ j. same_id j.id n) s.jobs ≡ b
              → waits_in (Some n.task) (is_gone (Some n) s.jobs) (slots_of s.jobs) ≡ false
          at false h = ap (λ b. not (not b) && is_some (slots_of s.jobs n.task).waits_for) h
          at true h =
              let o : IsOldest n s.jobs = runner_oldest n e h in
              waits_by n o h
              ∙ runner_member n o (λ j. s.running ≡ Some j.id → waits j ≡ false) ready (e ∙ ap Some (sym o.id))

  pub ready_of : runner_waits (kept S s) ≡ false → HasReady s.running s.jobs
  ready_of unwaits = go s.running refl unwaits
    where
      go : (r : Option JobId) → s.running ≡ r
          → waits_in (option_map task_in r) (is_gone r s.jobs) (slots_of s.jobs) ≡ false
          → AllByRecursion (λ j. r ≡ Some j.id → waits j ≡ false) s.jobs
      go None e h = all_any (λ j. None ≡ Some j.id → waits j ≡ false) s.jobs (λ j k. absurd (none_some j.id k))
      go (Some n) e h = at (list_any (λ j. same_id j.id n) s.jobs) refl
        where
          same : (j : Job) → Some n ≡ Some j.id → same_id j.id n ≡ true
          same j k = ap (λ m. same_id m n) (sym (some_inside n j.id k)) ∙ same_self n

          at : (b : Bool) → list_any (λ j. same_id j.id n) s.jobs ≡ b
              → AllByRecursion (λ j. Some n ≡ Some j.id → waits j ≡ false) s.jobs
          at false k =
              all_weaker (λ j. same_id j.id n ≡ false) (λ j. Some n ≡ Some j.id → waits j ≡ false) s.jobs
              (λ j other is. clash (sym (same j is) ∙ other)) (any_none (λ j. same_id j.id n) s.jobs k)
          at true k =
              let o : IsOldest n s.jobs = runner_oldest n e k in
              all_weaker (λ j. same_id j.id n ≡ true → j ≡ o.job) (λ j. Some n ≡ Some j.id → waits j ≡ false) s.jobs
              (λ j itself is. ap waits (itself (same j is)) ∙ (sym (waits_by n o k) ∙ h)) (runner_itself n o)
