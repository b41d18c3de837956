-- Nothing is shown of an idle task, and nothing is told of it behind a tick.
use Rattle.std.proofs.Common.{ℕ, ◌≡◌, ◌-◌, ◌+◌, ◌&&◌, Bool, cond, min, replicate, None, ◌∙◌, ap, arith}
use Rattle.std.specs.Option.{option_map}
use Rattle.view_figures.specs.StateSums.{is_waiting}
use Rattle.view_figures.specs.declared.response_figures.TheConstants.{MAX_UNFINISHED}
use Rattle.law_figures.specs.Ages.{oldest, oldest_age}
use Rattle.law_figures.specs.Blocking.{stands_ready}
use Rattle.seen_ticks.specs.Seen.{Seen}
use Rattle.search_labels.specs.Labels.{Labels}
use Rattle.search_labels.specs.Parts.{IsIdle, shown_age, shown_blocked}
use Rattle.search_labels.specs.Ticks.{task_in, task_tick}

none_followed : (jobs away most : ℕ) → jobs ≡ 0 → min (jobs - away) most - 0 ≡ 0
none_followed jobs away most none = omega (arith, none)

module _ (cap : ℕ) (seen : Seen) (l : Labels) (k : ℕ) (idle : IsIdle (task_in seen k) l k) where
  pub no_age : shown_age cap seen l k ≡ None
  no_age =
      ap (λ v. option_map (min cap) (oldest_age (task_tick seen k) v)) idle.ages
      ∙ ap (λ n. option_map (min cap) (oldest (replicate n 1)))
      (none_followed (task_in seen k).jobs (cond (is_waiting (task_tick seen k)) 1 0)
      MAX_UNFINISHED idle.jobs)

  pub not_blocked : (lower : ℕ → Bool) → shown_blocked lower cap seen l k ≡ 0
  not_blocked lower =
      ap (λ n. min cap (n + cond (stands_ready (task_in seen k).state && lower k) 1 0)) idle.blocked
      ∙ ap (λ b. min cap (0 + cond (b && lower k) 1 0)) idle.ready
      ∙ omega arith
