-- Ticks in which a job is blocked are counted as the label goes on.
use Rattle.std.proofs.Common.{ℕ, ◌≡◌, ◌+◌, Bool, true, false, cond, List, ◌∷◌, refl, ◌∙◌, ap, arith}
use Rattle.std.specs.Prelude.{max}
use Rattle.view_figures.specs.declared.task_tick.TaskTick.{TaskTick}
use Rattle.view_figures.specs.Counts.{capped}
use Rattle.view_figures.specs.StateSums.{leaves}
use Rattle.law_figures.specs.Blocking.{blocked_in, blocking, is_blocked_in}
use Rattle.law_figures.specs.Labels.{label_after}
use Rattle.search_witnesses.specs.declared.blocked.BlockedTicks.{BlockedTicks}
use Rattle.search_witnesses.specs.Blocked.{blocked_ticks}

-- a count that has stopped at the greatest number stays there
capped_more : (n m : ℕ) → capped (capped n + m) ≡ capped (n + m)
capped_more n m = omega arith

capped_left : (b : Bool) (n : ℕ) → cond b 0 (capped n) ≡ capped (cond b 0 n)
capped_left true n = omega arith
capped_left false n = refl

pub one_more : (t : TaskTick) (before : List TaskTick) (old : BlockedTicks) (blocked : ℕ)
    → blocked ≡ capped (old.so_far + cond (is_blocked_in t) 1 0) → old ≡ blocked_ticks before
    → record { so_far = cond (leaves t) 0 blocked; most = max blocked old.most }
    ≡ blocked_ticks (t ∷ before)
unfolding blocked_ticks
one_more t before old blocked now is =
    let label : ℕ = label_after blocking before in
    let same : blocked ≡ capped (blocked_in t label) =
    now ∙ ap (λ (o : BlockedTicks). capped (o.so_far + cond (is_blocked_in t) 1 0)) is
    ∙ capped_more label (cond (is_blocked_in t) 1 0) in
    λ i. record {
      so_far = (ap (λ n. cond (leaves t) 0 n) same ∙ capped_left (leaves t) (blocked_in t label)) i;
      most = max (same i) (is i).most;
    }
