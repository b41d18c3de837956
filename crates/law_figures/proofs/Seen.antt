-- A step of a label reads nothing but what is seen of its thing.
use Rattle.std.proofs.Common.{ℕ, ◌≡◌, ◌-◌, cond, List, Option, Some, None, option_map, refl, ◌∙◌, ap}
use Rattle.view_figures.specs.declared.task_tick.TaskTick.{TaskTick}
use Rattle.view_figures.specs.declared.routine_figures.RoutineTick.{RoutineTick}
use Rattle.view_figures.specs.declared.resource_figures.HolderTick.{HolderTick}
use Rattle.law_figures.specs.Ages.{ages_next, oldest_age, leaving_age}
use Rattle.law_figures.specs.Pending.{pending_in}
use Rattle.law_figures.specs.Holding.{Hold, hold_next, held_ticks}
use Rattle.law_figures.specs.Seen.{AgesAgree, PendingAgrees, HoldsAgree, LabelsGoBySeen}

ages_agree : (t u : TaskTick) (old : List ℕ) → t.seen ≡ u.seen → AgesAgree t u old
ages_agree t u old same = record {
  next = λ i. ages_next (record t { seen = same i }) old;
  oldest = λ i. oldest_age (record t { seen = same i }) old;
  leaving = λ i. leaving_age (record t { seen = same i }) old;
}

-- a tick with what is seen in another one
pending_there : (r u : RoutineTick) (age : Option ℕ)
    → pending_in (record r { seen = u.seen }) age ≡ pending_in u age
pending_there r u None = refl
pending_there r u (Some n) = refl

pending_same : (r u : RoutineTick) (age : Option ℕ) → r.seen ≡ u.seen
    → pending_in r age ≡ pending_in u age
pending_same r u age same =
    ap (λ s. pending_in (record r { seen = s }) age) same ∙ pending_there r u age

pending_agrees : (r u : RoutineTick) (age : Option ℕ) → r.seen ≡ u.seen → PendingAgrees r u age
pending_agrees r u age same =
    let now : pending_in r age ≡ pending_in u age = pending_same r u age same in
    record {
      next = λ i. cond (same i).is_started None (now i);
      pending = now;
      latency = λ i. cond (same i).is_started (option_map (λ n. n - 1) (now i)) None;
      waited = λ i. cond (same i).is_started (option_map (λ n. n - 1) (now i)) (now i);
    }

holds_agree : (h g : HolderTick) (hold : Hold) → h.holder ≡ g.holder → HoldsAgree h g hold
holds_agree h g hold same = record {
  next = λ i. hold_next (record h { holder = same i }) hold;
  held = λ i. held_ticks (record h { holder = same i }) hold;
}

pub labels_go_by_seen : LabelsGoBySeen
labels_go_by_seen = record { ages = ages_agree; pending = pending_agrees; holds = holds_agree }
