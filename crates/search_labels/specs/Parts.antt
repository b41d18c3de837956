-- What labels tell, list by list, and what they show in a tick.
use Rattle.std.specs.Prelude.{ℕ, suc, ◌≡◌, ◌+◌, ◌&&◌, ◌||◌, Bool, false, cond, ◌-◌, ◌++◌, min, List, [], map, length, replicate, Option, None, slice_index_or}
use Rattle.std.specs.Option.{option_map}
use Rattle.osek_base.specs.Lists.{below}
use Rattle.arrival_rules.specs.declared.rule.ArrivalRule.{ArrivalRule}
use Rattle.arrival_rules.specs.Debts.{next_debt}
use Rattle.arrival_rules.specs.Rules.{rule_at}
use Rattle.view_figures.specs.ResponseSums.{later}
use Rattle.law_figures.specs.Ages.{ages_next, oldest_age}
use Rattle.law_figures.specs.Blocking.{blocked_in, blocked_next, stands_ready}
use Rattle.law_figures.specs.Holding.{Hold, held_ticks, hold_next}
use Rattle.law_figures.specs.Merging.{merged_ages}
use Rattle.law_figures.specs.Pending.{pending_next}
use Rattle.law_figures.specs.Times.{waited}
use Rattle.seen_ticks.specs.declared.task_seen.TaskSeen.{TaskSeen}
use Rattle.seen_ticks.specs.Seen.{Seen}
use Rattle.search_labels.specs.Labels.{Labels, ages_of, arrives_in, blocked_of, capped_hold, hold_of, no_hold, pending_of}
use Rattle.search_labels.specs.Ticks.{blocked_tick, holder_tick, is_above, routine_tick, task_tick}

abbrev pub debt_at : List ℕ → ℕ → ℕ
debt_at debts n = slice_index_or debts n 0

abbrev pub ages_at : List (List ℕ) → ℕ → List ℕ
ages_at ages k = slice_index_or ages k []

abbrev pub pending_at : List (Option ℕ) → ℕ → Option ℕ
pending_at pending i = slice_index_or pending i None

abbrev pub hold_at : List Hold → ℕ → Hold
hold_at holds r = slice_index_or holds r no_hold

abbrev pub blocked_at : List ℕ → ℕ → ℕ
blocked_at blocked k = slice_index_or blocked k 0

-- ---- behind a tick

abbrev pub debt_behind : List ArrivalRule → ℕ → List ℕ → ℕ → ℕ
debt_behind rules set debts n =
    next_debt (rule_at rules n) (arrives_in set (rule_at rules n).routine) (debt_at debts n)

abbrev pub ages_behind : ℕ → Seen → List (List ℕ) → ℕ → List ℕ
ages_behind cap seen ages k = map (min cap) (ages_next (task_tick seen k) (ages_at ages k))

-- by how many jobs of the task are followed in the tick, and whether the oldest leaves then
abbrev pub ages_of_jobs : ℕ → Bool → List ℕ → List ℕ
ages_of_jobs jobs leaves old =
    cond leaves (later (map suc old ++ replicate (jobs - length old) 1))
    (map suc old ++ replicate (jobs - length old) 1)

abbrev pub pending_behind : ℕ → Seen → List (Option ℕ) → ℕ → Option ℕ
pending_behind cap seen pending i =
    option_map (min cap) (pending_next (routine_tick seen i) (pending_at pending i))

abbrev pub hold_behind : ℕ → Seen → List Hold → ℕ → Hold
hold_behind cap seen holds r =
    capped_hold cap (hold_next (holder_tick seen r) (hold_at holds r))

abbrev pub blocked_behind : (ℕ → Bool) → ℕ → Seen → List ℕ → ℕ → ℕ
blocked_behind lower cap seen blocked k =
    min cap (blocked_next (blocked_tick lower seen k) (blocked_at blocked k))

-- by the static priorities of the task that executes and of the task itself
abbrev pub blocked_after : ℕ → Option ℕ → ℕ → TaskSeen → ℕ → ℕ
blocked_after cap executing level seen n =
    min cap (cond (seen.ended || seen.waits) 0
    (n + cond (stands_ready seen.state && is_above executing level) 1 0))

abbrev pub merged_lists : List (List ℕ) → List (List ℕ) → ℕ → List ℕ
merged_lists others ages k = merged_ages (ages_at ages k) (ages_at others k)

-- of each number of a list
abbrev pub each_of : {X Y : Type 0} → (List X → ℕ → Y) → List X → List Y
each_of f xs = map (f xs) (below (length xs))

-- ---- shown in a tick

abbrev pub shown_age : ℕ → Seen → Labels → ℕ → Option ℕ
shown_age cap seen l k = option_map (min cap) (oldest_age (task_tick seen k) (ages_of l k))

abbrev pub shown_wait : ℕ → Seen → Labels → ℕ → Option ℕ
shown_wait cap seen l i = option_map (min cap) (waited (routine_tick seen i) (pending_of l i))

abbrev pub shown_hold : ℕ → Seen → Labels → ℕ → Option ℕ
shown_hold cap seen l r = option_map (min cap) (held_ticks (holder_tick seen r) (hold_of l r))

abbrev pub shown_blocked : (ℕ → Bool) → ℕ → Seen → Labels → ℕ → ℕ
shown_blocked lower cap seen l k =
    min cap (blocked_in (blocked_tick lower seen k) (blocked_of l k))

-- a task has no job, had none before, and nothing of it is shown
pub record IsIdle (seen : TaskSeen) (l : Labels) (k : ℕ) : Type 0 where
  pub jobs : seen.jobs ≡ 0
  pub ready : stands_ready seen.state ≡ false
  pub ages : ages_of l k ≡ []
  pub blocked : blocked_of l k ≡ 0
