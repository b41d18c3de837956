-- What events hold that are set early.
use Rattle.std.proofs.Common.{◌≡◌, ℕ, ◌+◌, ◌≤◌, ◌<◌, inl, inr, Bool, true, false, cond, not, ◌&&◌, ◌||◌, nat_le, length, refl, sym, ◌∙◌, ap, arith}
use Rattle.std.specs.Prelude.{is_some, bit_or}
use Rattle.std.specs.List.{AllByRecursion, filter}
use Rattle.std.proofs.lemmas.Bool.{and_parts, cases_lt, leb-true, not-true}
use Rattle.std.proofs.lemmas.List.{get_or_past}
use Rattle.osek_base.specs.declared.instr.Instr.{Instr}
use Rattle.osek_base.specs.Lists.{is_empty}
use Rattle.osek_base.specs.System.{System, Task, is_extended, no_task, priority_of}
use Rattle.law_runs.proofs.Lists.{all_kept, clash}
use Rattle.law_costs.specs.Left.{is_off}
use Rattle.law_costs.proofs.Totals.{sum_lower}
use Rattle.law_nodes.specs.Early.{awaited, bits, freed_by, freed_early, freed_shown, held_early, holds_events, is_set, shows, sum_besides, sum_but, sum_of}
use Rattle.law_nodes.specs.Nodes.{Node, is_within}
use Rattle.law_nodes.specs.Prices.{highest, may_count}
use Rattle.law_nodes.proofs.Leaving.{LeavesHeld}
use Rattle.law_nodes.proofs.MaskSums.{but_besides, but_more, but_used, none_but_any}

-- an extended task exists
pub extended_inside : (S : System) (t : ℕ) → is_extended S t ≡ true → t < length S.tasks
extended_inside S t extended = elim (cases_lt t (length S.tasks)) [
  | inl inside ↦ inside
  | inr past ↦
      clash
      (sym extended
      ∙ ap (λ (k : Task). not (is_empty k.events)) (get_or_past S.tasks t no_task past))
]

module _ (S : System) (p : ℕ) (held : ℕ → ℕ → ℕ) where
  abbrev early : ℕ → ℕ → ℕ → ℕ
  early t m used = held_early S p held t m used

  -- no more where more is used
  pub early_used : (t m used more : ℕ) → is_within used more ≡ true
      → early t m more ≤ early t m used
  early_used t m used more within = go (holds_events S p t)
    where
      go : (b : Bool)
          → cond b (sum_but (held t) m more) 0 ≤ cond b (sum_but (held t) m used) 0
      go true = but_used (held t) m used more within
      go false = omega arith

  -- nothing below the level
  pub early_low : (t m used : ℕ) → priority_of S t < p → early t m used ≡ 0
  early_low t m used low = go (nat_le p (priority_of S t)) refl
    where
      go : (b : Bool) → nat_le p (priority_of S t) ≡ b
          → cond (b && is_extended S t) (sum_but (held t) m used) 0 ≡ 0
      go false is = refl
      go true is =
          let up = leb-true p (priority_of S t) is in
          absurd (omega (arith, up, low))

  -- and no more at a step of a job that doesn't wait
  pub early_step : (t : ℕ) (what : Instr) (before after : ℕ) (n m : Node) → may_count S p m ≡ true
      → LeavesHeld (awaited what) (shows what) before after n.used m
      → early t after m.used + freed_early S p held t what n m ≤ early t before n.used
  early_step t what before after n m count leaves = go (holds_events S p t)
    where
      ready : is_some m.waits_for ≡ false
      ready =
          not-true (is_some m.waits_for)
          (and_parts (not (is_some m.waits_for))
          (is_off m.switch || nat_le p (highest S m.owner m.held)) count).0

      go : (b : Bool)
          → cond b (sum_but (held t) after m.used) 0
          + cond b (freed_by (held t) (awaited what) n.used m.used
          + freed_shown (held t) (shows what) n.used m.used) 0
          ≤ cond b (sum_but (held t) before n.used) 0
      go true = leaves ready (held t)
      go false = omega arith

  -- no more than all that may be set
  pub early_besides : (t m used : ℕ) → early t m used ≤ sum_besides (held t) used
  early_besides t m used = go (holds_events S p t)
    where
      go : (b : Bool) → cond b (sum_but (held t) m used) 0 ≤ sum_besides (held t) used
      go true = but_besides (held t) m used
      go false = omega arith

  -- nothing where none is set of an extended task
  pub early_none : (t m used : ℕ) → (is_extended S t ≡ true → m ≡ 0) → early t m used ≡ 0
  early_none t m used clear = go (holds_events S p t) refl
    where
      go : (b : Bool) → holds_events S p t ≡ b → cond b (sum_but (held t) m used) 0 ≡ 0
      go false is = refl
      go true is =
          ap (λ n. sum_but (held t) n used)
          (clear (and_parts (nat_le p (priority_of S t)) (is_extended S t) is).1)
          ∙ none_but_any (held t) used

  -- and no more besides than events cost that are set
  pub early_more : (set : ℕ → ℕ → ℕ) (t m x used : ℕ)
      → (is_extended S t ≡ true → AllByRecursion (λ b. held t b ≤ set t b) bits)
      → early t (bit_or m x) used ≤ early t m used + sum_of (set t) x
  early_more set t m x used pays = go (holds_events S p t) refl
    where
      go : (b : Bool) → holds_events S p t ≡ b
          → cond b (sum_but (held t) (bit_or m x) used) 0
          ≤ cond b (sum_but (held t) m used) 0 + sum_of (set t) x
      go false is = omega arith
      go true is =
          let more = but_more (held t) m x used in
          let less =
          sum_lower (held t) (set t) (filter (is_set x) bits)
          (all_kept (λ b. held t b ≤ set t b) (is_set x) bits
          (pays (and_parts (nat_le p (priority_of S t)) (is_extended S t) is).1)) in
          omega (arith, more, less)
