-- The dynamic priority of a job at least and at most, by its node; so one that counts may count.
use Rattle.std.proofs.Common.{◌≡◌, ℕ, ◌≤◌, max, Bool, true, false, cond, not, ◌||◌, nat_le, List, map, refl, sym, subst, arith}
use Rattle.std.specs.Prelude.{Option, unwrap_or}
use Rattle.std.proofs.lemmas.Bool.{and_from, and_parts, le-leb, leb-true}
use Rattle.osek_base.specs.declared.ids.Owner.{Owner}
use Rattle.osek_base.specs.Ceiling.{ceiling, internal_ceiling}
use Rattle.osek_base.specs.Lists.{greatest}
use Rattle.osek_base.specs.Priority.{dynamic_priority}
use Rattle.osek_base.specs.State.{Job, waits}
use Rattle.osek_base.specs.System.{System, priority_of}
use Rattle.law_costs.specs.Left.{Switch, counts, is_off}
use Rattle.law_nodes.specs.Nodes.{Node, is_at, of_job}
use Rattle.law_nodes.specs.Paid.{lowest}
use Rattle.law_nodes.specs.Prices.{highest, may_count}
use Rattle.law_nodes.proofs.Standing.{at_is, node_of}

module _ (S : System) (j : Job) where
  high_from : (b : Bool) (rest : ℕ) (inner : ℕ)
      → max (priority_of S j.id.task) (max rest (cond b inner 0))
      ≤ max (priority_of S j.id.task) (max rest inner)
  high_from true rest inner = omega arith
  high_from false rest inner = omega arith

  pub dynamic_high : dynamic_priority S j ≤ highest S (Owner.Task j.id.task) j.held
  dynamic_high =
      high_from j.taken (greatest (map (ceiling S) j.held))
      (unwrap_or (internal_ceiling S j.id.task) 0)

  low_from : (b : Bool) (own rest inner : ℕ)
      → max own rest ≤ max own (max rest (cond b inner 0))
  low_from true own rest inner = omega arith
  low_from false own rest inner = omega arith

  pub dynamic_low : lowest S (Owner.Task j.id.task) j.held ≤ dynamic_priority S j
  dynamic_low =
      low_from j.taken (priority_of S j.id.task) (greatest (map (ceiling S) j.held))
      (unwrap_or (internal_ceiling S j.id.task) 0)

module _ (S : System) (p : ℕ) (w : Switch) (j : Job) where
  high_enough : (b : Bool) → (b || nat_le p (dynamic_priority S j)) ≡ true
      → (b || nat_le p (highest S (Owner.Task j.id.task) j.held)) ≡ true
  high_enough true h = refl
  high_enough false h =
      let up = leb-true p (dynamic_priority S j) h in
      let more = dynamic_high S j in
      le-leb p (highest S (Owner.Task j.id.task) j.held) (omega (arith, up, more))

  counting : (registers : List (Option ℕ)) (used : ℕ) → counts S p w j ≡ true
      → may_count S p (node_of (of_job w j) registers used) ≡ true
  counting registers used h =
      let both = and_parts (not (waits j)) (is_off w || nat_le p (dynamic_priority S j)) h in
      and_from (not (waits j)) (is_off w || nat_le p (highest S (Owner.Task j.id.task) j.held))
      both.0 (high_enough (is_off w) both.1)

  pub counting_at : (n : Node) → is_at n (of_job w j) ≡ true → counts S p w j ≡ true
      → may_count S p n ≡ true
  counting_at n at h =
      let is = at_is n (of_job w j) at in
      subst (λ m. may_count S p m ≡ true) (sym is.0) (counting n.registers n.used h)
