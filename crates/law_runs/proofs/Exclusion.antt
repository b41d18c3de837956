-- A resource that a job may take and is refused, that job itself holds.
use Rattle.std.proofs.Common.{◌≡◌, ℕ, zero, suc, ◌<◌, ◌≤◌, ◌⊎◌, inl, inr, Bool, true, false, cond, max, not, ◌&&◌, ◌||◌, nat_lt, List, [], ◌∷◌, map, length, refl, sym, ◌∙◌, ap, subst, arith}
use Rattle.std.specs.Prelude.{Some, None, slice_index_or}
use Rattle.std.specs.List.{filter, find, list_any, AllByRecursion, Contains}
use Rattle.std.proofs.lemmas.Bool.{cases_lt}
use Rattle.std.proofs.lemmas.List.{get_or_past}
use Rattle.osek_base.specs.declared.ids.ResId.{ResId}
use Rattle.osek_base.specs.declared.status.Status.{Status}
use Rattle.osek_base.specs.declared.instr.Service.{Service}
use Rattle.osek_base.specs.Lists.{is_empty, greatest, same_resource}
use Rattle.osek_base.specs.System.{System, Task, no_task, lists, priority_of}
use Rattle.osek_base.specs.Ceiling.{ceiling, declared_ceiling}
use Rattle.osek_base.specs.State.{Job, State, interrupts_off, same_id, waits}
use Rattle.osek_base.specs.Priority.{static_priority, dynamic_priority}
use Rattle.osek_base.specs.GoodState.{is_raised}
use Rattle.osek_base.specs.Service.{JobCalls, holds, may_take, answer, service}
use Rattle.osek_base.specs.Proper.{IsProper}
use Rattle.law_runs.proofs.Lists.{EitherWay, clash, found, pairs_weaker, either_way}
use Rattle.law_runs.proofs.Foremost.{AreApart, equal, only}
use Rattle.law_runs.proofs.Known.{IsCaller}
use Rattle.law_runs.proofs.Single.{IsSoundPair}
use Rattle.law_runs.proofs.Ranked.{IsStill, IsUnder, IsDispatched}
use Rattle.law_runs.proofs.RankedService.{MayCall, may_call}
use Rattle.law_runs.proofs.RankedTick.{IsExecuting}

-- ---- ceilings

pub same_resources : (r q : ResId) → same_resource r q ≡ true → r ≡ q
same_resources (ResId.Declared m) (ResId.Declared n) h = ap ResId.Declared (equal m n h)
same_resources (ResId.Declared m) ResId.Scheduler h = clash (sym h)
same_resources ResId.Scheduler (ResId.Declared n) h = clash (sym h)
same_resources ResId.Scheduler ResId.Scheduler h = refl

-- what is held lies at or below the greatest ceiling
held_ceiling : (S : System) (r : ResId) (held : List ResId) → list_any (same_resource r) held ≡ true → ceiling S r ≤ greatest (map (ceiling S) held)
held_ceiling S r [] h = clash (sym h)
held_ceiling S r (q ∷ held) h = go (same_resource r q) refl h (held_ceiling S r held)
  where
    go : (b : Bool) → same_resource r q ≡ b → (b || list_any (same_resource r) held) ≡ true
        → (list_any (same_resource r) held ≡ true → ceiling S r ≤ greatest (map (ceiling S) held)) → ceiling S r ≤ max (ceiling S q) (greatest (map (ceiling S) held))
    go true e k rest = let same : ceiling S r ≡ ceiling S q = ap (ceiling S) (same_resources r q e) in omega arith
    go false e k rest = let most = rest k in omega arith

held_contains : (r : ResId) (held : List ResId) → list_any (same_resource r) held ≡ true → Contains held r
held_contains r [] h = clash (sym h)
held_contains r (q ∷ held) h = go (same_resource r q) refl h (held_contains r held)
  where
    go : (b : Bool) → same_resource r q ≡ b → (b || list_any (same_resource r) held) ≡ true → (list_any (same_resource r) held ≡ true → Contains held r) → Contains (q ∷ held) r
    go true e k rest = (0, omega arith, sym (same_resources r q e))
    go false e k rest = let at = rest k in (suc at.0, (let less = at.1 in omega arith), at.2)

pub held_some : (r : ResId) (held : List ResId) → list_any (same_resource r) held ≡ true → is_empty held ≡ false
held_some r [] h = clash (sym h)
held_some r (q ∷ held) h = refl

-- the ceiling of what a task lists is at least its priority
listed_ceiling : (r : ℕ) (all : List Task) (t : ℕ) → t < length all → lists r (slice_index_or all t no_task) ≡ true
    → (slice_index_or all t no_task).priority ≤ greatest (map (λ (a : Task). a.priority) (filter (lists r) all))
listed_ceiling r [] t inside h = absurd (omega arith)
listed_ceiling r (a ∷ all) zero inside h = go (lists r a) h
  where
    go : (b : Bool) → b ≡ true → a.priority ≤ greatest (map (λ (x : Task). x.priority) (cond b (a ∷ filter (lists r) all) (filter (lists r) all)))
    go true e = omega arith
    go false e = clash (sym e)
listed_ceiling r (a ∷ all) (suc t) inside h = go (lists r a) (listed_ceiling r all t (omega arith) h)
  where
    go : (b : Bool) → (slice_index_or all t no_task).priority ≤ greatest (map (λ (x : Task). x.priority) (filter (lists r) all))
        → (slice_index_or all t no_task).priority ≤ greatest (map (λ (x : Task). x.priority) (cond b (a ∷ filter (lists r) all) (filter (lists r) all)))
    go true rest = omega arith
    go false rest = rest

top_covers : (all : List Task) (t : ℕ) → (slice_index_or all t no_task).priority ≤ greatest (map (λ (a : Task). a.priority) all)
top_covers [] t = omega arith
top_covers (a ∷ all) zero = omega arith
top_covers (a ∷ all) (suc t) = let rest = top_covers all t in omega arith

-- a resource's ceiling is at least the priority of each task that may take it
taker_below : (S : System) (t : ℕ) (r : ResId) → may_take S t r ≡ true → priority_of S t ≤ ceiling S r
taker_below S t ResId.Scheduler may = top_covers S.tasks t
taker_below S t (ResId.Declared r) may = go (cases_lt t (length S.tasks))
  where
    go : (t < length S.tasks) ⊎ (length S.tasks ≤ t) → priority_of S t ≤ declared_ceiling S r
    go (inl inside) = listed_ceiling r S.tasks t inside may
    go (inr past) = clash (sym (sym (ap (lists r) (get_or_past S.tasks t no_task past)) ∙ may))

-- ---- who holds it

any_found : {X : Type 0} (p : X → Bool) (xs : List X) → list_any p xs ≡ true → (x : X) × (find p xs ≡ Some x)
any_found p [] h = clash (sym h)
any_found p (x ∷ xs) h = go (p x) h (any_found p xs)
  where
    go : (b : Bool) → (b || list_any p xs) ≡ true → (list_any p xs ≡ true → (y : _) × (find p xs ≡ Some y)) → (y : _) × (cond b (Some x) (find p xs) ≡ Some y)
    go true k rest = (x, refl)
    go false k rest = rest k

module _ (S : System) (proper : IsProper S) (s : State) (executing : IsExecuting S proper s) (j : Job) (calls : IsCaller s (JobCalls j)) (r : ResId) where
  -- of a resource that the caller may take only the caller is a holder
  only_holder : MayCall S s (JobCalls j) → may_take S j.id.task r ≡ true → (k : Job) → IsUnder S j k → IsStill k → (same_id k.id j.id ≡ true → k ≡ j) → holds k r ≡ true
      → Contains j.held r
  only_holder may takes k under still one has = go (same_id k.id j.id) refl
    where
      ready : (b : Bool) → waits k ≡ b → waits k ≡ false
      ready false e = e
      ready true e = clash (sym (ap is_empty (still e).0) ∙ held_some r k.held has)

      holds_some : (w m l : Bool) → w ≡ false → m ≡ false → (not w && (not m || l)) ≡ true
      holds_some false false l f g = refl
      holds_some true m l f g = clash f
      holds_some false true l f g = clash g

      raised : waits k ≡ false → is_raised S k ≡ true
      raised e = holds_some (waits k) (is_empty k.held) (nat_lt (static_priority S k) (dynamic_priority S k)) e (held_some r k.held has)

      go : (b : Bool) → same_id k.id j.id ≡ b → Contains j.held r
      go true e = subst (λ (z : Job). Contains z.held r) (one e) (held_contains r k.held has)
      go false e =
          let low : dynamic_priority S k < static_priority S j = under.beneath e (raised (ready (waits k) refl)) in
          let high = held_ceiling S r k.held has in
          let own : static_priority S j ≤ ceiling S r = taker_below S j.id.task r takes in
          absurd (omega arith)

  denied : (off takes any : Bool)
      → answer (cond off (Some Status.SysDisabled) (cond (not takes) (Some Status.Access) (cond any (Some Status.Access) None))) ≡ Status.Access
      → takes ≡ true → (off ≡ false) × (any ≡ true)
  denied true takes any e may = absurd (cc)
  denied false false any e may = clash (sym may)
  denied false true true e may = (refl, refl)
  denied false true false e may = absurd (cc)

  -- a job that may take a resource and is refused it holds it
  pub refused_holder : may_take S j.id.task r ≡ true → (service S (JobCalls j) s (Service.GetResource (Some r))).status ≡ Status.Access → Contains j.held r
  unfolding service
  refused_holder takes e =
      let both = denied (interrupts_off s) (may_take S j.id.task r) (list_any (λ k. holds k r) s.jobs) e takes in
      let may : MayCall S s (JobCalls j) = may_call S s executing.good.single executing.good.ordered (JobCalls j) executing.dispatched calls both.0 in
      let here : IsDispatched S s.jobs j = (found (λ c. s.running ≡ Some c.id → IsDispatched S s.jobs c) (λ k. same_id k.id j.id) s.jobs j may.1 calls.found).0 calls.runs in
      let holder = any_found (λ k. holds k r) s.jobs both.1 in
      let k : Job = holder.0 in
      let apart = pairs_weaker (IsSoundPair S) AreApart s.jobs (λ x y h. h.apart) executing.good.single.pairs in
      let itself : AllByRecursion (λ y. same_id y.id j.id ≡ true → y ≡ j) s.jobs =
      only j s.jobs (found (λ x. AllByRecursion (EitherWay AreApart x) s.jobs) (λ y. same_id y.id j.id) s.jobs j (either_way AreApart s.jobs apart) calls.found).0 in
      let under = found (IsUnder S j) (λ y. holds y r) s.jobs k here.under holder.1 in
      let still = found IsStill (λ y. holds y r) s.jobs k executing.good.ordered.ranked.still holder.1 in
      let one = found (λ y. same_id y.id j.id ≡ true → y ≡ j) (λ y. holds y r) s.jobs k itself holder.1 in
      only_holder may takes k under.0 still.0 one.0 under.1
