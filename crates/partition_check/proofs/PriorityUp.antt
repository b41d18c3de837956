-- The dynamic priority of an upper job is the same in the upper core, and that of a lower job lies below p.
use Rattle.std.proofs.Common.{◌≡◌, ℕ, ◌<◌, ◌≤◌, Bool, true, false, cond, nat_lt, max, unwrap_or, List, [], ◌∷◌, map, length, refl, sym, ◌∙◌, ap, ap₂, subst, arith, ltb-true, ltb-false, lt-ltb, leb-true, leb-false}
use Rattle.std.specs.Prelude.{Option, Some, None}
use Rattle.std.specs.List.{AllByRecursion}
use Rattle.osek_base.specs.declared.ids.ResId.{ResId}
use Rattle.osek_base.specs.Lists.{greatest}
use Rattle.osek_base.specs.System.{System, Task, priority_of}
use Rattle.osek_base.specs.Ceiling.{ceiling, internal_ceiling}
use Rattle.osek_base.specs.State.{Job}
use Rattle.osek_base.specs.Priority.{static_priority, dynamic_priority}
use Rattle.osek_base.specs.Upper.{is_upper_task}
use Rattle.osek_base.specs.Agree.{renumbered_resource, upper_core}
use Rattle.partition_check.proofs.UpperState.{up_job, is_upper_job, upper_count}
use Rattle.partition_check.proofs.Shared.{IsCounterpart, IsLow, IsLayeredJob, is_visible}

-- an upper task is one of the first
pub first_tasks : (S : System) (p : ℕ) → IsCounterpart S p → (t : ℕ) → t < length S.tasks → is_upper_task S p t ≡ true
    → t < upper_count S p
first_tasks S p both t inside high =
    let e : nat_lt t (upper_count S p) ≡ true = sym (both.split t inside) ∙ high in ltb-true t (upper_count S p) e

pub later_tasks : (S : System) (p : ℕ) → IsCounterpart S p → (t : ℕ) → t < length S.tasks → is_upper_task S p t ≡ false
    → upper_count S p ≤ t
later_tasks S p both t inside low =
    let e : nat_lt t (upper_count S p) ≡ false = sym (both.split t inside) ∙ low in ltb-false t (upper_count S p) e

pub upper_tasks_first : (S : System) (p : ℕ) → IsCounterpart S p → (t : ℕ) → t < upper_count S p → is_upper_task S p t ≡ true
upper_tasks_first S p both t inside =
    let whole : t < length S.tasks = omega (arith, both.within, inside) in
    let e : nat_lt t (upper_count S p) ≡ true = lt-ltb t (upper_count S p) inside in
    both.split t whole ∙ e

-- ---- upper jobs

pub static_up : (S : System) (p : ℕ) → IsCounterpart S p → (j : Job) → j.id.task < upper_count S p
    → static_priority (upper_core S p) (up_job S p j) ≡ static_priority S j
static_up S p both j first = ap (λ (a : Task). a.priority) (both.tasks j.id.task first)

ceilings_up : (S : System) (p : ℕ) → IsCounterpart S p → 0 < upper_count S p → (held : List ResId)
    → AllByRecursion (λ r. is_visible S p r ≡ true) held
    → map (ceiling (upper_core S p)) (map (renumbered_resource S p) held) ≡ map (ceiling S) held
ceilings_up S p both some [] all = refl
ceilings_up S p both some (r ∷ held) all =
    ap₂ (λ n ns. n ∷ ns) (both.ceilings r some all.0) (ceilings_up S p both some held all.1)

-- what an upper job holds is visible
pub held_visible : (S : System) (p : ℕ) (j : Job) → IsLayeredJob S p j → is_upper_job S p j ≡ true
    → AllByRecursion (λ r. is_visible S p r ≡ true) j.held
held_visible S p j layered high = subst (λ b. AllByRecursion (λ r. is_visible S p r ≡ b) j.held) high layered.held

pub held_unseen : (S : System) (p : ℕ) (j : Job) → IsLayeredJob S p j → is_upper_job S p j ≡ false
    → AllByRecursion (λ r. is_visible S p r ≡ false) j.held
held_unseen S p j layered low = subst (λ b. AllByRecursion (λ r. is_visible S p r ≡ b) j.held) low layered.held

pub dynamic_up : (S : System) (p : ℕ) → IsCounterpart S p → (j : Job) → IsLayeredJob S p j → is_upper_job S p j ≡ true
    → dynamic_priority (upper_core S p) (up_job S p j) ≡ dynamic_priority S j
dynamic_up S p both j layered high =
    let first : j.id.task < upper_count S p = first_tasks S p both j.id.task layered.task high in
    let some : 0 < upper_count S p = omega (arith, first) in
    let held : map (ceiling (upper_core S p)) (map (renumbered_resource S p) j.held) ≡ map (ceiling S) j.held =
    ceilings_up S p both some j.held (held_visible S p j layered high) in
    ap₂ max (static_up S p both j first)
    (ap₂ max (ap greatest held) (ap (λ (o : Option ℕ). cond j.taken (unwrap_or o 0) 0) (both.internal j.id.task first)))

-- the dynamic priority of an upper job is p or more
pub dynamic_high : (S : System) (p : ℕ) (j : Job) → is_upper_job S p j ≡ true → p ≤ dynamic_priority S j
dynamic_high S p j high =
    let own : p ≤ priority_of S j.id.task = leb-true p (priority_of S j.id.task) high in omega (arith, own)

-- ---- lower jobs

unseen_ceiling : (S : System) (p : ℕ) (r : ResId) → is_visible S p r ≡ false → ceiling S r < p
unseen_ceiling S p (ResId.Declared r) unseen = leb-false p (ceiling S (ResId.Declared r)) unseen
unseen_ceiling S p ResId.Scheduler unseen = absurd (grind (arith, unseen))

ceilings_low : (S : System) (p : ℕ) → 0 < p → (held : List ResId) → AllByRecursion (λ r. is_visible S p r ≡ false) held
    → greatest (map (ceiling S) held) < p
ceilings_low S p some [] all = some
ceilings_low S p some (r ∷ held) all =
    omega (arith, unseen_ceiling S p r all.0, ceilings_low S p some held all.1)

internal_low : (p : ℕ) (o : Option ℕ) → 0 < p → ((c : ℕ) → o ≡ Some c → c < p) → unwrap_or o 0 < p
internal_low p None some each = some
internal_low p (Some c) some each = each c refl

taken_low : (p n : ℕ) (b : Bool) → 0 < p → n < p → cond b n 0 < p
taken_low p n true some low = low
taken_low p n false some low = some

pub static_low : (S : System) (p t : ℕ) → is_upper_task S p t ≡ false → priority_of S t < p
static_low S p t low = leb-false p (priority_of S t) low

pub dynamic_low : (S : System) (p : ℕ) → IsLow S p → (j : Job) → IsLayeredJob S p j → is_upper_job S p j ≡ false
    → dynamic_priority S j < p
dynamic_low S p below j layered low =
    let own : static_priority S j < p = static_low S p j.id.task low in
    let some : 0 < p = omega (arith, own) in
    let held : greatest (map (ceiling S) j.held) < p = ceilings_low S p some j.held (held_unseen S p j layered low) in
    let taken : cond j.taken (unwrap_or (internal_ceiling S j.id.task) 0) 0 < p =
    taken_low p (unwrap_or (internal_ceiling S j.id.task) 0) j.taken some
    (internal_low p (internal_ceiling S j.id.task) some (λ c e. below.internal j.id.task c layered.task low e)) in
    omega (arith, own, held, taken)
