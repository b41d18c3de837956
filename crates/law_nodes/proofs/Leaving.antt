-- What a step of a job leaves of what its events hold.
use Rattle.std.proofs.Common.{◌≡◌, ℕ, ◌+◌, ◌≤◌, Bool, true, false, sym, ap, subst, arith}
use Rattle.std.specs.Prelude.{Option, is_some}
use Rattle.law_nodes.specs.Early.{freed_by, freed_shown, sum_but}
use Rattle.law_nodes.specs.Nodes.{Node, Standing, is_at}
use Rattle.law_nodes.proofs.MaskSums.{refused_on, same_shown}

-- a step of a job that doesn't wait: by the events that are set before and behind it
abbrev pub LeavesHeld : Option ℕ → Bool → ℕ → ℕ → ℕ → Node → Type 0
LeavesHeld o shown before after used m =
    is_some m.waits_for ≡ false → (f : ℕ → ℕ)
    → sum_but f after m.used
    + (freed_by f o used m.used + freed_shown f shown used m.used) ≤ sum_but f before used

-- .. if it is at that one
abbrev pub LeavesAt : Standing → Option ℕ → Bool → ℕ → ℕ → ℕ → Node → Type 0
LeavesAt z o shown before after used m =
    is_at m z ≡ true → LeavesHeld o shown before after used m

-- nothing changes
pub stays_held : (o : Option ℕ) (shown : Bool) (set used : ℕ) (m : Node) → m.used ≡ used
    → LeavesHeld o shown set set used m
stays_held o shown set used m same ready f =
    let none = refused_on f o used in
    let all = same_shown f shown used in
    let sums = ap (sum_but f set) same in
    let freed = ap (freed_by f o used) same in
    let told = ap (freed_shown f shown used) same in
    omega (arith, none, all, sums, freed, told)

-- so many are set behind it as before
pub alike_held : (o : Option ℕ) (shown : Bool) (before after used : ℕ) (m : Node)
    → after ≡ before → m.used ≡ used → LeavesHeld o shown before after used m
alike_held o shown before after used m is same =
    subst (λ n. LeavesHeld o shown before n used m) (sym is)
    (stays_held o shown before used m same)
