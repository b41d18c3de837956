-- The ticks of a task that is READY or RUNNING, by what they are for it.
use Rattle.std.proofs.Common.{ℕ, ◌≡◌, ◌+◌, Bool, true, false, List, [], ◌∷◌, cond, refl, arith}
use Rattle.std.specs.List.{count_by}
use Rattle.std.proofs.lemmas.List.Sums.{sum_by-cons}
use Rattle.osek_base.specs.declared.status.TaskState.{TaskState}
use Rattle.osek_base.specs.declared.status.TaskState.TheVariants.{Running, Waiting, Ready, Suspended}
use Rattle.view_figures.specs.declared.task_tick.TaskTick.{TaskTick}
use Rattle.view_figures.specs.declared.task_time.TaskTime.{TaskTime}
use Rattle.view_figures.specs.declared.task_time.TaskTime.TheVariants.{Executed, Waits, HasNoJob}
use Rattle.view_figures.specs.StateSums.{AddUp, is_standing, time_of, times, has_begun, is_executed, is_ready, is_preempted, is_blocked, ready_time}

-- a truth as a number
abbrev one : Bool → ℕ
one b = cond b 1 0

ready_once : (lower had : Bool)
    → one (is_executed (ready_time lower had)) + one (is_ready (ready_time lower had)) + one (is_preempted (ready_time lower had))
    + one (is_blocked (ready_time lower had)) ≡ 1
ready_once true true = refl
ready_once true false = refl
ready_once false true = refl
ready_once false false = refl

-- what a tick is for a task in a state
abbrev pub time_in : TaskState → Bool → Bool → TaskTime
time_in state lower had = elim state [ Running ↦ Executed | Waiting ↦ Waits | Ready ↦ ready_time lower had | Suspended ↦ HasNoJob ]

-- each tick counts once
once : (t : TaskTick) (had : Bool)
    → one (is_executed (time_of t had)) + one (is_ready (time_of t had)) + one (is_preempted (time_of t had))
    + one (is_blocked (time_of t had)) ≡ one (is_standing t)
once t had = elim t.seen.state as (λ state.
    one (is_executed (time_in state t.lower_executes had)) + one (is_ready (time_in state t.lower_executes had))
    + one (is_preempted (time_in state t.lower_executes had)) + one (is_blocked (time_in state t.lower_executes had))
    ≡ one (elim state [ Running ↦ true | Waiting ↦ false | Ready ↦ true | Suspended ↦ false ]))
    [ Running ↦ refl | Waiting ↦ refl | Ready ↦ ready_once t.lower_executes had | Suspended ↦ refl ]

one_more : {X : Type 0} (p : X → Bool) (x : X) (xs : List X) → count_by p (x ∷ xs) ≡ one (p x) + count_by p xs
one_more p x xs = sum_by-cons (λ y. one (p y)) x xs

four_more : (a b c d e a' b' c' d' e' p q r s z : ℕ) → a' ≡ p + a → b' ≡ q + b → c' ≡ r + c → d' ≡ s + d → e' ≡ z + e
    → a + b + c + d ≡ e → p + q + r + s ≡ z → a' + b' + c' + d' ≡ e'
four_more a b c d e a' b' c' d' e' p q r s z one two three four five x y = omega arith

pub adds_up : AddUp
adds_up [] = refl
adds_up (t ∷ before) =
    let now = time_of t (has_begun before) in
    four_more (count_by is_executed (times before)) (count_by is_ready (times before))
    (count_by is_preempted (times before)) (count_by is_blocked (times before)) (count_by is_standing before)
    (count_by is_executed (times (t ∷ before))) (count_by is_ready (times (t ∷ before)))
    (count_by is_preempted (times (t ∷ before))) (count_by is_blocked (times (t ∷ before))) (count_by is_standing (t ∷ before))
    (one (is_executed now)) (one (is_ready now)) (one (is_preempted now)) (one (is_blocked now)) (one (is_standing t))
    (one_more is_executed now (times before)) (one_more is_ready now (times before))
    (one_more is_preempted now (times before)) (one_more is_blocked now (times before)) (one_more is_standing t before)
    (adds_up before) (once t (has_begun before))
