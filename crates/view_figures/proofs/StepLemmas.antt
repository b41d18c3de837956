-- A tick more of each kind of figures, field by field.
use Rattle.std.proofs.Common.{ℕ, suc, ◌≡◌, ◌+◌, true, false, List, ◌∷◌, cond, Option, None, min, length, nat_lt, sym, ◌∙◌, ap, arith}
use Rattle.std.specs.List.{sum_by}
use Rattle.std.proofs.lemmas.List.Sums.{sum_by-cons}
use Rattle.view_figures.specs.declared.task_tick.TaskTick.{TaskTick}
use Rattle.view_figures.specs.declared.task_counts.TaskCounts.{TaskCounts}
use Rattle.view_figures.specs.declared.task_times.TaskTimes.{TaskTimes}
use Rattle.view_figures.specs.declared.reached.Reached.{Reached}
use Rattle.view_figures.specs.declared.alarm_figures.AlarmTick.{AlarmTick}
use Rattle.view_figures.specs.declared.resource_figures.HolderTick.{HolderTick}
use Rattle.view_figures.specs.declared.alarm_figures.AlarmFigures.{AlarmFigures}
use Rattle.view_figures.specs.declared.routine_figures.RoutineTick.{RoutineTick}
use Rattle.view_figures.specs.declared.routine_figures.RoutineFigures.{RoutineFigures}
use Rattle.view_figures.specs.declared.resource_figures.ResourceFigures.{ResourceFigures}
use Rattle.view_figures.specs.declared.spread.Spread.{Spread}
use Rattle.view_figures.specs.Counts.{capped, capped_sum}
use Rattle.view_figures.specs.Reaching.{worse, worse_of, put, first_tick}
use Rattle.view_figures.specs.TaskSums.{task_counts, jobs_on, left_jobs, more_blockers}
use Rattle.view_figures.specs.StateSums.{task_times, times, time_of, begun, has_begun, leaves, is_executed, is_ready, is_preempted, is_blocked, is_waited}
use Rattle.view_figures.specs.AlarmSums.{alarm_figures}
use Rattle.view_figures.specs.RoutineSums.{routine_figures, since, still, latency}
use Rattle.view_figures.specs.ResourceSums.{resource_figures, is_got, last_holder, gets, hold_on, hold_at}
use Rattle.view_figures.specs.ResponseSums.{spread, Responses, response_figures, ready_since, responses, later, entered, oldest_response}
use Rattle.view_figures.proofs.SumLemmas.{sum_more, count_more}

pub task_more : (t : TaskTick) (before : List TaskTick) (old : TaskCounts) → old ≡ task_counts before
    → (record {
      activations = capped (old.activations + t.seen.made);
      refused = capped (old.refused + t.seen.refused);
      ended = capped (old.ended + cond t.seen.ended 1 0);
      unfinished = left_jobs t;
      errors = capped (old.errors + cond t.has_failed 1 0);
      blockers = more_blockers t.blockers old.blockers;
      first_refusal = first_tick (nat_lt 0 t.seen.refused) t.tick old.first_refusal;
    }) ≡ task_counts (t ∷ before)
unfolding task_counts
task_more t before old e =
    let a = sum_more (λ (y : TaskTick). y.seen.made) t before old.activations (ap (λ (f : TaskCounts). f.activations) e) in
    let r = sum_more (λ (y : TaskTick). y.seen.refused) t before old.refused (ap (λ (f : TaskCounts). f.refused) e) in
    let d = count_more (λ (y : TaskTick). y.seen.ended) t before old.ended (ap (λ (f : TaskCounts). f.ended) e) in
    let x = count_more (λ (y : TaskTick). y.has_failed) t before old.errors (ap (λ (f : TaskCounts). f.errors) e) in
    let b = ap (λ (f : TaskCounts). more_blockers t.blockers f.blockers) e in
    let n = ap (λ (f : TaskCounts). first_tick (nat_lt 0 t.seen.refused) t.tick f.first_refusal) e in
    cc

-- what is counted of jobs, and then the rest
pub counts_noted : (t : TaskTick) (before : List TaskTick) (old noted : TaskCounts) (unfinished errors : ℕ) (blockers : Option ℕ)
    → old ≡ task_counts before → noted ≡ jobs_on t old → unfinished ≡ left_jobs t
    → errors ≡ capped (noted.errors + cond t.has_failed 1 0) → blockers ≡ more_blockers t.blockers noted.blockers
    → (record noted { unfinished = unfinished; errors = errors; blockers = blockers }) ≡ task_counts (t ∷ before)
counts_noted t before old noted unfinished errors blockers e jobs left fails told =
    let more = task_more t before old e in
    cc

pub times_more : (t : TaskTick) (before : List TaskTick) (old : TaskTimes) → old ≡ task_times before
    → (record {
      executed = capped (old.executed + cond (is_executed (time_of t old.has_begun)) 1 0);
      ready = capped (old.ready + cond (is_ready (time_of t old.has_begun)) 1 0);
      preempted = capped (old.preempted + cond (is_preempted (time_of t old.has_begun)) 1 0);
      blocked = capped (old.blocked + cond (is_blocked (time_of t old.has_begun)) 1 0);
      waiting = capped (old.waiting + cond (is_waited (time_of t old.has_begun)) 1 0);
      has_begun = begun t old.has_begun;
    }) ≡ task_times (t ∷ before)
unfolding task_times
times_more t before old e =
    let g = ap (λ (f : TaskTimes). f.has_begun) e in
    let now = time_of t (has_begun before) in
    let x = count_more is_executed now (times before) old.executed (ap (λ (f : TaskTimes). f.executed) e) in
    let r = count_more is_ready now (times before) old.ready (ap (λ (f : TaskTimes). f.ready) e) in
    let p = count_more is_preempted now (times before) old.preempted (ap (λ (f : TaskTimes). f.preempted) e) in
    let b = count_more is_blocked now (times before) old.blocked (ap (λ (f : TaskTimes). f.blocked) e) in
    let w = count_more is_waited now (times before) old.waiting (ap (λ (f : TaskTimes). f.waiting) e) in
    rw g (cc)

pub alarm_more : (a : AlarmTick) (before : List AlarmTick) (old : AlarmFigures) → old ≡ alarm_figures before
    → (record {
      expiries = capped (old.expiries + cond a.seen.has_expired 1 0);
      refused = capped (old.refused + cond a.seen.is_refused 1 0);
      first_refusal = first_tick a.seen.is_refused a.tick old.first_refusal;
    }) ≡ alarm_figures (a ∷ before)
unfolding alarm_figures
alarm_more a before old e =
    let x = count_more (λ (y : AlarmTick). y.seen.has_expired) a before old.expiries (ap (λ (f : AlarmFigures). f.expiries) e) in
    let r = count_more (λ (y : AlarmTick). y.seen.is_refused) a before old.refused (ap (λ (f : AlarmFigures). f.refused) e) in
    let n = ap (λ (f : AlarmFigures). first_tick a.seen.is_refused a.tick f.first_refusal) e in
    cc

pub routine_more : (r : RoutineTick) (before : List RoutineTick) (old : RoutineFigures) → old ≡ routine_figures before
    → (record {
      arrivals = capped (old.arrivals + r.seen.arrived);
      starts = capped (old.starts + cond r.seen.is_started 1 0);
      losses = capped (old.losses + r.seen.lost);
      errors = capped (old.errors + cond r.has_failed 1 0);
      latency = worse_of old.latency (latency r (since r old.pending_since));
      pending_since = still r (since r old.pending_since);
      first_loss = first_tick (nat_lt 0 r.seen.lost) r.tick old.first_loss;
    }) ≡ routine_figures (r ∷ before)
unfolding routine_figures
routine_more r before old e =
    let a = sum_more (λ (y : RoutineTick). y.seen.arrived) r before old.arrivals (ap (λ (f : RoutineFigures). f.arrivals) e) in
    let s = count_more (λ (y : RoutineTick). y.seen.is_started) r before old.starts (ap (λ (f : RoutineFigures). f.starts) e) in
    let l = sum_more (λ (y : RoutineTick). y.seen.lost) r before old.losses (ap (λ (f : RoutineFigures). f.losses) e) in
    let x = count_more (λ (y : RoutineTick). y.has_failed) r before old.errors (ap (λ (f : RoutineFigures). f.errors) e) in
    let g = ap (λ (f : RoutineFigures). worse_of f.latency (latency r (since r f.pending_since))) e in
    let p = ap (λ (f : RoutineFigures). still r (since r f.pending_since)) e in
    let n = ap (λ (f : RoutineFigures). first_tick (nat_lt 0 r.seen.lost) r.tick f.first_loss) e in
    cc

capped_get : (n m : ℕ) → capped (capped n + m) ≡ capped (n + m)
capped_get n m = omega arith

pub resource_more : (h : HolderTick) (before : List HolderTick) (old : ResourceFigures) → old ≡ resource_figures before
    → (record {
      gets = capped (old.gets + cond (is_got h.holder old.holder) 1 0);
      longest = worse_of old.longest (hold_at h (hold_on h.holder old.holder old.held));
      holder = h.holder;
      held = hold_on h.holder old.holder old.held;
    }) ≡ resource_figures (h ∷ before)
unfolding resource_figures
resource_more h before old e =
    let g = ap (λ (f : ResourceFigures). capped (f.gets + cond (is_got h.holder f.holder) 1 0)) e
    ∙ capped_get (gets before) (cond (is_got h.holder (last_holder before)) 1 0) in
    let l = ap (λ (f : ResourceFigures). worse_of f.longest (hold_at h (hold_on h.holder f.holder f.held))) e in
    let d = ap (λ (f : ResourceFigures). hold_on h.holder f.holder f.held) e in
    cc

capped_count : (n : ℕ) → capped (capped n + 1) ≡ capped (suc n)
capped_count n = omega arith

capped_total : (n m : ℕ) → capped_sum (capped_sum n + m) ≡ capped_sum (m + n)
capped_total n m = omega arith

pub spread_more : (r : Reached) (before : List Reached) (old : Spread) → old ≡ spread before
    → (record {
      count = capped (old.count + 1);
      sum = capped_sum (old.sum + r.ticks);
      least = min old.least r.ticks;
      greatest = worse old.greatest r;
    }) ≡ spread (r ∷ before)
unfolding spread
spread_more r before old e =
    let c = ap (λ (f : Spread). capped (f.count + 1)) e ∙ capped_count (length before) in
    let s = ap (λ (f : Spread). capped_sum (f.sum + r.ticks)) e ∙ capped_total (sum_by (λ (y : Reached). y.ticks) before) r.ticks
    ∙ sym (ap capped_sum (sum_by-cons (λ (y : Reached). y.ticks) r before)) in
    let l = ap (λ (f : Spread). min f.least r.ticks) e in
    let g = ap (λ (f : Spread). worse f.greatest r) e in
    cc

pub response_more : (t : TaskTick) (before : List TaskTick) (jobs left : List ℕ) (r : Option Reached) (old new : Spread)
    → (record { ready_since = jobs; spread = old }) ≡ response_figures before
    → left ≡ cond (leaves t) (later (entered t jobs)) (entered t jobs)
    → r ≡ cond (leaves t) (oldest_response t.tick (entered t jobs)) None
    → ((rs : List Reached) → old ≡ spread rs → new ≡ spread (put r rs))
    → (record { ready_since = left; spread = new }) ≡ response_figures (t ∷ before)
unfolding response_figures
response_more t before jobs left r old new e el er step =
    let j : jobs ≡ ready_since before = ap (λ (f : Responses). f.ready_since) e in
    let o : old ≡ spread (responses before) = ap (λ (f : Responses). f.spread) e in
    let l : left ≡ ready_since (t ∷ before) =
    el ∙ ap (λ (js : List ℕ). cond (leaves t) (later (entered t js)) (entered t js)) j in
    let q : r ≡ cond (leaves t) (oldest_response t.tick (entered t (ready_since before))) None =
    er ∙ ap (λ (js : List ℕ). cond (leaves t) (oldest_response t.tick (entered t js)) None) j in
    let n : new ≡ spread (responses (t ∷ before)) =
    step (responses before) o ∙ ap (λ (a : Option Reached). spread (put a (responses before))) q in
    cc

-- the oldest of those that stood is left
pub response_left : (t : TaskTick) (before : List TaskTick) (jobs stood left : List ℕ) (old new : Spread)
    → (record { ready_since = jobs; spread = old }) ≡ response_figures before → leaves t ≡ true → stood ≡ entered t jobs
    → left ≡ later stood
    → ((rs : List Reached) → old ≡ spread rs → new ≡ spread (put (oldest_response t.tick stood) rs))
    → (record { ready_since = left; spread = new }) ≡ response_figures (t ∷ before)
response_left t before jobs stood left old new e leave enter goes step =
    response_more t before jobs left (oldest_response t.tick stood) old new e
    (goes ∙ ap later enter ∙ ap (λ b. cond b (later (entered t jobs)) (entered t jobs)) (sym leave))
    (ap (oldest_response t.tick) enter ∙ ap (λ b. cond b (oldest_response t.tick (entered t jobs)) None) (sym leave))
    step

-- each of those that stood stays
pub response_stays : (t : TaskTick) (before : List TaskTick) (jobs stood : List ℕ) (old : Spread)
    → (record { ready_since = jobs; spread = old }) ≡ response_figures before → leaves t ≡ false → stood ≡ entered t jobs
    → (record { ready_since = stood; spread = old }) ≡ response_figures (t ∷ before)
response_stays t before jobs stood old e stay enter =
    response_more t before jobs stood None old old e
    (enter ∙ ap (λ b. cond b (later (entered t jobs)) (entered t jobs)) (sym stay))
    (ap (λ b. cond b (oldest_response t.tick (entered t jobs)) None) (sym stay))
    (λ rs o. o)
