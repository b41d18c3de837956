-- Ticks in a row in which nothing comes to a task: one more of them.
use Rattle.std.proofs.Common.{get_or, ℕ, suc, ◌≡◌, ◌+◌, ◌-◌, ◌≤◌, length, Bool, true, false, not, ◌&&◌, List, ◌∷◌, cond, nat_lt, None, refl, sym, ◌∙◌, ap, ap₂, arith, eqb-true}
use Rattle.std.specs.Prelude.{nat_le, ◌==◌, ◌||◌}
use Rattle.std.proofs.lemmas.Bool.{and_parts, leb-true, not-true}
use Rattle.view_figures.specs.declared.task_tick.TaskTick.{TaskTick}
use Rattle.view_figures.specs.declared.task_figures.TaskFigures.{TaskFigures}
use Rattle.view_figures.specs.declared.task_counts.TaskCounts.{TaskCounts}
use Rattle.view_figures.specs.declared.task_times.TaskTimes.{TaskTimes}
use Rattle.view_figures.specs.declared.task_time.TaskTime.{TaskTime}
use Rattle.osek_base.specs.declared.status.TaskState.TheVariants.{Running, Waiting, Ready, Suspended}
use Rattle.view_figures.specs.Counts.{capped}
use Rattle.view_figures.specs.Reaching.{first_tick}
use Rattle.view_figures.specs.TaskSums.{task_counts, left_jobs, more_blockers}
use Rattle.view_figures.specs.StateSums.{task_times, time_of, begun, has_begun, leaves, is_executed, is_ready, is_preempted, is_blocked, is_waited, is_running}
use Rattle.view_figures.specs.ResponseSums.{Responses, response_figures, entered, later, some_more, standing, ready_since}
use Rattle.seen_ticks.specs.Seen.{unseen_task}
use Rattle.seen_ticks.specs.declared.observation.Observation.{Observation}
use Rattle.seen_ticks.specs.declared.task_seen.TaskSeen.{TaskSeen}
use Rattle.view_figures.specs.FigureSums.{task_figures, task_tick}
use Rattle.view_figures.specs.Quiet.{gets_nothing}
use Rattle.view_figures.specs.Calm.{stayed, times_on, went_on}
use Rattle.view_figures.proofs.StepLemmas.{task_more, times_more}
use Rattle.view_figures.proofs.QuietLemmas.{IsSilent, kept_count, first_stays}
use Rattle.view_figures.proofs.TimeLemmas.{went}
use Rattle.view_figures.proofs.AddLemmas.{time_in}
use Rattle.view_figures.proofs.EnterLemmas.{enters_once}

-- a task's tick of another number
abbrev pub task_at : ℕ → TaskTick → TaskTick
task_at u t = record t { tick = u }

-- what a task's tick is to which nothing comes
pub record IsCalm (t : TaskTick) : Type 0 where
  pub made : t.seen.made ≡ 0
  pub refused : t.seen.refused ≡ 0
  pub ended : t.seen.ended ≡ false
  pub waits : t.seen.waits ≡ false
  pub failed : t.has_failed ≡ false
  pub blockers : t.blockers ≡ None

pub calm : (levels : List ℕ) (o : Observation) (k : ℕ) → gets_nothing (get_or o.tasks.items k unseen_task) ≡ true
    → IsSilent o k → IsCalm (task_tick levels o k)
calm levels o k h silent =
    let s : TaskSeen = get_or o.tasks.items k unseen_task in
    let gets = and_parts (s.made == 0) ((s.refused == 0) && (not s.ended && not s.waits)) h in
    let more = and_parts (s.refused == 0) (not s.ended && not s.waits) gets.1 in
    let last = and_parts (not s.ended) (not s.waits) more.1 in
    record {
      made = eqb-true s.made 0 gets.0;
      refused = eqb-true s.refused 0 more.0;
      ended = not-true s.ended last.0;
      waits = not-true s.waits last.1;
      failed = silent.0;
      blockers = silent.1;
    }

-- of what is counted only the jobs that stand are others
counts_pass : (t : TaskTick) (u : ℕ) (seen : List TaskTick) (old : TaskCounts) → old ≡ task_counts seen → IsCalm t
    → (record old { unfinished = left_jobs t }) ≡ task_counts (task_at u t ∷ seen)
unfolding task_counts
counts_pass t u seen old e q =
    let more = task_more (task_at u t) seen old e in
    let a = kept_count old.activations _ t.seen.made (ap (λ (f : TaskCounts). f.activations) e) q.made in
    let r = kept_count old.refused _ t.seen.refused (ap (λ (f : TaskCounts). f.refused) e) q.refused in
    let d = kept_count old.ended _ (cond t.seen.ended 1 0) (ap (λ (f : TaskCounts). f.ended) e) (ap (λ b. cond b 1 0) q.ended) in
    let x = kept_count old.errors _ (cond t.has_failed 1 0) (ap (λ (f : TaskCounts). f.errors) e) (ap (λ b. cond b 1 0) q.failed) in
    let b : more_blockers t.blockers old.blockers ≡ old.blockers = ap (λ o. more_blockers o old.blockers) q.blockers in
    let f : first_tick (nat_lt 0 t.seen.refused) u old.first_refusal ≡ old.first_refusal =
    rw (q.refused) (first_stays u old.first_refusal) in
    cc

counts_stay : (t : TaskTick) (u : ℕ) (seen : List TaskTick) (old : TaskCounts) → old ≡ task_counts seen → IsCalm t
    → old.unfinished ≡ left_jobs t → old ≡ task_counts (task_at u t ∷ seen)
counts_stay t u seen old e q j = ap (λ n. record old { unfinished = n }) j ∙ counts_pass t u seen old e q

one_more : (x n : ℕ) (b : Bool) → capped (capped (x + cond b n 0) + cond b 1 0) ≡ capped (x + cond b (suc n) 0)
one_more x n true = omega arith
one_more x n false = omega arith

none_more : (x n : ℕ) (b : Bool) → x ≡ capped n → capped (x + cond b 0 0) ≡ x
none_more x n true e = omega (arith, e)
none_more x n false e = omega (arith, e)

begun_stays : (leaves runs had : Bool) → cond leaves false (runs || cond leaves false (runs || had)) ≡ cond leaves false (runs || had)
begun_stays true runs had = refl
begun_stays false true had = refl
begun_stays false false had = refl

times_start : (t : TaskTick) (before : List TaskTick) (old : TaskTimes) → old ≡ task_times before → times_on t 0 old ≡ old
unfolding task_times
times_start t before old e =
    let time = time_of t old.has_begun in
    let x = none_more old.executed _ (is_executed time) (ap (λ (f : TaskTimes). f.executed) e) in
    let r = none_more old.ready _ (is_ready time) (ap (λ (f : TaskTimes). f.ready) e) in
    let p = none_more old.preempted _ (is_preempted time) (ap (λ (f : TaskTimes). f.preempted) e) in
    let b = none_more old.blocked _ (is_blocked time) (ap (λ (f : TaskTimes). f.blocked) e) in
    let w = none_more old.waiting _ (is_waited time) (ap (λ (f : TaskTimes). f.waiting) e) in
    cc

times_go : (t : TaskTick) (u n : ℕ) (seen : List TaskTick) (old : TaskTimes) → begun t old.has_begun ≡ old.has_begun
    → times_on t n old ≡ task_times seen → times_on t (suc n) old ≡ task_times (task_at u t ∷ seen)
times_go t u n seen old g e =
    let more = times_more (task_at u t) seen (times_on t n old) e in
    let time = time_of t old.has_begun in
    let x = one_more old.executed n (is_executed time) in
    let r = one_more old.ready n (is_ready time) in
    let p = one_more old.preempted n (is_preempted time) in
    let b = one_more old.blocked n (is_blocked time) in
    let w = one_more old.waiting n (is_waited time) in
    cc

responses_stay : (t : TaskTick) (u : ℕ) (seen : List TaskTick) (old : Responses) → old ≡ response_figures seen → IsCalm t
    → entered (task_at u t) old.ready_since ≡ old.ready_since → old ≡ response_figures (task_at u t ∷ seen)
unfolding response_figures
responses_stay t u seen old e q once =
    let no : leaves t ≡ false = ap₂ (λ x y. x || y) q.ended q.waits in
    let j : old.ready_since ≡ ready_since seen = ap (λ (f : Responses). f.ready_since) e in
    let none : entered (task_at u t) (ready_since seen) ≡ ready_since seen =
    ap (λ js. entered (task_at u t) js) (sym j) ∙ once ∙ j in
    rw (no, none) e

-- what the first of such ticks leaves
record IsSettled (t : TaskTick) (f : TaskFigures) : Type 0 where
  pub unfinished : f.counts.unfinished ≡ left_jobs t
  pub begun : begun t f.times.has_begun ≡ f.times.has_begun
  pub entered : (u : ℕ) → entered (task_at u t) f.responses.ready_since ≡ f.responses.ready_since

settled : (t : TaskTick) (before : List TaskTick) (f : TaskFigures) → IsCalm t → f ≡ task_figures (t ∷ before) → IsSettled t f
unfolding task_figures task_counts task_times response_figures
settled t before f q e =
    let no : leaves t ≡ false = ap₂ (λ x y. x || y) q.ended q.waits in
    let g : f.times.has_begun ≡ begun t (has_begun before) = ap (λ (f : TaskFigures). f.times.has_begun) e in
    let r : f.responses.ready_since ≡ entered t (ready_since before) =
    ap (λ (f : TaskFigures). f.responses.ready_since) e ∙ ap (λ b. cond b (later (entered t (ready_since before))) (entered t (ready_since before))) no in
    record {
      unfinished = ap (λ (f : TaskFigures). f.counts.unfinished) e;
      begun = ap (λ had. begun t had) g ∙ begun_stays (leaves t) (is_running t) (has_begun before) ∙ sym g;
      entered = λ u. ap (λ js. entered (task_at u t) js) r ∙ enters_once t.tick u (standing t) (ready_since before) ∙ sym r;
    }

-- the figures of a task so many ticks later
abbrev pub task_on : TaskTick → TaskFigures → ℕ → TaskFigures
task_on t f n = record f { times = times_on t n f.times }

pub task_start : (t : TaskTick) (before : List TaskTick) (f : TaskFigures) → f ≡ task_figures (t ∷ before)
    → task_on t f 0 ≡ task_figures (t ∷ before)
unfolding task_figures
task_start t before f e =
    let same = times_start t (t ∷ before) f.times (ap (λ (g : TaskFigures). g.times) e) in
    cc

pub task_go : (t : TaskTick) (u n : ℕ) (before seen : List TaskTick) (f : TaskFigures) → IsCalm t → f ≡ task_figures (t ∷ before)
    → task_on t f n ≡ task_figures seen → task_on t f (suc n) ≡ task_figures (task_at u t ∷ seen)
unfolding task_figures
task_go t u n before seen f q first e =
    let s = settled t before f q first in
    let c = counts_stay t u seen f.counts (ap (λ (g : TaskFigures). g.counts) e) q s.unfinished in
    let x = times_go t u n seen f.times s.begun (ap (λ (g : TaskFigures). g.times) e) in
    let r = responses_stay t u seen f.responses (ap (λ (g : TaskFigures). g.responses) e) q (s.entered u) in
    cc

-- a tick in which the jobs that stand were all followed before
pub task_stays : (t : TaskTick) (before : List TaskTick) (f : TaskFigures) → IsCalm t
    → nat_le (standing t) (length f.responses.ready_since) ≡ true → f ≡ task_figures before
    → stayed t 1 f ≡ task_figures (t ∷ before)
unfolding task_figures
task_stays t before f q follows e =
    let all : standing t ≤ length f.responses.ready_since = leb-true (standing t) (length f.responses.ready_since) follows in
    let none : standing t - length f.responses.ready_since ≡ 0 = omega (arith, all) in
    let once : entered t f.responses.ready_since ≡ f.responses.ready_since =
    ap (λ n. some_more t.tick n f.responses.ready_since) none in
    let c = counts_pass t t.tick before f.counts (ap (λ (g : TaskFigures). g.counts) e) q in
    let x = times_more t before f.times (ap (λ (g : TaskFigures). g.times) e) in
    let r = responses_stay t t.tick before f.responses (ap (λ (g : TaskFigures). g.responses) e) q once in
    cc

-- a tick is the same for a task where its oldest job has begun in it
same_time : (t : TaskTick) (had : Bool) → leaves t ≡ false → time_of t (begun t had) ≡ time_of t had
same_time t had stays =
    ap (λ l. time_of t (cond l false (is_running t || had))) stays
    ∙ elim t.seen.state as (λ s.
    time_in s t.lower_executes (elim s [ Running ↦ true | Waiting ↦ false | Ready ↦ false | Suspended ↦ false ] || had)
    ≡ time_in s t.lower_executes had) [ Running ↦ refl | Waiting ↦ refl | Ready ↦ refl | Suspended ↦ refl ]

more_once : (x n : ℕ) (b : Bool) → capped (capped (x + cond b 1 0) + cond b n 0) ≡ capped (x + cond b (suc n) 0)
more_once x n true = omega arith
more_once x n false = omega arith

-- so many ticks more of a task, by what they are for it
abbrev task_noted : TaskTime → TaskTick → TaskFigures → ℕ → TaskFigures
task_noted time t f n = record f {
  times = record {
    executed = capped (f.times.executed + cond (is_executed time) n 0);
    ready = capped (f.times.ready + cond (is_ready time) n 0);
    preempted = capped (f.times.preempted + cond (is_preempted time) n 0);
    blocked = capped (f.times.blocked + cond (is_blocked time) n 0);
    waiting = capped (f.times.waiting + cond (is_waited time) n 0);
    has_begun = f.times.has_begun;
  };
}

-- the first tick and then so many more are one more at once
pub stays_on : (t : TaskTick) (f : TaskFigures) (n : ℕ) → IsCalm t → task_on t (stayed t 1 f) n ≡ stayed t (suc n) f
stays_on t f n q =
    let no : leaves t ≡ false = ap₂ (λ x y. x || y) q.ended q.waits in
    let time = time_of t f.times.has_begun in
    let same = same_time t f.times.has_begun no in
    let x = more_once f.times.executed n (is_executed time) in
    let r = more_once f.times.ready n (is_ready time) in
    let p = more_once f.times.preempted n (is_preempted time) in
    let b = more_once f.times.blocked n (is_blocked time) in
    let w = more_once f.times.waiting n (is_waited time) in
    ap (λ k. task_noted k t (stayed t 1 f) n) same ∙ (cc)

-- its jobs stand, and the count of its state grows
pub stayed_is : (t : TaskTick) (more : ℕ) (before : List TaskTick) (f : TaskFigures) → IsCalm t → f ≡ task_figures before
    → (record f {
      counts = record f.counts { unfinished = t.seen.jobs };
      times = went_on t.seen.state t.lower_executes more f.times;
    }) ≡ stayed t more f
unfolding task_figures
stayed_is t more before f q e =
    let no : leaves t ≡ false = ap₂ (λ x y. x || y) q.ended q.waits in
    let all : t.seen.jobs ≡ t.seen.jobs - 0 = omega arith in
    let left : t.seen.jobs ≡ left_jobs t = all ∙ ap (λ b. t.seen.jobs - cond b 1 0) (sym q.ended) in
    let times = went t more before f.times no (ap (λ (g : TaskFigures). g.times) e) in
    ap₂ (λ n g. record f { counts = record f.counts { unfinished = n }; times = g }) left times
