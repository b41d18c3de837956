-- Ready tasks in one list: puts and takes are those of the levels.
use Rattle.std.proofs.Common.{ℕ, zero, suc, ◌≡◌, ◌≢◌, ◌<◌, ◌≤◌, ◌+◌, ◌-◌, Bool, true, false, cond, ◌||◌, ◌==◌, List, [], ◌∷◌, ◌++◌, length, take, drop, get_or, None, refl, sym, ◌∙◌, ap, arith, eq-eqb, ne_eqb}
use Rattle.std.proofs.lemmas.Bool.{ltb-true, ltb-false}
use Rattle.std.specs.List.{insert, list_any}
use Rattle.ready_queues.specs.declared.ready_queues.TheConstants.{LEVELS}
use Rattle.ready_queues.specs.Queues.{no_tasks, with_newest, with_oldest, HasNoneAbove, total, top_level, first_at, first_task, without_first_at, without_first}
use Rattle.ready_queues.proofs.Writes.{with_level-same, with_level-other, same_queues}
use Rattle.ready_queues.proofs.Tops.{top_below-none}
use Rattle.ready_queues.proofs.QueueLaws.{first_task-with_oldest, without_first-with_oldest, top-with_oldest, total-with_oldest, total-no_tasks}
use Rattle.services.specs.declared.ready_entry.ReadyEntry.{ReadyEntry}
use Rattle.services.specs.CompactQueues.{tasks_at, first_level, first_ready, is_below, no_entry, placed, AreFalling}

-- ---- the entry in front

here : (e : ReadyEntry) (es : List ReadyEntry) → tasks_at (e ∷ es) e.level ≡ e.task ∷ tasks_at es e.level
here e es =
    let same : (e.level == e.level) ≡ true = eq-eqb e.level e.level refl in
    rw same refl

elsewhere : (e : ReadyEntry) (es : List ReadyEntry) (l : ℕ) → l ≢ e.level → tasks_at (e ∷ es) l ≡ tasks_at es l
elsewhere e es l other =
    let away : (e.level == l) ≡ false = ne_eqb e.level l (λ same. other (sym same)) in
    rw away refl

-- it is the oldest of its level
pub in_front : (e : ReadyEntry) (es : List ReadyEntry) → tasks_at (e ∷ es) ≡ with_oldest e.level e.task (tasks_at es)
in_front e es =
    same_queues e.level (tasks_at (e ∷ es)) (with_oldest e.level e.task (tasks_at es))
    (here e es ∙ sym (with_level-same e.level (e.task ∷ tasks_at es e.level) (tasks_at es)))
    (λ l other. elsewhere e es l other ∙ sym (with_level-other e.level l (e.task ∷ tasks_at es e.level) (tasks_at es) other))

-- no level above the first has a task
pub none_above : (top : ℕ) (es : List ReadyEntry) → AreFalling top es → (l : ℕ) → top < l → tasks_at es l ≡ []
none_above top [] falling l high = refl
none_above top (e ∷ es) falling l high =
    let low = falling.0 in
    elsewhere e es l (λ same. absurd (omega (arith, same))) ∙ none_above e.level es falling.1 l (omega arith)

pub high_are_none : (e : ReadyEntry) (es : List ReadyEntry) → AreFalling e.level es → HasNoneAbove e.level (tasks_at es)
high_are_none e es falling = record { none = λ l high low. none_above e.level es falling l high }

-- ---- puts

-- by place
pub placed_is : (from : ℕ) (x : ReadyEntry) (es : List ReadyEntry) (place : ℕ) → place ≤ length es
    → list_any (is_below from) (take place es) ≡ false → (place < length es → is_below from (get_or es place no_entry) ≡ true)
    → insert es place x ≡ placed from x es
placed_is from x [] zero low before stop = refl
placed_is from x [] (suc place) low before stop = absurd (omega arith)
placed_is from x (e ∷ es) zero low before stop =
    let test : is_below from e ≡ true = stop (omega arith) in
    rw test refl
placed_is from x (e ∷ es) (suc place) low before stop =
    go (is_below from e) before (λ none. placed_is from x es place (omega arith) none (λ within. stop (omega arith)))
  where
    go : (b : Bool) → (b || list_any (is_below from) (take place es)) ≡ false
        → (list_any (is_below from) (take place es) ≡ false → insert es place x ≡ placed from x es)
        → insert (e ∷ es) (suc place) x ≡ cond b (x ∷ e ∷ es) (e ∷ placed from x es)
    go true none rest = absurd (cc)
    go false none rest = ap (λ (xs : List ReadyEntry). e ∷ xs) (rest none)

-- another level keeps its tasks
placed_elsewhere : (from : ℕ) (x : ReadyEntry) (es : List ReadyEntry) (l : ℕ) → l ≢ x.level → tasks_at (placed from x es) l ≡ tasks_at es l
placed_elsewhere from x [] l other = elsewhere x [] l other
placed_elsewhere from x (e ∷ es) l other = go (is_below from e) (placed_elsewhere from x es l other)
  where
    go : (b : Bool) → tasks_at (placed from x es) l ≡ tasks_at es l → tasks_at (cond b (x ∷ e ∷ es) (e ∷ placed from x es)) l ≡ tasks_at (e ∷ es) l
    go true rest = elsewhere x (e ∷ es) l other
    go false rest = ap (λ (tasks : List ℕ). cond (e.level == l) (e.task ∷ tasks) tasks) rest

-- from its own level on it is the newest
newest_here : (x : ReadyEntry) (es : List ReadyEntry) (top : ℕ) → AreFalling top es
    → tasks_at (placed x.level x es) x.level ≡ tasks_at es x.level ++ x.task ∷ []
newest_here x [] top falling = here x []
newest_here x (e ∷ es) top falling = go (is_below x.level e) refl (newest_here x es e.level falling.1)
  where
    further : (b : Bool) → cond b (e.task ∷ (tasks_at es x.level ++ x.task ∷ [])) (tasks_at es x.level ++ x.task ∷ [])
        ≡ cond b (e.task ∷ tasks_at es x.level) (tasks_at es x.level) ++ x.task ∷ []
    further true = refl
    further false = refl

    go : (b : Bool) → is_below x.level e ≡ b → tasks_at (placed x.level x es) x.level ≡ tasks_at es x.level ++ x.task ∷ []
        → tasks_at (cond b (x ∷ e ∷ es) (e ∷ placed x.level x es)) x.level ≡ tasks_at (e ∷ es) x.level ++ x.task ∷ []
    go true test rest =
        let less = ltb-true _ _ test in
        let none : tasks_at (e ∷ es) x.level ≡ [] = none_above e.level (e ∷ es) (omega arith, falling.1) x.level less in
        here x (e ∷ es) ∙ ap (λ (tasks : List ℕ). x.task ∷ tasks) none ∙ sym (ap (λ (tasks : List ℕ). tasks ++ x.task ∷ []) none)
    go false test rest =
        ap (λ (tasks : List ℕ). cond (e.level == x.level) (e.task ∷ tasks) tasks) rest
        ∙ further (e.level == x.level)

pub newest : (x : ReadyEntry) (es : List ReadyEntry) (top : ℕ) → AreFalling top es
    → tasks_at (placed x.level x es) ≡ with_newest x.level x.task (tasks_at es)
newest x es top falling =
    same_queues x.level (tasks_at (placed x.level x es)) (with_newest x.level x.task (tasks_at es))
    (newest_here x es top falling ∙ sym (with_level-same x.level (tasks_at es x.level ++ x.task ∷ []) (tasks_at es)))
    (λ l other. placed_elsewhere x.level x es l other ∙ sym (with_level-other x.level l (tasks_at es x.level ++ x.task ∷ []) (tasks_at es) other))

-- from the next level on it is the oldest
oldest_here : (x : ReadyEntry) (es : List ReadyEntry) → tasks_at (placed (x.level + 1) x es) x.level ≡ x.task ∷ tasks_at es x.level
oldest_here x [] = here x []
oldest_here x (e ∷ es) = go (is_below (x.level + 1) e) refl (oldest_here x es)
  where
    go : (b : Bool) → is_below (x.level + 1) e ≡ b → tasks_at (placed (x.level + 1) x es) x.level ≡ x.task ∷ tasks_at es x.level
        → tasks_at (cond b (x ∷ e ∷ es) (e ∷ placed (x.level + 1) x es)) x.level ≡ x.task ∷ tasks_at (e ∷ es) x.level
    go true test rest = here x (e ∷ es)
    go false test rest =
        let more = ltb-false _ _ test in
        let other : x.level ≢ e.level = λ same. absurd (omega (arith, same, more)) in
        elsewhere e (placed (x.level + 1) x es) x.level other
        ∙ rest
        ∙ sym (ap (λ (tasks : List ℕ). x.task ∷ tasks) (elsewhere e es x.level other))

pub oldest : (x : ReadyEntry) (es : List ReadyEntry) → tasks_at (placed (x.level + 1) x es) ≡ with_oldest x.level x.task (tasks_at es)
oldest x es =
    same_queues x.level (tasks_at (placed (x.level + 1) x es)) (with_oldest x.level x.task (tasks_at es))
    (oldest_here x es ∙ sym (with_level-same x.level (x.task ∷ tasks_at es x.level) (tasks_at es)))
    (λ l other. placed_elsewhere (x.level + 1) x es l other ∙ sym (with_level-other x.level l (x.task ∷ tasks_at es x.level) (tasks_at es) other))

-- they stay in order
pub placed_falling : (from : ℕ) (x : ReadyEntry) (es : List ReadyEntry) (top : ℕ) → from ≤ x.level + 1 → x.level ≤ from → x.level ≤ top
    → AreFalling top es → AreFalling top (placed from x es)
placed_falling from x [] top near own low falling = (low, tt)
placed_falling from x (e ∷ es) top near own low falling =
    go (is_below from e) refl (λ less. placed_falling from x es e.level near own less falling.1)
  where
    go : (b : Bool) → is_below from e ≡ b → (x.level ≤ e.level → AreFalling e.level (placed from x es))
        → AreFalling top (cond b (x ∷ e ∷ es) (e ∷ placed from x es))
    go true test rest = let less = ltb-true _ _ test in (low, (omega arith, falling.1))
    go false test rest = let more = ltb-false _ _ test in (falling.0, rest (omega arith))

pub length-placed : (from : ℕ) (x : ReadyEntry) (es : List ReadyEntry) → length (placed from x es) ≡ suc (length es)
length-placed from x [] = refl
length-placed from x (e ∷ es) = go (is_below from e) (length-placed from x es)
  where
    go : (b : Bool) → length (placed from x es) ≡ suc (length es) → length (cond b (x ∷ e ∷ es) (e ∷ placed from x es)) ≡ suc (suc (length es))
    go true rest = refl
    go false rest = ap suc rest

-- ---- the whole list

pub total-entries : (es : List ReadyEntry) (top : ℕ) → AreFalling top es → top < LEVELS → total (tasks_at es) ≡ length es
total-entries [] top falling below = total-no_tasks
total-entries (e ∷ es) top falling below =
    let low = falling.0 in
    let rest = total-entries es e.level falling.1 (omega arith) in
    let more = total-with_oldest e.level e.task (tasks_at es) (omega arith) in
    ap total (in_front e es) ∙ omega (arith, rest, more)

pub length-tasks : (es : List ReadyEntry) → AreFalling (LEVELS - 1) es → total (tasks_at es) ≡ length es
length-tasks es falling = total-entries es (LEVELS - 1) falling (omega arith)

level_low : (e : ReadyEntry) (es : List ReadyEntry) → AreFalling (LEVELS - 1) (e ∷ es) → e.level < LEVELS
level_low e es falling = let low = falling.0 in omega arith

no_top : top_level no_tasks ≡ None
no_top = top_below-none LEVELS no_tasks (λ l low. refl)

pub top_is : (es : List ReadyEntry) → AreFalling (LEVELS - 1) es → first_level es ≡ top_level (tasks_at es)
top_is [] falling = sym no_top
top_is (e ∷ es) falling =
    sym (ap top_level (in_front e es) ∙ top-with_oldest e.level e.task (tasks_at es) (level_low e es falling) (high_are_none e es falling.1))

pub first_is : (es : List ReadyEntry) → AreFalling (LEVELS - 1) es → first_ready es ≡ first_task (tasks_at es)
first_is [] falling = sym (ap (first_at no_tasks) no_top)
first_is (e ∷ es) falling =
    sym (ap first_task (in_front e es) ∙ first_task-with_oldest e.level e.task (tasks_at es) (level_low e es falling) (high_are_none e es falling.1))

pub rest_is : (es : List ReadyEntry) → AreFalling (LEVELS - 1) es → tasks_at (drop 1 es) ≡ without_first (tasks_at es)
rest_is [] falling = sym (ap (without_first_at no_tasks) no_top)
rest_is (e ∷ es) falling =
    sym (ap without_first (in_front e es) ∙ without_first-with_oldest e.level e.task (tasks_at es) (level_low e es falling) (high_are_none e es falling.1))

lower_falling : (top more : ℕ) (es : List ReadyEntry) → top ≤ more → AreFalling top es → AreFalling more es
lower_falling top more [] low falling = tt
lower_falling top more (e ∷ es) low falling = let first = falling.0 in (omega arith, falling.1)

pub rest_falling : (top : ℕ) (es : List ReadyEntry) → AreFalling top es → AreFalling top (drop 1 es)
rest_falling top [] falling = tt
rest_falling top (e ∷ es) falling = lower_falling e.level top es falling.0 falling.1

pub rest_few : (es : List ReadyEntry) → length (drop 1 es) ≤ length es
rest_few [] = omega arith
rest_few (e ∷ es) = omega arith
