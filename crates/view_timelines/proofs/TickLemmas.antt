-- Rows of a picture after one more tick.
use Rattle.std.proofs.Common.{ℕ, zero, suc, ◌≡◌, ◌<◌, ◌≤◌, ◌+◌, Bool, false, List, [], ◌∷◌, ◌++◌, map, length, take, drop, get_or, ◌⊎◌, inl, inr, refl, sym, ap, ◌∙◌, subst, arith}
use Rattle.std.proofs.lemmas.List.{append_assoc, drop_all, take_all, drop-append-le, take-append-le, length-drop, length-take, length-append}
use Rattle.osek_base.specs.System.{System}
use Rattle.osek_base.specs.declared.status.TaskState.{TaskState}
use Rattle.seen_ticks.specs.declared.observation.Observation.{Observation}
use Rattle.seen_ticks.specs.declared.task_seen.TaskSeen.{TaskSeen}
use Rattle.view_timelines.specs.declared.moment.Moment.{Moment}
use Rattle.view_timelines.specs.declared.stretch.Stretch.{Stretch}
use Rattle.view_timelines.specs.Moments.{begun_behind, begun_in}
use Rattle.view_timelines.specs.Stretches.{added, stretches}
use Rattle.seen_ticks.specs.Seen.{alike_ticks, numbered, task_seen}
use Rattle.osek_base.specs.declared.trace_event.TraceEvent.{TraceEvent}
use Rattle.view_timelines.specs.Rows.{AreShown, AreRows, Kept, Picture, Shown, all_moments, begun_after, drawn, nothing_kept, routine_row, routine_shown, task_row, task_shown}
use Rattle.view_timelines.specs.RowSteps.{AreChanged, Drawn, Passed, begun_kept, routine_more, task_more}
use Rattle.view_timelines.proofs.StretchLemmas.{stretches_added}

-- a tick outside those that are drawn: before the first, or behind the last
abbrev pub IsOutside : ℕ → ℕ → ℕ → Type 0
IsOutside from to tick = (tick < from) ⊎ (to ≤ tick)

pub length_more : {X : Type 0} (xs : List X) (m : X) → length (xs ++ m ∷ []) ≡ length xs + 1
length_more xs m = length-append xs (m ∷ [])

pub drawn_inside : {X : Type 0} (from to : ℕ) (xs : List X) (m : X) → from ≤ length xs → length xs < to
    → drawn from to (xs ++ m ∷ []) ≡ drawn from to xs ++ m ∷ []
drawn_inside from to xs m begins ends =
    let all : take to (xs ++ m ∷ []) ≡ xs ++ m ∷ [] = take_all to (xs ++ m ∷ []) (omega (arith, length_more xs m, ends)) in
    let each : take to xs ≡ xs = take_all to xs (omega (arith, ends)) in
    rw (all, each) (drop-append-le from xs (m ∷ []) begins)

pub drawn_outside : {X : Type 0} (from to : ℕ) (xs : List X) (m : X) → IsOutside from to (length xs)
    → drawn from to (xs ++ m ∷ []) ≡ drawn from to xs
drawn_outside from to xs m (inl before) =
    drop_all from (take to (xs ++ m ∷ [])) (omega (arith, length-take to (xs ++ m ∷ []), length_more xs m, before))
    ∙ sym (drop_all from (take to xs) (omega (arith, length-take to xs, before)))
drawn_outside from to xs m (inr behind) = ap (drop from) (take-append-le to xs (m ∷ []) behind)

drawn_so_far : {X : Type 0} (from to : ℕ) (xs : List X) → from ≤ length xs → length xs < to
    → length xs ≡ from + length (drawn from to xs)
drawn_so_far from to xs begins ends =
    omega (arith, length-drop from (take to xs), length-take to xs, begins, ends)

-- the stretches of what is drawn, where a tick is drawn and where it isn't
row_inside : (from to tick : ℕ) (xs : List Moment) (m : Moment) → length xs ≡ tick → from ≤ tick → tick < to
    → added tick m (stretches from (drawn from to xs)) ≡ stretches from (drawn from to (xs ++ m ∷ []))
row_inside from to tick xs m counts begins ends =
    let begins' : from ≤ length xs = omega (arith, counts, begins) in
    let ends' : length xs < to = omega (arith, counts, ends) in
    sym (ap (stretches from) (drawn_inside from to xs m begins' ends')
    ∙ stretches_added from tick m (drawn from to xs) (sym counts ∙ drawn_so_far from to xs begins' ends'))

begun_more : (k : ℕ) (begun : Bool) (seen : List Observation) (o : Observation)
    → begun_after k begun (seen ++ o ∷ []) ≡ begun_behind (begun_after k begun seen) (task_seen o k)
begun_more k begun [] o = refl
begun_more k begun (w ∷ seen) o = begun_more k (begun_behind begun (task_seen w k)) seen o

moments_more : (S : System) (k : ℕ) (begun : Bool) (seen : List Observation) (o : Observation)
    → all_moments S k begun (seen ++ o ∷ [])
    ≡ all_moments S k begun seen ++ task_shown S o k (begun_after k begun seen) ∷ []
moments_more S k begun [] o = refl
moments_more S k begun (w ∷ seen) o =
    ap (λ (ms : List Moment). task_shown S w k begun ∷ ms) (moments_more S k (begun_behind begun (task_seen w k)) seen o)

moments_count : (S : System) (k : ℕ) (begun : Bool) (seen : List Observation) → length (all_moments S k begun seen) ≡ length seen
moments_count S k begun [] = refl
moments_count S k begun (w ∷ seen) = ap suc (moments_count S k (begun_behind begun (task_seen w k)) seen)

map_more : {X Y : Type 0} (f : X → Y) (xs : List X) (x : X) → map f (xs ++ x ∷ []) ≡ map f xs ++ f x ∷ []
map_more f [] x = refl
map_more f (y ∷ xs) x = ap (λ ys. f y ∷ ys) (map_more f xs x)

map_count : {X Y : Type 0} (f : X → Y) (xs : List X) → length (map f xs) ≡ length xs
map_count f [] = refl
map_count f (x ∷ xs) = ap suc (map_count f xs)

abbrev of : List Stretch → Bool → Shown
of row begun = record { row = row; begun = begun }

from_parts : (row row' : List Stretch) (begun begun' : Bool) → row ≡ row' → begun ≡ begun' → of row begun ≡ of row' begun'
from_parts row row' begun begun' e f = rw (e, f)

same_shown : (a b : Shown) → a.row ≡ b.row → a.begun ≡ b.begun → a ≡ b
same_shown a b e f = from_parts a.row b.row a.begun b.begun e f

-- what a tick changes of what is shown of task k and of routine k, and what one that isn't drawn does
abbrev task_next : System → Observation → ℕ → ℕ → Shown → Shown
task_next S o tick k s = of (added tick (task_shown S o k s.begun) s.row) (begun_behind s.begun (task_seen o k))

abbrev routine_next : System → Observation → ℕ → ℕ → Shown → Shown
routine_next S o tick k s = of (added tick (routine_shown S o k) s.row) s.begun

abbrev begun_next : Observation → ℕ → Shown → Shown
begun_next o k s = of s.row (begun_behind s.begun (task_seen o k))

-- what is shown of a task, and of a routine, behind a tick that is drawn
task_inside : (S : System) (from to tick : ℕ) (seen : List Observation) (o : Observation) (k : ℕ)
    → length seen ≡ tick → from ≤ tick → tick < to
    → task_next S o tick k (task_row S from to seen k) ≡ task_row S from to (seen ++ numbered tick o ∷ []) k
task_inside S from to tick seen o k counts begins ends = same_shown _ _
    (row_inside from to tick (all_moments S k false seen) (task_shown S o k (begun_after k false seen)) (moments_count S k false seen ∙ counts) begins ends
    ∙ ap (λ ms. stretches from (drawn from to ms)) (sym (moments_more S k false seen (numbered tick o))))
    (sym (begun_more k false seen (numbered tick o)))

routine_inside : (S : System) (from to tick : ℕ) (seen : List Observation) (o : Observation) (k : ℕ)
    → length seen ≡ tick → from ≤ tick → tick < to
    → routine_next S o tick k (routine_row S from to seen k) ≡ routine_row S from to (seen ++ numbered tick o ∷ []) k
routine_inside S from to tick seen o k counts begins ends = same_shown _ _
    (row_inside from to tick (map (λ p. routine_shown S p k) seen) (routine_shown S o k) (map_count (λ p. routine_shown S p k) seen ∙ counts) begins ends
    ∙ ap (λ ms. stretches from (drawn from to ms)) (sym (map_more (λ p. routine_shown S p k) seen (numbered tick o))))
    refl

-- the same behind one that isn't
task_outside : (S : System) (from to tick : ℕ) (seen : List Observation) (o : Observation) (k : ℕ) → IsOutside from to (length seen)
    → begun_next o k (task_row S from to seen k) ≡ task_row S from to (seen ++ numbered tick o ∷ []) k
task_outside S from to tick seen o k outside = same_shown _ _
    (sym (ap (λ ms. stretches from (drawn from to ms)) (moments_more S k false seen (numbered tick o))
    ∙ ap (stretches from) (drawn_outside from to (all_moments S k false seen) (task_shown S o k (begun_after k false seen))
    (subst (IsOutside from to) (sym (moments_count S k false seen)) outside))))
    (sym (begun_more k false seen (numbered tick o)))

routine_outside : (S : System) (from to tick : ℕ) (seen : List Observation) (o : Observation) (k : ℕ) → IsOutside from to (length seen)
    → routine_row S from to seen k ≡ routine_row S from to (seen ++ numbered tick o ∷ []) k
routine_outside S from to tick seen o k outside = same_shown _ _
    (sym (ap (λ ms. stretches from (drawn from to ms)) (map_more (λ p. routine_shown S p k) seen (numbered tick o))
    ∙ ap (stretches from) (drawn_outside from to (map (λ p. routine_shown S p k) seen) (routine_shown S o k)
    (subst (IsOutside from to) (sym (map_count (λ p. routine_shown S p k) seen)) outside))))
    refl

-- where what was shown of each number changed as it has to
all_shown : (n : ℕ) (at after : ℕ → Shown) (change : ℕ → Kept → Kept) (next : ℕ → Shown → Shown) (old new : List Kept)
    → ((k : ℕ) (kept : Kept) → (change k kept).shown ≡ next k kept.shown) → ((k : ℕ) → next k (at k) ≡ after k)
    → AreShown n at old → AreChanged change old new → AreShown n after new
all_shown n at after change next old new moves each are changed = record {
  count = changed.count ∙ are.count;
  each = λ k below.
      ap (λ (x : Kept). x.shown) (changed.each k (subst (λ m. k < m) (sym are.count) below))
      ∙ moves k (get_or old k nothing_kept) ∙ ap (next k) (are.each k below) ∙ each k;
}

all_same : (n : ℕ) (at after : ℕ → Shown) (old new : List Kept)
    → ((k : ℕ) → at k ≡ after k) → new ≡ old → AreShown n at old → AreShown n after new
all_same n at after old new each same are = rw same (record {
  count = are.count;
  each = λ k below. are.each k below ∙ each k;
})

-- a tick more is drawn
pub tick_drawn : (S : System) (o : Observation) (records : List TraceEvent) (tick : ℕ) (old new : Picture)
    → Drawn S o records tick old new → old.from ≤ tick → tick < old.to
    → (seen : List Observation) → length seen ≡ tick → AreRows S seen old → AreRows S (seen ++ numbered tick o ∷ []) new
tick_drawn S o records tick old new drawn begins ends seen counts are = record {
  tasks = rw (drawn.from, drawn.to) (all_shown (length S.tasks) (task_row S old.from old.to seen)
      (task_row S old.from old.to (seen ++ numbered tick o ∷ [])) (task_more S o records tick) (task_next S o tick) old.tasks new.tasks
      (λ k kept. refl)
      (λ k. task_inside S old.from old.to tick seen o k counts begins ends) are.tasks drawn.tasks);
  routines = rw (drawn.from, drawn.to) (all_shown (length S.routines) (routine_row S old.from old.to seen)
      (routine_row S old.from old.to (seen ++ numbered tick o ∷ [])) (routine_more S o records tick) (routine_next S o tick) old.routines new.routines
      (λ k kept. refl)
      (λ k. routine_inside S old.from old.to tick seen o k counts begins ends) are.routines drawn.routines);
}

-- what such a tick leaves of what tasks have begun, another one leaves as it is
begun_again : (state : TaskState) (begun : Bool) (seen : TaskSeen) → begun_in state (begun_in state begun seen) seen ≡ begun_in state begun seen
begun_again TaskState.Running begun seen = refl
begun_again TaskState.Ready begun seen = refl
begun_again TaskState.Waiting begun seen = refl
begun_again TaskState.Suspended begun seen = refl

-- each of so many ticks behind some is outside those that are drawn
abbrev pub AreOutside : ℕ → ℕ → ℕ → ℕ → Type 0
AreOutside from to tick n = (tick + n ≤ from) ⊎ (to ≤ tick)

pub one_outside : (from to tick n : ℕ) → AreOutside from to tick (suc n) → IsOutside from to tick
one_outside from to tick n (inl before) = inl (omega (arith, before))
one_outside from to tick n (inr behind) = inr behind

pub next_outside : (from to tick n : ℕ) → AreOutside from to tick (suc n) → AreOutside from to (tick + 1) n
next_outside from to tick n (inl before) = inl (omega (arith, before))
next_outside from to tick n (inr behind) = inr (omega (arith, behind))

tasks_outside : (S : System) (from to : ℕ) (o : Observation) (k n tick : ℕ) (seen : List Observation)
    → AreOutside from to (length seen) (suc n)
    → begun_next o k (task_row S from to seen k) ≡ task_row S from to (seen ++ alike_ticks o tick (suc n)) k
tasks_outside S from to o k zero tick seen outside = task_outside S from to tick seen o k (one_outside from to (length seen) zero outside)
tasks_outside S from to o k (suc n) tick seen outside =
    let one = task_outside S from to tick seen o k (one_outside from to (length seen) (suc n) outside) in
    let more : List Observation = seen ++ numbered tick o ∷ [] in
    let rest : AreOutside from to (length more) (suc n) =
    subst (λ m. AreOutside from to m (suc n)) (sym (length_more seen (numbered tick o))) (next_outside from to (length seen) (suc n) outside) in
    sym (same_shown (begun_next o k (begun_next o k (task_row S from to seen k))) (begun_next o k (task_row S from to seen k))
    refl (begun_again (task_seen o k).state (begun_after k false seen) (task_seen o k)))
    ∙ ap (begun_next o k) one
    ∙ tasks_outside S from to o k n (suc tick) more rest
    ∙ ap (λ ws. task_row S from to ws k) (append_assoc seen (numbered tick o ∷ []) (alike_ticks o (suc tick) (suc n)))

routines_outside : (S : System) (from to : ℕ) (o : Observation) (k n tick : ℕ) (seen : List Observation)
    → AreOutside from to (length seen) (suc n)
    → routine_row S from to seen k ≡ routine_row S from to (seen ++ alike_ticks o tick (suc n)) k
routines_outside S from to o k zero tick seen outside = routine_outside S from to tick seen o k (one_outside from to (length seen) zero outside)
routines_outside S from to o k (suc n) tick seen outside =
    let one = routine_outside S from to tick seen o k (one_outside from to (length seen) (suc n) outside) in
    let more : List Observation = seen ++ numbered tick o ∷ [] in
    let rest : AreOutside from to (length more) (suc n) =
    subst (λ m. AreOutside from to m (suc n)) (sym (length_more seen (numbered tick o))) (next_outside from to (length seen) (suc n) outside) in
    one
    ∙ routines_outside S from to o k n (suc tick) more rest
    ∙ ap (λ ws. routine_row S from to ws k) (append_assoc seen (numbered tick o ∷ []) (alike_ticks o (suc tick) (suc n)))

-- ticks that aren't drawn pass: one at least
pub ticks_passed : (S : System) (o : Observation) (tick n : ℕ) (old new : Picture) → Passed o old new
    → (seen : List Observation) → AreOutside old.from old.to (length seen) (suc n) → AreRows S seen old
    → AreRows S (seen ++ alike_ticks o tick (suc n)) new
ticks_passed S o tick n old new passed seen outside are = record {
  tasks = rw (passed.from, passed.to) (all_shown (length S.tasks) (task_row S old.from old.to seen)
      (task_row S old.from old.to (seen ++ alike_ticks o tick (suc n))) (begun_kept o) (begun_next o) old.tasks new.tasks
      (λ k kept. refl)
      (λ k. tasks_outside S old.from old.to o k n tick seen outside) are.tasks passed.tasks);
  routines = rw (passed.from, passed.to) (all_same (length S.routines) (routine_row S old.from old.to seen)
      (routine_row S old.from old.to (seen ++ alike_ticks o tick (suc n))) old.routines new.routines
      (λ k. routines_outside S old.from old.to o k n tick seen outside) passed.routines are.routines);
}
