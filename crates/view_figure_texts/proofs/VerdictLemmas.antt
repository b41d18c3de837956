-- No line is written exactly where all limits are kept.
use Rattle.std.proofs.Common.{◌≡◌, ◌∙◌, ℕ, zero, suc, Bool, true, false, not, cond, nat_lt, List, [], ◌∷◌, ◌++◌, length, refl, sym, ap, ap₂}
use Rattle.std.proofs.Math.Path.{fun_ext}
use Rattle.std.specs.Prelude.{◌&&◌, ◌||◌, Option, Some, None, is_none}
use Rattle.std.specs.List.{flat_map, list_all}
use Rattle.std.proofs.lemmas.List.Folds.{list_all-append}
use Rattle.osek_base.specs.Lists.{below, is_empty}
use Rattle.osek_base.specs.System.{System}
use Rattle.view_figures.specs.declared.reached.Reached.{Reached}
use Rattle.view_figures.specs.declared.task_figures.TaskFigures.{TaskFigures}
use Rattle.view_figures.specs.declared.routine_figures.RoutineFigures.{RoutineFigures}
use Rattle.view_figures.specs.declared.alarm_figures.AlarmFigures.{AlarmFigures}
use Rattle.view_figures.specs.FigureSums.{RunFigures}
use Rattle.view_measures.specs.declared.kind.Kind.{Kind}
use Rattle.view_figure_texts.specs.declared.limits.Limit.{Limit}
use Rattle.view_figure_texts.specs.declared.limits.Limits.{Limits}
use Rattle.view_measures.specs.Kinds.{name_of}
use Rattle.view_figure_texts.specs.Limits.{alarm_refusal_lines, are_kept, broken_text, broken_time, first_at, first_line_of, first_lines, first_text, has_no_loss, has_no_refusal, is_kept, is_unseen, is_within, limit_lines, lines_where, loss_lines, refusal_lines, routine_time, task_refusal_lines, task_time, time_text}

and_assoc : (a b c : Bool) → ((a && b) && c) ≡ (a && (b && c))
and_assoc true b c = refl
and_assoc false b c = refl

-- ---- lists

empty_append : {X : Type 0} (a b : List X) → is_empty (a ++ b) ≡ (is_empty a && is_empty b)
empty_append [] b = refl
empty_append (x ∷ a) b = refl

empty_all : {X Y : Type 0} (f : X → List Y) (xs : List X) → is_empty (flat_map f xs) ≡ list_all (λ x. is_empty (f x)) xs
empty_all f [] = refl
empty_all f (x ∷ xs) = empty_append (f x) (flat_map f xs) ∙ ap (λ b. is_empty (f x) && b) (empty_all f xs)

-- a test of the numbers from 0 on, the first one apart
from_front : (test : ℕ → Bool) (n : ℕ) → list_all test (below (suc n)) ≡ (test 0 && list_all (λ k. test (suc k)) (below n))
from_front test zero = refl
from_front test (suc n) =
    let later = λ (k : ℕ). test (suc k) in
    list_all-append test (below (suc n)) (suc n ∷ [])
    ∙ ap (λ b. b && (test (suc n) && true)) (from_front test n)
    ∙ and_assoc (test 0) (list_all later (below n)) (test (suc n) && true)
    ∙ ap (λ b. test 0 && b) (sym (list_all-append later (below n) (n ∷ [])))

-- ---- lines

time_empty : (name : List ℕ) (most : ℕ) (time : Option Reached) → is_empty (time_text name most time) ≡ is_within most time
unfolding time_text
time_empty name most None = refl
time_empty name most (Some r) = by_case (nat_lt most r.ticks)
  where
    by_case : (b : Bool) → is_empty (cond b (broken_time name most r) []) ≡ not b
    by_case true = refl
    by_case false = refl

limit_empty : (S : System) (f : RunFigures) (limit : Limit) → is_empty (limit_lines S f limit) ≡ is_kept S f limit
unfolding limit_lines
limit_empty S f limit =
    let name = limit.name.now in
    let most = limit.ticks in
    empty_append (time_text name most (task_time S f name)) (time_text name most (routine_time S f name))
    ∙ ap₂ (λ a b. a && b) (time_empty name most (task_time S f name)) (time_empty name most (routine_time S f name))

first_empty : (name what : List ℕ) (first : Option ℕ) → is_empty (first_text name what first) ≡ is_none first
unfolding first_text
first_empty name what None = refl
first_empty name what (Some tick) = refl

unseen_below : {X : Type 0} (first : X → Option ℕ) (things : List X)
    → list_all (λ n. is_none (first_at first things n)) (below (length things)) ≡ is_unseen first things
unseen_below first [] = refl
unseen_below first (x ∷ things) =
    from_front (λ n. is_none (first_at first (x ∷ things) n)) (length things)
    ∙ ap (λ b. is_none (first x) && b) (unseen_below first things)

lines_empty : {X : Type 0} (S : System) (kind : Kind) (what : List ℕ) (first : X → Option ℕ) (things : List X)
    → is_empty (first_lines S kind what first things) ≡ is_unseen first things
lines_empty S kind what first things =
    empty_all (first_line_of S kind what first things) (below (length things))
    ∙ ap (λ (test : ℕ → Bool). list_all test (below (length things)))
    (fun_ext (λ n. first_empty (name_of S kind n) what (first_at first things n)))
    ∙ unseen_below first things

where_empty : (is_set : Bool) (lines : List ℕ) → is_empty (lines_where is_set lines) ≡ (not is_set || is_empty lines)
where_empty true lines = refl
where_empty false lines = refl

-- ---- all

losses_empty : (S : System) (f : RunFigures) → is_empty (loss_lines S f) ≡ has_no_loss f
unfolding loss_lines
losses_empty S f = lines_empty S Kind.Routine _ (λ (r : RoutineFigures). r.first_loss) f.routines

task_refusals_empty : (S : System) (f : RunFigures)
    → is_empty (task_refusal_lines S f) ≡ is_unseen (λ (t : TaskFigures). t.counts.first_refusal) f.tasks
unfolding task_refusal_lines
task_refusals_empty S f = lines_empty S Kind.Task _ (λ (t : TaskFigures). t.counts.first_refusal) f.tasks

alarm_refusals_empty : (S : System) (f : RunFigures)
    → is_empty (alarm_refusal_lines S f) ≡ is_unseen (λ (a : AlarmFigures). a.first_refusal) f.alarms
unfolding alarm_refusal_lines
alarm_refusals_empty S f = lines_empty S Kind.Alarm _ (λ (a : AlarmFigures). a.first_refusal) f.alarms

refusals_empty : (S : System) (f : RunFigures) → is_empty (refusal_lines S f) ≡ has_no_refusal f
refusals_empty S f =
    empty_append (task_refusal_lines S f) (alarm_refusal_lines S f)
    ∙ ap₂ (λ a b. a && b) (task_refusals_empty S f) (alarm_refusals_empty S f)

pub empty_where_kept : (S : System) (f : RunFigures) (limits : Limits) → is_empty (broken_text S f limits) ≡ are_kept S f limits
unfolding broken_text are_kept
empty_where_kept S f limits =
    let times = flat_map (limit_lines S f) limits.times.now in
    let losses = lines_where limits.no_loss (loss_lines S f) in
    let refusals = lines_where limits.no_refusal (refusal_lines S f) in
    let kept = empty_all (limit_lines S f) limits.times.now
    ∙ ap (λ (test : Limit → Bool). list_all test limits.times.now) (fun_ext (limit_empty S f)) in
    let unlost = where_empty limits.no_loss (loss_lines S f) ∙ ap (λ b. not limits.no_loss || b) (losses_empty S f) in
    let unrefused = where_empty limits.no_refusal (refusal_lines S f)
    ∙ ap (λ b. not limits.no_refusal || b) (refusals_empty S f) in
    empty_append (times ++ losses) refusals
    ∙ ap (λ b. b && is_empty refusals) (empty_append times losses)
    ∙ and_assoc (is_empty times) (is_empty losses) (is_empty refusals)
    ∙ ap₂ (λ a b. a && b) kept (ap₂ (λ a b. a && b) unlost unrefused)
