-- What stands at one of several lists of nodes, and what a node tells of who calls.
use Rattle.std.proofs.Common.{◌≡◌, ℕ, Bool, true, false, ◌||◌, nat_le, List, [], ◌∷◌, ◌++◌, length, refl, sym, ◌∙◌, ap, arith}
use Rattle.std.specs.Prelude.{◌==◌}
use Rattle.std.specs.List.{flat_map, list_any}
use Rattle.osek_base.specs.declared.ids.Owner.{Owner}
use Rattle.std.proofs.lemmas.Bool.{and_parts}
use Rattle.osek_base.specs.Lists.{is_empty}
use Rattle.osek_base.specs.Service.{JobCalls, RoutineCalls, running_task}
use Rattle.osek_base.specs.State.{Active, Job, State, jobs_of, same_id}
use Rattle.osek_base.specs.System.{System, activation_of}
use Rattle.law_runs.proofs.Known.{IsRunningCaller}
use Rattle.law_runs.proofs.Lists.{clash}
use Rattle.law_costs.specs.Known.{ExcludesOthers}
use Rattle.law_nodes.specs.Nodes.{Standing, Table, is_at, is_told}
use Rattle.law_nodes.specs.Services.{caller_by}
use Rattle.law_nodes.proofs.Answering.{TellsRunning}
use Rattle.law_nodes.proofs.Owning.{some_kept}
use Rattle.law_nodes.proofs.Refusing.{TellsOf}

-- ---- lists one behind another

either : (a b c : Bool) (d : Bool) → b ≡ (c || d) → (a || b) ≡ ((a || c) || d)
either true b c d h = refl
either false b c d h = h

told_append : (y : Standing) (some others : Table)
    → is_told (some ++ others) y ≡ (is_told some y || is_told others y)
told_append y [] others = refl
told_append y (m ∷ some) others =
    either (is_at m y) (is_told (some ++ others) y) (is_told some y) (is_told others y)
    (told_append y some others)

pub told_each : {X : Type 0} (y : Standing) (f : X → Table) (xs : List X)
    → is_told (flat_map f xs) y ≡ list_any (λ x. is_told (f x) y) xs
told_each y f [] = refl
told_each y f (x ∷ xs) =
    told_append y (f x) (flat_map f xs) ∙ ap (λ b. is_told (f x) y || b) (told_each y f xs)

-- ---- who calls

full_by_one : (most : ℕ) (jobs : List Job) → is_empty jobs ≡ false → nat_le most 1 ≡ true
    → nat_le most (length jobs) ≡ true
full_by_one most [] some few = clash some
full_by_one most (j ∷ jobs) some few = grind (arith, few)

module _ (S : System) (s : State) (j : Job) (calls : IsRunningCaller s j) where
  pub job_tells : ExcludesOthers S (JobCalls j) s
      → TellsOf S s (caller_by (Owner.Task j.id.task) j.held) (JobCalls j)
  job_tells excludes = record {
    routine = refl;
    any = refl;
    own = λ t. refl;
    basic = refl;
    take = λ r. refl;
    above = λ r. refl;
    last = λ r. refl;
    held = λ r. refl;
    alone = excludes;
    there = λ t own.
        some_kept (λ k. k.id.task == t) (λ k. same_id k.id j.id) s.jobs j calls.found own;
    full = λ t own.
        let both = and_parts (j.id.task == t) (nat_le (activation_of S t) 1) own in
        full_by_one (activation_of S t) (jobs_of t s.jobs)
        (some_kept (λ k. k.id.task == t) (λ k. same_id k.id j.id) s.jobs j calls.found both.0)
        both.1;
  }

  pub job_tells_running : TellsRunning s (Owner.Task j.id.task)
      (caller_by (Owner.Task j.id.task) j.held)
  job_tells_running = record {
    runs = sym (ap running_task calls.runs);
    own = λ t own. ap (λ o. running_task o == t) calls.runs ∙ own;
  }

module _ (S : System) (s : State) (a : Active) where
  pub routine_tells : TellsOf S s (caller_by (Owner.Routine a.routine) []) (RoutineCalls a)
  routine_tells = record {
    routine = refl;
    any = refl;
    own = λ t. refl;
    basic = refl;
    take = λ r. refl;
    above = λ r. refl;
    last = λ r. refl;
    held = λ r. refl;
    alone = λ on r takes. clash (sym takes);
    there = λ t own. clash (sym own);
    full = λ t own. clash (sym own);
  }

  pub routine_tells_running : TellsRunning s (Owner.Routine a.routine)
      (caller_by (Owner.Routine a.routine) [])
  routine_tells_running = record { runs = tt; own = λ t own. clash (sym own) }
