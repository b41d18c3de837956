-- How many jobs a task has, and that jobs and the active routine have registers and a place in their programs.
use Rattle.std.proofs.Common.{◌≡◌, ℕ, ◌+◌, ◌<◌, ◌≤◌, Bool, true, false, cond, not, List, [], ◌∷◌, ◌++◌, map, length, refl, sym, ◌∙◌, arith}
use Rattle.std.specs.Prelude.{Option, Some, None}
use Rattle.std.specs.List.{filter, AllByRecursion}
use Rattle.osek_base.specs.declared.ids.Owner.{Owner}
use Rattle.osek_base.specs.System.{System, program, activation_of}
use Rattle.osek_base.specs.Instruction.{Context}
use Rattle.osek_base.specs.State.{Job, State, Active, jobs_of}
use Rattle.law_runs.proofs.Lists.{clash}

-- ---- counting

module _ {X : Type 0} (p : X → Bool) where
  pub count_append : (xs ys : List X) → length (filter p (xs ++ ys)) ≡ length (filter p xs) + length (filter p ys)
  count_append [] ys = omega arith
  count_append (x ∷ xs) ys = go (p x) (count_append xs ys)
    where
      go : (b : Bool) → length (filter p (xs ++ ys)) ≡ length (filter p xs) + length (filter p ys)
          → length (cond b (x ∷ filter p (xs ++ ys)) (filter p (xs ++ ys))) ≡ length (cond b (x ∷ filter p xs) (filter p xs)) + length (filter p ys)
      go true e = omega arith
      go false e = e

  pub count_map : (g : X → X) (xs : List X) → ((x : X) → p (g x) ≡ p x) → length (filter p (map g xs)) ≡ length (filter p xs)
  count_map g [] same = refl
  count_map g (x ∷ xs) same = go (p (g x)) (p x) (same x) (count_map g xs same)
    where
      go : (a b : Bool) → a ≡ b → length (filter p (map g xs)) ≡ length (filter p xs)
          → length (cond a (g x ∷ filter p (map g xs)) (filter p (map g xs))) ≡ length (cond b (x ∷ filter p xs) (filter p xs))
      go true true h e = omega arith
      go true false h e = clash h
      go false true h e = clash (sym h)
      go false false h e = e

  -- those that pass another test and those that don't
  pub count_split : (q : X → Bool) (xs : List X)
      → length (filter p (filter (λ x. not (q x)) xs)) + length (filter p (filter q xs)) ≡ length (filter p xs)
  count_split q [] = refl
  count_split q (x ∷ xs) = go (q x) (count_split q xs)
    where
      one : (b : Bool) (l m n : List X) → length l + length m ≡ length n → length (cond b (x ∷ l) l) + length m ≡ length (cond b (x ∷ n) n)
      one true l m n e = omega arith
      one false l m n e = e

      other : (b : Bool) (l m n : List X) → length l + length m ≡ length n → length l + length (cond b (x ∷ m) m) ≡ length (cond b (x ∷ n) n)
      other true l m n e = omega arith
      other false l m n e = e

      go : (b : Bool) → length (filter p (filter (λ y. not (q y)) xs)) + length (filter p (filter q xs)) ≡ length (filter p xs)
          → length (filter p (cond (not b) (x ∷ filter (λ y. not (q y)) xs) (filter (λ y. not (q y)) xs))) + length (filter p (cond b (x ∷ filter q xs) (filter q xs)))
          ≡ length (cond (p x) (x ∷ filter p xs) (filter p xs))
      go true e = other (p x) (filter p (filter (λ y. not (q y)) xs)) (filter p (filter q xs)) (filter p xs) e
      go false e = one (p x) (filter p (filter (λ y. not (q y)) xs)) (filter p (filter q xs)) (filter p xs) e

-- what the elements that pass have
pub all_passing : {X : Type 0} (P : X → Type 0) (q : X → Bool) (xs : List X) → AllByRecursion P (filter q xs) → AllByRecursion (λ x. q x ≡ true → P x) xs
all_passing P q [] h = tt
all_passing P q (x ∷ xs) h = go (q x) refl h (all_passing P q xs)
  where
    go : (b : Bool) → q x ≡ b → AllByRecursion P (cond b (x ∷ filter q xs) (filter q xs)) → (AllByRecursion P (filter q xs) → AllByRecursion (λ y. q y ≡ true → P y) xs)
        → AllByRecursion (λ y. q y ≡ true → P y) (x ∷ xs)
    go true e k rest = ((λ s. k.0), rest k.1)
    go false e k rest = ((λ s. clash (sym s ∙ e)), rest k)

-- ---- form

-- registers, and a place in the owner's program
pub record IsPlaced (S : System) (owner : Owner) (x : Context) : Type 0 where
  pub registers : length x.registers ≡ 8
  pub place : x.place < length (program S owner)

pub record IsPlacedJob (S : System) (j : Job) : Type 0 where
  pub task : j.id.task < length S.tasks
  pub context : IsPlaced S (Owner.Task j.id.task) j.context

pub record IsPlacedRoutine (S : System) (a : Active) : Type 0 where
  pub routine : a.routine < length S.routines
  pub context : IsPlaced S (Owner.Routine a.routine) a.context

abbrev pub HasActive : System → Option Active → Type 0
HasActive S None = Unit {0}
HasActive S (Some a) = IsPlacedRoutine S a

-- a task has no more jobs than it may
abbrev pub IsLimited : System → List Job → Type 0
IsLimited S jobs = (t : ℕ) → length (jobs_of t jobs) ≤ activation_of S t

-- what a service may change
pub record IsFormed (S : System) (s : State) : Type 0 where
  pub masks : length s.masks ≡ length S.tasks
  pub alarms : length s.alarms ≡ length S.alarms
  pub jobs : AllByRecursion (IsPlacedJob S) s.jobs
  pub limited : IsLimited S s.jobs

-- the whole form of a state
pub record HasForm (S : System) (s : State) : Type 0 where
  pub formed : IsFormed S s
  pub pending : length s.pending ≡ length S.routines
  pub active : HasActive S s.active
