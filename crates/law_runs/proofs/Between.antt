-- Whether a step between two ticks passes a test, by the last step that does.
use Rattle.std.proofs.Common.{◌≡◌, ℕ, ◌+◌, ◌<◌, ◌≤◌, ◌⊎◌, inl, inr, suc, zero, length, Bool, true, false, cond, not, ◌&&◌, ◌||◌, ◌==◌, nat_lt, nat_le, List, [], ◌∷◌, drop, take, refl, sym, ◌∙◌, ap, arith}
use Rattle.std.specs.Prelude.{Option, Some, None, slice_get}
use Rattle.std.specs.Option.{option_map}
use Rattle.std.specs.List.{take_while, prefix_len, list_any}
use Rattle.std.proofs.lemmas.List.Folds.{list_any-append}
use Rattle.std.proofs.lemmas.Bool.{cases_lt, and_parts}
use Rattle.osek_base.specs.declared.arrivals.Arrival.{Arrival}
use Rattle.osek_base.specs.Lists.{below}
use Rattle.osek_base.specs.System.{System, priority_of}
use Rattle.osek_base.specs.State.{Job, JobId, State}
use Rattle.osek_base.specs.Priority.{static_priority}
use Rattle.osek_base.specs.Tick.{Step}
use Rattle.osek_base.specs.Trace.{boot, run}
use Rattle.osek_base.specs.Blocker.{executing_job, executes, is_ready_from, is_number, blockers}
use Rattle.osek_base.specs.BlockingText.{executes_in, behind_last, ready_since, blockers_since, executor_at, blockers_at}
use Rattle.osek_base.specs.Proper.{IsProper}
use Rattle.law_runs.proofs.Lists.{clash, some_inside, found}
use Rattle.law_runs.proofs.Known.{all_below}
use Rattle.law_runs.proofs.Foremost.{same_self}
use Rattle.law_runs.proofs.Counting.{one_if, is_lower, lower_in, blockers_counted}

abbrev pub passes : (Step → Bool) → Option Step → Bool
passes g None = false
passes g (Some x) = g x

-- whether one of the steps from u on and before v passes
abbrev pub any_between : (Step → Bool) → List Step → ℕ → ℕ → Bool
any_between g xs u zero = false
any_between g [] u (suc v) = false
any_between g (x ∷ xs) zero (suc v) = g x || any_between g xs zero v
any_between g (x ∷ xs) (suc u) (suc v) = any_between g xs u v

-- behind the last step before v that passes, 0 where none does
abbrev pub behind : (Step → Bool) → List Step → ℕ → ℕ
behind g xs zero = 0
behind g xs (suc v) = cond (passes g (slice_get xs v)) (suc v) (behind g xs v)

-- whether a job of that static priority executes
abbrev pub is_of_level : System → ℕ → Option Job → Bool
is_of_level S l None = false
is_of_level S l (Some k) = static_priority S k == l

abbrev pub at_level : System → ℕ → Step → Bool
at_level S l step = is_of_level S l (executing_job step)

or_none : (b : Bool) → (b || false) ≡ b
or_none true = refl
or_none false = refl

or_assoc : (a b c : Bool) → (a || (b || c)) ≡ ((a || b) || c)
or_assoc true b c = refl
or_assoc false b c = refl

le_zero : (v : ℕ) → nat_le 0 v ≡ true
le_zero v = grind arith

le_both : (u v : ℕ) → nat_le (suc u) (suc v) ≡ nat_le u v
le_both u v = grind arith

le_far : (u : ℕ) → nat_le (suc u) 0 ≡ false
le_far u = grind arith

lt_zero : (u : ℕ) → nat_lt u 0 ≡ false
lt_zero u = grind arith

module _ (g : Step → Bool) where
  none_there : (u v : ℕ) → any_between g [] u v ≡ false
  none_there u zero = refl
  none_there u (suc v) = refl

  one_later : (xs : List Step) (u v : ℕ) → any_between g xs u (suc v)
      ≡ (any_between g xs u v || (nat_le u v && passes g (slice_get xs v)))
  one_later [] u v = rw (none_there u v) (none (nat_le u v))
    where
      none : (b : Bool) → false ≡ (b && false)
      none true = refl
      none false = refl
  one_later (x ∷ xs) zero zero = or_none (g x)
  one_later (x ∷ xs) zero (suc v) =
      ap (λ b. g x || b) (one_later xs zero v)
      ∙ or_assoc (g x) (any_between g xs zero v) (nat_le 0 v && passes g (slice_get xs v))
      ∙ ap (λ b. (g x || any_between g xs zero v) || (b && passes g (slice_get xs v))) (le_zero v ∙ sym (le_zero (suc v)))
  one_later (x ∷ xs) (suc u) zero = sym (rw (le_far u) refl)
  one_later (x ∷ xs) (suc u) (suc v) =
      one_later xs u v ∙ ap (λ b. any_between g xs u v || (b && passes g (slice_get xs v))) (sym (le_both u v))

  behind_le : (xs : List Step) (v : ℕ) → behind g xs v ≤ v
  behind_le xs zero = omega arith
  behind_le xs (suc v) = go (passes g (slice_get xs v)) (behind_le xs v)
    where
      go : (b : Bool) → behind g xs v ≤ v → cond b (suc v) (behind g xs v) ≤ suc v
      go true h = omega arith
      go false h = omega (arith, h)

  pub by_last : (xs : List Step) (u v : ℕ) → any_between g xs u v ≡ nat_lt u (behind g xs v)
  by_last xs u zero = sym (lt_zero u)
  by_last xs u (suc v) = one_later xs u v ∙ go (passes g (slice_get xs v)) (nat_le u v) refl (by_last xs u v) (behind_le xs v)
    where
      go : (b c : Bool) → nat_le u v ≡ c → any_between g xs u v ≡ nat_lt u (behind g xs v) → behind g xs v ≤ v
          → (any_between g xs u v || (c && b)) ≡ nat_lt u (cond b (suc v) (behind g xs v))
      go true true e same least = at (any_between g xs u v) ∙ sym (grind (arith, e))
        where
          at : (a : Bool) → (a || true) ≡ true
          at true = refl
          at false = refl
      go true false e same least =
          or_none (any_between g xs u v) ∙ same
          ∙ (let less : v < u = grind (arith, e) in
          let far : behind g xs v ≤ u = omega (arith, less, least) in
          let one : nat_lt u (behind g xs v) ≡ false = grind (arith, far) in
          let two : nat_lt u (suc v) ≡ false = grind (arith, less) in
          one ∙ sym two)
      go false true e same least = or_none (any_between g xs u v) ∙ same
      go false false e same least = or_none (any_between g xs u v) ∙ same

-- ---- by levels

any_or : (f g h : Step → Bool) → ((x : Step) → f x ≡ (g x || h x)) → (xs : List Step) (u v : ℕ)
    → any_between f xs u v ≡ (any_between g xs u v || any_between h xs u v)
any_or f g h each xs u zero = refl
any_or f g h each [] u (suc v) = refl
any_or f g h each (x ∷ xs) zero (suc v) =
    rw (each x, any_or f g h each xs zero v) (four (g x) (h x) (any_between g xs zero v) (any_between h xs zero v))
  where
    four : (a b c d : Bool) → ((a || b) || (c || d)) ≡ ((a || c) || (b || d))
    four true b c d = refl
    four false true true d = refl
    four false true false d = refl
    four false false c d = refl
any_or f g h each (x ∷ xs) (suc u) (suc v) = any_or f g h each xs u v

any_none : (f : Step → Bool) → ((x : Step) → f x ≡ false) → (xs : List Step) (u v : ℕ) → any_between f xs u v ≡ false
any_none f each xs u zero = refl
any_none f each [] u (suc v) = refl
any_none f each (x ∷ xs) zero (suc v) = rw (each x) (any_none f each xs zero v)
any_none f each (x ∷ xs) (suc u) (suc v) = any_none f each xs u v

module _ (S : System) where
  none_lower : (o : Option Job) → is_lower S 0 o ≡ false
  none_lower None = refl
  none_lower (Some k) = lt_zero (static_priority S k)

  one_level : (p : ℕ) (o : Option Job) → is_lower S (suc p) o ≡ (is_lower S p o || is_of_level S p o)
  one_level p None = refl
  one_level p (Some k) = at (static_priority S k)
    where
      at : (s : ℕ) → nat_lt s (suc p) ≡ (nat_lt s p || (s == p))
      at s = grind arith

  pub by_levels : (xs : List Step) (u v p : ℕ)
      → any_between (lower_in S p) xs u v ≡ list_any (λ l. nat_lt u (behind (at_level S l) xs v)) (below p)
  by_levels xs u v zero = any_none (lower_in S 0) (λ x. none_lower (executing_job x)) xs u v
  by_levels xs u v (suc p) =
      any_or (lower_in S (suc p)) (lower_in S p) (at_level S p) (λ x. one_level p (executing_job x)) xs u v
      ∙ rw (by_levels xs u v p, by_last (at_level S p) xs u v)
      (sym (list_any-append (λ l. nat_lt u (behind (at_level S l) xs v)) (below p) (p ∷ [])
      ∙ ap (λ b. list_any (λ l. nat_lt u (behind (at_level S l) xs v)) (below p) || b) (or_none _)))

-- ---- up to the job's own instruction

module _ (f g : Step → Bool) where
  taken_on : (x : Step) (xs : List Step) → f x ≡ true → take_while f (x ∷ xs) ≡ x ∷ take_while f xs
  taken_on x xs e = rw e (ap (λ n. take n (x ∷ xs)) (one (prefix_len f xs)))
    where
      one : (n : ℕ) → 1 + n ≡ suc n
      one n = omega arith

  taken_off : (x : Step) (xs : List Step) → f x ≡ false → take_while f (x ∷ xs) ≡ []
  taken_off x xs e = rw e refl

  pub until_between : (xs : List Step) (u v : ℕ) (x : Step) → slice_get xs v ≡ Some x → f x ≡ false → u ≤ v
      → ((k : ℕ) → u ≤ k → k < v → passes (λ y. not (f y)) (slice_get xs k) ≡ false)
      → list_any g (take_while f (drop u xs)) ≡ any_between g xs u v
  until_between [] u v x there stop within on = absurd (grind (arith, there))
  until_between (y ∷ xs) zero zero x there stop within on =
      ap (list_any g) (taken_off y xs (ap f (some_inside y x there) ∙ stop))
  until_between (y ∷ xs) zero (suc v) x there stop within on =
      ap (list_any g) (taken_on y xs (unless_not (f y) (on 0 (omega arith) (omega arith))))
      ∙ ap (λ b. g y || b)
      (until_between xs zero v x there stop (omega arith) (λ k least less. on (suc k) (omega arith) (omega (arith, less))))
    where
      unless_not : (b : Bool) → not b ≡ false → b ≡ true
      unless_not true e = refl
      unless_not false e = clash e
  until_between (y ∷ xs) (suc u) zero x there stop within on = absurd (omega (arith, within))
  until_between (y ∷ xs) (suc u) (suc v) x there stop within on =
      until_between xs u v x there stop (omega (arith, within))
      (λ k least less. on (suc k) (omega (arith, least)) (omega (arith, less)))

-- ---- the number of blockers of a tick

-- one where a job of lower static priority executed since a tick, else none
abbrev pub count_since : System → List Step → ℕ → Job → ℕ → ℕ
count_since S steps v j u =
    one_if (list_any (λ l. nat_lt u (behind (at_level S l) steps v)) (below (priority_of S j.id.task)))

abbrev pub counted_since : System → State → List Step → ℕ → Option Job → Option ℕ
counted_since S booted steps v None = None
counted_since S booted steps v (Some j) = option_map (count_since S steps v j) (ready_since S booted steps j.id v)

module _ (n : JobId) (steps : List Step) where
  quiet : (v k : ℕ) → behind_last n steps v ≤ k → k < v → executes_in n (slice_get steps k) ≡ false
  quiet zero k least less = absurd (omega (arith, less))
  quiet (suc v) k least less = go (executes_in n (slice_get steps v)) refl least (cases_lt k v) (quiet v k)
    where
      go : (b : Bool) → executes_in n (slice_get steps v) ≡ b → cond b (suc v) (behind_last n steps v) ≤ k → (k < v) ⊎ (v ≤ k)
          → (behind_last n steps v ≤ k → k < v → executes_in n (slice_get steps k) ≡ false)
          → executes_in n (slice_get steps k) ≡ false
      go true e h either rest = absurd (omega (arith, h, less))
      go false e h (inl under) rest = rest h under
      go false e h (inr above) rest =
          let same : k ≡ v = omega (arith, above, less) in
          ap (λ i. executes_in n (slice_get steps i)) same ∙ e

  same_quiet : (o : Option Step) → passes (λ y. not (not (executes n y))) o ≡ executes_in n o
  same_quiet None = refl
  same_quiet (Some y) = go (executes n y)
    where
      go : (b : Bool) → not (not b) ≡ b
      go true = refl
      go false = refl

pub blockers_at_counted : (S : System) (mode : ℕ) (arrivals : List Arrival) (v : ℕ) (x : Step) (o : Option Job) → IsProper S
    → slice_get (run S mode arrivals (suc v)).steps v ≡ Some x → executing_job x ≡ o
    → blockers_at S mode arrivals v ≡ counted_since S (boot S mode).state (run S mode arrivals (suc v)).steps v o
blockers_at_counted S mode arrivals v x o proper there who =
    ap (λ e. blockers_since S (boot S mode).state steps v (executor_at e)) there
    ∙ ap (blockers_since S (boot S mode).state steps v) who ∙ by_job o who
  where
    steps : List Step
    steps = (run S mode arrivals (suc v)).steps

    by_job : (p : Option Job) → executing_job x ≡ p → blockers_since S (boot S mode).state steps v p
        ≡ counted_since S (boot S mode).state steps v p
    by_job None e = refl
    by_job (Some j) e = go (ready_since S (boot S mode).state steps j.id v) refl
      where
        go : (r : Option ℕ) → ready_since S (boot S mode).state steps j.id v ≡ r
            → option_map (λ u. length (blockers S steps u j.id)) r ≡ option_map (count_since S steps v j) r
        go None h = refl
        go (Some u) h =
            let it = found (λ k. k < suc v)
            (λ k. nat_le (behind_last j.id steps v) k && is_ready_from S (boot S mode).state steps k j.id) (below (suc v)) u
            (all_below (suc v)) h in
            let both = and_parts (nat_le (behind_last j.id steps v) u)
            (is_ready_from S (boot S mode).state steps u j.id) it.1 in
            let least : behind_last j.id steps v ≤ u = grind (arith, both.0) in
            let own : executes j.id x ≡ true = ap (is_number j.id) e ∙ same_self j.id in
            ap Some
            (blockers_counted S mode arrivals (suc v) u j.id proper both.1
            ∙ ap one_if
            (until_between (λ y. not (executes j.id y)) (lower_in S (priority_of S j.id.task)) steps u v x there (ap not own)
            (omega (arith, it.0))
            (λ k from less. same_quiet j.id steps (slice_get steps k) ∙ quiet j.id steps v k (omega (arith, least, from)) less)
            ∙ by_levels S steps u v (priority_of S j.id.task)))
