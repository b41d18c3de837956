-- In every run the words of a resource change, while a job holds it, only by that job's own stores.
use Rattle.std.proofs.Common.{◌≡◌, ℕ, zero, suc, Bool, true, false, ◌||◌, List, [], ◌∷◌, ◌++◌, refl, sym, ◌∙◌, ap, subst}
use Rattle.std.specs.List.{list_any}
use Rattle.std.proofs.lemmas.List.Folds.{list_any-append}
use Rattle.osek_base.specs.declared.arrivals.Arrival.{Arrival}
use Rattle.osek_base.specs.System.{System}
use Rattle.osek_base.specs.State.{JobId, shared_window}
use Rattle.osek_base.specs.Tick.{Step, tick}
use Rattle.osek_base.specs.Trace.{Run, arriving, with_earlier, step_added, run}
use Rattle.osek_base.specs.Laws.{is_get, is_release, is_store, does, shared_after, Protects}
use Rattle.osek_base.specs.Proper.{IsProper}
use Rattle.law_runs.proofs.Records.{NoneExecuted, none_boot}
use Rattle.law_runs.proofs.Single.{IsSingle}
use Rattle.law_runs.proofs.SingleTick.{boot_single, tick_single}
use Rattle.law_runs.proofs.Excluding.{more_at}
use Rattle.law_runs.proofs.HoldingTick.{IsHeld, tick_held, tick_got, tick_window}
use Rattle.std.proofs.lemmas.Bool.{or_parts}
use Rattle.std.proofs.lemmas.List.{same_from_push}

-- ---- lists by their end

module _ {X : Type 0} where
  pub record HasEnd (xs : List X) : Type 0 where
    pub front : List X
    pub end : X
    pub same : xs ≡ front ++ end ∷ []

  by_end : (x : X) (xs : List X) → HasEnd (x ∷ xs)
  by_end x [] = record { front = []; end = x; same = refl }
  by_end x (y ∷ ys) = let h = by_end y ys in record { front = x ∷ h.front; end = h.end; same = ap (λ zs. x ∷ zs) h.same }

  none_inside : {Y : Type 0} (xs ys : List X) (x : X) → [] ≡ xs ++ x ∷ ys → Y
  none_inside [] ys x h = absurd (cc)
  none_inside (z ∷ xs) ys x h = absurd (cc)

  regrouped : (xs ys zs : List X) → xs ++ (ys ++ zs) ≡ (xs ++ ys) ++ zs
  regrouped [] ys zs = refl
  regrouped (x ∷ xs) ys zs = ap (λ ws. x ∷ ws) (regrouped xs ys zs)

-- the window after some steps is that after the last of them
window_at_end : (r : ℕ) (got : Step) (front : List Step) (end : Step)
    → shared_after r got (front ++ end ∷ []) ≡ shared_window end.after.shared r
window_at_end r got [] end = refl
window_at_end r got (step ∷ front) end = window_at_end r step front end

-- ---- whole runs

-- protection, in some steps
abbrev pub AreProtected : List Step → Type 0
AreProtected steps =
    (r : ℕ) (job : JobId) (earlier between : List Step) (got next : Step) → steps ≡ earlier ++ got ∷ between ++ next ∷ []
    → does (is_get r) job got ≡ true → list_any (does (is_release r) job) between ≡ false → does (is_store r) job next ≡ false
    → shared_window next.after.shared r ≡ shared_after r got between

module _ (S : System) (proper : IsProper S) where
  -- who got a resource and hasn't released it holds it alone
  abbrev pub AreHolders : Run → Type 0
  AreHolders run =
      (r : ℕ) (job : JobId) (earlier between : List Step) (got : Step) → run.steps ≡ earlier ++ got ∷ between
      → does (is_get r) job got ≡ true → list_any (does (is_release r) job) between ≡ false → IsHeld S r job run.state

  -- the windows after the last step are those of the state
  abbrev pub AreWindows : Run → Type 0
  AreWindows run =
      (r : ℕ) (earlier between : List Step) (got : Step) → run.steps ≡ earlier ++ got ∷ between
      → shared_after r got between ≡ shared_window run.state.shared r

  pub record IsProtectedRun (run : Run) : Type 0 where
    pub single : IsSingle S run.state
    pub unwritten : NoneExecuted run.unwritten
    pub holders : AreHolders run
    pub windows : AreWindows run
    pub protected : AreProtected run.steps

  module _ (run : Run) (arrived : List ℕ) (good : IsProtectedRun run) where
    abbrev pub this : Step
    this = with_earlier run.unwritten (tick S arrived run.state)

    abbrev pub more : Run
    more = step_added run (tick S arrived run.state)

    -- where the last step isn't the first of some, the others are before it
    front_of : (earlier front : List Step) (got end : Step) → run.steps ++ this ∷ [] ≡ earlier ++ got ∷ (front ++ end ∷ [])
        → (run.steps ≡ earlier ++ got ∷ front) × (this ≡ end)
    front_of earlier front got end e =
        same_from_push run.steps (earlier ++ got ∷ front) this end (e ∙ regrouped earlier (got ∷ front) (end ∷ []))

    more_holders : AreHolders more
    more_holders r job earlier [] got e gets free =
        let same : this ≡ got = (same_from_push run.steps earlier this got e).1 in
        tick_got S proper arrived run.state run.unwritten good.unwritten good.single r job
        (subst (λ x. does (is_get r) job x ≡ true) (sym same) gets)
    more_holders r job earlier (y ∷ ys) got e gets free =
        let h = by_end y ys in
        let both = front_of earlier h.front got h.end (e ∙ ap (λ zs. earlier ++ got ∷ zs) h.same) in
        let none = or_parts (list_any (does (is_release r) job) h.front) (does (is_release r) job h.end || false)
        (sym (list_any-append (does (is_release r) job) h.front (h.end ∷ []))
        ∙ ap (list_any (does (is_release r) job)) (sym h.same) ∙ free) in
        tick_held S proper arrived run.state run.unwritten good.unwritten good.single r job
        (good.holders r job earlier h.front got both.0 gets none.0)
        (subst (λ x. does (is_release r) job x ≡ false) (sym both.1) (or_parts (does (is_release r) job h.end) false none.1).0)

    more_windows : AreWindows more
    more_windows r earlier [] got e =
        ap (λ (x : Step). shared_window x.after.shared r) (sym (same_from_push run.steps earlier this got e).1)
    more_windows r earlier (y ∷ ys) got e =
        let h = by_end y ys in
        let both = front_of earlier h.front got h.end (e ∙ ap (λ zs. earlier ++ got ∷ zs) h.same) in
        ap (shared_after r got) h.same ∙ window_at_end r got h.front h.end
        ∙ ap (λ (x : Step). shared_window x.after.shared r) (sym both.1)

    more_protected : AreProtected more.steps
    more_protected r job earlier between got next e gets free stores =
        let both = same_from_push run.steps (earlier ++ got ∷ between) this next e in
        ap (λ (x : Step). shared_window x.after.shared r) (sym both.1)
        ∙ tick_window S proper arrived run.state run.unwritten good.unwritten good.single r job
        (good.holders r job earlier between got both.0 gets free)
        (subst (λ x. does (is_store r) job x ≡ false) (sym both.1) stores)
        ∙ sym (good.windows r earlier between got both.0)

    pub tick_protected : IsProtectedRun more
    tick_protected = record {
      single = tick_single S proper arrived run.state good.single;
      unwritten = tt;
      holders = more_holders;
      windows = more_windows;
      protected = more_protected;
    }

  more_at_protected : (arrivals : List Arrival) (r : Run) (over : Bool) → IsProtectedRun r
      → IsProtectedRun (more_at S proper arrivals r over)
  more_at_protected arrivals r true good = good
  more_at_protected arrivals r false good = tick_protected r (arriving arrivals r.state.tick) good

  run_protected : (mode : ℕ) (arrivals : List Arrival) (n : ℕ) → IsProtectedRun (run S mode arrivals n)
  unfolding run
  run_protected mode arrivals zero = record {
    single = boot_single S proper mode;
    unwritten = none_boot S mode;
    holders = λ r job earlier between got e gets free. none_inside earlier between got e;
    windows = λ r earlier between got e. none_inside earlier between got e;
    protected = λ r job earlier between got next e gets free stores. none_inside (earlier ++ got ∷ between) [] next e;
  }
  run_protected mode arrivals (suc n) =
      more_at_protected arrivals (run S mode arrivals n) (run S mode arrivals n).state.over (run_protected mode arrivals n)

-- protection, in every run
pub protects : (S : System) (mode : ℕ) (arrivals : List Arrival) (n : ℕ) → IsProper S → Protects S mode arrivals n
protects S mode arrivals n proper = (run_protected S proper mode arrivals n).protected
