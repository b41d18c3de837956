-- Numbers raised one after another.
use Rattle.std.proofs.Common.{ℕ, ◌≡◌, ◌≤◌, ◌<◌, ◌+◌, Bool, true, false, cond, nat_lt, List, [], ◌∷◌, Option, Some, None, ◌||◌, length, slice_index_or, slice_set, get_or-set_other, get_or-set_same, length-set, lt-ltb, refl, sym, ◌∙◌, ap, subst, arith, true≢false, inl, inr}
use Rattle.std.proofs.lemmas.Bool.{cases_eq, cases_lt}
use Rattle.seen_ticks.specs.declared.failures.Failure.{Failure}
use Rattle.view_measures.specs.declared.figure.Figure.{Figure}
use Rattle.view_measures.specs.declared.measure.Measure.{Measure}
use Rattle.view_measures.specs.Measures.{figure, place_of}
use Rattle.law_figures.specs.Labels.{IsAtMost}
use Rattle.search_peaks.specs.declared.numbers.TheConstants.{MAX_THINGS}
use Rattle.search_peaks.specs.Peaks.{index_of, number_in}
use Rattle.search_peaks.specs.Raising.{AreErrorsNoted, IsNotedBelow, IsNotedOf, Raises}

pub place_low : (m : Measure) → place_of m < 12
place_low Measure.Response = omega arith
place_low Measure.Blocked = omega arith
place_low Measure.Blockers = omega arith
place_low Measure.Jobs = omega arith
place_low Measure.Refusal = omega arith
place_low Measure.Errors = omega arith
place_low Measure.Latency = omega arith
place_low Measure.Loss = omega arith
place_low Measure.RoutineErrors = omega arith
place_low Measure.Hold = omega arith
place_low Measure.RefusedAction = omega arith
place_low Measure.Shutdown = omega arith

-- ---- the number of a figure

pub unraised : (Noted : List ℕ → Type 0) (old : List ℕ) → Noted old → Raises Noted old old false
unraised Noted old noted = record {
  count = refl;
  noted = noted;
  rises = λ f. omega arith;
  stays = λ same. refl;
}

number_at : (numbers : List ℕ) (f : Figure) → f.number < MAX_THINGS
    → number_in numbers f ≡ slice_index_or numbers (index_of f) 0
unfolding number_in
number_at numbers f low =
    ap (λ b. cond b (slice_index_or numbers (index_of f) 0) 0) (lt-ltb f.number MAX_THINGS low)

set_higher : (xs : List ℕ) (i n k : ℕ) → i < length xs → slice_index_or xs i 0 ≤ n
    → slice_index_or xs k 0 ≤ slice_index_or (slice_set xs i n) k 0
set_higher xs i n k inside high =
    elim (cases_eq i k) [
      | inl same ↦
          subst (λ j. slice_index_or xs j 0 ≤ slice_index_or (slice_set xs i n) j 0) same
          (omega (arith, high, get_or-set_same xs i n 0 inside))
      | inr other ↦
          omega (arith, get_or-set_other xs i k n 0 (λ (same : k ≡ i). other (sym same)))
    ]

cond_rises : (b : Bool) (m n : ℕ) → m ≤ n → cond b m 0 ≤ cond b n 0
cond_rises true m n more = more
cond_rises false m n more = omega arith

number_rises : (old : List ℕ) (i n : ℕ) → i < length old → slice_index_or old i 0 ≤ n
    → (f : Figure) → number_in old f ≤ number_in (slice_set old i n) f
unfolding number_in
number_rises old i n inside high f =
    cond_rises (nat_lt f.number MAX_THINGS) _ _ (set_higher old i n (index_of f) inside high)

module _ (f : Figure) (old : List ℕ) (i : ℕ) (low : f.number < MAX_THINGS)
    (is : i ≡ index_of f) where
  pub raised : (n : ℕ) (shown : Option ℕ) → shown ≡ Some n → i < length old
      → slice_index_or old i 0 < n
      → Raises (λ now. IsAtMost (number_in now f) shown) old (slice_set old i n) true
  raised n shown some inside less = record {
    count = length-set old i n;
    noted =
        let stands : slice_index_or (slice_set old i n) (index_of f) 0 ≡ n =
        subst (λ j. slice_index_or (slice_set old i n) j 0 ≡ n) is
        (get_or-set_same old i n 0 inside) in
        subst (IsAtMost (number_in (slice_set old i n) f)) (sym some)
        (omega (arith, number_at (slice_set old i n) f low, stands));
    rises = number_rises old i n inside (omega (arith, less));
    stays = λ unrisen. absurd (true≢false unrisen);
  }

  pub no_higher : (n : ℕ) (shown : Option ℕ) → shown ≡ Some n → n ≤ slice_index_or old i 0
      → Raises (λ now. IsAtMost (number_in now f) shown) old old false
  no_higher n shown some most =
      let stands : n ≤ slice_index_or old (index_of f) 0 =
      subst (λ j. n ≤ slice_index_or old j 0) is most in
      unraised (λ now. IsAtMost (number_in now f) shown) old
      (subst (IsAtMost (number_in old f)) (sym some) (omega (arith, number_at old f low, stands)))

-- ---- what goes on to hold as numbers rise

abbrev pub Rise : List ℕ → List ℕ → Type 0
Rise old new = (f : Figure) → number_in old f ≤ number_in new f

abbrev pub Stays : (List ℕ → Type 0) → Type 0
Stays Noted = (old new : List ℕ) → Rise old new → Noted old → Noted new

pub still_most : (m n : ℕ) (shown : Option ℕ) → m ≤ n → IsAtMost m shown → IsAtMost n shown
still_most m n None more h = tt
still_most m n (Some k) more h = omega (arith, more, h)

module _ (shown : Figure → Option ℕ) where
  pub of_one : (ms : List Measure) (k : ℕ) → Stays (IsNotedOf shown ms k)
  of_one [] k old new rise noted = tt
  of_one (m ∷ ms) k old new rise noted = (
    still_most _ _ (shown (figure m k)) (rise (figure m k)) noted.0,
    of_one ms k old new rise noted.1,
  )

  pub of_all : (ms : List Measure) (n : ℕ) → Stays (IsNotedBelow shown ms n)
  of_all ms n old new rise noted = λ k low. of_one ms k old new rise (noted k low)

pub of_both : (One Other : List ℕ → Type 0) → Stays One → Stays Other
    → Stays (λ numbers. One numbers × Other numbers)
of_both One Other one other old new rise noted =
    (one old new rise noted.0, other old new rise noted.1)

pub of_errors : (failure : Option Failure) → Stays (AreErrorsNoted failure)
of_errors failure old new rise noted = record {
  tasks = λ k. omega (arith, noted.tasks k, rise (figure Measure.Errors k));
  routines = λ i. omega (arith, noted.routines i, rise (figure Measure.RoutineErrors i));
}

-- ---- one after another

-- neither of two tests answers true
neither : (a b : Bool) → (a || b) ≡ false → (a ≡ false) × (b ≡ false)
neither true b none = absurd (true≢false none)
neither false b none = (refl, none)

pub both : (One Other : List ℕ → Type 0) (old now new : List ℕ) (had more : Bool) → Stays One
    → Raises One old now had → Raises Other now new more
    → Raises (λ numbers. One numbers × Other numbers) old new (had || more)
both One Other old now new had more goes_on one other = record {
  count = other.count ∙ one.count;
  noted = (goes_on now new other.rises one.noted, other.noted);
  rises = λ f. omega (arith, one.rises f, other.rises f);
  stays = λ none. let ends = neither had more none in other.stays ends.1 ∙ one.stays ends.0;
}

-- and what follows of it
pub gives : (Noted Follows : List ℕ → Type 0) (old new : List ℕ) (has_risen : Bool)
    → (Noted new → Follows new) → Raises Noted old new has_risen → Raises Follows old new has_risen
gives Noted Follows old new has_risen follows raised = record {
  count = raised.count;
  noted = follows raised.noted;
  rises = raised.rises;
  stays = raised.stays;
}

module _ (shown : Figure → Option ℕ) where
  abbrev IsRaisedTo : Measure → ℕ → Option ℕ → List ℕ → List ℕ → Bool → Type 0
  IsRaisedTo m k x = Raises (λ numbers. IsAtMost (number_in numbers (figure m k)) x)

  -- the first measure of a thing
  pub first_measure : (m : Measure) (k : ℕ) (x : Option ℕ) (old new : List ℕ) (more : Bool)
      → x ≡ shown (figure m k) → IsRaisedTo m k x old new more
      → Raises (IsNotedOf shown (m ∷ []) k) old new more
  first_measure m k x old new more same is =
      gives _ (IsNotedOf shown (m ∷ []) k) old new more
      (λ noted. (subst (IsAtMost (number_in new (figure m k))) same noted, tt)) is

  -- one more
  pub measure_more : (m : Measure) (ms : List Measure) (k : ℕ) (x : Option ℕ)
      (old now new : List ℕ) (had more : Bool) → x ≡ shown (figure m k)
      → Raises (IsNotedOf shown ms k) old now had → IsRaisedTo m k x now new more
      → Raises (IsNotedOf shown (m ∷ ms) k) old new (had || more)
  measure_more m ms k x old now new had more same are is =
      gives _ (IsNotedOf shown (m ∷ ms) k) old new (had || more)
      (λ noted. (subst (IsAtMost (number_in new (figure m k))) same noted.1, noted.0))
      (both _ _ old now new had more (of_one shown ms k) are is)

  -- a thing more
  pub thing_more : (ms : List Measure) (n : ℕ) (old now new : List ℕ) (had more : Bool)
      → Raises (IsNotedBelow shown ms n) old now had → Raises (IsNotedOf shown ms n) now new more
      → Raises (IsNotedBelow shown ms (n + 1)) old new (had || more)
  thing_more ms n old now new had more are is =
      gives _ (IsNotedBelow shown ms (n + 1)) old new (had || more)
      (λ noted k low.
      elim (cases_lt k n) [
        | inl lt ↦ noted.0 k lt
        | inr le ↦
            let e : n ≡ k = omega (arith, low, le) in
            subst (λ i. IsNotedOf shown ms i new) e noted.1
      ])
      (both _ _ old now new had more (of_all shown ms n) are is)
