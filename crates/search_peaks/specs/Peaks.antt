-- What the ticks of a search have shown at most of each figure, and the services that failed.
use Rattle.std.specs.Prelude.{ℕ, ◌+◌, ◌*◌, ◌≤◌, Bool, true, cond, nat_lt, List, [], Contains, replicate, slice_index_or}
use Rattle.seen_ticks.specs.declared.failures.Failure.{Failure}
use Rattle.view_measures.specs.declared.figure.Figure.{Figure}
use Rattle.view_measures.specs.declared.measure.Measure.{Measure}
use Rattle.view_measures.specs.declared.measure.Sort.{Sort}
use Rattle.view_measures.specs.Measures.{place_of, sort_of}
use Rattle.search_peaks.specs.declared.numbers.TheConstants.{MAX_THINGS, PLACES}

-- the greatest numbers, measure by measure, and in each thing by thing; and the services that were
-- answered other than E_OK, each once
pub record Peaks : Type 0 where
  pub numbers : List ℕ
  pub failures : List Failure

-- where the number of a figure stands
abbrev pub index_of : Figure → ℕ
index_of f = place_of f.measure * MAX_THINGS + f.number

-- the number of a figure: ticks of a time, how many, and of what comes or not 1 where it has come
unfoldable pub number_in : List ℕ → Figure → ℕ
number_in numbers f =
    cond (nat_lt f.number MAX_THINGS) (slice_index_or numbers (index_of f) 0) 0

abbrev pub told : Peaks → Figure → ℕ
told peaks f = number_in peaks.numbers f

-- a number is told below a cap, where it is a time. All else is told without one, but that blockers
-- are told of what is blocked for a time below it, so it may not be 0
abbrev pub is_sort_below : ℕ → Sort → ℕ → Bool
is_sort_below cap Sort.Time n = nat_lt n cap
is_sort_below cap Sort.Count n = true
is_sort_below cap Sort.Coming n = true

abbrev pub is_number_below : ℕ → Measure → ℕ → Bool
is_number_below cap Measure.Blockers n = nat_lt 0 cap
is_number_below cap measure n = is_sort_below cap (sort_of measure) n

abbrev pub is_below : ℕ → Peaks → Figure → Bool
is_below cap peaks f = is_number_below cap f.measure (told peaks f)

-- peaks are no lower than others, and have each service that these have
pub record AreAtLeast (peaks others : Peaks) : Type 0 where
  pub figures : (f : Figure) → told others f ≤ told peaks f
  pub failures : (x : Failure) → Contains others.failures x → Contains peaks.failures x

-- before the first tick
abbrev pub no_peaks : Peaks
no_peaks = record { numbers = replicate PLACES 0; failures = [] }
