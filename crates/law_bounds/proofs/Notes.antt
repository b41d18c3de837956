-- What a search has noted stays noted when its peaks rise.
use Rattle.std.proofs.Common.{ℕ, ◌≤◌, List, Option, Some, None, arith}
use Rattle.std.specs.Prelude.{Contains, IfSome}
use Rattle.seen_ticks.specs.declared.failures.Failure.{Failure}
use Rattle.law_figures.specs.Labels.{IsAtMost}
use Rattle.search_peaks.specs.Noting.{NotesStay}

no_more : (low high : ℕ) (shown : Option ℕ) → low ≤ high → IsAtMost low shown → IsAtMost high shown
no_more low high None rise within = tt
no_more low high (Some n) rise within = omega (arith, rise, within)

still_noted : (xs ys : List Failure) → ((x : Failure) → Contains xs x → Contains ys x)
    → (failure : Option Failure) → IfSome failure (λ x. Contains xs x)
    → IfSome failure (λ x. Contains ys x)
still_noted xs ys more None there = tt
still_noted xs ys more (Some x) there = more x there

pub notes_stay : NotesStay
notes_stay levels cap peaks others t l rise noted = record {
  figures = λ f seen. no_more _ _ _ (rise.figures f) (noted.figures f seen);
  failures = still_noted others.failures peaks.failures rise.failures t.failure noted.failures;
}
