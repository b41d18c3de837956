-- Labels of ticks that agree are the same, and so is what they show.
use Rattle.std.proofs.Common.{◌≡◌, ℕ, zero, suc, Option, refl, ◌∙◌, ap}
use Rattle.law_figures.specs.Labels.{Label}
use Rattle.law_figures.specs.RunFigures.{label_before}

-- of ticks before which a run goes on
module _ {T L : Type 0} (label : Label T L) (show : T → L → Option ℕ) (xs ys : ℕ → T)
    (Goes : ℕ → Type 0) (earlier : (n : ℕ) → Goes (suc n) → Goes n)
    (next : (n : ℕ) → Goes n → (l : L) → label.next (xs n) l ≡ label.next (ys n) l)
    (shows : (n : ℕ) → Goes n → (l : L) → show (xs n) l ≡ show (ys n) l) where
  before : (n : ℕ) → Goes n → label_before label xs n ≡ label_before label ys n
  before zero going = refl
  before (suc n) going =
      next n (earlier n going) (label_before label xs n)
      ∙ ap (label.next (ys n)) (before n (earlier n going))

  pub shown_alike : (n : ℕ) → Goes n
      → show (xs n) (label_before label xs n) ≡ show (ys n) (label_before label ys n)
  shown_alike n going =
      shows n going (label_before label xs n) ∙ ap (show (ys n)) (before n going)
