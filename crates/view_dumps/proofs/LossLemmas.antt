-- Where no interrupt is lost in a tick, no loss is told.
use Rattle.std.proofs.Common.{◌≡◌, ℕ, suc, Bool, true, false, ◌||◌, List, [], ◌∷◌, ◌++◌, cond, refl, ap₂, true≢false}
use Rattle.std.specs.List.{list_any}
use Rattle.seen_ticks.specs.declared.routine_seen.RoutineSeen.{RoutineSeen}
use Rattle.view_dumps.specs.Lines.{event_line}
use Rattle.view_dumps.specs.Ticks.{events_from, loses, loss_text}
use Rattle.view_dumps.specs.declared.variable.Variable.{Variable}

no_loss_in : (n : ℕ) (r : RoutineSeen) (seen : List RoutineSeen) (own : Bool) → loses r ≡ own → (own || list_any loses seen) ≡ false
    → (list_any loses seen ≡ false → events_from loss_text (suc n) seen ≡ []) → events_from loss_text n (r ∷ seen) ≡ []
no_loss_in n r seen true is none rest = absurd (true≢false none)
no_loss_in n r seen false is none rest =
    ap₂ (λ (b : Bool) (l : List ℕ). cond b (event_line (Variable.Lost n)) [] ++ l) is (rest none)

pub no_loss : (n : ℕ) (seen : List RoutineSeen) → list_any loses seen ≡ false → events_from loss_text n seen ≡ []
no_loss n [] none = refl
no_loss n (r ∷ seen) none = no_loss_in n r seen (loses r) refl none (no_loss (suc n) seen)
