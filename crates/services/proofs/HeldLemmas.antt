-- Tests of all slots, by their numbers and one by one.
use Rattle.std.proofs.Common.{◌≡◌, ℕ, zero, suc, ◌<◌, ◌≤◌, inl, inr, Bool, true, false, ◌||◌, List, [], ◌∷◌, take, get_or, replicate, length, refl, sym, ◌∙◌, ap, arith}
use Rattle.std.specs.List.{list_any}
use Rattle.std.proofs.lemmas.Bool.{cases_lt}
use Rattle.std.proofs.lemmas.List.Folds.{list_any-append}
use Rattle.std.proofs.Math.Path.{fun_ext}
use Rattle.std.proofs.Math.Seq.{take-length, take-suc}
use Rattle.osek_base.specs.Lists.{below}
use Rattle.law_kept.specs.Kept.{Slot, unbegun}
use Rattle.services.specs.Objects.{by_task}

any_taken : (p : Slot → Bool) (slots : List Slot) (n : ℕ) → n ≤ length slots → list_any (λ t. p (by_task slots t)) (below n) ≡ list_any p (take n slots)
any_taken p slots zero within = refl
any_taken p slots (suc n) within =
    list_any-append (λ t. p (by_task slots t)) (below n) (n ∷ [])
    ∙ ap (λ b. b || (p (by_task slots n) || false)) (any_taken p slots n (omega arith))
    ∙ sym (ap (list_any p) (take-suc slots n (unbegun 0) (omega arith)) ∙ list_any-append p (take n slots) (by_task slots n ∷ []))

-- a test of the slots of all tasks
pub any_slot : (p : Slot → Bool) (slots : List Slot) (n : ℕ) → length slots ≡ n → list_any p slots ≡ list_any (λ t. p (by_task slots t)) (below n)
any_slot p slots n long =
    sym (any_taken p slots n (let e : n ≤ length slots = omega arith in e)
    ∙ ap (λ k. list_any p (take k slots)) (sym long) ∙ ap (list_any p) (take-length slots))

neither : (a b : Bool) → (a || b) ≡ false → (a ≡ false) × (b ≡ false)
neither false false h = (refl, refl)
neither true b h = absurd (grind arith)
neither false true h = absurd (grind arith)

-- where none passes, none of them does
pub none_below : (p : ℕ → Bool) (n t : ℕ) → list_any p (below n) ≡ false → t < n → p t ≡ false
none_below p zero t h low = absurd (omega arith)
none_below p (suc n) t h low =
    let both = neither (list_any p (below n)) (p n || false) (sym (list_any-append p (below n) (n ∷ [])) ∙ h) in
    elim (cases_lt t n) [
      | inl lt ↦ none_below p n t both.0 lt
      | inr ge ↦ ap p (let e : t ≡ n = omega arith in e) ∙ (neither (p n) false both.1).0
    ]

-- a slot that there is, whatever stands for those that there aren't
pub at_task : (slots : List Slot) (t : ℕ) (d : Slot) → t < length slots → get_or slots t d ≡ by_task slots t
at_task [] t d inside = absurd (omega arith)
at_task (x ∷ xs) zero d inside = refl
at_task (x ∷ xs) (suc t) d inside = at_task xs t d (omega arith)

-- without a job of any task
none_at : (n t : ℕ) → by_task (replicate n (unbegun 0)) t ≡ unbegun 0
none_at zero t = refl
none_at (suc n) zero = refl
none_at (suc n) (suc t) = none_at n t

pub no_slots : (n : ℕ) → by_task (replicate n (unbegun 0)) ≡ (λ t. unbegun 0)
no_slots n = fun_ext (none_at n)
