-- The task that executes, and ticks in which no activation is refused.
use Rattle.std.proofs.Common.{◌≡◌, ℕ, ◌+◌, ◌==◌, [], sym, ◌∙◌, eq-eqb, ne_eqb, inl, inr}
use Rattle.std.specs.Prelude.{None}
use Rattle.std.proofs.lemmas.Bool.{cases_eq}
use Rattle.osek_base.specs.System.{System}
use Rattle.seen_ticks.specs.Observed.{Ticked, activations_by, is_number, one_if, refusing}

-- two numbers, the other way round
pub same_number : (u t : ℕ) → (u == t) ≡ (t == u)
same_number u t = elim (cases_eq u t) [
  | inl e ↦ eq-eqb u t e ∙ sym (eq-eqb t u (sym e))
  | inr ne ↦ ne_eqb u t ne ∙ sym (ne_eqb t u (λ e. ne (sym e)))
]

-- where none is refused, none is of a task
pub none_refused : (S : System) (k : Ticked) (t : ℕ) → refusing S k.executed ≡ None → k.refused ≡ []
    → 0 ≡ one_if (is_number t (refusing S k.executed)) + activations_by S t k.refused
none_refused S k t instruction alarms = sym (λ i. one_if (is_number t (instruction i)) + activations_by S t (alarms i))
