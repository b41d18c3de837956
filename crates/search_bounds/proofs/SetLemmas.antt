-- Sets of routines.
use Rattle.std.proofs.Common.{ℕ, ◌≡◌, ◌<◌, ◌*◌, ◌%◌, ◌^◌, inl, inr, w64, Bool, true, sym, ◌∙◌, ap}
use Rattle.std.specs.Int.{bit_at}
use Rattle.std.specs.Int.Bits.{bit_or}
use Rattle.std.proofs.lemmas.Bool.{cases_eq}
use Rattle.std.proofs.lemmas.Nat.Bits.{bit_at_set_other}

-- one more of which something holds
pub one_pending : (P : ℕ → Bool) (set n : ℕ) → n < 64
    → ((i : ℕ) → bit_at set i ≡ 1 → P i ≡ true) → P n ≡ true
    → (i : ℕ) → bit_at (bit_or set (1 * 2 ^ n % 2 ^ 64)) i ≡ 1 → P i ≡ true
one_pending P set n inside are is i has = elim (cases_eq i n) [
  | inl here ↦ ap P here ∙ is
  | inr away ↦ are i (sym (bit_at_set_other w64 set n inside i away) ∙ has)
]
