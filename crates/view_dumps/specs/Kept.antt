-- Value change dumps: what a variable was last written with, a number or no value, kept as one number. The numbers of a byte
-- stand for themselves, the next ones for no value and for that nothing was written yet.
use Rattle.std.specs.Prelude.{ℕ, zero, suc, ◌+◌, ◌-◌, ◌≡◌, ◌≤◌, Bool, true, false, cond, nat_lt, Option, Some, None}
use Rattle.osek_base.specs.declared.ids.Owner.{Owner}
use Rattle.std.proofs.Common.{refl, ap, ◌∙◌, arith, le-ltb, ltb-false}

abbrev kept_behind : ℕ → Option (Option ℕ)
kept_behind zero = Some None
kept_behind (suc zero) = None
kept_behind (suc (suc n)) = Some (Some (n + 256))

abbrev pub kept : ℕ → Option (Option ℕ)
kept code = cond (nat_lt code 256) (Some (Some code)) (kept_behind (code - 256))

-- as what a value is kept
abbrev pub code_for : Option ℕ → ℕ
code_for None = 256
code_for (Some n) = cond (nat_lt n 256) n (n + 2)

abbrev pub code_kept : Option (Option ℕ) → ℕ
code_kept None = 257
code_kept (Some value) = code_for value

behind_again : (d : ℕ) → code_kept (kept_behind d) ≡ d + 256
behind_again zero = refl
behind_again (suc zero) = refl
behind_again (suc (suc n)) = ap (λ b. cond b (n + 256) (n + 256 + 2)) (le-ltb (n + 256) 256 (omega arith)) ∙ (omega arith)

again_in : (code : ℕ) (low : Bool) → nat_lt code 256 ≡ low → code_kept (cond low (Some (Some code)) (kept_behind (code - 256))) ≡ code
again_in code true is = ap (λ b. cond b code (code + 2)) is
again_in code false is =
    let high : 256 ≤ code = ltb-false code 256 is in
    behind_again (code - 256) ∙ (omega (arith, high))

pub kept_again : (code : ℕ) → code_kept (kept code) ≡ code
kept_again code = again_in code (nat_lt code 256) refl

-- the same of a number alone
abbrev byte_behind : ℕ → Option ℕ
byte_behind zero = None
byte_behind (suc n) = Some (n + 256)

abbrev pub kept_byte : ℕ → Option ℕ
kept_byte code = cond (nat_lt code 256) (Some code) (byte_behind (code - 256))

abbrev pub byte_code : Option ℕ → ℕ
byte_code None = 256
byte_code (Some n) = cond (nat_lt n 256) n (n + 1)

byte_behind_again : (d : ℕ) → byte_code (byte_behind d) ≡ d + 256
byte_behind_again zero = refl
byte_behind_again (suc n) = ap (λ b. cond b (n + 256) (n + 256 + 1)) (le-ltb (n + 256) 256 (omega arith)) ∙ (omega arith)

byte_again_in : (code : ℕ) (low : Bool) → nat_lt code 256 ≡ low → byte_code (cond low (Some code) (byte_behind (code - 256))) ≡ code
byte_again_in code true is = ap (λ b. cond b code (code + 1)) is
byte_again_in code false is =
    let high : 256 ≤ code = ltb-false code 256 is in
    byte_behind_again (code - 256) ∙ (omega (arith, high))

pub byte_again : (code : ℕ) → byte_code (kept_byte code) ≡ code
byte_again code = byte_again_in code (nat_lt code 256) refl

-- who executes: the numbers of a byte stand for tasks, the next ones for nobody and for that nothing was written yet, and
-- those behind them for routines
abbrev executor_behind : ℕ → Option (Option Owner)
executor_behind zero = Some None
executor_behind (suc zero) = None
executor_behind (suc (suc n)) = Some (Some (Owner.Routine n))

abbrev pub kept_executor : ℕ → Option (Option Owner)
kept_executor code = cond (nat_lt code 256) (Some (Some (Owner.Task code))) (executor_behind (code - 256))

abbrev pub executor_code : Option (Option Owner) → ℕ
executor_code None = 257
executor_code (Some None) = 256
executor_code (Some (Some (Owner.Task t))) = t
executor_code (Some (Some (Owner.Routine i))) = i + 258

executor_behind_again : (d : ℕ) → executor_code (executor_behind d) ≡ d + 256
executor_behind_again zero = refl
executor_behind_again (suc zero) = refl
executor_behind_again (suc (suc n)) = omega arith

executor_again_in : (code : ℕ) (low : Bool) → nat_lt code 256 ≡ low
    → executor_code (cond low (Some (Some (Owner.Task code))) (executor_behind (code - 256))) ≡ code
executor_again_in code true is = refl
executor_again_in code false is =
    let high : 256 ≤ code = ltb-false code 256 is in
    executor_behind_again (code - 256) ∙ (omega (arith, high))

pub executor_again : (code : ℕ) → executor_code (kept_executor code) ≡ code
executor_again code = executor_again_in code (nat_lt code 256) refl
