-- Registers have the indices that they may have: what an instruction does to them.
use Rattle.std.proofs.Common.{◌≡◌, ℕ, zero, suc, ◌<◌, ◌≤◌, ◌+◌, ◌%◌, ◌⊎◌, inl, inr, Bool, true, false, cond, List, [], ◌∷◌, length, replicate, refl, sym, ◌∙◌, ap, subst, arith, not-suc-le-zero, le_of_suc-le-suc, length-set}
use Rattle.std.specs.Prelude.{◌==◌, slice_index, slice_set}
use Rattle.std.proofs.Math.Nat.{mod-lt}
use Rattle.std.proofs.lemmas.Bool.{and_parts, and_from, cases_lt, eq-eqb, eqb-true}
use Rattle.osek_base.specs.declared.limits.TheConstants.{WINDOW_WORDS, REGISTERS}
use Rattle.osek_base.specs.declared.instr.Plain.{Plain}
use Rattle.osek_base.specs.declared.status.Status.{Status}
use Rattle.osek_base.specs.declared.trace_event.Results.{Results}
use Rattle.osek_base.specs.Types.{PlainInstr}
use Rattle.osek_base.specs.Instruction.{Context, value, next, with_value, operate, holds, plain}
use Rattle.osek_base.specs.State.{fresh_context}
use Rattle.osek_base.specs.Tick.{answered, status_number}
use Rattle.law_future.specs.Need.{MayHoldAll, Passes, PassesBut, IndicesFollow, are_allowed, has_allowed, allowed_context}

pub index_low : (v : ℕ) → v % WINDOW_WORDS < WINDOW_WORDS
index_low v = mod-lt v (omega arith)

-- what passes the test of what registers may have before, passes that of afterwards
pub holds_pass : (before after : ℕ → ℕ → Bool) → Passes before after → (vs : List ℕ) → are_allowed before vs ≡ true
    → are_allowed after vs ≡ true
holds_pass before after pass [] holds = refl
holds_pass before after pass (w ∷ vs) holds =
    let parts = and_parts (before 0 (w % WINDOW_WORDS)) (are_allowed (λ q. before (suc q)) vs) holds in
    and_from (after 0 (w % WINDOW_WORDS)) (are_allowed (λ q. after (suc q)) vs) (pass 0 (w % WINDOW_WORDS) parts.0)
    (holds_pass (λ q. before (suc q)) (λ q. after (suc q)) (λ q. pass (suc q)) vs parts.1)

not_zero : (n : ℕ) → suc n ≡ 0 → ⊥
not_zero n e = omega (arith, e)

less_one : (m n : ℕ) → suc m ≡ suc n → m ≡ n
less_one m n e = omega (arith, e)

-- a register gets a value
pub holds_set : (before after : ℕ → ℕ → Bool) (d : ℕ) → PassesBut d before after → (vs : List ℕ) (v : ℕ)
    → are_allowed before vs ≡ true → after d (v % WINDOW_WORDS) ≡ true → are_allowed after (slice_set vs d v) ≡ true
holds_set before after d pass [] v holds may = refl
holds_set before after zero pass (w ∷ vs) v holds may =
    let parts = and_parts (before 0 (w % WINDOW_WORDS)) (are_allowed (λ q. before (suc q)) vs) holds in
    and_from (after 0 (v % WINDOW_WORDS)) (are_allowed (λ q. after (suc q)) vs) may
    (holds_pass (λ q. before (suc q)) (λ q. after (suc q)) (λ q i b. pass (suc q) i (not_zero q) b) vs parts.1)
holds_set before after (suc d) pass (w ∷ vs) v holds may =
    let parts = and_parts (before 0 (w % WINDOW_WORDS)) (are_allowed (λ q. before (suc q)) vs) holds in
    and_from (after 0 (w % WINDOW_WORDS)) (are_allowed (λ q. after (suc q)) (slice_set vs d v))
    (pass 0 (w % WINDOW_WORDS) (λ e. not_zero d (sym e)) parts.0)
    (holds_set (λ q. before (suc q)) (λ q. after (suc q)) d (λ q i ne b. pass (suc q) i (λ e. ne (less_one q d e)) b) vs v parts.1 may)

pub holds_one : (index : ℕ → ℕ → Bool) (d : ℕ) (vs : List ℕ) (v : ℕ) → are_allowed index vs ≡ true
    → index d (v % WINDOW_WORDS) ≡ true → are_allowed index (slice_set vs d v) ≡ true
holds_one index d vs v holds may = holds_set index index d (λ r i ne b. b) vs v holds may

holds_within : (index : ℕ → ℕ → Bool) (vs : List ℕ) → are_allowed index vs ≡ true → (r : ℕ) → r < length vs
    → index r (slice_index vs r % WINDOW_WORDS) ≡ true
holds_within index [] holds r low = absurd (not-suc-le-zero low)
holds_within index (w ∷ vs) holds zero low = (and_parts (index 0 (w % WINDOW_WORDS)) (are_allowed (λ q. index (suc q)) vs) holds).0
holds_within index (w ∷ vs) holds (suc r) low =
    holds_within (λ q. index (suc q)) vs
    (and_parts (index 0 (w % WINDOW_WORDS)) (are_allowed (λ q. index (suc q)) vs) holds).1 r (le_of_suc-le-suc low)

past_end : (vs : List ℕ) (r : ℕ) → length vs ≤ r → slice_index vs r ≡ 0
past_end [] r h = refl
past_end (w ∷ vs) zero h = absurd (not-suc-le-zero h)
past_end (w ∷ vs) (suc r) h = past_end vs r (le_of_suc-le-suc h)

pub holds_at : (index : ℕ → ℕ → Bool) → ((r : ℕ) → REGISTERS ≤ r → index r 0 ≡ true) → (vs : List ℕ)
    → length vs ≡ REGISTERS → are_allowed index vs ≡ true → (r : ℕ) → index r (slice_index vs r % WINDOW_WORDS) ≡ true
holds_at index beyond vs size holds r = go (cases_lt r (length vs))
  where
    go : (r < length vs) ⊎ (length vs ≤ r) → index r (slice_index vs r % WINDOW_WORDS) ≡ true
    go (inl low) = holds_within index vs holds r low
    go (inr past) =
        ap (λ v. index r (v % WINDOW_WORDS)) (past_end vs r past) ∙ beyond r (omega (arith, past, size))

pub holds_zeros : (index : ℕ → ℕ → Bool) → ((r : ℕ) → index r 0 ≡ true) → (n : ℕ)
    → are_allowed index (replicate n 0) ≡ true
holds_zeros index zeros zero = refl
holds_zeros index zeros (suc n) =
    and_from (index 0 0) (are_allowed (λ q. index (suc q)) (replicate n 0)) (zeros 0)
    (holds_zeros (λ q. index (suc q)) (λ q. zeros (suc q)) n)

-- ---- contexts

pub record HoldsThere (index : ℕ → ℕ → ℕ → Bool) (x : Context) : Type 0 where
  pub size : length x.registers ≡ REGISTERS
  pub holds : are_allowed (index x.place) x.registers ≡ true

pub held_fresh : (index : ℕ → ℕ → ℕ → Bool) → allowed_context index fresh_context ≡ fresh_context
held_fresh index = go (has_allowed index fresh_context)
  where
    go : (b : Bool) → cond b fresh_context fresh_context ≡ fresh_context
    go true = refl
    go false = refl

pub kept_where_held : (index : ℕ → ℕ → ℕ → Bool) (x : Context) → HoldsThere index x → allowed_context index x ≡ x
kept_where_held index x h =
    ap (λ b. cond b x fresh_context)
    (and_from (length x.registers == REGISTERS) (are_allowed (index x.place) x.registers) (eq-eqb (length x.registers) REGISTERS h.size) h.holds)

module _ (index : ℕ → ℕ → ℕ → Bool) (zeros : (r : ℕ) → index 0 r 0 ≡ true) (beyond : (place r : ℕ) → REGISTERS ≤ r → index place r 0 ≡ true) where
  pub held_where_kept : (x : Context) → allowed_context index x ≡ x → HoldsThere index x
  held_where_kept x kept = there (go (has_allowed index x) refl)
    where
      fresh_holds : has_allowed index fresh_context ≡ true
      fresh_holds = holds_zeros (index 0) zeros 8

      go : (b : Bool) → has_allowed index x ≡ b → has_allowed index x ≡ true
      go true e = e
      go false e =
          let fresh : fresh_context ≡ x = ap (λ b. cond b x fresh_context) (sym e) ∙ kept in
          ap (has_allowed index) (sym fresh) ∙ fresh_holds

      there : has_allowed index x ≡ true → HoldsThere index x
      there e =
          let parts = and_parts (length x.registers == REGISTERS) (are_allowed (index x.place) x.registers) e in
          record { size = eqb-true (length x.registers) REGISTERS parts.0; holds = parts.1 }

  -- the value of each register
  pub value_holds : (x : Context) → HoldsThere index x → (r : ℕ) → index x.place r (value x r % WINDOW_WORDS) ≡ true
  value_holds x h r = holds_at (index x.place) (beyond x.place) x.registers h.size h.holds r

  moved_on : (x : Context) (place : ℕ) → HoldsThere index x → Passes (index x.place) (index place)
      → HoldsThere index (record x { place = place })
  moved_on x place h pass = record {
    size = h.size;
    holds = holds_pass (index x.place) (index place) pass x.registers h.holds;
  }

  set_on : (x : Context) (d v : ℕ) → HoldsThere index x → PassesBut d (index x.place) (index (x.place + 1))
      → index (x.place + 1) d (v % WINDOW_WORDS) ≡ true → HoldsThere index (next (with_value x d v))
  set_on x d v h pass may = record {
    size = length-set x.registers d v ∙ h.size;
    holds = holds_set (index x.place) (index (x.place + 1)) d pass x.registers v h.holds may;
  }

  pub plain_holds : (p : PlainInstr) (x : Context) (words : ℕ → ℕ) → IndicesFollow index x.place p → HoldsThere index x
      → HoldsThere index (plain p x words).context
  plain_holds Plain.Nop x words may h = moved_on x (x.place + 1) h may
  plain_holds (Plain.Li d n) x words may h = set_on x d n h may.0 may.1
  plain_holds (Plain.Mov d a) x words may h =
      set_on x d (value x a) h may.0 (may.1 (value x a % WINDOW_WORDS) (value_holds x h a))
  plain_holds (Plain.Compute operation d a b) x words may h =
      set_on x d (operate operation (value x a) (value x b)) h may.0
      (may.1 (operate operation (value x a) (value x b) % WINDOW_WORDS) (index_low (operate operation (value x a) (value x b))))
  plain_holds (Plain.Ld d a) x words may h =
      set_on x d (words (value x a % WINDOW_WORDS)) h may.0
      (may.1 (words (value x a % WINDOW_WORDS) % WINDOW_WORDS) (index_low (words (value x a % WINDOW_WORDS))))
  plain_holds (Plain.St a b) x words may h = moved_on x (x.place + 1) h may
  plain_holds (Plain.Jmp to) x words may h = moved_on x to h may
  plain_holds (Plain.JumpIf test a b to) x words may h = go (holds test (value x a) (value x b))
    where
      go : (taken : Bool) → HoldsThere index (record x { place = cond taken to (x.place + 1) })
      go true = moved_on x to h may.1
      go false = moved_on x (x.place + 1) h may.0

  pub next_holds : (x : Context) → Passes (index x.place) (index (x.place + 1)) → HoldsThere index x → HoldsThere index (next x)
  next_holds x pass h = moved_on x (x.place + 1) h pass

  pub answered_holds : (status : Status) (found : Results) (x : Context) → Passes (index x.place) (index (x.place + 1))
      → ((r : ℕ) → r < 4 → MayHoldAll (index (x.place + 1)) r) → HoldsThere index x
      → HoldsThere index (answered status found x)
  answered_holds status found x pass may h = go found
    where
      one : (y : Context) → y.place ≡ x.place → HoldsThere index (next y) → (r v : ℕ) → r < 4
          → HoldsThere index (next (with_value y r v))
      one y e k r v low = record {
        size = length-set y.registers r v ∙ k.size;
        holds =
            holds_one (index (y.place + 1)) r y.registers v k.holds
            (subst (λ p. index (p + 1) r (v % WINDOW_WORDS) ≡ true) (sym e) (may r low (v % WINDOW_WORDS) (index_low v)));
      }

      first : HoldsThere index (next (with_value x 0 (status_number status)))
      first = one x refl (next_holds x pass h) 0 (status_number status) (omega arith)

      go : (f : Results) → HoldsThere index (answered status f x)
      go Results.Nothing = first
      go (Results.One a) = one (with_value x 0 (status_number status)) refl first 1 a (omega arith)
      go (Results.Three a b c) =
          one (with_value (with_value (with_value x 0 (status_number status)) 1 a) 2 b) refl
          (one (with_value (with_value x 0 (status_number status)) 1 a) refl
          (one (with_value x 0 (status_number status)) refl first 1 a (omega arith)) 2 b (omega arith)) 3 c (omega arith)
