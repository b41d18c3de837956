-- The tick since which a job is ready, from tick to tick.
use Rattle.std.proofs.Common.{◌≡◌, ℕ, ◌<◌, ◌≤◌, suc, zero, Bool, true, false, cond, ◌&&◌, nat_le, List, [], ◌∷◌, refl, sym, ◌∙◌, arith}
use Rattle.std.specs.Prelude.{Option, Some, None, slice_get}
use Rattle.std.specs.Option.{option_or}
use Rattle.std.specs.List.{find}
use Rattle.std.proofs.lemmas.List.Folds.{find-append}
use Rattle.osek_base.specs.Lists.{below}
use Rattle.osek_base.specs.System.{System}
use Rattle.osek_base.specs.State.{JobId, State}
use Rattle.osek_base.specs.Tick.{Step}
use Rattle.osek_base.specs.Blocker.{is_ready_from}
use Rattle.osek_base.specs.BlockingText.{executes_in, behind_last, ready_since}

-- ---- the first number that passes a test

-- below n, nothing stands at n or above
pub same_found : (f g : ℕ → Bool) (n : ℕ) → ((k : ℕ) → k < n → f k ≡ g k) → find f (below n) ≡ find g (below n)
same_found f g zero same = refl
same_found f g (suc n) same =
    find-append f (below n) (n ∷ [])
    ∙ rw (same_found f g n (λ k less. same k (omega (arith, less))), same n (omega arith)) refl
    ∙ sym (find-append g (below n) (n ∷ []))

none_found : (f : ℕ → Bool) (n : ℕ) → ((k : ℕ) → k < n → f k ≡ false) → find f (below n) ≡ None
none_found f zero none = refl
none_found f (suc n) none =
    find-append f (below n) (n ∷ []) ∙ rw (none_found f n (λ k less. none k (omega (arith, less))), none n (omega arith)) refl

-- a stamp, where the test holds
abbrev pub stamp_if : Bool → ℕ → Option ℕ
stamp_if b u = cond b (Some u) None

-- an executed instruction takes the stamp
abbrev pub unless : Bool → Option ℕ → Option ℕ
unless b stamp = cond b None stamp

module _ (S : System) (booted : State) (steps : List Step) (n : JobId) where
  behind_within : (v : ℕ) → behind_last n steps v ≤ v
  behind_within zero = omega arith
  behind_within (suc v) = go (executes_in n (slice_get steps v)) (behind_within v)
    where
      go : (b : Bool) → behind_last n steps v ≤ v → cond b (suc v) (behind_last n steps v) ≤ suc v
      go true h = omega arith
      go false h = omega (arith, h)

  le_true : (a b : ℕ) → a ≤ b → nat_le a b ≡ true
  le_true a b h = grind (arith, h)

  le_false : (a b : ℕ) → b < a → nat_le a b ≡ false
  le_false a b h = grind (arith, h)

  -- the stamp of the next tick
  pub since_next : (v : ℕ) → ready_since S booted steps n (suc v)
      ≡ option_or (unless (executes_in n (slice_get steps v)) (ready_since S booted steps n v))
      (stamp_if (is_ready_from S booted steps (suc v) n) (suc v))
  since_next v = go (executes_in n (slice_get steps v)) refl
    where
      test : ℕ → ℕ → Bool
      test from u = nat_le from u && is_ready_from S booted steps u n

      at_end : (from : ℕ) → from ≤ suc v → find (test from) (suc v ∷ [])
          ≡ stamp_if (is_ready_from S booted steps (suc v) n) (suc v)
      at_end from h = rw (le_true from (suc v) h) refl

      go : (b : Bool) → executes_in n (slice_get steps v) ≡ b
          → find (test (cond b (suc v) (behind_last n steps v))) (below (suc (suc v)))
          ≡ option_or (unless b (ready_since S booted steps n v)) (stamp_if (is_ready_from S booted steps (suc v) n) (suc v))
      go true e =
          find-append (test (suc v)) (below (suc v)) (suc v ∷ [])
          ∙ rw (none_found (test (suc v)) (suc v) (λ k less. rw (le_false (suc v) k less) refl), at_end (suc v) (omega arith))
          refl
      go false e =
          find-append (test (behind_last n steps v)) (below (suc v)) (suc v ∷ [])
          ∙ rw (at_end (behind_last n steps v) (omega (arith, behind_within v))) refl
