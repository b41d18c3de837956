-- The word whose bit k is set exactly where level k has a task.
use Rattle.std.proofs.Common.{◌≡◌, ℕ, suc, ◌+◌, ◌-◌, ◌*◌, ◌%◌, ◌^◌, ◌<◌, ◌≤◌, true, false, replicate, Option, Some, None, List, [], ◌∷◌, length, set, bit_and, bit_or, refl, ap, sym, ◌∙◌, subst, arith, inl, inr}
use Rattle.std.specs.Prelude.{IfNone, IfSome}
use Rattle.std.specs.Int.{w64, bit_at, bit_not}
use Rattle.std.proofs.lemmas.Nat.Bits.{bit_at_set_same, bit_at_set_other, bit_at_clear_same, bit_at_clear_other, bit_at-zero, bit_at_above, bit_at_cat_high}
use Rattle.std.proofs.Math.Nat.{two-pow-succ}
use Rattle.std.proofs.lemmas.Bool.{cases_eq}
use Rattle.osek_base.specs.Lists.{is_empty}
use Rattle.circular_buffer.specs.Buffer.{Buffer, buffer}
use Rattle.ready_queues.specs.declared.ready_queues.TheConstants.{LEVELS}
use Rattle.ready_queues.specs.Queues.{Queues, with_level, top_level}
use Rattle.ready_queues.specs.LevelSet.{IsWithBit, IsHighest}
use Rattle.ready_queues.specs.Levels.{tasks_at, bit_of, IsCounted, IsMarked}
use Rattle.ready_queues.proofs.Writes.{with_level-same, with_level-other}
use Rattle.ready_queues.proofs.Tops.{top_below-some, top_below-none}
use Rattle.ready_queues.proofs.KeptLemmas.{tasks_at-set, tasks_at-new, IsAtTop}

bit_of-task : (xs : List ℕ) → 0 < length xs → bit_of xs ≡ 1
bit_of-task [] some = absurd (omega arith)
bit_of-task (x ∷ xs) some = refl

task-bit_of : (xs : List ℕ) → bit_of xs ≡ 1 → 0 < length xs
task-bit_of [] e = absurd (omega arith)
task-bit_of (x ∷ xs) e = omega arith

none-bit_of : (xs : List ℕ) → bit_of xs ≡ 0 → xs ≡ []
none-bit_of [] e = refl
none-bit_of (x ∷ xs) e = absurd (omega arith)

none-is_empty : (xs : List ℕ) → is_empty xs ≡ true → xs ≡ []
none-is_empty [] e = refl
none-is_empty (x ∷ xs) e = cc

some-is_empty : (xs : List ℕ) → is_empty xs ≡ false → 0 < length xs
some-is_empty [] e = cc
some-is_empty (x ∷ xs) e = omega arith

pub marked-new : (room : ℕ) (rings : List (Buffer ℕ)) (word : ℕ) → rings ≡ replicate LEVELS (buffer [] room)
    → word ≡ 0 → IsMarked rings word
marked-new room rings word e zero_word k low =
    ap (λ w. bit_at w k) zero_word ∙ bit_at-zero k
    ∙ ap bit_of (sym (ap (λ (q : Queues). q k) (tasks_at-new room rings e)))

-- ---- one word

pub inserted : (word was l : ℕ) → word ≡ was → l < LEVELS → IsWithBit l 1 was (bit_or word (1 * 2 ^ l % 2 ^ 64))
inserted word was l same low = record {
  here = bit_at_set_same w64 word l low;
  others = λ k within ne. bit_at_set_other w64 word l low k ne ∙ ap (λ w. bit_at w k) same;
}

pub removed : (word was l : ℕ) → word ≡ was → l < LEVELS
    → IsWithBit l 0 was (bit_and word (bit_not w64 (1 * 2 ^ l % 2 ^ 64)))
removed word was l same low = record {
  here = bit_at_clear_same w64 word l low;
  others = λ k within ne. bit_at_clear_other w64 word l low k within ne ∙ ap (λ w. bit_at w k) same;
}

pub highest_bit : (word j : ℕ) → j < LEVELS → 2 ^ j ≤ word → word < 2 * 2 ^ j → IsHighest j word
highest_bit word j within low high =
    let double = two-pow-succ j in
    let rest : word - 2 ^ j < 2 ^ j = omega arith in
    let split : word ≡ 1 * 2 ^ j + (word - 2 ^ j) = omega arith in
    let none : j - j ≡ 0 = omega arith in
    record {
      low = within;
      here = ap (λ w. bit_at w j) split ∙ bit_at_cat_high 1 j (word - 2 ^ j) j rest (omega arith) ∙ ap (bit_at 1) none;
      above = λ k higher. bit_at_above word (suc j) k (omega arith) (omega arith);
    }

-- ---- the word of marked rings

module _ (rings : List (Buffer ℕ)) (count room : ℕ) (is : IsCounted rings count room) (word : ℕ)
    (marked : IsMarked rings word) where
  -- a ring is written, and the word gets the right bit
  marked-set : (l : ℕ) (b : Buffer ℕ) (now : ℕ) → l < LEVELS → IsWithBit l (bit_of b.items) word now
      → IsMarked (set rings l b) now
  marked-set l b now low bits k within =
      let all = is.all in
      let q = tasks_at rings in
      let at : tasks_at (set rings l b) k ≡ with_level l b.items q k =
      ap (λ (q : Queues). q k) (tasks_at-set rings l b (omega arith)) in
      elim (cases_eq k l) [
        | inl e ↦ ap (bit_at now) e ∙ bits.here
            ∙ ap bit_of (sym (at ∙ ap (with_level l b.items q) e ∙ with_level-same l b.items q))
        | inr ne ↦ bits.others k within ne ∙ marked k within
            ∙ ap bit_of (sym (at ∙ with_level-other l k b.items q ne))
      ]

  -- a level gets a task
  pub marked-put : (l : ℕ) (was now : Buffer ℕ) (xs : List ℕ) (bits : ℕ) → l < LEVELS → now ≡ buffer xs was.capacity
      → length xs ≡ length was.items + 1 → IsWithBit l 1 word bits → IsMarked (set rings l now) bits
  marked-put l was now xs bits low is_now longer with_bit =
      let long : length now.items ≡ length xs = ap (λ (b : Buffer ℕ). length b.items) is_now in
      let bit = bit_of-task now.items (omega arith) in
      marked-set l now bits low (subst (λ b. IsWithBit l b word bits) (sym bit) with_bit)

  -- the level on top gets empty
  pub marked-emptied : (l : ℕ) (was now : Buffer ℕ) (bits : ℕ) → IsAtTop rings count room is l was
      → is_empty now.items ≡ true → IsWithBit l 0 word bits → IsMarked (set rings l now) bits
  marked-emptied l was now bits t empty with_bit =
      let bit = ap bit_of (none-is_empty now.items empty) in
      marked-set l now bits t.low (subst (λ b. IsWithBit l b word bits) (sym bit) with_bit)

  -- or has more, and the word stays
  pub marked-more : (l : ℕ) (was now : Buffer ℕ) → IsAtTop rings count room is l was → is_empty now.items ≡ false
      → IsMarked (set rings l now) word
  marked-more l was now t more =
      let long : length was.items ≡ length (tasks_at rings l) = ap length t.tasks in
      let had = t.has_task in
      let here : bit_at word l ≡ bit_of now.items = marked l t.low ∙ bit_of-task (tasks_at rings l) (omega arith)
      ∙ sym (bit_of-task now.items (some-is_empty now.items more)) in
      marked-set l now word t.low record { here = here; others = λ k within ne. refl }

  -- no bit, no task
  pub top-none : word ≡ 0 → None ≡ top_level (tasks_at rings)
  top-none e = sym (top_below-none LEVELS (tasks_at rings)
      (λ k low. none-bit_of (tasks_at rings k) (sym (marked k low) ∙ ap (λ w. bit_at w k) e ∙ bit_at-zero k)))

  -- the highest bit is that of the highest level that has a task
  pub top-word : (j : ℕ) → IsHighest j word → Some j ≡ top_level (tasks_at rings)
  top-word j h = sym (top_below-some LEVELS (tasks_at rings) j record {
    below = h.low;
    has_task = task-bit_of (tasks_at rings j) (sym (marked j h.low) ∙ h.here);
    none_above = λ k higher low. none-bit_of (tasks_at rings k) (sym (marked k low) ∙ h.above k higher);
  })

  -- both at once
  pub top-highest : (found : Option ℕ) → IfNone found (word ≡ 0) → IfSome found (λ j. IsHighest j word)
      → found ≡ top_level (tasks_at rings)
  top-highest None none some = top-none none
  top-highest (Some j) none some = top-word j some
