-- What it means that two states have the same needed data.
use Rattle.std.proofs.Math.Path.{fun_ext}
use Rattle.std.proofs.Common.{◌≡◌, ℕ, suc, Bool, true, false, cond, List, [], ◌∷◌, length, refl, sym, ◌∙◌, ap, ap₂, arith, true≢false}
use Rattle.std.specs.Prelude.{Option, Some, None, is_some, slice_index}
use Rattle.std.specs.Option.{option_map}
use Rattle.osek_base.specs.declared.ids.Owner.{Owner}
use Rattle.osek_base.specs.Instruction.{Context}
use Rattle.osek_base.specs.State.{Active, Words, shared_window}
use Rattle.law_kept.specs.Kept.{Kept, Slot}
use Rattle.law_future.specs.Need.{Need}
use Rattle.law_future.specs.Same.{cleaned_registers, cleaned_context, cleaned_slot, cleaned_slots, cleaned_routine, cleaned_words, cleaned_shared, zeros, HaveSameNeeded}
use Rattle.law_future.specs.Meaning.{AreSameContexts, AreSameSlots, AreSameActive, AreSameShared, HaveSameData, SameMeans}
use Rattle.law_future.proofs.Cleaning.{value_alike, word_alike, shared_at}

-- ---- lists

less_one : (m n : ℕ) → suc m ≡ suc n → m ≡ n
less_one m n e = omega (arith, e)

no_more : (n : ℕ) → suc n ≡ 0 → ⊥
no_more n e = omega (arith, e)

registers_same : (need : ℕ → Bool) (vs ws : List ℕ) → length vs ≡ length ws
    → ((r : ℕ) → need r ≡ true → slice_index vs r ≡ slice_index ws r) → cleaned_registers need vs ≡ cleaned_registers need ws
registers_same need [] [] size same = refl
registers_same need [] (w ∷ ws) size same = absurd (no_more (length ws) (sym size))
registers_same need (v ∷ vs) [] size same = absurd (no_more (length vs) size)
registers_same need (v ∷ vs) (w ∷ ws) size same =
    ap₂ (λ y ys. y ∷ ys) (go (need 0) refl)
    (registers_same (λ r. need (suc r)) vs ws (less_one (length vs) (length ws) size) (λ r e. same (suc r) e))
  where
    go : (b : Bool) → need 0 ≡ b → cond b v 0 ≡ cond b w 0
    go true e = same 0 e
    go false e = refl

registers_size : (need : ℕ → Bool) (vs : List ℕ) → length (cleaned_registers need vs) ≡ length vs
registers_size need [] = refl
registers_size need (v ∷ vs) = ap suc (registers_size (λ r. need (suc r)) vs)

zeros_size : (ws : List ℕ) → length (zeros ws) ≡ length ws
zeros_size [] = refl
zeros_size (w ∷ ws) = ap suc (zeros_size ws)

zeros_same : (vs ws : List ℕ) → length vs ≡ length ws → zeros vs ≡ zeros ws
zeros_same [] [] size = refl
zeros_same [] (w ∷ ws) size = absurd (no_more (length ws) (sym size))
zeros_same (v ∷ vs) [] size = absurd (no_more (length vs) size)
zeros_same (v ∷ vs) (w ∷ ws) size = ap (λ ys. 0 ∷ ys) (zeros_same vs ws (less_one (length vs) (length ws) size))

shared_count : (need : ℕ → Bool) (shared : List (List ℕ)) → length (cleaned_shared need shared) ≡ length shared
shared_count need [] = refl
shared_count need (w ∷ rest) = ap suc (shared_count (λ r. need (suc r)) rest)

shared_same : (need : ℕ → Bool) (a b : List (List ℕ)) → length a ≡ length b
    → ((r : ℕ) → length (shared_window a r) ≡ length (shared_window b r))
    → ((r : ℕ) → need r ≡ true → shared_window a r ≡ shared_window b r) → cleaned_shared need a ≡ cleaned_shared need b
shared_same need [] [] count sizes words = refl
shared_same need [] (w ∷ ws) count sizes words = absurd (no_more (length ws) (sym count))
shared_same need (v ∷ vs) [] count sizes words = absurd (no_more (length vs) count)
shared_same need (v ∷ vs) (w ∷ ws) count sizes words =
    ap₂ (λ y ys. y ∷ ys) (go (need 0) refl)
    (shared_same (λ r. need (suc r)) vs ws (less_one (length vs) (length ws) count) (λ r. sizes (suc r)) (λ r e. words (suc r) e))
  where
    go : (b : Bool) → need 0 ≡ b → cond b v (zeros v) ≡ cond b w (zeros w)
    go true e = words 0 e
    go false e = zeros_same v w (sizes 0)

-- ---- contexts

module _ (need : ℕ → Bool) where
  alike_context : (x y : Context) → AreSameContexts need x y → cleaned_context need x ≡ cleaned_context need y
  alike_context x y same = λ i. record {
    registers = registers_same need x.registers y.registers same.size same.values i;
    place = same.place i;
  }

  same_context : (x y : Context) → cleaned_context need x ≡ cleaned_context need y → AreSameContexts need x y
  same_context x y alike = record {
    place = ap (λ (z : Context). z.place) alike;
    size =
        sym (registers_size need x.registers) ∙ ap (λ (z : Context). length z.registers) alike
        ∙ registers_size need y.registers;
    values = value_alike need x y alike;
  }

  alike_slot : (a b : Slot) → AreSameSlots need a b → cleaned_slot need a ≡ cleaned_slot need b
  alike_slot a b same = λ i. record (same.rest i) { context = alike_context a.context b.context same.context i }

  same_slot : (a b : Slot) → cleaned_slot need a ≡ cleaned_slot need b → AreSameSlots need a b
  same_slot a b alike = record {
    rest = (λ i. record (alike i) { context = b.context });
    context = same_context a.context b.context (ap (λ (z : Slot). z.context) alike);
  }

-- ---- the active routine

inside : {X : Type 0} (x y : X) → Some x ≡ Some y → x ≡ y
inside {X} x y e = ap unwrapped e
  where
    unwrapped : Option X → X
    unwrapped None = x
    unwrapped (Some z) = z

module _ (need : Need) where
  alike_active : (a b : Option Active) → AreSameActive need a b
      → option_map (cleaned_routine need) a ≡ option_map (cleaned_routine need) b
  alike_active None None same = refl
  alike_active None (Some b) same = absurd same
  alike_active (Some a) None same = absurd same
  alike_active (Some a) (Some b) same =
      ap (λ x. Some (record { routine = a.routine; context = x }))
      (alike_context (need.registers (Owner.Routine a.routine)) a.context b.context same.context)
      ∙ ap (λ n. Some (record { routine = n; context = cleaned_context (need.registers (Owner.Routine n)) b.context })) same.routine

  same_active : (a b : Option Active) → option_map (cleaned_routine need) a ≡ option_map (cleaned_routine need) b
      → AreSameActive need a b
  same_active None None alike = tt
  same_active None (Some b) alike = absurd (true≢false (ap is_some (sym alike)))
  same_active (Some a) None alike = absurd (true≢false (ap is_some alike))
  same_active (Some a) (Some b) alike =
      let one : cleaned_routine need a ≡ cleaned_routine need b = inside (cleaned_routine need a) (cleaned_routine need b) alike in
      let routine : a.routine ≡ b.routine = ap (λ (z : Active). z.routine) one in
      record {
        routine = routine;
        context =
            same_context (need.registers (Owner.Routine a.routine)) a.context b.context
            (ap (λ (z : Active). z.context) one
            ∙ ap (λ n. cleaned_context (need.registers (Owner.Routine n)) b.context) (sym routine));
      }

  -- ---- windows

  alike_words : (v w : Words) → ((who : Owner) (i : ℕ) → need.words who i ≡ true → v who i ≡ w who i)
      → cleaned_words need v ≡ cleaned_words need w
  alike_words v w same = fun_ext (λ who. fun_ext (λ i. go who i (need.words who i) refl))
    where
      go : (who : Owner) (i : ℕ) (b : Bool) → need.words who i ≡ b → cond b (v who i) 0 ≡ cond b (w who i) 0
      go who i true e = same who i e
      go who i false e = refl

  same_shared : (a b : List (List ℕ)) → cleaned_shared need.shared a ≡ cleaned_shared need.shared b
      → AreSameShared need.shared a b
  same_shared a b alike = record {
    count = sym (shared_count need.shared a) ∙ ap length alike ∙ shared_count need.shared b;
    sizes = λ r. sym (size a r) ∙ ap (λ ws. length (shared_window ws r)) alike ∙ size b r;
    words =
        λ r e. sym (window a r e) ∙ ap (λ ws. shared_window ws r) alike ∙ window b r e;
  }
    where
      size : (ws : List (List ℕ)) (r : ℕ)
          → length (shared_window (cleaned_shared need.shared ws) r) ≡ length (shared_window ws r)
      size ws r = ap length (shared_at need.shared ws r) ∙ go (need.shared r)
        where
          go : (b : Bool) → length (cond b (shared_window ws r) (zeros (shared_window ws r))) ≡ length (shared_window ws r)
          go true = refl
          go false = zeros_size (shared_window ws r)

      window : (ws : List (List ℕ)) (r : ℕ) → need.shared r ≡ true
          → shared_window (cleaned_shared need.shared ws) r ≡ shared_window ws r
      window ws r e = shared_at need.shared ws r ∙ ap (λ b. cond b (shared_window ws r) (zeros (shared_window ws r))) e

  -- ---- states

  alike_where_same : (o p : Kept) → HaveSameData need o p → HaveSameNeeded need o p
  alike_where_same o p same =
      let slots : cleaned_slots need o.slots ≡ cleaned_slots need p.slots =
      fun_ext (λ t. alike_slot (need.registers (Owner.Task t)) (o.slots t) (p.slots t) (same.slots t)) in
      let active = alike_active o.active p.active same.active in
      let words = alike_words o.words p.words same.words in
      let shared = shared_same need.shared o.shared p.shared same.shared.count same.shared.sizes same.shared.words in
      λ i. record (same.rest i) { slots = slots i; active = active i; words = words i; shared = shared i }

  same_where_alike : (o p : Kept) → HaveSameNeeded need o p → HaveSameData need o p
  same_where_alike o p alike = record {
    rest = (λ i. record (alike i) { slots = p.slots; active = p.active; words = p.words; shared = p.shared });
    slots =
        λ t. same_slot (need.registers (Owner.Task t)) (o.slots t) (p.slots t) (ap (λ (z : Kept). z.slots t) alike);
    active = same_active o.active p.active (ap (λ (z : Kept). z.active) alike);
    words =
        λ who i e. word_alike need o.words p.words (ap (λ (z : Kept). z.words) alike) who i e;
    shared = same_shared o.shared p.shared (ap (λ (z : Kept). z.shared) alike);
  }

pub same_means : SameMeans
same_means need o p = (same_where_alike need o p, alike_where_same need o p)
