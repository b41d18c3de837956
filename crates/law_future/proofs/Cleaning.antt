-- What cleaning does to registers, windows and slots, where one of them is written.
use Rattle.std.proofs.Math.Path.{fun_ext}
use Rattle.std.proofs.Common.{◌≡◌, ℕ, zero, suc, ◌%◌, Bool, true, false, cond, ◌&&◌, IsTrue, List, [], ◌∷◌, replicate, refl, sym, ◌∙◌, ap, ap₂}
use Rattle.std.specs.Prelude.{Option, Some, None, ◌==◌, slice_set, slice_index}
use Rattle.std.specs.Option.{option_map}
use Rattle.osek_base.specs.declared.limits.TheConstants.{SHARED_WORDS}
use Rattle.osek_base.specs.declared.ids.Owner.{Owner}
use Rattle.osek_base.specs.Lists.{same_owner}
use Rattle.osek_base.specs.Instruction.{Context, value, with_value}
use Rattle.osek_base.specs.State.{Active, Words, with_word, shared_window, with_shared, shared_word}
use Rattle.law_runs.proofs.Lists.{clash}
use Rattle.law_runs.proofs.Foremost.{equal}
use Rattle.law_kept.specs.Kept.{Kept, Slot}
use Rattle.law_future.specs.Need.{Need, implies}
use Rattle.law_future.specs.Same.{cleaned_registers, cleaned_context, cleaned_slots, cleaned_routine, cleaned_words, zeros, cleaned_shared, cleaned}

-- ---- tests

pub either_way : {X : Type 0} (b : Bool) (x : X) → cond b x x ≡ x
either_way true x = refl
either_way false x = refl

-- what is needed implies that what it is worked out from is
pub needed_too : (a b : Bool) → IsTrue (implies a b) → a ≡ true → b ≡ true
needed_too true b h e = h
needed_too false b h e = clash (sym e)

-- ---- registers

pub registers_set : (need : ℕ → Bool) (vs : List ℕ) (r v : ℕ)
    → cleaned_registers need (slice_set vs r v) ≡ slice_set (cleaned_registers need vs) r (cond (need r) v 0)
registers_set need [] r v = refl
registers_set need (w ∷ vs) zero v = refl
registers_set need (w ∷ vs) (suc r) v = ap (λ ys. cond (need 0) w 0 ∷ ys) (registers_set (λ q. need (suc q)) vs r v)

pub registers_at : (need : ℕ → Bool) (vs : List ℕ) (r : ℕ)
    → slice_index (cleaned_registers need vs) r ≡ cond (need r) (slice_index vs r) 0
registers_at need [] r = sym (either_way (need r) 0)
registers_at need (w ∷ vs) zero = refl
registers_at need (w ∷ vs) (suc r) = registers_at (λ q. need (suc q)) vs r

pub registers_twice : (need : ℕ → Bool) (vs : List ℕ)
    → cleaned_registers need (cleaned_registers need vs) ≡ cleaned_registers need vs
registers_twice need [] = refl
registers_twice need (w ∷ vs) = ap₂ (λ y ys. y ∷ ys) (go (need 0)) (registers_twice (λ q. need (suc q)) vs)
  where
    go : (b : Bool) → cond b (cond b w 0) 0 ≡ cond b w 0
    go true = refl
    go false = refl

pub registers_zero : (need : ℕ → Bool) (n : ℕ) → cleaned_registers need (replicate n 0) ≡ replicate n 0
registers_zero need zero = refl
registers_zero need (suc n) = ap₂ (λ y ys. y ∷ ys) (either_way (need 0) 0) (registers_zero (λ q. need (suc q)) n)

-- ---- contexts that are the same but for what isn't needed

module _ (need : ℕ → Bool) where
  pub context_twice : (x : Context) → cleaned_context need (cleaned_context need x) ≡ cleaned_context need x
  context_twice x = λ i. record { registers = registers_twice need x.registers i; place = x.place }

  -- a register that is needed has one value
  pub value_alike : (x y : Context) → cleaned_context need x ≡ cleaned_context need y → (r : ℕ) → need r ≡ true
      → value x r ≡ value y r
  value_alike x y alike r needed =
      ap (λ b. cond b (value x r) 0) (sym needed)
      ∙ sym (registers_at need x.registers r)
      ∙ ap (λ (z : Context). value z r) alike
      ∙ registers_at need y.registers r
      ∙ ap (λ b. cond b (value y r) 0) needed

  -- a register gets a value, which is the same where it is needed
  pub set_alike : (x y : Context) → cleaned_context need x ≡ cleaned_context need y → (r v w : ℕ)
      → (need r ≡ true → v ≡ w)
      → cleaned_context need (with_value x r v) ≡ cleaned_context need (with_value y r w)
  set_alike x y alike r v w same = λ i. record {
    registers =
        (registers_set need x.registers r v
        ∙ ap₂ (λ vs u. slice_set vs r u) (ap (λ (z : Context). z.registers) alike) (go (need r) refl)
        ∙ sym (registers_set need y.registers r w)) i;
    place = (alike i).place;
  }
    where
      go : (b : Bool) → need r ≡ b → cond b v 0 ≡ cond b w 0
      go true e = same e
      go false e = refl

-- ---- windows of owners

pub same_owners : (a b : Owner) → same_owner a b ≡ true → a ≡ b
same_owners (Owner.Task m) (Owner.Task n) e = ap (λ (k : ℕ). Owner.Task k) (equal m n e)
same_owners (Owner.Routine m) (Owner.Routine n) e = ap (λ (k : ℕ). Owner.Routine k) (equal m n e)
same_owners (Owner.Task m) (Owner.Routine n) e = clash (sym e)
same_owners (Owner.Routine m) (Owner.Task n) e = clash (sym e)

module _ (need : Need) where
  pub words_twice : (words : Words) → cleaned_words need (cleaned_words need words) ≡ cleaned_words need words
  words_twice words = fun_ext (λ who. fun_ext (λ i. go (need.words who i) (words who i)))
    where
      go : (b : Bool) (v : ℕ) → cond b (cond b v 0) 0 ≡ cond b v 0
      go true v = refl
      go false v = refl

  pub word_alike : (words others : Words) → cleaned_words need words ≡ cleaned_words need others → (who : Owner) (i : ℕ)
      → need.words who i ≡ true → words who i ≡ others who i
  word_alike words others alike who i needed =
      ap (λ b. cond b (words who i) 0) (sym needed)
      ∙ ap (λ (w : Words). w who i) alike
      ∙ ap (λ b. cond b (others who i) 0) needed

  -- a word is written, the same where it is needed
  pub write_alike : (words others : Words) → cleaned_words need words ≡ cleaned_words need others → (who : Owner)
      → (i k v w : ℕ) → (need.words who i ≡ true → (i ≡ k) × (v ≡ w)) → (need.words who k ≡ true → (i ≡ k) × (v ≡ w))
      → cleaned_words need (with_word words who i v) ≡ cleaned_words need (with_word others who k w)
  write_alike words others alike who i k v w one other =
      fun_ext (λ o. fun_ext (λ n. go o n (need.words o n) refl (same_owner o who) refl))
    where
      here : (o : Owner) (n : ℕ) → need.words o n ≡ true → o ≡ who → (b : Bool) → (n == i) ≡ b → (c : Bool) → (n == k) ≡ c
          → cond b v (words o n) ≡ cond c w (others o n)
      here o n e f true p c q =
          let s = one (ap (need.words who) (sym (equal n i p)) ∙ ap (λ u. need.words u n) (sym f) ∙ e) in
          s.1 ∙ ap (λ d. cond d w (others o n)) (sym p ∙ ap (λ j. n == j) s.0 ∙ q)
      here o n e f false p true q =
          let s = other (ap (need.words who) (sym (equal n k q)) ∙ ap (λ u. need.words u n) (sym f) ∙ e) in
          clash (sym q ∙ ap (λ j. n == j) (sym s.0) ∙ p)
      here o n e f false p false q = word_alike words others alike o n e

      go : (o : Owner) (n : ℕ) (b : Bool) → need.words o n ≡ b → (c : Bool) → same_owner o who ≡ c
          → cond b (cond (c && (n == i)) v (words o n)) 0 ≡ cond b (cond (c && (n == k)) w (others o n)) 0
      go o n false e c f = refl
      go o n true e false f = word_alike words others alike o n e
      go o n true e true f = here o n e (same_owners o who f) (n == i) refl (n == k) refl

-- ---- windows of resources

pub zeros_set : (ws : List ℕ) (i v : ℕ) → zeros (slice_set ws i v) ≡ zeros ws
zeros_set [] i v = refl
zeros_set (w ∷ ws) zero v = refl
zeros_set (w ∷ ws) (suc i) v = ap (λ ys. 0 ∷ ys) (zeros_set ws i v)

pub zeros_twice : (ws : List ℕ) → zeros (zeros ws) ≡ zeros ws
zeros_twice [] = refl
zeros_twice (w ∷ ws) = ap (λ ys. 0 ∷ ys) (zeros_twice ws)

pub shared_set : (need : ℕ → Bool) (shared : List (List ℕ)) (r : ℕ) (ws : List ℕ)
    → cleaned_shared need (slice_set shared r ws) ≡ slice_set (cleaned_shared need shared) r (cond (need r) ws (zeros ws))
shared_set need [] r ws = refl
shared_set need (w ∷ rest) zero ws = refl
shared_set need (w ∷ rest) (suc r) ws =
    ap (λ ys. cond (need 0) w (zeros w) ∷ ys) (shared_set (λ q. need (suc q)) rest r ws)

pub shared_at : (need : ℕ → Bool) (shared : List (List ℕ)) (r : ℕ)
    → shared_window (cleaned_shared need shared) r ≡ cond (need r) (shared_window shared r) (zeros (shared_window shared r))
shared_at need [] r = sym (either_way (need r) [])
shared_at need (w ∷ rest) zero = refl
shared_at need (w ∷ rest) (suc r) = shared_at (λ q. need (suc q)) rest r

pub shared_twice : (need : ℕ → Bool) (shared : List (List ℕ))
    → cleaned_shared need (cleaned_shared need shared) ≡ cleaned_shared need shared
shared_twice need [] = refl
shared_twice need (w ∷ rest) = ap₂ (λ y ys. y ∷ ys) (go (need 0)) (shared_twice (λ q. need (suc q)) rest)
  where
    go : (b : Bool) → cond b (cond b w (zeros w)) (zeros (cond b w (zeros w))) ≡ cond b w (zeros w)
    go true = refl
    go false = zeros_twice w

module _ (need : ℕ → Bool) (shared : List (List ℕ)) where
  -- a word of a window that is needed
  pub shared_alike : (r i k : ℕ) → need r ≡ true → i ≡ k
      → shared_word shared r i ≡ shared_word (cleaned_shared need shared) r k
  shared_alike r i k needed same =
      ap (shared_word shared r) same
      ∙ ap (λ b. slice_index (cond b (shared_window shared r) (zeros (shared_window shared r))) (k % SHARED_WORDS)) (sym needed)
      ∙ ap (λ ws. slice_index ws (k % SHARED_WORDS)) (sym (shared_at need shared r))

  -- a word is written, the same where the window is needed
  pub store_alike : (r i k v w : ℕ) → (need r ≡ true → (i ≡ k) × (v ≡ w))
      → cleaned_shared need (with_shared shared r i v)
      ≡ cleaned_shared need (with_shared (cleaned_shared need shared) r k w)
  store_alike r i k v w same =
      shared_set need shared r (slice_set (shared_window shared r) (i % SHARED_WORDS) v)
      ∙ ap₂ (λ ys y. slice_set ys r y) (sym (shared_twice need shared)) (go (need r) refl)
      ∙ sym (shared_set need (cleaned_shared need shared) r (slice_set (shared_window (cleaned_shared need shared) r) (k % SHARED_WORDS) w))
    where
      window : List ℕ
      window = shared_window shared r

      go : (b : Bool) → need r ≡ b
          → cond b (slice_set (shared_window shared r) (i % SHARED_WORDS) v) (zeros (slice_set (shared_window shared r) (i % SHARED_WORDS) v))
          ≡ cond b (slice_set (shared_window (cleaned_shared need shared) r) (k % SHARED_WORDS) w)
          (zeros (slice_set (shared_window (cleaned_shared need shared) r) (k % SHARED_WORDS) w))
      go true e =
          ap₂ (λ j u. slice_set (shared_window shared r) (j % SHARED_WORDS) u) (same e).0 (same e).1
          ∙ ap (λ b. slice_set (cond b (shared_window shared r) (zeros (shared_window shared r))) (k % SHARED_WORDS) w) (sym e)
          ∙ ap (λ ws. slice_set ws (k % SHARED_WORDS) w) (sym (shared_at need shared r))
      go false e =
          zeros_set (shared_window shared r) (i % SHARED_WORDS) v
          ∙ sym (zeros_twice (shared_window shared r))
          ∙ ap (λ b. zeros (cond b (shared_window shared r) (zeros (shared_window shared r)))) (sym e)
          ∙ ap zeros (sym (shared_at need shared r))
          ∙ sym (zeros_set (shared_window (cleaned_shared need shared) r) (k % SHARED_WORDS) w)

-- ---- slots

module _ (need : Need) where
  pub slots_twice : (slots : ℕ → Slot) → cleaned_slots need (cleaned_slots need slots) ≡ cleaned_slots need slots
  slots_twice slots = fun_ext (λ t. ap (λ x. record (slots t) { context = x }) (context_twice (need.registers (Owner.Task t)) (slots t).context))

  pub active_twice : (active : Option Active)
      → option_map (cleaned_routine need) (option_map (cleaned_routine need) active) ≡ option_map (cleaned_routine need) active
  active_twice None = refl
  active_twice (Some a) =
      ap (λ x. Some (record { routine = a.routine; context = x })) (context_twice (need.registers (Owner.Routine a.routine)) a.context)

  pub cleaned_twice : (o : Kept) → cleaned need (cleaned need o) ≡ cleaned need o
  cleaned_twice o = λ i. record o {
    slots = slots_twice o.slots i;
    active = active_twice o.active i;
    words = words_twice need o.words i;
    shared = shared_twice need.shared o.shared i;
  }
