-- Bytes that tell what they stand for, whatever follows them.
use Rattle.std.proofs.Common.{ℕ, zero, suc, ◌≡◌, ◌<◌, ◌+◌, ◌/◌, ◌%◌, inl, inr, Bool, true, false, cond, List, [], ◌∷◌, ◌++◌, refl, sym, ◌∙◌, ap, subst, arith, true≢false}
use Rattle.std.specs.Prelude.{Option, Some, None, nat_lt}
use Rattle.std.proofs.lemmas.List.{append_assoc}
use Rattle.std.proofs.lemmas.Bool.{cases_lt, ltb-true}
use Rattle.search_keys.specs.Bytes.{each, digits, number, flag, optional, needed}

-- where bytes are equal with what follows them, this holds, and the same follows
pub record Tells (a b : List ℕ) (P : Type 0) : Type 0 where
  pub told : (r s : List ℕ) → a ++ r ≡ b ++ s → P × (r ≡ s)

abbrev head_of : List ℕ → ℕ
head_of [] = 0
head_of (n ∷ ns) = n

abbrev tail_of : List ℕ → List ℕ
tail_of [] = []
tail_of (n ∷ ns) = ns

-- ---- joining

pub weaker : {P Q : Type 0} {a b : List ℕ} → Tells a b P → (P → Q) → Tells a b Q
weaker x so = record { told = λ r s e. let one = x.told r s e in (so one.0, one.1) }

pub nothing : {P : Type 0} → P → Tells [] [] P
nothing p = record { told = λ r s e. (p, e) }

pub byte : (m n : ℕ) → Tells (m ∷ []) (n ∷ []) (m ≡ n)
byte m n = record { told = λ r s e. (ap head_of e, ap tail_of e) }

-- the same byte before, and another one
pub behind : {P : Type 0} {a b : List ℕ} (n : ℕ) → Tells a b P → Tells (n ∷ a) (n ∷ b) P
behind n x = record { told = λ r s e. x.told r s (ap tail_of e) }

pub unlike : {P : Type 0} (m n : ℕ) (a b : List ℕ) → (m ≡ n → ⊥) → Tells (m ∷ a) (n ∷ b) P
unlike m n a b other = record { told = λ r s e. absurd (other (ap head_of e)) }

pub and_then : {P Q : Type 0} {a b c d : List ℕ} → Tells a b P → (P → Tells c d Q)
    → Tells (a ++ c) (b ++ d) (P × Q)
and_then {a = a} {b = b} {c = c} {d = d} x y = record {
  told = λ r s e.
      let one = x.told (c ++ r) (d ++ s) (sym (append_assoc a c r) ∙ e ∙ append_assoc b d s) in
      let two = (y one.0).told r s one.1 in
      ((one.0, two.0), two.1);
}

infixl 10 ◌⨾◌
pub ◌⨾◌ : {P Q : Type 0} {a b c d : List ℕ} → Tells a b P → Tells c d Q
    → Tells (a ++ c) (b ++ d) (P × Q)
x ⨾ y = and_then x (λ p. y)

pub each_tells : {f g : ℕ → List ℕ} {P : ℕ → Type 0} (n : ℕ)
    → ((i : ℕ) → i < n → Tells (f i) (g i) (P i))
    → Tells (each n f) (each n g) ((i : ℕ) → i < n → P i)
unfolding each
each_tells zero parts = nothing (λ i low. absurd (omega (arith, low)))
each_tells {P = P} (suc n) parts =
    weaker (each_tells n (λ i low. parts i (omega (arith, low))) ⨾ parts n (omega arith)) both
  where
    both : ((i : ℕ) → i < n → P i) × P n → (i : ℕ) → i < suc n → P i
    both h i low = elim (cases_lt i n) [
      | inl below ↦ h.0 i below
      | inr not_below ↦ subst P (omega (arith, low, not_below)) h.1
    ]

-- ---- numbers

same_number : (m n : ℕ) → m / 128 ≡ n / 128 → 128 + m % 128 ≡ 128 + n % 128 → m ≡ n
same_number m n high low = omega (arith, high, low)

marked : (m n : ℕ) → nat_lt m 128 ≡ true → m ≡ 128 + n % 128 → ⊥
marked m n less same = let low = ltb-true m 128 less in omega (arith, low, same)

digits_tell : (k m n : ℕ) → Tells (digits k m) (digits k n) (m ≡ n)
unfolding digits
digits_tell zero m n = byte m n
digits_tell (suc k) m n =
    go (digits_tell k (m / 128) (n / 128)) (nat_lt m 128) refl (nat_lt n 128) refl
  where
    go : Tells (digits k (m / 128)) (digits k (n / 128)) (m / 128 ≡ n / 128)
        → (b : Bool) → nat_lt m 128 ≡ b → (c : Bool) → nat_lt n 128 ≡ c
        → Tells (cond b (m ∷ []) ((128 + m % 128) ∷ digits k (m / 128)))
        (cond c (n ∷ []) ((128 + n % 128) ∷ digits k (n / 128))) (m ≡ n)
    go higher true e true f = byte m n
    go higher true e false f = unlike m (128 + n % 128) [] (digits k (n / 128)) (marked m n e)
    go higher false e true f =
        unlike (128 + m % 128) n (digits k (m / 128)) [] (λ same. marked n m f (sym same))
    go higher false e false f = record {
      told = λ r s h.
          let rest = higher.told r s (ap tail_of h) in
          (same_number m n rest.0 (ap head_of h), rest.1);
    }

pub number_tells : (m n : ℕ) → Tells (number m) (number n) (m ≡ n)
unfolding number
number_tells m n = digits_tell 4 m n

pub flag_tells : (a b : Bool) → Tells (flag a) (flag b) (a ≡ b)
flag_tells true true = weaker (byte 1 1) (λ e. refl)
flag_tells true false = unlike 1 0 [] [] (λ e. omega (arith, e))
flag_tells false true = unlike 0 1 [] [] (λ e. omega (arith, e))
flag_tells false false = weaker (byte 0 0) (λ e. refl)

pub needed_tells : (need : Bool) (m n : ℕ)
    → Tells (needed need m) (needed need n) (need ≡ true → m ≡ n)
needed_tells true m n = weaker (number_tells m n) (λ same e. same)
needed_tells false m n = nothing (λ e. absurd (true≢false (sym e)))

-- ---- what may be absent

pub optional_tells : {X : Type 0} (bytes : X → List ℕ)
    → ((x y : X) → Tells (bytes x) (bytes y) (x ≡ y)) → (a b : Option X)
    → Tells (optional bytes a) (optional bytes b) (a ≡ b)
optional_tells bytes tells None None = weaker (byte 0 0) (λ e. refl)
optional_tells bytes tells None (Some y) = unlike 0 1 [] (bytes y) (λ e. omega (arith, e))
optional_tells bytes tells (Some x) None = unlike 1 0 (bytes x) [] (λ e. omega (arith, e))
optional_tells bytes tells (Some x) (Some y) = behind 1 (weaker (tells x y) (ap Some))
