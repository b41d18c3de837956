-- Events of masks, one by one.
use Rattle.std.proofs.Common.{◌≡◌, ℕ, zero, suc, ◌+◌, ◌<◌, inl, inr, min, max, Bool, true, false, not, ◌&&◌, ◌||◌, List, [], ◌∷◌, refl, sym, ◌∙◌, ap, subst, arith}
use Rattle.std.specs.Prelude.{◌==◌, ◌%◌, ◌^◌, bit_and, bit_or, bit_xor}
use Rattle.std.specs.Int.{bit_at}
use Rattle.std.specs.List.{AllByRecursion, list_all, list_any}
use Rattle.std.proofs.lemmas.Bool.{and_from, and_parts, cases_lt, ltb-true}
use Rattle.std.proofs.lemmas.Nat.Bits.{bit_at-lt, bit_at-zero, bit_at_above, bit_at_and, bit_at_or, bit_at_xor, same_from_bits}
use Rattle.osek_base.specs.declared.limits.TheConstants.{MAX_EVENTS}
use Rattle.osek_base.specs.Lists.{below, is_in}
use Rattle.osek_base.specs.Service.{meets}
use Rattle.law_runs.proofs.Foremost.{equal}
use Rattle.law_runs.proofs.Known.{all_below}
use Rattle.law_runs.proofs.Lists.{all_weaker, any_none, clash}
use Rattle.law_costs.proofs.Positive.{in_below}
use Rattle.law_nodes.specs.Early.{bits, is_mask, is_set}
use Rattle.law_nodes.specs.Nodes.{is_within}
use Rattle.law_nodes.proofs.Tests.{each_passing}

-- ---- one event

either_bit : (u v : ℕ) → u < 2 → v < 2 → (max u v == 1) ≡ ((u == 1) || (v == 1))
either_bit zero zero a b = refl
either_bit zero (suc zero) a b = refl
either_bit (suc zero) zero a b = refl
either_bit (suc zero) (suc zero) a b = refl
either_bit (suc (suc u)) v a b = absurd (omega (arith, a))
either_bit u (suc (suc v)) a b = absurd (omega (arith, b))

both_bits : (u v : ℕ) → u < 2 → v < 2 → (min u v == 1) ≡ ((u == 1) && (v == 1))
both_bits zero zero a b = refl
both_bits zero (suc zero) a b = refl
both_bits (suc zero) zero a b = refl
both_bits (suc zero) (suc zero) a b = refl
both_bits (suc (suc u)) v a b = absurd (omega (arith, a))
both_bits u (suc (suc v)) a b = absurd (omega (arith, b))

cleared_bit : (u v : ℕ) → u < 2 → v < 2
    → ((u + min u v) % 2 == 1) ≡ ((u == 1) && not (v == 1))
cleared_bit zero zero a b = refl
cleared_bit zero (suc zero) a b = refl
cleared_bit (suc zero) zero a b = refl
cleared_bit (suc zero) (suc zero) a b = refl
cleared_bit (suc (suc u)) v a b = absurd (omega (arith, a))
cleared_bit u (suc (suc v)) a b = absurd (omega (arith, b))

pub set_or : (m n b : ℕ) → is_set (bit_or m n) b ≡ (is_set m b || is_set n b)
set_or m n b =
    ap (λ u. u == 1) (bit_at_or m n b)
    ∙ either_bit (bit_at m b) (bit_at n b) (bit_at-lt m b) (bit_at-lt n b)

pub set_and : (m n b : ℕ) → is_set (bit_and m n) b ≡ (is_set m b && is_set n b)
set_and m n b =
    ap (λ u. u == 1) (bit_at_and m n b)
    ∙ both_bits (bit_at m b) (bit_at n b) (bit_at-lt m b) (bit_at-lt n b)

pub set_cleared : (m n b : ℕ)
    → is_set (bit_xor m (bit_and m n)) b ≡ (is_set m b && not (is_set n b))
set_cleared m n b =
    ap (λ u. u == 1)
    (bit_at_xor m (bit_and m n) b ∙ ap (λ u. (bit_at m b + u) % 2) (bit_at_and m n b))
    ∙ cleared_bit (bit_at m b) (bit_at n b) (bit_at-lt m b) (bit_at-lt n b)

pub none_set : (b : ℕ) → is_set 0 b ≡ false
none_set b = ap (λ u. u == 1) (bit_at-zero b)

-- what is within a mask has no event besides
pub set_within : (m n b : ℕ) → is_within m n ≡ true → is_set m b ≡ true → is_set n b ≡ true
set_within m n b within set =
    (and_parts (is_set m b) (is_set n b)
    (sym (set_and m n b) ∙ ap (λ k. is_set k b) (equal (bit_and m n) m within) ∙ set)).1

unset : (u : ℕ) → u < 2 → (u == 1) ≡ false → u ≡ 0
unset zero less none = refl
unset (suc zero) less none = clash none
unset (suc (suc u)) less none = absurd (omega (arith, less))

-- ---- an event that two masks have

pub record IsMeeting (m n : ℕ) : Type 0 where
  pub event : ℕ
  pub there : is_in event bits ≡ true
  pub first : is_set m event ≡ true
  pub second : is_set n event ≡ true

abbrev is_meeting : ℕ → ℕ → ℕ → Bool
is_meeting m n b = is_set m b && is_set n b

found_meeting : (m n : ℕ) (bs : List ℕ)
    → AllByRecursion (λ b. is_in b bits ≡ true) bs → list_any (is_meeting m n) bs ≡ true
    → IsMeeting m n
found_meeting m n [] inside some = clash (sym some)
found_meeting m n (b ∷ bs) inside some =
    go (is_meeting m n b) refl some (found_meeting m n bs inside.1)
  where
    go : (c : Bool) → is_meeting m n b ≡ c → (c || list_any (is_meeting m n) bs) ≡ true
        → (list_any (is_meeting m n) bs ≡ true → IsMeeting m n) → IsMeeting m n
    go true is some rest =
        let both = and_parts (is_set m b) (is_set n b) is in
        record { event = b; there = inside.0; first = both.0; second = both.1 }
    go false is some rest = rest some

one_of : (P : ℕ → Type 0) (xs : List ℕ) (b : ℕ) → AllByRecursion P xs → is_in b xs ≡ true → P b
one_of P [] b all among = clash (sym among)
one_of P (x ∷ xs) b all among = go (x == b) refl among (one_of P xs b all.1)
  where
    go : (c : Bool) → (x == b) ≡ c → (c || is_in b xs) ≡ true → (is_in b xs ≡ true → P b) → P b
    go true is among rest = subst P (equal x b is) all.0
    go false is among rest = rest among

all_bits : AllByRecursion (λ b. is_in b bits ≡ true) bits
all_bits = every MAX_EVENTS (λ b less. in_below MAX_EVENTS b less)
  where
    every : (n : ℕ) → ((b : ℕ) → b < n → is_in b bits ≡ true)
        → AllByRecursion (λ b. is_in b bits ≡ true) (below n)
    every n f =
        all_weaker (λ b. b < n) (λ b. is_in b bits ≡ true) (below n) (λ b h. f b h) (all_below n)

pub meeting : (m n : ℕ) → is_mask m ≡ true → meets m n ≡ true → IsMeeting m n
meeting m n mask meet = go (list_any (is_meeting m n) bits) refl
  where
    small : m < 2 ^ MAX_EVENTS
    small = ltb-true m (2 ^ MAX_EVENTS) mask

    none : AllByRecursion (λ b. is_meeting m n b ≡ false) bits → (b : ℕ)
        → bit_at (bit_and m n) b ≡ 0
    none all b = elim (cases_lt b MAX_EVENTS) [
      | inl low ↦
          unset (bit_at (bit_and m n) b) (bit_at-lt (bit_and m n) b)
          (set_and m n b
          ∙ one_of (λ k. is_meeting m n k ≡ false) bits b all (in_below MAX_EVENTS b low))
      | inr high ↦
          let is = bit_at_and m n b in
          let gone = bit_at_above m MAX_EVENTS b small high in
          omega (arith, is, gone)
    ]

    go : (c : Bool) → list_any (is_meeting m n) bits ≡ c → IsMeeting m n
    go true some = found_meeting m n bits all_bits some
    go false some =
        let zero_is : bit_and m n ≡ 0 =
        same_from_bits (bit_and m n) 0
        (λ b. none (any_none (is_meeting m n) bits some) b ∙ sym (bit_at-zero b)) in
        clash (sym meet ∙ ap (λ k. not (k == 0)) zero_is)

-- one that is set besides where two masks had none
pub meeting_new : (w m x : ℕ) → is_mask w ≡ true → meets w m ≡ false
    → meets w (bit_or m x) ≡ true → IsMeeting w x
meeting_new w m x mask none some = go (meeting w (bit_or m x) mask some)
  where
    new : (b : ℕ) → is_set w b ≡ true → (c : Bool) → is_set m b ≡ c
        → (is_set m b || is_set x b) ≡ true → is_set x b ≡ true
    new b here false is either = sym (ap (λ d. d || is_set x b) is) ∙ either
    new b here true is either =
        clash (sym (some_meets (and_from (is_set w b) (is_set m b) here is)) ∙ none)
      where
        some_meets : (is_set w b && is_set m b) ≡ true → meets w m ≡ true
        some_meets both = pick (bit_and w m == 0) refl
          where
            pick : (d : Bool) → (bit_and w m == 0) ≡ d → not d ≡ true
            pick false is = refl
            pick true is =
                clash
                (sym (set_and w m b ∙ both) ∙ ap (λ k. is_set k b) (equal (bit_and w m) 0 is)
                ∙ none_set b)

    go : IsMeeting w (bit_or m x) → IsMeeting w x
    go one = record {
      event = one.event;
      there = one.there;
      first = one.first;
      second =
          new one.event one.first (is_set m one.event) refl
          (sym (set_or m x one.event) ∙ one.second);
    }

-- what passes of all passes of one of them
pub one_passes : (p : ℕ → Bool) (xs : List ℕ) (b : ℕ) → is_in b xs ≡ true
    → list_all p xs ≡ true → p b ≡ true
one_passes p xs b among all =
    one_of (λ x. p x ≡ true) xs b (each_passing (λ x. p x ≡ true) p xs (λ x is. is) all) among

-- masks that share none
pub apart : (m n b : ℕ) → (bit_and m n == 0) ≡ true → is_set m b ≡ true → is_set n b ≡ false
apart m n b none set = go (is_set n b) refl
  where
    go : (c : Bool) → is_set n b ≡ c → c ≡ false
    go false is = refl
    go true is =
        clash
        (sym (and_from (is_set m b) (is_set n b) set is)
        ∙ sym (set_and m n b)
        ∙ ap (λ k. is_set k b) (equal (bit_and m n) 0 none) ∙ none_set b)
