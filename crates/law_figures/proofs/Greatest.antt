-- The greatest number that labels show.
use Rattle.std.proofs.Common.{ℕ, ◌≡◌, ◌<◌, ◌≤◌, ◌-◌, ◌^◌, Bool, true, false, cond, nat_lt, List, [], ◌∷◌, Option, Some, None, refl, sym, subst, arith}
use Rattle.std.proofs.lemmas.Bool.{ltb-true, ltb-false}
use Rattle.view_figures.specs.declared.reached.Reached.{Reached}
use Rattle.view_figures.specs.Counts.{capped}
use Rattle.view_figures.specs.Reaching.{worse, worse_of, worst, put}
use Rattle.law_figures.specs.Labels.{Label, label_after, reached, all_shown, IsAtMost, IsWithin, NoneShowsMore, IsGreatest}

-- ---- one number after others

pub worse_within : (m : ℕ) (w : Option Reached) (r : Reached) → IsWithin m w → r.ticks ≤ m
    → IsWithin m (worse w r)
worse_within m None r low here = here
worse_within m (Some w) r low here = go (nat_lt w.ticks r.ticks)
  where
    go : (b : Bool) → IsWithin m (cond b (Some r) (Some w))
    go true = here
    go false = low

-- the greatest so far is within a bound, and so is the number
pub record BothWithin (m : ℕ) (w : Option Reached) (r : Reached) : Type 0 where
  pub so_far : IsWithin m w
  pub here : r.ticks ≤ m

pub worse_parts : (m : ℕ) (w : Option Reached) (r : Reached) → IsWithin m (worse w r)
    → BothWithin m w r
worse_parts m None r low = record { so_far = tt; here = low }
worse_parts m (Some w) r low = go (nat_lt w.ticks r.ticks) refl low
  where
    go : (b : Bool) → nat_lt w.ticks r.ticks ≡ b → IsWithin m (cond b (Some r) (Some w))
        → BothWithin m (Some w) r
    go true e k = let less : w.ticks < r.ticks = ltb-true w.ticks r.ticks e in
        record { so_far = omega (arith, k); here = k }
    go false e k = let less : r.ticks ≤ w.ticks = ltb-false w.ticks r.ticks e in
        record { so_far = k; here = omega (arith, k) }

pub capped_within : (m n : ℕ) → n ≤ m → capped n ≤ m
capped_within m n low = omega arith

pub within_capped : (m n : ℕ) → m < 2 ^ 32 - 1 → capped n ≤ m → n ≤ m
within_capped m n small low = omega arith

put_within : (m tick : ℕ) (shown : Option ℕ) (others : List Reached) → IsAtMost m shown
    → IsWithin m (worst others)
    → IsWithin m (worst (put (reached tick shown) others))
put_within m tick None others here low = low
put_within m tick (Some n) others here low =
    worse_within m (worst others) (record { ticks = capped n; at = tick }) low
    (capped_within m n here)

within_put : (m tick : ℕ) (shown : Option ℕ) (others : List Reached) → m < 2 ^ 32 - 1
    → IsWithin m (worst (put (reached tick shown) others))
    → IsAtMost m shown × IsWithin m (worst others)
within_put m tick None others small low = (tt, low)
within_put m tick (Some n) others small low =
    let both : BothWithin m (worst others) (record { ticks = capped n; at = tick }) =
    worse_parts m (worst others) (record { ticks = capped n; at = tick }) low in
    (within_capped m n small both.here, both.so_far)

-- ---- all of them

module _ {T L : Type 0} (label : Label T L) (number : T → ℕ) (show : T → L → Option ℕ) where
  all_within : (m : ℕ) (seen : List T) → NoneShowsMore label show m seen
      → IsWithin m (worst (all_shown label number show seen))
  all_within m [] none = tt
  all_within m (t ∷ before) none =
      put_within m (number t) (show t (label_after label before))
      (all_shown label number show before) none.0
      (all_within m before none.1)

  within_all : (m : ℕ) (seen : List T) → m < 2 ^ 32 - 1
      → IsWithin m (worst (all_shown label number show seen))
      → NoneShowsMore label show m seen
  within_all m [] small low = tt
  within_all m (t ∷ before) small low =
      let both : IsAtMost m (show t (label_after label before))
      × IsWithin m (worst (all_shown label number show before)) =
      within_put m (number t) (show t (label_after label before))
      (all_shown label number show before) small low in
      (both.0, within_all m before small both.1)

  pub is_greatest : (seen : List T) (figure : Option Reached)
      → figure ≡ worst (all_shown label number show seen)
      → IsGreatest label number show seen figure
  is_greatest seen figure e = record {
    told = e;
    within = λ m none. subst (IsWithin m) (sym e) (all_within m seen none);
    shown = λ m small low. within_all m seen small (subst (IsWithin m) e low);
  }

-- one more number, in the words of figures
pub worst_put : (r : Option Reached) (others : List Reached)
    → worst (put r others) ≡ worse_of (worst others) r
worst_put None others = refl
worst_put (Some r) others = refl
