-- States are alike exactly where what is compared is the same.
use Rattle.std.proofs.Common.{ℕ, zero, suc, ◌≡◌, ◌<◌, ◌-◌, List, [], ◌∷◌, map, length, get_or, refl, sym, ◌∙◌, ap, ap₂, arith}
use Rattle.std.specs.Prelude.{Bool, Option, Some, None}
use Rattle.std.proofs.lemmas.List.{map-append}
use Rattle.osek_base.specs.Lists.{below}
use Rattle.osek_base.specs.System.{System}
use Rattle.osek_base.specs.State.{Expiry}
use Rattle.osek_base.specs.Alarm.{count, expiry}
use Rattle.law_runs.proofs.Lists.{some_inside, none_some}
use Rattle.law_kept.specs.Kept.{Kept}
use Rattle.law_kept.specs.KeptService.{bare}
use Rattle.law_future.specs.Alike.{HaveSameLeft, AreAlikeBy}
use Rattle.law_future.specs.Relative.{IsAhead, AreAhead, counted_from, left_of, AreSame, SameIsAlike}
use Rattle.law_future.proofs.Tables.{table_at}

-- ---- one alarm

one_alike : (n m : ℕ) (e f : Option Expiry) → IsAhead n e → IsAhead m f → counted_from n e ≡ counted_from m f → HaveSameLeft n e m f
one_alike n m None None first second same = tt
one_alike n m None (Some f) first second same = absurd (none_some (record { count = f.count - m; cycle = f.cycle }) same)
one_alike n m (Some e) None first second same = absurd (none_some (record { count = e.count - n; cycle = e.cycle }) (sym same))
one_alike n m (Some e) (Some f) first second same =
    let is =
    some_inside (record { count = e.count - n; cycle = e.cycle }) (record { count = f.count - m; cycle = f.cycle }) same in
    let counts : e.count - n ≡ f.count - m = ap (λ (x : Expiry). x.count) is in
    (ap (λ (x : Expiry). x.cycle) is, omega (arith, counts, first, second))

one_same : (n m : ℕ) (e f : Option Expiry) → HaveSameLeft n e m f → counted_from n e ≡ counted_from m f
one_same n m None None h = refl
one_same n m None (Some f) h = absurd h
one_same n m (Some e) None h = absurd h
one_same n m (Some e) (Some f) h =
    let left = h.1 in
    let counts : e.count - n ≡ f.count - m = omega (arith, left) in
    ap₂ (λ (k c : ℕ). Some (record { count = k; cycle = c })) counts h.0

map_same : (f g : ℕ → Option Expiry) (n : ℕ) → ((i : ℕ) → i < n → f i ≡ g i) → map f (below n) ≡ map g (below n)
map_same f g zero same = refl
map_same f g (suc n) same =
    let before = map_same f g n (λ i low. same i (omega arith)) in
    rw (map-append f (below n) (n ∷ []), map-append g (below n) (n ∷ []), before, same n (omega arith)) refl

-- ---- whole states

module _ (S : System) (valued : ℕ → Bool) (o p : Kept) where
  to_alike : AreAhead S o → AreAhead S p → AreSame S valued o p → AreAlikeBy S valued o p
  to_alike first second same = record {
    rest = ap (λ (x : Kept). record x { alarms = [] }) same.kept;
    values = same.values;
    phases = same.phases;
    alarms = λ a inside.
        one_alike (count S (bare o) a) (count S (bare p) a) (expiry (bare o) a) (expiry (bare p) a) (first a inside) (second a inside)
        (sym (table_at (left_of S o) (length S.alarms) a None inside)
        ∙ ap (λ (x : Kept). get_or x.alarms a None) same.kept ∙ table_at (left_of S p) (length S.alarms) a None inside);
  }

  to_same : AreAlikeBy S valued o p → AreSame S valued o p
  to_same alike = record {
    kept = ap₂ (λ (x : Kept) (es : List (Option Expiry)). record x { alarms = es }) alike.rest
        (map_same (left_of S o) (left_of S p) (length S.alarms)
        (λ a inside. one_same (count S (bare o) a) (count S (bare p) a) (expiry (bare o) a) (expiry (bare p) a) (alike.alarms a inside)));
    values = alike.values;
    phases = alike.phases;
  }

pub same_is_alike : SameIsAlike
same_is_alike S valued o p first second = (to_alike S valued o p first second, to_same S valued o p)
