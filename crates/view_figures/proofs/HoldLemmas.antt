-- Ticks in a row in which one task holds a resource: one more of them.
use Rattle.std.proofs.Common.{ℕ, suc, ◌≡◌, ◌+◌, ◌-◌, ◌^◌, ◌<◌, ◌≤◌, ◌⊎◌, inl, inr, true, false, List, ◌∷◌, cond, nat_lt, refl, Option, Some, None, sym, ◌∙◌, ap, ap₂, arith}
use Rattle.std.proofs.Math.Nat.{add-zero}
use Rattle.std.specs.Prelude.{◌==◌, ◌&&◌, is_some, nat_le}
use Rattle.std.proofs.lemmas.Bool.{cases_Bool, false≢true, ltb-true, lt-ltb, leb-true, le-leb}
use Rattle.std.proofs.lemmas.Bool.Decides.{nat_tests}
use Rattle.view_figures.specs.declared.reached.Reached.{Reached}
use Rattle.view_figures.specs.declared.resource_figures.HolderTick.{HolderTick}
use Rattle.view_figures.specs.declared.resource_figures.ResourceFigures.{ResourceFigures}
use Rattle.view_figures.specs.Counts.{capped}
use Rattle.view_figures.specs.Reaching.{worse, worse_of}
use Rattle.view_figures.specs.ResourceSums.{resource_figures, is_same, is_got, hold_on, hold_at}
use Rattle.view_figures.specs.Calm.{can_hold_on, held_on}
use Rattle.view_figures.proofs.StepLemmas.{resource_more}

eqb-same : (n : ℕ) → (n == n) ≡ true
eqb-same n = grind (arith, nat_tests)

-- a tick of a resource, of another number
abbrev pub holder_at : ℕ → HolderTick → HolderTick
holder_at u h = record h { tick = u }

-- of two numbers after one another the greater is looked at alone
worse_later : (worst : Option Reached) (a b : Reached) → a.ticks < b.ticks → worse (worse worst a) b ≡ worse worst b
worse_later None a b less = ap (λ t. cond t (Some b) (Some a)) (lt-ltb a.ticks b.ticks less)
worse_later (Some w) a b less = go (cases_Bool (nat_lt w.ticks a.ticks))
  where
    go : (nat_lt w.ticks a.ticks ≡ true) ⊎ (nat_lt w.ticks a.ticks ≡ false) → worse (worse (Some w) a) b ≡ worse (Some w) b
    go (inl is) =
        let now : nat_lt a.ticks b.ticks ≡ true = lt-ltb a.ticks b.ticks less in
        let both : nat_lt w.ticks b.ticks ≡ true = lt-ltb w.ticks b.ticks (omega (arith, ltb-true w.ticks a.ticks is, less)) in
        ap (λ t. worse (cond t (Some a) (Some w)) b) is ∙ ap (λ t. cond t (Some b) (Some a)) now
        ∙ sym (ap (λ t. cond t (Some b) (Some w)) both)
    go (inr least) = ap (λ t. worse (cond t (Some a) (Some w)) b) least

pub hold_start : (h : HolderTick) (before : List HolderTick) (f : ResourceFigures) → f ≡ resource_figures before
    → held_on h 0 f ≡ resource_figures (h ∷ before)
hold_start h before f e =
    ap₂ (λ held u. record {
      gets = capped (f.gets + cond (is_got h.holder f.holder) 1 0);
      longest = worse_of f.longest (hold_at (record h { tick = u }) held);
      holder = h.holder;
      held = held;
    }) (add-zero (hold_on h.holder f.holder f.held)) (add-zero h.tick) ∙ resource_more h before f e

-- a hold of one task, so long at a tick, and the tick behind it
hold_step : (t gets held tick u : ℕ) (longest : Option Reached) (seen : List HolderTick) → held < 2 ^ 32 - 1
    → (record { gets = capped gets; longest = worse longest (record { ticks = held; at = tick }); holder = Some t; held = held })
    ≡ resource_figures seen
    → (record { gets = capped gets; longest = worse longest (record { ticks = suc held; at = u }); holder = Some t; held = suc held })
    ≡ resource_figures ((record { tick = u; holder = Some t }) ∷ seen)
hold_step t gets held tick u longest seen fits e =
    let h : HolderTick = record { tick = u; holder = Some t } in
    let old : ResourceFigures =
    record { gets = capped gets; longest = worse longest (record { ticks = held; at = tick }); holder = Some t; held = held } in
    let more = resource_more h seen old e in
    let same : is_same (Some t) (Some t) ≡ true = eqb-same t in
    let goes : hold_on (Some t) (Some t) held ≡ suc held =
    ap (λ b. cond b (capped (held + 1)) 1) same ∙ omega (arith, fits) in
    let none : capped (capped gets + cond (is_got (Some t) (Some t)) 1 0) ≡ capped gets =
    ap (λ b. capped (capped gets + cond (cond b false true) 1 0)) same ∙ omega arith in
    let longer : worse (worse longest (record { ticks = held; at = tick })) (record { ticks = hold_on (Some t) (Some t) held; at = u })
    ≡ worse longest (record { ticks = suc held; at = u }) =
    ap (λ n. worse (worse longest (record { ticks = held; at = tick })) (record { ticks = n; at = u })) goes
    ∙ worse_later longest (record { ticks = held; at = tick }) (record { ticks = suc held; at = u }) (omega arith) in
    cc

pub resource_go : (h : HolderTick) (m more : ℕ) (seen : List HolderTick) (f : ResourceFigures) → can_hold_on h more f ≡ true
    → more ≤ 2 ^ 32 - 1 → m < more → held_on h m f ≡ resource_figures seen
    → held_on h (suc m) f ≡ resource_figures (holder_at (h.tick + suc m) h ∷ seen)
resource_go h m more seen f can fits low e = go h.holder can e
  where
    go : (holder : Option ℕ) → can_hold_on (record { tick = h.tick; holder = holder }) more f ≡ true
        → held_on (record { tick = h.tick; holder = holder }) m f ≡ resource_figures seen
        → held_on (record { tick = h.tick; holder = holder }) (suc m) f
        ≡ resource_figures ((record { tick = h.tick + suc m; holder = holder }) ∷ seen)
    go None can e = absurd (false≢true can)
    go (Some t) can e =
        let held = hold_on (Some t) f.holder f.held in
        let room : held ≤ 2 ^ 32 - 1 - more = leb-true held (2 ^ 32 - 1 - more) can in
        let one_more : held + suc m ≡ suc (held + m) = omega arith in
        ap (λ n. record {
          gets = capped (f.gets + cond (is_got (Some t) f.holder) 1 0);
          longest = worse f.longest (record { ticks = n; at = h.tick + suc m });
          holder = Some t;
          held = n;
        }) one_more ∙ hold_step t (f.gets + cond (is_got (Some t) f.holder) 1 0) (held + m) (h.tick + m) (h.tick + suc m) f.longest seen
        (omega (arith, room, fits, low)) e

is_held : (h before : Option ℕ) → is_same h before ≡ true → is_some h ≡ true
is_held None before h = absurd (false≢true h)
is_held (Some t) before h = refl

-- a hold that goes on, with room for so many ticks more
pub can_go : (h : HolderTick) (more : ℕ) (f : ResourceFigures) → is_same h.holder f.holder ≡ true
    → f.held + more < 2 ^ 32 - 1 → can_hold_on h more f ≡ true
can_go h more f same room =
    let next = cond (is_some h.holder) 1 0 in
    let low : capped (f.held + 1) ≤ 2 ^ 32 - 1 - more = omega (arith, room) in
    ap₂ (λ a b. a && b) (is_held h.holder f.holder same)
    (ap (λ b. nat_le (cond b (capped (f.held + 1)) next) (2 ^ 32 - 1 - more)) same
    ∙ le-leb (capped (f.held + 1)) (2 ^ 32 - 1 - more) low)

-- one that begins
pub can_get : (h : HolderTick) (more : ℕ) (f : ResourceFigures) → is_some h.holder ≡ true
    → is_same h.holder f.holder ≡ false → more < 2 ^ 32 - 1 → can_hold_on h more f ≡ true
can_get h more f held other room =
    let low : 1 ≤ 2 ^ 32 - 1 - more = omega (arith, room) in
    ap₂ (λ a b. a && b) held
    (ap₂ (λ b s. nat_le (cond b (capped (f.held + 1)) (cond s 1 0)) (2 ^ 32 - 1 - more)) other held
    ∙ le-leb 1 (2 ^ 32 - 1 - more) low)
