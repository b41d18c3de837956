-- Ticks in a row in which one task holds a resource.
use Rattle.std.proofs.Common.{ℕ, suc, ◌≡◌, ◌-◌, ◌^◌, ◌<◌, ◌≤◌, true, false, List, Option, Some, None, get_or, map, refl, sym, arith}
use Rattle.std.specs.Prelude.{is_none, is_some}
use Rattle.std.proofs.lemmas.Bool.{false≢true}
use Rattle.seen_ticks.specs.declared.observation.Observation.{Observation}
use Rattle.seen_ticks.specs.Seen.{numbered}
use Rattle.view_figures.specs.declared.resource_figures.ResourceFigures.{ResourceFigures}
use Rattle.view_figures.specs.Counting.{resource_figures_of}
use Rattle.view_figures.specs.FigureSums.{alike, holder_tick}
use Rattle.view_figures.specs.Quiet.{is_free}
use Rattle.view_figures.specs.Calm.{can_hold_on, held_on}
use Rattle.view_figures.proofs.HoldLemmas.{hold_start, resource_go}
use Rattle.view_figures.proofs.RowLemmas.{row_all}

some_held : (h : Option ℕ) → is_none h ≡ false → is_some h ≡ true
some_held None h = absurd (false≢true (sym h))
some_held (Some t) h = refl

-- somebody holds a resource that isn't free
pub not_free : (o : Observation) (k : ℕ) → is_free o k ≡ false → is_some (get_or o.holders.items k None) ≡ true
not_free o k h = some_held (get_or o.holders.items k None) h

-- one hold, as long at each tick as it is then
pub row_held : (o : Observation) (k first count : ℕ) (before : List Observation) (old : ResourceFigures) → 0 < count
    → count < 2 ^ 32 → can_hold_on (holder_tick (numbered first o) k) (count - 1) old ≡ true
    → old ≡ resource_figures_of k before
    → held_on (holder_tick (numbered first o) k) (count - 1) old ≡ resource_figures_of k (alike o first count before)
row_held o k first count before old some fits can e =
    let ticks = map (λ p. holder_tick p k) in
    let tick = holder_tick (numbered first o) k in
    let more = count - 1 in
    let all : count ≡ suc more = omega (arith, some) in
    let short : more ≤ 2 ^ 32 - 1 = omega (arith, fits) in
    row_all (resource_figures_of k) o first before (λ m. held_on tick m old) count more all
    (hold_start tick (ticks before) old e)
    (λ m low seen same. resource_go tick m more (ticks seen) old can short low same)
