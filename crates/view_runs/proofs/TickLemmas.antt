-- Ticks of a run that are done one after another, what is seen of them, and what is made of that.
use Rattle.std.proofs.Common.{◌≡◌, ℕ, ◌+◌, ◌-◌, ◌<◌, ◌≤◌, nat_lt, Bool, true, false, List, [], ◌∷◌, ◌++◌, length, length-append, refl, sym, ap, subst, ◌∙◌, arith, ltb-true, ltb-false}
use Rattle.seen_ticks.specs.declared.observation.Observation.{Observation}
use Rattle.kernel.specs.Progress.{Progress, is_over}
use Rattle.seen_ticks.specs.Observed.{IsObserved}
use Rattle.law_blockers.specs.Steps.{record_at}
use Rattle.seen_runs.specs.Passing.{PassesAlike}
use Rattle.seen_ticks.specs.Seen.{alike_ticks}
use Rattle.view_timelines.specs.Marks.{LeaveNothing}
use Rattle.view_dumps.specs.Ticks.{events_text}
use Rattle.view_runs.specs.Seen.{AreSeen, DoesNext, HasNone, IsLast, PassesSome, SeesRun, SeesTicks}
use Rattle.view_runs.proofs.MarkLemmas.{leaves_nothing}
use Rattle.view_runs.proofs.RunLemmas.{all_done, done, each}
use Rattle.view_runs.proofs.SeenLemmas.{alike_seen, length-alike, no_event, seen_behind}

-- ticks in which the same is seen
pub some_alike : (counted : Bool) (ticks n first : ℕ) (r s : Progress) → 0 < n → r.ticks ≤ ticks → first ≡ r.ticks
    → PassesAlike counted (ticks - first) r s n → PassesSome counted ticks r s first
some_alike counted ticks n first r s some low begins p =
    let ticks_are : s.ticks ≡ r.ticks + n = ap (λ (x : Progress). x.ticks) p.next in
    let few = p.few in
    let before : n - 1 < n = omega (arith, some) in
    let last : s.ticks - 1 ≡ r.ticks + (n - 1) = omega (arith, ticks_are, some) in
    let count : s.ticks - first ≡ n = omega (arith, ticks_are, begins) in
    let was : (o : Observation) → IsLast counted s o → IsObserved counted r.system r.mode r.arrivals (s.ticks - 1) o = λ o is.
    subst (λ (x : Progress). IsObserved counted x.system x.mode x.arrivals (s.ticks - 1) o) p.next is in
    record {
      begins = begins;
      further = omega (arith, ticks_are, some, begins);
      within = omega (arith, ticks_are, few, low, begins);
      calm = λ o is.
          no_event counted r.system r.mode r.arrivals (r.ticks + (n - 1)) o
          (subst (λ t. IsObserved counted r.system r.mode r.arrivals t o) last (was o is)) (p.none_arrive (n - 1) before)
          (p.none_due (n - 1) before);
      unmarked = λ t from within.
          let there : r.ticks + (t - r.ticks) ≡ t = omega (arith, from, begins) in
          let below : t - r.ticks < n = omega (arith, within, ticks_are, from, begins) in
          subst (λ m. LeaveNothing (record_at r.system r.mode r.arrivals m)) there
          (leaves_nothing r.system r.mode r.arrivals (r.ticks + (t - r.ticks)) (p.none_answered (t - r.ticks) below));
      sees = λ o is.
          let many : length (alike_ticks o r.ticks n) ≡ n = length-alike o r.ticks n in
          let these : alike_ticks o r.ticks n ≡ alike_ticks o first (s.ticks - first) =
          ap (λ t. alike_ticks o t n) (sym begins) ∙ ap (alike_ticks o first) (sym count) in
          subst (SeesTicks counted r s) these (record {
            each = alike_seen counted r.system r.mode r.arrivals o r.ticks n (λ k below. p.alike k below o (was o is));
            going = λ k below. p.going k (omega (arith, below, many));
            next = p.next ∙ ap (λ m. record r { ticks = r.ticks + m }) (sym many);
          });
    }

-- ---- some ticks, and others behind them

still : (r s : Progress) (m n : ℕ) → s ≡ record r { ticks = r.ticks + m }
    → ((k : ℕ) → k < m → is_over (record r { ticks = r.ticks + k }) ≡ false)
    → ((k : ℕ) → k < n → is_over (record s { ticks = s.ticks + k }) ≡ false)
    → (k : ℕ) (before : Bool) → nat_lt k m ≡ before → k < m + n → is_over (record r { ticks = r.ticks + k }) ≡ false
still r s m n next first then k true is low = first k (ltb-true k m is)
still r s m n next first then k false is low =
    let h : m ≤ k = ltb-false k m is in
    let ticks_are : s.ticks ≡ r.ticks + m = ap (λ (x : Progress). x.ticks) next in
    let here : s.ticks + (k - m) ≡ r.ticks + k = omega (arith, h, ticks_are) in
    sym (ap (λ (x : Progress). is_over (record x { ticks = s.ticks + (k - m) })) next ∙ ap (λ t. is_over (record r { ticks = t })) here)
    ∙ then (k - m) (omega (arith, h, low))

sees_more : (counted : Bool) (r s w : Progress) (seen more : List Observation) → SeesTicks counted r s seen
    → SeesTicks counted s w more → SeesTicks counted r w (seen ++ more)
sees_more counted r s w seen more p q =
    let count : length (seen ++ more) ≡ length seen + length more = length-append seen more in
    record {
      each =
          seen_behind counted r.system r.mode r.arrivals r.ticks seen more p.each
          (subst (λ (x : Progress). AreSeen counted x.system x.mode x.arrivals x.ticks more) p.next q.each);
      going = λ k low.
          still r s (length seen) (length more) p.next p.going q.going k (nat_lt k (length seen)) refl (omega (arith, low, count));
      next =
          let ticks_are : s.ticks ≡ r.ticks + length seen = ap (λ (x : Progress). x.ticks) p.next in
          let sum : s.ticks + length more ≡ r.ticks + length (seen ++ more) = omega (arith, ticks_are, count) in
          q.next ∙ ap (λ (x : Progress). record x { ticks = s.ticks + length more }) p.next ∙ ap (λ n. record r { ticks = n }) sum;
    }

-- ---- what is made of the ticks of a run from its first on

pub record Made (counted : Bool) (ticks : ℕ) (r s : Progress) (Is : List Observation → Type 0) : Type 0 where
  pub seen : List Observation
  pub begun : r.ticks ≡ 0
  pub within : s.ticks ≤ ticks
  pub sees : SeesTicks counted r s seen
  pub is : Is seen

module _ (counted : Bool) (ticks : ℕ) (r : Progress) (Is : List Observation → Type 0) where
  -- before the first
  pub none_made : r.ticks ≡ 0 → Is [] → Made counted ticks r r Is
  none_made begun is =
      record {
        seen = [];
        begun = begun;
        within = omega (arith, begun);
        sees = record {
          each = tt;
          going = λ k low. absurd (omega (arith, low));
          next =
              let here : r.ticks ≡ r.ticks + 0 = omega arith in
              ap (λ n. record r { ticks = n }) here;
        };
        is = is;
      }

  module _ (s : Progress) (m : Made counted ticks r s Is) where
    more_made : (w : Progress) (more : List Observation) (To : List Observation → Type 0) → SeesTicks counted s w more → w.ticks ≤ ticks
        → ((seen : List Observation) → length seen ≡ s.ticks → Is seen → To (seen ++ more)) → Made counted ticks r w To
    more_made w more To sees within step =
        record {
          seen = m.seen ++ more;
          begun = m.begun;
          within = within;
          sees = sees_more counted r s w m.seen more m.sees sees;
          is = step m.seen (sym (done counted r s m.begun m.seen m.sees)) m.is;
        }

    -- of no more
    pub stays_made : (w : Progress) → w ≡ s → Made counted ticks r w Is
    stays_made w same = subst (λ x. Made counted ticks r x Is) (sym same) m

    -- of one more
    pub next_made : (w : Progress) (o : Observation) (To : List Observation → Type 0) → DoesNext counted ticks s w
        → (1 ≤ w.ticks → IsLast counted w o)
        → ((seen : List Observation) → length seen ≡ o.tick → Is seen → To (seen ++ o ∷ [])) → Made counted ticks r w To
    next_made w o To p last step =
        let further = p.further in
        let sees = p.sees o (last (omega (arith, further))) in
        more_made w (o ∷ []) To sees p.within (λ seen count. step seen (count ∙ sym sees.each.0.number))

    -- of some in which the same is seen
    pub alike_made : (first end : ℕ) (w : Progress) (o : Observation) (To : List Observation → Type 0) → PassesSome counted ticks s w first
        → end ≡ w.ticks → (1 ≤ w.ticks → IsLast counted w o)
        → ((seen : List Observation) → length seen ≡ first → first ≤ end → events_text o ≡ [] → Is seen
        → To (seen ++ alike_ticks o first (end - first)))
        → Made counted ticks r w To
    alike_made first end w o To p end_is last step =
        let further = p.further in
        let is = last (omega (arith, further)) in
        more_made w (alike_ticks o first (end - first)) To
        (subst (λ t. SeesTicks counted s w (alike_ticks o first (t - first))) (sym end_is) (p.sees o is)) p.within
        (λ seen count. step seen (count ∙ sym p.begins) (omega (arith, further, end_is)) (p.calm o is))

    -- of all
    pub all_made : (w : Progress) → HasNone ticks s w → (sees : SeesRun counted r ticks) × Is sees.seen
    all_made w last = (
      record {
        seen = m.seen;
        each = each counted r s m.begun m.seen m.sees;
        all = all_done counted r s m.begun m.seen m.sees ticks m.within last.none;
      },
      m.is,
    )
