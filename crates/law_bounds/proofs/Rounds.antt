-- A run that comes twice to one state while a job stands can be gone on so, round by round.
use Rattle.std.proofs.Common.{ℕ, zero, suc, ◌≡◌, ◌<◌, ◌≤◌, ◌+◌, ◌*◌, ◌-◌, inl, inr, false, List, length, refl, sym, ◌∙◌, ap, subst, subst₂, arith}
use Rattle.std.proofs.lemmas.Bool.{cases_lt}
use Rattle.osek_base.specs.declared.arrivals.Arrival.{Arrival}
use Rattle.osek_base.specs.Proper.{IsProper}
use Rattle.osek_base.specs.System.{System}
use Rattle.osek_base.specs.Trace.{Run, arriving, run}
use Rattle.arrival_rules.specs.declared.rule.ArrivalRule.{ArrivalRule}
use Rattle.arrival_rules.specs.Rules.{KeepRules, comings, rule_at}
use Rattle.law_runs.proofs.Arriving.{depends_on_the_past}
use Rattle.law_kept.specs.Kept.{Kept, kept}
use Rattle.law_kept.specs.KeptTick.{tick_in}
use Rattle.law_future.specs.Need.{Need, Suffices}
use Rattle.seen_ticks.specs.Seen.{Seen}
use Rattle.law_future.specs.Alike.{kept_after}
use Rattle.law_future.proofs.Futures.{kept_more}
use Rattle.law_seen.specs.Seen.{seen_in}
use Rattle.view_figures.specs.ResponseSums.{standing}
use Rattle.view_figures.specs.StateSums.{leaves}
use Rattle.search_labels.specs.Ticks.{task_tick}
use Rattle.search_keys.specs.InRange.{NeedsOwnWords}
use Rattle.search_keys.specs.Key.{key}
use Rattle.law_bounds.specs.Going.{GoOnAlike, HaveOneFuture, KeysTellFutures}
use Rattle.law_bounds.specs.Nodes.{Comes}
use Rattle.law_bounds.specs.Unending.{StandsSoLong, Stands, StandsBetween}
use Rattle.law_bounds.specs.Lassos.{GoesOn, IsLasso, LassosAreEndless, again, rounds}
use Rattle.law_bounds.proofs.Arriving.{first_round, second_round}
use Rattle.law_bounds.proofs.Known.{known_in}
use Rattle.law_bounds.proofs.Twice.{again_before, keep_twice, second_many}

-- a tick that shows what another one shows, from a state that is over as that one is
stands_as : (S : System) (mode : ℕ) (xs ys : List Arrival) (t u k : ℕ)
    → (run S mode xs t).state.over ≡ (run S mode ys u).state.over
    → seen_in S (arriving xs t) (kept_after S mode xs t)
    ≡ seen_in S (arriving ys u) (kept_after S mode ys u)
    → Stands S mode xs t k → Stands S mode ys u k
stands_as S mode xs ys t u k over seen stands = record {
  going = sym over ∙ stands.going;
  stands = subst (λ (x : Seen). 1 ≤ standing (task_tick x k)) seen stands.stands;
  stays = ap (λ (x : Seen). leaves (task_tick x k)) (sym seen) ∙ stands.stays;
}

module _ (futures : KeysTellFutures) (S : System) (mode : ℕ) (rules : List ArrivalRule)
    (need : Need) (k : ℕ) (proper : IsProper S) (enough : Suffices S need)
    (own : NeedsOwnWords S need) where
  abbrev Lasso : List Arrival → ℕ → ℕ → Type 0
  Lasso arrivals from until = IsLasso S mode rules need arrivals from until k

  module _ (xs : List Arrival) (from until : ℕ) (lasso : Lasso xs from until) where
    abbrev ys : List Arrival
    ys = again from until xs

    abbrev ticks : ℕ
    ticks = until - from

    abbrev after : ℕ → Kept
    after t = kept_after S mode ys t

    -- ---- up to the end of the first round

    one_past : (t : ℕ) → t < until → arriving ys t ≡ arriving xs t
    one_past t low = first_round from until xs lasso.less lasso.before t low

    one_run : (n : ℕ) → n ≤ until → run S mode ys n ≡ run S mode xs n
    one_run n most =
        depends_on_the_past S mode ys xs n (λ t low. one_past t (omega (arith, low, most)))

    one_state : (n : ℕ) → n ≤ until → after n ≡ kept_after S mode xs n
    one_state n most = ap (λ (r : Run). kept S r.state) (one_run n most)

    pub stands_still : (t : ℕ) → t < until → Stands S mode xs t k → Stands S mode ys t k
    stands_still t low stands =
        let most : t ≤ until = omega (arith, low) in
        stands_as S mode xs ys t t k
        (ap (λ (r : Run). r.state.over) (sym (one_run t most)))
        (λ i. seen_in S (sym (one_past t low) i) (sym (one_state t most) i)) stands

    -- ---- the second

    abbrev Equal : ℕ → ℕ → Type 0
    Equal t u = key S need (after t) ≡ key S need (after u)

    comes : (t : ℕ) → Comes S (after t)
    comes t = record { mode = mode; arrivals = ys; ticks = t; same = refl }

    module _ (t u : ℕ) (high : from ≤ t) (low : t < until) (is : u ≡ t + ticks)
        (equal : Equal t u) where
      arrive_alike : arriving ys u ≡ arriving ys t
      arrive_alike =
          second_round from until xs lasso.less lasso.before t u high is ∙ sym (one_past t low)

      first_stands : Stands S mode ys t k
      first_stands = stands_still t low (lasso.stands t high low)

      future : HaveOneFuture S need (after t) (after u)
      future = futures S need (after t) (after u) proper enough own (comes t) (comes u) equal

      alike : GoOnAlike S need (arriving ys t) (after t) (after u)
      alike =
          future.next (arriving ys t) (known_in (length S.routines) t ys lasso.again.known)
          first_stands.going

      going_too : (run S mode ys u).state.over ≡ false
      going_too = sym future.over ∙ first_stands.going

      stands_again : Stands S mode ys u k
      stands_again =
          stands_as S mode ys ys t u k future.over
          (alike.seen ∙ ap (λ (v : List ℕ). seen_in S v (after u)) (sym arrive_alike))
          first_stands

      equal_next : Equal (suc t) (suc u)
      equal_next =
          ap (key S need) (kept_more S mode ys proper t first_stands.going) ∙ alike.key
          ∙ ap (λ (v : List ℕ). key S need (tick_in S v (after u)).after) (sym arrive_alike)
          ∙ ap (key S need) (sym (kept_more S mode ys proper u going_too))

    equal_first : Equal from until
    equal_first =
        ap (key S need) (one_state from (let less = lasso.less in omega (arith, less)))
        ∙ lasso.key ∙ ap (key S need) (sym (one_state until (omega arith)))

    equal_at : (i t u : ℕ) → t ≡ from + i → u ≡ until + i → i ≤ ticks → Equal t u
    equal_at zero t u is is_too most =
        let one : from ≡ t = omega (arith, is) in
        let other : until ≡ u = omega (arith, is_too) in
        subst₂ Equal one other equal_first
    equal_at (suc i) t u is is_too most =
        let less = lasso.less in
        let one : suc (from + i) ≡ t = omega (arith, is) in
        let other : suc (until + i) ≡ u = omega (arith, is_too) in
        subst₂ Equal one other
        (equal_next (from + i) (until + i) (omega arith) (omega (arith, most)) (omega (arith, less))
        (equal_at i (from + i) (until + i) refl refl (omega (arith, most))))

    stands_on : StandsBetween S mode ys until (until + ticks) k
    stands_on u high low =
        let less = lasso.less in
        let i : ℕ = u - until in
        let is : u ≡ until + i = omega (arith, high) in
        stands_again (from + i) u (omega arith) (omega (arith, high, low, less))
        (omega (arith, high, less))
        (equal_at i (from + i) u refl is (omega (arith, high, low)))

    -- ---- so it can be gone on

    pays_again : (n : ℕ) → comings ys (rule_at rules n).routine until (until + ticks - until)
        * (rule_at rules n).period ≤ until + ticks - until
    pays_again n =
        let rule : ArrivalRule = rule_at rules n in
        let same : ticks ≡ until + ticks - until = omega arith in
        subst (λ m. comings ys rule.routine until m * rule.period ≤ m) same
        (subst (λ m. m * rule.period ≤ ticks)
        (sym (second_many from until xs lasso.less lasso.before rule.routine)) (lasso.pays n))

    pub next_lasso : Lasso ys until (until + ticks)
    next_lasso =
        let less = lasso.less in
        record {
          less = omega (arith, less);
          before = again_before from until xs lasso.before;
          key = equal_at ticks until (until + ticks) (omega (arith, less)) refl (omega arith);
          stands = stands_on;
          keep = lasso.again;
          again =
              keep_twice S rules from until xs lasso.less lasso.before lasso.again lasso.pays;
          pays = pays_again;
        }

  -- ---- round by round

  keeps : (n from until : ℕ) (xs : List Arrival) → Lasso xs from until
      → KeepRules S rules (rounds n from until xs)
  keeps zero from until xs lasso = lasso.keep
  keeps (suc n) from until xs lasso =
      keeps n until (until + (until - from)) (again from until xs)
      (next_lasso xs from until lasso)

  -- a round more ends a round later
  later_end : (n from until : ℕ) → from < until
      → until + (until - from) + n * (until + (until - from) - until)
      ≡ until + suc n * (until - from)
  later_end n from until less =
      let ticks : ℕ = until - from in
      let same : until + ticks - until ≡ ticks = omega (arith, less) in
      ap (λ m. until + ticks + n * m) same ∙ grind arith

  stands_longer : (xs : List Arrival) (from until start : ℕ) → Lasso xs from until
      → StandsBetween S mode xs start until k
      → StandsBetween S mode (again from until xs) start (until + (until - from)) k
  stands_longer xs from until start lasso stands t high low = elim (cases_lt t until) [
    | inl soon ↦ stands_still xs from until lasso t soon (stands t high soon)
    | inr far ↦ (next_lasso xs from until lasso).stands t far low
  ]

  stand_on : (n from until start : ℕ) (xs : List Arrival) → Lasso xs from until
      → StandsBetween S mode xs start until k
      → StandsBetween S mode (rounds n from until xs) start (until + n * (until - from)) k
  stand_on zero from until start xs lasso stands = λ t high low. stands t high (omega (arith, low))
  stand_on (suc n) from until start xs lasso stands =
      subst (λ m. StandsBetween S mode (rounds (suc n) from until xs) start m k)
      (later_end n from until lasso.less)
      (stand_on n until (until + (until - from)) start (again from until xs)
      (next_lasso xs from until lasso) (stands_longer xs from until start lasso stands))

  goes_on : (xs : List Arrival) (from until : ℕ) → Lasso xs from until
      → GoesOn S mode rules xs from until k
  goes_on xs from until lasso = record {
    keep = λ n. keeps n from until xs lasso;
    stands = λ n. stand_on n from until from xs lasso lasso.stands;
  }

  -- each has at least a tick
  no_shorter : (n from until : ℕ) → from < until → from + n ≤ until + n * (until - from)
  no_shorter zero from until less = omega (arith, less)
  no_shorter (suc n) from until less =
      let before = no_shorter n from until less in
      let more : suc n * (until - from) ≡ n * (until - from) + (until - from) = grind arith in
      omega (arith, less, before, more)

  is_kept : (from until n : ℕ) (xs : List Arrival) → Lasso xs from until
      → StandsSoLong S mode rules k n
  is_kept from until n xs lasso = record {
    arrivals = rounds n from until xs;
    from = from;
    keep = keeps n from until xs lasso;
    stands = λ t high low.
        let long = no_shorter n from until lasso.less in
        stand_on n from until from xs lasso lasso.stands t high (omega (arith, low, long));
  }

pub lassos_are_endless : KeysTellFutures → LassosAreEndless
lassos_are_endless futures S mode rules need arrivals from until k proper enough own lasso =
    record {
      goes_on =
          goes_on futures S mode rules need k proper enough own arrivals from until lasso;
      ever = λ n.
          is_kept futures S mode rules need k proper enough own from until n arrivals lasso;
    }
