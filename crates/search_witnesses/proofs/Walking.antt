-- What a walk keeps of its run, tick by tick.
use Rattle.std.proofs.Common.{ℕ, suc, ◌≡◌, ◌<◌, ◌+◌, true, false, List, map, length, sym, ◌∙◌, ap, subst, arith}
use Rattle.std.specs.Prelude.{slice_range}
use Rattle.std.specs.List.{All}
use Rattle.osek_base.specs.declared.arrivals.Arrival.{Arrival}
use Rattle.osek_base.specs.ArrivalList.{is_arrival_list}
use Rattle.osek_base.specs.System.{System}
use Rattle.osek_base.specs.Trace.{arriving, run}
use Rattle.law_kept.specs.Kept.{Kept}
use Rattle.law_kept.specs.KeptTick.{tick_in}
use Rattle.kernel.specs.Machine.{HasCome, IsBooted, Machine, next_tick, picture, system_of}
use Rattle.kernel.specs.Progress.{AreKnown, AreLeft}
use Rattle.kernel.proofs.ArrivalLemmas.{all_left, arriving_known}
use Rattle.seen_ticks.specs.declared.observation.Observation.{Observation}
use Rattle.seen_ticks.specs.Seen.{seen_of}
use Rattle.law_future.specs.Alike.{kept_after}
use Rattle.law_future.proofs.Futures.{kept_more}
use Rattle.law_seen.specs.Seen.{seen_in}
use Rattle.search_witnesses.specs.Walks.{IsShown, IsWalk}

-- ---- before the first tick

pub begun : (S : System) (mode : ℕ) (arrivals : List Arrival) (routines : List ℕ) (m : Machine)
    (seen : Observation) → IsBooted false S mode m → AreKnown S arrivals
    → routines ≡ map (λ (a : Arrival). a.routine) arrivals → is_arrival_list arrivals ≡ true
    → IsWalk S mode arrivals routines 0 m seen
begun S mode arrivals routines m seen booted known are list =
    let come : HasCome false S mode arrivals (next_tick m) m =
    subst (λ (T : System). HasCome false T mode arrivals (next_tick m) m) booted.system
    (booted.begins arrivals) in
    record {
      proper = booted.proper;
      known = known;
      routines = are;
      left = subst (λ n. AreLeft arrivals 0 n) (sym booted.first) (all_left arrivals list);
      system = booted.system;
      state = come.at.same;
      last = λ n is. let none = booted.first in absurd (omega (arith, none, is));
    }

-- ---- a tick

-- some routines arrive in the next tick of a walk
pub record Arrive (arrivals : List Arrival) (n end : ℕ) (arrived : List ℕ) : Type 0 where
  pub these : arriving arrivals n ≡ arrived
  pub left : AreLeft arrivals end (n + 1)

-- those that are lent from a list of all routines do
pub lent : (arrivals list : List Arrival) (all some : List ℕ) (n tick came end : ℕ)
    → list ≡ arrivals → all ≡ map (λ (a : Arrival). a.routine) arrivals → some ≡ all → tick ≡ n
    → arriving list tick ≡ slice_range (map (λ (a : Arrival). a.routine) list) came end
    → AreLeft list end (tick + 1) → Arrive arrivals n end (slice_range some came end)
lent arrivals list all some n tick came end same are lends is these left = record {
  these =
      ap (arriving arrivals) (sym is) ∙ ap (λ (xs : List Arrival). arriving xs tick) (sym same)
      ∙ these
      ∙ ap (λ (xs : List Arrival). slice_range (map (λ (a : Arrival). a.routine) xs) came end) same
      ∙ ap (λ (v : List ℕ). slice_range v came end) (sym are ∙ sym lends);
  left =
      subst (λ (xs : List Arrival). AreLeft xs end (n + 1)) same
      (subst (λ t. AreLeft list end (t + 1)) is left);
}

-- what a tick makes of a machine
pub record IsTicked (arrived : List ℕ) (m n : Machine) (o : Observation) : Type 0 where
  pub system : system_of n ≡ system_of m
  pub after : picture n ≡ (tick_in (system_of m) arrived (picture m)).after
  pub next : next_tick n ≡ next_tick m + 1
  pub seen : seen_of o ≡ seen_in (system_of m) arrived (picture m)

module _ (S : System) (mode : ℕ) (arrivals : List Arrival) (routines : List ℕ) (came : ℕ)
    (m : Machine) (seen : Observation) (walk : IsWalk S mode arrivals routines came m seen) where
  abbrev now : ℕ
  now = next_tick m

  pub known_now : (arrived : List ℕ) → arriving arrivals now ≡ arrived
      → All (λ i. i < length (system_of m).routines) arrived
  known_now arrived these =
      subst (λ (v : List ℕ). All (λ i. i < length (system_of m).routines) v) these
      (subst (λ (T : System). All (λ i. i < length T.routines) (arriving arrivals now))
      (sym walk.system)
      (arriving_known (length S.routines) arrivals now walk.known))

  module _ (end : ℕ) (arrived : List ℕ) (next : Machine) (other : Observation)
      (on : (picture m).over ≡ false) (arrive : Arrive arrivals now end arrived)
      (ticked : IsTicked arrived m next other) where
    going : (run S mode arrivals now).state.over ≡ false
    going = ap (λ (o : Kept). o.over) (sym walk.state) ∙ on

    same_after : (tick_in (system_of m) arrived (picture m)).after
        ≡ (tick_in S (arriving arrivals now) (kept_after S mode arrivals now)).after
    same_after =
        ap (λ (T : System). (tick_in T arrived (picture m)).after) walk.system
        ∙ ap (λ (o : Kept). (tick_in S arrived o).after) walk.state
        ∙ ap (λ (v : List ℕ). (tick_in S v (kept_after S mode arrivals now)).after)
        (sym arrive.these)

    same_seen : seen_in (system_of m) arrived (picture m)
        ≡ seen_in S (arriving arrivals now) (kept_after S mode arrivals now)
    same_seen =
        ap (λ (T : System). seen_in T arrived (picture m)) walk.system
        ∙ ap (λ (o : Kept). seen_in S arrived o) walk.state
        ∙ ap (λ (v : List ℕ). seen_in S v (kept_after S mode arrivals now)) (sym arrive.these)

    shown : IsShown S mode arrivals now other
    shown = record { going = going; seen = ticked.seen ∙ same_seen }

    more : suc now ≡ next_tick next
    more = let step = ticked.next in omega (arith, step)

    pub advanced : IsWalk S mode arrivals routines end next other
    advanced = record {
      proper = walk.proper;
      known = walk.known;
      routines = walk.routines;
      left = subst (λ n. AreLeft arrivals end n) (sym ticked.next) arrive.left;
      system = ticked.system ∙ walk.system;
      state =
          ticked.after ∙ same_after ∙ sym (kept_more S mode arrivals walk.proper now going)
          ∙ ap (kept_after S mode arrivals) more;
      last = λ n is.
          let step = ticked.next in
          let same : now ≡ n = omega (arith, is, step) in
          subst (λ k. IsShown S mode arrivals k other) same shown;
    }
