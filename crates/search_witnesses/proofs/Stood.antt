-- A walk in whose ticks a job of a task stood.
use Rattle.std.proofs.Common.{ℕ, ◌≡◌, List, sym, ◌∙◌, ap, subst}
use Rattle.osek_base.specs.declared.arrivals.Arrival.{Arrival}
use Rattle.osek_base.specs.System.{System}
use Rattle.kernel.specs.Progress.{Progress}
use Rattle.law_future.specs.Need.{Need}
use Rattle.law_future.specs.Alike.{kept_after}
use Rattle.search_keys.specs.Key.{key}
use Rattle.law_bounds.specs.Unending.{StandsBetween}
use Rattle.search_witnesses.specs.Walks.{ComesTwice}

-- a walk is some ticks behind another one, and in each of them a job of a task stood
pub record HasStood (first now : Progress) (k : ℕ) : Type 0 where
  pub same : now ≡ record first { ticks = now.ticks }
  pub stands : StandsBetween first.system first.mode first.arrivals first.ticks now.ticks k

-- the key of a walk's state
abbrev pub key_now : Need → Progress → List ℕ
key_now need r = key r.system need (kept_after r.system r.mode r.arrivals r.ticks)

-- a walk from boot to one tick and on to another, at which its keys are equal
pub twice : (S : System) (mode : ℕ) (need : Need) (arrivals : List Arrival) (from until k : ℕ)
    (begun first second : Progress) (one other : List ℕ)
    → begun ≡ record { system = S; mode = mode; arrivals = arrivals; ticks = 0 }
    → first ≡ record begun { ticks = from } → second ≡ record first { ticks = until }
    → one ≡ key_now need first → other ≡ key_now need second
    → StandsBetween first.system first.mode first.arrivals first.ticks until k → one ≡ other
    → ComesTwice S mode need arrivals from until k
twice S mode need arrivals from until k begun first second one other at_boot to_first to_second
    is is_too stands same =
    let at : ℕ → Progress = λ n. record { system = S; mode = mode; arrivals = arrivals; ticks = n } in
    let here : first ≡ at from =
    to_first ∙ ap (λ (r : Progress). record r { ticks = from }) at_boot in
    let there : second ≡ at until =
    to_second ∙ ap (λ (r : Progress). record r { ticks = until }) here in
    record {
      key =
          ap (key_now need) (sym here) ∙ sym is ∙ same ∙ is_too ∙ ap (key_now need) there;
      stands =
          subst
          (λ (r : Progress). StandsBetween r.system r.mode r.arrivals r.ticks until k) here stands;
    }
