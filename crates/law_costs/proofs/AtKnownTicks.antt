-- Costs that pay bound responses by known ticks of alarms.
use Rattle.std.specs.Prelude.{ℕ, List}
use Rattle.osek_base.specs.declared.arrivals.Arrival.{Arrival}
use Rattle.osek_base.specs.Proper.{IsProper}
use Rattle.osek_base.specs.System.{System}
use Rattle.osek_base.specs.Trace.{run}
use Rattle.law_windows.specs.Expiring.{IsCountedButForAlarms}
use Rattle.law_windows.proofs.AtExpiries.{expiries_bound_responses}
use Rattle.law_windows.proofs.AtKnownTicks.{known_ticks_bound_responses}
use Rattle.law_windows.proofs.Phases.{phases_make_a_potential}
use Rattle.law_costs.specs.KnownTicks.{CostsBoundAtExpiries, CostsBoundAtKnownTicks}
use Rattle.law_costs.specs.Known.{Known, StaysKnown, at_instruction}
use Rattle.law_costs.specs.Laws.{Pay}
use Rattle.law_costs.specs.Left.{Weights, left}
use Rattle.law_costs.specs.Setting.{AreKnownNoSooner}
use Rattle.law_costs.proofs.Falls.{costs_fall_by_phases}
use Rattle.law_costs.proofs.KnownSetting.{set_no_sooner}

-- what is left is a potential of each run
counted : (S : System) (mode : ℕ) (arrivals : List Arrival) (p : ℕ) (c : Weights) (known : Known)
    (least : ℕ → ℕ) → IsProper S → StaysKnown S known → Pay S mode p c known
    → AreKnownNoSooner S mode c.costs known least
    → IsCountedButForAlarms S mode arrivals p c.costs least
counted S mode arrivals p c known least proper stays pay later = record {
  left = λ n. left S p c (run S mode arrivals n).state;
  potential =
      phases_make_a_potential S mode arrivals p c.costs
      (λ n. left S p c (run S mode arrivals n).state)
      (λ n. left S p c (at_instruction S mode arrivals n))
      (costs_fall_by_phases S mode arrivals p c known proper stays pay);
  sooner = set_no_sooner S mode arrivals known proper stays c.costs least later;
}

pub costs_bound_at_known_ticks : CostsBoundAtKnownTicks
costs_bound_at_known_ticks S mode rules p c known least most first round proper stays pay later
    rounds at =
    known_ticks_bound_responses S mode rules p c.costs least most first round proper rounds at
    (λ arrivals keep. counted S mode arrivals p c known least proper stays pay later)

pub costs_bound_at_expiries : CostsBoundAtExpiries
costs_bound_at_expiries S mode rules p c known least most first round proper stays pay later rounds
    at =
    expiries_bound_responses S mode rules p c.costs least most first round proper rounds at
    (λ arrivals keep. counted S mode arrivals p c known least proper stays pay later)
