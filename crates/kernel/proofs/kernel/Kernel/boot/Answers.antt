use Rattle.std.proofs.Common.{◌≡◌, refl, sym, ◌∙◌, ap, arith, subst, map, List}
use Rattle.osek_base.specs.declared.arrivals.Arrival.{Arrival}
use Rattle.osek_base.specs.ArrivalList.{is_arrival_list}
use Rattle.osek_base.specs.System.{System}
use Rattle.kernel.specs.Machine.{HasCome, next_tick}
use Rattle.kernel.specs.Progress.{AreLeft}
use Rattle.kernel.proofs.ArrivalLemmas.{all_left}
use Rattle.kernel.proofs.kernel.Kernel.boot.Goals as goal

pub invariant_of-result : goal.invariant_of-result
invariant_of-result g c =
    let b = c.in_ok-machine.ensures in
    let m = c.in_ok-machine.machine in
    record {
      proper = c.names.ensures.proper;
      known = c.requires;
      routines = c.in_ok-routines.ensures ∙ ap (λ (xs : List Arrival). map (λ (a : Arrival). a.routine) xs) c.list.ensures.value;
      left =
          subst (λ n. AreLeft c.args.arrivals 0 n) (sym b.first)
          (all_left c.args.arrivals (sym (ap is_arrival_list c.arrivals.view_is) ∙ c.arrivals.invariant));
      first = λ none. refl;
      ahead = λ later. let none : next_tick m ≡ 0 = b.first in absurd (omega (arith, later, none));
      last = λ later. let none : next_tick m ≡ 0 = b.first in absurd (omega (arith, later, none));
      forward = omega arith;
      come = subst (λ (T : System). HasCome g.B.Blockers.are_counted T c.in-Some.mode c.args.arrivals (next_tick m) m) b.system (b.begins c.args.arrivals);
    }
