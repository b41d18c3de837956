use Rattle.std.proofs.Common.{◌≡◌, ◌+◌, length, sym, ◌∙◌, ap, subst, arith}
use Rattle.std.specs.Prelude.{Some}
use Rattle.std.specs.List.{filter}
use Rattle.osek_base.specs.declared.instr.Service.{Service}
use Rattle.osek_base.specs.Lists.{below}
use Rattle.osek_base.specs.System.{starts_in}
use Rattle.law_kept.specs.KeptService.{ByNobody, unasked_in}
use Rattle.osek_base.specs.Trace.{starting_alarms}
use Rattle.law_kept.specs.Kept.{Kept}
use Rattle.law_kept.specs.KeptTick.{all_activated_in, begun_in, still_in}
use Rattle.services.specs.Objects.{Objects, kept_in}
use Rattle.kernel.proofs.StartLemmas.{AreStarting, starting_none, starting_more, starting_same}
use Rattle.kernel.proofs.boot.started.Goals as goal
use Rattle.kernel.proofs.boot.started.Goals.{then-starts_in, else-starts_in}

pub start_alarms-requires : goal.start_alarms-requires
start_alarms-requires g c = ap (λ (k : Kept). k.tick) c.in_ok-core.ensures.kept

pub loop-number-init : goal.loop-number-init
loop-number-init g c =
    let S = c.args.system.now in
    let o : Objects = c.in_ok-core.core in
    let n : Objects = c.start_alarms.new.self in
    record {
      system = ap (λ (x : Objects). x.system) c.start_alarms.ensures ∙ c.in_ok-core.ensures.system;
      starting = starting_none S c.args.mode (kept_in n)
          (ap kept_in c.start_alarms.ensures
          ∙ ap (λ (k : Kept). record k { alarms = starting_alarms o.system c.args.mode }) c.in_ok-core.ensures.kept
          ∙ ap (λ T. record (still_in S) { alarms = starting_alarms T c.args.mode }) c.in_ok-core.ensures.system);
    }

pub loop-number-preserved : goal.loop-number-preserved
loop-number-preserved g c =
    let S = c.args.system.now in
    let o : Objects = c.loop-number.core in
    let v = c.loop-number.invariant in
    let n = c.loop-number.number in
    let says = sym (c.starts_in.ensures ∙ ap (starts_in S c.args.mode) c.new-task.ensures) in
    elim c.if-starts_in.branch [
      | then-starts_in w ↦
          (let a : Objects = w.activate-status.new.self in
          subst (λ (x : Objects). record {
            system : x.system ≡ S;
            starting : AreStarting S c.args.mode (n + 1) (kept_in x);
          }) (sym w.core-is) (record {
            system = w.activate-status.ensures.system ∙ v.system;
            starting = starting_more S c.args.mode n (kept_in o) (kept_in a) v.starting c.requires
                (omega (arith, c.loop-number-test.true, c.task_count-number-end.ensures.value)) (says ∙ w.if-starts_in.true)
                (w.activate-status.ensures.kept ∙ ap (λ t. (unasked_in o.system ByNobody (kept_in o) (Service.ActivateTask (Some t))).state) c.new-task.ensures
                ∙ ap (λ T. (unasked_in T ByNobody (kept_in o) (Service.ActivateTask (Some n))).state) v.system);
          }))
      | else-starts_in w ↦
          subst (λ (x : Objects). record {
            system : x.system ≡ S;
            starting : AreStarting S c.args.mode (n + 1) (kept_in x);
          }) (sym w.core-is) (record {
            system = v.system;
            starting = starting_same S c.args.mode n (kept_in o) v.starting (says ∙ w.if-starts_in.false);
          })
    ]

pub returns : goal.returns
returns g c =
    let S = c.args.system.now in
    let v = c.loop-number.invariant in
    let n : c.loop-number.number ≡ length S.tasks = omega (arith, c.loop-number-test.false, c.loop-number.auto.number-end, c.task_count-number-end.ensures.value) in
    record {
      system = v.system;
      kept =
          v.starting.kept ∙ ap (λ k. all_activated_in S (filter (starts_in S c.args.mode) (below k)) (begun_in S c.args.mode)) n;
    }
