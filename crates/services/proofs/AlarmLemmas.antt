-- What is kept after a service on alarms.
use Rattle.std.proofs.Common.{◌≡◌, ℕ, refl, ◌∙◌, ap}
use Rattle.std.specs.Prelude.{List, Option, Some, None}
use Rattle.osek_base.specs.declared.instr.Service.{Service}
use Rattle.osek_base.specs.declared.task.Counter.{Counter}
use Rattle.osek_base.specs.declared.status.Status.{Status}
use Rattle.osek_base.specs.State.{State}
use Rattle.osek_base.specs.Service.{NobodyCalls, changed}
use Rattle.alarms.specs.Alarms.{AlarmTable, HavePassed, IsTableOf, after_call, refusal, state_of, status_of}
use Rattle.law_kept.specs.KeptService.{caller_in, changed_in, unasked_in}
use Rattle.services.specs.Objects.{Objects, kept_in}
use Rattle.services.specs.Calls.{unasked}
use Rattle.services.specs.Quiet.{HasPassed}

abbrev pub table : List Counter → Objects → AlarmTable
table counters o = record { expiries = o.alarms; counters = counters; tick = o.tick }

pub cancelled_status : (cs : List Counter) (o : Objects) (a : ℕ) → status_of o.system (table cs o) (Service.CancelAlarm (Some a)) ≡ (unasked o (Service.CancelAlarm (Some a))).status
unfolding unasked_in
cancelled_status cs o a = refl

pub cancelled_kept : (cs : List Counter) (o : Objects) (a : ℕ) (t : AlarmTable) → t ≡ after_call o.system (table cs o) (Service.CancelAlarm (Some a))
    → kept_in (record o { alarms = t.expiries; tick = t.tick }) ≡ (unasked o (Service.CancelAlarm (Some a))).state
unfolding unasked_in
cancelled_kept cs o a t e =
    ap (λ (u : AlarmTable). kept_in (record o { alarms = u.expiries; tick = u.tick })) e
    ∙ go (refusal o.system (table cs o) (Service.CancelAlarm (Some a)))
  where
    go : (x : Option Status)
        → kept_in (record o { alarms = (changed o.system NobodyCalls (state_of o.system (table cs o)) (Service.CancelAlarm (Some a)) x).alarms })
        ≡ changed_in o.system (caller_in (kept_in o)) (kept_in o) (Service.CancelAlarm (Some a)) x
    go None = refl
    go (Some refusal) = refl

pub set_kept : (cs : List Counter) (o : Objects) (a x y : ℕ) (t : AlarmTable)
    → t ≡ after_call o.system (table cs o) (Service.SetRelAlarm (Some a) x y)
    → kept_in (record o { alarms = t.expiries; tick = t.tick }) ≡ (unasked o (Service.SetRelAlarm (Some a) x y)).state
unfolding unasked_in
set_kept cs o a x y t e =
    ap (λ (u : AlarmTable). kept_in (record o { alarms = u.expiries; tick = u.tick })) e
    ∙ go (refusal o.system (table cs o) (Service.SetRelAlarm (Some a) x y))
  where
    before : State
    before = state_of o.system (table cs o)

    go : (r : Option Status)
        → kept_in (record o { alarms = (changed o.system NobodyCalls before (Service.SetRelAlarm (Some a) x y) r).alarms })
        ≡ changed_in o.system (caller_in (kept_in o)) (kept_in o) (Service.SetRelAlarm (Some a) x y) r
    go None = refl
    go (Some refusal) = refl

pub set_abs_kept : (cs : List Counter) (o : Objects) (a x y : ℕ) (t : AlarmTable)
    → t ≡ after_call o.system (table cs o) (Service.SetAbsAlarm (Some a) x y)
    → kept_in (record o { alarms = t.expiries; tick = t.tick }) ≡ (unasked o (Service.SetAbsAlarm (Some a) x y)).state
unfolding unasked_in
set_abs_kept cs o a x y t e =
    ap (λ (u : AlarmTable). kept_in (record o { alarms = u.expiries; tick = u.tick })) e
    ∙ go (refusal o.system (table cs o) (Service.SetAbsAlarm (Some a) x y))
  where
    before : State
    before = state_of o.system (table cs o)

    go : (r : Option Status)
        → kept_in (record o { alarms = (changed o.system NobodyCalls before (Service.SetAbsAlarm (Some a) x y) r).alarms })
        ≡ changed_in o.system (caller_in (kept_in o)) (kept_in o) (Service.SetAbsAlarm (Some a) x y) r
    go None = refl
    go (Some refusal) = refl

-- ticks in which no alarm is due
pub ticks_passed : (cs : List Counter) (o : Objects) (n : ℕ) (t : AlarmTable) → IsTableOf o.system (table cs o) → HavePassed n (table cs o) t
    → HasPassed n o (record o { alarms = t.expiries; tick = t.tick })
ticks_passed cs o n t sized passed = record {
  none = passed.none o.system sized;
  after = ap (λ (u : AlarmTable). record o { alarms = u.expiries; tick = u.tick }) passed.after;
}
