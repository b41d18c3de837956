-- What a kernel tells of the alarms of a tick is what the definitions say.
use Rattle.std.proofs.Common.{◌≡◌, ℕ, ◌+◌, ◌<◌, List, [], ◌∷◌, ◌++◌, take, get_or, length, sym, ◌∙◌, ap, ap₂, append_assoc}
use Rattle.std.proofs.lemmas.List.{append-nil, take_more}
use Rattle.osek_base.specs.declared.arrivals.Arrival.{Arrival}
use Rattle.osek_base.specs.declared.status.Status.{Status}
use Rattle.osek_base.specs.declared.trace_event.TraceEvent.{TraceEvent}
use Rattle.osek_base.specs.Alarm.{due_alarms}
use Rattle.osek_base.specs.Proper.{IsProper}
use Rattle.osek_base.specs.System.{System}
use Rattle.osek_base.specs.Trace.{run}
use Rattle.law_kept.specs.Kept.{Kept, kept}
use Rattle.law_kept.specs.KeptService.{bare}
use Rattle.law_kept.specs.KeptTick.{advanced_in, alarms_act_in}
use Rattle.seen_ticks.specs.Told.{acting_in, due_in, if_refused, refused_of_in}
use Rattle.seen_ticks.proofs.ToldLemmas.{refused_told}
use Rattle.kernel.specs.declared.acted.Acted.{Acted}
use Rattle.kernel.specs.Does.{Becomes, Does}
use Rattle.kernel.specs.Processor.{IsBefore, Processor, at_tick, clocked, picture, system_of}
use Rattle.kernel.specs.Told.{acted_at, acted_in}
use Rattle.kernel.proofs.ActLemmas.{clocked_is}
use Rattle.kernel.proofs.AlarmLemmas.{nothing_due}

-- ---- refused actions

-- one more at the end
refused_last : (S : System) (xs : List ℕ) (a : ℕ) (o : Kept)
    → refused_of_in S xs o ++ if_refused a (acting_in S a (alarms_act_in S xs o).state).status ≡ refused_of_in S (xs ++ a ∷ []) o
refused_last S [] a o = sym (append-nil (if_refused a (acting_in S a o).status))
refused_last S (x ∷ xs) a o =
    append_assoc (if_refused x (acting_in S x o).status) (refused_of_in S xs (acting_in S x o).state) _
    ∙ ap (λ v. if_refused x (acting_in S x o).status ++ v) (refused_last S xs a (acting_in S x o).state)

pub refused_more : (due : List ℕ) (i : ℕ) (a b : Processor) (first : List TraceEvent) → Does (λ S. alarms_act_in S (take i due)) a b [] first
    → i < length due → (refused : List ℕ) → refused ≡ refused_of_in (system_of a) (take i due) (picture a)
    → (status : Status) → status ≡ (acting_in (system_of b) (get_or due i 0) (picture b)).status
    → refused ++ if_refused (get_or due i 0) status ≡ refused_of_in (system_of a) (take (i + 1) due) (picture a)
refused_more due i a b first some low refused so_far status is =
    ap₂ (λ v s. v ++ if_refused (get_or due i 0) s) so_far
    (is ∙ ap₂ (λ S o. (acting_in S (get_or due i 0) o).status) some.system some.kept)
    ∙ refused_last (system_of a) (take i due) (get_or due i 0) (picture a)
    ∙ ap (λ v. refused_of_in (system_of a) v (picture a)) (sym (take_more due i 0 low))

abbrev pub both : List ℕ → List ℕ → Acted
both due refused = record { due = due; refused = refused }

-- the alarms of a phase behind the first tick
pub phase_acted : (w advanced : Processor) (tick : ℕ) (due refused : List ℕ) → IsBefore tick w → 0 < tick
    → due ≡ due_alarms (system_of w) (bare (picture (clocked w))) → Becomes advanced_in (clocked w) advanced
    → refused ≡ refused_of_in (system_of advanced) due (picture advanced)
    → both due refused ≡ acted_in (system_of w) (picture (at_tick w tick))
phase_acted w advanced tick due refused h later due_is becomes refused_is =
    ap₂ both due_is
    (refused_is ∙ ap₂ (λ S (o : Kept). refused_of_in S due o) becomes.system becomes.kept
    ∙ ap (λ v. refused_of_in (system_of w) v (advanced_in (system_of w) (picture (clocked w)))) due_is)
    ∙ sym (ap (λ (m : Processor). acted_in (system_of m) (picture m)) (clocked_is w tick h later))

-- none in the first tick
pub first_acted : (w : Processor) (tick : ℕ) → IsBefore tick w → tick ≡ 0 → both [] [] ≡ acted_in (system_of w) (picture (at_tick w tick))
first_acted w tick h zero_is =
    sym (ap (λ v. both v (refused_of_in (system_of w) v (advanced_in (system_of w) (picture (at_tick w tick)))))
    (nothing_due (system_of w) (bare (picture (at_tick w tick))) zero_is h.alarms (h.ahead zero_is)))

-- ---- of a run

-- the alarms that act in a tick
pub acted_told : (S : System) (proper : IsProper S) (mode : ℕ) (arrivals : List Arrival) (n : ℕ)
    → acted_in S (kept S (run S mode arrivals n).state) ≡ acted_at S mode arrivals n
acted_told S proper mode arrivals n = ap (both (due_in S mode arrivals n)) (refused_told S proper mode arrivals n)
