-- Marks that are added to rows, some behind others.
use Rattle.std.proofs.Common.{ℕ, ◌≡◌, ◌<◌, ◌+◌, List, [], ◌∷◌, ◌++◌, get_or, refl, sym, ap, ◌∙◌, subst, add-one}
use Rattle.std.specs.List.{flat_map}
use Rattle.std.proofs.lemmas.Grind.{flat_map-append}
use Rattle.std.proofs.lemmas.List.{append_assoc, append-nil, map-append}
use Rattle.osek_base.specs.declared.ids.Owner.{Owner}
use Rattle.osek_base.specs.declared.trace_event.TraceEvent.{TraceEvent}
use Rattle.osek_base.specs.Lists.{below}
use Rattle.osek_base.specs.System.{System}
use Rattle.seen_ticks.specs.declared.observation.Observation.{Observation}
use Rattle.seen_ticks.specs.Seen.{alarm_seen}
use Rattle.view_timelines.specs.declared.mark.Sign.{Sign}
use Rattle.view_timelines.specs.Rows.{Kept, nothing_kept}
use Rattle.view_timelines.specs.Marks.{alarm_signs, alarms_signs, marks_of, of_tick, records_signs, routine_came, task_came}
use Rattle.view_timelines.specs.RowSteps.{AreChanged, AreSigned, begun_kept, routine_drawn, routine_met, routine_more, signed, task_drawn, task_met, task_more}

pub signed_twice : (tick : ℕ) (xs ys : List Sign) (kept : Kept) → signed tick ys (signed tick xs kept) ≡ signed tick (xs ++ ys) kept
signed_twice tick xs ys kept =
    ap (λ ms. record kept { marks = ms })
    (append_assoc kept.marks (marks_of tick xs) (marks_of tick ys)
    ∙ ap (λ ms. kept.marks ++ ms) (sym (map-append (of_tick tick) xs ys)))

-- one change after another
pub then_changed : (first second both : ℕ → Kept → Kept) (old middle new : List Kept)
    → ((k : ℕ) (kept : Kept) → second k (first k kept) ≡ both k kept) → AreChanged first old middle → AreChanged second middle new
    → AreChanged both old new
then_changed first second both old middle new joined a b = record {
  count = b.count ∙ a.count;
  each = λ k low.
      b.each k (subst (λ n. k < n) (sym a.count) low) ∙ ap (second k) (a.each k low) ∙ joined k (get_or old k nothing_kept);
}

pub more_signed : (tick : ℕ) (first second both : ℕ → List Sign) (old middle new : List Kept)
    → ((k : ℕ) → first k ++ second k ≡ both k) → AreSigned tick first old middle → AreSigned tick second middle new
    → AreSigned tick both old new
more_signed tick first second both old middle new joined =
    then_changed _ _ _ old middle new
    (λ k kept. signed_twice tick (first k) (second k) kept ∙ ap (λ xs. signed tick xs kept) (joined k))

-- one alarm more
one_more : {X : Type 0} (f : X → List Sign) (xs : List X) (x : X) → flat_map f xs ++ f x ≡ flat_map f (xs ++ x ∷ [])
one_more f xs x = sym (flat_map-append f xs (x ∷ []) ∙ ap (λ ys. flat_map f xs ++ ys) (append-nil (f x)))

-- the alarms below n
abbrev pub first_alarms : System → Observation → ℕ → ℕ → List Sign
first_alarms S o n k = flat_map (λ a. alarm_signs S a (alarm_seen o a) k) (below n)

pub one_more_alarm : (S : System) (o : Observation) (tick n : ℕ) (old middle new : List Kept) → AreSigned tick (first_alarms S o n) old middle
    → AreSigned tick (alarm_signs S n (alarm_seen o n)) middle new → AreSigned tick (first_alarms S o (n + 1)) old new
one_more_alarm S o tick n old middle new a b =
    more_signed tick (first_alarms S o n) (alarm_signs S n (alarm_seen o n)) (first_alarms S o (n + 1)) old middle new
    (λ k. one_more (λ a. alarm_signs S a (alarm_seen o a) k) (below n) n
    ∙ ap (λ m. flat_map (λ a. alarm_signs S a (alarm_seen o a) k) (below m)) (sym (add-one n))) a b

-- all that a tick that is drawn changes
pub task_all : (S : System) (o : Observation) (records : List TraceEvent) (tick : ℕ) (one two three four five : List Kept)
    → AreChanged (task_met S o tick) one two → AreSigned tick (alarms_signs S o) two three
    → AreSigned tick (λ k. records_signs records (Owner.Task k)) three four → AreChanged (begun_kept o) four five
    → AreChanged (task_more S o records tick) one five
task_all S o records tick one two three four five met alarms told begun =
    then_changed (task_met S o tick) (λ k kept. begun_kept o k (signed tick (alarms_signs S o k ++ records_signs records (Owner.Task k)) kept))
    (task_more S o records tick) one two five
    (λ k kept.
    ap (begun_kept o k)
    (signed_twice tick (task_came o k) (alarms_signs S o k ++ records_signs records (Owner.Task k)) (task_drawn S o tick k kept)
    ∙ ap (λ xs. signed tick xs (task_drawn S o tick k kept))
    (sym (append_assoc (task_came o k) (alarms_signs S o k) (records_signs records (Owner.Task k))))))
    met
    (then_changed (λ k. signed tick (alarms_signs S o k ++ records_signs records (Owner.Task k))) (begun_kept o) _ two four five (λ k kept. refl)
    (more_signed tick (alarms_signs S o) (λ k. records_signs records (Owner.Task k)) _ two three four (λ k. refl) alarms told) begun)

pub routine_all : (S : System) (o : Observation) (records : List TraceEvent) (tick : ℕ) (one two three : List Kept)
    → AreChanged (routine_met S o tick) one two → AreSigned tick (λ k. records_signs records (Owner.Routine k)) two three
    → AreChanged (routine_more S o records tick) one three
routine_all S o records tick one two three =
    then_changed (routine_met S o tick) (λ k. signed tick (records_signs records (Owner.Routine k))) (routine_more S o records tick)
    one two three
    (λ k kept. signed_twice tick (routine_came o k) (records_signs records (Owner.Routine k)) (routine_drawn S o tick k kept))
