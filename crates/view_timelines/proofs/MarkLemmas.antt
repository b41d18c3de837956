-- Marks of a picture after one more tick.
use Rattle.std.proofs.Common.{ℕ, zero, suc, ◌≡◌, ◌<◌, ◌≤◌, List, [], ◌∷◌, ◌++◌, length, get_or, refl, sym, ap, ◌∙◌, subst, arith}
use Rattle.std.specs.List.{flat_map}
use Rattle.std.proofs.lemmas.Grind.{flat_map-append}
use Rattle.std.proofs.lemmas.List.{append_assoc, append-nil}
use Rattle.osek_base.specs.declared.ids.Owner.{Owner}
use Rattle.osek_base.specs.declared.trace_event.TraceEvent.{TraceEvent}
use Rattle.osek_base.specs.System.{System}
use Rattle.seen_ticks.specs.declared.observation.Observation.{Observation}
use Rattle.seen_ticks.specs.Seen.{alike_ticks, numbered}
use Rattle.view_timelines.specs.declared.mark.Mark.{Mark}
use Rattle.view_timelines.specs.Rows.{Kept, Picture, drawn, nothing_kept}
use Rattle.view_timelines.specs.Marks.{AreMarks, Records, alarms_signs, marks_of, records_signs, routine_came, row_marks, task_came, tick_marks, tick_signs}
use Rattle.view_timelines.specs.RowSteps.{AreChanged, Drawn, Passed, begun_kept, routine_more, task_more}
use Rattle.view_timelines.proofs.TickLemmas.{AreOutside, drawn_inside, drawn_outside, length_more, next_outside, one_outside}

-- where marks are added to what stood at each number
more_marked : (change : ℕ → Kept → Kept) (more was now : ℕ → List Mark) (old new : List Kept)
    → ((k : ℕ) (kept : Kept) → (change k kept).marks ≡ kept.marks ++ more k) → ((k : ℕ) → was k ++ more k ≡ now k)
    → AreChanged change old new → ((k : ℕ) → k < length old → (get_or old k nothing_kept).marks ≡ was k)
    → (k : ℕ) → k < length new → (get_or new k nothing_kept).marks ≡ now k
more_marked change more was now old new adds joined changed are k low =
    let there : k < length old = subst (λ n. k < n) changed.count low in
    ap (λ (x : Kept). x.marks) (changed.each k there) ∙ adds k (get_or old k nothing_kept) ∙ ap (λ ms. ms ++ more k) (are k there) ∙ joined k

-- and where none are
still_marked : (change : ℕ → Kept → Kept) (was now : ℕ → List Mark) (old new : List Kept)
    → ((k : ℕ) (kept : Kept) → (change k kept).marks ≡ kept.marks) → ((k : ℕ) → was k ≡ now k)
    → AreChanged change old new → ((k : ℕ) → k < length old → (get_or old k nothing_kept).marks ≡ was k)
    → (k : ℕ) → k < length new → (get_or new k nothing_kept).marks ≡ now k
still_marked change was now old new stay same changed are k low =
    let there : k < length old = subst (λ n. k < n) changed.count low in
    ap (λ (x : Kept). x.marks) (changed.each k there) ∙ stay k (get_or old k nothing_kept) ∙ are k there ∙ same k

module _ (S : System) (told : Records) (from to : ℕ) (who : Owner) where
  -- behind a tick that is drawn
  marks_inside : (seen : List Observation) (o : Observation) → from ≤ length seen → length seen < to
      → row_marks S told from to seen who ++ tick_marks S told who o ≡ row_marks S told from to (seen ++ o ∷ []) who
  marks_inside seen o begins ends =
      let f : Observation → List Mark = tick_marks S told who in
      sym (ap (flat_map f) (drawn_inside from to seen o begins ends)
      ∙ flat_map-append f (drawn from to seen) (o ∷ [])
      ∙ ap (λ ms. flat_map f (drawn from to seen) ++ ms) (append-nil (f o)))

  -- behind some that aren't
  marks_outside : (o : Observation) (n tick : ℕ) (seen : List Observation) → AreOutside from to (length seen) n
      → row_marks S told from to seen who ≡ row_marks S told from to (seen ++ alike_ticks o tick n) who
  marks_outside o zero tick seen outside = ap (λ ws. row_marks S told from to ws who) (sym (append-nil seen))
  marks_outside o (suc n) tick seen outside =
      let more : List Observation = seen ++ numbered tick o ∷ [] in
      let rest : AreOutside from to (length more) n =
      subst (λ m. AreOutside from to m n) (sym (length_more seen (numbered tick o))) (next_outside from to (length seen) n outside) in
      sym (ap (flat_map (tick_marks S told who)) (drawn_outside from to seen (numbered tick o) (one_outside from to (length seen) n outside)))
      ∙ marks_outside o n (suc tick) more rest
      ∙ ap (λ ws. row_marks S told from to ws who) (append_assoc seen (numbered tick o ∷ []) (alike_ticks o (suc tick) n))

-- a tick more is drawn, which has these records, or others that leave the same
pub tick_marked : (S : System) (o : Observation) (records : List TraceEvent) (tick : ℕ) (old new : Picture)
    → Drawn S o records tick old new → old.from ≤ tick → tick < old.to
    → (told : Records) (seen : List Observation) → length seen ≡ tick
    → ((who : Owner) → records_signs (told tick) who ≡ records_signs records who)
    → AreMarks S told seen old → AreMarks S told (seen ++ numbered tick o ∷ []) new
tick_marked S o records tick old new drawn begins ends told seen counts same are =
    let begins' : old.from ≤ length seen = omega (arith, counts, begins) in
    let ends' : length seen < old.to = omega (arith, counts, ends) in
    record {
      tasks = rw (drawn.from, drawn.to) (more_marked (task_more S o records tick)
          (λ k. marks_of tick (tick_signs S o records (Owner.Task k)))
          (λ k. row_marks S told old.from old.to seen (Owner.Task k))
          (λ k. row_marks S told old.from old.to (seen ++ numbered tick o ∷ []) (Owner.Task k)) old.tasks new.tasks
          (λ k kept. refl)
          (λ k.
          ap (λ xs. row_marks S told old.from old.to seen (Owner.Task k) ++ marks_of tick (task_came o k ++ alarms_signs S o k ++ xs))
          (sym (same (Owner.Task k)))
          ∙ marks_inside S told old.from old.to (Owner.Task k) seen (numbered tick o) begins' ends')
          drawn.tasks are.tasks);
      routines = rw (drawn.from, drawn.to) (more_marked (routine_more S o records tick)
          (λ k. marks_of tick (tick_signs S o records (Owner.Routine k)))
          (λ k. row_marks S told old.from old.to seen (Owner.Routine k))
          (λ k. row_marks S told old.from old.to (seen ++ numbered tick o ∷ []) (Owner.Routine k)) old.routines new.routines
          (λ k kept. refl)
          (λ k.
          ap (λ xs. row_marks S told old.from old.to seen (Owner.Routine k) ++ marks_of tick (routine_came o k ++ xs))
          (sym (same (Owner.Routine k)))
          ∙ marks_inside S told old.from old.to (Owner.Routine k) seen (numbered tick o) begins' ends')
          drawn.routines are.routines);
    }

-- ticks that aren't drawn pass
pub ticks_unmarked : (S : System) (o : Observation) (tick n : ℕ) (old new : Picture) → Passed o old new
    → (told : Records) (seen : List Observation) → AreOutside old.from old.to (length seen) n → AreMarks S told seen old
    → AreMarks S told (seen ++ alike_ticks o tick n) new
ticks_unmarked S o tick n old new passed told seen outside are = record {
  tasks = rw (passed.from, passed.to) (still_marked (begun_kept o) (λ k. row_marks S told old.from old.to seen (Owner.Task k))
      (λ k. row_marks S told old.from old.to (seen ++ alike_ticks o tick n) (Owner.Task k)) old.tasks new.tasks
      (λ k kept. refl)
      (λ k. marks_outside S told old.from old.to (Owner.Task k) o n tick seen outside) passed.tasks are.tasks);
  routines = rw (passed.from, passed.to, passed.routines) (λ k low.
      are.routines k low ∙ marks_outside S told old.from old.to (Owner.Routine k) o n tick seen outside);
}
