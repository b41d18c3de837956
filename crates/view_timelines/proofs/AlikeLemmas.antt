-- Rows of a picture after ticks in which the same is seen.
use Rattle.std.proofs.Common.{ℕ, zero, suc, ◌≡◌, ◌<◌, ◌≤◌, ◌+◌, ◌-◌, List, [], ◌∷◌, ◌++◌, length, ◌⊎◌, inl, inr, refl, sym, ap, ◌∙◌, subst, arith}
use Rattle.std.proofs.lemmas.List.{append_assoc, length-append}
use Rattle.osek_base.specs.System.{System}
use Rattle.seen_ticks.specs.declared.observation.Observation.{Observation}
use Rattle.seen_ticks.specs.Seen.{alike_ticks, numbered}
use Rattle.osek_base.specs.declared.trace_event.TraceEvent.{TraceEvent}
use Rattle.std.specs.Prelude.{OnOk}
use Rattle.std.specs.declared.result.Result.{Result}
use Rattle.view_timelines.specs.Rows.{AreRows, Picture}
use Rattle.view_timelines.specs.Marks.{AreMarks, LeaveNothing, Records, records_signs}
use Rattle.view_timelines.specs.RowSteps.{AreDrawn, ArePassed, Drawn, Passed}
use Rattle.view_timelines.proofs.TickLemmas.{AreOutside, tick_drawn, ticks_passed}
use Rattle.view_timelines.proofs.MarkLemmas.{tick_marked, ticks_unmarked}

alike_more : (o : Observation) (first n : ℕ) → alike_ticks o first (suc n) ≡ alike_ticks o first n ++ numbered (first + n) o ∷ []
alike_more o first zero = ap (λ t. numbered t o ∷ []) (omega arith)
alike_more o first (suc n) =
    let e : suc first + n ≡ first + suc n = omega arith in
    ap (λ ws. numbered first o ∷ ws)
    (alike_more o (suc first) n ∙ ap (λ t. alike_ticks o (suc first) n ++ numbered t o ∷ []) e)

alike_count : (o : Observation) (first n : ℕ) → length (alike_ticks o first n) ≡ n
alike_count o first zero = refl
alike_count o first (suc n) = ap suc (alike_count o (suc first) n)

one_more_alike : (o : Observation) (first tick : ℕ) (seen : List Observation) → first ≤ tick
    → (seen ++ alike_ticks o first (tick - first)) ++ numbered tick o ∷ [] ≡ seen ++ alike_ticks o first (tick + 1 - first)
one_more_alike o first tick seen begins =
    let e : tick + 1 - first ≡ suc (tick - first) = omega (arith, begins) in
    let there : first + (tick - first) ≡ tick = omega (arith, begins) in
    append_assoc seen (alike_ticks o first (tick - first)) (numbered tick o ∷ [])
    ∙ ap (λ ws. seen ++ ws) (ap (λ t. alike_ticks o first (tick - first) ++ numbered t o ∷ []) (sym there)
    ∙ sym (alike_more o first (tick - first)) ∙ ap (alike_ticks o first) (sym e))

-- the ticks from one on and before another are drawn, whose records leave nothing
pub record AreDrawnBelow (S : System) (o : Observation) (first tick : ℕ) (old new : Picture) : Type 0 where
  pub from : new.from ≡ old.from
  pub to : new.to ≡ old.to
  pub rows : (seen : List Observation) → length seen ≡ first → AreRows S seen old
      → AreRows S (seen ++ alike_ticks o first (tick - first)) new
  pub marks : (told : Records) (seen : List Observation) → length seen ≡ first
      → ((t : ℕ) → first ≤ t → t < tick → LeaveNothing (told t)) → AreMarks S told seen old
      → AreMarks S told (seen ++ alike_ticks o first (tick - first)) new

pub one_more_drawn : (S : System) (o : Observation) (first tick end : ℕ) (old middle new : Picture)
    → AreDrawn old first end → first ≤ tick → tick < end → AreDrawnBelow S o first tick old middle → Drawn S o [] tick middle new
    → AreDrawnBelow S o first (tick + 1) old new
one_more_drawn S o first tick end old middle new all begins ends below drawn =
    let range = all (omega (arith, begins, ends)) in
    let above : middle.from ≤ tick = omega (arith, below.from, range.0, begins) in
    let under : tick < middle.to = omega (arith, below.to, range.1, ends) in
    let so_far : List Observation → List Observation = λ seen. seen ++ alike_ticks o first (tick - first) in
    let count : (seen : List Observation) → length seen ≡ first → length (so_far seen) ≡ tick = λ seen counts.
    length-append seen (alike_ticks o first (tick - first)) ∙ omega (arith, alike_count o first (tick - first), counts, begins) in
    record {
      from = drawn.from ∙ below.from;
      to = drawn.to ∙ below.to;
      rows = λ seen counts are.
          subst (λ ws. AreRows S ws new) (one_more_alike o first tick seen begins)
          (tick_drawn S o [] tick middle new drawn above under (so_far seen) (count seen counts) (below.rows seen counts are));
      marks = λ told seen counts none are.
          subst (λ ws. AreMarks S told ws new) (one_more_alike o first tick seen begins)
          (tick_marked S o [] tick middle new drawn above under told (so_far seen) (count seen counts)
          (λ who. none tick begins (omega arith) who)
          (below.marks told seen counts (λ t from before. none t from (omega (arith, before))) are));
    }

outside : (from to first end n : ℕ) → first + suc n ≡ end → (end ≤ from) ⊎ (to ≤ first) → AreOutside from to first (suc n)
outside from to first end n e (inl before) = inl (omega (arith, e, before))
outside from to first end n e (inr behind) = inr behind

-- ticks that aren't drawn have passed
pub all_passed : (S : System) (o : Observation) (first end : ℕ) (old new : Picture) → ArePassed old first end → first < end → Passed o old new
    → (seen : List Observation) → length seen ≡ first → AreRows S seen old → AreRows S (seen ++ alike_ticks o first (end - first)) new
all_passed S o first end old new none some passed seen counts are =
    let n : ℕ = end - first - 1 in
    let e : suc n ≡ end - first = omega (arith, some) in
    let ends : first + suc n ≡ end = omega (arith, some) in
    let there : AreOutside old.from old.to (length seen) (suc n) =
    subst (λ m. AreOutside old.from old.to m (suc n)) (sym counts) (outside old.from old.to first end n ends (none some)) in
    subst (λ m. AreRows S (seen ++ alike_ticks o first m) new) e (ticks_passed S o first n old new passed seen there are)

pub all_unmarked : (S : System) (o : Observation) (first end : ℕ) (old new : Picture) → ArePassed old first end → first < end → Passed o old new
    → (told : Records) (seen : List Observation) → length seen ≡ first → AreMarks S told seen old
    → AreMarks S told (seen ++ alike_ticks o first (end - first)) new
all_unmarked S o first end old new none some passed told seen counts are =
    let within : AreOutside old.from old.to first (end - first) =
    elim (none some) [
      | inl before ↦ inl (omega (arith, before, some))
      | inr behind ↦ inr behind
    ] in
    ticks_unmarked S o first (end - first) old new passed told seen
    (subst (λ m. AreOutside old.from old.to m (end - first)) (sym counts) within) are

-- one tick has passed
one_outside : (from to tick count : ℕ) → (tick < from) ⊎ (to ≤ tick) → count ≡ tick → AreOutside from to count 1
one_outside from to tick count (inl before) counts = inl (omega (arith, before, counts))
one_outside from to tick count (inr behind) counts = inr (omega (arith, behind, counts))

pub one_passed : (S : System) (o : Observation) (old new : Picture) → (o.tick < old.from) ⊎ (old.to ≤ o.tick) → Passed o old new
    → (seen : List Observation) → length seen ≡ o.tick → AreRows S seen old → AreRows S (seen ++ o ∷ []) new
one_passed S o old new none passed seen counts are =
    ticks_passed S o o.tick 0 old new passed seen (one_outside old.from old.to o.tick (length seen) none counts) are

pub one_unmarked : (S : System) (o : Observation) (old new : Picture) → (o.tick < old.from) ⊎ (old.to ≤ o.tick) → Passed o old new
    → (told : Records) (seen : List Observation) → length seen ≡ o.tick → AreMarks S told seen old → AreMarks S told (seen ++ o ∷ []) new
one_unmarked S o old new none passed told seen counts are =
    ticks_unmarked S o o.tick 1 old new passed told seen (one_outside old.from old.to o.tick (length seen) none counts) are

-- one tick is drawn, or memory is wanting
pub drawn_where_ok : {T E : Type 0} (S : System) (o : Observation) (records : List TraceEvent) (old new : Picture) (answer : Result T E)
    → OnOk answer (Drawn S o records o.tick old new) → old.from ≤ o.tick → o.tick < old.to
    → (seen : List Observation) → length seen ≡ o.tick → AreRows S seen old → OnOk answer (AreRows S (seen ++ o ∷ []) new)
drawn_where_ok S o records old new (Result.Ok x) drawn begins ends seen counts are =
    tick_drawn S o records o.tick old new drawn begins ends seen counts are
drawn_where_ok S o records old new (Result.Err e) drawn begins ends seen counts are = tt

pub marked_where_ok : {T E : Type 0} (S : System) (o : Observation) (records : List TraceEvent) (old new : Picture) (answer : Result T E)
    → OnOk answer (Drawn S o records o.tick old new) → old.from ≤ o.tick → o.tick < old.to
    → (told : Records) (seen : List Observation) → length seen ≡ o.tick → told o.tick ≡ records → AreMarks S told seen old
    → OnOk answer (AreMarks S told (seen ++ o ∷ []) new)
marked_where_ok S o records old new (Result.Ok x) drawn begins ends told seen counts is are =
    tick_marked S o records o.tick old new drawn begins ends told seen counts (λ who. ap (λ es. records_signs es who) is) are
marked_where_ok S o records old new (Result.Err e) drawn begins ends told seen counts is are = tt

alike_append : (o : Observation) (first n m : ℕ)
    → alike_ticks o first (n + m) ≡ alike_ticks o first n ++ alike_ticks o (first + n) m
alike_append o first zero m =
    let none : 0 + m ≡ m = omega arith in
    let e : first ≡ first + 0 = omega arith in
    ap (alike_ticks o first) none ∙ ap (λ t. alike_ticks o t m) e
alike_append o first (suc n) m =
    let more : suc n + m ≡ suc (n + m) = omega arith in
    let e : suc first + n ≡ first + suc n = omega arith in
    ap (alike_ticks o first) more ∙ ap (λ ws. numbered first o ∷ ws)
    (alike_append o (suc first) n m ∙ ap (λ t. alike_ticks o (suc first) n ++ alike_ticks o t m) e)

-- ticks from a on and before b, and from there on and before e, are those from a on and before e
pub joined : (o : Observation) (a b e : ℕ) (seen : List Observation) → a ≤ b → b ≤ e
    → (seen ++ alike_ticks o a (b - a)) ++ alike_ticks o b (e - b) ≡ seen ++ alike_ticks o a (e - a)
joined o a b e seen first second =
    let count : (b - a) + (e - b) ≡ e - a = omega (arith, first, second) in
    let there : a + (b - a) ≡ b = omega (arith, first) in
    append_assoc seen (alike_ticks o a (b - a)) (alike_ticks o b (e - b))
    ∙ ap (λ ws. seen ++ ws) (ap (λ t. alike_ticks o a (b - a) ++ alike_ticks o t (e - b)) (sym there)
    ∙ sym (alike_append o a (b - a) (e - b)) ∙ ap (alike_ticks o a) count)

pub reaches : (o : Observation) (a b : ℕ) (seen : List Observation) → a ≤ b → length seen ≡ a
    → length (seen ++ alike_ticks o a (b - a)) ≡ b
reaches o a b seen le counts =
    length-append seen (alike_ticks o a (b - a)) ∙ omega (arith, alike_count o a (b - a), counts, le)
