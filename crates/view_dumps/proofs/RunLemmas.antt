-- Ticks in which the same is seen are handed on at once as one after another.
use Rattle.std.proofs.Common.{◌≡◌, ℕ, zero, suc, ◌+◌, ◌<◌, ◌≤◌, max, nat_lt, cond, Bool, true, false, List, [], ◌∷◌, ◌++◌, append-nil, append_assoc, Option, refl, sym, ap, ap₂, ◌∙◌, arith, le-ltb, lt-ltb, ltb-true, ltb-false}
use Rattle.seen_ticks.specs.declared.observation.Observation.{Observation}
use Rattle.seen_ticks.specs.declared.routine_seen.RoutineSeen.{RoutineSeen}
use Rattle.seen_ticks.specs.declared.task_seen.TaskSeen.{TaskSeen}
use Rattle.osek_base.specs.System.{System}
use Rattle.view_dumps.specs.Changes.{shown, written}
use Rattle.view_dumps.specs.Dumps.{Dump, alike, alike_text, behind_tick, observed, observed_text}
use Rattle.seen_ticks.specs.Seen.{alike_ticks, numbered}
use Rattle.view_dumps.specs.Runs.{IsEach, dump_behind, dump_text}
use Rattle.view_dumps.specs.Ticks.{after_tick, events_text, holder_after, routine_after, same_flag, same_option, same_owner, same_state, task_after, tick_text, values_after}
use Rattle.view_dumps.specs.declared.last_values.LastValues.{LastValues}
use Rattle.view_dumps.specs.declared.routine_values.RoutineValues.{RoutineValues}
use Rattle.view_dumps.specs.declared.task_values.TaskValues.{TaskValues}
use Rattle.view_dumps.proofs.AgainLemmas.{flag_same, number_same, option_same, owner_same, state_same, told_once, written_again}
use Rattle.std.specs.Prelude.{nat_eq}

-- ---- what was written last stays

module _ {V : Type 0} (same : V → V → Bool) (h : (v : V) → same v v ≡ true) where
  shown_again : (last : Option V) (v : V)
      → shown (shown last (written same last v)) (written same (shown last (written same last v)) v) ≡ shown last (written same last v)
  shown_again last v = ap (shown (shown last (written same last v))) (written_again same h (λ w. []) last v)

task_stays : (last : TaskValues) (seen : TaskSeen) → task_after (task_after last seen) seen ≡ task_after last seen
task_stays last seen =
    λ i. record {
      state = shown_again same_state state_same last.state seen.state i;
      priority = shown_again (same_option nat_eq) (option_same nat_eq number_same) last.priority seen.priority i;
      jobs = shown_again nat_eq number_same last.jobs seen.jobs i;
    }

routine_stays : (last : RoutineValues) (seen : RoutineSeen) → routine_after (routine_after last seen) seen ≡ routine_after last seen
routine_stays last seen =
    λ i. record {
      pending = shown_again same_flag flag_same last.pending seen.is_pending i;
      active = shown_again same_flag flag_same last.active seen.executes i;
    }

holder_stays : (last : Option (Option ℕ)) (holder : Option ℕ) → holder_after (holder_after last holder) holder ≡ holder_after last holder
holder_stays last holder = shown_again (same_option nat_eq) (option_same nat_eq number_same) last holder

module _ {V T : Type 0} (after : V → T → V) (h : (v : V) (x : T) → after (after v x) x ≡ after v x) where
  each_stays : (vs : List V) (xs : List T) → values_after after (values_after after vs xs) xs ≡ values_after after vs xs
  each_stays vs [] = refl
  each_stays [] (x ∷ xs) = refl
  each_stays (v ∷ vs) (x ∷ xs) = ap₂ (λ (w : V) (ws : List V). w ∷ ws) (h v x) (each_stays vs xs)

values_stay : (last : LastValues) (seen : Observation) → after_tick (after_tick last seen) seen ≡ after_tick last seen
values_stay last seen =
    λ i. record {
      executor = shown_again (same_option same_owner) (option_same same_owner owner_same) last.executor seen.executor i;
      tasks = each_stays task_after task_stays last.tasks seen.tasks.items i;
      routines = each_stays routine_after routine_stays last.routines seen.routines.items i;
      holders = each_stays holder_after holder_stays last.holders seen.holders.items i;
    }

-- ---- the number of a tick stands in its time alone

same_text : (S : System) (begun : Bool) (t n : ℕ) (last : LastValues) (o : Observation) → tick_text S begun t last (numbered n o) ≡ tick_text S begun t last o
same_text S true t n last o = refl
same_text S false t n last o = refl

max_low : (a b : ℕ) → a ≤ b → max a b ≡ b
max_low a b h = omega (arith, h)

max_high : (a b : ℕ) → b ≤ a → max a b ≡ a
max_high a b h = omega (arith, h)

max_above : (a b : ℕ) → a ≤ max a b
max_above a b = omega (arith)

low_again : (a b : ℕ) → a < b → max a b ≡ max (suc a) b
low_again a b h = max_low a b (omega (arith, h)) ∙ sym (max_low (suc a) b (omega (arith, h)))

-- ---- behind a tick that is written, those in which the same is seen have no text

module _ (d : Dump) (o : Observation) (none : events_text o ≡ []) where
  abbrev later : ℕ → Dump
  later t = behind_tick d t o

  once_more : (t : ℕ) → d.first ≤ t → observed (later t) (numbered t o) ≡ later (suc t)
  once_more t h =
      ap (λ b. cond b (later t) (behind_tick (later t) (t + 1) o)) (le-ltb t d.first h)
      ∙ ap₂ (λ (w : LastValues) (n : ℕ). record (later t) { values = w; behind = n }) (values_stay d.values o) (omega (arith))

  no_text : (t : ℕ) → d.first ≤ t → observed_text (later t) (numbered t o) ≡ []
  no_text t h =
      ap (λ b. cond b [] (tick_text d.system true t (after_tick d.values o) (numbered t o))) (le-ltb t d.first h)
      ∙ told_once d.system t d.values o none

  later_text : (t n : ℕ) → d.first ≤ t → dump_text (later t) (alike_ticks o t n) ≡ []
  later_text t zero h = refl
  later_text t (suc n) h =
      ap₂ (λ (a : List ℕ) (x : Dump). a ++ dump_text x (alike_ticks o (suc t) n)) (no_text t h) (once_more t h)
      ∙ later_text (suc t) n (omega (arith, h))

  later_behind : (t n : ℕ) → d.first ≤ t → dump_behind (later t) (alike_ticks o t n) ≡ later (t + n)
  later_behind t zero h = ap later (omega (arith))
  later_behind t (suc n) h =
      ap (λ (x : Dump). dump_behind x (alike_ticks o (suc t) n)) (once_more t h)
      ∙ later_behind (suc t) n (omega (arith, h)) ∙ ap later (omega (arith))

  -- ---- the first of them

  begins : (t : ℕ) → d.first ≤ t → observed d (numbered t o) ≡ later (suc t)
  begins t h = ap (λ b. cond b d (later (t + 1))) (le-ltb t d.first h) ∙ ap later (omega (arith))

  begins_text : (t : ℕ) → d.first ≤ t → observed_text d (numbered t o) ≡ tick_text d.system d.is_begun t d.values o
  begins_text t h =
      ap (λ b. cond b [] (tick_text d.system d.is_begun t d.values (numbered t o))) (le-ltb t d.first h)
      ∙ same_text d.system d.is_begun t t d.values o

  abbrev text_at : ℕ → List ℕ
  text_at t = tick_text d.system d.is_begun t d.values o

  at_once : (t n : ℕ) → d.first ≤ t → alike_text d o t (t + suc n) ≡ text_at t
  at_once t n h =
      ap (λ m. cond (nat_lt m (t + suc n)) (text_at m) []) (max_high t d.first h)
      ∙ ap (λ b. cond b (text_at t) []) (lt-ltb t (t + suc n) (omega (arith)))

  behind_once : (t n : ℕ) → d.first ≤ t → alike d o t (t + suc n) ≡ later (t + suc n)
  behind_once t n h =
      ap (λ m. cond (nat_lt m (t + suc n)) (later (t + suc n)) d) (max_high t d.first h)
      ∙ ap (λ b. cond b (later (t + suc n)) d) (lt-ltb t (t + suc n) (omega (arith)))

  one_later : (t n : ℕ) → suc t + n ≡ t + suc n
  one_later t n = omega (arith)

  text_step : (t n : ℕ) (b : Bool) → nat_lt t d.first ≡ b
      → dump_text d (alike_ticks o (suc t) n) ≡ alike_text d o (suc t) (suc t + n)
      → dump_text d (alike_ticks o t (suc n)) ≡ alike_text d o t (t + suc n)
  text_step t n true e rest =
      ap (λ b. cond b [] (tick_text d.system d.is_begun t d.values (numbered t o)) ++ dump_text (cond b d (later (t + 1))) (alike_ticks o (suc t) n)) e
      ∙ rest
      ∙ ap₂ (λ (m k : ℕ). cond (nat_lt m k) (text_at m) []) (sym (low_again t d.first (ltb-true t d.first e))) (one_later t n)
  text_step t n false e rest =
      let h : d.first ≤ t = ltb-false t d.first e in
      ap₂ (λ (a : List ℕ) (x : Dump). a ++ dump_text x (alike_ticks o (suc t) n)) (begins_text t h) (begins t h)
      ∙ ap (λ w. text_at t ++ w) (later_text (suc t) n (omega (arith, h))) ∙ append-nil (text_at t) ∙ sym (at_once t n h)

  behind_step : (t n : ℕ) (b : Bool) → nat_lt t d.first ≡ b
      → dump_behind d (alike_ticks o (suc t) n) ≡ alike d o (suc t) (suc t + n)
      → dump_behind d (alike_ticks o t (suc n)) ≡ alike d o t (t + suc n)
  behind_step t n true e rest =
      ap (λ b. dump_behind (cond b d (later (t + 1))) (alike_ticks o (suc t) n)) e
      ∙ rest
      ∙ ap₂ (λ (m k : ℕ). cond (nat_lt m k) (later k) d) (sym (low_again t d.first (ltb-true t d.first e))) (one_later t n)
  behind_step t n false e rest =
      let h : d.first ≤ t = ltb-false t d.first e in
      ap (λ (x : Dump). dump_behind x (alike_ticks o (suc t) n)) (begins t h)
      ∙ later_behind (suc t) n (omega (arith, h)) ∙ ap later (one_later t n) ∙ sym (behind_once t n h)

  no_tick : (t : ℕ) → nat_lt (max t d.first) (t + 0) ≡ false
  no_tick t = let h : t ≤ max t d.first = max_above t d.first in le-ltb (max t d.first) (t + 0) (omega (arith, h))

  each_text : (t n : ℕ) → dump_text d (alike_ticks o t n) ≡ alike_text d o t (t + n)
  each_text t zero = sym (ap (λ b. cond b (text_at (max t d.first)) []) (no_tick t))
  each_text t (suc n) = text_step t n (nat_lt t d.first) refl (each_text (suc t) n)

  each_behind : (t n : ℕ) → dump_behind d (alike_ticks o t n) ≡ alike d o t (t + n)
  each_behind t zero = sym (ap (λ b. cond b (later (t + 0)) d) (no_tick t))
  each_behind t (suc n) = behind_step t n (nat_lt t d.first) refl (each_behind (suc t) n)

pub handed_each : (d : Dump) (o : Observation) (first end n : ℕ) → end ≡ first + n → events_text o ≡ [] → IsEach d o first end n
handed_each d o first end n e none =
    record {
      text = ap (alike_text d o first) e ∙ sym (each_text d o none first n);
      behind = ap (alike d o first) e ∙ sym (each_behind d o none first n);
    }

-- ---- ticks behind others

pub text_appends : (d : Dump) (seen more : List Observation)
    → dump_text d (seen ++ more) ≡ dump_text d seen ++ dump_text (dump_behind d seen) more
text_appends d [] more = refl
text_appends d (o ∷ seen) more =
    ap (λ t. observed_text d o ++ t) (text_appends (observed d o) seen more)
    ∙ sym (append_assoc (observed_text d o) (dump_text (observed d o) seen) (dump_text (dump_behind (observed d o) seen) more))

pub behind_appends : (d : Dump) (seen more : List Observation) → dump_behind d (seen ++ more) ≡ dump_behind (dump_behind d seen) more
behind_appends d [] more = refl
behind_appends d (o ∷ seen) more = behind_appends (observed d o) seen more
