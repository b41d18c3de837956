-- States in range whose keys are equal are alike in what is needed.
use Rattle.std.proofs.Math.Path.{fun_ext}
use Rattle.std.proofs.Common.{ℕ, zero, suc, ◌≡◌, ◌<◌, inl, inr, true, [], ◌∷◌, ◌++◌, map, length, refl, sym, ◌∙◌, ap, ap₂, arith}
use Rattle.std.specs.Prelude.{Option}
use Rattle.std.proofs.lemmas.List.{ext_get_or, map-append}
use Rattle.std.proofs.lemmas.Bool.{cases_lt}
use Rattle.osek_base.specs.declared.limits.TheConstants.{MAX_TASK_PRIORITY}
use Rattle.osek_base.specs.declared.ids.Owner.{Owner}
use Rattle.osek_base.specs.Lists.{below}
use Rattle.osek_base.specs.System.{System, counter}
use Rattle.osek_base.specs.State.{Expiry}
use Rattle.law_kept.specs.Kept.{Kept}
use Rattle.law_future.specs.Need.{Need}
use Rattle.law_future.specs.Same.{cleaned}
use Rattle.law_future.specs.Meaning.{AreSameSlots, AreSameActive, HaveSameData}
use Rattle.law_future.proofs.Meanings.{same_means}
use Rattle.law_future.specs.Alike.{value_at, phase_at}
use Rattle.law_future.specs.AlikeIn.{AreAlikeIn}
use Rattle.law_future.specs.Relative.{left_of, relative}
use Rattle.law_future.proofs.Same.{same_is_alike}
use Rattle.search_keys.specs.Bytes.{number}
use Rattle.search_keys.specs.Key.{executing_key, interrupts_key, key}
use Rattle.search_keys.specs.InRange.{IsInRange, NeedsOwnWords, KeysTell}
use Rattle.search_keys.proofs.Codes.{Tells, weaker, ◌⨾◌, each_tells, number_tells, needed_tells, flag_tells, optional_tells}
use Rattle.search_keys.proofs.Parts.{active_tells, same_slots, IsToldTask, task_tells, flags_tell, alarm_tells}
use Rattle.search_keys.proofs.Ready.{ready_tells}
use Rattle.search_keys.proofs.Data.{HaveSameWords, words_tell, same_words, same_shared}

map_same : (f g : ℕ → Option Expiry) (n : ℕ) → ((i : ℕ) → i < n → f i ≡ g i)
    → map f (below n) ≡ map g (below n)
map_same f g zero same = refl
map_same f g (suc n) same =
    let before = map_same f g n (λ i low. same i (omega arith)) in
    rw (map-append f (below n) (n ∷ []), map-append g (below n) (n ∷ []))
    (ap₂ (λ xs x. xs ++ x ∷ []) before (same n (omega arith)))

-- the value of a counter, if it is needed, and for how many ticks it has had it
abbrev HasSameTime : System → Need → ℕ → ℕ → ℕ → Type 0
HasSameTime S need t u c =
    (need.counters c ≡ true → value_at (counter S c) t ≡ value_at (counter S c) u)
    × (phase_at (counter S c) t ≡ phase_at (counter S c) u)

module _ (S : System) (need : Need) (o p : Kept)
    (first : IsInRange S o) (second : IsInRange S p) where
  -- what the parts of equal keys tell
  record AreToldSame : Type 0 where
    running : o.running ≡ p.running
    gone : o.gone ≡ p.gone
    active : AreSameActive need o.active p.active
    pending : o.pending ≡ p.pending
    disabled : o.disabled ≡ p.disabled
    suspended_all : o.suspended_all ≡ p.suspended_all
    suspended_os : o.suspended_os ≡ p.suspended_os
    tasks : (t : ℕ) → t < length S.tasks → IsToldTask need o p t
    queues : (l : ℕ) → l < suc MAX_TASK_PRIORITY → o.queues l ≡ p.queues l
    alarms : (a : ℕ) → a < length S.alarms → left_of S o a ≡ left_of S p a
    counters : (c : ℕ) → c < length S.counters → HasSameTime S need o.tick p.tick c
    words : HaveSameWords need o p S
    over : o.over ≡ p.over

  executing_tells : Tells (executing_key need o) (executing_key need p)
      ((o.running ≡ p.running × o.gone ≡ p.gone) × AreSameActive need o.active p.active)
  executing_tells =
      optional_tells number number_tells o.running p.running ⨾ flag_tells o.gone p.gone
      ⨾ active_tells need o.active p.active first.active second.active

  interrupts_tell : Tells (interrupts_key S o) (interrupts_key S p)
      (((o.pending ≡ p.pending × o.disabled ≡ p.disabled) × o.suspended_all ≡ p.suspended_all)
      × o.suspended_os ≡ p.suspended_os)
  interrupts_tell =
      flags_tell (length S.routines) o.pending p.pending first.pending second.pending
      ⨾ flag_tells o.disabled p.disabled
      ⨾ number_tells o.suspended_all p.suspended_all ⨾ number_tells o.suspended_os p.suspended_os

  key_tells : Tells (key S need o) (key S need p) AreToldSame
  unfolding key
  key_tells =
      weaker
      (executing_tells
      ⨾ interrupts_tell
      ⨾ each_tells (length S.tasks) (λ t low.
      task_tells need o p t (first.registers t) (second.registers t) (first.unused t)
      (second.unused t))
      ⨾ ready_tells (suc MAX_TASK_PRIORITY) o.queues p.queues
      ⨾ each_tells (length S.alarms) (λ a low. alarm_tells (left_of S o a) (left_of S p a))
      ⨾ each_tells (length S.counters) (λ c low.
      needed_tells (need.counters c) (value_at (counter S c) o.tick) (value_at (counter S c) p.tick)
      ⨾ number_tells (phase_at (counter S c) o.tick) (phase_at (counter S c) p.tick))
      ⨾ words_tell need o p S
      ⨾ flag_tells o.over p.over)
      (λ h.
      let words = h.0 in
      let counters = words.0 in
      let alarms = counters.0 in
      let queues = alarms.0 in
      let tasks = queues.0 in
      let interrupts = tasks.0 in
      let executing = interrupts.0 in
      record {
        running = executing.0.0;
        gone = executing.0.1;
        active = executing.1;
        pending = interrupts.1.0.0.0;
        disabled = interrupts.1.0.0.1;
        suspended_all = interrupts.1.0.1;
        suspended_os = interrupts.1.1;
        tasks = tasks.1;
        queues = queues.1;
        alarms = alarms.1;
        counters = counters.1;
        words = words.1;
        over = h.1;
      })

  module _ (same : AreToldSame) where
    same_queues : o.queues ≡ p.queues
    same_queues = fun_ext (λ l. elim (cases_lt MAX_TASK_PRIORITY l) [
      | inl high ↦ first.levels l high ∙ sym (second.levels l high)
      | inr low ↦ same.queues l (omega (arith, low))
    ])

    same_masks : o.masks ≡ p.masks
    same_masks =
        let many = first.masks in
        ext_get_or 0 o.masks p.masks (first.masks ∙ sym second.masks)
        (λ t low. (same.tasks t (omega (arith, many, low))).1)

    each_slot : (t : ℕ) → AreSameSlots (need.registers (Owner.Task t)) (o.slots t) (p.slots t)
    each_slot t = elim (cases_lt t (length S.tasks)) [
      | inl low ↦ (same.tasks t low).0
      | inr high ↦
          same_slots (need.registers (Owner.Task t)) (o.slots t) (p.slots t)
          (first.unused t (first.tasks t high) ∙ sym (second.unused t (second.tasks t high)))
    ]

    same_data : NeedsOwnWords S need → HaveSameData need (relative S o) (relative S p)
    same_data own = record {
      rest = λ i. record {
        queues = same_queues i;
        slots = p.slots;
        running = same.running i;
        gone = same.gone i;
        active = p.active;
        pending = same.pending i;
        disabled = same.disabled i;
        suspended_all = same.suspended_all i;
        suspended_os = same.suspended_os i;
        alarms = map_same (left_of S o) (left_of S p) (length S.alarms) same.alarms i;
        words = p.words;
        masks = same_masks i;
        shared = p.shared;
        tick = 0;
        over = same.over i;
      };
      slots = each_slot;
      active = same.active;
      words = same_words need o p S own same.words;
      shared = same_shared need o p S first second same.words;
    }

    alike : NeedsOwnWords S need → AreAlikeIn S need o p
    alike own =
        (same_is_alike S need.counters (cleaned need o) (cleaned need p) first.ahead second.ahead).0
        (record {
          kept = (same_means need (relative S o) (relative S p)).1 (same_data own);
          values = λ c low. (same.counters c low).0;
          phases = λ c low. (same.counters c low).1;
        })

pub keys_tell : KeysTell
keys_tell S need o p own first second equal =
    let same = ((key_tells S need o p first second).told [] [] (ap (λ ns. ns ++ []) equal)).0 in
    alike S need o p first second same own
