-- States in range that are alike in what is needed have equal keys.
use Rattle.std.proofs.Common.{ℕ, zero, suc, ◌≡◌, ◌<◌, ◌%◌, Bool, true, false, cond, List, [], ◌∷◌, ◌++◌, length, get_or, refl, sym, ◌∙◌, ap, ap₂, arith}
use Rattle.std.specs.Prelude.{Option, Some, None, ◌==◌, slice_index}
use Rattle.osek_base.specs.declared.limits.TheConstants.{MAX_TASK_PRIORITY, REGISTERS, WINDOW_WORDS, SHARED_WORDS}
use Rattle.osek_base.specs.declared.ids.Owner.{Owner}
use Rattle.osek_base.specs.System.{System, counter}
use Rattle.osek_base.specs.Instruction.{Context, value}
use Rattle.osek_base.specs.State.{Active, shared_word}
use Rattle.law_kept.specs.Kept.{Kept, Slot}
use Rattle.law_future.specs.Need.{Need}
use Rattle.law_future.specs.Same.{cleaned}
use Rattle.law_future.specs.Meaning.{AreSameContexts, AreSameSlots, AreSameActive, HaveSameData}
use Rattle.law_future.proofs.Meanings.{same_means}
use Rattle.law_future.specs.Alike.{value_at}
use Rattle.law_future.specs.AlikeIn.{AreAlikeIn}
use Rattle.law_future.specs.Relative.{left_of, relative, AreSame}
use Rattle.law_future.proofs.Same.{same_is_alike}
use Rattle.law_future.proofs.Tables.{table_at}
use Rattle.search_keys.specs.Bytes.{each, number, flag, optional, needed}
use Rattle.search_keys.specs.Key.{context_key, routine_key, executing_key, interrupts_key, resources_key, job_key, task_key, ready_key, expiry_key, alarm_key, counter_key, window_key, shared_key, words_key, key}
use Rattle.search_keys.specs.InRange.{AlikeHaveOneKey}

-- ---- parts

each_same : (n : ℕ) (f g : ℕ → List ℕ) → ((i : ℕ) → i < n → f i ≡ g i) → each n f ≡ each n g
unfolding each
each_same zero f g same = refl
each_same (suc n) f g same =
    ap₂ (λ xs ys. xs ++ ys) (each_same n f g (λ i low. same i (omega (arith, low))))
    (same n (omega arith))

needed_same : (b : Bool) (m n : ℕ) → (b ≡ true → m ≡ n) → needed b m ≡ needed b n
needed_same true m n same = ap number (same refl)
needed_same false m n same = refl

context_same : (need : ℕ → Bool) (x y : Context) → AreSameContexts need x y
    → context_key need x ≡ context_key need y
context_same need x y same =
    ap₂ (λ xs ys. xs ++ ys) (ap number same.place)
    (each_same REGISTERS (λ r. needed (need r) (value x r)) (λ r. needed (need r) (value y r))
    (λ r low. needed_same (need r) (value x r) (value y r) (same.values r)))

active_same : (need : Need) (a b : Option Active) → AreSameActive need a b
    → optional (routine_key need) a ≡ optional (routine_key need) b
active_same need None None same = refl
active_same need None (Some b) same = absurd same
active_same need (Some a) None same = absurd same
active_same need (Some a) (Some b) same =
    ap (λ ns. 1 ∷ (number a.routine ++ ns))
    (context_same (need.registers (Owner.Routine a.routine)) a.context b.context same.context)
    ∙ ap (λ n. 1 ∷ (number n ++ context_key (need.registers (Owner.Routine n)) b.context))
    same.routine

-- the oldest job of a task, but for its context
before_context : Slot → List ℕ
before_context a =
    flag a.begun ++ flag a.taken ++ number (length a.held) ++ resources_key a.held
    ++ optional number a.waits_for

job_same : (need : ℕ → Bool) (a b : Slot) → AreSameSlots need a b → job_key need a ≡ job_key need b
unfolding before_context
job_same need a b same =
    ap₂ (λ xs ys. xs ++ ys) (ap before_context same.rest)
    (context_same need a.context b.context same.context)

module _ (need : Need) (o p : Kept) (t : ℕ) where
  task_same : AreSameSlots (need.registers (Owner.Task t)) (o.slots t) (p.slots t)
      → o.masks ≡ p.masks
      → task_key need o t ≡ task_key need p t
  task_same slots masks =
      let count : (o.slots t).count ≡ (p.slots t).count = ap (λ (a : Slot). a.count) slots.rest in
      let job = job_same (need.registers (Owner.Task t)) (o.slots t) (p.slots t) slots in
      ap₂ (λ xs ys. xs ++ ys)
      (ap₂ (λ n ns. number n ++ cond (n == 0) [] ns) count job)
      (ap (λ ms. number (slice_index ms t)) masks)

-- ---- whole states

module _ (S : System) (need : Need) (o p : Kept) where
  module _ (same : HaveSameData need (relative S o) (relative S p)) where
    executing_same : executing_key need o ≡ executing_key need p
    executing_same =
        ap₂ (λ xs ys. xs ++ ys)
        (ap (λ (x : Kept). optional number x.running ++ flag x.gone) same.rest)
        (active_same need o.active p.active same.active)

    interrupts_same : interrupts_key S o ≡ interrupts_key S p
    interrupts_same = ap (interrupts_key S) same.rest

    tasks_same : each (length S.tasks) (task_key need o) ≡ each (length S.tasks) (task_key need p)
    tasks_same =
        each_same (length S.tasks) (task_key need o) (task_key need p)
        (λ t low. task_same need o p t (same.slots t) (ap (λ (x : Kept). x.masks) same.rest))

    ready_same : (n : ℕ) → ready_key n o.queues ≡ ready_key n p.queues
    ready_same n = ap (λ (x : Kept). ready_key n x.queues) same.rest

    alarms_same : each (length S.alarms) (alarm_key S o) ≡ each (length S.alarms) (alarm_key S p)
    alarms_same =
        each_same (length S.alarms) (alarm_key S o) (alarm_key S p)
        (λ a low. ap (optional expiry_key)
        (sym (table_at (left_of S o) (length S.alarms) a None low)
        ∙ ap (λ (x : Kept). get_or x.alarms a None) same.rest
        ∙ table_at (left_of S p) (length S.alarms) a None low))

    window_same : (who : Owner) → window_key need o who ≡ window_key need p who
    window_same who =
        each_same WINDOW_WORDS (λ i. needed (need.words who i) (o.words who i))
        (λ i. needed (need.words who i) (p.words who i))
        (λ i low. needed_same (need.words who i) (o.words who i) (p.words who i) (same.words who i))

    shared_same : (r : ℕ) → shared_key need o r ≡ shared_key need p r
    shared_same r = go (need.shared r) refl
      where
        go : (b : Bool) → need.shared r ≡ b
            → cond b (each SHARED_WORDS (λ i. number (shared_word o.shared r i))) []
            ≡ cond b (each SHARED_WORDS (λ i. number (shared_word p.shared r i))) []
        go true e =
            ap
            (λ (ws : List ℕ).
            each SHARED_WORDS (λ i. number (slice_index ws (i % SHARED_WORDS))))
            (same.shared.words r e)
        go false e = refl

    words_same : words_key S need o ≡ words_key S need p
    words_same =
        ap₂ (λ xs ys. xs ++ ys)
        (ap₂ (λ xs ys. xs ++ ys)
        (each_same (length S.tasks) (λ t. window_key need o (Owner.Task t))
        (λ t. window_key need p (Owner.Task t)) (λ t low. window_same (Owner.Task t)))
        (each_same (length S.routines) (λ i. window_key need o (Owner.Routine i))
        (λ i. window_key need p (Owner.Routine i)) (λ i low. window_same (Owner.Routine i))))
        (each_same (length S.resources) (shared_key need o) (shared_key need p)
        (λ r low. shared_same r))

  counters_same : AreAlikeIn S need o p
      → each (length S.counters) (counter_key S need o)
      ≡ each (length S.counters) (counter_key S need p)
  counters_same alike =
      each_same (length S.counters) (counter_key S need o) (counter_key S need p)
      (λ c low.
      ap₂ (λ ms ns. ms ++ ns)
      (needed_same (need.counters c) (value_at (counter S c) o.tick) (value_at (counter S c) p.tick)
      (alike.values c low))
      (ap number (alike.phases c low)))

  one_key : AreAlikeIn S need o p → HaveSameData need (relative S o) (relative S p)
      → key S need o ≡ key S need p
  unfolding key
  one_key alike same = λ i.
      executing_same same i
      ++ interrupts_same same i
      ++ tasks_same same i
      ++ ready_same same (suc MAX_TASK_PRIORITY) i
      ++ alarms_same same i
      ++ counters_same alike i
      ++ words_same same i
      ++ flag (same.rest i).over

pub alike_have_one_key : AlikeHaveOneKey
alike_have_one_key S need o p first second alike =
    let same : AreSame S need.counters (cleaned need o) (cleaned need p) =
    (same_is_alike S need.counters (cleaned need o) (cleaned need p) first.ahead second.ahead).1 alike in
    one_key S need o p alike ((same_means need (relative S o) (relative S p)).0 same.kept)
