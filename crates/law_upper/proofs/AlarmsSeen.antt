-- Which upper alarms expire and which actions are refused is told by how the upper ones are
-- answered.
use Rattle.std.proofs.Common.{◌≡◌, ℕ, suc, Bool, true, false, cond, ◌&&◌, List, [], ◌∷◌, ◌++◌, length, refl, sym, ◌∙◌, ap, ap₂, true≢false, ne_eqb}
use Rattle.std.specs.Prelude.{◌==◌, ◌||◌}
use Rattle.std.specs.List.{filter, list_any}
use Rattle.osek_base.specs.declared.status.Status.{Status}
use Rattle.osek_base.specs.declared.task.Action.{Action}
use Rattle.osek_base.specs.Agree.{rank}
use Rattle.osek_base.specs.Service.{NobodyCalls, unasked_service}
use Rattle.osek_base.specs.State.{State}
use Rattle.osek_base.specs.System.{System, alarm}
use Rattle.osek_base.specs.Tick.{action_call, alarm_acts}
use Rattle.osek_base.specs.Upper.{action_task, is_upper_alarm, is_upper_task}
use Rattle.seen_ticks.specs.Told.{if_refused, refused_of}
use Rattle.seen_ticks.specs.Observed.{activations_by, is_activation, is_among}
use Rattle.law_upper.specs.AlarmsAbove.{AlarmAnswer, upper_answers}
use Rattle.partition_check.proofs.Ranks.{rank_same}

abbrev pub is_bad : Status → Bool
is_bad Status.Ok = false
is_bad _ = true

refused_where : (a : ℕ) (status : Status) → if_refused a status ≡ cond (is_bad status) (a ∷ []) []
refused_where a Status.Ok = refl
refused_where a Status.Access = refl
refused_where a Status.CallLevel = refl
refused_where a Status.Id = refl
refused_where a Status.Limit = refl
refused_where a Status.NoFunc = refl
refused_where a Status.Resource = refl
refused_where a Status.State = refl
refused_where a Status.Value = refl
refused_where a Status.SysDisabled = refl

-- ---- what answers tell

-- of the alarm of a number among the upper ones
abbrev pub has_number : ℕ → AlarmAnswer → Bool
has_number m answer = answer.number == m

abbrev pub is_refusal : ℕ → AlarmAnswer → Bool
is_refusal m answer = is_bad answer.status && (answer.number == m)

-- that an activation of a task is refused
abbrev pub refuses : ℕ → AlarmAnswer → Bool
refuses t answer = is_bad answer.status && is_activation t answer.action

module _ (S : System) (p : ℕ) where
  abbrev upper : ℕ → Bool
  upper a = is_upper_alarm S p a

  abbrev status : ℕ → State → Status
  status a s = (unasked_service S NobodyCalls s (action_call (alarm S a).action)).status

  -- ---- one alarm

  -- the answers behind that of an alarm, and the refused alarms behind it
  abbrev rest : ℕ → List ℕ → State → List AlarmAnswer
  rest c due s = upper_answers S p due (alarm_acts S c s).state

  abbrev later : ℕ → List ℕ → State → List ℕ
  later c due s = refused_of S due (alarm_acts S c s).state

  module _ (a : ℕ) (high : upper a ≡ true) where
    -- another alarm has another number, where it is upper
    among_same : (c : ℕ) → upper c ≡ true → (c == a) ≡ (rank upper c == rank upper a)
    among_same c is = sym (rank_same upper c a is high)

    not_among : (c : ℕ) → upper c ≡ false → (c == a) ≡ false
    not_among c low = ne_eqb c a (λ e. true≢false (sym high ∙ ap upper (sym e) ∙ low))

    pub due_is : (due : List ℕ) (s : State)
        → is_among due a ≡ list_any (has_number (rank upper a)) (upper_answers S p due s)
    due_is [] s = refl
    due_is (c ∷ due) s = go (upper c) refl (due_is due (alarm_acts S c s).state)
      where
        go : (b : Bool) → upper c ≡ b
            → is_among due a ≡ list_any (has_number (rank upper a)) (rest c due s)
            → is_among (c ∷ due) a
            ≡ list_any (has_number (rank upper a)) (upper_answers S p (c ∷ due) s)
        go true is same = rw is (ap₂ (λ x y. x || y) (among_same c is) same)
        go false is same = rw is (ap (λ x. x || is_among due a) (not_among c is) ∙ same)

    any_front : (b : Bool) (c : ℕ) (xs : List ℕ)
        → is_among (cond b (c ∷ []) [] ++ xs) a ≡ ((b && (c == a)) || is_among xs a)
    any_front true c xs = refl
    any_front false c xs = refl

    none_front : (b x : Bool) → x ≡ false → (b && x) ≡ false
    none_front true x none = none
    none_front false x none = refl

    pub refused_is : (due : List ℕ) (s : State)
        → is_among (refused_of S due s) a
        ≡ list_any (is_refusal (rank upper a)) (upper_answers S p due s)
    refused_is [] s = refl
    refused_is (c ∷ due) s = go (upper c) refl (refused_is due (alarm_acts S c s).state)
      where
        first : is_among (refused_of S (c ∷ due) s) a
            ≡ ((is_bad (status c s) && (c == a)) || is_among (later c due s) a)
        first =
            ap (λ xs. is_among (xs ++ later c due s) a) (refused_where c (status c s))
            ∙ any_front (is_bad (status c s)) c (later c due s)

        go : (b : Bool) → upper c ≡ b
            → is_among (later c due s) a ≡ list_any (is_refusal (rank upper a)) (rest c due s)
            → is_among (refused_of S (c ∷ due) s) a
            ≡ list_any (is_refusal (rank upper a)) (upper_answers S p (c ∷ due) s)
        go true is same =
            first
            ∙ rw is (ap₂ (λ x y. (is_bad (status c s) && x) || y) (among_same c is) same)
        go false is same =
            first
            ∙ rw is (ap (λ x. x || is_among (later c due s) a)
            (none_front (is_bad (status c s)) (c == a) (not_among c is)) ∙ same)

  -- ---- activations of an upper task

  module _ (t : ℕ) (high : is_upper_task S p t ≡ true) where
    not_activated : (c : ℕ) → upper c ≡ false → is_activation t (alarm S c).action ≡ false
    not_activated c = go (alarm S c).action
      where
        go : (action : Action) → is_upper_task S p (action_task action) ≡ false
            → is_activation t action ≡ false
        go (Action.ActivateTask u) low =
            ne_eqb u t (λ e. true≢false (sym high ∙ ap (is_upper_task S p) (sym e) ∙ low))
        go (Action.SetEvent u m) low = refl

    abbrev activates_it : ℕ → Bool
    activates_it c = is_activation t (alarm S c).action

    count_front : (b : Bool) (c : ℕ) (xs : List ℕ)
        → length (filter activates_it (cond b (c ∷ []) [] ++ xs))
        ≡ cond (b && activates_it c) (suc (activations_by S t xs)) (activations_by S t xs)
    count_front true c xs = go (activates_it c)
      where
        go : (b : Bool) → length (cond b (c ∷ filter activates_it xs) (filter activates_it xs))
            ≡ cond b (suc (activations_by S t xs)) (activations_by S t xs)
        go true = refl
        go false = refl
    count_front false c xs = refl

    count_answers : (x : AlarmAnswer) (xs : List AlarmAnswer)
        → length (filter (refuses t) (x ∷ xs))
        ≡ cond (refuses t x) (suc (length (filter (refuses t) xs))) (length (filter (refuses t) xs))
    count_answers x xs = go (refuses t x)
      where
        go : (b : Bool) → length (cond b (x ∷ filter (refuses t) xs) (filter (refuses t) xs))
            ≡ cond b (suc (length (filter (refuses t) xs))) (length (filter (refuses t) xs))
        go true = refl
        go false = refl

    none_there : (b x : Bool) (n : ℕ) → x ≡ false → cond (b && x) (suc n) n ≡ n
    none_there true x n none = ap (λ y. cond y (suc n) n) none
    none_there false x n none = refl

    pub activations_are : (due : List ℕ) (s : State)
        → activations_by S t (refused_of S due s)
        ≡ length (filter (refuses t) (upper_answers S p due s))
    activations_are [] s = refl
    activations_are (c ∷ due) s = go (upper c) refl (activations_are due (alarm_acts S c s).state)
      where
        first : activations_by S t (refused_of S (c ∷ due) s)
            ≡ cond (is_bad (status c s) && activates_it c)
            (suc (activations_by S t (later c due s)))
            (activations_by S t (later c due s))
        first =
            ap (λ xs. activations_by S t (xs ++ later c due s)) (refused_where c (status c s))
            ∙ count_front (is_bad (status c s)) c (later c due s)

        go : (b : Bool) → upper c ≡ b
            → activations_by S t (later c due s) ≡ length (filter (refuses t) (rest c due s))
            → activations_by S t (refused_of S (c ∷ due) s)
            ≡ length (filter (refuses t) (upper_answers S p (c ∷ due) s))
        go true is same =
            first
            ∙ ap (λ n. cond (is_bad (status c s) && activates_it c) (suc n) n) same
            ∙ rw is (sym (count_answers _ (rest c due s)))
        go false is same =
            first
            ∙ none_there (is_bad (status c s)) (activates_it c)
            (activations_by S t (later c due s)) (not_activated c is)
            ∙ same ∙ rw is refl
