-- The instruction of a tick: of a cleaned state it records the same but for values, and leaves a state with the same needed data.
use Rattle.std.proofs.Common.{◌≡◌, ℕ, ◌%◌, ◌+◌, Bool, true, cond, ◌&&◌, IsTrue, [], ◌∷◌, map, refl, sym, ◌∙◌, ap, ap₂, subst}
use Rattle.std.specs.Prelude.{Option, Some, None}
use Rattle.std.specs.Option.{option_map}
use Rattle.std.proofs.lemmas.Bool.{and_parts}
use Rattle.osek_base.specs.declared.limits.TheConstants.{WINDOW_WORDS}
use Rattle.osek_base.specs.declared.ids.Owner.{Owner}
use Rattle.osek_base.specs.declared.ids.ResId.{ResId}
use Rattle.osek_base.specs.declared.instr.Instr.{Instr}
use Rattle.osek_base.specs.declared.instr.Plain.{Plain}
use Rattle.osek_base.specs.declared.instr.Service.{Service}
use Rattle.osek_base.specs.Types.{ServiceCall, PlainInstr}
use Rattle.osek_base.specs.declared.status.Status.{Status}
use Rattle.osek_base.specs.declared.trace_event.Results.{Results}
use Rattle.osek_base.specs.declared.trace_event.Outcome.{Outcome}
use Rattle.osek_base.specs.declared.trace_event.Source.{Source}
use Rattle.osek_base.specs.declared.trace_event.TraceEvent.{TraceEvent}
use Rattle.osek_base.specs.System.{System, instruction_at}
use Rattle.osek_base.specs.Instruction.{Context, Done, value, next, with_value, operate, holds, sets, plain}
use Rattle.osek_base.specs.State.{fresh_context, Active, Words, words_after, interrupts_off}
use Rattle.osek_base.specs.Service.{first_refusal}
use Rattle.osek_base.specs.Tick.{at_values, answered, status_number, error_record, shutdown_record}
use Rattle.law_kept.specs.Kept.{Kept}
use Rattle.law_kept.specs.Moves.{KeptRecorded}
use Rattle.law_kept.specs.KeptService.{KeptCaller, ByTask, ByRoutine, ByNobody, KeptReply, bare, caller_in, refusals_in, reply_in, service_in}
use Rattle.law_kept.specs.KeptTick.{with_context_in, controlled_in, executed_in, routine_executes, caller_executes_in, execute_phase_in}
use Rattle.law_future.specs.Need.{Need, implies, DataFollows, respects_service, Respects, Suffices}
use Rattle.law_future.specs.Same.{cleaned_context, cleaned_routine, cleaned_words, cleaned_shared, cleaned, HaveSameNeeded, blanked_effect, blanked_results, blanked, HasAllowedIndices}
use Rattle.law_future.proofs.Cleaning.{needed_too, value_alike, set_alike, context_twice, word_alike, write_alike, words_twice, shared_alike, store_alike, cleaned_twice, registers_zero}
use Rattle.law_future.proofs.Steps.{mapped_reply, leaves_shared, service_clean, caller_in_clean}
use Rattle.law_future.proofs.Contexts.{IsOf, still_of, context_mapped, service_active, control_mapped, control_of}
use Rattle.law_future.proofs.Indices.{HoldsThere, index_low, value_holds}
use Rattle.law_future.proofs.AllowedSteps.{task_holds, routine_holds}

abbrev pub cleaning : Need → Owner → Context → Context
cleaning need who x = cleaned_context (need.registers who) x

pub fresh_clean : (need : Need) (who : Owner) → cleaning need who fresh_context ≡ fresh_context
fresh_clean need who = ap (λ vs. record { registers = vs; place = 0 }) (registers_zero (need.registers who) 8)

pub record AreAlikeRecorded (need : Need) (a b : KeptRecorded) : Type 0 where
  pub events : map blanked a.events ≡ map blanked b.events
  pub state : HaveSameNeeded need a.state b.state

-- ---- plain instructions

record AreAlikeDone (need : Need) (who : Owner) (v w : Words) (a b : Done) : Type 0 where
  context : cleaned_context (need.registers who) a.context ≡ cleaned_context (need.registers who) b.context
  effect : blanked_effect a.effect ≡ blanked_effect b.effect
  words : cleaned_words need (words_after v who a.effect) ≡ cleaned_words need (words_after w who b.effect)

module _ (need : Need) (who : Owner) (x y : Context) (alike : cleaned_context (need.registers who) x ≡ cleaned_context (need.registers who) y) where
  next_alike : cleaned_context (need.registers who) (next x) ≡ cleaned_context (need.registers who) (next y)
  next_alike = ap next alike

  same_value : (r : ℕ) → need.registers who r ≡ true → value x r ≡ value y r
  same_value = value_alike (need.registers who) x y alike

  both_values : (a b : ℕ) → (need.registers who a && need.registers who b) ≡ true
      → (value x a ≡ value y a) × (value x b ≡ value y b)
  both_values a b h =
      let parts = and_parts (need.registers who a) (need.registers who b) h in
      (same_value a parts.0, same_value b parts.1)

  module _ (words others : Words) (same : cleaned_words need words ≡ cleaned_words need others) (xs : (r : ℕ) → need.indices who x.place r (value x r % WINDOW_WORDS) ≡ true) where
    sets_alike : (d v w : ℕ) → (need.registers who d ≡ true → v ≡ w)
        → AreAlikeDone need who words others (sets x d v) (sets y d w)
    sets_alike d v w h = record {
      context = ap next (set_alike (need.registers who) x y alike d v w h);
      effect = refl;
      words = same;
    }

    stored : (a b : ℕ) → DataFollows (need.registers who) (need.words who) (need.indices who x.place) (Plain.St a b)
        → need.words who (value x a % WINDOW_WORDS) ≡ true
        → (value x a % WINDOW_WORDS ≡ value y a % WINDOW_WORDS) × (value x b ≡ value y b)
    stored a b h e =
        let both = h (value x a % WINDOW_WORDS) (index_low (value x a)) e in
        (ap (λ n. n % WINDOW_WORDS) (same_value a both.0), same_value b (both.1 (xs a)))

    stored_there : (a b : ℕ) → DataFollows (need.registers who) (need.words who) (need.indices who x.place) (Plain.St a b)
        → need.words who (value y a % WINDOW_WORDS) ≡ true
        → (value x a % WINDOW_WORDS ≡ value y a % WINDOW_WORDS) × (value x b ≡ value y b)
    stored_there a b h e =
        let there = h (value y a % WINDOW_WORDS) (index_low (value y a)) e in
        stored a b h (ap (λ n. need.words who (n % WINDOW_WORDS)) (same_value a there.0) ∙ e)

    plain_alike : (p : PlainInstr) → DataFollows (need.registers who) (need.words who) (need.indices who x.place) p
        → AreAlikeDone need who words others (plain p x (words who)) (plain p y (others who))
    plain_alike Plain.Nop h = record { context = next_alike; effect = refl; words = same }
    plain_alike (Plain.Li d n) h = sets_alike d n n (λ e. refl)
    plain_alike (Plain.Mov d a) h =
        sets_alike d (value x a) (value y a)
        (λ e. same_value a (needed_too (need.registers who d) (need.registers who a) h e))
    plain_alike (Plain.Compute operation d a b) h =
        sets_alike d (operate operation (value x a) (value x b)) (operate operation (value y a) (value y b))
        (λ e. let both = both_values a b (needed_too (need.registers who d) (need.registers who a && need.registers who b) h e) in
        ap₂ (operate operation) both.0 both.1)
    plain_alike (Plain.Ld d a) h =
        sets_alike d (words who (value x a % WINDOW_WORDS)) (others who (value y a % WINDOW_WORDS))
        (λ e. let both = h e in
        word_alike need words others same who (value x a % WINDOW_WORDS)
        (both.1 (value x a % WINDOW_WORDS) (index_low (value x a)) (xs a))
        ∙ ap (λ n. others who (n % WINDOW_WORDS)) (same_value a both.0))
    plain_alike (Plain.St a b) h = record {
      context = next_alike;
      effect = refl;
      words =
          write_alike need words others same who (value x a % WINDOW_WORDS) (value y a % WINDOW_WORDS) (value x b) (value y b)
          (stored a b h) (stored_there a b h);
    }
    plain_alike (Plain.Jmp to) h = record {
      context = λ i. record { registers = (alike i).registers; place = to };
      effect = refl;
      words = same;
    }
    plain_alike (Plain.JumpIf test a b to) h = record {
      context =
          (let both = both_values a b h in
          λ i. record { registers = (alike i).registers; place = cond (holds test (both.0 i) (both.1 i)) to ((alike i).place + 1) });
      effect = refl;
      words = same;
    }

-- ---- services

record AreAlikeReplies (need : Need) (who : Owner) (a b : KeptReply) : Type 0 where
  status : a.status ≡ b.status
  results : blanked_results a.results ≡ blanked_results b.results
  context : (x y : Context) → cleaned_context (need.registers who) x ≡ cleaned_context (need.registers who) y
      → cleaned_context (need.registers who) (answered a.status a.results x)
      ≡ cleaned_context (need.registers who) (answered b.status b.results y)
  state : HaveSameNeeded need a.state b.state

module _ (need : Need) (who : Owner) where
  status_alike : (x y : Context) → cleaned_context (need.registers who) x ≡ cleaned_context (need.registers who) y → (n : ℕ)
      → cleaned_context (need.registers who) (with_value x 0 n) ≡ cleaned_context (need.registers who) (with_value y 0 n)
  status_alike x y alike n = set_alike (need.registers who) x y alike 0 n n (λ e. refl)

  one_alike : (status : Status) (v w : ℕ) → (need.registers who 1 ≡ true → v ≡ w) → (x y : Context)
      → cleaned_context (need.registers who) x ≡ cleaned_context (need.registers who) y
      → cleaned_context (need.registers who) (answered status (Results.One v) x)
      ≡ cleaned_context (need.registers who) (answered status (Results.One w) y)
  one_alike status v w h x y alike =
      ap next (set_alike (need.registers who) (with_value x 0 (status_number status)) (with_value y 0 (status_number status))
      (status_alike x y alike (status_number status)) 1 v w h)

  answered_alike : (status : Status) (found : Results) (x y : Context)
      → cleaned_context (need.registers who) x ≡ cleaned_context (need.registers who) y
      → cleaned_context (need.registers who) (answered status found x) ≡ cleaned_context (need.registers who) (answered status found y)
  answered_alike status Results.Nothing x y alike = ap next (status_alike x y alike (status_number status))
  answered_alike status (Results.One a) x y alike = one_alike status a a (λ e. refl) x y alike
  answered_alike status (Results.Three a b c) x y alike =
      let f : ℕ → Bool = need.registers who in
      let n : ℕ = status_number status in
      let first = set_alike (need.registers who) (with_value x 0 n) (with_value y 0 n) (status_alike x y alike n) 1 a a (λ e. refl) in
      let second = set_alike (need.registers who) (with_value (with_value x 0 n) 1 a) (with_value (with_value y 0 n) 1 a) first 2 b b (λ e. refl) in
      ap next (set_alike (need.registers who) (with_value (with_value (with_value x 0 n) 1 a) 2 b) (with_value (with_value (with_value y 0 n) 1 a) 2 b) second 3 c c (λ e. refl))

  cleaned_alike : (a b : KeptReply) → b ≡ mapped_reply (cleaning need) (cleaned_words need) (cleaned_shared need.shared) a → AreAlikeReplies need who a b
  cleaned_alike a b same =
      subst (AreAlikeReplies need who a) (sym same) (record {
        status = refl;
        results = refl;
        context = answered_alike a.status a.results;
        state = sym (cleaned_twice need a.state);
      })

module _ (S : System) (need : Need) (who : Owner) (d : KeptCaller) (o : Kept) where
  same_call : (call other : ServiceCall) → call ≡ other → leaves_shared call ≡ true
      → AreAlikeReplies need who (service_in S d o call) (service_in S d (cleaned need o) other)
  same_call call other same h =
      cleaned_alike need who (service_in S d o call) (service_in S d (cleaned need o) other)
      (ap (service_in S d (cleaned need o)) (sym same) ∙ service_clean S (cleaning need) (cleaned_words need) (cleaned_shared need.shared) (fresh_clean need) d o call h)

  refused_alike : (call other : ServiceCall) (refusal : Status)
      → AreAlikeReplies need who (reply_in S d o call (Some refusal)) (reply_in S d (cleaned need o) other (Some refusal))
  refused_alike call other refusal = record {
    status = refl;
    results = refl;
    context = answered_alike need who refusal Results.Nothing;
    state = sym (cleaned_twice need o);
  }

  -- where both answer E_OK and nothing else, and leave states that have the same needed data
  nothing_alike : (a b : Kept) → HaveSameNeeded need a b
      → AreAlikeReplies need who (record { status = Status.Ok; results = Results.Nothing; state = a })
      (record { status = Status.Ok; results = Results.Nothing; state = b })
  nothing_alike a b alike = record {
    status = refl;
    results = refl;
    context = answered_alike need who Status.Ok Results.Nothing;
    state = alike;
  }

  one_reply : (v w : ℕ) → (need.registers who 1 ≡ true → v ≡ w)
      → AreAlikeReplies need who (record { status = Status.Ok; results = Results.One v; state = o })
      (record { status = Status.Ok; results = Results.One w; state = cleaned need o })
  one_reply v w h = record {
    status = refl;
    results = refl;
    context = one_alike need who Status.Ok v w h;
    state = sym (cleaned_twice need o);
  }

  load_reply : (r : Option ResId) (i k : ℕ)
      → (refusal : Option Status)
      → ((n : ℕ) → r ≡ Some (ResId.Declared n) → need.registers who 1 ≡ true → (need.shared n ≡ true) × (i ≡ k))
      → AreAlikeReplies need who (reply_in S d o (Service.LoadShared r i) refusal) (reply_in S d (cleaned need o) (Service.LoadShared r k) refusal)
  load_reply r i k (Some refusal) h = refused_alike (Service.LoadShared r i) (Service.LoadShared r k) refusal
  load_reply None i k None h = nothing_alike o (cleaned need o) (sym (cleaned_twice need o))
  load_reply (Some ResId.Scheduler) i k None h = one_reply 0 0 (λ e. refl)
  load_reply (Some (ResId.Declared n)) i k None h =
      one_reply _ _ (λ e. let both = h n refl e in shared_alike need.shared o.shared n i k both.0 both.1)

  store_reply : (r : Option ResId) (i k v w : ℕ) (refusal : Option Status)
      → ((n : ℕ) → r ≡ Some (ResId.Declared n) → need.shared n ≡ true → (i ≡ k) × (v ≡ w))
      → AreAlikeReplies need who (reply_in S d o (Service.StoreShared r i v) refusal) (reply_in S d (cleaned need o) (Service.StoreShared r k w) refusal)
  store_reply r i k v w (Some refusal) h = refused_alike (Service.StoreShared r i v) (Service.StoreShared r k w) refusal
  store_reply None i k v w None h = nothing_alike o (cleaned need o) (sym (cleaned_twice need o))
  store_reply (Some ResId.Scheduler) i k v w None h = nothing_alike o (cleaned need o) (sym (cleaned_twice need o))
  store_reply (Some (ResId.Declared n)) i k v w None h =
      nothing_alike _ _ (λ j. record (sym (cleaned_twice need o) j) { shared = store_alike need.shared o.shared n i k v w (h n refl) j })

  load_refusals : (r : Option ResId) (i k : ℕ)
      → refusals_in S d (cleaned need o) (Service.LoadShared r k) ≡ refusals_in S d o (Service.LoadShared r i)
  load_refusals None i k = refl
  load_refusals (Some q) i k = go d
    where
      go : (c : KeptCaller)
          → refusals_in S c (cleaned need o) (Service.LoadShared (Some q) k) ≡ refusals_in S c o (Service.LoadShared (Some q) i)
      go (ByTask t) = refl
      go ByRoutine = refl
      go ByNobody = refl

  store_refusals : (r : Option ResId) (i k v w : ℕ)
      → refusals_in S d (cleaned need o) (Service.StoreShared r k w) ≡ refusals_in S d o (Service.StoreShared r i v)
  store_refusals None i k v w = refl
  store_refusals (Some q) i k v w = go d
    where
      go : (c : KeptCaller)
          → refusals_in S c (cleaned need o) (Service.StoreShared (Some q) k w) ≡ refusals_in S c o (Service.StoreShared (Some q) i v)
      go (ByTask t) = refl
      go ByRoutine = refl
      go ByNobody = refl

  load_alike : (r : Option ResId) (i k : ℕ)
      → ((n : ℕ) → r ≡ Some (ResId.Declared n) → need.registers who 1 ≡ true → (need.shared n ≡ true) × (i ≡ k))
      → AreAlikeReplies need who (service_in S d o (Service.LoadShared r i)) (service_in S d (cleaned need o) (Service.LoadShared r k))
  unfolding service_in
  load_alike r i k h =
      subst (λ rs. AreAlikeReplies need who (service_in S d o (Service.LoadShared r i))
      (reply_in S d (cleaned need o) (Service.LoadShared r k) (first_refusal ((interrupts_off (bare o), Status.SysDisabled) ∷ rs))))
      (sym (load_refusals r i k))
      (load_reply r i k (first_refusal ((interrupts_off (bare o), Status.SysDisabled) ∷ refusals_in S d o (Service.LoadShared r i))) h)

  store_kept_alike : (r : Option ResId) (i k v w : ℕ)
      → ((n : ℕ) → r ≡ Some (ResId.Declared n) → need.shared n ≡ true → (i ≡ k) × (v ≡ w))
      → AreAlikeReplies need who (service_in S d o (Service.StoreShared r i v)) (service_in S d (cleaned need o) (Service.StoreShared r k w))
  unfolding service_in
  store_kept_alike r i k v w h =
      subst (λ rs. AreAlikeReplies need who (service_in S d o (Service.StoreShared r i v))
      (reply_in S d (cleaned need o) (Service.StoreShared r k w) (first_refusal ((interrupts_off (bare o), Status.SysDisabled) ∷ rs))))
      (sym (store_refusals r i k v w))
      (store_reply r i k v w (first_refusal ((interrupts_off (bare o), Status.SysDisabled) ∷ refusals_in S d o (Service.StoreShared r i v))) h)

  service_alike : (x y : Context) → cleaned_context (need.registers who) x ≡ cleaned_context (need.registers who) y
      → (call : ServiceCall) → IsTrue (respects_service (need.registers who) need.shared call)
      → AreAlikeReplies need who (service_in S d o (at_values x call)) (service_in S d (cleaned need o) (at_values y call))
  service_alike x y alike (Service.SetRelAlarm a u v) h =
      let both = both_values need who x y alike u v h in
      same_call (Service.SetRelAlarm a (value x u) (value x v)) (Service.SetRelAlarm a (value y u) (value y v))
      (ap₂ (λ n m. Service.SetRelAlarm a n m) both.0 both.1) refl
  service_alike x y alike (Service.SetAbsAlarm a u v) h =
      let both = both_values need who x y alike u v h in
      same_call (Service.SetAbsAlarm a (value x u) (value x v)) (Service.SetAbsAlarm a (value y u) (value y v))
      (ap₂ (λ n m. Service.SetAbsAlarm a n m) both.0 both.1) refl
  service_alike x y alike (Service.LoadShared r u) h = load_alike r (value x u) (value y u) (go r h)
    where
      go : (q : Option ResId) → IsTrue (respects_service (need.registers who) need.shared (Service.LoadShared q u)) → (n : ℕ)
          → q ≡ Some (ResId.Declared n) → need.registers who 1 ≡ true → (need.shared n ≡ true) × (value x u ≡ value y u)
      go q k n e f =
          let k2 : IsTrue (implies (need.registers who 1) (need.registers who u && need.shared n)) =
          subst (λ p. IsTrue (respects_service (need.registers who) need.shared (Service.LoadShared p u))) e k in
          let both = and_parts (need.registers who u) (need.shared n)
          (needed_too (need.registers who 1) (need.registers who u && need.shared n) k2 f) in
          (both.1, same_value need who x y alike u both.0)
  service_alike x y alike (Service.StoreShared r u v) h =
      store_kept_alike r (value x u) (value y u) (value x v) (value y v) (go r h)
    where
      go : (q : Option ResId) → IsTrue (respects_service (need.registers who) need.shared (Service.StoreShared q u v)) → (n : ℕ)
          → q ≡ Some (ResId.Declared n) → need.shared n ≡ true → (value x u ≡ value y u) × (value x v ≡ value y v)
      go q k n e f =
          let k2 : IsTrue (implies (need.shared n) (need.registers who u && need.registers who v)) =
          subst (λ p. IsTrue (respects_service (need.registers who) need.shared (Service.StoreShared p u v))) e k in
          both_values need who x y alike u v
          (needed_too (need.shared n) (need.registers who u && need.registers who v) k2 f)
  service_alike x y alike call h = same_call call call refl refl

-- ---- who gets other registers

module _ (need : Need) (who : Owner) where
  contexts_alike : (d : KeptCaller) (x y : Context) (o p : Kept) → IsOf who d o.active → IsOf who d p.active
      → cleaned_context (need.registers who) x ≡ cleaned_context (need.registers who) y → HaveSameNeeded need o p
      → HaveSameNeeded need (with_context_in d x o) (with_context_in d y p)
  contexts_alike d x y o p h k alike states =
      context_mapped (cleaning need) (cleaned_words need) (cleaned_shared need.shared) who d x o h
      ∙ ap₂ (with_context_in d) alike states
      ∙ sym (context_mapped (cleaning need) (cleaned_words need) (cleaned_shared need.shared) who d y p k)

-- ---- one instruction

module _ (S : System) (need : Need) where
  executed_alike : (who : Owner) (d : KeptCaller) (x y : Context) (what : Instr) (o : Kept)
      → cleaned_context (need.registers who) x ≡ cleaned_context (need.registers who) y → IsOf who d o.active
      → ((r : ℕ) → need.indices who x.place r (value x r % WINDOW_WORDS) ≡ true) → Respects need who x.place what
      → AreAlikeRecorded need (executed_in S who d x what o) (executed_in S who d y what (cleaned need o))
  executed_alike who d x y (Instr.Plain p) o alike of xs h =
      let k : AreAlikeDone need who o.words (cleaned_words need o.words) (plain p x (o.words who)) (plain p y (cleaned_words need o.words who)) =
      plain_alike need who x y alike o.words (cleaned_words need o.words) (sym (words_twice need o.words)) xs p h.0 in
      record {
        events = (λ i. TraceEvent.Executed who (alike i).place (Instr.Plain p) (Outcome.Plain (k.effect i)) ∷ []);
        state =
            contexts_alike need who d (plain p x (o.words who)).context (plain p y (cleaned_words need o.words who)).context
            (record o { words = words_after o.words who (plain p x (o.words who)).effect })
            (record (cleaned need o) { words = words_after (cleaned_words need o.words) who (plain p y (cleaned_words need o.words who)).effect })
            of (still_of (cleaning need) (cleaned_words need) (cleaned_shared need.shared) who d o.active of) k.context
            (λ i. record (sym (cleaned_twice need o) i) { words = k.words i });
      }
  executed_alike who d x y (Instr.Service call) o alike of xs h =
      let k : AreAlikeReplies need who (service_in S d o (at_values x call)) (service_in S d (cleaned need o) (at_values y call)) =
      service_alike S need who d o x y alike call h.0 in
      record {
        events =
            (λ i. TraceEvent.Executed who (alike i).place (Instr.Service call) (Outcome.Answer (k.status i) (k.results i))
            ∷ map blanked (error_record S (Source.Owner who) (Instr.Service call) (k.status i)));
        state =
            contexts_alike need who d _ _ (service_in S d o (at_values x call)).state
            (service_in S d (cleaned need o) (at_values y call)).state
            (subst (IsOf who d) (sym (service_active S d o (at_values x call))) of)
            (subst (IsOf who d) (sym (service_active S d (cleaned need o) (at_values y call))) (still_of (cleaning need) (cleaned_words need) (cleaned_shared need.shared) who d o.active of))
            (k.context x y alike) k.state;
      }
  executed_alike who d x y (Instr.Control control) o alike of xs h = record {
    events =
        (λ i. TraceEvent.Executed who (alike i).place (Instr.Control control) Outcome.Control
        ∷ map blanked (shutdown_record S control));
    state =
        contexts_alike need who d (next x) (next y) (controlled_in control o) (controlled_in control (cleaned need o))
        (control_of who d control o of) (control_of who d control (cleaned need o) (still_of (cleaning need) (cleaned_words need) (cleaned_shared need.shared) who d o.active of)) (ap next alike)
        (sym (cleaned_twice need (controlled_in control o)) ∙ ap (cleaned need) (sym (control_mapped (cleaning need) (cleaned_words need) (cleaned_shared need.shared) control o)));
  }

  module _ (enough : Suffices S need) where
    values_held : (who : Owner) (x : Context) → HoldsThere (need.indices who) x → (r : ℕ)
        → need.indices who x.place r (value x r % WINDOW_WORDS) ≡ true
    values_held who x h = value_holds (need.indices who) (enough.zero who) (enough.beyond who) x h

    idle_alike : (o : Kept) → AreAlikeRecorded need (record { events = TraceEvent.Idle ∷ []; state = o })
        (record { events = TraceEvent.Idle ∷ []; state = cleaned need o })
    idle_alike o = record { events = refl; state = sym (cleaned_twice need o) }

    routine_alike : (o : Kept) → HasAllowedIndices need o → (active : Option Active) → o.active ≡ active
        → AreAlikeRecorded need (routine_executes S active o)
        (routine_executes S (option_map (cleaned_routine need) active) (cleaned need o))
    routine_alike o held None e = idle_alike o
    routine_alike o held (Some a) e =
        executed_alike (Owner.Routine a.routine) ByRoutine a.context (cleaned_context (need.registers (Owner.Routine a.routine)) a.context)
        (instruction_at S (Owner.Routine a.routine) a.context.place) o
        (sym (context_twice (need.registers (Owner.Routine a.routine)) a.context))
        (subst (IsOf (Owner.Routine a.routine) ByRoutine) (sym e) refl)
        (values_held (Owner.Routine a.routine) a.context (routine_holds S need enough o held a e))
        (enough.each (Owner.Routine a.routine) a.context.place)

    caller_alike : (d : KeptCaller) (o : Kept) → HasAllowedIndices need o
        → AreAlikeRecorded need (caller_executes_in S d o) (caller_executes_in S d (cleaned need o))
    caller_alike (ByTask t) o held =
        executed_alike (Owner.Task t) (ByTask t) (o.slots t).context (cleaned_context (need.registers (Owner.Task t)) (o.slots t).context)
        (instruction_at S (Owner.Task t) (o.slots t).context.place) o
        (sym (context_twice (need.registers (Owner.Task t)) (o.slots t).context)) refl
        (values_held (Owner.Task t) (o.slots t).context (task_holds S need enough o held t))
        (enough.each (Owner.Task t) (o.slots t).context.place)
    caller_alike ByRoutine o held = routine_alike o held o.active refl
    caller_alike ByNobody o held = idle_alike o

    pub execute_alike : (o : Kept) → HasAllowedIndices need o → AreAlikeRecorded need (execute_phase_in S o) (execute_phase_in S (cleaned need o))
    unfolding execute_phase_in
    execute_alike o held =
        subst (λ d. AreAlikeRecorded need (caller_executes_in S (caller_in o) o) (caller_executes_in S d (cleaned need o)))
        (sym (caller_in_clean S (cleaning need) (cleaned_words need) (cleaned_shared need.shared) (fresh_clean need) o)) (caller_alike (caller_in o) o held)
