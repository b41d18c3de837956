-- Each tick leaves registers that hold what they may have.
use Rattle.std.proofs.Common.{◌≡◌, ℕ, ◌+◌, List, ◌∷◌, refl, sym, ◌∙◌, ap, ap₂, subst}
use Rattle.std.specs.Prelude.{Option, Some, None}
use Rattle.std.specs.Option.{option_map}
use Rattle.osek_base.specs.declared.ids.Owner.{Owner}
use Rattle.osek_base.specs.declared.ids.ResId.{ResId}
use Rattle.osek_base.specs.declared.instr.Instr.{Instr}
use Rattle.osek_base.specs.declared.instr.Service.{Service}
use Rattle.osek_base.specs.Types.{ServiceCall}
use Rattle.osek_base.specs.declared.status.Status.{Status}
use Rattle.osek_base.specs.System.{System, instruction_at}
use Rattle.osek_base.specs.Instruction.{Context, next, plain}
use Rattle.osek_base.specs.State.{Active, Words, words_after, fresh_context, interrupts_off}
use Rattle.osek_base.specs.Service.{first_refusal}
use Rattle.osek_base.specs.Tick.{at_values}
use Rattle.law_kept.specs.Kept.{Kept}
use Rattle.law_kept.specs.Moves.{KeptRecorded}
use Rattle.law_kept.specs.KeptService.{KeptCaller, ByTask, ByRoutine, ByNobody, KeptReply, bare, caller_in, refusals_in, reply_in, service_in}
use Rattle.law_kept.specs.KeptTick.{with_context_in, controlled_in, executed_in, routine_executes, caller_executes_in, execute_phase_in, before_execution_in, last_phase_in, tick_in}
use Rattle.law_future.specs.Need.{Need, Respects, Suffices, allowed_context}
use Rattle.law_future.specs.Same.{allowed, HasAllowedIndices}
use Rattle.law_future.proofs.Steps.{mapped_routine, mapped_reply, refusals_clean, service_clean, before_clean, last_clean}
use Rattle.law_future.proofs.Contexts.{IsOf, context_mapped, service_active, control_mapped, control_of}
use Rattle.law_future.proofs.Indices.{HoldsThere, held_fresh, kept_where_held, held_where_kept, plain_holds, answered_holds, next_holds}

inside : {X : Type 0} (x y : X) → Some x ≡ Some y → x ≡ y
inside {X} x y e = ap unwrapped e
  where
    unwrapped : Option X → X
    unwrapped None = x
    unwrapped (Some z) = z

abbrev same_words : Words → Words
same_words w = w

abbrev same_shared : List (List ℕ) → List (List ℕ)
same_shared s = s

module _ (S : System) (need : Need) where
  abbrev holding : Owner → Context → Context
  holding who x = allowed_context (need.indices who) x

  fresh_held : (who : Owner) → holding who fresh_context ≡ fresh_context
  fresh_held who = held_fresh (need.indices who)

  -- ---- services

  load_held : (d : KeptCaller) (o : Kept) (r : Option ResId) (i : ℕ)
      → service_in S d (allowed need o) (Service.LoadShared r i)
      ≡ mapped_reply holding same_words same_shared (service_in S d o (Service.LoadShared r i))
  unfolding service_in
  load_held d o r i =
      ap (λ rs. reply_in S d (allowed need o) (Service.LoadShared r i) (first_refusal ((interrupts_off (bare o), Status.SysDisabled) ∷ rs)))
      (refusals_clean S holding same_words same_shared fresh_held d o (Service.LoadShared r i))
      ∙ go (first_refusal ((interrupts_off (bare o), Status.SysDisabled) ∷ refusals_in S d o (Service.LoadShared r i)))
    where
      go : (refusal : Option Status)
          → reply_in S d (allowed need o) (Service.LoadShared r i) refusal
          ≡ mapped_reply holding same_words same_shared (reply_in S d o (Service.LoadShared r i) refusal)
      go None = refl
      go (Some refusal) = refl

  store_held : (d : KeptCaller) (o : Kept) (r : Option ResId) (i v : ℕ)
      → service_in S d (allowed need o) (Service.StoreShared r i v)
      ≡ mapped_reply holding same_words same_shared (service_in S d o (Service.StoreShared r i v))
  unfolding service_in
  store_held d o r i v =
      ap (λ rs. reply_in S d (allowed need o) (Service.StoreShared r i v) (first_refusal ((interrupts_off (bare o), Status.SysDisabled) ∷ rs)))
      (refusals_clean S holding same_words same_shared fresh_held d o (Service.StoreShared r i v))
      ∙ go r (first_refusal ((interrupts_off (bare o), Status.SysDisabled) ∷ refusals_in S d o (Service.StoreShared r i v)))
    where
      go : (q : Option ResId) (refusal : Option Status)
          → reply_in S d (allowed need o) (Service.StoreShared q i v) refusal
          ≡ mapped_reply holding same_words same_shared (reply_in S d o (Service.StoreShared q i v) refusal)
      go None None = refl
      go (Some n) None = refl
      go q (Some refusal) = refl

  service_mapped : (d : KeptCaller) (o : Kept) (call : ServiceCall)
      → service_in S d (allowed need o) call ≡ mapped_reply holding same_words same_shared (service_in S d o call)
  service_mapped d o (Service.LoadShared r i) = load_held d o r i
  service_mapped d o (Service.StoreShared r i v) = store_held d o r i v
  service_mapped d o call = service_clean S holding same_words same_shared fresh_held d o call refl

  service_held : (d : KeptCaller) (o : Kept) (call : ServiceCall) → HasAllowedIndices need o → HasAllowedIndices need (service_in S d o call).state
  service_held d o call h =
      sym (ap (λ (r : KeptReply). r.state) (service_mapped d o call)) ∙ ap (λ z. (service_in S d z call).state) h

  -- ---- one instruction

  module _ (enough : Suffices S need) (who : Owner) (d : KeptCaller) where
    contexts_held : (x : Context) (o : Kept) → IsOf who d o.active → HasAllowedIndices need o
        → HoldsThere (need.indices who) x → HasAllowedIndices need (with_context_in d x o)
    contexts_held x o of h holds =
        context_mapped holding same_words same_shared who d x o of
        ∙ ap₂ (with_context_in d) (kept_where_held (need.indices who) x holds) h

    executed_held : (x : Context) (what : Instr) (o : Kept) → HasAllowedIndices need o → IsOf who d o.active
        → HoldsThere (need.indices who) x → Respects need who x.place what
        → HasAllowedIndices need (executed_in S who d x what o).state
    executed_held x (Instr.Plain p) o h of holds respects =
        contexts_held (plain p x (o.words who)).context
        (record o { words = words_after o.words who (plain p x (o.words who)).effect }) of
        (λ i. record (h i) { words = words_after o.words who (plain p x (o.words who)).effect })
        (plain_holds (need.indices who) (enough.zero who) (enough.beyond who) p x (o.words who) respects.1 holds)
    executed_held x (Instr.Service call) o h of holds respects =
        contexts_held _ (service_in S d o (at_values x call)).state
        (subst (IsOf who d) (sym (service_active S d o (at_values x call))) of)
        (service_held d o (at_values x call) h)
        (answered_holds (need.indices who) (enough.zero who) (enough.beyond who) (service_in S d o (at_values x call)).status
        (service_in S d o (at_values x call)).results x respects.1 respects.2 holds)
    executed_held x (Instr.Control control) o h of holds respects =
        contexts_held (next x) (controlled_in control o) (control_of who d control o of)
        (sym (control_mapped holding same_words same_shared control o) ∙ ap (controlled_in control) h)
        (next_holds (need.indices who) (enough.zero who) (enough.beyond who) x respects holds)

  module _ (enough : Suffices S need) where
    pub task_holds : (o : Kept) → HasAllowedIndices need o → (t : ℕ)
        → HoldsThere (need.indices (Owner.Task t)) (o.slots t).context
    task_holds o h t =
        held_where_kept (need.indices (Owner.Task t)) (enough.zero (Owner.Task t)) (enough.beyond (Owner.Task t)) (o.slots t).context
        (ap (λ (z : Kept). (z.slots t).context) h)

    pub routine_holds : (o : Kept) → HasAllowedIndices need o → (a : Active) → o.active ≡ Some a
        → HoldsThere (need.indices (Owner.Routine a.routine)) a.context
    routine_holds o h a e =
        held_where_kept (need.indices (Owner.Routine a.routine)) (enough.zero (Owner.Routine a.routine)) (enough.beyond (Owner.Routine a.routine)) a.context
        (ap (λ (z : Active). z.context)
        (inside (mapped_routine holding a) a (subst (λ z. option_map (mapped_routine holding) z ≡ z) e (ap (λ (z : Kept). z.active) h))))

    routine_held : (o : Kept) → HasAllowedIndices need o → (active : Option Active) → o.active ≡ active
        → HasAllowedIndices need (routine_executes S active o).state
    routine_held o h None e = h
    routine_held o h (Some a) e =
        executed_held enough (Owner.Routine a.routine) ByRoutine a.context
        (instruction_at S (Owner.Routine a.routine) a.context.place) o h
        (subst (IsOf (Owner.Routine a.routine) ByRoutine) (sym e) refl) (routine_holds o h a e)
        (enough.each (Owner.Routine a.routine) a.context.place)

    caller_held : (d : KeptCaller) (o : Kept) → HasAllowedIndices need o → HasAllowedIndices need (caller_executes_in S d o).state
    caller_held (ByTask t) o h =
        executed_held enough (Owner.Task t) (ByTask t) (o.slots t).context
        (instruction_at S (Owner.Task t) (o.slots t).context.place) o h refl (task_holds o h t)
        (enough.each (Owner.Task t) (o.slots t).context.place)
    caller_held ByRoutine o h = routine_held o h o.active refl
    caller_held ByNobody o h = h

    pub execute_held : (o : Kept) → HasAllowedIndices need o → HasAllowedIndices need (execute_phase_in S o).state
    unfolding execute_phase_in
    execute_held o h = caller_held (caller_in o) o h

    -- ---- phases

    pub before_held : (arrived : List ℕ) (o : Kept) → HasAllowedIndices need o → HasAllowedIndices need (before_execution_in S arrived o).state
    before_held arrived o h =
        sym (ap (λ (r : KeptRecorded). r.state) (before_clean S holding same_words same_shared fresh_held arrived o))
        ∙ ap (λ z. (before_execution_in S arrived z).state) h

    pub last_held : (o : Kept) → HasAllowedIndices need o → HasAllowedIndices need (last_phase_in S o).state
    last_held o h =
        sym (ap (λ (r : KeptRecorded). r.state) (last_clean S holding same_words same_shared fresh_held o))
        ∙ ap (λ z. (last_phase_in S z).state) h

    pub tick_held : (arrived : List ℕ) (o : Kept) → HasAllowedIndices need o → HasAllowedIndices need (tick_in S arrived o).after
    unfolding tick_in
    tick_held arrived o h =
        let last = last_held (execute_phase_in S (before_execution_in S arrived o).state).state
        (execute_held (before_execution_in S arrived o).state (before_held arrived o h)) in
        ap (λ (z : Kept). record z { tick = z.tick + 1 }) last
