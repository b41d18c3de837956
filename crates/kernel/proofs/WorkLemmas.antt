-- Ticks in which the running task executes a plain instruction, and nothing else happens: what they record and leave.
use Rattle.std.proofs.Common.{◌≡◌, ℕ, ◌+◌, Bool, true, false, cond, [], ◌∷◌, ◌++◌, length, refl, sym, ◌∙◌, ap}
use Rattle.std.specs.Prelude.{◌==◌}
use Rattle.std.proofs.Math.Path.{fun_ext}
use Rattle.osek_base.specs.declared.ids.Owner.{Owner}
use Rattle.osek_base.specs.declared.instr.Instr.{Instr}
use Rattle.osek_base.specs.declared.trace_event.Outcome.{Outcome}
use Rattle.osek_base.specs.declared.trace_event.TraceEvent.{TraceEvent}
use Rattle.osek_base.specs.Alarm.{due_alarms}
use Rattle.osek_base.specs.Instruction.{Done, plain}
use Rattle.osek_base.specs.State.{words_after}
use Rattle.osek_base.specs.System.{System, instruction_at}
use Rattle.osek_base.specs.Types.{PlainInstr}
use Rattle.law_runs.proofs.Foremost.{equal}
use Rattle.ready_queues.specs.QueueMoves.{changed_at}
use Rattle.law_kept.specs.Kept.{Kept, Slot}
use Rattle.law_kept.specs.KeptService.{ByTask, bare, slot_moved}
use Rattle.law_kept.specs.KeptTick.{KeptStep, and_then_in, caller_executes_in, execute_phase_in, executed_in, last_phase_in, silent_in, tick_in}
use Rattle.law_kept.specs.Moves.{KeptRecorded, rescheduled, slot_changed}
use Rattle.law_kept.specs.Quiet.{later}
use Rattle.services.specs.Dispatched.{is_dispatched_in}
use Rattle.services.specs.Steady.{IsSteady}
use Rattle.services.proofs.DispatchedLemmas.{gone_on_dispatched, rescheduled_again}
use Rattle.kernel.specs.Working.{at_rest, unplaced}
use Rattle.kernel.proofs.SteadyLemmas.{before_silent, calls}

-- what a plain instruction does, records and leaves
abbrev pub done_by : ℕ → PlainInstr → Kept → Done
done_by t p o = plain p (o.slots t).context (o.words (Owner.Task t))

abbrev pub work_event : ℕ → PlainInstr → Kept → TraceEvent
work_event t p o =
    TraceEvent.Executed (Owner.Task t) (o.slots t).context.place (Instr.Plain p) (Outcome.Plain (done_by t p o).effect)

abbrev written : ℕ → PlainInstr → Kept → Kept
written t p o = record o { words = words_after o.words (Owner.Task t) (done_by t p o).effect }

abbrev pub worked : ℕ → PlainInstr → Kept → Kept
worked t p o = slot_changed t (slot_moved (done_by t p o).context) (written t p o)

abbrev step_of : KeptRecorded → KeptRecorded → KeptStep
step_of ready done = record { events = ready.events ++ done.events; after = record done.state { tick = done.state.tick + 1 } }

module _ (S : System) (o : Kept) (t : ℕ) (steady : IsSteady S o t) (p : PlainInstr)
    (is : instruction_at S (Owner.Task t) (o.slots t).context.place ≡ Instr.Plain p) where
  executes : execute_phase_in S o ≡ record { events = work_event t p o ∷ []; state = worked t p o }
  unfolding execute_phase_in
  executes =
      ap (λ c. caller_executes_in S c o) (calls S o t steady)
      ∙ ap (λ i. executed_in S (Owner.Task t) (ByTask t) (o.slots t).context i o) is
      ∙ ap (λ gone. record { events = work_event t p o ∷ []; state = cond gone (written t p o) (worked t p o) }) steady.stands

  still_dispatched : is_dispatched_in S (worked t p o) ≡ true
  still_dispatched =
      sym (ap (λ gone. is_dispatched_in S (cond gone (written t p o) (worked t p o))) steady.stands)
      ∙ gone_on_dispatched S (written t p o) (ByTask t) (done_by t p o).context ∙ steady.known

  last_silent : last_phase_in S (worked t p o) ≡ silent_in (worked t p o)
  last_silent =
      ap (λ over. cond over (silent_in (worked t p o)) (rescheduled S (worked t p o))) steady.on
      ∙ rescheduled_again S (worked t p o) still_dispatched

  pub work_step : length o.alarms ≡ length S.alarms → due_alarms S (bare o) ≡ []
      → tick_in S [] o ≡ record { events = work_event t p o ∷ []; after = later 1 (worked t p o) }
  unfolding tick_in
  work_step size none =
      ap (λ r. step_of r (and_then_in (execute_phase_in S r.state) (last_phase_in S))) (before_silent S o t steady size none)
      ∙ ap (λ r. step_of (silent_in o) (and_then_in r (last_phase_in S))) executes
      ∙ ap (λ l. step_of (silent_in o) (record { events = work_event t p o ∷ l.events; state = l.state })) last_silent

-- but for the clock, words, registers and place it leaves what it found
module _ (o : Kept) (t : ℕ) (p : PlainInstr) where
  placeless : (u : ℕ) → unplaced (changed_at o.slots t (slot_moved (done_by t p o).context (o.slots t)) u) ≡ unplaced (o.slots u)
  placeless u = go (t == u) refl
    where
      go : (b : Bool) → (t == u) ≡ b
          → unplaced (cond b (slot_moved (done_by t p o).context (o.slots t)) (o.slots u)) ≡ unplaced (o.slots u)
      go true e = ap (λ v. unplaced (o.slots v)) (equal t u e)
      go false e = refl

  pub work_rests : at_rest (later 1 (worked t p o)) ≡ at_rest o
  work_rests = ap (λ (slots : ℕ → Slot). record (at_rest o) { slots = slots }) (fun_ext placeless)
