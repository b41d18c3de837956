-- A tick that begins in any way is a tick of a machine, and of a kernel with it.
use Rattle.std.proofs.Common.{◌≡◌, ℕ, ◌+◌, ◌-◌, ◌<◌, ◌⊎◌, inl, inr, Bool, false, List, [], ◌∷◌, ◌++◌, length, refl, sym, ◌∙◌, ap, subst, arith}
use Rattle.std.specs.Prelude.{Option, Some, None, IfSome, slice_range}
use Rattle.std.specs.List.{All}
use Rattle.std.proofs.lemmas.List.Elements.{recursion_from_All}
use Rattle.osek_base.specs.declared.arrivals.Arrival.{Arrival}
use Rattle.osek_base.specs.declared.executed.Executed.{Executed}
use Rattle.osek_base.specs.declared.limits.TheConstants.{MAX_ALARMS, MAX_TICKS}
use Rattle.osek_base.specs.declared.trace_event.TraceEvent.{TraceEvent}
use Rattle.osek_base.specs.Executed.{StandsIn, idle_or_executed}
use Rattle.osek_base.specs.System.{System}
use Rattle.osek_base.specs.Trace.{arriving, run}
use Rattle.law_kept.specs.Kept.{Kept}
use Rattle.kernel.specs.declared.acted.Acted.{Acted}
use Rattle.kernel.specs.declared.ticked.Ticked.{Ticked}
use Rattle.kernel.specs.Begun.{GoesOnBy, HasGoneOn, IsFirst, MayGoOn, NoneComes, StartsTick}
use Rattle.kernel.specs.Keeping.{IsKernel}
use Rattle.kernel.specs.Machine.{HasCome, HasTicked, IsMachine, Machine, Ticks, between, next_tick, picture as picture_in, system_of as system_in}
use Rattle.kernel.specs.Processor.{system_of}
use Rattle.kernel.specs.Progress.{AreLeft, HasRunApart, HaveArrived, IsNextArrival, Progress, TakesArrived}
use Rattle.kernel.specs.Steady.{BeginsSteady, ExecutesNext}
use Rattle.kernel.specs.Watches.{Begins, Finishes, IsReady, MayStart, Starts, Watched, early}
use Rattle.kernel.proofs.ArrivalLemmas.{arriving_known}
use Rattle.kernel.proofs.IdleLemmas.{none_acted}
use Rattle.kernel.proofs.IdleRuns.{progress}
use Rattle.kernel.proofs.LawLemmas.{lawful}
use Rattle.kernel.proofs.SteadyLemmas.{starts_steady}
use Rattle.kernel.proofs.TickLemmas.{has_begun, record_told, ticked}

-- ---- how it begins

-- with a task that goes on, where nothing comes before its instruction
pub starts_first : (counted : Bool) (arrived : List ℕ) (n : ℕ) (w st : Watched) (opening : List TraceEvent) (now : Acted) (t : ℕ)
    → MayStart counted n w opening → NoneComes n arrived → BeginsSteady w st t → now ≡ none_acted
    → StartsTick counted arrived n w st opening opening [] now
starts_first counted arrived n w st opening now t may none begins now_is =
    let empty : opening ≡ [] = may.none_later none.not_first in
    record {
      on = begins.passes.steady.on;
      starts =
          subst (λ v. Starts counted (MAX_ALARMS + 2) (early v) n w st opening [] now) (sym none.none)
          (subst (λ v. Starts counted (MAX_ALARMS + 2) (early []) n w st v [] now) (sym empty)
          (subst (λ v. Starts counted (MAX_ALARMS + 2) (early []) n w st [] [] v) (sym now_is)
          (starts_steady counted n w opening may none.not_first st t begins)));
      none_left = empty;
    }

-- the task that executes next, where nothing is recorded
pub first_of : (w : Watched) (records : List TraceEvent) (r : Option ℕ) → length records ≡ 0 → IfSome r (ExecutesNext w)
    → IfSome r (IsFirst w records)
first_of w records None none h = h
first_of w [] (Some t) none h = record { none = refl; executes = h }
first_of w (e ∷ records) (Some t) none h = absurd (omega (arith, none))

-- it executes next
pub executes_first : (w : Watched) (records : List TraceEvent) (r : Option ℕ) → IfSome r (IsFirst w records)
    → IfSome r (ExecutesNext w)
executes_first w records None h = h
executes_first w records (Some t) h = h.executes

-- ---- a machine's tick

module _ (counted : Bool) (arrived : List ℕ) (n : ℕ) (w st bg : Watched) (opening opened before : List TraceEvent) (acted acts : Acted)
    (m : Machine) (is : between w n opening acted ≡ m)
    (h : IsMachine counted w.processor.objects.tick (between w n opening acted)) (behind : List TraceEvent)
    (may : MayGoOn arrived m behind) (starts : StartsTick counted arrived n w st opening opened before acts)
    (begins : Begins counted n st bg) where
  low : n < MAX_TICKS
  low = subst (λ (x : Machine). next_tick x < MAX_TICKS) (sym is) may.limit

  -- it is ready for its instruction
  pub is_ready : IsReady counted bg behind
  is_ready = record {
    begun = has_begun counted w n opening acted h low arrived st bg opening before starts.on starts.starts.does begins;
    none = may.none;
  }

  -- it is done, and the machine keeps its run
  pub record IsDone (clock : ℕ) (new : Machine) (executed : Option Executed) (after : List TraceEvent) : Type 0 where
    pub keeps : IsMachine counted clock new
    pub on : (picture_in m).over ≡ false
    pub done : HasTicked counted arrived m new before executed after

  pub is_done : (la : Watched) (executed : Option Executed) (after : List TraceEvent) → Finishes counted (n + 1) bg la executed after
      → IsDone la.processor.objects.tick (between la (n + 1) opened acts) executed after
  is_done la executed after r =
      let new : Machine = between la (n + 1) opened acts in
      let one = starts.starts.does in
      let all = ticked counted arrived n w st bg r.between la opening opened opening before r.first after acted acts
      (idle_or_executed (system_of bg.processor) executed) h low starts.on
      (recursion_from_All (λ i. i < length (system_of w.processor).routines) arrived
      (subst (λ (x : Machine). All (λ i. i < length (system_in x).routines) arrived) (sym is) may.known))
      refl starts.none_left starts.starts.acted
      (record { one = one; two = begins; three = r.executes.does; four = r.reschedules }) in
      let system : system_of bg.processor ≡ system_of w.processor = ap system_of begins.processor ∙ one.does.system in
      record {
        keeps = all.keeps;
        on = subst (λ (x : Machine). (picture_in x).over ≡ false) is starts.on;
        done = subst (λ (x : Machine). HasTicked counted arrived x new before executed after) is
            (record {
              ticks =
                  subst (λ T. Ticks arrived (between w n opening acted) new (before ++ idle_or_executed T executed ∷ after))
                  system all.ticks;
              goes_on = all.goes_on;
              was_of_run = h.of_run;
              of_run = all.keeps.of_run;
              there = subst (λ T. IfSome executed (StandsIn T)) system r.executes.there;
              few = let less = starts.starts.few in let fewer = r.few in omega (arith, less, fewer);
              acted = starts.starts.acted;
            });
      }

-- ---- and a kernel with it

-- of the kernel's list, and its next tick
pub taken : (arrivals list : List Arrival) (n tick first next end coming : ℕ) (these : List ℕ) → list ≡ arrivals → tick ≡ n
    → TakesArrived list tick first next end coming these → TakesArrived arrivals n first next end coming these
taken arrivals list n tick first next end coming these list_is tick_is takes =
    subst (λ t. TakesArrived arrivals t first next end coming these) tick_is
    (subst (λ xs. TakesArrived xs tick first next end coming these) list_is takes)

module _ (counted : Bool) (S : System) (mode : ℕ) (arrivals : List Arrival) (lent : List ℕ) (earlier cursor coming : ℕ)
    (old : Progress) (m : Machine) (is : progress S mode arrivals m ≡ old)
    (v : IsKernel counted S mode arrivals lent earlier cursor coming m) where
  -- the kernel keeps the run behind a tick
  pub kernel_keeps : (new_cursor new_coming : ℕ) (these : List ℕ) → arriving arrivals (next_tick m) ≡ these
      → HaveArrived arrivals (next_tick m) cursor new_cursor → IsNextArrival arrivals new_cursor new_coming
      → (new : Machine) (before behind : List TraceEvent) (executed : Option Executed)
      → HasTicked counted these m new before executed behind
      → IsKernel counted S mode arrivals lent cursor new_cursor new_coming new
  kernel_keeps new_cursor new_coming these lent_is arrive ahead new before behind executed done =
      let next = done.ticks.next in
      let last_is : next_tick new - 1 ≡ next_tick m = omega (arith, next) in
      record {
        proper = v.proper;
        known = v.known;
        routines = v.routines;
        left = subst (AreLeft arrivals new_cursor) (sym next) arrive.left;
        first = λ none. absurd (omega (arith, next, none));
        ahead = λ later. ahead;
        last = λ begun.
            ap (arriving arrivals) last_is ∙ arrive.these
            ∙ ap (λ (xs : List ℕ). slice_range xs cursor new_cursor) (sym v.routines);
        forward = arrive.forward;
        come =
            subst (λ (T : System). HasCome counted T mode arrivals (next_tick new) new) (done.ticks.system ∙ v.come.at.system)
            (done.goes_on mode arrivals lent_is
            (subst (λ (T : System). HasCome counted T mode arrivals (next_tick m) m) (sym v.come.at.system) v.come));
      }

  module _ (new_cursor new_coming : ℕ) (these : List ℕ)
      (takes : TakesArrived arrivals (next_tick m) cursor coming new_cursor new_coming these) where
    pub may_go_on : (behind : List TraceEvent) → old.ticks < MAX_TICKS → behind ≡ [] → MayGoOn these m behind
    may_go_on behind low none = record {
      limit = subst (λ (x : Progress). x.ticks < MAX_TICKS) (sym is) low;
      known =
          subst (λ (xs : List ℕ). All (λ i. i < length (system_in m).routines) xs) (sym takes.lent)
          (subst (λ (T : System). All (λ i. i < length T.routines) (arriving arrivals (next_tick m))) (sym v.come.at.system)
          (arriving_known (length S.routines) arrivals (next_tick m) v.known));
      none = none;
    }

    over_is : (picture_in m).over ≡ (run S mode arrivals (next_tick m)).state.over
    over_is = ap (λ (o : Kept). o.over) v.come.at.same

    kernel_ran : (new : Machine) (before behind : List TraceEvent) (executed : Option Executed) → (picture_in m).over ≡ false
        → HasTicked counted these m new before executed behind
        → HasRunApart (progress S mode arrivals m) (progress S mode arrivals new) before executed behind
    kernel_ran new before behind executed on done = record {
      records =
          ap (λ (T : System). before ++ idle_or_executed T executed ∷ behind) (sym v.come.at.system)
          ∙ done.ticks.events
          ∙ record_told counted S mode arrivals m these v.proper v.come (sym over_is ∙ on) (sym takes.lent);
      next = ap (λ n. record (progress S mode arrivals m) { ticks = n }) done.ticks.next;
      lawful = lawful (progress S mode arrivals new) v.proper;
      there = subst (λ (T : System). IfSome executed (StandsIn T)) v.come.at.system done.there;
      few = done.few;
      proper = v.proper;
    }

    pub has_gone_on : (t : Ticked) (new : Machine) (before behind : List TraceEvent) (executed : Option Executed)
        → GoesOnBy counted these m new before behind executed t
        → HasGoneOn old (progress S mode arrivals new) before behind executed t
    has_gone_on t new before behind executed goes =
        subst (λ (x : Progress). HasGoneOn x (progress S mode arrivals new) before behind executed t) is (by t goes)
      where
        by : (t : Ticked) → GoesOnBy counted these m new before behind executed t
            → HasGoneOn (progress S mode arrivals m) (progress S mode arrivals new) before behind executed t
        by (Ticked.First e) g = (sym over_is ∙ g.0, kernel_ran new [] behind (Some e) g.0 g.1)
        by Ticked.Any g = (sym over_is ∙ g.0, kernel_ran new before behind executed g.0 g.1)
        by Ticked.Over g = (sym over_is ∙ g.0, ap (progress S mode arrivals) g.1)

    -- the kernel keeps the run behind one that was done
    pub kernel_goes : (t : Ticked) (new : Machine) (before behind : List TraceEvent) (executed : Option Executed)
        → ((e : Executed) × (t ≡ Ticked.First e)) ⊎ (t ≡ Ticked.Any)
        → GoesOnBy counted these m new before behind executed t
        → IsKernel counted S mode arrivals lent cursor new_cursor new_coming new
    kernel_goes t new before behind executed (inl first) goes =
        kernel_keeps new_cursor new_coming these (sym takes.lent) takes.arrive takes.ahead new [] behind (Some first.0)
        (subst (GoesOnBy counted these m new before behind executed) first.1 goes).1
    kernel_goes t new before behind executed (inr any) goes =
        kernel_keeps new_cursor new_coming these (sym takes.lent) takes.arrive takes.ahead new before behind executed
        (subst (GoesOnBy counted these m new before behind executed) any goes).1
