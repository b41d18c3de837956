-- What each tick keeps, a whole run keeps: the runs of a system and of its upper core, related by a function of states.
use Rattle.std.proofs.Common.{◌≡◌, ℕ, zero, suc, List, [], ◌∷◌, ◌++◌, map, refl, sym, ◌∙◌, ap, ap₂, subst}
use Rattle.std.specs.Prelude.{Bool, true, false}
use Rattle.osek_base.specs.declared.trace_event.TraceEvent.{TraceEvent}
use Rattle.osek_base.specs.declared.arrivals.Arrival.{Arrival}
use Rattle.osek_base.specs.System.{System}
use Rattle.osek_base.specs.State.{State}
use Rattle.osek_base.specs.Tick.{Step, tick}
use Rattle.osek_base.specs.Trace.{Run, arriving, boot, run, run_begun, one_more, step_added, with_earlier}
use Rattle.osek_base.specs.View.{view, sight}

-- one more sight of a view
view_more : (S : System) (p : ℕ) (steps : List Step) (step : Step)
    → map (sight S p) (steps ++ step ∷ []) ≡ map (sight S p) steps ++ sight S p step ∷ []
view_more S p [] step = refl
view_more S p (x ∷ steps) step = ap (λ rest. sight S p x ∷ rest) (view_more S p steps step)

module _ (S C : System) (p : ℕ) (Inv : State → Type 0) (up : State → State)
    (over_up : (s : State) → (up s).over ≡ s.over) (tick_up : (s : State) → (up s).tick ≡ s.tick)
    (keeps : (arrived : List ℕ) (s : State) → Inv s → Inv (tick S arrived s).after)
    (commutes : (arrived : List ℕ) (s : State) → Inv s → (tick C arrived (up s)).after ≡ up (tick S arrived s).after)
    (SameRecords : List TraceEvent → List TraceEvent → Type 0) (none : SameRecords [] [])
    (same_sight : (arrived : List ℕ) (s : State) → Inv s → (mine theirs : List TraceEvent) → SameRecords mine theirs
    → sight S p (with_earlier mine (tick S arrived s)) ≡ sight C p (with_earlier theirs (tick C arrived (up s)))) where
  -- the runs so far: the invariant, the states, the views, and what is unwritten
  abbrev pub Related : Run → Run → Type 0
  Related mine theirs =
      Inv mine.state × (theirs.state ≡ up mine.state)
      × (map (sight S p) mine.steps ≡ map (sight C p) theirs.steps) × SameRecords mine.unwritten theirs.unwritten

  added : (arrived : List ℕ) (mine theirs : Run) → Related mine theirs
      → Related (step_added mine (tick S arrived mine.state)) (step_added theirs (tick C arrived theirs.state))
  added arrived mine theirs (inv, same, views, earlier) =
      let step : sight S p (with_earlier mine.unwritten (tick S arrived mine.state))
      ≡ sight C p (with_earlier theirs.unwritten (tick C arrived theirs.state)) =
      same_sight arrived mine.state inv mine.unwritten theirs.unwritten earlier
      ∙ ap (λ s. sight C p (with_earlier theirs.unwritten (tick C arrived s))) (sym same) in (
        keeps arrived mine.state inv,
        ap (λ s. (tick C arrived s).after) same ∙ commutes arrived mine.state inv,
        view_more S p mine.steps (with_earlier mine.unwritten (tick S arrived mine.state))
            ∙ ap₂ (λ xs x. xs ++ x ∷ []) views step
            ∙ sym (view_more C p theirs.steps (with_earlier theirs.unwritten (tick C arrived theirs.state))),
        none,
      )

  -- one_more at an over and a tick of one's own
  abbrev pub more_at : System → List Arrival → Run → Bool → ℕ → Run
  more_at system arrivals r over t =
      elim over [ true ↦ r | false ↦ step_added r (tick system (arriving arrivals t) r.state) ]

  more_same : (arrivals : List Arrival) (mine theirs : Run) (over : Bool) (t : ℕ) → Related mine theirs
      → Related (more_at S arrivals mine over t) (more_at C arrivals theirs over t)
  more_same arrivals mine theirs true t related = related
  more_same arrivals mine theirs false t related = added (arriving arrivals t) mine theirs related

  more : (arrivals : List Arrival) (mine theirs : Run) → Related mine theirs
      → Related (one_more S arrivals mine) (one_more C arrivals theirs)
  more arrivals mine theirs related =
      let over : mine.state.over ≡ theirs.state.over = sym (over_up mine.state) ∙ ap (λ s. s.over) (sym related.1) in
      let at_tick : mine.state.tick ≡ theirs.state.tick = sym (tick_up mine.state) ∙ ap (λ s. s.tick) (sym related.1) in
      subst (λ o. Related (one_more S arrivals mine) (more_at C arrivals theirs o theirs.state.tick)) over
      (subst (λ t. Related (one_more S arrivals mine) (more_at C arrivals theirs mine.state.over t)) at_tick
      (more_same arrivals mine theirs mine.state.over mine.state.tick related))

  -- whole runs are related, where boot is
  pub runs_related : (mode : ℕ) (arrivals : List Arrival) → Related (run_begun (boot S mode)) (run_begun (boot C mode))
      → (n : ℕ) → Related (run S mode arrivals n) (run C mode arrivals n)
  unfolding run
  runs_related mode arrivals begun zero = begun
  runs_related mode arrivals begun (suc n) =
      more arrivals (run S mode arrivals n) (run C mode arrivals n) (runs_related mode arrivals begun n)

  -- so their views are equal
  pub views_equal : (mode : ℕ) (arrivals : List Arrival) → Related (run_begun (boot S mode)) (run_begun (boot C mode))
      → (n : ℕ) → view S p (run S mode arrivals n) ≡ view C p (run C mode arrivals n)
  views_equal mode arrivals begun n = (runs_related mode arrivals begun n).2
