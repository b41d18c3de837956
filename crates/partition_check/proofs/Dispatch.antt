-- A reschedule in the system and in its upper core: states, lines, and the layers that it keeps.
use Rattle.std.proofs.Common.{◌≡◌, ℕ, ◌<◌, ◌≤◌, ◌⊎◌, Bool, true, false, cond, List, [], ◌∷◌, ◌++◌, map, length, refl, sym, ◌∙◌, ap, ap₂, subst, inl, inr, arith}
use Rattle.std.specs.Prelude.{Option, Some, None, is_some, ◌==◌, nat_le, decimal, codes}
use Rattle.std.specs.List.{filter, AllByRecursion, cons_option}
use Rattle.std.proofs.lemmas.Bool.{cases_lt, and_parts}
use Rattle.std.proofs.lemmas.List.{map-append, get_or_past, append-nil}
use Rattle.std.proofs.lemmas.List.Elements.{filter_map-append}
use Rattle.osek_base.specs.declared.trace_event.TraceEvent.{TraceEvent}
use Rattle.osek_base.specs.Names.{name_at}
use Rattle.osek_base.specs.System.{System, Task, no_task}
use Rattle.osek_base.specs.Ceiling.{internal_ceiling, internal_ceiling_by}
use Rattle.osek_base.specs.State.{Job, JobId, same_id}
use Rattle.osek_base.specs.Priority.{dynamic_priority}
use Rattle.osek_base.specs.Reschedule.{switch_records, left_record, entered_record, hooked}
use Rattle.osek_base.specs.Upper.{is_upper_task}
use Rattle.osek_base.specs.Agree.{upper_core}
use Rattle.osek_base.specs.Text.{line}
use Rattle.osek_base.specs.View.{view_records, shown}
use Rattle.osek_base.proofs.ForemostLemmas.{keep}
use Rattle.partition_check.proofs.UpperState.{up_job, is_upper_id, is_upper_job, is_ready_job, SameUnder, Fits}
use Rattle.partition_check.proofs.Ranks.{clash}
use Rattle.partition_check.proofs.PriorityUp.{first_tasks, dynamic_up, dynamic_high, dynamic_low}
use Rattle.partition_check.proofs.Shared.{IsCounterpart, IsLow, IsLayeredJob, SameLines}
use Rattle.partition_check.proofs.ListsUp.{differ}

-- ---- priorities fit

module _ (S : System) (p : ℕ) (both : IsCounterpart S p) (below : IsLow S p) where
  jobs_split : (jobs : List Job) → AllByRecursion (IsLayeredJob S p) jobs
      → AllByRecursion (λ j. (is_upper_job S p j ≡ true → p ≤ dynamic_priority S j) × (is_upper_job S p j ≡ false → dynamic_priority S j < p)) jobs
  jobs_split [] all = tt
  jobs_split (j ∷ jobs) all =
      ((λ h. dynamic_high S p j h, λ h. dynamic_low S p below j all.0 h), jobs_split jobs all.1)

  jobs_same : (jobs : List Job) → AllByRecursion (IsLayeredJob S p) jobs
      → AllByRecursion (SameUnder (up_job S p) is_ready_job is_ready_job (dynamic_priority S) (dynamic_priority (upper_core S p))) (filter (is_upper_job S p) jobs)
  jobs_same [] all = tt
  jobs_same (j ∷ jobs) all = go (is_upper_job S p j) refl (jobs_same jobs all.1)
    where
      go : (b : Bool) → is_upper_job S p j ≡ b
          → AllByRecursion (SameUnder (up_job S p) is_ready_job is_ready_job (dynamic_priority S) (dynamic_priority (upper_core S p))) (filter (is_upper_job S p) jobs)
          → AllByRecursion (SameUnder (up_job S p) is_ready_job is_ready_job (dynamic_priority S) (dynamic_priority (upper_core S p))) (cond b (j ∷ filter (is_upper_job S p) jobs) (filter (is_upper_job S p) jobs))
      go true h rest = ((refl, dynamic_up S p both j all.0 h), rest)
      go false h rest = rest

  -- what has no number has no internal ceiling
  no_internal : (A : System) (t : ℕ) → length A.tasks ≤ t → internal_ceiling A t ≡ None
  no_internal A t h = ap (λ (a : Task). internal_ceiling_by A a.schedule a.resources) (get_or_past A.tasks t no_task h)

  internal_some : (t : ℕ) → is_upper_task S p t ≡ true → is_some (internal_ceiling (upper_core S p) t) ≡ is_some (internal_ceiling S t)
  internal_some t high = go (cases_lt t (length S.tasks))
    where
      go : (t < length S.tasks) ⊎ (length S.tasks ≤ t) → is_some (internal_ceiling (upper_core S p) t) ≡ is_some (internal_ceiling S t)
      go (inl inside) = ap is_some (both.internal t (first_tasks S p both t inside high))
      go (inr past) =
          ap is_some (no_internal (upper_core S p) t (omega (arith, both.task_count, both.within, past)) ∙ sym (no_internal S t past))

  pub fits : (jobs : List Job) → AllByRecursion (IsLayeredJob S p) jobs → Fits S (upper_core S p) p jobs
  fits jobs all = record { split = jobs_split jobs all; priorities = jobs_same jobs all; internal = internal_some }

-- ---- lines

pub lines_append : (S : System) (p : ℕ) (a b a' b' : List TraceEvent) → SameLines S p a a' → SameLines S p b b'
    → SameLines S p (a ++ b) (a' ++ b')
lines_append S p a b a' b' first second n =
    ap (map (line S.names n)) (filter_map-append (shown S p) a b)
    ∙ map-append (line S.names n) (view_records S p a) (view_records S p b)
    ∙ ap₂ (λ xs ys. xs ++ ys) (first n) (second n)
    ∙ sym (map-append (line (upper_core S p).names n) (view_records (upper_core S p) p a') (view_records (upper_core S p) p b'))
    ∙ ap (map (line (upper_core S p).names n)) (sym (filter_map-append (shown (upper_core S p) p) a' b'))

pub lines_none : (S : System) (p : ℕ) → SameLines S p [] []
lines_none S p n = refl

-- one record that both show, and one that the system alone makes and doesn't show
pub lines_one : (S : System) (p : ℕ) (mine theirs : TraceEvent) → shown S p mine ≡ Some mine → shown (upper_core S p) p theirs ≡ Some theirs
    → ((n : ℕ) → line S.names n mine ≡ line (upper_core S p).names n theirs) → SameLines S p (mine ∷ []) (theirs ∷ [])
lines_one S p mine theirs h k same n =
    ap (λ o. map (line S.names n) (cons_option o [])) h
    ∙ ap (λ (l : List ℕ). l ∷ []) (same n)
    ∙ ap (λ o. map (line (upper_core S p).names n) (cons_option o [])) (sym k)

pub lines_hidden : (S : System) (p : ℕ) (mine : TraceEvent) → shown S p mine ≡ None → SameLines S p (mine ∷ []) []
lines_hidden S p mine h n = ap (λ o. map (line S.names n) (cons_option o [])) h

pub hooked_one : (S : System) (p : ℕ) (on : Bool) (mine theirs : TraceEvent) → SameLines S p (mine ∷ []) (theirs ∷ [])
    → SameLines S p (hooked on mine) (hooked on theirs)
hooked_one S p true mine theirs same = same
hooked_one S p false mine theirs same = lines_none S p

pub hooked_hidden : (S : System) (p : ℕ) (on : Bool) (mine : TraceEvent) → SameLines S p (mine ∷ []) []
    → SameLines S p (hooked on mine) []
hooked_hidden S p true mine same = same
hooked_hidden S p false mine same = lines_none S p

module _ (S : System) (p : ℕ) (both : IsCounterpart S p) where
  -- an upper task is upper in the core
  pub still_upper : (t : ℕ) → t < length S.tasks → is_upper_task S p t ≡ true → is_upper_task (upper_core S p) p t ≡ true
  still_upper t inside high =
      ap (λ (a : Task). nat_le p a.priority) (both.tasks t (first_tasks S p both t inside high)) ∙ high

  same_name : (t : ℕ) → t < length S.tasks → is_upper_task S p t ≡ true → name_at S.names.tasks t ≡ name_at (upper_core S p).names.tasks t
  same_name t inside high = sym (both.task_names t (first_tasks S p both t inside high))

  post_upper : (t : ℕ) → t < length S.tasks → is_upper_task S p t ≡ true → SameLines S p (TraceEvent.Post t ∷ []) (TraceEvent.Post t ∷ [])
  post_upper t inside high =
      lines_one S p (TraceEvent.Post t) (TraceEvent.Post t)
      (ap (λ b. cond b (Some (TraceEvent.Post t)) None) high)
      (ap (λ b. cond b (Some (TraceEvent.Post t)) None) (still_upper t inside high))
      (λ n. ap (λ (name : List ℕ). decimal n ++ codes " " ++ (codes "post " ++ name)) (same_name t inside high))

  pre_upper : (t : ℕ) → t < length S.tasks → is_upper_task S p t ≡ true → SameLines S p (TraceEvent.Pre t ∷ []) (TraceEvent.Pre t ∷ [])
  pre_upper t inside high =
      lines_one S p (TraceEvent.Pre t) (TraceEvent.Pre t)
      (ap (λ b. cond b (Some (TraceEvent.Pre t)) None) high)
      (ap (λ b. cond b (Some (TraceEvent.Pre t)) None) (still_upper t inside high))
      (λ n. ap (λ (name : List ℕ). decimal n ++ codes " " ++ (codes "pre " ++ name)) (same_name t inside high))

  post_lower : (t : ℕ) → is_upper_task S p t ≡ false → SameLines S p (TraceEvent.Post t ∷ []) []
  post_lower t low = lines_hidden S p (TraceEvent.Post t) (ap (λ b. cond b (Some (TraceEvent.Post t)) None) low)

  pre_lower : (t : ℕ) → is_upper_task S p t ≡ false → SameLines S p (TraceEvent.Pre t ∷ []) []
  pre_lower t low = lines_hidden S p (TraceEvent.Pre t) (ap (λ b. cond b (Some (TraceEvent.Pre t)) None) low)

  left_lines : (old : JobId) → old.task < length S.tasks → (u : Bool) → is_upper_id S p old ≡ u
      → SameLines S p (left_record S (Some old)) (left_record (upper_core S p) (cond u (Some old) None))
  left_lines old inside true h = hooked_one S p S.hooks.post_task (TraceEvent.Post old.task) (TraceEvent.Post old.task) (post_upper old.task inside h)
  left_lines old inside false h = hooked_hidden S p S.hooks.post_task (TraceEvent.Post old.task) (post_lower old.task h)

  entered_lines : (new : JobId) → new.task < length S.tasks → (u : Bool) → is_upper_id S p new ≡ u
      → SameLines S p (entered_record S (Some new)) (entered_record (upper_core S p) (cond u (Some new) None))
  entered_lines new inside true h = hooked_one S p S.hooks.pre_task (TraceEvent.Pre new.task) (TraceEvent.Pre new.task) (pre_upper new.task inside h)
  entered_lines new inside false h = hooked_hidden S p S.hooks.pre_task (TraceEvent.Pre new.task) (pre_lower new.task h)

  -- an upper job and a lower one have different ids
  apart : (old new : JobId) → is_upper_id S p old ≡ true → is_upper_id S p new ≡ false → same_id old new ≡ true → ⊥
  apart old new h k e =
      let same : (old.task == new.task) ≡ true = (and_parts _ _ e).0 in
      clash (sym same ∙ differ (is_upper_task S p) old.task new.task h k)

  apart' : (old new : JobId) → is_upper_id S p old ≡ false → is_upper_id S p new ≡ true → same_id old new ≡ true → ⊥
  apart' old new h k e =
      let same : (old.task == new.task) ≡ true = (and_parts _ _ e).0 in
      let other : (new.task == old.task) ≡ true = turned old.task new.task same in
      clash (sym other ∙ differ (is_upper_task S p) new.task old.task k h)
    where
      turned : (a b : ℕ) → (a == b) ≡ true → (b == a) ≡ true
      turned a b g = grind (arith, g)

  switch_both : (old new : JobId) → old.task < length S.tasks → new.task < length S.tasks → (a b : Bool)
      → is_upper_id S p old ≡ a → is_upper_id S p new ≡ b → (same : Bool) → same_id old new ≡ same
      → SameLines S p (cond same [] (left_record S (Some old) ++ entered_record S (Some new)))
      (switch_records (upper_core S p) (cond a (Some old) None) (cond b (Some new) None))
  switch_both old new inside inside' true true h k true e =
      rw e (lines_none S p)
  switch_both old new inside inside' true true h k false e =
      rw e (lines_append S p (left_record S (Some old)) (entered_record S (Some new)) (left_record (upper_core S p) (Some old)) (entered_record (upper_core S p) (Some new)) (left_lines old inside true h) (entered_lines new inside' true k))
  switch_both old new inside inside' true false h k true e = absurd (apart old new h k e)
  switch_both old new inside inside' true false h k false e =
      subst (SameLines S p (left_record S (Some old) ++ entered_record S (Some new))) (append-nil (left_record (upper_core S p) (Some old)))
      (lines_append S p (left_record S (Some old)) (entered_record S (Some new)) (left_record (upper_core S p) (Some old)) [] (left_lines old inside true h) (entered_lines new inside' false k))
  switch_both old new inside inside' false true h k true e = absurd (apart' old new h k e)
  switch_both old new inside inside' false true h k false e =
      lines_append S p (left_record S (Some old)) (entered_record S (Some new)) [] (entered_record (upper_core S p) (Some new)) (left_lines old inside false h) (entered_lines new inside' true k)
  switch_both old new inside inside' false false h k true e = lines_none S p
  switch_both old new inside inside' false false h k false e =
      lines_append S p (left_record S (Some old)) (entered_record S (Some new)) [] [] (left_lines old inside false h) (entered_lines new inside' false k)

  -- the records of a switch
  pub switch_lines : (old new : Option JobId)
      → ((id : JobId) → old ≡ Some id → id.task < length S.tasks) → ((id : JobId) → new ≡ Some id → id.task < length S.tasks)
      → SameLines S p (switch_records S old new)
      (switch_records (upper_core S p) (keep (is_upper_id S p) old) (keep (is_upper_id S p) new))
  switch_lines None None known known' = lines_none S p
  switch_lines None (Some new) known known' = go (is_upper_id S p new) refl
    where
      go : (b : Bool) → is_upper_id S p new ≡ b
          → SameLines S p (entered_record S (Some new)) (switch_records (upper_core S p) None (cond b (Some new) None))
      go true h = entered_lines new (known' new refl) true h
      go false h = entered_lines new (known' new refl) false h
  switch_lines (Some old) None known known' = go (is_upper_id S p old) refl
    where
      go : (b : Bool) → is_upper_id S p old ≡ b
          → SameLines S p (left_record S (Some old)) (switch_records (upper_core S p) (cond b (Some old) None) None)
      go true h = left_lines old (known old refl) true h
      go false h = left_lines old (known old refl) false h
  switch_lines (Some old) (Some new) known known' =
      switch_both old new (known old refl) (known' new refl) (is_upper_id S p old) (is_upper_id S p new) refl refl (same_id old new) refl
