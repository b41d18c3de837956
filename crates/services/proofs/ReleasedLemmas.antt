-- What is kept after the calling job was to release a resource.
use Rattle.std.proofs.Common.{ℕ, ◌≡◌, ◌<◌, Bool, true, false, cond, List, set, length, refl, sym, ◌∙◌, ap}
use Rattle.std.specs.Prelude.{◌==◌, Some, None}
use Rattle.std.proofs.lemmas.Bool.{false≢true}
use Rattle.std.proofs.lemmas.Grind.{get_or-set_at}
use Rattle.std.proofs.lemmas.List.{get_or-set_other}
use Rattle.std.proofs.Math.Path.{fun_ext}
use Rattle.osek_base.specs.declared.ids.ResId.{ResId}
use Rattle.osek_base.specs.Lists.{last_of}
use Rattle.osek_base.specs.Service.{is_resource}
use Rattle.law_runs.proofs.Foremost.{equal, self_equal}
use Rattle.ready_queues.specs.QueueMoves.{changed_at}
use Rattle.law_kept.specs.Kept.{Slot, unbegun}
use Rattle.law_kept.specs.KeptService.{KeptCaller, ByTask, ByRoutine, ByNobody, caller_in, got_last_in, slot_releases, with_caller_in}
use Rattle.services.specs.Calls.{calling_task}
use Rattle.services.specs.Objects.{Objects, by_task, kept_in}
use Rattle.services.proofs.DispatchedLemmas.{put_again}

-- a slot is put into a list
put_at : (slots : List Slot) (t u : ℕ) (a : Slot) → t < length slots → by_task (set slots t a) u ≡ changed_at (by_task slots) t a u
put_at slots t u a inside = go (t == u) refl
  where
    go : (b : Bool) → (t == u) ≡ b → by_task (set slots t a) u ≡ cond b a (by_task slots u)
    go true e = get_or-set_at slots t u a (unbegun 0) (sym (equal t u e)) inside
    go false e = get_or-set_other slots t u a (unbegun 0) (λ h. false≢true (sym e ∙ ap (λ v. t == v) h ∙ self_equal t))

module _ (o : Objects) (r : ResId) where
  slots_put : (t : ℕ) (a : Slot) → t < length o.slots
      → kept_in (record o { slots = set o.slots t a }) ≡ record (kept_in o) { slots = changed_at (by_task o.slots) t a }
  slots_put t a inside = ap (λ (f : ℕ → Slot). record (kept_in o) { slots = f }) (fun_ext (λ u. put_at o.slots t u a inside))

  given : (t : ℕ) (b : Bool)
      → record (kept_in o) { slots = changed_at (by_task o.slots) t (cond b (slot_releases (by_task o.slots t)) (by_task o.slots t)) }
      ≡ cond b (with_caller_in (ByTask t) slot_releases (kept_in o)) (kept_in o)
  given t true = refl
  given t false = ap (λ (f : ℕ → Slot). record (kept_in o) { slots = f }) (put_again (by_task o.slots) t (by_task o.slots t) refl)

  released_by : (d : KeptCaller) (t : ℕ) (a : Slot) → calling_task d ≡ Some t → t < length o.slots
      → a ≡ cond (is_resource (last_of (by_task o.slots t).held) r) (slot_releases (by_task o.slots t)) (by_task o.slots t)
      → kept_in (record o { slots = set o.slots t a }) ≡ cond (got_last_in (kept_in o) d r) (with_caller_in d slot_releases (kept_in o)) (kept_in o)
  released_by (ByTask u) t a calls inside is =
      let same : u ≡ t = cc in
      slots_put t a inside ∙ ap (λ (x : Slot). record (kept_in o) { slots = changed_at (by_task o.slots) t x }) is
      ∙ given t (is_resource (last_of (by_task o.slots t).held) r)
      ∙ ap (λ v. cond (got_last_in (kept_in o) (ByTask v) r) (with_caller_in (ByTask v) slot_releases (kept_in o)) (kept_in o)) (sym same)
  released_by ByRoutine t a calls inside is = absurd (let clash : None ≡ Some t = calls in cc)
  released_by ByNobody t a calls inside is = absurd (let clash : None ≡ Some t = calls in cc)

  pub released : (t n : ℕ) (a : Slot) → calling_task (caller_in (kept_in o)) ≡ Some t → n ≡ t → t < length o.slots
      → a ≡ cond (is_resource (last_of (by_task o.slots t).held) r) (slot_releases (by_task o.slots t)) (by_task o.slots t)
      → kept_in (record o { slots = set o.slots n a })
      ≡ cond (got_last_in (kept_in o) (caller_in (kept_in o)) r) (with_caller_in (caller_in (kept_in o)) slot_releases (kept_in o)) (kept_in o)
  released t n a calls number inside is =
      ap (λ m. kept_in (record o { slots = set o.slots m a })) number ∙ released_by (caller_in (kept_in o)) t a calls inside is
