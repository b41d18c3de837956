-- Ticks in a row in which an interrupt is pending or none is: what the first one leaves stays.
use Rattle.std.proofs.Common.{ℕ, ◌≡◌, Bool, true, false, not, ◌&&◌, List, ◌∷◌, cond, nat_lt, Option, Some, None, refl, sym, ◌∙◌, ap, eqb-true}
use Rattle.std.specs.Prelude.{◌==◌, ◌||◌}
use Rattle.std.proofs.lemmas.Bool.{and_parts, not-true}
use Rattle.view_figures.specs.declared.routine_figures.RoutineTick.{RoutineTick}
use Rattle.view_figures.specs.declared.routine_figures.RoutineFigures.{RoutineFigures}
use Rattle.view_figures.specs.Reaching.{first_tick, worse_of}
use Rattle.view_figures.specs.RoutineSums.{routine_figures, since, still, latency, pending_since}
use Rattle.view_figures.specs.Calm.{is_calm_routine}
use Rattle.view_figures.proofs.StepLemmas.{routine_more}
use Rattle.view_figures.proofs.QuietLemmas.{kept_count, first_stays, no_latency}

-- a routine's tick of another number
abbrev pub routine_at : ℕ → RoutineTick → RoutineTick
routine_at u r = record r { tick = u }

record IsCalm (r : RoutineTick) : Type 0 where
  pub started : r.seen.is_started ≡ false
  pub failed : r.has_failed ≡ false
  pub arrived : r.seen.arrived ≡ 0
  pub lost : r.seen.lost ≡ 0

calm : (r : RoutineTick) → is_calm_routine r ≡ true → IsCalm r
calm r h =
    let all = and_parts (not r.seen.is_started && not r.has_failed) ((r.seen.arrived == 0) && (r.seen.lost == 0)) h in
    let flags = and_parts (not r.seen.is_started) (not r.has_failed) all.0 in
    let counts = and_parts (r.seen.arrived == 0) (r.seen.lost == 0) all.1 in
    record {
      started = not-true r.seen.is_started flags.0;
      failed = not-true r.has_failed flags.1;
      arrived = eqb-true r.seen.arrived 0 counts.0;
      lost = eqb-true r.seen.lost 0 counts.1;
    }

-- the first tick of something that holds in both of two ticks, or in neither
first_once : (holds : Bool) (tick u : ℕ) (flag : Option ℕ) → first_tick holds u (first_tick holds tick flag) ≡ first_tick holds tick flag
first_once holds tick u (Some v) = refl
first_once true tick u None = refl
first_once false tick u None = refl

pub routine_go : (r : RoutineTick) (u : ℕ) (before seen : List RoutineTick) (f : RoutineFigures) → is_calm_routine r ≡ true
    → f ≡ routine_figures (r ∷ before) → f ≡ routine_figures seen → f ≡ routine_figures (routine_at u r ∷ seen)
unfolding routine_figures
routine_go r u before seen f h first e =
    let q = calm r h in
    let s = r.seen in
    let t = routine_at u r in
    let kept : f.pending_since ≡ since r (pending_since before) =
    ap (λ (g : RoutineFigures). g.pending_since) first ∙ ap (λ b. cond b None (since r (pending_since before))) q.started in
    let same : since t f.pending_since ≡ f.pending_since =
    ap (λ p. since t p) kept ∙ first_once (s.is_pending || s.is_started) r.tick u (pending_since before) ∙ sym kept in
    let none : worse_of f.latency (latency t (since t f.pending_since)) ≡ f.latency =
    ap (λ l. worse_of f.latency l) (no_latency t (since t f.pending_since) q.started) in
    let more = routine_more t seen f e in
    let a = kept_count f.arrivals _ s.arrived (ap (λ (g : RoutineFigures). g.arrivals) e) q.arrived in
    let b = kept_count f.starts _ (cond s.is_started 1 0) (ap (λ (g : RoutineFigures). g.starts) e) (ap (λ b. cond b 1 0) q.started) in
    let l = kept_count f.losses _ s.lost (ap (λ (g : RoutineFigures). g.losses) e) q.lost in
    let x = kept_count f.errors _ (cond r.has_failed 1 0) (ap (λ (g : RoutineFigures). g.errors) e) (ap (λ b. cond b 1 0) q.failed) in
    let w : still t (since t f.pending_since) ≡ f.pending_since =
    ap (λ b. cond b None (since t f.pending_since)) q.started ∙ same in
    let n : first_tick (nat_lt 0 s.lost) u f.first_loss ≡ f.first_loss = rw (q.lost) (first_stays u f.first_loss) in
    cc
