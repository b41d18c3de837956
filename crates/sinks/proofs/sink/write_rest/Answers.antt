use Rattle.std.proofs.Common.{◌≡◌, ℕ, ◌+◌, ◌-◌, ◌<◌, ◌≤◌, Bool, true, false, not, ◌||◌, ◌&&◌, ◌==◌, List, length, take, drop, ◌∙◌, arith, ne_eqb}
use Rattle.std.proofs.lemmas.List.{take_rest, length-drop}
use Rattle.std.specs.Io.KnownBytes.{Appends}
use Rattle.sinks.proofs.SinkLemmas.{appends_kept, taken_more, begins, still_fine, stops}
use Rattle.sinks.proofs.sink.write_rest.Goals as goal

within_rest : (bytes : List ℕ) (done count : ℕ) → done ≤ length bytes
    → count ≤ length (take (length bytes - done) (drop done bytes)) → done + count ≤ length bytes
within_rest bytes done count h k =
    let r = rw (take_rest bytes done) at k in
    omega (arith, h, r, length-drop done bytes)

failed_there : (before now : Bool) → now ≡ (before || true) → now ≡ true
failed_there false now e = e
failed_there true now e = e

-- where something is left
failed_here : (before now : Bool) (bytes : List ℕ) (done count : ℕ) → count ≡ 0 → done < length bytes
    → now ≡ (before || (count == 0 && not (length (take (length bytes - done) (drop done bytes)) == 0))) → now ≡ true
failed_here before now bytes done count none below e =
    let some : length (drop done bytes) ≡ 0 → ⊥ = λ h. absurd (grind (arith, h, below, length-drop done bytes)) in
    failed_there before now (rw (none, take_rest bytes done, ne_eqb (length (drop done bytes)) 0 some) at e)

pub writes-preserved : goal.writes-preserved
writes-preserved g c =
    record {
      within = within_rest c.args.bytes.now c.writes.done c.in_ok-count.count c.writes.invariant.within c.in_ok-count.ensures.bound;
      so_far = taken_more _ _ _ c.args.bytes.now c.writes.done c.in_ok-count.count c.writes.invariant.so_far c.in_ok-count.ensures.bytes;
      still = c.in_ok-count.ensures.failed ∙ still_fine _ _ _ c.if-count-eq0.false ∙ c.writes.invariant.still;
    }

pub returns-in_err-count : goal.returns-in_err-count
returns-in_err-count g c =
    let bytes = c.args.bytes.now in
    stops g.S.Sink.taken g.S.Sink.has_failed (λ a b. Appends a b bytes) bytes _ c.args.out.now _ c.from_residual.result c.from_residual.ensures.1
    (begins _ _ bytes c.writes.done (appends_kept _ _ _ _ c.writes.invariant.so_far c.in_err-count.ensures.bytes))
    (failed_there _ _ c.in_err-count.ensures.failed)

pub returns-then-count-eq0 : goal.returns-then-count-eq0
returns-then-count-eq0 g c =
    let bytes = c.args.bytes.now in
    let done = c.writes.done in
    let count = c.in_ok-count.count in
    record {
      written = tt;
      beginning =
          begins _ _ bytes (done + count)
          (taken_more _ _ _ bytes done count c.writes.invariant.so_far c.in_ok-count.ensures.bytes);
      still = tt;
      failed = failed_here _ _ bytes done count c.if-count-eq0.true c.writes-test.true c.in_ok-count.ensures.failed;
    }
