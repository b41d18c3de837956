use Rattle.std.proofs.Common.{ℕ, List, sym, subst}
use Rattle.trace_lines.specs.Programs.{EachAt, IsTextAt}
use Rattle.trace_lines.proofs.EachLemmas.{each_more, one_longer}
use Rattle.trace_lines.proofs.program_texts.ProgramTexts.of.Goals as goal

pub places-preserved : goal.places-preserved
places-preserved c =
    let Told : ℕ → List ℕ → Type 0 = IsTextAt c.args.system.now c.args.who.now in
    let texts : List (List ℕ) = c.places.texts.items in
    let text : List ℕ = c.in_ok-text_at.field-0 in
    let v = c.places.invariant in
    record {
      numbered = one_longer texts _ text c.places.place v.numbered c.in_ok-push_text.ensures;
      told =
          subst (λ (ts : List (List ℕ)). EachAt Told ts) (sym c.in_ok-push_text.ensures)
          (each_more Told texts text v.told (subst (λ n. Told n text) (sym v.numbered) c.in_ok-text_at.ensures));
    }
