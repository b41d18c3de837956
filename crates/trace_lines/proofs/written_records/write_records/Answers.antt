use Rattle.std.proofs.Common.{◌≡◌, ℕ, suc, ◌+◌, ◌<◌, add-one, List, [], ◌∷◌, ◌++◌, length, take, drop, get_or, Option, sym, ap, subst, ◌∙◌, append_assoc, append-nil}
use Rattle.std.proofs.Math.Seq.{drop-cons, take-suc}
use Rattle.std.proofs.lemmas.List.{take-append-drop}
use Rattle.std.specs.List.{flat_map}
use Rattle.osek_base.specs.declared.trace_event.TraceEvent.{TraceEvent}
use Rattle.osek_base.specs.Names.{Names}
use Rattle.trace_lines.specs.Lines.{record_text, tick_text}
use Rattle.trace_lines.specs.Programs.{IsOfProgram}
use Rattle.sinks.specs.Sinks.{AppendsSome, Passes}
use Rattle.trace_lines.proofs.EachLemmas.{all_at}
use Rattle.trace_lines.proofs.TickTexts.{texts_append}
use Rattle.sinks.proofs.SinkLemmas.{begins_longer, passes_more, stops_later, stops}
use Rattle.trace_lines.proofs.written_records.write_records.Goals as goal

-- a tick's text up to a record, that of the record, and the rest
texts_at : (f : TraceEvent → List ℕ) (xs : List TraceEvent) (i : ℕ) (x : TraceEvent) → i < length xs → x ≡ get_or xs i x
    → (flat_map f (take i xs) ++ f x) ++ flat_map f (drop (suc i) xs) ≡ flat_map f xs
texts_at f xs i x h e =
    let rest : drop i xs ≡ x ∷ drop (suc i) xs = drop-cons xs i x h ∙ ap (λ y. y ∷ drop (suc i) xs) (sym e) in
    append_assoc (flat_map f (take i xs)) (f x) (flat_map f (drop (suc i) xs))
    ∙ sym (texts_append f (take i xs) (x ∷ drop (suc i) xs))
    ∙ ap (λ r. flat_map f (take i xs ++ r)) (sym rest)
    ∙ ap (flat_map f) (take-append-drop i xs)

stopped_at : (a b c : Option (List ℕ)) (p q : List ℕ) (names : Names) (t : ℕ) (number : Option ℕ) (xs : List TraceEvent) (i : ℕ) (x : TraceEvent)
    → i < length xs → x ≡ get_or xs i x
    → Passes a b p q (tick_text names t number (take i xs)) → AppendsSome b c (q ++ record_text names t number x)
    → AppendsSome a c (p ++ tick_text names t number xs)
stopped_at a b c p q names t number xs i x h e k l =
    let text = record_text names t number in
    subst (AppendsSome a c)
    (append_assoc p (flat_map text (take i xs) ++ text x) (flat_map text (drop (suc i) xs)) ∙ ap (λ r. p ++ r) (texts_at text xs i x h e))
    (begins_longer a c (p ++ (flat_map text (take i xs) ++ text x)) (flat_map text (drop (suc i) xs))
    (stops_later a b c p q (flat_map text (take i xs)) (text x) k l))

-- a tick's text up to a record more
one_more : (f : TraceEvent → List ℕ) (xs : List TraceEvent) (i : ℕ) (x : TraceEvent) → i < length xs → x ≡ get_or xs i x
    → flat_map f (take i xs) ++ f x ≡ flat_map f (take (i + 1) xs)
one_more f xs i x h e =
    ap (λ t. flat_map f (take i xs) ++ t) (sym (append-nil (f x)))
    ∙ sym (texts_append f (take i xs) (x ∷ []))
    ∙ ap (flat_map f) (ap (λ y. take i xs ++ y ∷ []) e ∙ sym (take-suc xs i x h) ∙ ap (λ n. take n xs) (sym (add-one i)))

pub write_record-requires : goal.write_record-requires
write_record-requires g c =
    record {
      listed =
          rw (c.event.ensures)
          (all_at (IsOfProgram c.args.texts.now) c.args.entries.now c.records.entry-index c.entry-item.result c.requires.listed
          c.records-test.true c.entry-item.is);
    }

pub records-preserved : goal.records-preserved
records-preserved g c =
    let text = record_text c.args.texts.now.names c.args.tick.now c.args.number in
    let items = c.args.entries.now in
    record {
      so_far =
          subst (Passes (g.S.Sink.taken c.args.out.now) (g.S.Sink.taken c.write_record.new.out) c.args.text.now c.write_record.new.text)
          (one_more text items c.records.entry-index c.entry-item.result c.records-test.true c.entry-item.is)
          (passes_more _ _ _ _ _ _ _ _ c.records.invariant.so_far (rw (c.event.ensures) at c.in_ok-write_record.ensures.written));
      still = c.in_ok-write_record.ensures.still ∙ c.records.invariant.still;
    }

pub returns-in_err-write_record : goal.returns-in_err-write_record
returns-in_err-write_record g c =
    stops g.S.Sink.taken g.S.Sink.has_failed _ _ _ c.args.out.now _ c.from_residual.result c.from_residual.ensures.1
    (stopped_at _ _ _ _ _ c.args.texts.now.names c.args.tick.now c.args.number c.args.entries.now c.records.entry-index c.entry-item.result
    c.records-test.true c.entry-item.is
    c.records.invariant.so_far
    (rw (c.event.ensures) at c.in_err-write_record.ensures.beginning))
    c.in_err-write_record.ensures.failed
