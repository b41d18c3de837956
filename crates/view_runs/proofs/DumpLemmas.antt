-- The dump of a run, tick by tick, and its beginnings, as a sink takes them.
use Rattle.std.proofs.Common.{◌≡◌, ℕ, ◌+◌, ◌-◌, ◌≤◌, min, Bool, true, false, List, [], ◌∷◌, ◌++◌, length, length-append, append-nil, append_assoc, Option, Result, Ok, Err, refl, sym, ap, subst, ◌∙◌, arith}
use Rattle.std.specs.Io.KnownBytes.{Appends}
use Rattle.std.specs.Result.{IsErrAnd}
use Rattle.seen_ticks.specs.declared.observation.Observation.{Observation}
use Rattle.osek_base.specs.declared.limits.TheConstants.{MAX_TICKS}
use Rattle.osek_base.specs.System.{System}
use Rattle.kernel.specs.Progress.{Progress}
use Rattle.view_dumps.specs.Declarations.{declarations}
use Rattle.view_dumps.specs.Dumps.{Dump, alike, alike_text, observed, observed_text, started}
use Rattle.view_dumps.specs.Lines.{time_line}
use Rattle.seen_ticks.specs.Seen.{alike_ticks}
use Rattle.view_dumps.specs.Runs.{IsEach, dump_behind, dump_text, whole_text}
use Rattle.view_dumps.proofs.RunLemmas.{behind_appends, text_appends}
use Rattle.sinks.specs.Sinks.{AppendsSome, Puts}
use Rattle.sinks.proofs.SinkLemmas.{begins_longer, puts_more, stops}
use Rattle.view_runs.specs.Dumps.{IsDumpOf}
use Rattle.view_dumps.specs.Ticks.{events_text}
use Rattle.view_runs.specs.Seen.{AreSeen, DoesNext, IsLast, PassesSome, SeesRun}
use Rattle.view_runs.proofs.RunLemmas.{among, done, each, on, steps}
use Rattle.view_runs.proofs.SeenLemmas.{are_seen, length-seen, seen_behind, seen_from}
use Rattle.view_runs.proofs.TickLemmas.{Made, alike_made, next_made}

-- what is written up to some ticks of a run
abbrev pub text_to : System → ℕ → List Observation → List ℕ
text_to S from seen = declarations S ++ dump_text (started S from) seen

module _ {X : Type 0} (taken : X → Option (List ℕ)) (has_failed : X → Bool) where
  -- a write failed, behind a beginning of a text
  pub record Stops (a b : X) (text : List ℕ) : Type 0 where
    pub part : AppendsSome (taken a) (taken b) text
    pub failed : has_failed b ≡ true

  -- what puts a text and fails stops in it
  pub it_stops : {T E : Type 0} (a b : X) (text : List ℕ) (x : E) → Puts {T = T} {E = E} taken has_failed a b text (Err x) → Stops a b text
  it_stops a b text x puts = record { part = puts.beginning; failed = puts.failed }

  module _ (S : System) (from : ℕ) where
    -- the text up to some ticks was written, and the dump is behind these
    pub record IsWritten (a b : X) (d : Dump) (seen : List Observation) : Type 0 where
      pub behind : d ≡ dump_behind (started S from) seen
      pub text : Appends (taken a) (taken b) (text_to S from seen)
      pub still : has_failed b ≡ has_failed a

    -- before the first
    pub begun_text : {T E : Type 0} (a b : X) (d : Dump) (answer : Result T E) → d ≡ started S from
        → Puts taken has_failed a b (declarations d.system) answer → Puts taken has_failed a b (text_to S from []) answer
    begun_text a b d answer is =
        subst (λ t. Puts taken has_failed a b t answer)
        (ap (λ (x : Dump). declarations x.system) is ∙ sym (append-nil (declarations S)))

    module _ (a b c : X) (d : Dump) (seen : List Observation) (was : IsWritten a b d seen) where
      behind_more : (e : Dump) (more : List Observation) → e ≡ dump_behind d more → e ≡ dump_behind (started S from) (seen ++ more)
      behind_more e more behind =
          behind ∙ ap (λ x. dump_behind x more) was.behind ∙ sym (behind_appends (started S from) seen more)

      writes_more : {T E : Type 0} (more : List Observation) (answer : Result T E) → Puts taken has_failed b c (dump_text d more) answer
          → Puts taken has_failed a c (text_to S from (seen ++ more)) answer
      writes_more more answer text =
          let texts : text_to S from seen ++ dump_text d more ≡ text_to S from (seen ++ more) =
          append_assoc (declarations S) (dump_text (started S from) seen) (dump_text d more)
          ∙ ap (λ t. declarations S ++ t) (ap (λ x. dump_text (started S from) seen ++ dump_text x more) was.behind
          ∙ sym (text_appends (started S from) seen more)) in
          subst (λ t. Puts taken has_failed a c t answer) texts
          (puts_more taken has_failed a b c (text_to S from seen) (dump_text d more) answer was.text was.still text)

      written_more : {T E : Type 0} (e : Dump) (more : List Observation) (x : T) → e ≡ dump_behind d more
          → Puts {T = T} {E = E} taken has_failed b c (dump_text d more) (Ok x) → IsWritten a c e (seen ++ more)
      written_more {T} {E} e more x behind text =
          let all = writes_more {T = T} {E = E} more (Ok x) text in
          record { behind = behind_more e more behind; text = all.written; still = all.still }

      -- one tick more, and its text, or a beginning of it
      one_tick : {T E : Type 0} (o : Observation) (answer : Result T E) → Puts taken has_failed b c (observed_text d o) answer
          → Puts taken has_failed b c (dump_text d (o ∷ [])) answer
      one_tick o answer = subst (λ t. Puts taken has_failed b c t answer) (sym (append-nil (observed_text d o)))

      tick_stops : {T E : Type 0} (o : Observation) (x : E) → Puts {T = T} {E = E} taken has_failed b c (observed_text d o) (Err x)
          → Stops a c (text_to S from (seen ++ o ∷ []))
      tick_stops {T} {E} o x text =
          it_stops {T = T} {E = E} a c (text_to S from (seen ++ o ∷ [])) x (writes_more {T = T} {E = E} (o ∷ []) (Err x) (one_tick o (Err x) text))

      tick_written : {T E : Type 0} (e : Dump) (o : Observation) (x : T) → e ≡ observed d o
          → Puts {T = T} {E = E} taken has_failed b c (observed_text d o) (Ok x) → IsWritten a c e (seen ++ o ∷ [])
      tick_written {T} {E} e o x behind text =
          written_more {T = T} {E = E} e (o ∷ []) x behind (one_tick {T = T} {E = E} o (Ok x) text)

      -- some in which the same is seen
      module _ (o : Observation) (first end n : ℕ) (each : IsEach d o first end n) where
        alike_stops : {T E : Type 0} (x : E) → Puts {T = T} {E = E} taken has_failed b c (alike_text d o first end) (Err x)
            → Stops a c (text_to S from (seen ++ alike_ticks o first n))
        alike_stops {T} {E} x text =
            it_stops {T = T} {E = E} a c (text_to S from (seen ++ alike_ticks o first n)) x
            (writes_more {T = T} {E = E} (alike_ticks o first n) (Err x)
            (subst (λ t. Puts {T = T} {E = E} taken has_failed b c t (Err x)) each.text text))

        alike_written : {T E : Type 0} (e : Dump) (x : T) → e ≡ alike d o first end
            → Puts {T = T} {E = E} taken has_failed b c (alike_text d o first end) (Ok x) → IsWritten a c e (seen ++ alike_ticks o first n)
        alike_written {T} {E} e x behind text =
            written_more {T = T} {E = E} e (alike_ticks o first n) x (behind ∙ each.behind)
            (subst (λ t. Puts {T = T} {E = E} taken has_failed b c t (Ok x)) each.text text)

  module _ (r : Progress) (from ticks : ℕ) (a b c : X) (d : Dump) (s : Progress)
      (m : Made false ticks r s (IsWritten r.system from a b d)) where
    -- one tick more is done
    module _ (w : Progress) (o : Observation) (p : DoesNext false ticks s w) (last : 1 ≤ w.ticks → IsLast false w o) where
      pub tick_dumped : {T E : Type 0} (e : Dump) (x : T) → e ≡ observed d o
          → Puts {T = T} {E = E} taken has_failed b c (observed_text d o) (Ok x) → Made false ticks r w (IsWritten r.system from a c e)
      tick_dumped {T} {E} e x behind text =
          next_made false ticks r (IsWritten r.system from a b d) s m w o (IsWritten r.system from a c e) p last
          (λ seen count was. tick_written r.system from a b c d seen was {T = T} {E = E} e o x behind text)

      -- and a beginning of its text is written
      pub tick_begun : {T E : Type 0} (x : E) → Puts {T = T} {E = E} taken has_failed b c (observed_text d o) (Err x)
          → Made false ticks r w (λ seen. Stops a c (text_to r.system from seen))
      tick_begun {T} {E} x text =
          next_made false ticks r (IsWritten r.system from a b d) s m w o (λ seen. Stops a c (text_to r.system from seen)) p last
          (λ seen count was. tick_stops r.system from a b c d seen was {T = T} {E = E} o x text)

    -- some are, in which the same is seen
    module _ (w : Progress) (o : Observation) (first end : ℕ) (p : PassesSome false ticks s w first) (end_is : end ≡ w.ticks)
        (last : 1 ≤ w.ticks → IsLast false w o) (each : (n : ℕ) → end ≡ first + n → events_text o ≡ [] → IsEach d o first end n) where
      pub alike_dumped : {T E : Type 0} (e : Dump) (x : T) → e ≡ alike d o first end
          → Puts {T = T} {E = E} taken has_failed b c (alike_text d o first end) (Ok x) → Made false ticks r w (IsWritten r.system from a c e)
      alike_dumped {T} {E} e x behind text =
          alike_made false ticks r (IsWritten r.system from a b d) s m first end w o (IsWritten r.system from a c e) p end_is last
          (λ seen count later calm was.
          let far : end ≡ first + (end - first) = omega (arith, later) in
          alike_written r.system from a b c d seen was o first end (end - first) (each (end - first) far calm) {T = T} {E = E} e x behind text)

      pub alike_begun : {T E : Type 0} (x : E) → Puts {T = T} {E = E} taken has_failed b c (alike_text d o first end) (Err x)
          → Made false ticks r w (λ seen. Stops a c (text_to r.system from seen))
      alike_begun {T} {E} x text =
          alike_made false ticks r (IsWritten r.system from a b d) s m first end w o (λ seen. Stops a c (text_to r.system from seen)) p
          end_is last
          (λ seen count later calm was.
          let far : end ≡ first + (end - first) = omega (arith, later) in
          alike_stops r.system from a b c d seen was o first end (end - first) (each (end - first) far calm) {T = T} {E = E} x text)

  module _ {T E : Type 0} (r : Progress) (from ticks : ℕ) (a b : X) (end : Result T E) where
    -- all ticks were done, and then the last line is written
    pub whole : (c : X) (d : Dump) → ((sees : SeesRun false r ticks) × IsWritten r.system from a b d sees.seen)
        → Puts taken has_failed b c (time_line d.behind) end
        → (bytes : List ℕ) × IsDumpOf r ticks from bytes × Puts taken has_failed a c bytes end
    whole c d h last =
        let seen = h.0.seen in (
          whole_text r.system from seen,
          record { sees = h.0; spelled = refl },
          puts_more taken has_failed a b c (text_to r.system from seen) (time_line (dump_behind (started r.system from) seen).behind) end
              h.1.text h.1.still
              (subst (λ (x : Dump). Puts taken has_failed b c (time_line x.behind) end) h.1.behind last),
        )

    -- a write failed before, in a tick or behind the last
    pub part : (s : Progress) (Q : E → Type 0) → IsErrAnd end Q
        → Made false ticks r s (λ seen. Stops a b (text_to r.system from seen))
        → (bytes : List ℕ) × IsDumpOf r ticks from bytes × Puts taken has_failed a b bytes end
    part s Q failed m =
        let n = length m.seen in
        let count_done = done false r s m.begun m.seen m.sees in
        let within = m.within in
        let all = steps r.system r.mode r.arrivals (min ticks MAX_TICKS) in
        let more : List Observation = seen_from r.system r.mode r.arrivals n (all - n) in
        let low : n ≤ all = among r.system r.mode r.arrivals n ticks (on false r s m.begun m.seen m.sees) (omega (arith, within, count_done)) in
        let count = length-append m.seen more in
        let rest = length-seen r.system r.mode r.arrivals n (all - n) in
        let here : n ≡ 0 + n = omega arith in
        let d = started r.system from in
        let texts : text_to r.system from m.seen ++ dump_text (dump_behind d m.seen) more ≡ text_to r.system from (m.seen ++ more) =
        append_assoc (declarations r.system) (dump_text d m.seen) (dump_text (dump_behind d m.seen) more)
        ∙ ap (λ t. declarations r.system ++ t) (sym (text_appends d m.seen more)) in
        let begins = subst (AppendsSome (taken a) (taken b)) texts
        (begins_longer (taken a) (taken b) (text_to r.system from m.seen) (dump_text (dump_behind d m.seen) more) m.is.part) in
        let bytes = whole_text r.system from (m.seen ++ more) in (
          bytes,
          record {
            sees = record {
              seen = m.seen ++ more;
              each =
                  seen_behind false r.system r.mode r.arrivals 0 m.seen more (each false r s m.begun m.seen m.sees)
                  (subst (λ t. AreSeen false r.system r.mode r.arrivals t more) here (are_seen r.system r.mode r.arrivals n (all - n)));
              all = omega (arith, count, rest, low);
            };
            spelled = refl;
          },
          stops taken has_failed (λ x y. Appends x y bytes) bytes Q a b end failed
              (begins_longer (taken a) (taken b) (text_to r.system from (m.seen ++ more))
              (time_line (dump_behind d (m.seen ++ more)).behind) begins)
              m.is.failed,
        )
