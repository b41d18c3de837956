-- The machine refuses where the grammar has no file.
use Rattle.std.proofs.Common.{◌≡◌, ℕ, List, [], ◌∷◌, ◌++◌, Option, Some, None, Bool, true, false, cond, ◌⊎◌, refl, sym, ap, subst, ◌∙◌, inl, inr, append_assoc}
use Rattle.std.specs.Prelude.{codes, MatchOption, Result, Ok, Err, IfErr}
use Rattle.std.specs.Str.{bytes_eq}
use Rattle.std.proofs.lemmas.Slice.Eq.{bytes_eq-Decides}
use Rattle.oil_reader.specs.declared.syntax.Kind.{Kind}
use Rattle.oil_reader.specs.declared.syntax.Kind.TheVariants as kind
use Rattle.oil_reader.specs.declared.tokens.Sign.{Sign}
use Rattle.oil_reader.specs.declared.tokens.Sign.TheVariants.{Open, Close, Equals, Semicolon}
use Rattle.oil_reader.specs.Tokens.{Word, Name, Number, Version, Mark, Lexeme}
use Rattle.oil_reader.specs.Grammar.{Value, Named, Numeric, Setting, Block, Attribute, Object, File, at, value_word, kind_word, IsSub, IsBlock, IsAttribute, IsBody, IsKind, IsObject, IsHeader, IsFile, AreEach, Begins, IsSyntaxFault}
use Rattle.oil_reader.specs.Machine.{Symbol, Keyword, AnyName, AnyKind, AnyValue, TheVersion, Only, Objects, Body, Attributes, Rest, Subs, step, after_step, after_kind, same_sign, kind_of, refusal, the_file, RefusesAll}
use Rattle.oil_reader.specs.Faults.{IsSyntaxAnswer}
use Rattle.oil_reader.specs.declared.fault.OilFault.{OilFault}
use Rattle.oil_reader.specs.declared.fault.OilFault.TheVariants as fault
use Rattle.oil_reader.proofs.Passes.{kind_spelled, file_passes}

-- what a symbol stands for, before a rest
abbrev IsPhrase : Symbol → List Lexeme → List Lexeme → Type 0
IsPhrase (Keyword w) ts rest = (p : ℕ) × (ts ≡ at p (Name w) ∷ rest)
IsPhrase AnyName ts rest = (p : ℕ) × (v : List ℕ) × (ts ≡ at p (Name v) ∷ rest)
IsPhrase AnyKind ts rest = (k : Kind) × IsKind k ts rest
IsPhrase AnyValue ts rest = (p : ℕ) × (v : Value) × (ts ≡ at p (value_word v) ∷ rest)
IsPhrase TheVersion ts rest = (p : ℕ) × (ts ≡ at p Version ∷ rest)
IsPhrase (Only s) ts rest = (p : ℕ) × (ts ≡ at p (Mark s) ∷ rest)
IsPhrase Objects ts rest = (xs : List Object) × (p : ℕ) × AreEach IsObject xs ts (at p (Mark Close) ∷ rest)
IsPhrase Body ts rest = (xs : List Attribute) × (p : ℕ) × IsBody xs p ts rest
IsPhrase Attributes ts rest = (xs : List Attribute) × (p : ℕ) × AreEach IsAttribute xs ts (at p (Mark Close) ∷ rest)
IsPhrase Rest ts rest = (b : Option Block) × (p : ℕ) × IsBlock b ts (at p (Mark Semicolon) ∷ rest)
IsPhrase Subs ts rest = (xs : List Setting) × (p : ℕ) × AreEach IsSub xs ts (at p (Mark Close) ∷ rest)

abbrev Phrases : List Symbol → List Lexeme → Type 0
Phrases [] ts = ts ≡ []
Phrases (s ∷ k) ts = (middle : List Lexeme) × IsPhrase s ts middle × Phrases k middle

-- ---- each list of symbols has phrases

some_phrase : (s : Symbol) (rest : List Lexeme) → (ts : List Lexeme) × IsPhrase s ts rest
some_phrase (Keyword w) rest = (at 0 (Name w) ∷ rest, (0, refl))
some_phrase AnyName rest = (at 0 (Name []) ∷ rest, (0, [], refl))
some_phrase AnyKind rest = (at 0 (Name (kind_word kind.Os)) ∷ rest, (kind.Os, record { place = 0; spelled = refl }))
some_phrase AnyValue rest = (at 0 (Number 0) ∷ rest, (0, Numeric 0, refl))
some_phrase TheVersion rest = (at 0 Version ∷ rest, (0, refl))
some_phrase (Only s) rest = (at 0 (Mark s) ∷ rest, (0, refl))
some_phrase Objects rest = (at 0 (Mark Close) ∷ rest, ([], 0, refl))
some_phrase Body rest = (at 0 (Mark Semicolon) ∷ rest, ([], 0, inl (record { none = refl; spelled = refl })))
some_phrase Attributes rest = (at 0 (Mark Close) ∷ rest, ([], 0, refl))
some_phrase Rest rest = (at 0 (Mark Semicolon) ∷ rest, (None, 0, refl))
some_phrase Subs rest = (at 0 (Mark Close) ∷ rest, ([], 0, refl))

some_phrases : (k : List Symbol) → (ts : List Lexeme) × Phrases k ts
some_phrases [] = ([], refl)
some_phrases (s ∷ k) = let more = some_phrases k in let one = some_phrase s more.0 in (one.0, (more.0, one.1, more.1))

-- ---- a step of the machine, backwards

abbrev Back : Symbol → Option (List Symbol) → Word → ℕ → List Symbol → List Lexeme → Type 0
Back s o w p k ts = MatchOption o (Unit {0}) (λ more. Phrases (more ++ k) ts → Phrases (s ∷ k) (at p w ∷ ts))

keyword_back : (w v : List ℕ) (b : Bool) → (b ≡ true → v ≡ w) → (p : ℕ) (k : List Symbol) (ts : List Lexeme) → Back (Keyword w) (cond b (Some []) None) (Name v) p k ts
keyword_back w v false e p k ts = tt
keyword_back w v true e p k ts = λ h. (ts, (p, ap (λ (u : List ℕ). at p (Name u) ∷ ts) (e refl)), h)

kind_back : (v : List ℕ) (o : Option Kind) → ((c : Kind) → o ≡ Some c → v ≡ kind_word c) → (p : ℕ) (k : List Symbol) (ts : List Lexeme) → Back AnyKind (after_kind o []) (Name v) p k ts
kind_back v None e p k ts = tt
kind_back v (Some c) e p k ts = λ h. (ts, (c, record { place = p; spelled = ap (λ (u : List ℕ). at p (Name u) ∷ ts) (e c refl) }), h)

object_back : (v : List ℕ) (o : Option Kind) → ((c : Kind) → o ≡ Some c → v ≡ kind_word c) → (p : ℕ) (k : List Symbol) (ts : List Lexeme) → Back Objects (after_kind o (AnyName ∷ Body ∷ Objects ∷ [])) (Name v) p k ts
object_back v None e p k ts = tt
object_back v (Some c) e p k ts = λ h.
    let name = h.1 in
    let body = h.2.1 in
    let others = h.2.2.1 in
    let one : Object = record { kind = c; name = name.1; place = name.0; attributes = body.0; «end» = body.1 } in
    let spelled : at p (Name v) ∷ ts ≡ at p (Name (kind_word c)) ∷ at name.0 (Name name.1) ∷ h.0 = ap (λ (u : List ℕ). at p (Name u) ∷ ts) (e c refl) ∙ ap (λ (us : List Lexeme). at p (Name (kind_word c)) ∷ us) name.2 in
    let is : IsObject one (at p (Name v) ∷ ts) h.2.0 = record { middle = h.0; kind = record { place = p; spelled = spelled }; body = body.2 } in
    (h.2.2.0, (one ∷ others.0, others.1, (h.2.0, is, others.2)), h.2.2.2)

body_back : (p : ℕ) (k : List Symbol) (ts : List Lexeme) → Phrases (Attributes ∷ Only Semicolon ∷ k) ts → Phrases (Body ∷ k) (at p (Mark Open) ∷ ts)
body_back p k ts h =
    let xs = h.1 in
    let semi = h.2.1 in
    let each : AreEach IsAttribute xs.0 ts (at xs.1 (Mark Close) ∷ at semi.0 (Mark Semicolon) ∷ h.2.0) = subst (λ (us : List Lexeme). AreEach IsAttribute xs.0 ts (at xs.1 (Mark Close) ∷ us)) semi.1 xs.2 in
    (h.2.0, (xs.0, xs.1, inr (record { «open» = p; semicolon = semi.0; inner = ts; spelled = refl; each = each })), h.2.2)

rest_back : (p : ℕ) (k : List Symbol) (ts : List Lexeme) → Phrases (Subs ∷ Only Semicolon ∷ k) ts → Phrases (Rest ∷ k) (at p (Mark Open) ∷ ts)
rest_back p k ts h =
    let xs = h.1 in
    let semi = h.2.1 in
    let each : AreEach IsSub xs.0 ts (at xs.1 (Mark Close) ∷ at semi.0 (Mark Semicolon) ∷ h.2.0) = subst (λ (us : List Lexeme). AreEach IsSub xs.0 ts (at xs.1 (Mark Close) ∷ us)) semi.1 xs.2 in
    (h.2.0, (Some (record { settings = xs.0; close = xs.1 }), semi.0, record { «open» = p; inner = ts; spelled = refl; subs = each }), h.2.2)

attribute_back : (v : List ℕ) (p : ℕ) (k : List Symbol) (ts : List Lexeme) → Phrases (Only Equals ∷ AnyValue ∷ Rest ∷ Attributes ∷ k) ts → Phrases (Attributes ∷ k) (at p (Name v) ∷ ts)
attribute_back v p k ts h =
    let equals = h.1 in
    let value = h.2.1 in
    let block = h.2.2.1 in
    let others = h.2.2.2.1 in
    let s : Setting = record { name = v; name_place = p; value = value.1; value_place = value.0 } in
    let one : Attribute = record { setting = s; block = block.0; «end» = block.1 } in
    let spelled : at p (Name v) ∷ ts ≡ at p (Name v) ∷ at equals.0 (Mark Equals) ∷ at value.0 (value_word value.1) ∷ h.2.0 = ap (λ (us : List Lexeme). at p (Name v) ∷ us) (equals.1 ∙ ap (λ (us : List Lexeme). at equals.0 (Mark Equals) ∷ us) value.2) in
    let is : IsAttribute one (at p (Name v) ∷ ts) h.2.2.0 = record { middle = h.2.0; setting = record { equals = equals.0; spelled = spelled }; block = block.2 } in
    (h.2.2.2.0, (one ∷ others.0, others.1, (h.2.2.0, is, others.2)), h.2.2.2.2)

sub_back : (v : List ℕ) (p : ℕ) (k : List Symbol) (ts : List Lexeme) → Phrases (Only Equals ∷ AnyValue ∷ Only Semicolon ∷ Subs ∷ k) ts → Phrases (Subs ∷ k) (at p (Name v) ∷ ts)
sub_back v p k ts h =
    let equals = h.1 in
    let value = h.2.1 in
    let semi = h.2.2.1 in
    let others = h.2.2.2.1 in
    let s : Setting = record { name = v; name_place = p; value = value.1; value_place = value.0 } in
    let spelled : at p (Name v) ∷ ts ≡ at p (Name v) ∷ at equals.0 (Mark Equals) ∷ at value.0 (value_word value.1) ∷ at semi.0 (Mark Semicolon) ∷ h.2.2.0 =
    ap (λ (us : List Lexeme). at p (Name v) ∷ us) (equals.1 ∙ ap (λ (us : List Lexeme). at equals.0 (Mark Equals) ∷ us) (value.2 ∙ ap (λ (us : List Lexeme). at value.0 (value_word value.1) ∷ us) semi.1)) in
    let is : IsSub s (at p (Name v) ∷ ts) h.2.2.0 = record { semicolon = semi.0; setting = record { equals = equals.0; spelled = spelled } } in
    (h.2.2.2.0, (s ∷ others.0, others.1, (h.2.2.0, is, others.2)), h.2.2.2.2)

sign_back : (s r : Sign) (p : ℕ) (k : List Symbol) (ts : List Lexeme) → Back (Only s) (cond (same_sign s r) (Some []) None) (Mark r) p k ts
sign_back Open Open p k ts = λ h. (ts, (p, refl), h)
sign_back Close Close p k ts = λ h. (ts, (p, refl), h)
sign_back Equals Equals p k ts = λ h. (ts, (p, refl), h)
sign_back Semicolon Semicolon p k ts = λ h. (ts, (p, refl), h)
sign_back Open Close p k ts = tt
sign_back Open Equals p k ts = tt
sign_back Open Semicolon p k ts = tt
sign_back Close Open p k ts = tt
sign_back Close Equals p k ts = tt
sign_back Close Semicolon p k ts = tt
sign_back Equals Open p k ts = tt
sign_back Equals Close p k ts = tt
sign_back Equals Semicolon p k ts = tt
sign_back Semicolon Open p k ts = tt
sign_back Semicolon Close p k ts = tt
sign_back Semicolon Equals p k ts = tt

back : (s : Symbol) (w : Word) (p : ℕ) (k : List Symbol) (ts : List Lexeme) → Back s (step s w) w p k ts
back (Keyword w) (Name v) p k ts = keyword_back w v (bytes_eq v w) (bytes_eq-Decides v w).0 p k ts
back AnyName (Name v) p k ts = λ h. (ts, (p, v, refl), h)
back AnyKind (Name v) p k ts = kind_back v (kind_of v) (kind_spelled v) p k ts
back AnyValue (Name v) p k ts = λ h. (ts, (p, Named v, refl), h)
back AnyValue (Number n) p k ts = λ h. (ts, (p, Numeric n, refl), h)
back TheVersion Version p k ts = λ h. (ts, (p, refl), h)
back (Only s) (Mark r) p k ts = sign_back s r p k ts
back Objects (Mark Close) p k ts = λ h. (ts, ([], p, refl), h)
back Objects (Name v) p k ts = object_back v (kind_of v) (kind_spelled v) p k ts
back Body (Mark Semicolon) p k ts = λ h. (ts, ([], p, inl (record { none = refl; spelled = refl })), h)
back Body (Mark Open) p k ts = body_back p k ts
back Attributes (Mark Close) p k ts = λ h. (ts, ([], p, refl), h)
back Attributes (Name v) p k ts = attribute_back v p k ts
back Rest (Mark Semicolon) p k ts = λ h. (ts, (None, p, refl), h)
back Rest (Mark Open) p k ts = rest_back p k ts
back Subs (Mark Close) p k ts = λ h. (ts, ([], p, refl), h)
back Subs (Name v) p k ts = sub_back v p k ts
back _ _ p k ts = tt

-- ---- where the machine refuses

-- at a token
record AtToken (k : List Symbol) (ts : List Lexeme) (p : ℕ) : Type 0 where
  front : List Lexeme
  token : Lexeme
  behind : List Lexeme
  parts : ts ≡ front ++ token ∷ behind
  place : p ≡ token.place
  more : List Lexeme
  begins : Phrases k (front ++ more)
  never : (len : ℕ) (others : List Lexeme) → refusal k len (front ++ token ∷ others) ≡ Some token.place

-- at the end
record AtEnd (k : List Symbol) (len : ℕ) (ts : List Lexeme) (p : ℕ) : Type 0 where
  place : p ≡ len
  more : List Lexeme
  begins : Phrases k (ts ++ more)

some_is : (a b : ℕ) → Some a ≡ Some b → a ≡ b
some_is a b e = cc

module _ (s : Symbol) (k : List Symbol) (t : Lexeme) where
  token_step : (more : List Symbol) → step s t.word ≡ Some more → (ts : List Lexeme) (p : ℕ) → AtToken (more ++ k) ts p → AtToken (s ∷ k) (t ∷ ts) p
  token_step more e ts p h = record {
    front = t ∷ h.front;
    token = h.token;
    behind = h.behind;
    parts = ap (λ (us : List Lexeme). t ∷ us) h.parts;
    place = h.place;
    more = h.more;
    begins = (subst (λ (o : Option (List Symbol)). Back s o t.word t.place k (h.front ++ h.more)) e (back s t.word t.place k (h.front ++ h.more))) h.begins;
    never = λ len others. rw e (h.never len others);
  }

  end_step : (more : List Symbol) → step s t.word ≡ Some more → (len : ℕ) (ts : List Lexeme) (p : ℕ) → AtEnd (more ++ k) len ts p → AtEnd (s ∷ k) len (t ∷ ts) p
  end_step more e len ts p h = record {
    place = h.place;
    more = h.more;
    begins = (subst (λ (o : Option (List Symbol)). Back s o t.word t.place k (ts ++ h.more)) e (back s t.word t.place k (ts ++ h.more))) h.begins;
  }

refuses_step : (s : Symbol) (k : List Symbol) (len : ℕ) (t : Lexeme) (ts : List Lexeme) (p : ℕ) (o : Option (List Symbol)) → step s t.word ≡ o
    → ((more : List Symbol) → refusal (more ++ k) len ts ≡ Some p → AtToken (more ++ k) ts p ⊎ AtEnd (more ++ k) len ts p)
    → after_step o t.place (λ more. refusal (more ++ k) len ts) ≡ Some p → AtToken (s ∷ k) (t ∷ ts) p ⊎ AtEnd (s ∷ k) len (t ∷ ts) p
refuses_step s k len t ts p None e next h = inl (record {
  front = [];
  token = t;
  behind = ts;
  parts = refl;
  place = sym (some_is t.place p h);
  more = (some_phrases (s ∷ k)).0;
  begins = (some_phrases (s ∷ k)).1;
  never = λ n others. rw e refl;
})
refuses_step s k len t ts p (Some more) e next h =
    elim (next more h) [
      | inl a ↦ inl (token_step s k t more e ts p a)
      | inr a ↦ inr (end_step s k t more e len ts p a)
    ]

refuses_at : (k : List Symbol) (len : ℕ) (ts : List Lexeme) (p : ℕ) → refusal k len ts ≡ Some p → AtToken k ts p ⊎ AtEnd k len ts p
refuses_at [] len [] p h = absurd cc
refuses_at (s ∷ k) len [] p h = inr (record { place = sym (some_is len p h); more = (some_phrases (s ∷ k)).0; begins = (some_phrases (s ∷ k)).1 })
refuses_at [] len (t ∷ ts) p h = inl (record { front = []; token = t; behind = ts; parts = refl; place = sym (some_is t.place p h); more = []; begins = refl; never = λ n others. refl })
refuses_at (s ∷ k) len (t ∷ ts) p h = refuses_step s k len t ts p (step s t.word) refl (λ more. refuses_at (more ++ k) len ts p) h

-- ---- a whole file

file_of_phrases : (ts : List Lexeme) → Phrases the_file ts → (f : File) × IsFile f ts
file_of_phrases ts h =
    let p1 = h.1 in
    let p2 = h.2.1 in
    let p3 = h.2.2.1 in
    let p4 = h.2.2.2.1 in
    let p5 = h.2.2.2.2.1 in
    let p6 = h.2.2.2.2.2.1 in
    let p7 = h.2.2.2.2.2.2.1 in
    let objects = h.2.2.2.2.2.2.2.1 in
    let semi = h.2.2.2.2.2.2.2.2.1 in
    let rest = h.2.2.2.2.2.2.2.2.2 in
    let inner = h.2.2.2.2.2.2.0 in
    let f : File = record { cpu = p6.1; objects = objects.0; close = objects.1 } in
    let last : h.2.2.2.2.2.2.2.0 ≡ at semi.0 (Mark Semicolon) ∷ [] = semi.1 ∙ ap (λ (us : List Lexeme). at semi.0 (Mark Semicolon) ∷ us) rest in
    let spelled : ts ≡ at p1.0 (Name (codes "OIL_VERSION")) ∷ at p2.0 (Mark Equals) ∷ at p3.0 Version ∷ at p4.0 (Mark Semicolon) ∷ at p5.0 (Name (codes "CPU")) ∷ at p6.0 (Name p6.1) ∷ at p7.0 (Mark Open) ∷ inner =
    p1.1 ∙ ap (λ (us : List Lexeme). at p1.0 (Name (codes "OIL_VERSION")) ∷ us) (p2.1 ∙ ap (λ (us : List Lexeme). at p2.0 (Mark Equals) ∷ us) (p3.1 ∙ ap (λ (us : List Lexeme). at p3.0 Version ∷ us) (p4.1 ∙ ap (λ (us : List Lexeme). at p4.0 (Mark Semicolon) ∷ us)
    (p5.1 ∙ ap (λ (us : List Lexeme). at p5.0 (Name (codes "CPU")) ∷ us) (p6.2 ∙ ap (λ (us : List Lexeme). at p6.0 (Name p6.1) ∷ us) p7.1))))) in
    let each : AreEach IsObject f.objects inner (at f.close (Mark Close) ∷ at semi.0 (Mark Semicolon) ∷ []) = subst (λ (us : List Lexeme). AreEach IsObject f.objects inner (at f.close (Mark Close) ∷ us)) last objects.2 in
    let header : IsHeader f.cpu ts inner = record { p1 = p1.0; p2 = p2.0; p3 = p3.0; p4 = p4.0; p5 = p5.0; p6 = p6.0; p7 = p7.0; spelled = spelled } in
    (f, record { inner = inner; header = header; semicolon = semi.0; objects = each })

begins_by : (front more : List Lexeme) → Phrases the_file (front ++ more) → Begins front
begins_by front more h = let f = file_of_phrases (front ++ more) h in (f.0, more, f.1)

-- where the machine refuses, there is the fault of the grammar
pub refused : (len : ℕ) (ts : List Lexeme) (p : ℕ) → refusal the_file len ts ≡ Some p → IsSyntaxFault len ts p
refused len ts p h =
    elim (refuses_at the_file len ts p h) [
      | inl a ↦ inl (record {
        front = a.front;
        token = a.token;
        back = a.behind;
        parts = a.parts;
        place = a.place;
        before = begins_by a.front a.more a.begins;
        after = λ b.
            let passes = file_passes 0 b.0 ((a.front ++ a.token ∷ []) ++ b.1) b.2 in
            let never : refusal the_file 0 ((a.front ++ a.token ∷ []) ++ b.1) ≡ Some a.token.place = rw append_assoc (a.never 0 b.1) in
            absurd cc;
      })
      | inr a ↦ inr (record {
        place = a.place;
        begins = begins_by ts a.more a.begins;
        short = λ f is. let passes = file_passes len f ts is in absurd cc;
      })
    ]

pub answer_of : {X : Type 0} (len : ℕ) (ts : List Lexeme) (r : Result X OilFault) → IfErr r (λ e. RefusesAll the_file len ts e) → IfErr r (λ e. IsSyntaxAnswer len ts e)
answer_of len ts (Ok x) h = tt
answer_of len ts (Err fault.Memory) h = tt
answer_of len ts (Err (fault.Syntax p)) h = refused len ts p h
answer_of len ts (Err _) h = absurd h
