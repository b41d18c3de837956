-- A loop that reads a list of things up to a closing brace.
use Rattle.std.proofs.Common.{◌≡◌, ℕ, List, [], ◌∷◌, ◌++◌, Option, Some, None, true, refl, ap, ◌∙◌, subst, append_assoc}
use Rattle.std.proofs.lemmas.List.{append-nil}
use Rattle.oil_reader.specs.declared.fault.OilFault.{OilFault}
use Rattle.oil_reader.specs.declared.fault.OilFault.TheVariants as fault
use Rattle.oil_reader.specs.declared.tokens.Sign.{Sign}
use Rattle.oil_reader.specs.declared.tokens.Sign.TheVariants.{Open, Close, Equals, Semicolon}
use Rattle.oil_reader.specs.Tokens.{Word, Name, Number, Version, Mark, Lexeme}
use Rattle.oil_reader.specs.Grammar.{AreEach, StartsWith, at, Setting, Attribute, Object, IsSub, IsAttribute, IsObject, IsHeader}
use Rattle.oil_reader.proofs.Passes.{each_passes, sub_passes, attribute_passes, object_passes, header_passes}
use Rattle.oil_reader.specs.Machine.{Symbol, AnyName, AnyKind, AnyValue, Only, Objects, Body, Attributes, Rest, Subs, refusal, Refuses, RefusesAll, the_file, after_step, after_kind, kind_of, step, same_sign}
use Rattle.oil_reader.specs.declared.syntax.Kind.{Kind}

-- these things stand before the rest
pub record SoFar {X : Type 0} (Is : X → List Lexeme → List Lexeme → Type 0) (s : Symbol) (len now : ℕ) (ts rest : List Lexeme) (xs : List X) : Type 0 where
  pub len_stays : now ≡ len
  pub each : (more : List X) (last : List Lexeme) → AreEach Is more rest last → AreEach Is (xs ++ more) ts last
  pub goes_on : (k : List Symbol) → refusal (s ∷ k) len ts ≡ refusal (s ∷ k) len rest

module _ {X : Type 0} (Is : X → List Lexeme → List Lexeme → Type 0) (s : Symbol) (len now : ℕ) (ts : List Lexeme) where
  pub one_more : (rest after : List Lexeme) (xs : List X) (x : X) (next : ℕ) → next ≡ now → Is x rest after → ((k : List Symbol) → refusal (s ∷ k) len rest ≡ refusal (s ∷ k) len after) → SoFar Is s len now ts rest xs → SoFar Is s len next ts after (xs ++ x ∷ [])
  one_more rest after xs x next same is passes so_far = record {
    len_stays = same ∙ so_far.len_stays;
    each = λ more last h. rw append_assoc (so_far.each (x ∷ more) last (after, is, h));
    goes_on = λ k. so_far.goes_on k ∙ passes k;
  }

  pub all_there : (rest : List Lexeme) (xs : List X) → SoFar Is s len now ts rest xs → AreEach Is xs ts rest
  all_there rest xs so_far = subst (λ (ys : List X). AreEach Is ys ts rest) (append-nil xs) (so_far.each [] rest refl)

  -- what refuses the rest refuses all
  pub refuses_all : (rest : List Lexeme) (xs : List X) (e : OilFault) → SoFar Is s len now ts rest xs → Refuses (s ∷ []) now rest e → Refuses (s ∷ []) len ts e
  refuses_all rest xs fault.Memory so_far h = tt
  refuses_all rest xs (fault.Syntax p) so_far h = λ k. so_far.goes_on k ∙ subst (λ (n : ℕ). refusal (s ∷ k) n rest ≡ Some p) so_far.len_stays (h k)
  refuses_all rest xs _ so_far h = absurd h

-- what the next of them refuses, unless the closing brace stands there
module _ (s first : Symbol) (others : List Symbol)
    (refused : (w : Word) (len place p : ℕ) (ts : List Lexeme) (k : List Symbol) → (w ≡ Mark Close → ⊥) → refusal (first ∷ others ++ (s ∷ k)) len (record { place = place; word = w } ∷ ts) ≡ Some p → refusal (s ∷ k) len (record { place = place; word = w } ∷ ts) ≡ Some p) where
  next_refuses : (len : ℕ) (ts : List Lexeme) (e : OilFault) → ¬ StartsWith Close ts → Refuses (first ∷ others) len ts e → Refuses (s ∷ []) len ts e
  next_refuses len ts fault.Memory closed h = tt
  next_refuses len [] (fault.Syntax p) closed h = λ k. h k
  next_refuses len (t ∷ ts) (fault.Syntax p) closed h = λ k. refused t.word len t.place p ts k closed (h (s ∷ k))
  next_refuses len ts _ closed h = absurd h

subs_first : (w : Word) (len place p : ℕ) (ts : List Lexeme) (k : List Symbol) → (w ≡ Mark Close → ⊥) → refusal (AnyName ∷ Only Equals ∷ AnyValue ∷ Only Semicolon ∷ Subs ∷ k) len (record { place = place; word = w } ∷ ts) ≡ Some p → refusal (Subs ∷ k) len (record { place = place; word = w } ∷ ts) ≡ Some p
subs_first (Number n) len place p ts k closed h = h
subs_first Version len place p ts k closed h = h
subs_first (Mark Open) len place p ts k closed h = h
subs_first (Mark Close) len place p ts k closed h = absurd (closed refl)
subs_first (Mark Equals) len place p ts k closed h = h
subs_first (Mark Semicolon) len place p ts k closed h = h
subs_first (Name v) len place p ts k closed h = h

pub subs_refuse : (len : ℕ) (ts : List Lexeme) (e : OilFault) → ¬ StartsWith Close ts → Refuses (AnyName ∷ Only Equals ∷ AnyValue ∷ Only Semicolon ∷ []) len ts e → Refuses (Subs ∷ []) len ts e
subs_refuse = next_refuses Subs AnyName (Only Equals ∷ AnyValue ∷ Only Semicolon ∷ []) subs_first

attributes_first : (w : Word) (len place p : ℕ) (ts : List Lexeme) (k : List Symbol) → (w ≡ Mark Close → ⊥) → refusal (AnyName ∷ Only Equals ∷ AnyValue ∷ Rest ∷ Attributes ∷ k) len (record { place = place; word = w } ∷ ts) ≡ Some p → refusal (Attributes ∷ k) len (record { place = place; word = w } ∷ ts) ≡ Some p
attributes_first (Number n) len place p ts k closed h = h
attributes_first Version len place p ts k closed h = h
attributes_first (Mark Open) len place p ts k closed h = h
attributes_first (Mark Close) len place p ts k closed h = absurd (closed refl)
attributes_first (Mark Equals) len place p ts k closed h = h
attributes_first (Mark Semicolon) len place p ts k closed h = h
attributes_first (Name v) len place p ts k closed h = h

pub attributes_refuse : (len : ℕ) (ts : List Lexeme) (e : OilFault) → ¬ StartsWith Close ts → Refuses (AnyName ∷ Only Equals ∷ AnyValue ∷ Rest ∷ []) len ts e → Refuses (Attributes ∷ []) len ts e
attributes_refuse = next_refuses Attributes AnyName (Only Equals ∷ AnyValue ∷ Rest ∷ []) attributes_first

kind_first : (o : Option Kind) (len place p : ℕ) (ts : List Lexeme) (k : List Symbol) → after_step (after_kind o []) place (λ more. refusal (more ++ (AnyName ∷ Body ∷ Objects ∷ k)) len ts) ≡ Some p → after_step (after_kind o (AnyName ∷ Body ∷ Objects ∷ [])) place (λ more. refusal (more ++ k) len ts) ≡ Some p
kind_first None len place p ts k h = h
kind_first (Some c) len place p ts k h = h

objects_first : (w : Word) (len place p : ℕ) (ts : List Lexeme) (k : List Symbol) → (w ≡ Mark Close → ⊥) → refusal (AnyKind ∷ AnyName ∷ Body ∷ Objects ∷ k) len (record { place = place; word = w } ∷ ts) ≡ Some p → refusal (Objects ∷ k) len (record { place = place; word = w } ∷ ts) ≡ Some p
objects_first (Number n) len place p ts k closed h = h
objects_first Version len place p ts k closed h = h
objects_first (Mark Open) len place p ts k closed h = h
objects_first (Mark Close) len place p ts k closed h = absurd (closed refl)
objects_first (Mark Equals) len place p ts k closed h = h
objects_first (Mark Semicolon) len place p ts k closed h = h
objects_first (Name v) len place p ts k closed h = kind_first (kind_of v) len place p ts k h

pub objects_refuse : (len : ℕ) (ts : List Lexeme) (e : OilFault) → ¬ StartsWith Close ts → Refuses (AnyKind ∷ AnyName ∷ Body ∷ []) len ts e → Refuses (Objects ∷ []) len ts e
objects_refuse = next_refuses Objects AnyKind (AnyName ∷ Body ∷ []) objects_first

-- ---- refusals of a part are refusals of the whole

pub refuses_by : (a b : List Symbol) (len : ℕ) (ts us : List Lexeme) (e : OilFault) (f : List Symbol → List Symbol) → ((k : List Symbol) → refusal (b ++ k) len us ≡ refusal (a ++ f k) len ts) → Refuses a len ts e → Refuses b len us e
refuses_by a b len ts us fault.Memory f same h = tt
refuses_by a b len ts us (fault.Syntax p) f same h = λ k. same k ∙ h (f k)
refuses_by a b len ts us _ f same h = absurd h

same_itself : (r : Sign) → same_sign r r ≡ true
same_itself Open = refl
same_itself Close = refl
same_itself Equals = refl
same_itself Semicolon = refl

-- what ends with a sign, and is at that sign
pub sign_refuses : (r : Sign) (s : Symbol) (len : ℕ) (ts : List Lexeme) (e : OilFault) → step s (Mark r) ≡ Some [] → StartsWith r ts → Refuses (Only r ∷ []) len ts e → Refuses (s ∷ []) len ts e
sign_refuses r s len [] e first starts h = absurd starts
sign_refuses r s len (t ∷ ts) e first starts h = refuses_by (Only r ∷ []) (s ∷ []) len (t ∷ ts) (t ∷ ts) e (λ k. k) (λ k. rw (starts, first, same_itself r) refl) h

-- what follows is in braces, unless a semicolon stands there
module _ (s inner : Symbol)
    (opens : (w : Word) (len place : ℕ) (ts : List Lexeme) (k : List Symbol) → (w ≡ Mark Semicolon → ⊥) → refusal (s ∷ k) len (record { place = place; word = w } ∷ ts) ≡ refusal (Only Open ∷ inner ∷ Only Semicolon ∷ k) len (record { place = place; word = w } ∷ ts)) where
  open_refuses : (len : ℕ) (ts : List Lexeme) (e : OilFault) → ¬ StartsWith Semicolon ts → Refuses (Only Open ∷ []) len ts e → Refuses (s ∷ []) len ts e
  open_refuses len [] e other h = refuses_by (Only Open ∷ []) (s ∷ []) len [] [] e (λ k. k) (λ k. refl) h
  open_refuses len (t ∷ ts) e other h = refuses_by (Only Open ∷ []) (s ∷ []) len (t ∷ ts) (t ∷ ts) e (λ k. inner ∷ Only Semicolon ∷ k) (λ k. opens t.word len t.place ts k other) h

rest_first : (w : Word) (len place : ℕ) (ts : List Lexeme) (k : List Symbol) → (w ≡ Mark Semicolon → ⊥) → refusal (Rest ∷ k) len (record { place = place; word = w } ∷ ts) ≡ refusal (Only Open ∷ Subs ∷ Only Semicolon ∷ k) len (record { place = place; word = w } ∷ ts)
rest_first (Name v) len place ts k other = refl
rest_first (Number n) len place ts k other = refl
rest_first Version len place ts k other = refl
rest_first (Mark Open) len place ts k other = refl
rest_first (Mark Close) len place ts k other = refl
rest_first (Mark Equals) len place ts k other = refl
rest_first (Mark Semicolon) len place ts k other = absurd (other refl)

pub rest_refuses : (len : ℕ) (ts : List Lexeme) (e : OilFault) → ¬ StartsWith Semicolon ts → Refuses (Only Open ∷ []) len ts e → Refuses (Rest ∷ []) len ts e
rest_refuses = open_refuses Rest Subs rest_first

body_first : (w : Word) (len place : ℕ) (ts : List Lexeme) (k : List Symbol) → (w ≡ Mark Semicolon → ⊥) → refusal (Body ∷ k) len (record { place = place; word = w } ∷ ts) ≡ refusal (Only Open ∷ Attributes ∷ Only Semicolon ∷ k) len (record { place = place; word = w } ∷ ts)
body_first (Name v) len place ts k other = refl
body_first (Number n) len place ts k other = refl
body_first Version len place ts k other = refl
body_first (Mark Open) len place ts k other = refl
body_first (Mark Close) len place ts k other = refl
body_first (Mark Equals) len place ts k other = refl
body_first (Mark Semicolon) len place ts k other = absurd (other refl)

pub body_refuses : (len : ℕ) (ts : List Lexeme) (e : OilFault) → ¬ StartsWith Semicolon ts → Refuses (Only Open ∷ []) len ts e → Refuses (Body ∷ []) len ts e
body_refuses = open_refuses Body Attributes body_first

-- the semicolon behind braces
module _ (len : ℕ) (ts inner rest : List Lexeme) (o c : ℕ) (e : OilFault) (opened : ts ≡ at o (Mark Open) ∷ inner) where
  pub block_end_refuses : (ss : List Setting) → AreEach IsSub ss inner (at c (Mark Close) ∷ rest) → Refuses (Only Semicolon ∷ []) len rest e → Refuses (Rest ∷ []) len ts e
  block_end_refuses ss each h = refuses_by (Only Semicolon ∷ []) (Rest ∷ []) len rest ts e (λ k. k)
      (λ k. ap (refusal (Rest ∷ k) len) opened ∙ each_passes IsSub Subs (Only Semicolon ∷ k) len (sub_passes (Only Semicolon ∷ k) len) ss inner (at c (Mark Close) ∷ rest) each) h

  pub body_end_refuses : (xs : List Attribute) → AreEach IsAttribute xs inner (at c (Mark Close) ∷ rest) → Refuses (Only Semicolon ∷ []) len rest e → Refuses (Body ∷ []) len ts e
  body_end_refuses xs each h = refuses_by (Only Semicolon ∷ []) (Body ∷ []) len rest ts e (λ k. k)
      (λ k. ap (refusal (Body ∷ k) len) opened ∙ each_passes IsAttribute Attributes (Only Semicolon ∷ k) len (attribute_passes (Only Semicolon ∷ k) len) xs inner (at c (Mark Close) ∷ rest) each) h

-- ---- the end of a file

pub file_goes_on : (len : ℕ) (cpu : List ℕ) (ts inner rest : List Lexeme) (os : List Object) (c : ℕ) → IsHeader cpu ts inner → AreEach IsObject os inner (at c (Mark Close) ∷ rest) → refusal the_file len ts ≡ refusal (Only Semicolon ∷ []) len rest
file_goes_on len cpu ts inner rest os c header each =
    header_passes (Objects ∷ Only Semicolon ∷ []) len cpu ts inner header ∙ each_passes IsObject Objects (Only Semicolon ∷ []) len (object_passes (Only Semicolon ∷ []) len) os inner (at c (Mark Close) ∷ rest) each

pub semicolon_refuses_all : (len : ℕ) (ts rest : List Lexeme) (e : OilFault) → refusal the_file len ts ≡ refusal (Only Semicolon ∷ []) len rest → Refuses (Only Semicolon ∷ []) len rest e → RefusesAll the_file len ts e
semicolon_refuses_all len ts rest fault.Memory same h = tt
semicolon_refuses_all len ts rest (fault.Syntax p) same h = same ∙ h []
semicolon_refuses_all len ts rest _ same h = absurd h

pub end_refuses_all : (len : ℕ) (ts rest : List Lexeme) (e : OilFault) → refusal the_file len ts ≡ refusal [] len rest → RefusesAll [] len rest e → RefusesAll the_file len ts e
end_refuses_all len ts rest fault.Memory same h = tt
end_refuses_all len ts rest (fault.Syntax p) same h = same ∙ h
end_refuses_all len ts rest _ same h = absurd h
