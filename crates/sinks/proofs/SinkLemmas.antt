-- How the bytes that a sink takes add up over several writes.
use Rattle.std.proofs.Common.{◌≡◌, ℕ, ◌+◌, ◌-◌, Bool, true, false, not, ◌||◌, ◌&&◌, ◌==◌, ne_eqb, List, [], ◌++◌, length, take, drop, Option, Some, None, Result, Ok, Err, refl, sym, ap, subst, ◌∙◌, append_assoc, append-nil}
use Rattle.std.proofs.KnownBytes.{Appends-nil}
use Rattle.std.proofs.lemmas.List.{take_rest, take-append-drop}
use Rattle.std.proofs.Math.Seq.{take-add}
use Rattle.std.specs.Io.KnownBytes.{Appends, Keeps}
use Rattle.std.specs.Result.{IsErrAnd}
use Rattle.sinks.specs.Sinks.{AppendsSome, Passes, Puts, Writing}

pub appends_more : (a b c : Option (List ℕ)) (xs ys : List ℕ) → Appends a b xs → Appends b c ys → Appends a c (xs ++ ys)
appends_more None b c xs ys p q = tt
appends_more (Some a) None c xs ys p q = absurd p
appends_more (Some a) (Some b) None xs ys p q = absurd q
appends_more (Some a) (Some b) (Some c) xs ys p q = q ∙ ap (λ t. t ++ ys) p ∙ append_assoc a xs ys

pub appends_kept : (a b c : Option (List ℕ)) (xs : List ℕ) → Appends a b xs → Keeps b c → Appends a c xs
appends_kept None b c xs p q = tt
appends_kept (Some a) None c xs p q = absurd p
appends_kept (Some a) (Some b) None xs p q = absurd q
appends_kept (Some a) (Some b) (Some c) xs p q = q ∙ p

-- one more write of what is left
pub taken_more : (a b c : Option (List ℕ)) (bytes : List ℕ) (done count : ℕ) → Appends a b (take done bytes)
    → Appends b c (take count (take (length bytes - done) (drop done bytes))) → Appends a c (take (done + count) bytes)
taken_more a b c bytes done count p q =
    rw (take-add done count bytes)
    (appends_more a b c (take done bytes) (take count (drop done bytes)) p (rw (take_rest bytes done) at q))

-- a write that took some bytes didn't fail
pub still_fine : (before : Bool) (count size : ℕ) → (count ≡ 0 → ⊥) → (before || (count == 0 && not (size == 0))) ≡ before
still_fine false count size h = rw (ne_eqb count 0 h) refl
still_fine true count size h = refl

-- ---- beginnings

pub begins : (a b : Option (List ℕ)) (bytes : List ℕ) (n : ℕ) → Appends a b (take n bytes) → AppendsSome a b bytes
begins a b bytes n p = record { front = take n bytes; rest = drop n bytes; whole = take-append-drop n bytes; taken = p }

pub begins_longer : (a b : Option (List ℕ)) (xs ys : List ℕ) → AppendsSome a b xs → AppendsSome a b (xs ++ ys)
begins_longer a b xs ys p =
    record {
      front = p.front;
      rest = p.rest ++ ys;
      whole = sym (append_assoc p.front p.rest ys) ∙ ap (λ t. t ++ ys) p.whole;
      taken = p.taken;
    }

pub begins_later : (a b c : Option (List ℕ)) (xs ys : List ℕ) → Appends a b xs → AppendsSome b c ys → AppendsSome a c (xs ++ ys)
begins_later a b c xs ys p q =
    record {
      front = xs ++ q.front;
      rest = q.rest;
      whole = append_assoc xs q.front q.rest ∙ ap (λ t. xs ++ t) q.whole;
      taken = appends_more a b c xs q.front p q.taken;
    }

-- ---- bytes that wait

-- nothing is done
pub passes_none : (a : Option (List ℕ)) (p : List ℕ) → Passes a a p p []
passes_none a p = record { front = []; whole = sym (append-nil p); taken = Appends-nil a }

-- more waits
pub waits_more : (a b : Option (List ℕ)) (p q xs ys : List ℕ) → Passes a b p q xs → Passes a b p (q ++ ys) (xs ++ ys)
waits_more a b p q xs ys h =
    record {
      front = h.front;
      whole = sym (append_assoc h.front q ys) ∙ ap (λ t. t ++ ys) h.whole ∙ append_assoc p xs ys;
      taken = h.taken;
    }

joined : (f g p q r xs ys : List ℕ) → f ++ q ≡ p ++ xs → g ++ r ≡ q ++ ys → (f ++ g) ++ r ≡ p ++ (xs ++ ys)
joined f g p q r xs ys h k =
    append_assoc f g r ∙ ap (λ t. f ++ t) k ∙ sym (append_assoc f q ys) ∙ ap (λ t. t ++ ys) h ∙ append_assoc p xs ys

pub passes_more : (a b c : Option (List ℕ)) (p q r xs ys : List ℕ) → Passes a b p q xs → Passes b c q r ys
    → Passes a c p r (xs ++ ys)
passes_more a b c p q r xs ys h k =
    record {
      front = h.front ++ k.front;
      whole = joined h.front k.front p q r xs ys h.whole k.whole;
      taken = appends_more a b c h.front k.front h.taken k.taken;
    }

pub stops_later : (a b c : Option (List ℕ)) (p q xs ys : List ℕ) → Passes a b p q xs → AppendsSome b c (q ++ ys)
    → AppendsSome a c (p ++ (xs ++ ys))
stops_later a b c p q xs ys h k =
    record {
      front = h.front ++ k.front;
      rest = k.rest;
      whole = joined h.front k.front p q k.rest xs ys h.whole k.whole;
      taken = appends_more a b c h.front k.front h.taken k.taken;
    }

-- what waits is taken at the end, or a part of it
pub passed_all : (a b c : Option (List ℕ)) (p q xs : List ℕ) → Passes a b p q xs → Appends b c q → Appends a c (p ++ xs)
passed_all a b c p q xs h k = subst (Appends a c) h.whole (appends_more a b c h.front q h.taken k)

pub passed_some : (a b c : Option (List ℕ)) (p q xs : List ℕ) → Passes a b p q xs → AppendsSome b c q
    → AppendsSome a c (p ++ xs)
passed_some a b c p q xs h k =
    record {
      front = h.front ++ k.front;
      rest = k.rest;
      whole = append_assoc h.front k.front k.rest ∙ ap (λ t. h.front ++ t) k.whole ∙ h.whole;
      taken = appends_more a b c h.front k.front h.taken k.taken;
    }

-- ---- what is done to a sink

module _ {X : Type 0} (taken : X → Option (List ℕ)) (has_failed : X → Bool)
    (D : Option (List ℕ) → Option (List ℕ) → Type 0) (bytes : List ℕ) where
  -- a failed write ends it
  pub stops : {T E : Type 0} (Q : E → Type 0) (old new : X) (r : Result T E) → IsErrAnd r Q
      → AppendsSome (taken old) (taken new) bytes → has_failed new ≡ true → Writing taken has_failed old new D bytes r
  stops Q old new (Ok x) h part failed = absurd h
  stops Q old new (Err e) h part failed = record { written = tt; beginning = part; still = tt; failed = failed }

  -- where something was done before
  pub goes_on : {T E : Type 0} (C : Option (List ℕ) → Option (List ℕ) → Type 0) (more : List ℕ) (old mid new : X) (r : Result T E)
      → has_failed mid ≡ has_failed old
      → (D (taken mid) (taken new) → C (taken old) (taken new))
      → (AppendsSome (taken mid) (taken new) bytes → AppendsSome (taken old) (taken new) more)
      → Writing taken has_failed mid new D bytes r → Writing taken has_failed old new C more r
  goes_on C more old mid new (Ok x) same all part h =
      record { written = all h.written; beginning = tt; still = h.still ∙ same; failed = tt }
  goes_on C more old mid new (Err e) same all part h =
      record { written = tt; beginning = part h.beginning; still = tt; failed = h.failed }

-- what was written before, and what is written then
pub puts_more : {X T E : Type 0} (taken : X → Option (List ℕ)) (has_failed : X → Bool) (old mid new : X) (text more : List ℕ)
    (r : Result T E) → Appends (taken old) (taken mid) text → has_failed mid ≡ has_failed old → Puts taken has_failed mid new more r
    → Puts taken has_failed old new (text ++ more) r
puts_more taken has_failed old mid new text more r begun same rest =
    let a = taken old in
    let b = taken mid in
    let c = taken new in
    goes_on taken has_failed (λ a b. Appends a b more) more (λ a b. Appends a b (text ++ more)) (text ++ more) old mid new r same
    (appends_more a b c text more begun) (begins_later a b c text more begun) rest

-- what is left of some bytes is written behind their beginning
pub puts_rest : {X T E : Type 0} (taken : X → Option (List ℕ)) (has_failed : X → Bool) (old mid new : X) (bytes : List ℕ) (done : ℕ)
    (r : Result T E) → Appends (taken old) (taken mid) (take done bytes) → has_failed mid ≡ has_failed old
    → Puts taken has_failed mid new (take (length bytes - done) (drop done bytes)) r → Puts taken has_failed old new bytes r
puts_rest taken has_failed old mid new bytes done r begun same rest =
    subst (λ t. Puts taken has_failed old new t r) (take-append-drop done bytes)
    (puts_more taken has_failed old mid new (take done bytes) (drop done bytes) r begun same
    (subst (λ t. Puts taken has_failed mid new t r) (take_rest bytes done) rest))
