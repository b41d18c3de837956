-- The list of faults of objects' names has just those that stand.
use Rattle.std.proofs.Common.{◌≡◌, ℕ, zero, suc, ◌⊎◌, List, [], ◌∷◌, ◌++◌, Option, Some, None, Bool, true, false, cond, ◌||◌, ◌&&◌, refl, sym, ap, ◌∙◌, subst, inl, inr, append_assoc}
use Rattle.std.specs.Str.{bytes_eq}
use Rattle.std.proofs.lemmas.Slice.Eq.{bytes_eq-Decides}
use Rattle.std.proofs.lemmas.List.{append-nil}
use Rattle.std.proofs.lemmas.Bool.{eqb-true, eq-eqb, and_parts, or_right, or_cases}
use Rattle.oil_reader.specs.declared.fault.OilFault.{OilFault}
use Rattle.oil_reader.specs.declared.fault.OilFault.TheVariants as fault
use Rattle.oil_reader.specs.declared.syntax.Kind.{Kind}
use Rattle.oil_reader.specs.declared.syntax.Kind.TheVariants as kind
use Rattle.oil_reader.specs.Grammar.{Object, File}
use Rattle.oil_reader.specs.Table.{is_one_of}
use Rattle.oil_reader.specs.Order.{first_of_all, earlier, rank, IsNoLater}
use Rattle.oil_reader.proofs.Scopes.{first_of_both}
use Rattle.oil_reader.specs.Attributes.{Among, IsSecondObject, Lacks, ObjectFault, ReservedFault, reserved, Finds}
use Rattle.oil_reader.specs.Checks.{kind_number, same_kind, is_os, clashes, stood, seconds, has_kind, lacks}
use Rattle.osek_base.proofs.FirstFaultLemmas.{no_later_self}
use Rattle.oil_reader.proofs.Firsts.{Finds_listed, among_left, among_right, among_either}
use Rattle.oil_reader.proofs.Listed.{any_is, any_by}

kind_at : ℕ → Kind
kind_at zero = kind.Os
kind_at (suc zero) = kind.AppMode
kind_at (suc (suc zero)) = kind.Task
kind_at (suc (suc (suc zero))) = kind.Isr
kind_at (suc (suc (suc (suc zero)))) = kind.Resource
kind_at (suc (suc (suc (suc (suc zero))))) = kind.Event
kind_at (suc (suc (suc (suc (suc (suc zero)))))) = kind.Counter
kind_at (suc (suc (suc (suc (suc (suc (suc zero))))))) = kind.Alarm
kind_at _ = kind.Os

kind_back : (k : Kind) → kind_at (kind_number k) ≡ k
unfolding kind_at
kind_back kind.Os = refl
kind_back kind.AppMode = refl
kind_back kind.Task = refl
kind_back kind.Isr = refl
kind_back kind.Resource = refl
kind_back kind.Event = refl
kind_back kind.Counter = refl
kind_back kind.Alarm = refl

pub same_kind_is : (j k : Kind) → same_kind j k ≡ true → j ≡ k
same_kind_is j k h = sym (kind_back j) ∙ ap kind_at (eqb-true (kind_number j) (kind_number k) h) ∙ kind_back k

is_same_kind : (j k : Kind) → j ≡ k → same_kind j k ≡ true
is_same_kind j k e = eq-eqb (kind_number j) (kind_number k) (ap kind_number e)

os_or_name : (k : Kind) (b : Bool) → (is_os k || b) ≡ true → (k ≡ kind.Os) ⊎ (b ≡ true)
os_or_name kind.Os b h = inl refl
os_or_name kind.AppMode b h = inr h
os_or_name kind.Task b h = inr h
os_or_name kind.Isr b h = inr h
os_or_name kind.Resource b h = inr h
os_or_name kind.Event b h = inr h
os_or_name kind.Counter b h = inr h
os_or_name kind.Alarm b h = inr h

clash_is : (x y : Object) → clashes x y ≡ true → (x.kind ≡ y.kind) × ((x.kind ≡ kind.Os) ⊎ (x.name ≡ y.name))
clash_is x y h =
    let t = and_parts (same_kind x.kind y.kind) (is_os x.kind || bytes_eq x.name y.name) h in
    (same_kind_is x.kind y.kind t.0, elim (os_or_name x.kind (bytes_eq x.name y.name) t.1) [ inl a ↦ inl a | inr b ↦ inr ((bytes_eq-Decides x.name y.name).0 b) ])

name_clash : (x y : Object) → (x.kind ≡ kind.Os) ⊎ (x.name ≡ y.name) → (is_os x.kind || bytes_eq x.name y.name) ≡ true
name_clash x y (inl a) = ap (λ (k : Kind). is_os k || bytes_eq x.name y.name) a
name_clash x y (inr b) = or_right (is_os x.kind) (bytes_eq x.name y.name) ((bytes_eq-Decides x.name y.name).1 b)

pub is_clash : (x y : Object) → x.kind ≡ y.kind → (x.kind ≡ kind.Os) ⊎ (x.name ≡ y.name) → clashes x y ≡ true
is_clash x y k n = rw (is_same_kind x.kind y.kind k) (name_clash x y n)

abbrev file : List ℕ → List Object → ℕ → File
file cpu objects close = record { cpu = cpu; objects = objects; close = close }

module _ (cpu : List ℕ) (close : ℕ) where
  second_here : (before : List Object) (x : Object) (after : List Object) (e : OilFault) (b : Bool) → stood before x ≡ b → Among (cond b (fault.Twice x.place ∷ []) []) e → ObjectFault (file cpu (before ++ x ∷ after) close) e
  second_here before x after e false t h = absurd h
  second_here before x after e true t (inr h) = absurd h
  second_here before x after e true t (inl h) =
      let first = any_is (λ y. clashes y x) before t in
      let c = clash_is first.0 x first.2 in
      subst (ObjectFault (file cpu (before ++ x ∷ after) close)) h (record {
        front = before;
        second = x;
        back = after;
        parts = refl;
        first = first.0;
        stands = first.1;
        kinds = c.0;
        same = c.1;
        place_is = refl;
      })

  seconds_to : (before xs : List Object) (e : OilFault) → Among (seconds before xs) e → ObjectFault (file cpu (before ++ xs) close) e
  seconds_to before [] e h = absurd h
  seconds_to before (x ∷ xs) e h =
      elim (among_either (cond (stood before x) (fault.Twice x.place ∷ []) []) (seconds (before ++ x ∷ []) xs) e h) [
        | inl a ↦ second_here before x xs e (stood before x) refl a
        | inr b ↦ subst (λ (s : List Object). ObjectFault (file cpu s close) e) (append_assoc before (x ∷ []) xs) (seconds_to (before ++ x ∷ []) xs e b)
      ]

split_seconds : (before front : List Object) (y : Object) (back : List Object) → stood (before ++ front) y ≡ true → Among (seconds before (front ++ y ∷ back)) (fault.Twice y.place)
split_seconds before [] y back h =
    let t : stood before y ≡ true = subst (λ (s : List Object). stood s y ≡ true) (append-nil before) h in
    rw t (inl refl)
split_seconds before (x ∷ front) y back h =
    among_right (cond (stood before x) (fault.Twice x.place ∷ []) []) (seconds (before ++ x ∷ []) (front ++ y ∷ back)) (fault.Twice y.place)
    (split_seconds (before ++ x ∷ []) front y back (subst (λ (s : List Object). stood s y ≡ true) (sym (append_assoc before (x ∷ []) front)) h))

second_from : (f : File) (place : ℕ) → IsSecondObject f place → Among (seconds [] f.objects) (fault.Twice place)
second_from f place u =
    let t : stood u.front u.second ≡ true = any_by (λ x. clashes x u.second) u.front u.first u.stands (is_clash u.first u.second u.kinds u.same) in
    rw (u.parts, u.place_is) (split_seconds [] u.front u.second u.back t)

-- ---- what is lacking

pub lacks_kind : (k : Kind) (f : File) → has_kind k f.objects ≡ false → Lacks f k
lacks_kind k f h o among e = let yes = any_by (λ x. same_kind x.kind k) f.objects o among (is_same_kind o.kind k e) in absurd cc

has_not : (k : Kind) (f : File) → Lacks f k → (b : Bool) → has_kind k f.objects ≡ b → b ≡ false
has_not k f h false e = refl
has_not k f h true e = let x = any_is (λ y. same_kind y.kind k) f.objects e in absurd (h x.0 x.1 (same_kind_is x.0.kind k x.2))

lacks_to : (f : File) (e : OilFault) (a b : Bool) → has_kind kind.Os f.objects ≡ a → has_kind kind.AppMode f.objects ≡ b → Among (cond (a && b) [] (fault.Missing f.close ∷ [])) e → ObjectFault f e
lacks_to f e true true p q h = absurd h
lacks_to f e true false p q (inr h) = absurd h
lacks_to f e true false p q (inl h) = subst (ObjectFault f) h (record { missing = inr (lacks_kind kind.AppMode f q); place_is = refl })
lacks_to f e false b p q (inr h) = absurd h
lacks_to f e false b p q (inl h) = subst (ObjectFault f) h (record { missing = inl (lacks_kind kind.Os f p); place_is = refl })

and_false : (a : Bool) → (a && false) ≡ false
and_false true = refl
and_false false = refl

lacks_either : (f : File) → Lacks f kind.Os ⊎ Lacks f kind.AppMode → (has_kind kind.Os f.objects && has_kind kind.AppMode f.objects) ≡ false
lacks_either f (inl h) = rw (has_not kind.Os f h (has_kind kind.Os f.objects) refl) refl
lacks_either f (inr h) = rw (has_not kind.AppMode f h (has_kind kind.AppMode f.objects) refl) (and_false (has_kind kind.Os f.objects))

-- ---- the whole list

objects_to : (f : File) (e : OilFault) → Among (seconds [] f.objects ++ lacks f.objects f.close) e → ObjectFault f e
objects_to f e h =
    elim (among_either (seconds [] f.objects) (lacks f.objects f.close) e h) [
      | inl a ↦ seconds_to f.cpu f.close [] f.objects e a
      | inr b ↦ lacks_to f e (has_kind kind.Os f.objects) (has_kind kind.AppMode f.objects) refl refl b
    ]

objects_from : (f : File) (e : OilFault) → ObjectFault f e → Among (seconds [] f.objects ++ lacks f.objects f.close) e
objects_from f (fault.Twice p) h = among_left (seconds [] f.objects) (lacks f.objects f.close) (fault.Twice p) (second_from f p h)
objects_from f (fault.Missing p) h = among_right (seconds [] f.objects) (lacks f.objects f.close) (fault.Missing p) (rw (lacks_either f h.missing) (inl (ap (λ (q : ℕ). fault.Missing q) (sym h.place_is))))
objects_from f fault.Memory h = absurd h
objects_from f (fault.Token p) h = absurd h
objects_from f (fault.Syntax p) h = absurd h
objects_from f (fault.UnknownAttribute p) h = absurd h
objects_from f (fault.Range p) h = absurd h

pub first_of_objects : (f : File) → Finds (ObjectFault f) (first_of_all None (seconds [] f.objects ++ lacks f.objects f.close))
first_of_objects f = Finds_listed (ObjectFault f) (seconds [] f.objects ++ lacks f.objects f.close) (objects_to f) (objects_from f)

-- ---- reserved names

pub one_of_is : (ws : List (List ℕ)) (w : List ℕ) → is_one_of ws w ≡ true → Among ws w
one_of_is [] w h = absurd cc
one_of_is (v ∷ ws) w h = elim (or_cases (bytes_eq w v) (is_one_of ws w) h) [ inl a ↦ inl (sym ((bytes_eq-Decides w v).0 a)) | inr b ↦ inr (one_of_is ws w b) ]

is_one : (ws : List (List ℕ)) (w : List ℕ) → Among ws w → is_one_of ws w ≡ true
is_one [] w h = absurd h
is_one (v ∷ ws) w (inl e) = rw ((bytes_eq-Decides w v).1 (sym e)) refl
is_one (v ∷ ws) w (inr h) = or_right (bytes_eq w v) (is_one_of ws w) (is_one ws w h)

pub reserved_some : (o : Object) → is_one_of (reserved o.kind) o.name ≡ true → Finds (ReservedFault o) (Some (fault.Range o.place))
reserved_some o h = record { stands = (one_of_is (reserved o.kind) o.name h, refl); first = λ g q. subst (IsNoLater (fault.Range o.place)) q.1 (no_later_self rank (fault.Range o.place)) }

pub reserved_none : (o : Object) → is_one_of (reserved o.kind) o.name ≡ false → Finds (ReservedFault o) None
reserved_none o h = λ g q. let yes = is_one (reserved o.kind) o.name q.0 in absurd cc

-- what is lacking comes behind the second objects
pub names_end : (xs : List Object) (close : ℕ) (found : Option OilFault) (r : OilFault) → (has_kind kind.Os xs && has_kind kind.AppMode xs) ≡ false → found ≡ first_of_all None (seconds [] xs) → r ≡ earlier found (fault.Missing close) → Some r ≡ first_of_all None (seconds [] xs ++ lacks xs close)
names_end xs close found r none e s =
    rw (first_of_both None (seconds [] xs) (lacks xs close), none) (ap (λ (o : OilFault). Some o) (s ∙ ap (λ (o : Option OilFault). earlier o (fault.Missing close)) e))
