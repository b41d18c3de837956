-- The lists of a file are the objects of the tree, kind by kind, in their order.
use Rattle.std.proofs.Common.{◌≡◌, ℕ, List, [], ◌∷◌, ◌++◌, map, Bool, true, false, cond, ◌||◌, refl, sym, ap, ◌∙◌, subst, inl, inr, append_assoc}
use Rattle.std.specs.List.{list_all}
use Rattle.std.specs.Str.{bytes_eq}
use Rattle.std.proofs.lemmas.Slice.Eq.{bytes_eq-Decides}
use Rattle.std.proofs.lemmas.List.{append-nil}
use Rattle.osek_base.specs.Lists.{is_empty}
use Rattle.osek_base.specs.Names.{is_named, are_distinct_names}
use Rattle.oil_reader.specs.declared.fault.OilFault.TheVariants as fault
use Rattle.oil_reader.specs.declared.syntax.Kind.{Kind}
use Rattle.oil_reader.specs.declared.syntax.Kind.TheVariants as kind
use Rattle.oil_reader.specs.Grammar.{Object, File}
use Rattle.oil_reader.specs.Attributes.{Among, IsSoundFile}
use Rattle.oil_reader.specs.Checks.{same_kind, has_kind}
use Rattle.oil_reader.specs.Configuration.{Configuration}
use Rattle.oil_reader.specs.Meaning.{add_by, with_object, with_objects, task_record, isr_record, resource_record, event_record, counter_record, alarm_record}
use Rattle.oil_reader.proofs.Firsts.{among_right}
use Rattle.oil_reader.proofs.Listed.{any_is}
use Rattle.oil_reader.proofs.ObjectsListed.{same_kind_is}
use Rattle.oil_reader.proofs.Passes.{each_kind}

-- what the objects of a kind say, in their order
abbrev pub records_of : {R : Type 0} → Kind → (Object → R) → List Object → List R
records_of k r [] = []
records_of k r (o ∷ os) = cond (same_kind o.kind k) (r o ∷ records_of k r os) (records_of k r os)

abbrev pub name_of : Object → List ℕ
name_of o = o.name

-- ---- objects change neither the CPU's name nor the OS object

abbrev Stays : {X : Type 0} → (Configuration → X) → Configuration → Object → Kind → Type 0
Stays part c o k = part (add_by k c o) ≡ part c

stays : {X : Type 0} (part : Configuration → X) → ((c : Configuration) (o : Object) (k : Kind) → Stays part c o k) → (c : Configuration) (os : List Object) → part (with_objects c os) ≡ part c
stays part same c [] = refl
stays part same c (o ∷ os) = stays part same (with_object c o) os ∙ same c o o.kind

pub cpu_is : (c : Configuration) (os : List Object) → (with_objects c os).cpu ≡ c.cpu
cpu_is = stays (λ c. c.cpu) (λ c o. each_kind (Stays (λ d. d.cpu) c o) refl refl refl refl refl refl refl refl)

pub os_is : (c : Configuration) (os : List Object) → (with_objects c os).os ≡ c.os
os_is = stays (λ c. c.os) (λ c o. each_kind (Stays (λ d. d.os) c o) refl refl refl refl refl refl refl refl)

-- ---- the lists

-- an object of the list's kind comes to its end, and no other does
abbrev Grows : {R : Type 0} → (Configuration → List R) → Kind → (Object → R) → Configuration → Object → Kind → Type 0
Grows part k r c o j = part (add_by j c o) ≡ cond (same_kind j k) (part c ++ r o ∷ []) (part c)

grown : {R : Type 0} (b : Bool) (old now rest : List R) (x : R) → now ≡ cond b (old ++ x ∷ []) old → now ++ rest ≡ old ++ cond b (x ∷ rest) rest
grown true old now rest x e = rw e (append_assoc old (x ∷ []) rest)
grown false old now rest x e = rw e refl

list_is : {R : Type 0} (part : Configuration → List R) (k : Kind) (r : Object → R) → ((c : Configuration) (o : Object) (j : Kind) → Grows part k r c o j) → (c : Configuration) (os : List Object) → part (with_objects c os) ≡ part c ++ records_of k r os
list_is part k r one c [] = sym (append-nil (part c))
list_is part k r one c (o ∷ os) =
    list_is part k r one (with_object c o) os ∙ grown (same_kind o.kind k) (part c) (part (with_object c o)) (records_of k r os) (r o) (one c o o.kind)

pub app_modes_are : (c : Configuration) (os : List Object) → (with_objects c os).app_modes ≡ c.app_modes ++ records_of kind.AppMode name_of os
app_modes_are = list_is (λ c. c.app_modes) kind.AppMode name_of (λ c o. each_kind (Grows (λ d. d.app_modes) kind.AppMode name_of c o) refl refl refl refl refl refl refl refl)

pub tasks_are : (c : Configuration) (os : List Object) → (with_objects c os).tasks ≡ c.tasks ++ records_of kind.Task task_record os
tasks_are = list_is (λ c. c.tasks) kind.Task task_record (λ c o. each_kind (Grows (λ d. d.tasks) kind.Task task_record c o) refl refl refl refl refl refl refl refl)

pub routines_are : (c : Configuration) (os : List Object) → (with_objects c os).routines ≡ c.routines ++ records_of kind.Isr isr_record os
routines_are = list_is (λ c. c.routines) kind.Isr isr_record (λ c o. each_kind (Grows (λ d. d.routines) kind.Isr isr_record c o) refl refl refl refl refl refl refl refl)

pub resources_are : (c : Configuration) (os : List Object) → (with_objects c os).resources ≡ c.resources ++ records_of kind.Resource resource_record os
resources_are = list_is (λ c. c.resources) kind.Resource resource_record (λ c o. each_kind (Grows (λ d. d.resources) kind.Resource resource_record c o) refl refl refl refl refl refl refl refl)

pub events_are : (c : Configuration) (os : List Object) → (with_objects c os).events ≡ c.events ++ records_of kind.Event event_record os
events_are = list_is (λ c. c.events) kind.Event event_record (λ c o. each_kind (Grows (λ d. d.events) kind.Event event_record c o) refl refl refl refl refl refl refl refl)

pub counters_are : (c : Configuration) (os : List Object) → (with_objects c os).counters ≡ c.counters ++ records_of kind.Counter counter_record os
counters_are = list_is (λ c. c.counters) kind.Counter counter_record (λ c o. each_kind (Grows (λ d. d.counters) kind.Counter counter_record c o) refl refl refl refl refl refl refl refl)

pub alarms_are : (c : Configuration) (os : List Object) → (with_objects c os).alarms ≡ c.alarms ++ records_of kind.Alarm alarm_record os
alarms_are = list_is (λ c. c.alarms) kind.Alarm alarm_record (λ c o. each_kind (Grows (λ d. d.alarms) kind.Alarm alarm_record c o) refl refl refl refl refl refl refl refl)

-- ---- a test that each of them passes

all_step : {R : Type 0} (test : R → Bool) (k : Kind) (r : Object → R) (o : Object) (os : List Object) (b : Bool) → same_kind o.kind k ≡ b
    → (o.kind ≡ k → test (r o) ≡ true) → list_all test (records_of k r os) ≡ true → list_all test (cond b (r o ∷ records_of k r os) (records_of k r os)) ≡ true
all_step test k r o os true e here rest = rw (here (same_kind_is o.kind k e)) rest
all_step test k r o os false e here rest = rest

pub all_records : {R : Type 0} (test : R → Bool) (k : Kind) (r : Object → R) (os : List Object) → ((o : Object) → Among os o → o.kind ≡ k → test (r o) ≡ true) → list_all test (records_of k r os) ≡ true
all_records test k r [] each = refl
all_records test k r (o ∷ os) each = all_step test k r o os (same_kind o.kind k) refl (each o (inl refl)) (all_records test k r os (λ p among e. each p (inr among) e))

-- ---- there is one

some_step : {R : Type 0} (k : Kind) (r : Object → R) (o : Object) (os : List Object) (b : Bool) → (b || has_kind k os) ≡ true → (has_kind k os ≡ true → is_empty (records_of k r os) ≡ false)
    → is_empty (cond b (r o ∷ records_of k r os) (records_of k r os)) ≡ false
some_step k r o os true h next = refl
some_step k r o os false h next = next h

pub some_record : {R : Type 0} (k : Kind) (r : Object → R) (os : List Object) → has_kind k os ≡ true → is_empty (records_of k r os) ≡ false
some_record k r [] h = absurd cc
some_record k r (o ∷ os) h = some_step k r o os (same_kind o.kind k) h (some_record k r os)

-- ---- names

names_step : {R : Type 0} (k : Kind) (r : Object → R) (n : R → List ℕ) (o : Object) (os : List Object) (b : Bool) → n (r o) ≡ o.name → map n (records_of k r os) ≡ records_of k name_of os
    → map n (cond b (r o ∷ records_of k r os) (records_of k r os)) ≡ cond b (o.name ∷ records_of k name_of os) (records_of k name_of os)
names_step k r n o os true here rest = cc
names_step k r n o os false here rest = rest

pub names_are : {R : Type 0} (k : Kind) (r : Object → R) (n : R → List ℕ) → ((o : Object) → n (r o) ≡ o.name) → (os : List Object) → map n (records_of k r os) ≡ records_of k name_of os
names_are k r n each [] = refl
names_are k r n each (o ∷ os) = names_step k r n o os (same_kind o.kind k) (each o) (names_are k r n each os)

-- an object of that kind and name
pub record Owner (k : Kind) (os : List Object) (name : List ℕ) : Type 0 where
  pub object : Object
  pub stands : Among os object
  pub kind_is : object.kind ≡ k
  pub name_is : object.name ≡ name

owner_step : (k : Kind) (o : Object) (os : List Object) (name : List ℕ) (b : Bool) → same_kind o.kind k ≡ b → Among (cond b (o.name ∷ records_of k name_of os) (records_of k name_of os)) name
    → (Among (records_of k name_of os) name → Owner k os name) → Owner k (o ∷ os) name
owner_step k o os name true e (inl same) next = record { object = o; stands = inl refl; kind_is = same_kind_is o.kind k e; name_is = same }
owner_step k o os name true e (inr among) next = let n = next among in record { object = n.object; stands = inr n.stands; kind_is = n.kind_is; name_is = n.name_is }
owner_step k o os name false e among next = let n = next among in record { object = n.object; stands = inr n.stands; kind_is = n.kind_is; name_is = n.name_is }

owner_of : (k : Kind) (os : List Object) (name : List ℕ) → Among (records_of k name_of os) name → Owner k os name
owner_of k [] name among = absurd among
owner_of k (o ∷ os) name among = owner_step k o os name (same_kind o.kind k) refl among (owner_of k os name)

-- a thing of a list, with what stands before and behind it
pub record Parts {X : Type 0} (xs : List X) (x : X) : Type 0 where
  pub front : List X
  pub back : List X
  pub parts : xs ≡ front ++ x ∷ back

pub parts_of : {X : Type 0} (xs : List X) (x : X) → Among xs x → Parts xs x
parts_of [] x among = absurd among
parts_of {X} (y ∷ xs) x (inl same) = record { front = []; back = xs; parts = ap (λ (z : X). z ∷ xs) same }
parts_of {X} (y ∷ xs) x (inr among) = let p = parts_of xs x among in record { front = y ∷ p.front; back = p.back; parts = ap (λ (zs : List X). y ∷ zs) p.parts }

-- of a list before ++ x ∷ xs, the parts round a later thing
pub later_parts : {X : Type 0} (whole before : List X) (x : X) (xs : List X) (y : X) → whole ≡ before ++ x ∷ xs → (p : Parts xs y) → whole ≡ (before ++ x ∷ p.front) ++ y ∷ p.back
later_parts {X} whole before x xs y is p = is ∙ ap (λ (zs : List X). before ++ x ∷ zs) p.parts ∙ sym (append_assoc before (x ∷ p.front) (y ∷ p.back))

module _ (f : File) (sound : IsSoundFile f) (k : Kind) where
  no_second : (before : List Object) (o : Object) (os : List Object) → f.objects ≡ before ++ o ∷ os → o.kind ≡ k → (q : Owner k os o.name) → ⊥
  no_second before o os is here q =
      let p = parts_of os q.object q.stands in
      sound (fault.Twice q.object.place) (inl (record {
        front = before ++ o ∷ p.front;
        second = q.object;
        back = p.back;
        parts = later_parts f.objects before o os q.object is p;
        first = o;
        stands = among_right before (o ∷ p.front) o (inl refl);
        kinds = here ∙ sym q.kind_is;
        same = inr (sym q.name_is);
        place_is = refl;
      }))

  unnamed_if : (before : List Object) (o : Object) (os : List Object) → f.objects ≡ before ++ o ∷ os → o.kind ≡ k → (b : Bool) → is_named o.name (records_of k name_of os) ≡ b → b ≡ false
  unnamed_if before o os is here false t = refl
  unnamed_if before o os is here true t =
      let n = any_is (bytes_eq o.name) (records_of k name_of os) t in
      let same : o.name ≡ n.0 = (bytes_eq-Decides o.name n.0).0 n.2 in
      absurd (no_second before o os is here (owner_of k os o.name (subst (Among (records_of k name_of os)) (sym same) n.1)))

  distinct_step : (before : List Object) (o : Object) (os : List Object) → f.objects ≡ before ++ o ∷ os → (b : Bool) → same_kind o.kind k ≡ b → are_distinct_names (records_of k name_of os) ≡ true
      → are_distinct_names (cond b (o.name ∷ records_of k name_of os) (records_of k name_of os)) ≡ true
  distinct_step before o os is false t rest = rest
  distinct_step before o os is true t rest = rw (unnamed_if before o os is (same_kind_is o.kind k t) (is_named o.name (records_of k name_of os)) refl) rest

  distinct_from : (before os : List Object) → f.objects ≡ before ++ os → are_distinct_names (records_of k name_of os) ≡ true
  distinct_from before [] is = refl
  distinct_from before (o ∷ os) is = distinct_step before o os is (same_kind o.kind k) refl (distinct_from (before ++ o ∷ []) os (is ∙ sym (append_assoc before (o ∷ []) os)))

  -- no two objects of one kind have one name
  pub distinct_names : are_distinct_names (records_of k name_of f.objects) ≡ true
  distinct_names = distinct_from [] f.objects refl
