-- What settings without a fault have.
use Rattle.std.proofs.Common.{◌≡◌, ℕ, zero, suc, ◌<◌, ◌≤◌, ◌⊎◌, length, get_or, List, [], ◌∷◌, map, Option, Some, None, Bool, true, false, cond, leb, refl, sym, ap, ◌∙◌, subst, inl, inr, arith}
use Rattle.std.specs.Prelude.{codes}
use Rattle.std.specs.Str.{bytes_eq}
use Rattle.std.proofs.lemmas.Bool.{leb-true, and_parts}
use Rattle.std.proofs.lemmas.Slice.Eq.{bytes_eq-Decides}
use Rattle.osek_base.specs.declared.limits.TheConstants.{MAX_TASK_PRIORITY, MAX_ROUTINE_PRIORITY, MAX_ACTIVATION}
use Rattle.oil_reader.specs.declared.fault.OilFault.TheVariants as fault
use Rattle.oil_reader.specs.declared.syntax.Kind.TheVariants as kind
use Rattle.oil_reader.specs.declared.table.AttributeName.{AttributeName}
use Rattle.oil_reader.specs.declared.table.AttributeName.TheVariants.{TaskPriority, Activation, IsrPriority, AlarmCounter, AlarmAction, ActionTask, ActionEvent}
use Rattle.oil_reader.specs.Grammar.{Value, Named, Numeric, Setting, Block, Attribute, Object, File}
use Rattle.oil_reader.specs.Table.{word_of, presence_of, may_lack, attributes_of, Between, AnyName, in_range, accepts, block_of}
use Rattle.oil_reader.specs.Attributes.{Among, Scope, Names, object_scope, block_scope, IsSoundScope, IsSoundObject, IsSoundFile}
use Rattle.oil_reader.specs.Checks.{has_kind}
use Rattle.oil_reader.specs.Meaning.{value_at, block_at, block_settings, number_in, number_at, is_name, has_name, says, settings_in}
use Rattle.oil_reader.proofs.ObjectsListed.{one_of_is, lacks_kind}

some_same : (v w : Value) → Some v ≡ Some w → v ≡ w
some_same v w e = cc

-- ---- a value is some setting's

record ValueOf (p : AttributeName) (xs : List Setting) (v : Value) : Type 0 where
  setting : Setting
  stands : Among xs setting
  named : word_of p ≡ setting.name
  value : setting.value ≡ v

value_first : (p : AttributeName) (x : Setting) (xs : List Setting) (v : Value) (b : Bool) → bytes_eq (word_of p) x.name ≡ b → cond b (Some x.value) (value_at p xs) ≡ Some v
    → (value_at p xs ≡ Some v → ValueOf p xs v) → ValueOf p (x ∷ xs) v
value_first p x xs v true t e next = record { setting = x; stands = inl refl; named = (bytes_eq-Decides (word_of p) x.name).0 t; value = some_same x.value v e }
value_first p x xs v false t e next = let n = next e in record { setting = n.setting; stands = inr n.stands; named = n.named; value = n.value }

value_from : (p : AttributeName) (xs : List Setting) (v : Value) → value_at p xs ≡ Some v → ValueOf p xs v
value_from p [] v e = absurd cc
value_from p (x ∷ xs) v e = value_first p x xs v (bytes_eq (word_of p) x.name) refl e (value_from p xs v)

missing_first : (p : AttributeName) (y : Setting) (ys : List Setting) (x : Setting) (b : Bool) → bytes_eq (word_of p) y.name ≡ b → cond b (Some y.value) (value_at p ys) ≡ None
    → Among (y ∷ ys) x → word_of p ≡ x.name → (value_at p ys ≡ None → Among ys x → ⊥) → ⊥
missing_first p y ys x true t e h named next = absurd cc
missing_first p y ys x false t e (inl same) named next =
    let found : bytes_eq (word_of p) y.name ≡ true = (bytes_eq-Decides (word_of p) y.name).1 (named ∙ sym (ap (λ (z : Setting). z.name) same)) in absurd cc
missing_first p y ys x false t e (inr h) named next = next e h

value_missing : (p : AttributeName) (xs : List Setting) → value_at p xs ≡ None → (x : Setting) → Among xs x → ¬ (word_of p ≡ x.name)
value_missing p [] e x h named = absurd h
value_missing p (y ∷ ys) e x h named = missing_first p y ys x (bytes_eq (word_of p) y.name) refl e h named (λ f a. value_missing p ys f x a named)

-- ---- settings that stand together without a fault

module _ (s : Scope) (sound : IsSoundScope s) (p : AttributeName) where
  refused : (v : Value) → Names s.allowed (word_of p) p → ValueOf p s.settings v → accepts p v ≡ false → ⊥
  refused v names from t = sound (fault.Range from.setting.value_place) (record {
    setting = from.setting;
    stands = from.stands;
    attribute = p;
    names = subst (λ (w : List ℕ). Names s.allowed w p) from.named names;
    refused = λ yes. let same = ap (accepts p) from.value in absurd cc;
    place_is = refl;
  })

  accepted_if : (v : Value) (b : Bool) → accepts p v ≡ b → Names s.allowed (word_of p) p → ValueOf p s.settings v → b ≡ true
  accepted_if v true t names from = refl
  accepted_if v false t names from = absurd (refused v names from t)

  -- a value that stands is accepted
  pub accepted : Names s.allowed (word_of p) p → (v : Value) → value_at p s.settings ≡ Some v → accepts p v ≡ true
  accepted names v e = accepted_if v (accepts p v) refl names (value_from p s.settings v e)

  stands_if : (o : Option Value) → value_at p s.settings ≡ o → Among s.allowed p → may_lack (presence_of p) ≡ false → (v : Value) × (o ≡ Some v)
  stands_if (Some v) e allowed needed = (v, refl)
  stands_if None e allowed needed = absurd (sound (fault.Missing s.close) (record { attribute = p; allowed = allowed; needed = needed; missing = value_missing p s.settings e; place_is = refl }))

  -- what is needed stands
  pub needed_stands : Among s.allowed p → may_lack (presence_of p) ≡ false → (v : Value) × (value_at p s.settings ≡ Some v)
  needed_stands allowed needed = stands_if (value_at p s.settings) refl allowed needed

  -- a name that is needed
  pub needed_name : Among s.allowed p → Names s.allowed (word_of p) p → may_lack (presence_of p) ≡ false → ((v : Value) → accepts p v ≡ true → is_name (Some v) ≡ true) → has_name p s.settings ≡ true
  needed_name allowed names needed only =
      let v = needed_stands allowed needed in
      rw v.1 (only v.0 (accepted names v.0 v.1))

-- ---- numbers

between : (low high : ℕ) (v : Value) → in_range (Between low high) v ≡ true → number_in (Some v) ≤ high
between low high (Named s) h = absurd cc
between low high (Numeric n) h = leb-true n high (and_parts (leb low n) (leb n high) h).1

number_below : (o : Option Value) (low high : ℕ) → ((v : Value) → o ≡ Some v → in_range (Between low high) v ≡ true) → number_in o ≤ high
number_below None low high h = omega arith
number_below (Some v) low high h = between low high v (h v refl)

pub any_name : (v : Value) → in_range AnyName v ≡ true → is_name (Some v) ≡ true
any_name (Named s) h = refl
any_name (Numeric n) h = absurd cc

-- ---- objects

module _ (o : Object) (sound : IsSoundObject o) where
  pub object_sound : IsSoundScope (object_scope o)
  object_sound e f = sound e (inl (inl f))

  pub task_priority : o.kind ≡ kind.Task → number_at TaskPriority (settings_in o) ≤ MAX_TASK_PRIORITY
  task_priority k = number_below (value_at TaskPriority (settings_in o)) 0 MAX_TASK_PRIORITY (accepted (object_scope o) object_sound TaskPriority (rw k refl))

  pub task_activation : o.kind ≡ kind.Task → number_at Activation (settings_in o) ≤ MAX_ACTIVATION
  task_activation k = number_below (value_at Activation (settings_in o)) 1 MAX_ACTIVATION (accepted (object_scope o) object_sound Activation (rw k refl))

  pub isr_priority : o.kind ≡ kind.Isr → number_at IsrPriority (settings_in o) ≤ MAX_ROUTINE_PRIORITY
  isr_priority k = number_below (value_at IsrPriority (settings_in o)) 0 MAX_ROUTINE_PRIORITY (accepted (object_scope o) object_sound IsrPriority (rw k refl))

  pub alarm_counter : o.kind ≡ kind.Alarm → has_name AlarmCounter (settings_in o) ≡ true
  alarm_counter k = needed_name (object_scope o) object_sound AlarmCounter (rw k (inl refl)) (rw k refl) refl any_name

-- ---- blocks

record AttributeOf (p : AttributeName) (xs : List Attribute) (v : Value) : Type 0 where
  attribute : Attribute
  stands : Among xs attribute
  named : word_of p ≡ attribute.setting.name
  value : attribute.setting.value ≡ v
  block : block_at p xs ≡ block_settings attribute.block

attribute_first : (p : AttributeName) (a : Attribute) (xs : List Attribute) (v : Value) (b : Bool) → bytes_eq (word_of p) a.setting.name ≡ b
    → cond b (Some a.setting.value) (value_at p (map (λ a. a.setting) xs)) ≡ Some v
    → (value_at p (map (λ a. a.setting) xs) ≡ Some v → AttributeOf p xs v) → AttributeOf p (a ∷ xs) v
attribute_first p a xs v true t e next = record { attribute = a; stands = inl refl; named = (bytes_eq-Decides (word_of p) a.setting.name).0 t; value = some_same a.setting.value v e; block = rw t refl }
attribute_first p a xs v false t e next =
    let n = next e in
    record { attribute = n.attribute; stands = inr n.stands; named = n.named; value = n.value; block = rw t n.block }

attribute_from : (p : AttributeName) (xs : List Attribute) (v : Value) → value_at p (map (λ a. a.setting) xs) ≡ Some v → AttributeOf p xs v
attribute_from p [] v e = absurd cc
attribute_from p (a ∷ xs) v e = attribute_first p a xs v (bytes_eq (word_of p) a.setting.name) refl e (attribute_from p xs v)

scope_settings : (p : AttributeName) (a : Attribute) (b : Option Block) → (block_scope p a b).settings ≡ block_settings b
scope_settings p a None = refl
scope_settings p a (Some b) = refl

scope_allowed : (p : AttributeName) (a : Attribute) (b : Option Block) → (block_scope p a b).allowed ≡ block_of p a.setting.value
scope_allowed p a None = refl
scope_allowed p a (Some b) = refl

-- the block behind an attribute's value, as settings that stand together without a fault
pub record BlockScope (o : Object) (p : AttributeName) (v : Value) : Type 0 where
  pub scope : Scope
  pub sound : IsSoundScope scope
  pub settings : scope.settings ≡ block_at p o.attributes
  pub allowed : scope.allowed ≡ block_of p v

module _ (o : Object) (sound : IsSoundObject o) (p : AttributeName) (names : Names (attributes_of o.kind) (word_of p) p) (v : Value) (e : value_at p (settings_in o) ≡ Some v) where
  pub block_scope_of : BlockScope o p v
  block_scope_of =
      let a = attribute_from p o.attributes v e in
      record {
        scope = block_scope p a.attribute a.attribute.block;
        sound = λ f g. sound f (inl (inr (a.attribute, a.stands, (p, subst (λ (w : List ℕ). Names (attributes_of o.kind) w p) a.named names, g))));
        settings = scope_settings p a.attribute a.attribute.block ∙ sym a.block;
        allowed = scope_allowed p a.attribute a.attribute.block ∙ ap (block_of p) a.value;
      }

  -- a name that the block behind a value needs
  pub block_name : (q : AttributeName) (allowed : List AttributeName) → block_of p v ≡ allowed → Among allowed q → Names allowed (word_of q) q → may_lack (presence_of q) ≡ false → ((w : Value) → accepts q w ≡ true → is_name (Some w) ≡ true) → has_name q (block_at p o.attributes) ≡ true
  block_name q allowed is among named needed only =
      let b = block_scope_of in
      let allows : b.scope.allowed ≡ allowed = b.allowed ∙ is in
      let has = needed_name b.scope b.sound q (subst (λ (l : List AttributeName). Among l q) (sym allows) among) (subst (λ (l : List AttributeName). Names l (word_of q) q) (sym allows) named) needed only in
      subst (λ (xs : List Setting). has_name q xs ≡ true) b.settings has

-- ---- actions

action_word : (v : Value) → accepts AlarmAction v ≡ true → (v ≡ Named (codes "ACTIVATETASK")) ⊎ (v ≡ Named (codes "SETEVENT"))
action_word (Numeric n) h = absurd cc
action_word (Named s) h =
    elim (one_of_is (codes "ACTIVATETASK" ∷ codes "SETEVENT" ∷ []) s h) [
      | inl a ↦ inl (ap Named (sym a))
      | inr b ↦ elim b [ inl c ↦ inr (ap Named (sym c)) | inr d ↦ absurd d ]
    ]

pub record ActionNames (o : Object) : Type 0 where
  pub task : has_name ActionTask (block_at AlarmAction o.attributes) ≡ true
  pub event : says (value_at AlarmAction (settings_in o)) (codes "SETEVENT") ≡ true → has_name ActionEvent (block_at AlarmAction o.attributes) ≡ true

pub action_names : (o : Object) → IsSoundObject o → o.kind ≡ kind.Alarm → ActionNames o
action_names o sound k =
    let names : Names (attributes_of o.kind) (word_of AlarmAction) AlarmAction = rw k refl in
    let stands = needed_stands (object_scope o) (object_sound o sound) AlarmAction (rw k (inr (inl refl))) refl in
    let v = stands.0 in
    let ok = accepted (object_scope o) (object_sound o sound) AlarmAction names v stands.1 in
    elim (action_word v ok) [
      | inl a ↦ record {
        task = block_name o sound AlarmAction names v stands.1 ActionTask (ActionTask ∷ []) (ap (block_of AlarmAction) a) (inl refl) refl refl any_name;
        event = λ h. let other : says (value_at AlarmAction (settings_in o)) (codes "SETEVENT") ≡ false = rw (stands.1, a) refl in absurd cc;
      }
      | inr b ↦ record {
        task = block_name o sound AlarmAction names v stands.1 ActionTask (ActionTask ∷ ActionEvent ∷ []) (ap (block_of AlarmAction) b) (inl refl) refl refl any_name;
        event = λ h. block_name o sound AlarmAction names v stands.1 ActionEvent (ActionTask ∷ ActionEvent ∷ []) (ap (block_of AlarmAction) b) (inr (inl refl)) refl refl any_name;
      }
    ]

-- ---- files

has_os_if : (f : File) → IsSoundFile f → (b : Bool) → has_kind kind.Os f.objects ≡ b → b ≡ true
has_os_if f sound true t = refl
has_os_if f sound false t = absurd (sound (fault.Missing f.close) (inl (record { missing = inl (lacks_kind kind.Os f t); place_is = refl })))

pub has_os : (f : File) → IsSoundFile f → has_kind kind.Os f.objects ≡ true
has_os f sound = has_os_if f sound (has_kind kind.Os f.objects) refl

has_modes_if : (f : File) → IsSoundFile f → (b : Bool) → has_kind kind.AppMode f.objects ≡ b → b ≡ true
has_modes_if f sound true t = refl
has_modes_if f sound false t = absurd (sound (fault.Missing f.close) (inl (record { missing = inr (lacks_kind kind.AppMode f t); place_is = refl })))

pub has_modes : (f : File) → IsSoundFile f → has_kind kind.AppMode f.objects ≡ true
has_modes f sound = has_modes_if f sound (has_kind kind.AppMode f.objects) refl

pub each_sound : (f : File) → IsSoundFile f → (o : Object) → Among f.objects o → IsSoundObject o
each_sound f sound o stands e g = sound e (inr (o, stands, g))

-- a thing of a list at a place
among_from : {X Y : Type 0} (f : X → Y) (xs : List X) (i : ℕ) (x : X) → i < length xs → Among (map f xs) (f (get_or xs i x))
among_from f [] i x inside = absurd (omega (arith, inside))
among_from f (y ∷ xs) zero x inside = inl refl
among_from f (y ∷ xs) (suc i) x inside = inr (among_from f xs i x (omega (arith, inside)))

pub among_at : {X Y : Type 0} (f : X → Y) (xs : List X) (i : ℕ) (x : X) → i < length xs → x ≡ get_or xs i x → Among (map f xs) (f x)
among_at {X} {Y} f xs i x inside is = subst (λ (y : X). Among (map f xs) (f y)) (sym is) (among_from f xs i x inside)
