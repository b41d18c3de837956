-- Who stands at a node is what it tells, and a node that covers another tells no more.
use Rattle.std.proofs.Common.{◌≡◌, ℕ, Bool, true, false, cond, not, ◌&&◌, List, [], ◌∷◌, refl, sym, ◌∙◌, ap}
use Rattle.std.specs.Prelude.{Option, Some, None, ◌==◌}
use Rattle.std.proofs.lemmas.Bool.{and_from, and_parts}
use Rattle.osek_base.specs.declared.ids.Owner.{Owner}
use Rattle.osek_base.specs.declared.ids.ResId.{ResId}
use Rattle.osek_base.specs.Lists.{same_owner, same_resource}
use Rattle.law_runs.proofs.Foremost.{equal, self_equal}
use Rattle.law_runs.proofs.Lists.{clash}
use Rattle.law_costs.specs.Left.{Switch}
use Rattle.law_nodes.specs.Nodes.{Node, Standing, covers, is_at, is_beside, is_within, same_held, same_switch, same_wait}
use Rattle.law_nodes.specs.Values.{know_no_more, may_have}
use Rattle.law_nodes.proofs.Knowing.{AreValues, fewer_values, may_have_of, values_of}

-- ---- what passes a test of sameness is the same

owner_is : (a b : Owner) → same_owner a b ≡ true → a ≡ b
owner_is (Owner.Task m) (Owner.Task n) h = ap Owner.Task (equal m n h)
owner_is (Owner.Task m) (Owner.Routine n) h = clash (sym h)
owner_is (Owner.Routine m) (Owner.Task n) h = clash (sym h)
owner_is (Owner.Routine m) (Owner.Routine n) h = ap Owner.Routine (equal m n h)

owner_self : (a : Owner) → same_owner a a ≡ true
owner_self (Owner.Task m) = self_equal m
owner_self (Owner.Routine m) = self_equal m

disabled_is : (a b : Bool) → cond a b (not b) ≡ true → a ≡ b
disabled_is true true h = refl
disabled_is true false h = clash (sym h)
disabled_is false true h = clash (sym h)
disabled_is false false h = refl

disabled_self : (a : Bool) → cond a a (not a) ≡ true
disabled_self true = refl
disabled_self false = refl

switch_is : (v w : Switch) → same_switch v w ≡ true → v ≡ w
switch_is v w h =
    let two =
    and_parts (cond v.disabled w.disabled (not w.disabled) && v.suspended_all == w.suspended_all)
    (v.suspended_os == w.suspended_os) h in
    let one =
    and_parts (cond v.disabled w.disabled (not w.disabled)) (v.suspended_all == w.suspended_all)
    two.0 in
    let disabled = disabled_is v.disabled w.disabled one.0 in
    let all = equal v.suspended_all w.suspended_all one.1 in
    let os = equal v.suspended_os w.suspended_os two.1 in
    λ i. record { disabled = disabled i; suspended_all = all i; suspended_os = os i }

switch_self : (w : Switch) → same_switch w w ≡ true
switch_self w =
    and_from (cond w.disabled w.disabled (not w.disabled) && w.suspended_all == w.suspended_all)
    (w.suspended_os == w.suspended_os)
    (and_from (cond w.disabled w.disabled (not w.disabled)) (w.suspended_all == w.suspended_all)
    (disabled_self w.disabled) (self_equal w.suspended_all))
    (self_equal w.suspended_os)

resource_is : (a b : ResId) → same_resource a b ≡ true → a ≡ b
resource_is (ResId.Declared m) (ResId.Declared n) h = ap ResId.Declared (equal m n h)
resource_is (ResId.Declared m) ResId.Scheduler h = clash (sym h)
resource_is ResId.Scheduler (ResId.Declared n) h = clash (sym h)
resource_is ResId.Scheduler ResId.Scheduler h = refl

pub resource_self : (a : ResId) → same_resource a a ≡ true
resource_self (ResId.Declared m) = self_equal m
resource_self ResId.Scheduler = refl

held_is : (a b : List ResId) → same_held a b ≡ true → a ≡ b
held_is [] [] h = refl
held_is [] (q ∷ b) h = clash (sym h)
held_is (r ∷ a) [] h = clash (sym h)
held_is (r ∷ a) (q ∷ b) h =
    let both = and_parts (same_resource r q) (same_held a b) h in
    ap (λ x. x ∷ a) (resource_is r q both.0) ∙ ap (λ x. q ∷ x) (held_is a b both.1)

held_self : (a : List ResId) → same_held a a ≡ true
held_self [] = refl
held_self (r ∷ a) =
    and_from (same_resource r r) (same_held a a) (resource_self r) (held_self a)

wait_is : (a b : Option ℕ) → same_wait a b ≡ true → a ≡ b
wait_is None None h = refl
wait_is None (Some n) h = clash (sym h)
wait_is (Some m) None h = clash (sym h)
wait_is (Some m) (Some n) h = ap Some (equal m n h)

wait_self : (a : Option ℕ) → same_wait a a ≡ true
wait_self None = refl
wait_self (Some m) = self_equal m

-- ---- nodes as who stands at them

-- the node of who executes, with registers of which that is known, and used events
abbrev pub node_of : Standing → List (Option ℕ) → ℕ → Node
node_of x registers used =
    record {
      owner = x.owner;
      switch = x.switch;
      held = x.held;
      waits_for = x.waits_for;
      used = used;
      place = x.context.place;
      registers = registers;
    }

module _ (m : Node) (x : Standing) where
  abbrev owners : Bool
  owners = same_owner m.owner x.owner

  abbrev switches : Bool
  switches = same_switch m.switch x.switch

  abbrev helds : Bool
  helds = same_held m.held x.held

  abbrev waits : Bool
  waits = same_wait m.waits_for x.waits_for

  abbrev places : Bool
  places = m.place == x.context.place

  same_from : (((owners && switches) && helds) && waits) && places ≡ true
      → m ≡ node_of x m.registers m.used
  same_from h =
      let four = and_parts (((owners && switches) && helds) && waits) places h in
      let three = and_parts ((owners && switches) && helds) waits four.0 in
      let two = and_parts (owners && switches) helds three.0 in
      let one = and_parts owners switches two.0 in
      let owner = owner_is m.owner x.owner one.0 in
      let switch = switch_is m.switch x.switch one.1 in
      let held = held_is m.held x.held two.1 in
      let wait = wait_is m.waits_for x.waits_for three.1 in
      let place = equal m.place x.context.place four.1 in
      λ i. record {
        owner = owner i;
        switch = switch i;
        held = held i;
        waits_for = wait i;
        used = m.used;
        place = place i;
        registers = m.registers;
      }

  -- who stands at a node is what it tells
  pub at_is : is_at m x ≡ true
      → (m ≡ node_of x m.registers m.used) × AreValues m.registers x.context.registers
  at_is h =
      let both =
      and_parts ((((owners && switches) && helds) && waits) && places)
      (may_have m.registers x.context.registers) h in
      (same_from both.0, values_of m.registers x.context.registers both.1)

  all_from : owners ≡ true → switches ≡ true → helds ≡ true → waits ≡ true → places ≡ true
      → may_have m.registers x.context.registers ≡ true → is_at m x ≡ true
  all_from owner switch held wait place values =
      and_from ((((owners && switches) && helds) && waits) && places)
      (may_have m.registers x.context.registers)
      (and_from (((owners && switches) && helds) && waits) places
      (and_from ((owners && switches) && helds) waits
      (and_from (owners && switches) helds (and_from owners switches owner switch) held)
      wait)
      place)
      values

pub is_at_of : (x : Standing) (registers : List (Option ℕ)) (used : ℕ)
    → AreValues registers x.context.registers → is_at (node_of x registers used) x ≡ true
is_at_of x registers used all =
    all_from (node_of x registers used) x (owner_self x.owner) (switch_self x.switch)
    (held_self x.held) (wait_self x.waits_for) (self_equal x.context.place)
    (may_have_of registers x.context.registers all)

-- who stands at a node stands at each that covers it
pub covered_at : (m n : Node) (x : Standing) → covers m n ≡ true → is_at n x ≡ true
    → is_at m x ≡ true
covered_at m n x over at =
    let all =
    and_parts (is_beside m n && know_no_more m.registers n.registers) (is_within n.used m.used)
    over in
    let both = and_parts (is_beside m n) (know_no_more m.registers n.registers) all.0 in
    let is = at_is n x at in
    and_from ((((owners m x && switches m x) && helds m x) && waits m x) && places m x)
    (may_have m.registers x.context.registers)
    (sym (ap (is_beside m) is.0) ∙ both.0)
    (may_have_of m.registers x.context.registers
    (fewer_values m.registers n.registers x.context.registers both.1 is.1))
