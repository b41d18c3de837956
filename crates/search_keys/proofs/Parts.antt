-- The parts of a key that speak of jobs, interrupts and time.
use Rattle.std.proofs.Common.{ℕ, suc, ◌≡◌, ◌<◌, inl, inr, Bool, true, false, cond, List, [], ◌∷◌, length, refl, sym, ◌∙◌, ap, ap₂, subst, arith, true≢false}
use Rattle.std.specs.Prelude.{Option, Some, None, IfSome, ◌==◌, slice_index, slice_index_or}
use Rattle.std.proofs.lemmas.List.{ext_get_or, get_or_past}
use Rattle.std.proofs.lemmas.Bool.{cases_lt, eqb-true}
use Rattle.osek_base.specs.declared.limits.TheConstants.{REGISTERS}
use Rattle.osek_base.specs.declared.ids.ResId.{ResId}
use Rattle.osek_base.specs.declared.ids.Owner.{Owner}
use Rattle.osek_base.specs.Instruction.{Context, value}
use Rattle.osek_base.specs.State.{Active, Expiry}
use Rattle.law_kept.specs.Kept.{Kept, Slot, unbegun}
use Rattle.law_future.specs.Need.{Need}
use Rattle.law_future.specs.Meaning.{AreSameContexts, AreSameSlots, AreSameRoutines, AreSameActive}
use Rattle.search_keys.specs.Bytes.{each, number, flag, optional}
use Rattle.search_keys.specs.Key.{context_key, routine_key, resource_key, resources_key, job_key, task_key, expiry_key}
use Rattle.search_keys.specs.InRange.{HasRegisters}
use Rattle.search_keys.proofs.Codes.{Tells, weaker, nothing, byte, behind, unlike, and_then, ◌⨾◌, each_tells, number_tells, flag_tells, needed_tells, optional_tells}

-- ---- contexts

module _ (need : ℕ → Bool) where
  pub context_tells : (x y : Context) → HasRegisters x → HasRegisters y
      → Tells (context_key need x) (context_key need y) (AreSameContexts need x y)
  context_tells x y eight eight_too =
      weaker
      (number_tells x.place y.place
      ⨾ each_tells REGISTERS (λ r low. needed_tells (need r) (value x r) (value y r)))
      (λ h. record { place = h.0; size = eight ∙ sym eight_too; values = values h.1 })
    where
      values : ((r : ℕ) → r < REGISTERS → need r ≡ true → value x r ≡ value y r)
          → (r : ℕ) → need r ≡ true → value x r ≡ value y r
      values h r e = elim (cases_lt r REGISTERS) [
        | inl low ↦ h r low e
        | inr high ↦
            get_or_past x.registers r 0 (omega (arith, eight, high))
            ∙ sym (get_or_past y.registers r 0 (omega (arith, eight_too, high)))
      ]

module _ (need : Need) where
  -- with the needs of a routine of one number and of another one
  abbrev AreToldAs : Active → Active → ℕ → Type 0
  AreToldAs a b n =
      Tells (context_key (need.registers (Owner.Routine a.routine)) a.context)
      (context_key (need.registers (Owner.Routine n)) b.context)
      (AreSameContexts (need.registers (Owner.Routine a.routine)) a.context b.context)

  pub routine_tells : (a b : Active) → HasRegisters a.context → HasRegisters b.context
      → Tells (routine_key need a) (routine_key need b) (AreSameRoutines need a b)
  routine_tells a b eight eight_too =
      let registers = need.registers (Owner.Routine a.routine) in
      let here : AreToldAs a b a.routine =
      context_tells registers a.context b.context eight eight_too in
      weaker
      (and_then (number_tells a.routine b.routine) (λ same. subst (AreToldAs a b) same here))
      (λ h. record { routine = h.0; context = h.1 })

  pub active_tells : (a b : Option Active) → IfSome a (λ x. HasRegisters x.context)
      → IfSome b (λ x. HasRegisters x.context)
      → Tells (optional (routine_key need) a) (optional (routine_key need) b)
      (AreSameActive need a b)
  active_tells None None eight eight_too = weaker (byte 0 0) (λ e. tt)
  active_tells None (Some b) eight eight_too =
      unlike 0 1 [] (routine_key need b) (λ e. omega (arith, e))
  active_tells (Some a) None eight eight_too =
      unlike 1 0 (routine_key need a) [] (λ e. omega (arith, e))
  active_tells (Some a) (Some b) eight eight_too = behind 1 (routine_tells a b eight eight_too)

-- ---- tasks

resource_tells : (x y : ResId) → Tells (resource_key x) (resource_key y) (x ≡ y)
resource_tells ResId.Scheduler ResId.Scheduler = weaker (number_tells 0 0) (λ e. refl)
resource_tells ResId.Scheduler (ResId.Declared n) =
    weaker (number_tells 0 (suc n)) (λ e. absurd (omega (arith, e)))
resource_tells (ResId.Declared m) ResId.Scheduler =
    weaker (number_tells (suc m) 0) (λ e. absurd (omega (arith, e)))
resource_tells (ResId.Declared m) (ResId.Declared n) =
    weaker (number_tells (suc m) (suc n)) (λ e.
    let same : m ≡ n = omega (arith, e) in
    ap (λ (k : ℕ). ResId.Declared k) same)

resources_tell : (xs ys : List ResId) → length xs ≡ length ys
    → Tells (resources_key xs) (resources_key ys) (xs ≡ ys)
resources_tell [] [] size = nothing refl
resources_tell [] (y ∷ ys) size = absurd (omega (arith, size))
resources_tell (x ∷ xs) [] size = absurd (omega (arith, size))
resources_tell (x ∷ xs) (y ∷ ys) size =
    weaker (resource_tells x y ⨾ resources_tell xs ys (omega (arith, size)))
    (λ h. ap₂ (λ z zs. z ∷ zs) h.0 h.1)

pub same_slots : (need : ℕ → Bool) (a b : Slot) → a ≡ b → AreSameSlots need a b
same_slots need a b same = subst (AreSameSlots need a) same (record {
  rest = refl;
  context = record { place = refl; size = refl; values = λ r e. refl };
})

module _ (need : ℕ → Bool) (a b : Slot) where
  job_tells : HasRegisters a.context → HasRegisters b.context → a.count ≡ b.count
      → Tells (job_key need a) (job_key need b) (AreSameSlots need a b)
  job_tells eight eight_too count =
      weaker
      (and_then
      (flag_tells a.begun b.begun ⨾ flag_tells a.taken b.taken
      ⨾ number_tells (length a.held) (length b.held))
      (λ h. resources_tell a.held b.held h.1)
      ⨾ optional_tells number number_tells a.waits_for b.waits_for
      ⨾ context_tells need a.context b.context eight eight_too)
      (λ h. record {
        rest = λ i. record {
          count = count i;
          begun = h.0.0.0.0.0 i;
          held = h.0.0.1 i;
          taken = h.0.0.0.0.1 i;
          waits_for = h.0.1 i;
          context = b.context;
        };
        context = h.1;
      })

  pub slot_tells : HasRegisters a.context → HasRegisters b.context → (a.count ≡ 0 → a ≡ unbegun 0)
      → (b.count ≡ 0 → b ≡ unbegun 0) → a.count ≡ b.count
      → Tells (cond (a.count == 0) [] (job_key need a)) (cond (b.count == 0) [] (job_key need b))
      (AreSameSlots need a b)
  slot_tells eight eight_too none none_too count = go (a.count == 0) refl (b.count == 0) refl
    where
      go : (x : Bool) → (a.count == 0) ≡ x → (y : Bool) → (b.count == 0) ≡ y
          → Tells (cond x [] (job_key need a)) (cond y [] (job_key need b)) (AreSameSlots need a b)
      go true e true f =
          nothing
          (same_slots need a b
          (none (eqb-true a.count 0 e) ∙ sym (none_too (eqb-true b.count 0 f))))
      go true e false f = absurd (true≢false (sym e ∙ ap (λ n. n == 0) count ∙ f))
      go false e true f = absurd (true≢false (sym f ∙ ap (λ n. n == 0) (sym count) ∙ e))
      go false e false f = job_tells eight eight_too count

module _ (need : Need) (o p : Kept) (t : ℕ) where
  -- the slot of a task, and its events
  abbrev pub IsToldTask : Type 0
  IsToldTask =
      AreSameSlots (need.registers (Owner.Task t)) (o.slots t) (p.slots t)
      × (slice_index o.masks t ≡ slice_index p.masks t)

  pub task_tells : HasRegisters (o.slots t).context → HasRegisters (p.slots t).context
      → ((o.slots t).count ≡ 0 → o.slots t ≡ unbegun 0)
      → ((p.slots t).count ≡ 0 → p.slots t ≡ unbegun 0)
      → Tells (task_key need o t) (task_key need p t) IsToldTask
  task_tells eight eight_too none none_too =
      weaker
      (and_then (number_tells (o.slots t).count (p.slots t).count)
      (slot_tells (need.registers (Owner.Task t)) (o.slots t) (p.slots t) eight eight_too none
      none_too)
      ⨾ number_tells (slice_index o.masks t) (slice_index p.masks t))
      (λ h. (h.0.1, h.1))

-- ---- interrupts

pub flags_tell : (n : ℕ) (xs ys : List Bool) → length xs ≡ n → length ys ≡ n
    → Tells (each n (λ i. flag (slice_index_or xs i false)))
    (each n (λ i. flag (slice_index_or ys i false))) (xs ≡ ys)
flags_tell n xs ys size size_too =
    weaker
    (each_tells n (λ i low. flag_tells (slice_index_or xs i false) (slice_index_or ys i false)))
    (λ h. ext_get_or false xs ys (size ∙ sym size_too) (λ i low. h i (omega (arith, size, low))))

-- ---- time

expiry_tells : (x y : Expiry) → Tells (expiry_key x) (expiry_key y) (x ≡ y)
expiry_tells x y =
    weaker (number_tells x.count y.count ⨾ number_tells x.cycle y.cycle)
    (λ h. ap₂ (λ (n c : ℕ). record { count = n; cycle = c }) h.0 h.1)

pub alarm_tells : (x y : Option Expiry)
    → Tells (optional expiry_key x) (optional expiry_key y) (x ≡ y)
alarm_tells x y = optional_tells expiry_key expiry_tells x y
