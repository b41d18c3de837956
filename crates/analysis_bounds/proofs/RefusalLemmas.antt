-- Refusals that there may be at a node there may be at each that covers it.
use Rattle.std.proofs.Common.{ℕ, zero, suc, ◌≡◌, ◌<◌, ◌⊎◌, inl, inr, Bool, true, false, cond, List, [], ◌∷◌, length, refl, sym, ◌∙◌, ap, subst, arith, not-suc-le-zero, le_of_suc-le-suc}
use Rattle.std.specs.Prelude.{Option, Some, None, Contains, slice_index_or}
use Rattle.std.proofs.lemmas.Bool.{and_parts}
use Rattle.osek_base.specs.declared.ids.Owner.{Owner}
use Rattle.osek_base.specs.declared.instr.Service.{Service}
use Rattle.osek_base.specs.declared.status.Status.{Status}
use Rattle.osek_base.specs.Service.{Caller}
use Rattle.osek_base.specs.System.{System}
use Rattle.osek_base.specs.Types.{ServiceCall}
use Rattle.law_runs.proofs.Foremost.{equal}
use Rattle.law_runs.proofs.Lists.{clash}
use Rattle.law_costs.specs.Left.{is_off}
use Rattle.law_nodes.specs.Nodes.{Node}
use Rattle.law_nodes.specs.Services.{answers, caller_at, first_refusals, is_bad_increment, is_bad_start, refusals_of}
use Rattle.law_nodes.specs.Values.{know_no_more, known, knows_no_more, of_known}

-- ---- elements by cases

abbrev pub Among : {X : Type 0} → X → List X → Type 0
Among x [] = ⊥
Among x (y ∷ ys) = (y ≡ x) ⊎ Among x ys

pub among_of : {X : Type 0} (x : X) (xs : List X) → Contains xs x → Among x xs
among_of {X = X} x xs h = go xs h.0 h.1 h.2
  where
    go : (ys : List X) (k : ℕ) → k < length ys → slice_index_or ys k x ≡ x → Among x ys
    go [] k low is = absurd (not-suc-le-zero low)
    go (y ∷ ys) zero low is = inl is
    go (y ∷ ys) (suc k) low is = inr (go ys k (le_of_suc-le-suc low) is)

-- ---- tests of which less is known

abbrev Tests : Type 0
Tests = List (Option Bool × Status)

-- a test that isn't decided where another one is, or is decided alike
abbrev IsWeaker : Option Bool → Option Bool → Type 0
IsWeaker a b = (a ≡ None) ⊎ (a ≡ b)

abbrev AreWeaker : Tests → Tests → Type 0
AreWeaker [] [] = Unit {0}
AreWeaker (a ∷ few) (b ∷ more) = IsWeaker a.0 b.0 × (a.1 ≡ b.1) × AreWeaker few more
AreWeaker _ _ = ⊥

weaker_self : (tests : Tests) → AreWeaker tests tests
weaker_self [] = tt
weaker_self (a ∷ tests) = (inr refl, refl, weaker_self tests)

-- what may be the first that applies may be by the weaker ones
first_of_weaker : (o : Option Status) (few more : Tests) → AreWeaker few more
    → Among o (first_refusals more) → Among o (first_refusals few)
first_of_weaker o [] [] weak among = among
first_of_weaker o [] (b ∷ more) weak among = absurd weak
first_of_weaker o (a ∷ few) [] weak among = absurd weak
first_of_weaker o ((a, d) ∷ few) ((b, e) ∷ more) weak among =
    go a b weak.0 weak.1 among (first_of_weaker o few more weak.2)
  where
    late : (x y : Option Bool) → x ≡ None → (y ≡ y) → d ≡ e
        → Among o (first_refusals ((y, e) ∷ more))
        → (Among o (first_refusals more) → Among o (first_refusals few))
        → Among o (first_refusals ((None, d) ∷ few))
    late x None is same status (inl here) rest = inl (ap Some status ∙ here)
    late x None is same status (inr later) rest = inr (rest later)
    late x (Some true) is same status (inl here) rest = inl (ap Some status ∙ here)
    late x (Some true) is same status (inr later) rest = absurd later
    late x (Some false) is same status among rest = inr (rest among)

    alike : (y : Option Bool) → d ≡ e → Among o (first_refusals ((y, e) ∷ more))
        → (Among o (first_refusals more) → Among o (first_refusals few))
        → Among o (first_refusals ((y, d) ∷ few))
    alike None status (inl here) rest = inl (ap Some status ∙ here)
    alike None status (inr later) rest = inr (rest later)
    alike (Some true) status (inl here) rest = inl (ap Some status ∙ here)
    alike (Some true) status (inr later) rest = absurd later
    alike (Some false) status among rest = rest among

    go : (x y : Option Bool) → IsWeaker x y → d ≡ e → Among o (first_refusals ((y, e) ∷ more))
        → (Among o (first_refusals more) → Among o (first_refusals few))
        → Among o (first_refusals ((x, d) ∷ few))
    go x y (inl none) status among rest =
        subst (λ z. Among o (first_refusals ((z, d) ∷ few))) (sym none)
        (late x y none refl status among rest)
    go x y (inr same) status among rest =
        subst (λ z. Among o (first_refusals ((z, d) ∷ few))) (sym same) (alike y status among rest)

-- ---- registers of which less is known

known_less : (xs ys : List (Option ℕ)) (r : ℕ) → know_no_more xs ys ≡ true
    → knows_no_more (known xs r) (known ys r) ≡ true
known_less [] [] r less = refl
known_less [] (y ∷ ys) r less = clash (sym less)
known_less (x ∷ xs) [] r less = clash (sym less)
known_less (x ∷ xs) (y ∷ ys) zero less =
    (and_parts (knows_no_more x y) (know_no_more xs ys) less).0
known_less (x ∷ xs) (y ∷ ys) (suc r) less =
    known_less xs ys r (and_parts (knows_no_more x y) (know_no_more xs ys) less).1

of_known_less : (f : ℕ → ℕ → Bool) (a b c d : Option ℕ) → knows_no_more a c ≡ true
    → knows_no_more b d ≡ true → IsWeaker (of_known f a b) (of_known f c d)
of_known_less f None b c d h k = inl refl
of_known_less f (Some u) None c d h k = inl refl
of_known_less f (Some u) (Some v) None d h k = clash (sym h)
of_known_less f (Some u) (Some v) (Some w) None h k = clash (sym k)
of_known_less f (Some u) (Some v) (Some w) (Some z) h k =
    inr (ap (λ n. Some (f n v)) (equal u w h) ∙ ap (λ n. Some (f w n)) (equal v z k))

module _ (S : System) (c : Caller) (xs ys : List (Option ℕ)) (less : know_no_more xs ys ≡ true) where
  refusals_weaker : (call : ServiceCall)
      → AreWeaker (refusals_of S c xs call) (refusals_of S c ys call)
  refusals_weaker (Service.ActivateTask None) =
      weaker_self (refusals_of S c xs (Service.ActivateTask None))
  refusals_weaker (Service.ActivateTask (Some t)) =
      weaker_self (refusals_of S c xs (Service.ActivateTask (Some t)))
  refusals_weaker Service.TerminateTask =
      weaker_self (refusals_of S c xs Service.TerminateTask)
  refusals_weaker (Service.ChainTask None) =
      weaker_self (refusals_of S c xs (Service.ChainTask None))
  refusals_weaker (Service.ChainTask (Some t)) =
      weaker_self (refusals_of S c xs (Service.ChainTask (Some t)))
  refusals_weaker Service.Schedule =
      weaker_self (refusals_of S c xs Service.Schedule)
  refusals_weaker Service.GetTaskId =
      weaker_self (refusals_of S c xs Service.GetTaskId)
  refusals_weaker (Service.GetTaskState None) =
      weaker_self (refusals_of S c xs (Service.GetTaskState None))
  refusals_weaker (Service.GetTaskState (Some t)) =
      weaker_self (refusals_of S c xs (Service.GetTaskState (Some t)))
  refusals_weaker (Service.GetResource None) =
      weaker_self (refusals_of S c xs (Service.GetResource None))
  refusals_weaker (Service.GetResource (Some r)) =
      weaker_self (refusals_of S c xs (Service.GetResource (Some r)))
  refusals_weaker (Service.ReleaseResource None) =
      weaker_self (refusals_of S c xs (Service.ReleaseResource None))
  refusals_weaker (Service.ReleaseResource (Some r)) =
      weaker_self (refusals_of S c xs (Service.ReleaseResource (Some r)))
  refusals_weaker (Service.LoadShared None i) =
      weaker_self (refusals_of S c xs (Service.LoadShared None i))
  refusals_weaker (Service.LoadShared (Some r) i) =
      weaker_self (refusals_of S c xs (Service.LoadShared (Some r) i))
  refusals_weaker (Service.StoreShared None i v) =
      weaker_self (refusals_of S c xs (Service.StoreShared None i v))
  refusals_weaker (Service.StoreShared (Some r) i v) =
      weaker_self (refusals_of S c xs (Service.StoreShared (Some r) i v))
  refusals_weaker (Service.SetEvent None m) =
      weaker_self (refusals_of S c xs (Service.SetEvent None m))
  refusals_weaker (Service.SetEvent (Some t) m) =
      weaker_self (refusals_of S c xs (Service.SetEvent (Some t) m))
  refusals_weaker (Service.ClearEvent m) =
      weaker_self (refusals_of S c xs (Service.ClearEvent m))
  refusals_weaker (Service.GetEvent None) =
      weaker_self (refusals_of S c xs (Service.GetEvent None))
  refusals_weaker (Service.GetEvent (Some t)) =
      weaker_self (refusals_of S c xs (Service.GetEvent (Some t)))
  refusals_weaker (Service.WaitEvent m) =
      weaker_self (refusals_of S c xs (Service.WaitEvent m))
  refusals_weaker (Service.SetRelAlarm None increment cycle) =
      weaker_self (refusals_of S c xs (Service.SetRelAlarm None increment cycle))
  refusals_weaker (Service.SetRelAlarm (Some a) increment cycle) = (
    inr refl,
    refl,
    (
      of_known_less (is_bad_increment S a) (known xs increment) (known xs cycle)
          (known ys increment) (known ys cycle) (known_less xs ys increment less)
          (known_less xs ys cycle less),
      refl,
      tt,
    ),
  )
  refusals_weaker (Service.SetAbsAlarm None start cycle) =
      weaker_self (refusals_of S c xs (Service.SetAbsAlarm None start cycle))
  refusals_weaker (Service.SetAbsAlarm (Some a) start cycle) = (
    inr refl,
    refl,
    (
      of_known_less (is_bad_start S a) (known xs start) (known xs cycle) (known ys start)
          (known ys cycle) (known_less xs ys start less) (known_less xs ys cycle less),
      refl,
      tt,
    ),
  )
  refusals_weaker (Service.CancelAlarm None) =
      weaker_self (refusals_of S c xs (Service.CancelAlarm None))
  refusals_weaker (Service.CancelAlarm (Some a)) =
      weaker_self (refusals_of S c xs (Service.CancelAlarm (Some a)))
  refusals_weaker (Service.GetAlarm None) =
      weaker_self (refusals_of S c xs (Service.GetAlarm None))
  refusals_weaker (Service.GetAlarm (Some a)) =
      weaker_self (refusals_of S c xs (Service.GetAlarm (Some a)))
  refusals_weaker (Service.GetAlarmBase None) =
      weaker_self (refusals_of S c xs (Service.GetAlarmBase None))
  refusals_weaker (Service.GetAlarmBase (Some a)) =
      weaker_self (refusals_of S c xs (Service.GetAlarmBase (Some a)))

-- at a node with registers of which less is known there may be each of the answers
pub answers_less : (S : System) (n : Node) (xs : List (Option ℕ)) (call : ServiceCall)
    (o : Option Status) → know_no_more xs n.registers ≡ true → Among o (answers S n call)
    → Among o (answers S (record n { registers = xs }) call)
answers_less S n xs call o less among =
    first_of_weaker o
    ((Some (is_off n.switch), Status.SysDisabled) ∷ refusals_of S (caller_at n) xs call)
    ((Some (is_off n.switch), Status.SysDisabled) ∷ refusals_of S (caller_at n) n.registers call)
    (inr refl, refl, refusals_weaker S (caller_at n) xs n.registers less call) among
