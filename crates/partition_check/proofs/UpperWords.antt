-- Words of upper windows, after a write of an upper owner and of a lower one.
use Rattle.std.proofs.Common.{◌≡◌, ℕ, Bool, true, false, cond, ◌&&◌, refl, sym, ◌∙◌, arith}
use Rattle.std.proofs.Math.Path.{fun_ext}
use Rattle.std.specs.Prelude.{◌==◌}
use Rattle.osek_base.specs.declared.ids.Owner.{Owner}
use Rattle.osek_base.specs.Lists.{same_owner}
use Rattle.osek_base.specs.System.{System}
use Rattle.osek_base.specs.State.{Words, with_word}
use Rattle.osek_base.specs.Upper.{is_upper_task, is_upper_owner}
use Rattle.partition_check.proofs.UpperState.{up_word}
use Rattle.partition_check.proofs.ListsUp.{differ}

-- the words of upper windows, others read as 0
abbrev pub up_words : System → ℕ → Words → Words
up_words S p words = λ owner index. up_word (is_upper_owner S p owner) (words owner index)

-- an upper owner is none that is lower
other_owner : (S : System) (p : ℕ) (owner who : Owner) → is_upper_owner S p owner ≡ true → is_upper_owner S p who ≡ false
    → same_owner owner who ≡ false
other_owner S p (Owner.Task a) (Owner.Task b) h k = differ (is_upper_task S p) a b h k
other_owner S p (Owner.Task a) (Owner.Routine b) h k = refl
other_owner S p (Owner.Routine a) (Owner.Task b) h k = refl
other_owner S p (Owner.Routine a) (Owner.Routine b) h k = grind arith

-- a lower owner is none that is upper
lower_other : (S : System) (p : ℕ) (owner who : Owner) → is_upper_owner S p owner ≡ false → is_upper_owner S p who ≡ true
    → same_owner owner who ≡ false
lower_other S p (Owner.Task a) (Owner.Task b) h k = grind (arith, differ (is_upper_task S p) b a k h)
lower_other S p (Owner.Task a) (Owner.Routine b) h k = refl
lower_other S p (Owner.Routine a) (Owner.Task b) h k = refl
lower_other S p (Owner.Routine a) (Owner.Routine b) h k = grind arith

clash : true ≡ false → ⊥
clash e = cc

-- a lower owner's write isn't seen
pub lower_write : (S : System) (p : ℕ) (words : Words) (who : Owner) (index v : ℕ) → is_upper_owner S p who ≡ false
    → up_words S p (with_word words who index v) ≡ up_words S p words
lower_write S p words who index v low = fun_ext (λ owner. fun_ext (λ i. go owner i (is_upper_owner S p owner) refl))
  where
    go : (owner : Owner) (i : ℕ) (u : Bool) → is_upper_owner S p owner ≡ u
        → up_word u (cond (same_owner owner who && (i == index)) v (words owner i)) ≡ up_word u (words owner i)
    go owner i false h = refl
    go owner i true h = rw (other_owner S p owner who h low) refl

-- an upper owner's write is the same write
pub upper_write : (S : System) (p : ℕ) (words : Words) (who : Owner) (index v : ℕ) → is_upper_owner S p who ≡ true
    → up_words S p (with_word words who index v) ≡ with_word (up_words S p words) who index v
upper_write S p words who index v high = fun_ext (λ owner. fun_ext (λ i. go owner i (is_upper_owner S p owner) refl (same_owner owner who) refl))
  where
    go : (owner : Owner) (i : ℕ) (u : Bool) → is_upper_owner S p owner ≡ u → (b : Bool) → same_owner owner who ≡ b
        → up_word u (cond (b && (i == index)) v (words owner i)) ≡ cond (b && (i == index)) v (up_word u (words owner i))
    go owner i true h b k = refl_if (b && (i == index)) v (words owner i)
      where
        refl_if : (c : Bool) (x y : ℕ) → up_word true (cond c x y) ≡ cond c x (up_word true y)
        refl_if true x y = refl
        refl_if false x y = refl
    go owner i false h false k = refl
    go owner i false h true k = absurd (clash (sym k ∙ lower_other S p owner who h high))
