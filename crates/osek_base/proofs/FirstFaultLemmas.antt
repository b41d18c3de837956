-- The order of faults by place and number, and that there is one first.
use Rattle.std.proofs.Common.{◌≡◌, refl, ◌∙◌, arith, inl, inr}
use Rattle.osek_base.specs.FirstFault.{Rank, IsNoLater, IsFirst}

module _ {F : Type 0} (rank : Rank F) where
  pub no_later_trans : (e f g : F) → IsNoLater rank e f → IsNoLater rank f g → IsNoLater rank e g
  no_later_trans e f g (inl a) (inl b) = inl (omega arith)
  no_later_trans e f g (inl a) (inr b) = inl (omega (arith, b.0))
  no_later_trans e f g (inr a) (inl b) = inl (omega (arith, a.0))
  no_later_trans e f g (inr a) (inr b) = inr (a.0 ∙ b.0, omega (arith, a.1, b.1))

  pub no_later_self : (e : F) → IsNoLater rank e e
  no_later_self e = inr (refl, omega arith)

  -- where a fault is told by its place and its number, there is one first
  module _ (told : (e g : F) → rank.place e ≡ rank.place g → rank.number e ≡ rank.number g → e ≡ g) where
    no_later_both : (e g : F) → IsNoLater rank e g → IsNoLater rank g e → e ≡ g
    no_later_both e g (inl a) (inl b) = absurd (omega arith)
    no_later_both e g (inl a) (inr b) = absurd (omega (arith, b.0))
    no_later_both e g (inr a) (inl b) = absurd (omega (arith, a.0))
    no_later_both e g (inr a) (inr b) = told e g a.0 (omega (arith, a.1, b.1))

    pub first_unique : (Stands : F → Type 0) (e g : F) → IsFirst rank Stands e → IsFirst rank Stands g → e ≡ g
    first_unique Stands e g a b = no_later_both e g (a.first g b.stands) (b.first e a.stands)
