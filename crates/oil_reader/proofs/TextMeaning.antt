-- A text means one file, or has one fault, and not both.
use Rattle.std.proofs.Common.{◌≡◌, ℕ, zero, suc, List, refl, sym, ap, ◌∙◌, subst, inl, inr, length}
use Rattle.osek_base.proofs.FirstFaultLemmas.{first_unique}
use Rattle.oil_reader.specs.declared.fault.OilFault.{OilFault}
use Rattle.oil_reader.specs.declared.fault.OilFault.TheVariants as fault
use Rattle.oil_reader.specs.Tokens.{Lexeme}
use Rattle.oil_reader.specs.Grammar.{File, IsFile, IsSyntaxFault}
use Rattle.oil_reader.specs.Order.{place_of, number_of, rank, IsFirstFault}
use Rattle.oil_reader.specs.Attributes.{Stands}
use Rattle.oil_reader.specs.Configuration.{Configuration}
use Rattle.oil_reader.specs.Meaning.{configuration_of}
use Rattle.oil_reader.specs.Faults.{IsTreeOf, HasSyntaxFault, HasFault, Means}
use Rattle.oil_reader.proofs.OneMeaning.{tokens_unique, tokens_apart, fault_unique}
use Rattle.oil_reader.proofs.OneTree.{tree_same, syntax_same, syntax_apart}

tree_unique : (text : List ℕ) (f g : File) → IsTreeOf text f → IsTreeOf text g → f ≡ g
tree_unique text f g p q = tree_same f g p.0 p.2 (subst (IsFile g) (sym (tokens_unique text p.0 q.0 p.1 q.1)) q.2)

-- a text means one file
pub meaning_unique : (text : List ℕ) (c d : Configuration) → Means text c → Means text d → c ≡ d
meaning_unique text c d p q = p.content ∙ ap configuration_of (tree_unique text p.tree q.tree p.is_tree q.is_tree) ∙ sym q.content

-- ---- faults

syntax_fault_apart : (text : List ℕ) (f : File) (e : OilFault) → ¬ (e ≡ fault.Memory) → HasSyntaxFault text e → IsTreeOf text f → ⊥
syntax_fault_apart text f fault.Memory real h t = real refl
syntax_fault_apart text f (fault.Token p) real h t = tokens_apart text t.0 p t.1 h
syntax_fault_apart text f (fault.Syntax p) real h t = syntax_apart (length text) h.0 p f h.2 (subst (IsFile f) (tokens_unique text t.0 h.0 t.1 h.1) t.2)
syntax_fault_apart text f (fault.UnknownAttribute p) real h t = h
syntax_fault_apart text f (fault.Missing p) real h t = h
syntax_fault_apart text f (fault.Twice p) real h t = h
syntax_fault_apart text f (fault.Range p) real h t = h

-- a text that means a file has no fault
pub meaning_apart : (text : List ℕ) (c : Configuration) (e : OilFault) → ¬ (e ≡ fault.Memory) → Means text c → HasFault text e → ⊥
meaning_apart text c e real m (inl h) = syntax_fault_apart text m.tree e real h m.is_tree
meaning_apart text c e real m (inr h) = m.sound e (subst (λ (f : File). Stands f e) (tree_unique text h.0 m.tree h.1 m.is_tree) h.2.stands)

syntax_fault_unique : (text : List ℕ) (e g : OilFault) → ¬ (e ≡ fault.Memory) → ¬ (g ≡ fault.Memory) → HasSyntaxFault text e → HasSyntaxFault text g → e ≡ g
syntax_fault_unique text (fault.Token p) (fault.Token q) real other h k = ap (λ (x : ℕ). fault.Token x) (fault_unique text p q h k)
syntax_fault_unique text (fault.Token p) (fault.Syntax q) real other h k = absurd (tokens_apart text k.0 p k.1 h)
syntax_fault_unique text (fault.Syntax p) (fault.Token q) real other h k = absurd (tokens_apart text h.0 q h.1 k)
syntax_fault_unique text (fault.Syntax p) (fault.Syntax q) real other h k =
    ap (λ (x : ℕ). fault.Syntax x) (syntax_same (length text) h.0 p q h.2 (subst (λ (ts : List Lexeme). IsSyntaxFault (length text) ts q) (sym (tokens_unique text h.0 k.0 h.1 k.1)) k.2))
syntax_fault_unique text fault.Memory g real other h k = absurd (real refl)
syntax_fault_unique text e fault.Memory real other h k = absurd (other refl)
syntax_fault_unique text (fault.UnknownAttribute p) g real other h k = absurd h
syntax_fault_unique text (fault.Missing p) g real other h k = absurd h
syntax_fault_unique text (fault.Twice p) g real other h k = absurd h
syntax_fault_unique text (fault.Range p) g real other h k = absurd h
syntax_fault_unique text e (fault.UnknownAttribute p) real other h k = absurd k
syntax_fault_unique text e (fault.Missing p) real other h k = absurd k
syntax_fault_unique text e (fault.Twice p) real other h k = absurd k
syntax_fault_unique text e (fault.Range p) real other h k = absurd k

-- a fault by its number and place
fault_at : ℕ → ℕ → OilFault
fault_at zero p = fault.Memory
fault_at (suc zero) p = fault.Token p
fault_at (suc (suc zero)) p = fault.Syntax p
fault_at (suc (suc (suc zero))) p = fault.UnknownAttribute p
fault_at (suc (suc (suc (suc zero)))) p = fault.Missing p
fault_at (suc (suc (suc (suc (suc zero))))) p = fault.Twice p
fault_at _ p = fault.Range p

fault_back : (e : OilFault) → fault_at (number_of e) (place_of e) ≡ e
unfolding fault_at
fault_back fault.Memory = refl
fault_back (fault.Token p) = refl
fault_back (fault.Syntax p) = refl
fault_back (fault.UnknownAttribute p) = refl
fault_back (fault.Missing p) = refl
fault_back (fault.Twice p) = refl
fault_back (fault.Range p) = refl

told : (e g : OilFault) → place_of e ≡ place_of g → number_of e ≡ number_of g → e ≡ g
told e g places numbers = sym (fault_back e) ∙ ap (λ (n : ℕ). fault_at n (place_of e)) numbers ∙ ap (fault_at (number_of g)) places ∙ fault_back g

-- a text has one fault
pub text_fault_unique : (text : List ℕ) (e g : OilFault) → ¬ (e ≡ fault.Memory) → ¬ (g ≡ fault.Memory) → HasFault text e → HasFault text g → e ≡ g
text_fault_unique text e g real other (inl h) (inl k) = syntax_fault_unique text e g real other h k
text_fault_unique text e g real other (inl h) (inr k) = absurd (syntax_fault_apart text k.0 e real h k.1)
text_fault_unique text e g real other (inr h) (inl k) = absurd (syntax_fault_apart text h.0 g other k h.1)
text_fault_unique text e g real other (inr h) (inr k) =
    first_unique rank told (Stands h.0) e g h.2 (subst (λ (f : File). IsFirstFault (Stands f) g) (sym (tree_unique text h.0 k.0 h.1 k.1)) k.2)
