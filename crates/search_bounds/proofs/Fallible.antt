-- What holds of what is answered, where that isn't an error.
use Rattle.std.proofs.Common.{◌≡◌, subst}
use Rattle.std.specs.Prelude.{Result, Ok, Err, IfOk}

pub if_ok : {X E : Type 0} (P Q : X → Type 0) (r : Result X E) → ((x : X) → P x → Q x) → IfOk r P
    → IfOk r Q
if_ok P Q (Ok x) go is = go x is
if_ok P Q (Err e) go is = tt

pub of_ok : {X E : Type 0} (P : X → Type 0) (r : Result X E) (x : X) → r ≡ Ok x → IfOk r P → P x
of_ok P r x same is = subst (λ q. IfOk q P) same is
