-- What is written of a task that has no job, and of a job that holds nothing.
use Rattle.std.proofs.Common.{ℕ, ◌≡◌, Bool, true, List, [], ◌∷◌, ◌++◌, refl, sym, ap}
use Rattle.std.proofs.lemmas.Bool.{true≢false}
use Rattle.std.specs.Prelude.{◌==◌, if◌then◌else◌}
use Rattle.osek_base.specs.declared.ids.ResId.{ResId}
use Rattle.osek_base.specs.Lists.{is_empty}
use Rattle.law_kept.specs.Kept.{Slot}
use Rattle.search_keys.specs.Bytes.{digits, number}
use Rattle.search_keys.specs.Key.{job_key}
use Rattle.search_states.specs.Parts.{held_key, jobs_key}

pub none_held : (held : List ResId) → is_empty held ≡ true → held_key held ≡ 0 ∷ []
unfolding number digits
none_held [] none = refl
none_held (r ∷ rs) none = absurd (true≢false (sym none))

pub no_jobs : (need : ℕ → Bool) (a : Slot) → a.count ≡ 0 → jobs_key need a ≡ 0 ∷ []
unfolding number digits
no_jobs need a none = ap (λ k. number k ++ (if k == 0 then [] else job_key need a)) none
