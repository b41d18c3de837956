-- Numbers of ticks, each with the tick at which it was reached, newest first; and since when something holds.
use Rattle.std.specs.Prelude.{ℕ, Bool, Option, Some, None, List, [], ◌∷◌, cond, nat_lt}
use Rattle.view_figures.specs.declared.reached.Reached.{Reached}

-- a number after others: the greatest so far gives way to a greater one alone
abbrev pub worse : Option Reached → Reached → Option Reached
worse None r = Some r
worse (Some w) r = cond (nat_lt w.ticks r.ticks) (Some r) (Some w)

-- a number, if there is one
abbrev pub worse_of : Option Reached → Option Reached → Option Reached
worse_of worst None = worst
worse_of worst (Some r) = worse worst r

-- the greatest, at the tick at which it was reached first
abbrev pub worst : List Reached → Option Reached
worst [] = None
worst (r ∷ before) = worse (worst before) r

-- a number, if there is one, before others
abbrev pub put : Option Reached → List Reached → List Reached
put None others = others
put (Some r) others = r ∷ others

-- the first tick of something: one that was found stays
abbrev pub first_tick : Bool → ℕ → Option ℕ → Option ℕ
first_tick holds tick (Some u) = Some u
first_tick holds tick None = cond holds (Some tick) None
