-- Which fault is answered where there are several.
use Rattle.std.specs.Prelude.{ℕ, ◌&&◌, ◌==◌, nat_lt, nat_le, if◌then◌else◌, List, [], ◌∷◌, Option, Some, None}
use Rattle.osek_base.specs.FirstFault as base
use Rattle.oil_reader.specs.declared.fault.OilFault.{OilFault}
use Rattle.oil_reader.specs.declared.fault.OilFault.TheVariants as fault

abbrev pub place_of : OilFault → ℕ
place_of fault.Memory = 0
place_of (fault.Token p) = p
place_of (fault.Syntax p) = p
place_of (fault.UnknownAttribute p) = p
place_of (fault.Missing p) = p
place_of (fault.Twice p) = p
place_of (fault.Range p) = p

abbrev pub number_of : OilFault → ℕ
number_of fault.Memory = 0
number_of (fault.Token p) = 1
number_of (fault.Syntax p) = 2
number_of (fault.UnknownAttribute p) = 3
number_of (fault.Missing p) = 4
number_of (fault.Twice p) = 5
number_of (fault.Range p) = 6

abbrev pub rank : base.Rank OilFault
rank = record { place = place_of; number = number_of }

abbrev pub IsNoLater : OilFault → OilFault → Type 0
IsNoLater e g = base.IsNoLater rank e g

-- the first of all that stand
abbrev pub IsFirstFault : (OilFault → Type 0) → OilFault → Type 0
IsFirstFault P e = base.IsFirst rank P e

abbrev pub earlier : Option OilFault → OilFault → OilFault
earlier None g = g
earlier (Some e) g = if nat_lt (place_of e) (place_of g) then e else (if (place_of e == place_of g) && nat_le (number_of e) (number_of g) then e else g)

-- the first of these, and of what was found before
abbrev pub first_of_all : Option OilFault → List OilFault → Option OilFault
first_of_all e [] = e
first_of_all e (g ∷ gs) = first_of_all (Some (earlier e g)) gs

-- the earlier of two, where there are any
abbrev pub earlier_of : Option OilFault → Option OilFault → Option OilFault
earlier_of one None = one
earlier_of one (Some g) = Some (earlier one g)
