-- Small apportionments, computed examples.
use Rattle.std.proofs.Common.{◌≡◌, [], ◌∷◌, refl, arith}
use Rattle.std.specs.Prelude.{pos, negsuc}
use Rattle.hh_share.specs.Shares.{shares}
use Rattle.hh_share.specs.Departure.{departure, DepartsLeast}
use Rattle.hh_share.specs.Ranking.{places_before}

one_penny : shares (pos 1) (5 ∷ 5 ∷ 5 ∷ []) ≡ pos 1 ∷ pos 0 ∷ pos 0 ∷ []
one_penny = refl

minus_hundred : shares (negsuc 99) (1 ∷ 1 ∷ 1 ∷ []) ≡ negsuc 33 ∷ negsuc 32 ∷ negsuc 32 ∷ []
minus_hundred = refl

no_weights : shares (pos 10) (0 ∷ 0 ∷ 0 ∷ 0 ∷ []) ≡ pos 3 ∷ pos 3 ∷ pos 2 ∷ pos 2 ∷ []
no_weights = refl

nobody : shares (pos 0) [] ≡ []
nobody = refl

seven_weights : shares (pos 10) (0 ∷ 1 ∷ 2 ∷ 4 ∷ []) ≡ pos 0 ∷ pos 1 ∷ pos 3 ∷ pos 6 ∷ []
seven_weights = refl

minus_five : shares (negsuc 4) (3 ∷ 0 ∷ 3 ∷ []) ≡ negsuc 2 ∷ pos 0 ∷ negsuc 1 ∷ []
minus_five = refl

least : shares (negsuc 9_223_372_036_854_775_807) (1 ∷ []) ≡ negsuc 9_223_372_036_854_775_807 ∷ []
least = refl

two_to_one : shares (pos 1) (2 ∷ 1 ∷ []) ≡ pos 1 ∷ pos 0 ∷ []
two_to_one = refl

-- the shares of the first period: 99.5 and 98.49 MWh of a residual of 5050 pence
first_period : shares (pos 5050) (995_000_000_000 ∷ 984_900_000_000 ∷ []) ≡ pos 2538 ∷ pos 2512 ∷ []
first_period = refl

-- the same period, if the only energy is of interconnector units
interconnectors : shares (pos 5050) (0 ∷ 0 ∷ 0 ∷ 0 ∷ []) ≡ pos 1263 ∷ pos 1263 ∷ pos 1262 ∷ pos 1262 ∷ []
interconnectors = refl

-- of the rests 1, 3 and 3, the second comes first, the third next, and the first last
before_first : places_before (pos 1 ∷ pos 3 ∷ pos 3 ∷ []) 0 ≡ 2
before_first = refl

before_second : places_before (pos 1 ∷ pos 3 ∷ pos 3 ∷ []) 1 ≡ 0
before_second = refl

before_third : places_before (pos 1 ∷ pos 3 ∷ pos 3 ∷ []) 2 ≡ 1
before_third = refl

-- One penny over weights of 2 and 1: given to the first account it departs by 2, given to the second by 8.
to_the_first : departure (pos 1) (2 ∷ 1 ∷ []) (pos 1 ∷ pos 0 ∷ []) ≡ 2
to_the_first = refl

to_the_second : departure (pos 1) (2 ∷ 1 ∷ []) (pos 0 ∷ pos 1 ∷ []) ≡ 8
to_the_second = refl

-- Five pence over three equal weights: giving both leftover pence to one account departs by 24, giving one each to two by 6.
all_to_the_first : departure (pos 5) (1 ∷ 1 ∷ 1 ∷ []) (pos 3 ∷ pos 1 ∷ pos 1 ∷ []) ≡ 24
all_to_the_first = refl

one_to_each : departure (pos 5) (1 ∷ 1 ∷ 1 ∷ []) (pos 2 ∷ pos 2 ∷ pos 1 ∷ []) ≡ 6
one_to_each = refl

all_to_the_first_is_not_least : DepartsLeast (pos 5) (1 ∷ 1 ∷ 1 ∷ []) (pos 3 ∷ pos 1 ∷ pos 1 ∷ []) → ⊥
all_to_the_first_is_not_least least = let h = least (pos 2 ∷ pos 2 ∷ pos 1 ∷ []) (refl, refl) in omega arith
