-- The rows of the office's router, in the order in which `matchit` keeps them.
use Rattle.std.specs.Prelude.{ℕ, List, [], ◌∷◌, ◌++◌, map, Bool, true, false, codes}
use Rattle.matchit.specs.Router.{RouteOf}
use Rattle.matchit.specs.Rows.{RowsOf, param_token}
use Rattle.hh_wire.specs.declared.router.Route.{Route}
use Rattle.hh_wire.specs.declared.router.Route.TheVariants as route
use Rattle.hh_wire.specs.steps.Paths.{has_two, word_of}

-- the texts of the routes
abbrev pub route_text : Route → List ℕ
route_text route.Files = codes "/files/{kind}/{name}"
route_text route.Runs = codes "/runs/{date}/{kind}"
route_text route.Accounts = codes "/accounts/{account}/{date}"
route_text route.Balances = codes "/balances/{account}"
route_text route.Contracts = codes "/contracts/{account}/{date}"
route_text route.RunsOfDate = codes "/runs/{date}"

-- the places in these texts where the names of their parameters begin and end
abbrev pub names_of : Route → List (ℕ × ℕ)
names_of route.Files = (8, 12) ∷ (15, 19) ∷ []
names_of route.Runs = (7, 11) ∷ (14, 18) ∷ []
names_of route.Accounts = (11, 18) ∷ (21, 25) ∷ []
names_of route.Balances = (11, 18) ∷ []
names_of route.Contracts = (12, 19) ∷ (22, 26) ∷ []
names_of route.RunsOfDate = (7, 11) ∷ []

-- one parameter, or two with a slash between them
abbrev pub params : Bool → List ℕ
params false = param_token ∷ []
params true = param_token ∷ 47 ∷ param_token ∷ []

-- a route's word, and its parameters after it
abbrev pub pattern_of : Route → List ℕ
pattern_of way = word_of way ++ params (has_two way)

abbrev pub row_of : Route → List ℕ × RouteOf Route
row_of way = (pattern_of way, record { pattern = pattern_of way; text = route_text way; names = names_of way; value = way })

abbrev pub all_routes : List Route
all_routes = route.Accounts ∷ route.Balances ∷ route.Contracts ∷ route.Files ∷ route.Runs ∷ route.RunsOfDate ∷ []

abbrev pub rows : RowsOf (RouteOf Route)
rows = map row_of all_routes
