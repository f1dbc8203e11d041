-- What `clap` answers, and the command that the words form.
use Rattle.std.proofs.Common.{◌≡◌, ◌≢◌, ◌∙◌, sym, ap, refl, true, List, [], ◌∷◌, Option, None, inl, inr}
use Rattle.clap.specs.Words.{App, HasKind, HasMatchesOf, IsAmong, Kinds, Text, fault_of, is_simple, is_simple_and_free, kind_of, subcommand_of, subcommand_rows_of}
use Rattle.clap.specs.declared.error.Error.{Error}
use Rattle.clap.specs.declared.error.kind.ErrorKind.{ErrorKind}
use Rattle.clap.specs.declared.error.kind.ErrorKind.TheVariants.{OutOfMemory}
use Rattle.clap.specs.declared.parser.matches.ArgMatches.{ArgMatches}
use Rattle.hh_words.specs.Grammar.{settle_app}
use Rattle.hh_words.specs.Lines.{Line, TellsUsage, faultless, given_line, line_value}
use Rattle.hh_words.specs.declared.words.WordsFault.{WordsFault}
use Rattle.hh_words.specs.declared.words.WordsFault.TheVariants.{Memory, Wrong}

settle-simple : is_simple settle_app ≡ true
unfolding settle_app
settle-simple = refl

settle-free : is_simple_and_free settle_app ≡ true
unfolding settle_app
settle-free = refl

-- if `clap` parses the words, the command is given by the subcommand's values
pub line_value-parsed : (app : App) (words : List Text) (m : ArgMatches) (line : Option Line) → app ≡ settle_app
    → (is_simple_and_free app ≡ true → fault_of app words ≡ []) → HasMatchesOf app words m → line ≡ given_line (subcommand_rows_of m)
    → line_value words ≡ line
unfolding line_value
line_value-parsed app words m line is faults matches given =
    let free : is_simple_and_free app ≡ true = ap is_simple_and_free is ∙ settle-free in
    let simple : is_simple app ≡ true = ap is_simple is ∙ settle-simple in
    let none : fault_of settle_app words ≡ [] = ap (λ a. fault_of a words) (sym is) ∙ faults free in
    let rows : subcommand_of settle_app words ≡ subcommand_rows_of m = ap (λ a. subcommand_of a words) (sym is) ∙ sym ((matches simple).1) in
    ap (λ kinds. faultless kinds (given_line (subcommand_of settle_app words))) none ∙ ap given_line rows ∙ sym given

faultless-among : (kind : ErrorKind) (kinds : Kinds) (line : Option Line) → IsAmong kind kinds → faultless kinds line ≡ None
faultless-among kind [] line h = absurd h
faultless-among kind (x ∷ xs) line h = refl

-- if `clap` finds a fault, there is no command
pub line_value-refused : (app : App) (words : List Text) (e : Error) → app ≡ settle_app
    → (is_simple_and_free app ≡ true → HasKind (fault_of app words) e) → kind_of e ≢ OutOfMemory
    → line_value words ≡ None
unfolding line_value
line_value-refused app words e is faults other =
    let free : is_simple_and_free app ≡ true = ap is_simple_and_free is ∙ settle-free in
    let has : HasKind (fault_of settle_app words) e = rw is at (faults free) in
    elim has [
      | inl h ↦ absurd (other h)
      | inr h ↦ faultless-among (kind_of e) (fault_of settle_app words) _ h
    ]

among-some : (kind : ErrorKind) (kinds : Kinds) → IsAmong kind kinds → kinds ≢ []
among-some kind [] among = absurd among
among-some kind (x ∷ xs) among = λ none. cc none

-- if `clap` finds a fault, the words that are told as wrong have a fault
pub tells_usage-refused : (app : App) (words : List Text) (e : Error) (fault : WordsFault) → app ≡ settle_app
    → (is_simple_and_free app ≡ true → HasKind (fault_of app words) e) → (kind_of e ≡ OutOfMemory → fault ≡ Memory)
    → TellsUsage words fault
tells_usage-refused app words e Memory is faults memory = tt
tells_usage-refused app words e (Wrong text) is faults memory = λ none.
    let free : is_simple_and_free app ≡ true = ap is_simple_and_free is ∙ settle-free in
    let has : HasKind (fault_of settle_app words) e = rw is at (faults free) in
    elim has [
      | inl h ↦ absurd (cc (memory h))
      | inr h ↦ absurd (among-some (kind_of e) (fault_of settle_app words) h none)
    ]
