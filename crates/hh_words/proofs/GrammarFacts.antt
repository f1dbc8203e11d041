-- Commands that are made of lists, one item after the other.
use Rattle.std.proofs.Common.{◌≡◌, ◌∙◌, ◌<◌, ◌+◌, ◌||◌, ℕ, List, [], ◌∷◌, zero, suc, refl, ap, arith, map, length, take, false}
use Rattle.std.specs.List.{fold, slice_index_or}
use Rattle.clap.specs.Words.{AddsArg, AddsSubcommand, App, Rule, app_of, rule_of, shape_of, with_rule, with_subcommand}
use Rattle.clap.specs.declared.builder.arg.Arg.{Arg}
use Rattle.clap.specs.declared.builder.command.Command.{Command}
use Rattle.clap.specs.declared.builder.command.Command.TheViews.{out-Command}
use Rattle.hh_words.specs.Grammar.{with_command}

-- what a list makes is one step from what its items so far make
folded_next : {A B C : Type 0} (step : B → C → B) (f : A → C) (start : B) (xs : List A) (i : ℕ) (d : A) → i < length xs
    → fold step start (map f (take (suc i) xs)) ≡ step (fold step start (map f (take i xs))) (f (slice_index_or xs i d))
folded_next step f start [] i d lt = absurd (omega arith)
folded_next step f start (x ∷ xs) zero d lt = refl
folded_next step f start (x ∷ xs) (suc i) d lt = folded_next step f (step start (f x)) xs i d (omega arith)

pub folded_more : {A B C : Type 0} (step : B → C → B) (f : A → C) (start : B) (xs : List A) (i : ℕ) (d : A) → i < length xs
    → fold step start (map f (take (i + 1) xs)) ≡ step (fold step start (map f (take i xs))) (f (slice_index_or xs i d))
folded_more step f start xs i d lt =
    let next : i + 1 ≡ suc i = omega arith in
    ap (λ n. fold step start (map f (take n xs))) next ∙ folded_next step f start xs i d lt

-- a command with one more argument, which is only its own
pub app_with : {old new : Command} {a : Arg} {app : App} {rule : Rule} → AddsArg old a new → a.global ≡ false → rule_of a ≡ rule → app_of old ≡ app
    → app_of new ≡ with_rule app rule
app_with {old} {new} {a} {app} {rule} adds own is is_old = adds.shape own ∙ ap (λ o. with_rule o (rule_of a)) is_old ∙ ap (with_rule app) is

pub own_with : {old new : Command} {a : Arg} → AddsArg old a new → a.global ≡ false → (out-Command old).has_globals ≡ false → (out-Command new).has_globals ≡ false
own_with {old} {new} {a} adds own is_old = adds.globals ∙ ap (λ g. g || a.global) is_old ∙ own

-- a program with one more subcommand, whose arguments are only its own
pub app_with_command : {old sub new : Command} {app under : App} → AddsSubcommand old sub new → (out-Command sub).has_globals ≡ false → app_of sub ≡ under → app_of old ≡ app
    → app_of new ≡ with_command app under
app_with_command {old} {sub} {new} {app} {under} adds own is is_old =
    adds.shape own ∙ ap (λ o. with_subcommand o (shape_of sub)) is_old ∙ ap (with_command app) is

pub own_with_command : {old sub new : Command} → AddsSubcommand old sub new → (out-Command sub).has_globals ≡ false → (out-Command old).has_globals ≡ false → (out-Command new).has_globals ≡ false
own_with_command {old} {sub} {new} adds own is_old = adds.globals ∙ ap (λ g. g || (out-Command sub).has_globals) is_old ∙ own
