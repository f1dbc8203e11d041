use Rattle.std.proofs.Common.{◌≡◌, take}
use Rattle.std.specs.Prelude.{filter}
use Rattle.hh_tables.specs.Tables.{put_all}
use Rattle.hh_rows.specs.Keys.{reallocation_key_cmp}
use Rattle.hh_rules.specs.RegisterView.{tables_in}
use Rattle.hh_kept_rows.specs.steps.Parts.{is_named_in, with_reallocations}
use Rattle.hh_kept_rows.proofs.kept_register.KeptRegister.hold_reallocations.Given as goal

-- the reallocations so far whose unit and Settlement Period are named are held
abbrev pub invariant-loop-key : goal.invariant-loop-key
invariant-loop-key l =
    l.part
    ≡ with_reallocations (put_all reallocation_key_cmp (filter (is_named_in l.named) (take l.key-index l.self.reallocations)) (tables_in l.fn.part).reallocations) l.fn.part
