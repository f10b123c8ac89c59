-- Options with no more ranks than scenarios.
use Rattle.std.specs.Prelude.{ℕ, min}
use Rattle.sp_model.specs.declared.program.Options.{Options}

-- the options with at most so many ranks
abbrev pub cut_options : Options → ℕ → Options
cut_options options count = record options { ranks = min options.ranks count }
