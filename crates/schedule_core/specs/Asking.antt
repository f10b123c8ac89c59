-- Whom the parts of a round ask.

use Rattle.std.specs.Prelude.{List, map}
use Rattle.std.specs.List.{range_with_len}
use Rattle.schedule_lines.specs.declared.schedule.Actor.{Actor}
use Rattle.schedule_lines.specs.declared.schedule.Actor.TheVariants.{Rank, Spoke}
use Rattle.sp_model.specs.declared.run.Run.{Run}

abbrev pub all_ranks : Run → List Actor
all_ranks run = map Rank (range_with_len 0 run.options.ranks)

abbrev pub all_spokes : Run → List Actor
all_spokes run = map Spoke (range_with_len 0 run.options.lagrangian)
