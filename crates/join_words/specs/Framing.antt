-- What is joined, and by what its numbers become those of a run.
use Rattle.std.specs.Prelude.{length, map, ℤ}
use Rattle.std.specs.List.{range_with_len}
use Rattle.smps_words.specs.declared.core_file.Core.{Core}
use Rattle.smps_words.specs.declared.periods.Periods.{Periods}
use Rattle.smps_stoch.specs.declared.stoch.Stoch.{Stoch}
use Rattle.join_words.specs.Boxes.{boxes_of}
use Rattle.join_words.specs.Parts.{Firsts, Parts, all_entries, firsts_of, parts_of}
use Rattle.join_words.specs.Powers.{cost_places, row_places}
use Rattle.join_words.specs.declared.frame.Frame.{Frame}

-- what a run is made of: the core's data, the periods, the stoch file, and what fills in missing
-- ends
pub record Source : Type 0 where
  pub parts : Parts
  pub firsts : Firsts
  pub stoch : Stoch
  pub missing : ℤ

-- what a core, its periods and a stoch file give, with the ends that fill in missing ones
abbrev pub joined : Core → Periods → Stoch → ℤ → Source
joined core periods stoch missing = record {
  parts = parts_of core;
  firsts = firsts_of periods;
  stoch = stoch;
  missing = missing;
}

-- the boxes of the columns, and the places by which the costs and each row are scaled
unfoldable pub frame_of : Source → Frame
frame_of source =
    let sides = boxes_of source.missing source.parts.columns in
    let entries = all_entries source.stoch in
    record {
      sides = sides;
      cost_places = cost_places source.parts sides entries;
      row_places =
          map (row_places source.parts sides entries) (range_with_len 0 (length source.parts.rows));
    }
