-- Lists with one item more, where there is one.
use Rattle.std.specs.Prelude.{if◌then◌else◌, List, [], ◌∷◌, ◌++◌, Option, Some, None}
use Rattle.boxed_problem.specs.declared.parts.Entry.{Entry}
use Rattle.smps_words.specs.declared.core_data.CoreEntry.{CoreEntry}
use Rattle.sp_model.specs.declared.program.Change.{Change}
use Rattle.join_words.specs.Powers.{stays}
use Rattle.join_words.specs.RunOf.{entry_of}
use Rattle.join_words.specs.declared.frame.Frame.{Frame}

-- one more entry, unless its column leaves the run
abbrev pub with_entry : Frame → List Entry → CoreEntry → List Entry
with_entry frame entries e =
    if stays frame.sides e.column then entries ++ entry_of frame e ∷ [] else entries

-- one more change, if there is one
abbrev pub with_change : List Change → Option Change → List Change
with_change changes None = changes
with_change changes (Some one) = changes ++ one ∷ []
