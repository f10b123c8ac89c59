-- Where the actors of the code stand, in the words of worlds.

use Rattle.std.specs.Prelude.{length, Option, Some, None, if◌then◌else◌}
use Rattle.lagrangian_spoke.specs.declared.spoke.LagrangianSpoke.{LagrangianSpoke}
use Rattle.stamped_read.specs.Readers.{Reader, words_of}
use Rattle.drive_words.specs.Worlds.{Polling, ReadingAt, SpokeAt}

-- a reader: of words only their number is told, and that of a part that is begun
abbrev pub reading_of : Reader → ReadingAt
reading_of r = record {
  rank = r.rank;
  begun = r.begun;
  first = r.first;
  words = if r.begun then length (words_of r r.rank) else 0;
  last = r.last;
}

abbrev pub spoke_of : LagrangianSpoke → SpokeAt
spoke_of s = record {
  phase = s.phase;
  reading = reading_of s.reader.reader;
  answers = s.answers.items;
}

-- a reader of one window
abbrev pub polling_of : Reader → Option Polling
polling_of r = if r.begun then Some record { first = r.first; words = length (words_of r 0) }
    else None
