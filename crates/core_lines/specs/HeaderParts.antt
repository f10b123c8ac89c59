-- The headers in the reader's state, seen as what the lines have said.
use Rattle.core_lines.specs.Parts.{HeadersSaid}
use Rattle.core_lines.specs.declared.headers.Headers.{Headers}

abbrev pub headers_as : Headers → HeadersSaid
headers_as headers = record {
  section = headers.section;
  rights = headers.rights;
  ranges = headers.ranges;
  bounds = headers.bounds;
}
