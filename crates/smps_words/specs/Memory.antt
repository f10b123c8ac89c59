-- When a reader of a file may be refused memory.
use Rattle.std.specs.Prelude.{◌≡◌, ℕ, ◌<◌, List, length, true}
use Rattle.line_core.specs.SplitLines.{may_want_memory}
use Rattle.line_core.specs.declared.line_list.Line.{Line}

-- memory is asked for lines alone: a file is refused it only where a line is read before the first
-- fault of its lines
abbrev pub MayRefuse : List ℕ → Type 0
MayRefuse bytes = may_want_memory bytes ≡ true

-- lines ask for memory where there are some
abbrev pub AreSome : List Line → Type 0
AreSome lines = 0 < length lines
