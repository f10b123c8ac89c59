use Rattle.std.proofs.Common.{◌≡◌, take}
use Rattle.join_words.specs.Parts.{branch_entries}
use Rattle.join_frame.proofs.entries.of_branches.Given as goal

abbrev pub invariant-loop-branch : goal.invariant-loop-branch
invariant-loop-branch l = l.entries.items ≡ branch_entries (take l.branch-index l.fn.branches)
