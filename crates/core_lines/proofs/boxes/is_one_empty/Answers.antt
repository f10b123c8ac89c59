use Rattle.std.proofs.Common.{sym, ◌∙◌, length, get_or}
use Rattle.std.specs.Prelude.{ℕ, Bool, None}
use Rattle.smps_words.specs.CoreFacts.{is_empty_box}
use Rattle.core_lines.proofs.AnyBelow.{any_at, any_more}
use Rattle.core_lines.proofs.boxes.is_one_empty.Goals as goal

pub returns-then-is_empty_box : goal.returns-then-is_empty_box
returns-then-is_empty_box c = let p : ℕ → Bool = λ j. is_empty_box (get_or c.args.lowers.now j None) (get_or c.args.uppers.now j None) in sym (any_at (length c.args.lowers.now) p c.loop-j.j c.loop-j-test.true (sym c.is_empty_box.ensures ∙ c.if-is_empty_box.true))

pub loop-j-preserved : goal.loop-j-preserved
loop-j-preserved c = let p : ℕ → Bool = λ j. is_empty_box (get_or c.args.lowers.now j None) (get_or c.args.uppers.now j None) in any_more c.loop-j.j p c.loop-j.invariant (sym c.is_empty_box.ensures ∙ c.if-is_empty_box.false)
