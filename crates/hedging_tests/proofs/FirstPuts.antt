-- The first put has the number 1.

use Rattle.std.proofs.Common.{ap, ◌∙◌, ◌≡◌, Some}
use Rattle.hedging.specs.Hedges.{made_of}
use Rattle.hedging.specs.declared.hedge.Hedge.{Hedge}
use Rattle.put_words.specs.Puts.{put_of}
use Rattle.put_words.proofs.Inside.{put_number}
use Rattle.sp_model.specs.declared.run.Run.{Run}

pub first_number : (run : Run) (hedge : Hedge) → put_of run 1 ≡ Some (made_of hedge) → hedge.put.number ≡ 1
first_number run hedge e = put_number run 1 (made_of hedge) e

pub first_put : (run : Run) (hedge : Hedge) → put_of run 1 ≡ Some (made_of hedge) → put_of run hedge.put.number ≡ Some (made_of hedge)
first_put run hedge e = ap (λ k. put_of run k) (first_number run hedge e) ∙ e
