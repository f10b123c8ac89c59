-- A new seat stands for a spoke that has answered nothing.
use Rattle.std.proofs.Common.{arith, refl, sym, ap, ◌∙◌, subst, ◌≡◌, ℕ, ◌+◌, ◌<◌, ◌≤◌, Bool, false, List, [], length}
use Rattle.std.proofs.lemmas.List.Elements.{All-nil}
use Rattle.sp_model.specs.declared.run.Run.{Run}
use Rattle.log_words.specs.declared.log.Answer.{Answer}
use Rattle.window_words.specs.Views.{one}
use Rattle.window_words.specs.declared.views.View.{View}
use Rattle.stamped_read.specs.Readers.{Reader}
use Rattle.put_read.specs.Reads.{ReadsPuts, fresh_in}
use Rattle.put_codec.specs.Layouts.{layout_in}
use Rattle.lagrangian_spoke.specs.declared.spoke.Best.{Best}
use Rattle.lagrangian_spoke.specs.declared.spoke.LagrangianSpoke.{LagrangianSpoke}
use Rattle.lagrangian_spoke.specs.Answering.{AreAnswers, IsAnswer, last_put, replied}
use Rattle.lagrangian_spoke.specs.Spokes.{IsBest, IsBestIf, IsFresh, IsInPhase, IsNewSeat, IsNoBest, StandsFor, pending_in, read_last}

no_answers : (run : Run) (i : ℕ) → AreAnswers run i []
no_answers run i = record { right = All-nil (IsAnswer run i); rising = λ k l d less there. absurd (omega arith) }

no_reply : (run : Run) (best : Best) → best.found ≡ false → IsBest run [] best
no_reply run best e = subst (λ (b : Bool). IsBestIf b run [] best) (sym e) refl

pub starts : (run : Run) (number : ℕ) (s : LagrangianSpoke) → number < run.options.lagrangian → IsFresh number s → s.answers.spare ≡ run.options.iterations + 1 → IsNoBest run s.best → s.reader.reader ≡ fresh_in (layout_in run)
    → ((v : View) → run.options.ranks ≤ length v.accepted → ReadsPuts run v s.reader) → (v : View) → IsNewSeat run.options.ranks (run.options.ranks + number) v → StandsFor run v s
starts run number s kind fresh spare none reader reads v new =
    let empty = fresh.answers in
    let long : length s.answers.items ≡ 0 = ap (λ (z : List Answer). length z) empty in
    let last : last_put s.answers.items ≡ 0 = ap last_put empty in
    record {
      spoke = record {
        kind = let same = fresh.number_is in omega arith;
        answers = subst (AreAnswers run s.number) (sym empty) (no_answers run s.number);
        counted = omega arith;
        room = omega arith;
        best = subst (λ z. IsBest run z s.best) (sym empty) (no_reply run s.best none.found);
        long = none.long;
      };
      phase = subst (IsInPhase run s) (sym fresh.phase) (omega arith, record { rank = ap (λ (z : Reader). z.rank) reader; begun = ap (λ (z : Reader). z.begun) reader });
      owns = new.owns ∙ (λ i. one (run.options.ranks + sym fresh.number_is i) (replied (sym empty i)));
      opened = new.free ∙ ap (λ p. pending_in p (read_last s)) (sym fresh.phase);
      reads = reads v new.wide;
    }
