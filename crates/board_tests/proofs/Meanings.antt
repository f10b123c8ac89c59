-- What the windows of a run mean is fixed by the run.
use Rattle.std.proofs.Common.{arith, refl, sym, ap, subst, ◌∙◌, ◌≡◌, ◌+◌, ◌<◌}
use mathlib.Core.HLevel.{is_prop→PathP}
use Rattle.std.proofs.Math.Bridge.{le_prop}
use Rattle.std.proofs.Math.Nat.{ℕ_set}
use Rattle.std.specs.List.{All}
use Rattle.std.proofs.Common.{Some, List, [], ◌∷◌, ◌++◌, length}
use Rattle.std.proofs.lemmas.List.Elements.{All-append, All-cons, All-head, All-nil}
use Rattle.sp_model.specs.Problems.{scenarios}
use Rattle.sp_model.specs.ScenarioPoints.{HavePoints}
use Rattle.sp_model.specs.declared.run.Run.{Run}
use Rattle.run_calls.specs.declared.put.Put.{Put}
use Rattle.put_words.proofs.Unpriced.{put_points}
use Rattle.put_codec.specs.Entries.{MeansRun}
use Rattle.put_codec.specs.Layouts.{layout_in}
use Rattle.put_codec.specs.declared.run_meaning.RunMeaning.{RunMeaning}
use Rattle.hedging.specs.Hedges.{made_of}
use Rattle.hedging.specs.declared.hedge.Hedge.{Hedge}
use Rattle.lagrangian_spoke.specs.Answering.{IsPut}
use Rattle.lagrangian_spoke.specs.Spokes.{IsPutOf}
use Rattle.put_words.specs.Puts.{put_of}

module _ (m n : RunMeaning) (e : m.run.value ≡ n.run.value) where
  layouts : m.layout ≡ n.layout
  layouts = m.facts.layout_is ∙ (ap layout_in e ∙ sym n.facts.layout_is)

  mosts : m.most ≡ n.most
  mosts = m.facts.most_is ∙ (ap (λ (r : Run). r.options.iterations + 1) e ∙ sym n.facts.most_is)

  pub same_meaning : m ≡ n
  same_meaning = λ i. record {
    layout = layouts i;
    most = mosts i;
    run = record { marker = m.run.marker; value = e i };
    facts = is_prop→PathP (λ j. MeansRun (e j) (layouts j) (mosts j)) (λ j. hlevel (le_prop, ℕ_set)) m.facts n.facts i;
  }

-- where a run has a put, each of its scenarios has a point
pub puts_have_points : (run : Run) (puts : List Put) → All (IsPutOf run) puts → 0 < length puts → HavePoints run (scenarios run)
puts_have_points run [] all some = absurd (omega arith)
puts_have_points run (p ∷ ps) all some = let is = All-head (IsPutOf run) p ps all in put_points run p.number is.made is.made_is

-- one more put
puts_more : (run : Run) (puts puts' : List Put) (put : Put) → All (IsPutOf run) puts → IsPutOf run put → puts' ≡ puts ++ put ∷ [] → All (IsPutOf run) puts'
puts_more run puts puts' put all is e = subst (All (IsPutOf run)) (sym e) (All-append (IsPutOf run) puts (put ∷ []) all (All-cons (IsPutOf run) put [] is (All-nil (IsPutOf run))))

-- the put of a hedge behind others
pub put_more : (run : Run) (hedge : Hedge) (puts puts' : List Put) (put : Put) → put_of run hedge.put.number ≡ Some (made_of hedge) → IsPut run hedge.put.number → put ≡ hedge.put → All (IsPutOf run) puts → puts' ≡ puts ++ put ∷ [] → All (IsPutOf run) puts'
put_more run hedge puts puts' put made number is all = puts_more run puts puts' put all (subst (IsPutOf run) (sym is) (record { made = made_of hedge; made_is = made; put_is = refl; number = number }))
