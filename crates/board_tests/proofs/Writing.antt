-- A rank behind a step of the put that comes next.
use Rattle.std.proofs.Common.{refl, sym, ap, subst, ◌∙◌, ◌≡◌, ℕ, ◌+◌, ◌≤◌, nat_lt, Bool, true, false, if◌then◌else◌}
use Rattle.std.specs.Prelude.{Some}
use Rattle.put_words.specs.Puts.{put_of}
use Rattle.run_calls.specs.declared.put.Put.{Put}
use Rattle.sp_model.specs.declared.run.Run.{Run}
use Rattle.put_codec.specs.Layouts.{layout_in}
use Rattle.put_codec.specs.declared.layout.Layout.{Layout}
use Rattle.window_words.specs.declared.views.View.{View}
use Rattle.rank_writer.specs.Writers.{IsPresent, StandsFor, pending_in, written, written_by}
use Rattle.rank_writer.specs.declared.writer.RankWriter.{RankWriter}
use Rattle.rank_writer.specs.declared.writer.Writing.{Writing}
use Rattle.rank_writer.specs.declared.writer.Writing.TheVariants.{Open, Shut}
use Rattle.lagrangian_spoke.specs.Spokes.{IsPutOf}
use Rattle.board_tests.specs.Sitting.{IsGiven, WritesNext}
use Rattle.board_tests.specs.declared.given.Given.{Given}

-- the layout that is given is the run's
pub layout_is : (g : Given) → IsGiven g → g.of.layout ≡ layout_in g.run
layout_is g is = g.of.facts.layout_is ∙ ap layout_in is.of

-- a put of the run may be written
pub is_present : (g : Given) (put : Put) → IsGiven g → IsPutOf g.run put → IsPresent g.of put
is_present g put is of =
    let most = g.of.facts.most_is in
    let last = of.number.last in
    record {
      made = of.made;
      made_is = subst (λ (r : Run). put_of r put.number ≡ Some of.made) (sym is.of) of.made_is;
      put_is = of.put_is;
      number = subst (λ n. put.number ≤ n) (sym (most ∙ ap (λ (r : Run). r.options.iterations + 1) is.of)) last;
    }

-- behind the close of a put nothing is open, so any other may come next
any_next : (layout : Layout) (v : View) (w : RankWriter) (k j : ℕ) → w.writing ≡ Shut → StandsFor layout v w k → StandsFor layout v w j
any_next layout v w k j e s = record {
  there = s.there;
  width = s.width;
  within = s.within;
  closed = s.closed;
  owns = s.owns;
  last = s.last;
  writes = s.writes ∙ (ap (λ p. pending_in p k) e ∙ sym (ap (λ p. pending_in p j) e));
}

module _ (layout : Layout) (v : View) (w : RankWriter) (k : ℕ) (e : k ≡ w.last + 1) where
  next_open : (n : ℕ) (more : Bool) → StandsFor layout v (if more then record w { writing = Open (n + 1) } else record w { last = k; writing = Shut }) k
      → StandsFor layout v (if more then record w { writing = Open (n + 1) } else record w { last = k; writing = Shut }) ((if more then record w { writing = Open (n + 1) } else record w { last = k; writing = Shut }).last + 1)
  next_open n true s = subst (StandsFor layout v (record w { writing = Open (n + 1) })) e s
  next_open n false s = any_next layout v (record w { last = k; writing = Shut }) k (k + 1) refl s

  next_by : (p : Writing) → StandsFor layout v (written_by w k p) k → StandsFor layout v (written_by w k p) ((written_by w k p).last + 1)
  next_by Shut s = subst (StandsFor layout v (record w { writing = Open 0 })) e s
  next_by (Open n) s = next_open n (nat_lt n w.width) s

  next_put : (w' : RankWriter) → w' ≡ written w k → StandsFor layout v w' k → StandsFor layout v w' (w'.last + 1)
  next_put w' is s = subst (λ (z : RankWriter). StandsFor layout v z (z.last + 1)) (sym is) (next_by w.writing (subst (λ (z : RankWriter). StandsFor layout v z k) is s))

-- a rank that is about to write a put, and one that has made a step of it
pub writes_put : (g : Given) (v : View) (w : RankWriter) (k : ℕ) → IsGiven g → k ≡ w.last + 1 → WritesNext g.run v w → StandsFor g.of.layout v w k
writes_put g v w k is e s = subst (λ (z : Layout × ℕ). StandsFor z.0 v w z.1) (λ i. (sym (layout_is g is) i, sym e i)) s

pub wrote_put : (g : Given) (v : View) (w w' : RankWriter) (k : ℕ) → IsGiven g → k ≡ w.last + 1 → w' ≡ written w k → StandsFor g.of.layout v w' k → WritesNext g.run v w'
wrote_put g v w w' k is e leads s = subst (λ (z : Layout). StandsFor z v w' (w'.last + 1)) (layout_is g is) (next_put g.of.layout v w k e w' leads s)
