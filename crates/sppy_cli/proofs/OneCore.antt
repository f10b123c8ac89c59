-- What the lines of a core file say is one core, and what a time file says are the same periods: entries in ascending order stand in one way.
use Rattle.std.proofs.Common.{arith, ◌≡◌, ◌∙◌, ◌⊎◌, inl, inr, ◌+◌, ℕ, zero, suc, List, [], ◌∷◌, refl, sym, ap, subst}
use Rattle.std.proofs.Props.{props}
use Rattle.std.proofs.lemmas.List.Sorted.{Contains-permutation, IsPermutation-sym}
use Rattle.std.specs.List.{Contains}
use Rattle.std.specs.List.Sorted.{IsPermutation}
use Rattle.base_words.proofs.Positions.{none_in}
use Rattle.smps_words.proofs.EntryOrder.{before_before}
use Rattle.core_lines.specs.Parts.{Before}
use Rattle.dec_core.specs.declared.decimal.Decimal.{Decimal}
use Rattle.smps_core.specs.CoreData.{Ascend, IsCoreOf, entries_of}
use Rattle.smps_time.specs.TimeAnswers.{PeriodsData, data_of}
use Rattle.smps_words.specs.CoreFacts.{ComesBefore, CoreFacts, entry_at}
use Rattle.smps_words.specs.PeriodFacts.{PeriodFacts}
use Rattle.smps_words.specs.declared.core_data.CoreColumn.{CoreColumn}
use Rattle.smps_words.specs.declared.core_data.CoreEntry.{CoreEntry}
use Rattle.smps_words.specs.declared.core_data.CoreRow.{CoreRow}
use Rattle.smps_words.specs.declared.core_file.Core.{Core}
use Rattle.smps_words.specs.declared.periods.Periods.{Periods}

-- an entry comes before all of these
abbrev IsBelow : CoreEntry → List CoreEntry → Type 0
IsBelow e es = (f : CoreEntry) → Contains es f → ComesBefore e f

-- each entry comes before all behind it
IsChain : List CoreEntry → Type 0
IsChain [] = Unit {0}
IsChain (e ∷ es) = IsBelow e es × IsChain es

never_itself : (e : CoreEntry) → ComesBefore e e → ⊥
never_itself e (a, b) = let x = b refl in omega (arith, x)

never_both : (e f : CoreEntry) → ComesBefore e f → ComesBefore f e → ⊥
never_both e f a b = never_itself e (before_before e f e a b)

-- ascending order is a chain
tail_ascends : (e : CoreEntry) (es : List CoreEntry) → Ascend (e ∷ es) → Ascend es
tail_ascends e es a k h =
    let next : suc k + 1 ≡ suc (k + 1) = omega arith in
    subst (λ n. ComesBefore (entry_at es k) (entry_at (e ∷ es) n)) next (a (suc k) (omega (arith, h)))

in_tail : (e f : CoreEntry) (es : List CoreEntry) → Contains (e ∷ es) f → (e ≡ f) ⊎ Contains es f
in_tail e f es (zero, h, is) = inl is
in_tail e f es (suc k, h, is) = inr (k, omega (arith, h), is)

in_more : (e f : CoreEntry) (es : List CoreEntry) → Contains es f → Contains (e ∷ es) f
in_more e f es (k, h, is) = (suc k, omega (arith, h), is)

at_front : (e : CoreEntry) (es : List CoreEntry) → Contains (e ∷ es) e
at_front e es = (0, omega arith, refl)

head_below : (e : CoreEntry) (es : List CoreEntry) → Ascend (e ∷ es) → IsBelow e es
head_below e [] a f (k, h, is) = absurd (omega (arith, h))
head_below e (g ∷ es) a f has = by_place (in_tail g f es has) (λ later. head_below g es (tail_ascends e (g ∷ es) a) f later)
  where
    first : ComesBefore e g
    first = a 0 (omega arith)

    by_place : (g ≡ f) ⊎ Contains es f → (Contains es f → ComesBefore g f) → ComesBefore e f
    by_place (inl same) further = subst (ComesBefore e) same first
    by_place (inr later) further = before_before e g f first (further later)

chain_from : (es : List CoreEntry) → Ascend es → IsChain es
unfolding IsChain
chain_from [] a = tt
chain_from (e ∷ es) a = (head_below e es a, chain_from es (tail_ascends e es a))

-- two lists have the same entries
abbrev Alike : List CoreEntry → List CoreEntry → Type 0
Alike es fs = ((g : CoreEntry) → Contains es g → Contains fs g) × ((g : CoreEntry) → Contains fs g → Contains es g)

same_heads : (e f : CoreEntry) (es fs : List CoreEntry) → IsChain (e ∷ es) → IsChain (f ∷ fs) → Alike (e ∷ es) (f ∷ fs) → e ≡ f
unfolding IsChain
same_heads e f es fs (low, chain) (below, other) (forth, back) = by_place (in_tail f e fs (forth e (at_front e es))) (in_tail e f es (back f (at_front f fs)))
  where
    by_place : (f ≡ e) ⊎ Contains fs e → (e ≡ f) ⊎ Contains es f → e ≡ f
    by_place (inl same) q = sym same
    by_place (inr later) (inl same) = same
    by_place (inr later) (inr further) = absurd (never_both e f (low f further) (below e later))

-- what is behind equal heads is alike
tail_in : (e : CoreEntry) (es fs : List CoreEntry) → IsChain (e ∷ es) → ((g : CoreEntry) → Contains (e ∷ es) g → Contains (e ∷ fs) g) → (g : CoreEntry) → Contains es g → Contains fs g
unfolding IsChain
tail_in e es fs (low, chain) forth g has = by_place (in_tail e g fs (forth g (in_more e g es has)))
  where
    by_place : (e ≡ g) ⊎ Contains fs g → Contains fs g
    by_place (inl same) = absurd (never_itself e (subst (ComesBefore e) (sym same) (low g has)))
    by_place (inr later) = later

one_chain : (es fs : List CoreEntry) → IsChain es → IsChain fs → Alike es fs → es ≡ fs
unfolding IsChain
one_chain [] [] c d alike = refl
one_chain [] (f ∷ fs) c d (forth, back) = absurd (none_in f (back f (at_front f fs)))
one_chain (e ∷ es) [] c d (forth, back) = absurd (none_in e (forth e (at_front e es)))
one_chain (e ∷ es) (f ∷ fs) c d alike = by_head (same_heads e f es fs c d alike) (λ f2 d2 alike2. one_chain es fs c.1 d2 alike2)
  where
    rest : IsChain (e ∷ fs) → Alike (e ∷ es) (e ∷ fs) → Alike es fs
    rest chain (forth, back) = (tail_in e es fs c forth, tail_in e fs es chain back)

    by_head : e ≡ f → (CoreEntry → IsChain fs → Alike es fs → es ≡ fs) → e ∷ es ≡ f ∷ fs
    by_head same further =
        let tails = subst (λ g. IsChain (g ∷ fs) → Alike (e ∷ es) (g ∷ fs) → Alike es fs) same rest in
        ap (λ g. g ∷ es) same ∙ ap (λ gs. f ∷ gs) (further f d.1 (tails d alike))

one_order : (said es fs : List CoreEntry) → IsPermutation said es → Ascend es → IsPermutation said fs → Ascend fs → es ≡ fs
one_order said es fs p a q b =
    one_chain es fs (chain_from es a) (chain_from fs b) (
      (λ g has. Contains-permutation said fs g q (Contains-permutation es said g (IsPermutation-sym said es p) has)),
      (λ g has. Contains-permutation said es g p (Contains-permutation fs said g (IsPermutation-sym said fs q) has)),
    )

-- the data of a core without their facts
record Plain : Type 0 where
  rows : List CoreRow
  columns : List CoreColumn
  entries : List CoreEntry
  constant : Decimal
  right_name : List ℕ
  objective : List ℕ
  row_names : List (List ℕ)
  column_names : List (List ℕ)

abbrev plain_with : List CoreRow → List CoreColumn → List CoreEntry → Decimal → List ℕ → List ℕ → List (List ℕ) → List (List ℕ) → Plain
plain_with rows columns entries constant right_name objective row_names column_names = record {
  rows = rows;
  columns = columns;
  entries = entries;
  constant = constant;
  right_name = right_name;
  objective = objective;
  row_names = row_names;
  column_names = column_names;
}

abbrev plain_of : Core → Plain
plain_of c = plain_with c.rows c.columns c.entries c.constant c.right_name c.objective c.row_names c.column_names

abbrev PlainFacts : Plain → Type 0
PlainFacts p = CoreFacts p.rows p.columns p.entries p.constant p.row_names p.column_names

abbrev core_with : (p : Plain) → PlainFacts p → Core
core_with p facts = record {
  rows = p.rows;
  columns = p.columns;
  entries = p.entries;
  constant = p.constant;
  right_name = p.right_name;
  objective = p.objective;
  row_names = p.row_names;
  column_names = p.column_names;
  facts = facts;
}

one_proof : (p : Plain) → IsProp (PlainFacts p)
one_proof p = hlevel props

same_with : (p q : Plain) → p ≡ q → (f : PlainFacts p) (g : PlainFacts q) → core_with p f ≡ core_with q g
same_with p q e f g = subst (λ q. (g : PlainFacts q) → core_with p f ≡ core_with q g) e (λ g. ap (core_with p) (one_proof p f g)) g

same_plain : (c d : Core) → c.rows ≡ d.rows → c.columns ≡ d.columns → c.entries ≡ d.entries → c.constant ≡ d.constant → c.right_name ≡ d.right_name → c.objective ≡ d.objective → c.row_names ≡ d.row_names → c.column_names ≡ d.column_names → plain_of c ≡ plain_of d
same_plain c d rows columns entries constant right_name objective row_names column_names =
    ap (λ x. plain_with x c.columns c.entries c.constant c.right_name c.objective c.row_names c.column_names) rows
    ∙ (ap (λ x. plain_with d.rows x c.entries c.constant c.right_name c.objective c.row_names c.column_names) columns
    ∙ (ap (λ x. plain_with d.rows d.columns x c.constant c.right_name c.objective c.row_names c.column_names) entries
    ∙ (ap (λ x. plain_with d.rows d.columns d.entries x c.right_name c.objective c.row_names c.column_names) constant
    ∙ (ap (λ x. plain_with d.rows d.columns d.entries d.constant x c.objective c.row_names c.column_names) right_name
    ∙ (ap (λ x. plain_with d.rows d.columns d.entries d.constant d.right_name x c.row_names c.column_names) objective
    ∙ (ap (λ x. plain_with d.rows d.columns d.entries d.constant d.right_name d.objective x c.column_names) row_names
    ∙ ap (plain_with d.rows d.columns d.entries d.constant d.right_name d.objective d.row_names) column_names))))))

pub core_is_one : (said : Before) (c d : Core) → IsCoreOf said c → IsCoreOf said d → c ≡ d
core_is_one said c d is also =
    let entries = one_order (entries_of said.columns.cells) c.entries d.entries is.entries.0 is.entries.1 also.entries.0 also.entries.1 in
    let plain = same_plain c d (is.rows ∙ sym also.rows) (is.columns ∙ sym also.columns) entries (is.constant ∙ sym also.constant) (is.right_name ∙ sym also.right_name) (is.objective ∙ sym also.objective) (is.row_names ∙ sym also.row_names) (is.column_names ∙ sym also.column_names) in
    same_with (plain_of c) (plain_of d) plain c.facts d.facts

-- the same of periods
abbrev DataFacts : PeriodsData → Type 0
DataFacts p = PeriodFacts p.names p.columns p.rows

abbrev periods_with : (p : PeriodsData) → DataFacts p → Periods
periods_with p facts = record { names = p.names; columns = p.columns; rows = p.rows; facts = facts }

one_period_proof : (p : PeriodsData) → IsProp (DataFacts p)
one_period_proof p = hlevel props

same_periods : (p q : PeriodsData) → p ≡ q → (f : DataFacts p) (g : DataFacts q) → periods_with p f ≡ periods_with q g
same_periods p q e f g = subst (λ q. (g : DataFacts q) → periods_with p f ≡ periods_with q g) e (λ g. ap (periods_with p) (one_period_proof p f g)) g

pub periods_are_one : (p q : Periods) → data_of p ≡ data_of q → p ≡ q
periods_are_one p q e = same_periods (data_of p) (data_of q) e p.facts q.facts
