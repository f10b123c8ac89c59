-- The tests that end a run, as numbers decide them.

use Rattle.std.proofs.Common.{arith, refl, sym, ap, ◌∙◌, ◌≡◌, ℕ, ◌+◌, ◌<◌, nat_eq, Bool, true, false, List, length, get_or, ℤ, ◌-ℤ◌, ◌≤ℤ◌, int_le, Option, Some, None, if◌then◌else◌}
use Rattle.std.specs.Prelude.{IsSomeAnd}
use Rattle.std.specs.List.{Contains, list_all, range_with_len}
use Rattle.std.specs.Option.{option_map_or}
use Rattle.std.specs.Ordering.{int_eq}
use Rattle.std.proofs.lemmas.Int.{ints}
use Rattle.std.proofs.lemmas.List.Elements.{Contains-get_or}
use Rattle.std.proofs.lemmas.List.FromFn.{get_or-range_with_len, length-range_with_len}
use Rattle.std.proofs.lemmas.List.Sums.{AllPass-from_list_all, list_all-from_AllPass}
use Rattle.base_words.proofs.Comparisons.{most_from_test, test_from_most}
use Rattle.agreement.specs.Agreeing.{AreAgreed}
use Rattle.bound_ledger.specs.declared.ledger.Pair.{Pair}
use Rattle.put_words.specs.NodeSums.{value_at}
use Rattle.run_log.specs.Runs.{EndsBy, GoesOn, IsClose, values_of}
use Rattle.run_log.specs.declared.log.End.{End}
use Rattle.run_log.specs.declared.log.End.TheVariants.{Agreed, Gap, Iterations, Spent}
use Rattle.sp_model.specs.Plans.{stage_of}
use Rattle.sp_model.specs.declared.run.Run.{Run}
use Rattle.tree_core.specs.Nodes.{Share, first_of}
use Rattle.tree_core.specs.declared.tree.Node.{Node}
use Rattle.drive_words.specs.Steps.{is_agreed, is_close, is_one_in, test_by, test_of}

same_int : (a b : ℤ) → int_eq a b ≡ true → a ≡ b
same_int a b e = grind (arith, ints)

int_same : (a b : ℤ) → a ≡ b → int_eq a b ≡ true
int_same a b e = grind (arith, ints)

same_number : (a b : ℕ) → nat_eq a b ≡ true → a ≡ b
same_number a b e = grind arith

test_other : (a b : ℕ) → (a ≡ b → ⊥) → nat_eq a b ≡ false
test_other a b e = grind arith

number_same : (a b : ℕ) → a ≡ b → nat_eq a b ≡ true
number_same a b e = grind arith

module _ (run : Run) (x : List ℤ) where
  abbrev nodes : List Node
  nodes = run.program.tree.nodes

  abbrev has_one : Node → ℕ → ℕ → Bool
  has_one node j s = int_eq (value_at run x s j) (value_at run x (first_of node) j)

  abbrev one_in : Node → Bool
  one_in node = list_all (is_one_in run x node) (range_with_len 0 run.nonleaf)

  -- values that agree pass the tests of all nodes
  module _ (agreed : AreAgreed run x) where
    one_value : (node : Node) (j : ℕ) → j < run.nonleaf → Contains nodes node → stage_of run j ≡ node.stage → (n : ℕ) (d : ℕ) → n < length node.scenarios → has_one node j (get_or node.scenarios n d) ≡ true
    one_value node j l there stage n d m =
        let shares : Share nodes (get_or node.scenarios n d) (first_of node) (stage_of run j)
        = (there.0, node, there.1, there.2, (sym stage, Contains-get_or node.scenarios n d m, Contains-get_or node.scenarios 0 0 (omega (arith, m)))) in
        int_same (value_at run x (get_or node.scenarios n d) j) (value_at run x (first_of node) j) (agreed (get_or node.scenarios n d) (first_of node) j l shares)

    one_by : (node : Node) (j : ℕ) → j < run.nonleaf → Contains nodes node → (t : Bool) → nat_eq (stage_of run j) node.stage ≡ t → (if t then list_all (has_one node j) node.scenarios else true) ≡ true
    one_by node j l there false e = refl
    one_by node j l there true e = list_all-from_AllPass (has_one node j) node.scenarios (λ n d m. one_value node j l there (same_number (stage_of run j) node.stage e) n d m)

    all_one : (node : Node) → Contains nodes node → one_in node ≡ true
    all_one node there = list_all-from_AllPass (is_one_in run x node) (range_with_len 0 run.nonleaf)
        (λ n d m. let long = length-range_with_len 0 run.nonleaf in let l : n < run.nonleaf = omega (arith, m, long) in
        ap (is_one_in run x node) (get_or-range_with_len 0 run.nonleaf n d l ∙ (let z : 0 + n ≡ n = omega arith in z)) ∙ one_by node n l there (nat_eq (stage_of run n) node.stage) refl)

    pub agreed_passes : is_agreed run x ≡ true
    agreed_passes = list_all-from_AllPass one_in nodes (λ n d m. all_one (get_or nodes n d) (Contains-get_or nodes n d m))

  -- and values that pass them agree
  module _ (passes : is_agreed run x ≡ true) where
    node_passes : (node : Node) → Contains nodes node → one_in node ≡ true
    node_passes node there = ap one_in (sym there.2) ∙ AllPass-from_list_all one_in nodes passes there.0 node there.1

    column_passes : (node : Node) → Contains nodes node → (j : ℕ) → j < run.nonleaf → is_one_in run x node j ≡ true
    column_passes node there j l =
        ap (is_one_in run x node) (sym (get_or-range_with_len 0 run.nonleaf j 0 l ∙ (let z : 0 + j ≡ j = omega arith in z)))
        ∙ AllPass-from_list_all (is_one_in run x node) (range_with_len 0 run.nonleaf) (node_passes node there) j 0 (let long = length-range_with_len 0 run.nonleaf in omega (arith, l, long))

    members_pass : (node : Node) → Contains nodes node → (j : ℕ) → j < run.nonleaf → stage_of run j ≡ node.stage → list_all (has_one node j) node.scenarios ≡ true
    members_pass node there j l stage = sym (ap (λ t. if t then list_all (has_one node j) node.scenarios else true) (number_same (stage_of run j) node.stage stage)) ∙ column_passes node there j l

    value_is : (node : Node) → Contains nodes node → (j : ℕ) → j < run.nonleaf → stage_of run j ≡ node.stage → (s : ℕ) → Contains node.scenarios s → value_at run x s j ≡ value_at run x (first_of node) j
    value_is node there j l stage s in_node =
        ap (λ u. value_at run x u j) (sym in_node.2)
        ∙ same_int (value_at run x (get_or node.scenarios in_node.0 s) j) (value_at run x (first_of node) j) (AllPass-from_list_all (has_one node j) node.scenarios (members_pass node there j l stage) in_node.0 s in_node.1)

    pub passes_agreed : AreAgreed run x
    passes_agreed s u j l shares =
        let node : Node = shares.1 in
        let there : Contains nodes node = (shares.0, shares.2, shares.3) in
        let holds = shares.4 in
        value_is node there j l (sym holds.0) s holds.1 ∙ sym (value_is node there j l (sym holds.0) u holds.2)

-- the bounds
pub close_passes : (run : Run) (pair : Pair) → IsClose run pair → is_close run pair ≡ true
close_passes run pair close = close_by pair.upper close where
  close_by : (o : Option ℤ) → IsSomeAnd o (λ upper. (upper -ℤ pair.lower) ≤ℤ run.options.gap) → option_map_or (λ upper. int_le (upper -ℤ pair.lower) run.options.gap) o false ≡ true
  close_by None c = absurd c
  close_by (Some upper) c = test_from_most (upper -ℤ pair.lower) run.options.gap c

pub passes_close : (run : Run) (pair : Pair) → is_close run pair ≡ true → IsClose run pair
passes_close run pair e = close_by pair.upper e where
  close_by : (o : Option ℤ) → option_map_or (λ upper. int_le (upper -ℤ pair.lower) run.options.gap) o false ≡ true → IsSomeAnd o (λ upper. (upper -ℤ pair.lower) ≤ℤ run.options.gap)
  close_by None e = absurd cc
  close_by (Some upper) e = most_from_test (upper -ℤ pair.lower) run.options.gap e

-- a test that doesn't hold
off_by : (P : Type 0) (t : Bool) → (t ≡ true → P) → (P → ⊥) → t ≡ false
off_by P true on none = absurd (none (on refl))
off_by P false on none = refl

module _ (run : Run) (k : ℕ) (pair : Pair) where
  abbrev agreed : Bool
  agreed = is_agreed run (values_of run k)

  abbrev close : Bool
  close = is_close run pair

  abbrev last : Bool
  last = nat_eq k (run.options.iterations + 1)

  apart : (AreAgreed run (values_of run k) → ⊥) → agreed ≡ false
  apart none = off_by (AreAgreed run (values_of run k)) agreed (passes_agreed run (values_of run k)) none

  wide : (IsClose run pair → ⊥) → close ≡ false
  wide none = off_by (IsClose run pair) close (passes_close run pair) none

  tests : (a c l : Bool) → agreed ≡ a → close ≡ c → last ≡ l → test_of run k pair ≡ test_by a c l
  tests a c l e f g = λ i. test_by (e i) (f i) (g i)

  -- no test ends a run that goes on
  pub goes_on_is : GoesOn run k pair → test_of run k pair ≡ None
  goes_on_is g = tests false false false (apart g.apart) (wide g.wide) (test_other k (run.options.iterations + 1) (λ e. let more = g.more in omega (arith, e, more)))

  -- and the end is the first test that holds, but where a search is spent
  abbrev pub ends_of : End → Option End
  ends_of Agreed = Some Agreed
  ends_of Gap = Some Gap
  ends_of Iterations = Some Iterations
  ends_of (Spent s) = None

  gap_is : test_by false true last ≡ Some Gap
  gap_is = refl

  pub ends_is : (end : End) → EndsBy run k pair end → test_of run k pair ≡ ends_of end
  ends_is Agreed is = ap (λ a. test_by a close last) (agreed_passes run (values_of run k) is)
  ends_is Gap is = (λ i. test_by (apart is.0 i) (close_passes run pair is.1 i) last) ∙ gap_is
  ends_is Iterations is = tests false false true (apart is.0) (wide is.1) (number_same k (run.options.iterations + 1) is.2)
  ends_is (Spent s) is = goes_on_is is.0
