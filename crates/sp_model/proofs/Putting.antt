-- Entries put in their places one after another: which order of two may be turned, and how a list of them is put at once.

use Rattle.std.proofs.Common.{arith, refl, sym, ap, ◌∙◌, ◌≡◌, ◌==◌, nat_lt, Bool, true, false, ◌&&◌, List, [], ◌∷◌, ◌++◌, if◌then◌else◌}
use Rattle.std.specs.List.{AllByRecursion}
use Rattle.boxed_problem.specs.BoxedFacts.{ComesBefore}
use Rattle.boxed_problem.specs.declared.parts.Entry.{Entry}
use Rattle.sp_model.specs.Changes.{is_at, is_before, put_entries, put_entry}
use Rattle.sp_model.proofs.EntryOrder.{after_is, before_is, IsChain, over_head, put_behind, put_chain, put_front, put_over, same_place}

-- all of a list stand behind an entry
abbrev pub AllAfter : Entry → List Entry → Type 0
AllAfter e ds = AllByRecursion (λ d. is_before e d ≡ true) ds

pub comes_before : (e f : Entry) → ComesBefore e f → is_before e f ≡ true
comes_before e f h = by_column (e.column == f.column) refl
  where
    by_column : (t : Bool) → (e.column == f.column) ≡ t → (if t then nat_lt e.row f.row else nat_lt e.column f.column) ≡ true
    by_column true c = let same : e.column ≡ f.column = grind arith in let less = h.1 same in grind arith
    by_column false c = let le = h.0 in grind arith

pub chained : (e f g : Entry) → ComesBefore e f → ComesBefore f g → ComesBefore e g
chained e f g p q = let p0 = p.0 in let q0 = q.0 in (omega (arith, p0, q0), λ same. let first = p.1 (omega (arith, p0, q0, same)) in let second = q.1 (omega (arith, p0, q0, same)) in omega (arith, first, second))

before_chain : (e f g : Entry) → is_before e f ≡ true → is_before f g ≡ true → is_before e g ≡ true
before_chain e f g p q = comes_before e g (chained e f g (before_is e f p) (before_is f g q))

-- of two places one before the other, the second isn't before the first
not_back : (e f : Entry) → is_before e f ≡ true → is_before f e ≡ false
not_back e f h = let c = before_is e f h in let first = c.0 in by_column (f.column == e.column) refl
  where
    by_column : (t : Bool) → (f.column == e.column) ≡ t → (if t then nat_lt f.row e.row else nat_lt f.column e.column) ≡ false
    by_column true s = let c = before_is e f h in let same : e.column ≡ f.column = grind arith in let less = c.1 same in grind arith
    by_column false s = let c = before_is e f h in let first = c.0 in grind arith

-- nor of its place
not_met : (e f : Entry) → is_before e f ≡ true → is_at f e ≡ false
not_met e f h = by_column (f.column == e.column) refl
  where
    by_column : (t : Bool) → (f.column == e.column) ≡ t → (t && (f.row == e.row)) ≡ false
    by_column true s = let c = before_is e f h in let same : e.column ≡ f.column = grind arith in let less = c.1 same in grind arith
    by_column false s = refl

-- what is said of a place is said of each entry of that place
before_alike : (e c d : Entry) → is_at d c ≡ true → is_before e d ≡ is_before e c
before_alike e c d at = let same = same_place d c at in ap (λ n. if e.column == n then nat_lt e.row d.row else nat_lt e.column n) same.0 ∙ ap (λ n. if e.column == c.column then nat_lt e.row n else nat_lt e.column c.column) same.1

at_alike : (e c d : Entry) → is_at d c ≡ true → is_at e d ≡ is_at e c
at_alike e c d at = let same = same_place d c at in ap (λ n. (e.column == n) && (e.row == d.row)) same.0 ∙ ap (λ n. (e.column == c.column) && (e.row == n)) same.1

alike_before : (e d c : Entry) → is_at e c ≡ true → is_before e d ≡ is_before c d
alike_before e d c at = let same = same_place e c at in ap (λ n. if n == d.column then nat_lt e.row d.row else nat_lt n d.column) same.0 ∙ ap (λ n. if c.column == d.column then nat_lt n d.row else nat_lt c.column d.column) same.1

not_before_met : (d c : Entry) → is_at d c ≡ true → is_before d c ≡ false
not_before_met d c at = alike_before d c c at ∙ self_before c
  where
    self_before : (c : Entry) → is_before c c ≡ false
    self_before c = by_column (c.column == c.column)
      where
        by_column : (t : Bool) → (if t then nat_lt c.row c.row else nat_lt c.column c.column) ≡ false
        by_column true = grind arith
        by_column false = grind arith

chain_skips : (e d : Entry) (ds : List Entry) → IsChain (e ∷ d ∷ ds) → IsChain (e ∷ ds)
chain_skips e d [] h = tt
chain_skips e d (c ∷ ds) h = (chained e d c h.0 h.1.0, h.1.1)

pub chain_tail : (d : Entry) (ds : List Entry) → IsChain (d ∷ ds) → IsChain ds
chain_tail d [] h = tt
chain_tail d (c ∷ ds) h = h.1

pub all_after : (e : Entry) (ds : List Entry) → IsChain (e ∷ ds) → AllAfter e ds
all_after e [] h = tt
all_after e (d ∷ ds) h = (comes_before e d h.0, all_after e ds (chain_skips e d ds h))

pub all_behind : (e d : Entry) (ds : List Entry) → is_before e d ≡ true → AllAfter d ds → AllAfter e ds
all_behind e d [] h all = tt
all_behind e d (c ∷ ds) h all = (before_chain e d c h all.0, all_behind e d ds h all.1)

-- an entry before all of a list that has a first one behind it
lead : (c x : Entry) (l xs : List Entry) → l ≡ x ∷ xs → is_before x c ≡ false → is_at x c ≡ false → put_entry c l ≡ c ∷ l
lead c x l xs e b a = ap (put_entry c) e ∙ put_front c x xs b a ∙ ap (λ m. c ∷ m) (sym e)

-- two entries of two places may be put in either order
put_swap : (c d : Entry) (es : List Entry) → is_before c d ≡ true → put_entry d (put_entry c es) ≡ put_entry c (put_entry d es)
put_swap c d [] h = put_behind d c [] h ∙ sym (put_front c d [] (not_back c d h) (not_met c d h))
put_swap c d (e ∷ es) h = by_first (is_before e c) refl (is_at e c) refl (put_swap c d es h)
  where
    leads : (t : Bool) → is_before e d ≡ t → (u : Bool) → is_at e d ≡ u → is_before e c ≡ false → is_at e c ≡ false → put_entry c (put_entry d (e ∷ es)) ≡ c ∷ put_entry d (e ∷ es)
    leads true b u a nb na = lead c e (put_entry d (e ∷ es)) (put_entry d es) (put_behind d e es b) nb na
    leads false b true a nb na = lead c d (put_entry d (e ∷ es)) es (put_over d e es b a) (not_back c d h) (not_met c d h)
    leads false b false a nb na = lead c d (put_entry d (e ∷ es)) (e ∷ es) (put_front d e es b a) (not_back c d h) (not_met c d h)

    by_first : (t : Bool) → is_before e c ≡ t → (u : Bool) → is_at e c ≡ u → put_entry d (put_entry c es) ≡ put_entry c (put_entry d es) → put_entry d (put_entry c (e ∷ es)) ≡ put_entry c (put_entry d (e ∷ es))
    by_first true b u a r =
        let later = before_chain e c d b h in
        ap (put_entry d) (put_behind c e es b) ∙ put_behind d e (put_entry c es) later ∙ ap (λ l. e ∷ l) r
        ∙ sym (put_behind c e (put_entry d es) b) ∙ sym (ap (put_entry c) (put_behind d e es later))
    by_first false b true a r =
        let later : is_before e d ≡ true = alike_before e d c a ∙ h in
        ap (put_entry d) (put_over c e es b a) ∙ put_behind d c es h
        ∙ sym (put_over c e (put_entry d es) b a) ∙ sym (ap (put_entry c) (put_behind d e es later))
    by_first false b false a r =
        ap (put_entry d) (put_front c e es b a) ∙ put_behind d c (e ∷ es) h
        ∙ sym (leads (is_before e d) refl (is_at e d) refl b a)

-- of two entries of one place the later one is put
put_twice : (c d : Entry) (es : List Entry) → is_at d c ≡ true → put_entry c (put_entry d es) ≡ put_entry c es
put_twice c d [] h = put_over c d [] (not_before_met d c h) h
put_twice c d (e ∷ es) h = by_first (is_before e d) refl (is_at e d) refl (put_twice c d es h)
  where
    by_first : (t : Bool) → is_before e d ≡ t → (u : Bool) → is_at e d ≡ u → put_entry c (put_entry d es) ≡ put_entry c es → put_entry c (put_entry d (e ∷ es)) ≡ put_entry c (e ∷ es)
    by_first true b u a r =
        let before : is_before e c ≡ true = sym (before_alike e c d h) ∙ b in
        ap (put_entry c) (put_behind d e es b) ∙ put_behind c e (put_entry d es) before ∙ ap (λ l. e ∷ l) r ∙ sym (put_behind c e es before)
    by_first false b true a r =
        let before : is_before e c ≡ false = sym (before_alike e c d h) ∙ b in
        let met : is_at e c ≡ true = sym (at_alike e c d h) ∙ a in
        ap (put_entry c) (put_over d e es b a) ∙ put_over c d es (not_before_met d c h) h ∙ sym (put_over c e es before met)
    by_first false b false a r =
        let before : is_before e c ≡ false = sym (before_alike e c d h) ∙ b in
        let met : is_at e c ≡ false = sym (at_alike e c d h) ∙ a in
        ap (put_entry c) (put_front d e es b a) ∙ put_over c d (e ∷ es) (not_before_met d c h) h ∙ sym (put_front c e es before met)

-- an entry before all of a list may be put first
put_first : (c : Entry) (es ds : List Entry) → AllAfter c ds → put_entry c (put_entries es ds) ≡ put_entries (put_entry c es) ds
put_first c es [] h = refl
put_first c es (d ∷ ds) h = put_first c (put_entry d es) ds h.1 ∙ ap (λ l. put_entries l ds) (sym (put_swap c d es h.0))

-- an entry put behind a list is put with it
put_last : (c : Entry) (es ds : List Entry) → IsChain ds → put_entry c (put_entries es ds) ≡ put_entries es (put_entry c ds)
put_last c es [] h = refl
put_last c es (d ∷ ds) h = by_first (is_before d c) refl (is_at d c) refl (put_last c (put_entry d es) ds (chain_tail d ds h))
  where
    by_first : (t : Bool) → is_before d c ≡ t → (u : Bool) → is_at d c ≡ u → put_entry c (put_entries (put_entry d es) ds) ≡ put_entries (put_entry d es) (put_entry c ds) → put_entry c (put_entries es (d ∷ ds)) ≡ put_entries es (put_entry c (d ∷ ds))
    by_first true b u a r = r ∙ sym (ap (put_entries es) (put_behind c d ds b))
    by_first false b true a r =
        put_first c (put_entry d es) ds (all_after c ds (over_head c d ds a h))
        ∙ ap (λ l. put_entries l ds) (put_twice c d es a)
        ∙ sym (ap (put_entries es) (put_over c d ds b a))
    by_first false b false a r =
        put_first c es (d ∷ ds) (all_after c (d ∷ ds) (after_is d c b a, h))
        ∙ sym (ap (put_entries es) (put_front c d ds b a))

pub puts_chain : (ds cs : List Entry) → IsChain ds → IsChain (put_entries ds cs)
puts_chain ds [] h = h
puts_chain ds (c ∷ cs) h = puts_chain (put_entry c ds) cs (put_chain c ds h)

-- entries put over those that were put, one after another or all at once
pub puts_join : (es ds cs : List Entry) → IsChain ds → put_entries es (put_entries ds cs) ≡ put_entries (put_entries es ds) cs
puts_join es ds [] h = refl
puts_join es ds (c ∷ cs) h = puts_join es (put_entry c ds) cs (put_chain c ds h) ∙ ap (λ l. put_entries l cs) (sym (put_last c es ds h))

pub puts_append : (es cs ds : List Entry) → put_entries es (cs ++ ds) ≡ put_entries (put_entries es cs) ds
puts_append es [] ds = refl
puts_append es (c ∷ cs) ds = puts_append (put_entry c es) cs ds
