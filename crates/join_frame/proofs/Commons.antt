-- The common number of places of numbers that are picked one after another.
use Rattle.std.proofs.Common.{arith, refl, ◌≡◌, ◌<◌, ◌+◌, ◌==◌, ℕ, Bool, true, false, not, ◌&&◌, if◌then◌else◌, max, ap, ◌∙◌, sym, subst, length, List, [], ◌∷◌, ◌++◌, map, get_or, take, append-nil, append_assoc, Option, Some, None, add-one}
use Rattle.std.proofs.lemmas.Bool.{and_right}
use Rattle.std.specs.Prelude.{IfSome}
use Rattle.std.specs.List.{filter, fold, range_with_len}
use Rattle.std.proofs.lemmas.List.{get_or-map, length-map, map-append, take_more}
use Rattle.std.proofs.lemmas.List.Elements.{filter-append}
use Rattle.std.proofs.lemmas.List.FromFn.{length-map-range_with_len}
use Rattle.base_words.proofs.ListSumsByNumber.{range_more}
use Rattle.boxed_problem.specs.declared.parts.Side.{Side}
use Rattle.dec_core.specs.Scale.{common_places}
use Rattle.dec_core.specs.declared.decimal.Decimal.{Decimal}
use Rattle.smps_words.specs.declared.core_data.CoreRow.{CoreRow}
use Rattle.smps_words.specs.declared.core_data.CoreEntry.{CoreEntry}
use Rattle.stoch_lines.specs.declared.places.StochPlace.{StochPlace}
use Rattle.stoch_lines.specs.declared.places.StochPlace.TheVariants.{Cost, Cell, Right}
use Rattle.join_frame.specs.LiveRows.{live_row_of_entry, live_row_of_place, raised_at}
use Rattle.join_frame.specs.Naming.{IsRowNamed}
use Rattle.join_words.specs.Boxes.{is_idle}
use Rattle.join_words.specs.Parts.{no_row}
use Rattle.join_words.specs.Powers.{is_entry_in, is_live_in, own_numbers}
use Rattle.base_words.proofs.Made.{changed, is_made, made_at, same_made}
use Rattle.base_words.proofs.Booleans.{and_true}

common_from : (xs : List Decimal) (a : ℕ) (d : Decimal) → fold (λ most (item : Decimal). max most item.places) a (xs ++ d ∷ []) ≡ max (fold (λ most (item : Decimal). max most item.places) a xs) d.places
common_from [] a d = refl
common_from (x ∷ xs) a d = common_from xs (max a x.places) d

-- one number more
common_push : (xs : List Decimal) (d : Decimal) → common_places (xs ++ d ∷ []) ≡ max (common_places xs) d.places
common_push xs d = common_from xs 0 d

module _ {X : Type 0} (p : X → Bool) (v : X → Decimal) (front : List Decimal) where
  -- the places of some numbers, and of those of the items that pass
  abbrev pub picked : List X → ℕ
  picked xs = common_places (front ++ map v (filter p xs))

  picked_more : (xs : List X) (x : X) (b : Bool) → p x ≡ b → picked (xs ++ x ∷ []) ≡ (if b then max (picked xs) (v x).places else picked xs)
  picked_more xs x true h =
      let one : filter p (x ∷ []) ≡ x ∷ [] = ap (λ t. if t then x ∷ [] else []) h in
      ap (λ l. common_places (front ++ map v l)) (filter-append p xs (x ∷ []) ∙ ap (λ l. filter p xs ++ l) one)
      ∙ (ap (λ l. common_places (front ++ l)) (map-append v (filter p xs) (x ∷ []))
      ∙ (ap common_places (sym (append_assoc front (map v (filter p xs)) (v x ∷ [])))
      ∙ common_push (front ++ map v (filter p xs)) (v x)))
  picked_more xs x false h =
      let none : filter p (x ∷ []) ≡ [] = ap (λ t. if t then x ∷ [] else []) h in
      ap (λ l. common_places (front ++ map v l)) (filter-append p xs (x ∷ []) ∙ (ap (λ l. filter p xs ++ l) none ∙ append-nil (filter p xs)))

  -- one item more of a list
  picked_next : (xs : List X) (k : ℕ) (x : X) (before after : ℕ) (b : Bool) (d : Decimal) → k < length xs → x ≡ get_or xs k x → before ≡ picked (take k xs) → b ≡ p x → d ≡ v x → after ≡ (if b then max before d.places else before) → after ≡ picked (take (k + 1) xs)
  picked_next xs k x before after b d lt at was passes is step =
      step
      ∙ (ap (λ n. if b then max n d.places else n) was
      ∙ (ap (λ (e : Decimal). if b then max (picked (take k xs)) e.places else picked (take k xs)) is
      ∙ (sym (picked_more (take k xs) x b (sym passes))
      ∙ (ap (λ y. picked (take k xs ++ y ∷ [])) at
      ∙ ap picked (sym (take_more xs k x lt))))))

-- one number more of those from 0 on
pub counted_next : (p : ℕ → Bool) (v : ℕ → Decimal) (front : List Decimal) (j before after : ℕ) (b : Bool) (d : Decimal) → before ≡ picked p v front (range_with_len 0 j) → b ≡ p j → d ≡ v j → after ≡ (if b then max before d.places else before) → after ≡ picked p v front (range_with_len 0 (j + 1))
counted_next p v front j before after b d was passes is step =
    let z : 0 + j ≡ j = omega arith in
    step
    ∙ (ap (λ n. if b then max n d.places else n) was
    ∙ (ap (λ (e : Decimal). if b then max (picked p v front (range_with_len 0 j)) e.places else picked p v front (range_with_len 0 j)) is
    ∙ (sym (picked_more p v front (range_with_len 0 j) j b (sym passes))
    ∙ (ap (λ n. picked p v front (range_with_len 0 j ++ n ∷ [])) (sym z)
    ∙ (ap (picked p v front) (sym (range_more 0 j))
    ∙ ap (λ n. picked p v front (range_with_len 0 n)) (sym (add-one j)))))))

-- whether a row is this one
abbrev pub is_row : Option ℕ → ℕ → Bool
is_row None i = false
is_row (Some row) i = row == i

module _ {X : Type 0} (p : ℕ → X → Bool) (v : X → Decimal) (front : ℕ → List Decimal) (n : ℕ) where
  -- the places of each row
  abbrev pub rows_picked : List X → List ℕ
  rows_picked xs = map (λ i. picked (p i) v (front i) xs) (range_with_len 0 n)

  rows_more : (xs : List X) (x : X) (row : Option ℕ) → ((i : ℕ) → p i x ≡ is_row row i) → IfSome row (λ i. i < n) → raised_at (rows_picked xs) row (v x).places ≡ rows_picked (xs ++ x ∷ [])
  rows_more xs x None test there = same_made (λ i. picked (p i) v (front i) xs) (λ i. picked (p i) v (front i) (xs ++ x ∷ [])) n (λ i lt. sym (picked_more (p i) v (front i) xs x false (test i)))
  rows_more xs x (Some row) test there =
      let self : (row == row) ≡ true = grind arith in
      changed (λ i. picked (p i) v (front i) xs) (λ i. picked (p i) v (front i) (xs ++ x ∷ [])) n row (max (get_or (rows_picked xs) row 0) (v x).places) there
      (picked_more (p row) v (front row) xs x true (test row ∙ self) ∙ ap (λ m. max m (v x).places) (sym (made_at (λ i. picked (p i) v (front i) xs) n row 0 there)))
      (λ i other. let off : (row == i) ≡ false = differ row i other in picked_more (p i) v (front i) xs x false (test i ∙ off))
    where
      differ : (a b : ℕ) → (b ≡ a → ⊥) → (a == b) ≡ false
      differ a b h = by_test (a == b) refl h
        where
          by_test : (t : Bool) → (a == b) ≡ t → (b ≡ a → ⊥) → t ≡ false
          by_test true e h = absurd (h (grind arith))
          by_test false e h = refl

  -- one item more of a list
  pub rows_next : (xs : List X) (k : ℕ) (x : X) (before after : List ℕ) (row : Option ℕ) (d : Decimal) → k < length xs → x ≡ get_or xs k x → before ≡ rows_picked (take k xs) → ((i : ℕ) → p i x ≡ is_row row i) → IfSome row (λ i. i < n) → d ≡ v x → after ≡ raised_at before row d.places → after ≡ rows_picked (take (k + 1) xs)
  rows_next xs k x before after row d lt at was test there is step =
      step
      ∙ (ap (λ l. raised_at l row d.places) was
      ∙ (ap (λ (e : Decimal). raised_at (rows_picked (take k xs)) row e.places) is
      ∙ (rows_more (take k xs) x row test there
      ∙ (ap (λ y. rows_picked (take k xs ++ y ∷ [])) at
      ∙ ap rows_picked (sym (take_more xs k x lt))))))

-- at the start each row has its own numbers alone
pub rows_begin : {X : Type 0} (p : ℕ → X → Bool) (v : X → Decimal) (rows : List CoreRow) → map (λ (row : CoreRow). common_places (own_numbers row)) rows ≡ rows_picked p v (λ i. own_numbers (get_or rows i no_row)) (length rows) []
rows_begin p v rows =
    is_made (map (λ (row : CoreRow). common_places (own_numbers row)) rows) (λ i. picked (p i) v (own_numbers (get_or rows i no_row)) []) (length rows) (length-map rows (λ (row : CoreRow). common_places (own_numbers row)))
    (λ j d lt. get_or-map (λ (row : CoreRow). common_places (own_numbers row)) rows j no_row d lt ∙ ap common_places (sym (append-nil (own_numbers (get_or rows j no_row)))))

cell_test : (t : Bool) (row i : ℕ) → ((row == i) && not t) ≡ is_row (if t then None else Some row) i
cell_test true row i = and_right (row == i) false refl
cell_test false row i = and_true (row == i)

-- the rows of entries, and of places
pub entry_rows : (sides : List Side) (e : CoreEntry) (row : Option ℕ) → row ≡ live_row_of_entry sides e → (i : ℕ) → is_entry_in sides i e ≡ is_row row i
entry_rows sides e row is i = cell_test (is_idle sides e.column) e.row i ∙ ap (λ r. is_row r i) (sym is)

some_row : (t : Bool) (row n : ℕ) → row < n → IfSome (if t then None else Some row) (λ i. i < n)
some_row true row n h = tt
some_row false row n h = h

pub entry_there : (sides : List Side) (e : CoreEntry) (row : Option ℕ) (n : ℕ) → row ≡ live_row_of_entry sides e → e.row < n → IfSome row (λ i. i < n)
entry_there sides e row n is lt = subst (λ r. IfSome r (λ i. i < n)) (sym is) (some_row (is_idle sides e.column) e.row n lt)

live_in : (sides : List Side) (p : StochPlace) (i : ℕ) → is_live_in sides i p ≡ is_row (live_row_of_place sides p) i
live_in sides (Cost j) i = refl
live_in sides (Cell row j) i = cell_test (is_idle sides j) row i
live_in sides (Right row) i = refl

pub place_rows : (sides : List Side) (p : StochPlace) (row : Option ℕ) → row ≡ live_row_of_place sides p → (i : ℕ) → is_live_in sides i p ≡ is_row row i
place_rows sides p row is i = live_in sides p i ∙ ap (λ r. is_row r i) (sym is)

live_there : (sides : List Side) (p : StochPlace) (n : ℕ) → IsRowNamed n p → IfSome (live_row_of_place sides p) (λ i. i < n)
live_there sides (Cost j) n h = tt
live_there sides (Cell row j) n h = some_row (is_idle sides j) row n h
live_there sides (Right row) n h = h

pub place_there : (sides : List Side) (p : StochPlace) (row : Option ℕ) (n : ℕ) → row ≡ live_row_of_place sides p → IsRowNamed n p → IfSome row (λ i. i < n)
place_there sides p row n is h = subst (λ r. IfSome r (λ i. i < n)) (sym is) (live_there sides p n h)

pub picked_long : {X : Type 0} (p : ℕ → X → Bool) (v : X → Decimal) (front : ℕ → List Decimal) (n : ℕ) (xs : List X) → length (rows_picked p v front n xs) ≡ n
picked_long p v front n xs = length-map-range_with_len (λ i. picked (p i) v (front i) xs) 0 n
