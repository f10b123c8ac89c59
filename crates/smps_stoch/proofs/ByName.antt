-- Two lines that begin realisations of blocks have one block exactly where they name the same one.
use Rattle.std.proofs.Common.{◌≡◌, refl, sym, ap, ◌∙◌, subst, ℕ, ◌<◌, Bool, true, false, List, [], ◌∷◌, ◌++◌, length, take, get_or, arith, below_more, length-append}
use Rattle.std.specs.Prelude.{fold, if◌then◌else◌}
use Rattle.std.specs.List.{list_any, position_or_len}
use Rattle.std.specs.Str.{bytes_eq}
use Rattle.std.proofs.lemmas.List.{append-nil, append_assoc, get_or_append_left, get_or_at, take-append-le, take_at}
use Rattle.std.proofs.lemmas.List.Sums.{passes_at_first}
use Rattle.std.proofs.lemmas.Slice.Eq.{bytes_eq-Decides}
use Rattle.base_words.proofs.Positions.{place_there}
use Rattle.smps_words.specs.TextLines.{TextLine, field, no_line}
use Rattle.stoch_lines.proofs.Adding.{blocks_more}
use Rattle.stoch_lines.specs.Before.{blocks_of, section_of}
use Rattle.stoch_lines.specs.Sayings.{is_block_line, with_name}
use Rattle.smps_stoch.specs.LawWords.{block_at, is_block_at, line_at, AreByName}
use Rattle.smps_stoch.proofs.Numbering.{known_more, known_now, new_number, old_number}

-- a name is there, and has this number
abbrev HasNumber : List (List ℕ) → List ℕ → ℕ → Type 0
HasNumber names name number = (list_any (bytes_eq name) names ≡ true) × (number ≡ position_or_len (bytes_eq name) names)

-- one more name keeps the numbers of those that are there, and has its own
module _ (names : List (List ℕ)) (new : List ℕ) where
  kept_by : (known : Bool) (name : List ℕ) (number : ℕ) → HasNumber names name number → HasNumber (if known then names else names ++ new ∷ []) name number
  kept_by true name number has = has
  kept_by false name number has = (known_more bytes_eq names new name has.0, has.1 ∙ sym (old_number bytes_eq names new name has.0))

  new_by : (known : Bool) → list_any (bytes_eq new) names ≡ known → HasNumber (if known then names else names ++ new ∷ []) new (position_or_len (bytes_eq new) names)
  new_by true is = (is, refl)
  new_by false is =
      let self : bytes_eq new new ≡ true = (bytes_eq-Decides new new).1 refl in
      (known_now bytes_eq names new self, sym (new_number bytes_eq names new self is))

  kept_named : (begins : Bool) (name : List ℕ) (number : ℕ) → HasNumber names name number → HasNumber (fold with_name names (if begins then new ∷ [] else [])) name number
  kept_named true name number has = kept_by (list_any (bytes_eq new) names) name number has
  kept_named false name number has = has

  new_named : (begins : Bool) → begins ≡ true → HasNumber (fold with_name names (if begins then new ∷ [] else [])) new (position_or_len (bytes_eq new) names)
  new_named true is = new_by (list_any (bytes_eq new) names) refl
  new_named false is = absurd (cc is)

-- the block of line n has its number among the blocks of all lines
abbrev IsNumbered : List TextLine → ℕ → Type 0
IsNumbered lines n = HasNumber (blocks_of lines) (field 1 (line_at lines n)) (block_at lines n)

abbrev AreNumbered : List TextLine → Type 0
AreNumbered lines = (n : ℕ) → n < length lines → is_block_at lines n ≡ true → IsNumbered lines n

module _ (lines : List TextLine) (line : TextLine) where
  abbrev All : List TextLine
  All = lines ++ line ∷ []

  -- what is asked of a line and those before it is the same at the places before one more line
  at_old : {R : Type 0} (asks : List TextLine → TextLine → R) (n : ℕ) → n < length lines → asks (take n All) (line_at All n) ≡ asks (take n lines) (line_at lines n)
  at_old asks n lt =
      ap (λ (b : List TextLine). asks b (line_at All n)) (take-append-le n lines (line ∷ []) (omega (arith, lt)))
      ∙ ap (λ (l : TextLine). asks (take n lines) l) (get_or_append_left lines (line ∷ []) no_line n lt)

  at_new : {R : Type 0} (asks : List TextLine → TextLine → R) → asks (take (length lines) All) (line_at All (length lines)) ≡ asks lines line
  at_new asks =
      ap (λ (b : List TextLine). asks b (line_at All (length lines))) (take_at lines (line ∷ []) (length lines) refl)
      ∙ ap (λ (l : TextLine). asks lines l) (get_or_at lines line [] no_line (length lines) refl)

  name_of : List TextLine → TextLine → List ℕ
  name_of before l = field 1 l

  step : AreNumbered lines → AreNumbered All
  step facts n lt is =
      let more = blocks_more lines line in
      let begins = is_block_line (section_of lines) line in
      let test = λ (before : List TextLine) (l : TextLine). is_block_line (section_of before) l in
      let name = λ (before : List TextLine) (l : TextLine). field 1 l in
      let number = λ (before : List TextLine) (l : TextLine). position_or_len (bytes_eq (field 1 l)) (blocks_of before) in
      let P : ℕ → Type 0 = λ m. is_block_at All m ≡ true → IsNumbered All m in
      let Q : List (List ℕ) → List ℕ → ℕ → Type 0 = HasNumber in
      let turned : (names : List (List ℕ)) (a b : List ℕ) (i j : ℕ) → names ≡ blocks_of All → a ≡ b → i ≡ j → Q names a i → Q (blocks_of All) b j = λ names a b i j same_names same_name same_number has.
      subst (λ (ns : List (List ℕ)). Q ns b j) same_names (subst (λ (x : List ℕ). Q names x j) same_name (subst (Q names a) same_number has)) in
      let old : (m : ℕ) → m < length lines → P m = λ m less is_m.
      turned _ _ _ _ _ (sym more) (sym (at_old name m less)) (sym (at_old number m less))
      (kept_named (blocks_of lines) (field 1 line) begins (field 1 (line_at lines m)) (block_at lines m) (facts m less (sym (at_old test m less) ∙ is_m))) in
      let last : P (length lines) = λ is_n.
      turned _ _ _ _ _ (sym more) (sym (at_new name)) (sym (at_new number))
      (new_named (blocks_of lines) (field 1 line) begins (sym (at_new test) ∙ is_n)) in
      below_more P (length lines) old last n (subst (λ (m : ℕ). n < m) (length-append lines (line ∷ [])) lt) is

from_here : (before rest : List TextLine) → AreNumbered before → AreNumbered (before ++ rest)
from_here before [] facts = subst AreNumbered (sym (append-nil before)) facts
from_here before (line ∷ rest) facts =
    subst AreNumbered (append_assoc before (line ∷ []) rest) (from_here (before ++ line ∷ []) rest (step before line facts))

pub by_name : (lines : List TextLine) → AreByName lines
by_name lines m n m_lt n_lt is_m is_n =
    let none : AreNumbered [] = λ k lt is. absurd (omega (arith, lt)) in
    let facts = from_here [] lines none in
    let blocks = blocks_of lines in
    let one = field 1 (line_at lines m) in
    let other = field 1 (line_at lines n) in
    let has_m = facts m m_lt is_m in
    let has_n = facts n n_lt is_n in
    let at : (name : List ℕ) → list_any (bytes_eq name) blocks ≡ true → name ≡ get_or blocks (position_or_len (bytes_eq name) blocks) [] = λ name known.
    (bytes_eq-Decides name (get_or blocks (position_or_len (bytes_eq name) blocks) [])).0 (passes_at_first (bytes_eq name) blocks [] (place_there (bytes_eq name) blocks known)) in (
      (λ same. at one has_m.0 ∙ ap (λ (k : ℕ). get_or blocks k []) (sym has_m.1 ∙ same ∙ has_n.1) ∙ sym (at other has_n.0)),
      (λ same. has_m.1 ∙ ap (λ (name : List ℕ). position_or_len (bytes_eq name) blocks) same ∙ sym has_n.1),
    )
