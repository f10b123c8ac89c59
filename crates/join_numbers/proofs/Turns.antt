-- Lists made item after item, and that an item that is large makes the list one with a large item.
use Rattle.std.proofs.Common.{arith, refl, sym, ap, subst, ◌∙◌, ◌≡◌, ℕ, zero, suc, ◌+◌, ◌<◌, Bool, true, false, List, [], ◌∷◌, ◌++◌, map, length, get_or, take, append-nil, Option, Some, None, if◌then◌else◌}
use Rattle.std.specs.List.{Any, cons_option, filter, filter_map, range_with_len}
use Rattle.std.proofs.lemmas.List.{get_or-map, length-map, map-append, take_more}
use Rattle.std.proofs.lemmas.List.Elements.{filter-append, filter_map-append}
use Rattle.std.proofs.lemmas.List.FromFn.{get_or-map-range_with_len, length-map-range_with_len}
use Rattle.boxed_problem.specs.declared.parts.Entry.{Entry}
use Rattle.smps_words.specs.declared.core_data.CoreEntry.{CoreEntry}
use Rattle.sp_model.specs.declared.program.Change.{Change}
use Rattle.join_words.specs.Powers.{stays}
use Rattle.join_words.specs.RunOf.{entry_of}
use Rattle.join_words.specs.declared.frame.Frame.{Frame}
use Rattle.join_numbers.specs.Turning.{with_change, with_entry}
use Rattle.join_numbers.specs.UnfitNumbers.{ByUnfit, IsLargeChange, IsLargeEntry, IsSomeLarge}
use Rattle.join_numbers.specs.declared.fault.MakeFault.{MakeFault}
use Rattle.join_numbers.specs.declared.fault.MakeFault.TheVariants.{Unfit, Memory}

-- a cause that brings another
pub by_unfit : (P Q : Type 0) (fault : MakeFault) → (P → Q) → ByUnfit P fault → ByUnfit Q fault
by_unfit P Q Unfit f h = f h
by_unfit P Q Memory f h = h

-- one more item of a list made of another
pub list_next : {X Y : Type 0} (f : X → Y) (xs : List X) (k : ℕ) (old new : List Y) (x : X) (y : Y) → k < length xs → x ≡ get_or xs k x → new ≡ old ++ y ∷ [] → y ≡ f x → old ≡ map f (take k xs) → new ≡ map f (take (k + 1) xs)
list_next f xs k old new x y lt at pushed is made =
    pushed ∙ (ap (λ z. old ++ z ∷ []) is ∙ (ap (λ l. l ++ f x ∷ []) made ∙ (sym (map-append f (take k xs) (x ∷ [])) ∙ (ap (λ z. map f (take k xs ++ z ∷ [])) at ∙ ap (map f) (sym (take_more xs k x lt))))))

-- an item
any_here : {X : Type 0} (P : X → Type 0) (x : X) (xs : List X) → P x → Any P (x ∷ xs)
any_here P x xs h = (0, x, omega arith, refl, h)

any_there : {X : Type 0} (P : X → Type 0) (x : X) (xs : List X) → Any P xs → Any P (x ∷ xs)
any_there P x xs (k, y, lt, at, h) = (suc k, y, omega (arith, lt), at, h)

pub any_made : {X : Type 0} (P : X → Type 0) (f : ℕ → X) (n k : ℕ) → k < n → P (f k) → Any P (map f (range_with_len 0 n))
any_made P f n k lt h = (k, f k, omega (arith, lt, length-map-range_with_len f 0 n), get_or-map-range_with_len f 0 n k k (f k) lt (omega arith), h)

pub any_mapped : {X Y : Type 0} (P : Y → Type 0) (f : X → Y) (xs : List X) (k : ℕ) (x : X) → k < length xs → x ≡ get_or xs k x → P (f x) → Any P (map f xs)
any_mapped P f xs k x lt at h = (k, f x, omega (arith, lt, length-map xs f), get_or-map f xs k x (f x) lt ∙ ap f (sym at), h)

-- the entries of a run
abbrev pub entries_in : Frame → List CoreEntry → List Entry
entries_in frame es = map (entry_of frame) (filter (λ (e : CoreEntry). stays frame.sides e.column) es)

module _ (frame : Frame) where
  abbrev kept : CoreEntry → Bool
  kept e = stays frame.sides e.column

  entry_pushed : (es : List CoreEntry) (e : CoreEntry) (b : Bool) → kept e ≡ b → (if b then entries_in frame es ++ entry_of frame e ∷ [] else entries_in frame es) ≡ entries_in frame (es ++ e ∷ [])
  entry_pushed es e true h =
      let one : filter kept (e ∷ []) ≡ e ∷ [] = ap (λ t. if t then e ∷ [] else []) h in
      sym (map-append (entry_of frame) (filter kept es) (e ∷ [])) ∙ ap (map (entry_of frame)) (ap (λ l. filter kept es ++ l) (sym one) ∙ sym (filter-append kept es (e ∷ [])))
  entry_pushed es e false h =
      let none : filter kept (e ∷ []) ≡ [] = ap (λ t. if t then e ∷ [] else []) h in
      ap (map (entry_of frame)) (sym (append-nil (filter kept es)) ∙ (ap (λ l. filter kept es ++ l) (sym none) ∙ sym (filter-append kept es (e ∷ []))))

  pub entry_next : (es : List CoreEntry) (k : ℕ) (old new : List Entry) (e : CoreEntry) → k < length es → e ≡ get_or es k e → new ≡ with_entry frame old e → old ≡ entries_in frame (take k es) → new ≡ entries_in frame (take (k + 1) es)
  entry_next es k old new e lt at step made =
      step ∙ (ap (λ l. with_entry frame l e) made ∙ (entry_pushed (take k es) e (kept e) refl ∙ (ap (λ x. entries_in frame (take k es ++ x ∷ [])) at ∙ ap (entries_in frame) (sym (take_more es k e lt)))))

  entry_test : (e : CoreEntry) (es : List CoreEntry) (b : Bool) → kept e ≡ b → Any IsLargeEntry (entries_in frame es) → Any IsLargeEntry (map (entry_of frame) (if b then e ∷ filter kept es else filter kept es))
  entry_test e es true h any = any_there IsLargeEntry (entry_of frame e) (entries_in frame es) any
  entry_test e es false h any = any

  entry_first : (e : CoreEntry) (es : List CoreEntry) (b : Bool) → kept e ≡ b → b ≡ true → IsLargeEntry (entry_of frame e) → Any IsLargeEntry (map (entry_of frame) (if b then e ∷ filter kept es else filter kept es))
  entry_first e es true h t large = any_here IsLargeEntry (entry_of frame e) (entries_in frame es) large
  entry_first e es false h t large = absurd (let z = t in cc)

  pub any_entry : (es : List CoreEntry) (k : ℕ) (e : CoreEntry) → k < length es → e ≡ get_or es k e → kept e ≡ true → IsLargeEntry (entry_of frame e) → Any IsLargeEntry (entries_in frame es)
  any_entry [] k e lt at t large = absurd (omega (arith, lt))
  any_entry (x ∷ es) zero e lt at t large =
      let P : CoreEntry → Type 0 = λ y. Any IsLargeEntry (entries_in frame (y ∷ es)) in
      subst P at (entry_first e es (kept e) refl t large)
  any_entry (x ∷ es) (suc k) e lt at t large = entry_test x es (kept x) refl (any_entry es k e (omega (arith, lt)) at t large)

module _ {X : Type 0} (f : X → Option Change) where
  change_pushed : (xs : List X) (x : X) (o : Option Change) → f x ≡ o → with_change (filter_map f xs) o ≡ filter_map f (xs ++ x ∷ [])
  change_pushed xs x None h =
      let none : filter_map f (x ∷ []) ≡ [] = ap (λ o. cons_option o []) h in
      sym (append-nil (filter_map f xs)) ∙ (ap (λ l. filter_map f xs ++ l) (sym none) ∙ sym (filter_map-append f xs (x ∷ [])))
  change_pushed xs x (Some c) h =
      let one : filter_map f (x ∷ []) ≡ c ∷ [] = ap (λ o. cons_option o []) h in
      ap (λ l. filter_map f xs ++ l) (sym one) ∙ sym (filter_map-append f xs (x ∷ []))

  pub change_next : (xs : List X) (k : ℕ) (old new : List Change) (x : X) → k < length xs → x ≡ get_or xs k x → new ≡ with_change old (f x) → old ≡ filter_map f (take k xs) → new ≡ filter_map f (take (k + 1) xs)
  change_next xs k old new x lt at step made =
      step ∙ (ap (λ l. with_change l (f x)) made ∙ (change_pushed (take k xs) x (f x) refl ∙ (ap (λ y. filter_map f (take k xs ++ y ∷ [])) at ∙ ap (filter_map f) (sym (take_more xs k x lt)))))

  change_first : (o : Option Change) (cs : List Change) → IsSomeLarge o → Any IsLargeChange (cons_option o cs)
  change_first None cs h = absurd h
  change_first (Some c) cs h = any_here IsLargeChange c cs h

  change_behind : (o : Option Change) (cs : List Change) → Any IsLargeChange cs → Any IsLargeChange (cons_option o cs)
  change_behind None cs h = h
  change_behind (Some c) cs h = any_there IsLargeChange c cs h

  pub any_change : (xs : List X) (k : ℕ) (x : X) → k < length xs → x ≡ get_or xs k x → IsSomeLarge (f x) → Any IsLargeChange (filter_map f xs)
  any_change [] k x lt at large = absurd (omega (arith, lt))
  any_change (y ∷ xs) zero x lt at large = let P : X → Type 0 = λ z. Any IsLargeChange (filter_map f (z ∷ xs)) in subst P at (change_first (f x) (filter_map f xs) large)
  any_change (y ∷ xs) (suc k) x lt at large = change_behind (f y) (filter_map f xs) (any_change xs k x (omega (arith, lt)) at large)
