-- facts for all that writes to a sink, one piece after the other: what is
-- written is the text, or a front of it.
use Rattle.std.proofs.Common.{◌≡◌, ℕ, ◌+◌, ◌<◌, List, [], ◌∷◌, ◌++◌, length, take, drop, get_or, None, Some, Option, Result, Ok, Err, refl, sym, ap, ◌∙◌, append_assoc, append-nil, take-append-drop}
use Rattle.std.proofs.Math.Seq.{take-append_seam}
use Rattle.std.proofs.lemmas.Grind.{flat_map-append}
use Rattle.std.proofs.lemmas.List.{take_more}
use Rattle.std.specs.List.{flat_map}
use Rattle.io_edge.specs.declared.faults.EdgeFault.{EdgeFault}
use Rattle.io_edge.specs.declared.faults.EdgeFault.TheVariants as edge
use Rattle.io_edge.specs.Sinks.{appended, AppendsFront, PutLeaves}

-- to append nothing changes nothing
appended-nothing : (old : Option (List ℕ)) → appended old [] ≡ old
appended-nothing None = refl
appended-nothing (Some bytes) = ap Some (append-nil bytes)

-- to append twice is to append the concatenation
appended-appended : (old : Option (List ℕ)) (first second : List ℕ) → appended (appended old first) second ≡ appended old (first ++ second)
appended-appended None first second = refl
appended-appended (Some bytes) first second = ap Some (append_assoc bytes first second)

-- the same of what stood in between
pub appended_twice : (old mid new : Option (List ℕ)) (first second : List ℕ) → mid ≡ appended old first → new ≡ appended mid second → new ≡ appended old (first ++ second)
appended_twice old mid new first second begun ended =
    ended ∙ ap (λ w. appended w second) begun ∙ appended-appended old first second

-- a text that begins with what was appended
front_of_split : (old new : Option (List ℕ)) (front rest text : List ℕ) → text ≡ front ++ rest → new ≡ appended old front → AppendsFront old new text
front_of_split old new front rest text split written =
    (length front, written ∙ ap (appended old) (sym (ap (take (length front)) split ∙ take-append_seam front rest)))

-- a whole text is a front of it
pub front_whole : (old new : Option (List ℕ)) (text : List ℕ) → new ≡ appended old text → AppendsFront old new text
front_whole old new text written = front_of_split old new text [] text (sym (append-nil text)) written

-- nothing is a front of every text
front_nothing : (old new : Option (List ℕ)) (text : List ℕ) → new ≡ old → AppendsFront old new text
front_nothing old new text kept = (0, kept ∙ sym (appended-nothing old))

-- a front of a front of a text is a front of the text
pub front_of_front : (old new : Option (List ℕ)) (front rest text : List ℕ) → text ≡ front ++ rest → AppendsFront old new front → AppendsFront old new text
front_of_front old new front rest text split (n, written) =
    let whole : text ≡ take n front ++ (drop n front ++ rest) =
    split
    ∙ ap (λ part. part ++ rest) (sym (take-append-drop n front))
    ∙ append_assoc (take n front) (drop n front) rest in
    front_of_split old new (take n front) (drop n front ++ rest) text whole written

-- a whole piece and then a front of the rest is a front of the whole
pub front_after : (old mid new : Option (List ℕ)) (piece rest : List ℕ) → mid ≡ appended old piece → AppendsFront mid new rest → AppendsFront old new (piece ++ rest)
front_after old mid new piece rest begun (n, written) =
    let whole : piece ++ rest ≡ (piece ++ take n rest) ++ drop n rest =
    ap (λ part. piece ++ part) (sym (take-append-drop n rest))
    ∙ sym (append_assoc piece (take n rest) (drop n rest)) in
    front_of_split old new (piece ++ take n rest) (drop n rest) (piece ++ rest) whole
    (appended_twice old mid new piece (take n rest) begun written)

-- whatever a put answers, a front of its piece was appended
front_of_put : (old new : Option (List ℕ)) (piece : List ℕ) (answer : Result (Unit {0}) EdgeFault) → PutLeaves old new piece answer → AppendsFront old new piece
front_of_put old new piece (Ok _) written = front_whole old new piece written
front_of_put old new piece (Err edge.Failed) front = front
front_of_put old new piece (Err edge.Memory) kept = front_nothing old new piece kept

-- whatever a put after the text so far answers, a front of the whole text was appended
front_of_next_put : (old mid new : Option (List ℕ)) (so_far piece rest text : List ℕ) (answer : Result (Unit {0}) EdgeFault) → text ≡ (so_far ++ piece) ++ rest → mid ≡ appended old so_far → PutLeaves mid new piece answer → AppendsFront old new text
front_of_next_put old mid new so_far piece rest text answer split begun left =
    front_of_front old new (so_far ++ piece) rest text split
    (front_after old mid new so_far piece begun (front_of_put mid new piece answer left))

-- the texts of the first items and then of the others are the text of all
text_split : {X : Type 0} (text_of : X → List ℕ) (items : List X) (n : ℕ) → flat_map text_of items ≡ flat_map text_of (take n items) ++ flat_map text_of (drop n items)
text_split text_of items n =
    ap (flat_map text_of) (sym (take-append-drop n items)) ∙ flat_map-append text_of (take n items) (drop n items)

-- the text of the first items is a front of the text of all: where a writer ends between two items
front_of_items : {X : Type 0} (text_of : X → List ℕ) (items : List X) (n : ℕ) (old new : Option (List ℕ)) → new ≡ appended old (flat_map text_of (take n items)) → AppendsFront old new (flat_map text_of items)
front_of_items text_of items n old new written =
    front_of_split old new (flat_map text_of (take n items)) (flat_map text_of (drop n items)) (flat_map text_of items)
    (text_split text_of items n) written

-- the text of the first items, one more put to it
text_more : {X : Type 0} (text_of : X → List ℕ) (items : List X) (i : ℕ) (d : X) → i < length items → flat_map text_of (take (i + 1) items) ≡ flat_map text_of (take i items) ++ text_of (get_or items i d)
text_more text_of items i d inside =
    ap (flat_map text_of) (take_more items i d inside)
    ∙ flat_map-append text_of (take i items) (get_or items i d ∷ [])
    ∙ ap (λ last. flat_map text_of (take i items) ++ last) (append-nil (text_of (get_or items i d)))

-- a writer's step: the text of one more item is written
pub item_written : {X : Type 0} (text_of : X → List ℕ) (items : List X) (i : ℕ) (d : X) (old mid new : Option (List ℕ)) (piece : List ℕ) → i < length items → piece ≡ text_of (get_or items i d) → mid ≡ appended old (flat_map text_of (take i items)) → new ≡ appended mid piece → new ≡ appended old (flat_map text_of (take (i + 1) items))
item_written text_of items i d old mid new piece inside is begun written =
    appended_twice old mid new (flat_map text_of (take i items)) piece begun written
    ∙ ap (appended old) (ap (λ last. flat_map text_of (take i items) ++ last) is ∙ sym (text_more text_of items i d inside))

-- a writer's end at an item whose put was refused: a front of the text of all is written
pub front_of_item_put : {X : Type 0} (text_of : X → List ℕ) (items : List X) (i : ℕ) (d : X) (old mid new : Option (List ℕ)) (piece : List ℕ) (answer : Result (Unit {0}) EdgeFault) → i < length items → piece ≡ text_of (get_or items i d) → mid ≡ appended old (flat_map text_of (take i items)) → PutLeaves mid new piece answer → AppendsFront old new (flat_map text_of items)
front_of_item_put text_of items i d old mid new piece answer inside is begun left =
    let so_far = flat_map text_of (take i items) in
    let split : flat_map text_of items ≡ (so_far ++ piece) ++ flat_map text_of (drop (i + 1) items) =
    text_split text_of items (i + 1)
    ∙ ap (λ front. front ++ flat_map text_of (drop (i + 1) items))
    (text_more text_of items i d inside ∙ ap (λ last. so_far ++ last) (sym is)) in
    front_of_next_put old mid new so_far piece (flat_map text_of (drop (i + 1) items)) (flat_map text_of items) answer split begun left
