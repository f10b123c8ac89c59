-- The words of a run's text, and what two runs with the same words have in common.
use Rattle.std.proofs.Common.{arith, ◌≡◌, ℕ, ◌+◌, List, [], ◌∷◌, ◌++◌, refl, sym, ap, ◌∙◌, get_or, drop, codes, append_assoc}
use Rattle.std.specs.Fmt.{decimal, signed_decimal}
use Rattle.std.specs.List.{AllByRecursion, concat}
use Rattle.run_log.specs.declared.log.End.{End}
use Rattle.run_log.specs.declared.log.End.TheVariants.{Agreed, Gap, Iterations, Spent}
use Rattle.run_log.specs.declared.log.Event.{Event}
use Rattle.run_log.specs.declared.log.Event.TheVariants.{Put, Take}
use Rattle.run_text.specs.RunLines.{end_text, event_lines_of, source_text, take_text}
use Rattle.run_text.specs.Telling.{IsEnd, IsEvent}
use Rattle.run_text.proofs.Tokens.{AreTokens, Token, limit_same, limit_word, long_same, long_word, next_same, next_word, source_same, source_word, told, wide_same, wide_word}
use Rattle.text_lines.specs.Lines.{limit_text, line_of}

-- the words of events, in front of further ones
abbrev pub events_tokens : List Event → List Token → List Token
events_tokens [] r = r
events_tokens (Put k ∷ events) r = (codes "put", 32) ∷ (decimal k, 10) ∷ events_tokens events r
events_tokens (Take source k value lower upper ∷ events) r =
    (codes "take", 32) ∷ (source_text source, 32) ∷ (decimal k, 32) ∷ (limit_text value, 32) ∷ (signed_decimal lower, 32) ∷ (limit_text upper, 10) ∷ events_tokens events r

-- the same of the end
abbrev pub end_tokens : End → List Token → List Token
end_tokens Agreed r = (codes "end", 32) ∷ (codes "agreed", 10) ∷ r
end_tokens Gap r = (codes "end", 32) ∷ (codes "gap", 10) ∷ r
end_tokens Iterations r = (codes "end", 32) ∷ (codes "iterations", 10) ∷ r
end_tokens (Spent s) r = (codes "end", 32) ∷ (codes "spent", 32) ∷ (decimal (s + 1), 10) ∷ r

blank_between : (a x t : List ℕ) → ((a ++ (32 ∷ [])) ++ x) ++ t ≡ a ++ (32 ∷ (x ++ t))
blank_between a x t = append_assoc (a ++ (32 ∷ [])) x t ∙ append_assoc a (32 ∷ []) (x ++ t)

take_told : (s k v l u t : List ℕ) → s ++ (32 ∷ (k ++ (32 ∷ (v ++ (32 ∷ (l ++ (32 ∷ (u ++ (10 ∷ t))))))))) ≡ ((((((s ++ (32 ∷ [])) ++ k) ++ (32 ∷ [])) ++ v) ++ (((32 ∷ l) ++ (32 ∷ [])) ++ u)) ++ (10 ∷ [])) ++ t
take_told s k v l u t =
    let blank = 32 ∷ [] in
    let front = (((s ++ blank) ++ k) ++ blank) ++ v in
    let pair = ((32 ∷ l) ++ blank) ++ u in
    let rest = 32 ∷ (l ++ (32 ∷ (u ++ (10 ∷ t)))) in
    sym (append_assoc (front ++ pair) (10 ∷ []) t ∙ append_assoc front pair (10 ∷ t) ∙ ap (λ bytes. front ++ (32 ∷ bytes)) (blank_between l u (10 ∷ t)) ∙ blank_between ((s ++ blank) ++ k) v rest ∙ blank_between s k (32 ∷ (v ++ rest)))

pub told_events : (events : List Event) (r : List Token) → told (events_tokens events r) ≡ concat (event_lines_of events) ++ told r
told_events [] r = refl
told_events (Put k ∷ events) r =
    ap (λ rest. codes "put " ++ (decimal k ++ (10 ∷ rest))) (told_events events r)
    ∙ ap (λ rest. codes "put " ++ rest) (sym (append_assoc (decimal k) (10 ∷ []) (concat (event_lines_of events) ++ told r)) ∙ sym (append_assoc (decimal k ++ (10 ∷ [])) (concat (event_lines_of events)) (told r)))
told_events (Take source k value lower upper ∷ events) r =
    ap (λ rest. codes "take " ++ (source_text source ++ (32 ∷ (decimal k ++ (32 ∷ (limit_text value ++ (32 ∷ (signed_decimal lower ++ (32 ∷ (limit_text upper ++ (10 ∷ rest))))))))))) (told_events events r)
    ∙ ap (λ rest. codes "take " ++ rest) (take_told (source_text source) (decimal k) (limit_text value) (signed_decimal lower) (limit_text upper) (concat (event_lines_of events) ++ told r))
    ∙ sym (append_assoc (line_of (take_text source k value lower upper)) (concat (event_lines_of events)) (told r))

pub events_are : (events : List Event) (r : List Token) → AllByRecursion IsEvent events → AreTokens r → AreTokens (events_tokens events r)
events_are [] r h k = k
events_are (Put n ∷ events) r h k = (refl, omega arith, (long_word n h.0, omega arith, events_are events r h.1 k))
events_are (Take source n value lower upper ∷ events) r (h, more) k =
    (refl, omega arith, (source_word source h.0, omega arith, (long_word n h.1, omega arith, (limit_word value h.2, omega arith, (wide_word lower h.3, omega arith, (limit_word upper h.4, omega arith, events_are events r more k))))))

-- the word of this number among some, and its byte of this number
abbrev pub word_at : ℕ → List Token → List ℕ
word_at n ts = (get_or ts n ([], 0)).0

abbrev pub byte_at : ℕ → ℕ → List Token → ℕ
byte_at n m ts = get_or (word_at n ts) m 0

-- events in front of an end are the same
pub events_same : (events others : List Event) (r q : List Token) → AllByRecursion IsEvent events → AllByRecursion IsEvent others → byte_at 0 1 r ≡ 110 → byte_at 0 1 q ≡ 110 → events_tokens events r ≡ events_tokens others q → (events ≡ others) × (r ≡ q)
events_same [] [] r q h k a b e = (refl, e)
events_same [] (Put m ∷ others) r q h k a b e = absurd (omega (arith, a, ap (byte_at 0 1) e))
events_same [] (Take source m value lower upper ∷ others) r q h k a b e = absurd (omega (arith, a, ap (byte_at 0 1) e))
events_same (Put n ∷ events) [] r q h k a b e = absurd (omega (arith, b, ap (byte_at 0 1) e))
events_same (Take source n value lower upper ∷ events) [] r q h k a b e = absurd (omega (arith, b, ap (byte_at 0 1) e))
events_same (Put n ∷ events) (Take source m value lower upper ∷ others) r q h k a b e = absurd (omega (arith, ap (byte_at 0 1) e))
events_same (Take source n value lower upper ∷ events) (Put m ∷ others) r q h k a b e = absurd (omega (arith, ap (byte_at 0 1) e))
events_same (Put n ∷ events) (Put m ∷ others) r q h k a b e =
    let rest = events_same events others r q h.1 k.1 a b (ap (drop 2) e) in
    let same = long_same n m h.0 k.0 (ap (word_at 1) e) in
    ((λ i. Put (same i) ∷ rest.0 i), rest.1)
events_same (Take source n value lower upper ∷ events) (Take source' n' value' lower' upper' ∷ others) r q (h, more) (k, more') a b e =
    let rest = events_same events others r q more more' a b (ap (drop 6) e) in
    let s = source_same source source' h.0 k.0 (ap (word_at 1) e) in
    let p = long_same n n' h.1 k.1 (ap (word_at 2) e) in
    let v = limit_same value value' h.2 k.2 (ap (word_at 3) e) in
    let l = wide_same lower lower' h.3 k.3 (ap (word_at 4) e) in
    let u = limit_same upper upper' h.4 k.4 (ap (word_at 5) e) in
    ((λ i. Take (s i) (p i) (v i) (l i) (u i) ∷ rest.0 i), rest.1)

pub told_end : (end : End) (r : List Token) → told (end_tokens end r) ≡ line_of (end_text end) ++ told r
told_end Agreed r = refl
told_end Gap r = refl
told_end Iterations r = refl
told_end (Spent s) r = ap (λ rest. codes "end spent " ++ rest) (sym (append_assoc (decimal (s + 1)) (10 ∷ []) (told r)))

pub end_is : (end : End) (r : List Token) → IsEnd end → AreTokens r → AreTokens (end_tokens end r)
end_is Agreed r h k = (refl, omega arith, (refl, omega arith, k))
end_is Gap r h k = (refl, omega arith, (refl, omega arith, k))
end_is Iterations r h k = (refl, omega arith, (refl, omega arith, k))
end_is (Spent s) r h k = (refl, omega arith, (refl, omega arith, (next_word s h, omega arith, k)))

pub end_byte : (end : End) (r : List Token) → byte_at 0 1 (end_tokens end r) ≡ 110
end_byte Agreed r = refl
end_byte Gap r = refl
end_byte Iterations r = refl
end_byte (Spent s) r = refl

pub end_same : (end other : End) (r q : List Token) → IsEnd end → IsEnd other → end_tokens end r ≡ end_tokens other q → (end ≡ other) × (r ≡ q)
end_same Agreed Agreed r q h k e = (refl, ap (drop 2) e)
end_same Gap Gap r q h k e = (refl, ap (drop 2) e)
end_same Iterations Iterations r q h k e = (refl, ap (drop 2) e)
end_same (Spent s) (Spent t) r q h k e = (ap Spent (next_same s t h k (ap (word_at 2) e)), ap (drop 3) e)
end_same Agreed Gap r q h k e = absurd (omega (arith, ap (byte_at 1 0) e))
end_same Agreed Iterations r q h k e = absurd (omega (arith, ap (byte_at 1 0) e))
end_same Agreed (Spent t) r q h k e = absurd (omega (arith, ap (byte_at 1 0) e))
end_same Gap Agreed r q h k e = absurd (omega (arith, ap (byte_at 1 0) e))
end_same Gap Iterations r q h k e = absurd (omega (arith, ap (byte_at 1 0) e))
end_same Gap (Spent t) r q h k e = absurd (omega (arith, ap (byte_at 1 0) e))
end_same Iterations Agreed r q h k e = absurd (omega (arith, ap (byte_at 1 0) e))
end_same Iterations Gap r q h k e = absurd (omega (arith, ap (byte_at 1 0) e))
end_same Iterations (Spent t) r q h k e = absurd (omega (arith, ap (byte_at 1 0) e))
end_same (Spent s) Agreed r q h k e = absurd (omega (arith, ap (byte_at 1 0) e))
end_same (Spent s) Gap r q h k e = absurd (omega (arith, ap (byte_at 1 0) e))
end_same (Spent s) Iterations r q h k e = absurd (omega (arith, ap (byte_at 1 0) e))
