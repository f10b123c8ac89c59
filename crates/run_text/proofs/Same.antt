-- Two runs with the same text have the same events, the same end and the same pairs of bounds.
use Rattle.std.proofs.Common.{arith, ◌≡◌, ℕ, ◌+◌, List, [], ◌∷◌, ◌++◌, ℤ, pos, negsuc, FitsSigned, Option, None, refl, sym, ap, ◌∙◌, length, drop, codes, append_assoc}
use Rattle.std.specs.Fmt.{signed_decimal}
use Rattle.std.specs.Int.{w128}
use Rattle.std.specs.List.{concat, filter_map}
use Rattle.run_log.specs.declared.log.Log.{Log}
use Rattle.run_text.specs.Bodies.{IsBody, IsWorth, IsWorthIfAny, body_lines_of, first_line, last_lines, upper_value}
use Rattle.run_text.specs.RunLines.{end_text, event_lines_of, spokes_lines_from}
use Rattle.run_text.specs.Telling.{IsLong, IsOfTypes, IsWide, TellTheSame, pair_behind}
use Rattle.run_text.specs.declared.worth.Worth.{Worth}
use Rattle.run_text.proofs.Answered.{last_are, last_tokens, spokes_are, spokes_rest, spokes_tokens, told_last, told_spokes, upper_told}
use Rattle.run_text.proofs.Putting.{body_is}
use Rattle.run_text.proofs.Reading.{end_byte, end_is, end_same, end_tokens, events_are, events_same, events_tokens, told_end, told_events, word_at}
use Rattle.run_text.proofs.Tokens.{AreTokens, Token, limit_same, same_tokens, told, wide_same, wide_word}
use Rattle.sp_model.specs.declared.run.Run.{Run}
use Rattle.text_lines.specs.Headings.{unit_of}
use Rattle.text_lines.specs.Lines.{line_of}
use Rattle.text_lines.proofs.Units.{unit_facts}

-- the words of the whole text
abbrev rest_tokens : Log → Worth → Option Worth → List Token
rest_tokens log lower upper = end_tokens log.end (spokes_tokens 0 log.spokes (last_tokens lower upper))

abbrev body_tokens : Log → Worth → Option Worth → List Token
body_tokens log lower upper =
    (codes "first", 32) ∷ (signed_decimal log.first, 32) ∷ (codes "none", 10) ∷ events_tokens log.events (rest_tokens log lower upper)

first_told : (a t : List ℕ) → a ++ (32 ∷ (codes "none" ++ (10 ∷ t))) ≡ ((a ++ codes " none") ++ (10 ∷ [])) ++ t
first_told a t = simp append_assoc

five_parts : (a b c d e : List ℕ) → a ++ (b ++ (c ++ (d ++ e))) ≡ (a ++ b) ++ ((c ++ d) ++ e)
five_parts a b c d e = simp append_assoc

told_body : (log : Log) (lower : Worth) (upper : Option Worth) → told (body_tokens log lower upper) ≡ concat (body_lines_of log lower upper)
told_body log lower upper =
    let events = concat (event_lines_of log.events) in
    let why = line_of (end_text log.end) in
    let spokes = concat (spokes_lines_from 0 log.spokes) in
    let last = concat (last_lines lower upper) in
    let s : told (spokes_tokens 0 log.spokes (last_tokens lower upper)) ≡ spokes ++ last =
    told_spokes 0 log.spokes (last_tokens lower upper) ∙ ap (λ rest. spokes ++ rest) (told_last lower upper) in
    let r : told (rest_tokens log lower upper) ≡ why ++ (spokes ++ last) =
    told_end log.end (spokes_tokens 0 log.spokes (last_tokens lower upper)) ∙ ap (λ rest. why ++ rest) s in
    let v : told (events_tokens log.events (rest_tokens log lower upper)) ≡ events ++ (why ++ (spokes ++ last)) =
    told_events log.events (rest_tokens log lower upper) ∙ ap (λ rest. events ++ rest) r in
    ap (λ rest. codes "first " ++ (signed_decimal log.first ++ (32 ∷ (codes "none" ++ (10 ∷ rest))))) v
    ∙ ap (λ rest. codes "first " ++ rest) (first_told (signed_decimal log.first) (events ++ (why ++ (spokes ++ last))))
    ∙ five_parts (first_line log.first) events why spokes last
    ∙ sym (body_is log lower upper)

wide_from_fits : (z : ℤ) → FitsSigned w128 z → IsWide z
wide_from_fits (pos n) h = omega (arith, h.sfits)
wide_from_fits (negsuc n) h = omega (arith, h.sfits)

unit_wide : (run : Run) → IsWide (unit_of run)
unit_wide run = wide_from_fits (unit_of run) (unit_facts run).unit

body_are : (run : Run) (log : Log) (lower : Worth) (upper : Option Worth) → IsOfTypes log → IsWorth (unit_of run) log.lower lower → IsWorthIfAny (unit_of run) (upper_value log) upper → AreTokens (body_tokens log lower upper)
body_are run log lower upper t w v =
    let few : IsLong (0 + length log.spokes) = omega (arith, t.few) in (
      refl,
      omega arith,
      (
        wide_word log.first t.first,
        omega arith,
        (
          refl,
          omega arith,
          events_are log.events (rest_tokens log lower upper) t.events
              (end_is log.end (spokes_tokens 0 log.spokes (last_tokens lower upper)) t.why
              (spokes_are 0 log.spokes (last_tokens lower upper) few t.spokes
              (last_are (unit_of run) log.lower (upper_value log) lower upper (unit_wide run) t.lower t.upper w v))),
        ),
      ),
    )

pub tell_the_same : (run other_run : Run) (log other : Log) (lines others : List (List ℕ)) → IsOfTypes log → IsOfTypes other → IsBody run log lines → IsBody other_run other others → concat lines ≡ concat others → TellTheSame log other
tell_the_same run other_run log other lines others t u (lower, upper, w, v, is) (lower', upper', w', v', is') e =
    let texts : told (body_tokens log lower upper) ≡ told (body_tokens other lower' upper') =
    told_body log lower upper ∙ sym (ap concat is) ∙ e ∙ ap concat is' ∙ sym (told_body other lower' upper') in
    let words = same_tokens (body_tokens log lower upper) (body_tokens other lower' upper') (body_are run log lower upper t w v) (body_are other_run other lower' upper' u w' v') texts in
    let first = wide_same log.first other.first t.first u.first (ap (word_at 1) words) in
    let events = events_same log.events other.events (rest_tokens log lower upper) (rest_tokens other lower' upper') t.events u.events (end_byte log.end (spokes_tokens 0 log.spokes (last_tokens lower upper))) (end_byte other.end (spokes_tokens 0 other.spokes (last_tokens lower' upper'))) (ap (drop 3) words) in
    let why = end_same log.end other.end (spokes_tokens 0 log.spokes (last_tokens lower upper)) (spokes_tokens 0 other.spokes (last_tokens lower' upper')) t.why u.why events.1 in
    let last = spokes_rest 0 log.spokes other.spokes (last_tokens lower upper) (last_tokens lower' upper') refl refl why.1 in
    let low = wide_same log.lower other.lower t.lower u.lower (ap signed_decimal (sym w.bound_is) ∙ ap (word_at 1) last ∙ ap signed_decimal w'.bound_is) in
    let high = limit_same (upper_value log) (upper_value other) t.upper u.upper (upper_told (unit_of run) (unit_of other_run) (upper_value log) (upper_value other) upper upper' v v' (ap (drop 4) last)) in
    record {
      events = events.0;
      why = why.0;
      pairs = λ i. record { lower = first i; upper = None } ∷ filter_map pair_behind (events.0 i) ++ record { lower = low i; upper = high i } ∷ [];
    }
