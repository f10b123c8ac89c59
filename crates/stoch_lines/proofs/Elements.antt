-- A line of an element that was there adds no element.
use Rattle.std.proofs.Common.{◌≡◌, ◌≢◌, sym, ap, ◌∙◌, append-nil, ℕ, true, cond, [], ◌∷◌, ◌++◌, length}
use Rattle.std.specs.List.{list_any}
use Rattle.stoch_lines.specs.declared.state.Saying.{Saying}
use Rattle.stoch_lines.specs.Before.{Before, with_element}
use Rattle.stoch_lines.specs.Places.{same_source}
use Rattle.stoch_lines.specs.Sayings.{element_of, with_source, new_period}
use Rattle.stoch_lines.proofs.Positions.{any_before_end}

not_new : (b : Before) (saying : Saying) → list_any (same_source saying.source) b.sources ≡ true → b ≡ with_element b saying
not_new b saying old =
    let sources : b.sources ≡ with_source b.sources saying = ap (λ t. cond t b.sources (b.sources ++ saying.source ∷ [])) (sym old) in
    let periods : b.periods ≡ b.periods ++ new_period b.sources saying = sym (append-nil b.periods) ∙ ap (λ t. b.periods ++ cond t [] (saying.period ∷ [])) (sym old) in
    λ i. record b { sources = sources i; periods = periods i }

-- an element whose number isn't the next one was there
pub known : (b : Before) (saying : Saying) (element next : ℕ) → element ≡ element_of b.sources saying.source → next ≡ length b.sources → element ≢ next → b ≡ with_element b saying
known b saying element next is end other =
    let differs : element_of b.sources saying.source ≢ length b.sources = λ same. other (is ∙ same ∙ sym end) in
    not_new b saying (any_before_end (same_source saying.source) b.sources differs)
