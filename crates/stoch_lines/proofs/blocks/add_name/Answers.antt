use Rattle.std.proofs.Common.{ap, sym, ◌∙◌, cond, [], ◌∷◌, ◌++◌}
use Rattle.std.specs.Str.{bytes_eq}
use Rattle.base_words.proofs.Positions.{any_none, any_some}
use Rattle.stoch_lines.proofs.blocks.add_name.Goals as goal

pub returns-in-Some : goal.returns-in-Some
returns-in-Some c =
    let names = c.args.names.now in
    let name = c.args.name.now in
    sym (ap (λ b. cond b names (names ++ name ∷ [])) (any_some (bytes_eq name) names _ (sym c.find.ensures ∙ c.in-Some.is)))

pub returns-in-Ok : goal.returns-in-Ok
returns-in-Ok c =
    let names = c.args.names.now in
    let name = c.args.name.now in
    c.in-Ok.ensures.2
    ∙ sym (ap (λ b. cond b names (names ++ name ∷ [])) (any_none (bytes_eq name) names c.in-Ok.ensures.0))
