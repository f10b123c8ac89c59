use Rattle.std.proofs.Common.{ℕ, ap, sym, ◌∙◌, Vec, Global}
use Rattle.std.specs.Str.{bytes_eq}
use Rattle.line_core.specs.Names.{number_of}
use Rattle.line_core.proofs.Numbered.{position-images}
use Rattle.line_core.proofs.name_list.Names.find.Goals as goal

pub returns-in-Some : goal.returns-in-Some
returns-in-Some c =
    sym c.in-Some.is ∙ c.get_index_of.ensures.index
    ∙ sym (position-images (bytes_eq c.args.name.now) (λ (v : Vec ℕ Global). v.items) c.self.inside.set.keys)
    ∙ ap (number_of c.args.name.now) c.self.view_is

pub returns-in-None : goal.returns-in-None
returns-in-None c =
    sym c.in-None.is ∙ c.get_index_of.ensures.index
    ∙ sym (position-images (bytes_eq c.args.name.now) (λ (v : Vec ℕ Global). v.items) c.self.inside.set.keys)
    ∙ ap (number_of c.args.name.now) c.self.view_is
