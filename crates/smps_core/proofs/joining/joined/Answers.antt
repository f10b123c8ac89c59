use Rattle.std.proofs.Common.{◌∙◌, subst, sym, List}
use Rattle.core_lines.specs.States.{before_in}
use Rattle.smps_core.specs.CoreData.{AreEntriesOf}
use Rattle.smps_words.specs.declared.core_data.CoreEntry.{CoreEntry}
use Rattle.smps_core.proofs.Facts.{core_facts}
use Rattle.smps_core.proofs.joining.joined.Goals as goal

pub core_with-requires : goal.core_with-requires
core_with-requires c = core_facts (before_in c.args.state) c.args.state.columns.marks c.args.state.rights.flags c.args.state.ranges.flags c.args.state.bounds.flags c.args.parts.lists.rows c.args.parts.lists.columns c.args.parts.lists.entries c.args.parts.words.constant c.row_names_in.result c.column_names_in.result c.args.state.rows.few c.args.state.columns.facts c.args.state.rights.facts c.args.state.ranges.facts c.args.state.bounds.facts c.requires.fits c.requires.parts.lists.rows c.requires.parts.lists.columns c.requires.parts.lists.entries c.requires.parts.words.constant c.row_names_in.ensures c.column_names_in.ensures

pub returns : goal.returns
returns c = record {
  rows = c.core_with.ensures.rows ∙ c.requires.parts.lists.rows;
  columns = c.core_with.ensures.columns ∙ c.requires.parts.lists.columns;
  entries = subst (λ (entries : List CoreEntry). AreEntriesOf c.args.state.columns.cells entries) (sym c.core_with.ensures.entries) c.requires.parts.lists.entries;
  constant = c.core_with.ensures.constant ∙ c.requires.parts.words.constant;
  right_name = c.core_with.ensures.right_name ∙ c.requires.parts.words.right_name;
  objective = c.core_with.ensures.objective ∙ c.requires.parts.words.objective;
  row_names = c.core_with.ensures.row_names ∙ c.row_names_in.ensures;
  column_names = c.core_with.ensures.column_names ∙ c.column_names_in.ensures;
}
