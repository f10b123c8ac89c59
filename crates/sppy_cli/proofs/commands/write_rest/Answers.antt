use Rattle.sppy_cli.proofs.commands.write_rest.Goals as goal

pub write_show-requires : goal.write_show-requires
write_show-requires g c = c.requires.facts
