use Rattle.spoke_tests.proofs.spelling.parts.Goals as goal

pub part_text-requires-clause-put : goal.part_text-requires-clause-put
part_text-requires-clause-put g c = c.in-Ok.ensures.ok.0
