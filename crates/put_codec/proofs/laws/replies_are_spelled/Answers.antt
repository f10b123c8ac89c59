use Rattle.put_codec.proofs.ReplyWords.{reply_decodes, reply_entry, reply_fits, reply_there}
use Rattle.put_codec.proofs.laws.replies_are_spelled.Goals as goal

pub returns-clause-there : goal.returns-clause-there
returns-clause-there c = reply_there

pub returns-clause-entry : goal.returns-clause-entry
returns-clause-entry c = reply_entry

pub returns-clause-fits : goal.returns-clause-fits
returns-clause-fits c = reply_fits

pub returns-clause-decodes : goal.returns-clause-decodes
returns-clause-decodes c = reply_decodes
