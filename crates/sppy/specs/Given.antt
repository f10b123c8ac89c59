-- why the program may not be given its words
use Rattle.sppy_cli.specs.declared.status.Status.{Status}
use Rattle.sppy_cli.specs.declared.status.Status.TheVariants as status

-- one of them isn't text, or memory is refused
abbrev pub IsOfWords : Status → Type 0
IsOfWords status.Words = Unit {0}
IsOfWords status.Memory = Unit {0}
IsOfWords _ = ⊥
