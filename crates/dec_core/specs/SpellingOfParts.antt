-- what cut parts spell
use Rattle.std.specs.Prelude.{◌≡◌, true}
use Rattle.std.specs.Option.{option_copied}
use Rattle.dec_core.specs.Spelling.{Spelling, are_parts, spelled}
use Rattle.dec_core.specs.declared.parts.Parts.{Parts}

-- the spelling that cut parts stand for
abbrev pub spelling_of_parts : Parts → Spelling
spelling_of_parts parts =
    spelled parts.negative parts.whole.now parts.fraction.now (option_copied parts.exponent)

-- parts that spell a number
abbrev pub SpellNumber : Parts → Type 0
SpellNumber parts =
    are_parts parts.whole.now parts.fraction.now (option_copied parts.exponent) ≡ true
