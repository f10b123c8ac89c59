-- What a word of a schedule says: whose turn it is, and for how many steps.
use Rattle.std.specs.Prelude.{ℕ, ◌+◌, ◌-◌, Bool, true, false, not, ◌&&◌, List, [], ◌∷◌, drop, length, position, ◌==◌, nat_le, if◌then◌else◌, Option, Some, None, Result, Ok, Err}
use Rattle.std.specs.Char.{is_ascii_digit}
use Rattle.std.specs.List.{list_all, before_first}
use Rattle.std.specs.Option.{option_and_then, option_map, option_map_or}
use Rattle.std.specs.Result.{result_map_both}
use Rattle.std.specs.Str.Parse.{digits_value}
use Rattle.schedule_lines.specs.declared.schedule.Actor.{Actor}
use Rattle.schedule_lines.specs.declared.schedule.Actor.TheVariants.{Hub, Rank, Spoke}
use Rattle.schedule_lines.specs.declared.schedule.Crew.{Crew}
use Rattle.schedule_lines.specs.declared.schedule.Turn.{Turn}
use Rattle.schedule_lines.specs.declared.schedule_fault.ScheduleKind.{ScheduleKind}
use Rattle.schedule_lines.specs.declared.schedule_fault.ScheduleKind.TheVariants as kinds

-- a byte, and no leading zero: a zero stands alone
abbrev pub begins_well : List ℕ → Bool
begins_well [] = false
begins_well (byte ∷ []) = true
begins_well (byte ∷ next ∷ rest) = not (byte == 48)

-- digits without a leading zero
abbrev pub is_numeral : List ℕ → Bool
is_numeral text = begins_well text && list_all is_ascii_digit text

-- the number of a numeral
abbrev pub numeral_of : List ℕ → Option ℕ
numeral_of text = if is_numeral text then Some (digits_value 10 text) else None

-- whether a number is from 1 up to a greatest one
abbrev pub is_within : ℕ → ℕ → Bool
is_within most number = nat_le 1 number && nat_le number most

abbrev pub is_star : ℕ → Bool
is_star byte = byte == 42

-- a word without its first star and what stands behind it
abbrev pub head_of : List ℕ → List ℕ
head_of word = before_first is_star word

-- what stands behind the first star of a word, if there is one
abbrev pub count_text : List ℕ → Option (List ℕ)
count_text word = option_map (λ star. drop (star + 1) word) (position is_star word)

-- the greatest number of steps of a word
abbrev pub max_count : ℕ
max_count = 1000000

-- the number of steps that a text says, which is none where it is no numeral or out of range
abbrev pub count_in : List ℕ → Option ℕ
count_in text = option_and_then (λ number. if is_within max_count number then Some number else None)
    (numeral_of text)

-- the same of what may stand behind a star; without a star it is one step
abbrev pub count_of : Option (List ℕ) → Option ℕ
count_of None = Some 1
count_of (Some text) = count_in text

-- the actor from 0 that a text numbers from 1, of so many
abbrev pub place_of : ℕ → List ℕ → Result ℕ ScheduleKind
place_of most text = option_map_or (λ number. if is_within most number then Ok (number - 1)
    else Err kinds.Actor)
    (numeral_of text) (Err kinds.Word)

-- the actor that a head names: h, or r or s with a number
abbrev pub actor_of : Crew → List ℕ → Result Actor ScheduleKind
actor_of crew [] = Err kinds.Word
actor_of crew (letter ∷ number) =
    if (letter == 104) && (length number == 0) then Ok Hub
    else (if letter == 114 then result_map_both Rank (λ fault. fault) (place_of crew.ranks number)
    else (if letter == 115 then result_map_both Spoke (λ fault. fault) (place_of crew.spokes number)
    else Err kinds.Word))

-- the turn of an actor and a number of steps: a fault of the number comes before one of the actor
abbrev pub turn_with : Result Actor ScheduleKind → Option ℕ → Result Turn ScheduleKind
turn_with actor None = Err kinds.Word
turn_with (Err fault) (Some count) = Err fault
turn_with (Ok actor) (Some count) = Ok (record { actor = actor; count = count })

-- the turn that a word says, or its fault
abbrev pub turn_of : Crew → List ℕ → Result Turn ScheduleKind
turn_of crew word = turn_with (actor_of crew (head_of word)) (count_of (count_text word))
