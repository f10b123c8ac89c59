-- The options that stand behind the files, each with a name, a range and a default. Words are here
-- those behind the files.
use Rattle.std.specs.Prelude.{ℕ, ◌+◌, ◌*◌, ◌/◌, ◌<◌, List, [], ◌∷◌, Bool, true, false, Option, Some, None, length, codes, slice_index_or}
use Rattle.std.specs.List.{filter, list_all, list_any, range_with_len}
use Rattle.std.specs.Str.{bytes_eq}
use Rattle.run_words.specs.Numerals.{number_in}
use Rattle.run_words.specs.declared.given.Given.{Given}
use Rattle.run_words.specs.declared.given.Given.TheVariants.{Never, Once, Again}

-- an option: its name, the least and the greatest number for it, and the number that it has where
-- it isn't given
pub record Setting : Type 0 where
  pub name : List ℕ
  pub least : ℕ
  pub greatest : ℕ
  pub default : ℕ

-- the greatest number for each option
abbrev pub max_scale : ℕ
max_scale = 1000000

abbrev pub max_rho : ℕ
max_rho = 1000000000

abbrev pub max_iterations : ℕ
max_iterations = 100000

abbrev pub max_ranks : ℕ
max_ranks = 16

-- of all kinds together
abbrev pub max_spokes : ℕ
max_spokes = 16

-- there are no xhat spokes yet
abbrev pub max_xhat : ℕ
max_xhat = 0

abbrev pub max_gap : ℕ
max_gap = 1000000000000000000

abbrev pub max_budget : ℕ
max_budget = 1000000000

abbrev pub max_box : ℕ
max_box = 1000000000

abbrev pub scale_option : Setting
scale_option = record { name = codes "--scale"; least = 1; greatest = max_scale; default = 1000 }

abbrev pub rho_option : Setting
rho_option = record { name = codes "--rho"; least = 1; greatest = max_rho; default = 1000 }

abbrev pub iterations_option : Setting
iterations_option =
    record { name = codes "--iterations"; least = 0; greatest = max_iterations; default = 20 }

abbrev pub ranks_option : Setting
ranks_option = record { name = codes "--ranks"; least = 1; greatest = max_ranks; default = 1 }

abbrev pub lagrangian_option : Setting
lagrangian_option =
    record { name = codes "--lagrangian"; least = 0; greatest = max_spokes; default = 1 }

abbrev pub xhat_option : Setting
xhat_option = record { name = codes "--xhat"; least = 0; greatest = max_xhat; default = 0 }

abbrev pub gap_option : Setting
gap_option = record { name = codes "--gap"; least = 0; greatest = max_gap; default = 0 }

abbrev pub budget_option : Setting
budget_option =
    record { name = codes "--budget"; least = 1; greatest = max_budget; default = 1000000 }

abbrev pub box_option : Setting
box_option = record { name = codes "--box"; least = 1; greatest = max_box; default = 1000000 }

-- all of them
abbrev pub settings : List Setting
settings =
    scale_option ∷ rho_option ∷ iterations_option ∷ ranks_option ∷ lagrangian_option ∷ xhat_option
    ∷ gap_option ∷ budget_option ∷ box_option ∷ []

-- the word at a place, empty past the end
abbrev pub word_at : List (List ℕ) → ℕ → List ℕ
word_at words k = slice_index_or words k []

-- how many pairs of a name and a value the words are
abbrev pub pair_count : List (List ℕ) → ℕ
pair_count words = length words / 2

-- the name and the value of pair k
abbrev pub name_of : List (List ℕ) → ℕ → List ℕ
name_of words k = word_at words (2 * k)

abbrev pub option_value : List (List ℕ) → ℕ → List ℕ
option_value words k = word_at words (2 * k + 1)

-- whether a word is the name of an option
abbrev pub is_option : List ℕ → Bool
is_option word = list_any (λ (setting : Setting). bytes_eq word setting.name) settings

-- whether each pair begins with the name of an option
abbrev pub are_options : List (List ℕ) → Bool
are_options words =
    list_all (λ k. is_option (name_of words k)) (range_with_len 0 (pair_count words))

-- the pairs among the first n that begin with this name
abbrev pub pairs_before : List ℕ → List (List ℕ) → ℕ → List ℕ
pairs_before name words n = filter (λ k. bytes_eq (name_of words k) name) (range_with_len 0 n)

-- how often an option is given, and where if once
abbrev pub given_by : List ℕ → Given
given_by [] = Never
given_by (k ∷ []) = Once k
given_by (k ∷ other ∷ more) = Again

-- how often the words give the option of this name
abbrev pub times_given : List ℕ → List (List ℕ) → Given
times_given name words = given_by (pairs_before name words (pair_count words))

-- whether they give it
abbrev pub is_some_time : Given → Bool
is_some_time Never = false
is_some_time (Once k) = true
is_some_time Again = true

abbrev pub is_given : List ℕ → List (List ℕ) → Bool
is_given name words = is_some_time (times_given name words)

-- an option's number: the default where it isn't given, the number of its value where it is given
-- once
abbrev pub number_by : Setting → List (List ℕ) → Given → Option ℕ
number_by setting words Never = Some setting.default
number_by setting words (Once k) = number_in setting.least setting.greatest (option_value words k)
number_by setting words Again = None

-- the number that the words set for an option; none where it is given twice, or by anything but a
-- number in its range
abbrev pub number_for : Setting → List (List ℕ) → Option ℕ
number_for setting words = number_by setting words (times_given setting.name words)

-- one pair more of the name
abbrev pub with_one : Given → ℕ → Given
with_one Never k = Once k
with_one (Once other) k = Again
with_one Again k = Again

-- a pair that is given stands below n
abbrev pub IsBelow : Given → ℕ → Type 0
IsBelow Never n = Unit {0}
IsBelow (Once k) n = k < n
IsBelow Again n = Unit {0}
