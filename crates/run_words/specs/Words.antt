-- What the words of a command ask for.
use Rattle.std.specs.Prelude.{ℕ, ◌+◌, ◌%◌, pos, List, [], ◌∷◌, Bool, true, false, ◌==◌, Option, Some, None, length, drop, nat_le, not, if◌then◌else◌, codes, option_map, option_and_then}
use Rattle.std.specs.List.{list_all, range_with_len}
use Rattle.std.specs.Option.{option_copied}
use Rattle.std.specs.Str.{bytes_eq}
use Rattle.base_words.specs.Tests.{all_true}
use Rattle.sp_model.specs.declared.program.Options.{Options}
use Rattle.run_words.specs.Settings.{are_options, box_option, budget_option, gap_option, is_given, iterations_option, lagrangian_option, max_spokes, number_for, ranks_option, rho_option, scale_option, word_at, xhat_option}
use Rattle.run_words.specs.declared.command.Action.{Action}
use Rattle.run_words.specs.declared.command.Action.TheVariants.{Wait, Show, Drive}
use Rattle.run_words.specs.declared.command.Command.{Command}

-- what the words ask for: what to do, the names of the files, of which not every action has a
-- schedule, and the options
pub record Request : Type 0 where
  pub action : Action
  pub core : List ℕ
  pub time : List ℕ
  pub stoch : List ℕ
  pub schedule : Option (List ℕ)
  pub options : Options

-- the same of a command
abbrev pub request_of : Command → Request
request_of command = record {
  action = command.action;
  core = command.core.now;
  time = command.time.now;
  stoch = command.stoch.now;
  schedule = option_copied command.schedule;
  options = command.options;
}

-- what the first word asks to do
abbrev pub action_of : List ℕ → Option Action
action_of word =
    if bytes_eq word (codes "wait") then Some Wait
    else (if bytes_eq word (codes "show") then Some Show
    else (if bytes_eq word (codes "drive") then Some Drive else None))

-- how many files an action has: core, time and stoch, and of `drive` the schedule
abbrev pub file_count : Action → ℕ
file_count Wait = 3
file_count Show = 3
file_count Drive = 4

-- the schedule's name, if the action has one
abbrev pub schedule_of : List (List ℕ) → Action → Option (List ℕ)
schedule_of words Wait = None
schedule_of words Show = None
schedule_of words Drive = Some (word_at words 4)

-- the words behind the files
abbrev pub words_behind : List (List ℕ) → Action → List (List ℕ)
words_behind words action = drop (file_count action + 1) words

-- a file name doesn't begin with a minus sign (45)
abbrev pub is_file_name : List ℕ → Bool
is_file_name [] = true
is_file_name (b ∷ name) = not (b == 45)

-- the files behind the first word
abbrev pub are_file_names : List (List ℕ) → ℕ → Bool
are_file_names words files =
    list_all (λ k. is_file_name (word_at words (k + 1))) (range_with_len 0 files)

-- `drive` must be given `--xhat`
abbrev pub has_needed : List (List ℕ) → Action → Bool
has_needed given Wait = true
has_needed given Show = true
has_needed given Drive = is_given (codes "--xhat") given

-- the first word, the file names of its action, and pairs that begin with the name of an option
abbrev pub is_command : List (List ℕ) → Action → Bool
is_command words action = all_true (
    nat_le (file_count action + 1) (length words)
    ∷ (length (words_behind words action) % 2 == 0)
    ∷ are_file_names words (file_count action)
    ∷ are_options (words_behind words action)
    ∷ has_needed (words_behind words action) action
    ∷ [])

-- the options with these numbers; those that no word sets have their defaults. There are not too
-- many spokes
abbrev pub options_with : ℕ → ℕ → ℕ → ℕ → ℕ → ℕ → ℕ → ℕ → ℕ → Option Options
options_with scale rho iterations ranks lagrangian xhat gap budget missing =
    if nat_le (lagrangian + xhat) max_spokes
    then Some record {
      scale = pos scale;
      rho = pos rho;
      iterations = iterations;
      ranks = ranks;
      lagrangian = lagrangian;
      xhat = xhat;
      candidates = 2;
      mean = false;
      gap = pos gap;
      budget = budget;
      missing = pos missing;
    } else None

-- the options that the words behind the files set
abbrev pub options_of : List (List ℕ) → Option Options
options_of given =
    option_and_then (λ scale.
    option_and_then (λ rho.
    option_and_then (λ iterations.
    option_and_then (λ ranks.
    option_and_then (λ lagrangian.
    option_and_then (λ xhat.
    option_and_then (λ gap.
    option_and_then (λ budget.
    option_and_then (options_with scale rho iterations ranks lagrangian xhat gap budget)
    (number_for box_option given))
    (number_for budget_option given))
    (number_for gap_option given))
    (number_for xhat_option given))
    (number_for lagrangian_option given))
    (number_for ranks_option given))
    (number_for iterations_option given))
    (number_for rho_option given))
    (number_for scale_option given)

-- the request of the words that ask to do this
abbrev pub request_at : List (List ℕ) → Action → Options → Request
request_at words action options = record {
  action = action;
  core = word_at words 1;
  time = word_at words 2;
  stoch = word_at words 3;
  schedule = schedule_of words action;
  options = options;
}

-- what the words ask for, if they are a command of this action
abbrev pub command_at : List (List ℕ) → Action → Option Request
command_at words action =
    if is_command words action
    then option_map (request_at words action) (options_of (words_behind words action))
    else None

-- what the words ask for; none where they aren't well formed
abbrev pub command_of : List (List ℕ) → Option Request
command_of words = option_and_then (command_at words) (action_of (word_at words 0))
