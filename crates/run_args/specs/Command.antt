-- The command line as clap takes it: one simple command of text values. What clap makes of words is its own definition.
use Rattle.std.specs.Prelude.{◌==◌, ◌&&◌, ℕ, Bool, if◌then◌else◌, List, length, codes, Option, Some, None, unwrap_or, true}
use Rattle.std.specs.List.{list_all}
use Rattle.std.specs.Str.{is_utf8}
use Rattle.clap.specs.Words.{App, Row, Rule, new_app, new_rule, with_rule, fault_of, first_of, matches_of}
use Rattle.dl_base.specs.declared.step.Settings.{Settings}
use Rattle.run_args.specs.Words.{settings_of}

-- `--name value` or `--name=value`
abbrev pub option : List ℕ → Rule
option name = record (new_rule name) { long = Some name }

-- neither a program's name among the words, nor help, nor a version
abbrev pub bare : App
bare = let a = new_app (codes "datalinks") in record a { top = record a.top { no_binary_name = true; disable_help_flag = true; disable_version_flag = true } }

abbrev pub with_options : App
with_options = with_rule (with_rule (with_rule (with_rule (with_rule bare (option (codes "server"))) (option (codes "key"))) (option (codes "now"))) (option (codes "life"))) (option (codes "area"))

-- five options, and one positional word
abbrev pub command : App
command = with_rule with_options (new_rule (codes "command"))

-- clap finds no fault in the words
unfoldable pub is_taken : List (List ℕ) → Bool
is_taken words = length (fault_of command words) == 0

-- what clap finds for each of the five options and for the positional word
unfoldable pub found : List (List ℕ) → List Row
found words = matches_of command words

-- the text of an option or of the positional word, or what stands for it where it is not given
abbrev pub given : List ℕ → List ℕ → List Row → List ℕ
given name default rows = unwrap_or (first_of name rows) default

-- what `run` with its options says
unfoldable pub settings_in : List Row → Option Settings
settings_in rows = settings_of (λ name. first_of name rows)

-- the settings that clap's reading of the words gives
abbrev pub taken_settings : List (List ℕ) → Option Settings
taken_settings words = if list_all is_utf8 words && is_taken words then settings_in (found words) else None
