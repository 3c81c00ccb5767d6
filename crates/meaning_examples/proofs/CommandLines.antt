-- Words of a command line, and the settings that they say, or that they are no command.
use Rattle.std.proofs.Common.{◌≡◌, ◌==◌, ℕ, true, Bool, List, [], ◌∷◌, ◌++◌, map, replicate, codes, is_none, Option, Some, None, refl}
use Rattle.std.specs.Char.{encode_utf8}
use Rattle.std.specs.List.{list_all, slice_split}
use Rattle.std.specs.Str.{chars, is_utf8}
use Rattle.hex.specs.Hex.{decode_pairs}
use Rattle.dl_base.specs.Digits.{is_number, number_in}
use Rattle.dl_base.specs.Name.{name_test}
use Rattle.dl_base.specs.declared.step.Settings.{Settings}
use Rattle.run_args.specs.Words.{is_server, key_in, settings}

-- the words of a line, with one space between each and the next; a word may be empty
abbrev words_in : List ℕ → List (List ℕ)
words_in line = slice_split (λ b. b == 32) line

abbrev said : List (List ℕ) → List (Option Settings)
said lines = map (λ line. settings (words_in line)) lines

-- settings with a key of zeros
abbrev to : List ℕ → ℕ → ℕ → ℕ → Option Settings
to server now life limit = Some (record { server = server; key = replicate 32 0; now = now; life = life; limit = limit })

-- the settings where only the moment is given
abbrev at_moment : ℕ → Option Settings
at_moment now = to (codes "fs1") now 60 1099511627776

-- no line of these is a command
abbrev are_none : List (List ℕ) → Bool
are_none lines = list_all (λ line. is_none (settings (words_in line))) lines

-- ---- what is said

-- where nothing is given; `--` ends the options
defaults : said (codes "run" ∷ codes "-- run" ∷ codes "run --" ∷ []) ≡ at_moment 0 ∷ at_moment 0 ∷ at_moment 0 ∷ []
unfolding settings is_utf8 chars encode_utf8 is_server name_test key_in decode_pairs number_in is_number
defaults = refl

-- an option stands before the command or behind it, with its text behind a space or an equals sign
moments : said (codes "--now 5 run" ∷ codes "run --now 5" ∷ codes "run --now=5" ∷ codes "--now=5 -- run" ∷ codes "--now 5 -- run" ∷ []) ≡ at_moment 5 ∷ at_moment 5 ∷ at_moment 5 ∷ at_moment 5 ∷ at_moment 5 ∷ []
unfolding settings is_utf8 chars encode_utf8 is_server name_test key_in decode_pairs number_in is_number
moments = refl

-- zeros in front, 20 digits at most, up to 2 to the 53rd
digits_of_moments : said (codes "run --now=007" ∷ codes "run --now 00000000000000000007" ∷ codes "run --now 9007199254740992" ∷ []) ≡ at_moment 7 ∷ at_moment 7 ∷ at_moment 9007199254740992 ∷ []
unfolding settings is_utf8 chars encode_utf8 is_server name_test key_in decode_pairs number_in is_number
digits_of_moments = refl

lives : said (codes "run --life 1" ∷ codes "run --life 1000000000" ∷ []) ≡ to (codes "fs1") 0 1 1099511627776 ∷ to (codes "fs1") 0 1000000000 1099511627776 ∷ []
unfolding settings is_utf8 chars encode_utf8 is_server name_test key_in decode_pairs number_in is_number
lives = refl

areas : said (codes "run --area 1" ∷ codes "run --area=1099511627776" ∷ []) ≡ to (codes "fs1") 0 60 1 ∷ at_moment 0 ∷ []
unfolding settings is_utf8 chars encode_utf8 is_server name_test key_in decode_pairs number_in is_number
areas = refl

servers : said (codes "--server a run" ∷ codes "run --server=fs2x9" ∷ (codes "run --server " ++ replicate 64 97) ∷ [])
    ≡ to (codes "a") 0 60 1099511627776
    ∷ to (codes "fs2x9") 0 60 1099511627776
    ∷ to (replicate 64 97) 0 60 1099511627776
    ∷ []
unfolding settings is_utf8 chars encode_utf8 is_server name_test key_in decode_pairs number_in is_number
servers = refl

many_options : said (codes "--area 46 --life=7 run --server s --now=1" ∷ []) ≡ to (codes "s") 1 7 46 ∷ []
unfolding settings is_utf8 chars encode_utf8 is_server name_test key_in decode_pairs number_in is_number
many_options = refl

-- two digits of either case for each byte
key : settings (words_in (codes "run --key 0123456789abcdefABCDEF0000000000000000000000000000000000000000ff"))
    ≡ Some (record { server = codes "fs1"; key = 1 ∷ 0x23 ∷ 0x45 ∷ 0x67 ∷ 0x89 ∷ 0xab ∷ 0xcd ∷ 0xef ∷ 0xab ∷ 0xcd ∷ 0xef ∷ replicate 20 0 ++ 0xff ∷ []; now = 0; life = 60; limit = 1099511627776 })
unfolding settings is_utf8 chars encode_utf8 is_server name_test key_in decode_pairs number_in is_number
key = refl

-- ---- what is no command

-- no word at all, an empty word, a word that is neither `run` nor an option
no_command : are_none ([] ∷ codes "walk" ∷ codes "Run" ∷ codes "run " ∷ codes " run" ∷ codes "run x" ∷ codes "race" ∷ codes "load 1 2" ∷ codes "load" ∷ codes "help" ∷ codes "-run" ∷ []) ≡ true
unfolding settings is_utf8 chars encode_utf8 is_server name_test key_in decode_pairs number_in is_number
no_command = refl

no_words : settings [] ≡ None
unfolding settings
no_words = refl

-- the command twice, options alone, and options or a second `--` behind the one that ends them
not_once : are_none (codes "run run" ∷ codes "--now 5" ∷ codes "-- run --now=5" ∷ codes "-- --now 5 run" ∷ codes "-- -- run" ∷ []) ≡ true
unfolding settings is_utf8 chars encode_utf8 is_server name_test key_in decode_pairs number_in is_number
not_once = refl

-- an option without its text, and one that is given twice
option_not_once : are_none (codes "run --now" ∷ codes "run --now=" ∷ codes "run --now --life=5" ∷ codes "run --now -- 5" ∷ codes "run --now 5 --now 5" ∷ codes "run --now=5 --now 5" ∷ []) ≡ true
unfolding settings is_utf8 chars encode_utf8 is_server name_test key_in decode_pairs number_in is_number
option_not_once = refl

-- no such option: one hyphen, a part of a name, a name and more, another case, what other programs answer, no name
no_option : are_none (codes "run -n 5" ∷ codes "run -" ∷ codes "run --n 5" ∷ codes "run --no 5" ∷ codes "run --nows 5" ∷ codes "run --Now 5" ∷ codes "run --help" ∷ codes "run -h" ∷ codes "run --version" ∷ codes "run -V" ∷ codes "run --=5" ∷ []) ≡ true
unfolding settings is_utf8 chars encode_utf8 is_server name_test key_in decode_pairs number_in is_number
no_option = refl

-- no number: signs, letters, 21 digits
no_number : are_none (codes "run --now -5" ∷ codes "run --now +5" ∷ codes "run --now 5s" ∷ codes "run --now 0x5" ∷ codes "run --now 000000000000000000007" ∷ []) ≡ true
unfolding settings is_utf8 chars encode_utf8 is_server name_test key_in decode_pairs number_in is_number
no_number = refl

-- past a bound; the second is 5 modulo 2 to the 64th
past_a_bound : are_none (codes "run --now 9007199254740993" ∷ codes "run --now 18446744073709551621" ∷ codes "run --life 0" ∷ codes "run --life 1000000001" ∷ codes "run --area 0" ∷ codes "run --area 1099511627777" ∷ []) ≡ true
unfolding settings is_utf8 chars encode_utf8 is_server name_test key_in decode_pairs number_in is_number
past_a_bound = refl

-- a server has a lower-case letter in front, then lower-case letters and digits, at most 64 of both
no_server : are_none (codes "run --server" ∷ codes "run --server=" ∷ codes "run --server 1a" ∷ codes "run --server Fs1" ∷ codes "run --server fs_1" ∷ codes "run --server fs-1" ∷ (codes "run --server " ++ replicate 65 97) ∷ []) ≡ true
unfolding settings is_utf8 chars encode_utf8 is_server name_test key_in decode_pairs number_in is_number
no_server = refl

-- a key of two digits, of 63, and with a byte that is no digit
no_key : are_none (codes "run --key 00" ∷ (codes "run --key=" ++ replicate 63 48) ∷ (codes "run --key=" ++ replicate 63 48 ++ codes "g") ∷ []) ≡ true
unfolding settings is_utf8 chars encode_utf8 is_server name_test key_in decode_pairs number_in is_number
no_key = refl

-- words that are not UTF-8
no_text : are_none ((codes "run " ++ 255 ∷ []) ∷ (codes "run --server=" ++ 255 ∷ []) ∷ []) ≡ true
unfolding settings is_utf8 chars encode_utf8 is_server name_test key_in decode_pairs number_in is_number
no_text = refl
