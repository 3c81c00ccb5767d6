-- Texts of a user behind `@USER`, and what each asks of the files, or the place of its first bad word, from 1.
use Rattle.std.proofs.Common.{◌≡◌, ℕ, true, false, List, [], ◌∷◌, ◌++◌, map, replicate, codes, Some, None, Result, Ok, Err, refl}
use Rattle.hex.specs.Hex.{decode_pairs}
use Rattle.dl_base.specs.Name.{name_test}
use Rattle.dl_base.specs.Path.{path_test}
use Rattle.dl_base.specs.declared.file.FileWhat.{FileWhat}
use Rattle.dl_base.specs.declared.file.FileWhat.TheVariants as whats
use Rattle.dl_base.specs.declared.file.Token.{Token}
use Rattle.dl_token.specs.Tokens.{begins_with_token, read_token}
use Rattle.fs_command.specs.Commands.{command, create, write, delete, rename, chmod, read, list, is_command_path, is_session}
use Rattle.fs_command.specs.declared.line.FileLine.{FileLine}
use Rattle.fs_command.specs.declared.line.FileLine.TheVariants as lines

abbrev ann : List ℕ
ann = codes "ann"

-- what ann's texts ask
abbrev of_texts : List (List ℕ) → List (Result FileLine ℕ)
of_texts texts = map (command ann) texts

abbrev asks : FileWhat → Result FileLine ℕ
asks what = Ok (lines.Command (record { user = ann; what = what }))

abbrev of_session : List ℕ → Result FileLine ℕ
of_session name = Ok (lines.ReadOf ann name)

abbrev bad : ℕ → Result FileLine ℕ
bad place = Err place

-- ---- commands

-- all that follows the one space behind the path is the content, spaces and other bytes too
created : of_texts (codes "create /a" ∷ codes "create /a " ∷ codes "create /a one" ∷ codes "create /a  two words " ∷ (codes "  create   /a x" ++ 0 ∷ 255 ∷ 9 ∷ []) ∷ codes "create /list list" ∷ [])
    ≡ asks (whats.Create (codes "/a") [])
    ∷ asks (whats.Create (codes "/a") [])
    ∷ asks (whats.Create (codes "/a") (codes "one"))
    ∷ asks (whats.Create (codes "/a") (codes " two words "))
    ∷ asks (whats.Create (codes "/a") (codes "x" ++ 0 ∷ 255 ∷ 9 ∷ []))
    ∷ asks (whats.Create (codes "/list") (codes "list"))
    ∷ []
unfolding command create is_command_path path_test begins_with_token
created = refl

written : of_texts (codes "write /a/b one" ∷ codes "write /a  " ∷ []) ≡ asks (whats.Write (codes "/a/b") (codes "one")) ∷ asks (whats.Write (codes "/a") (codes " ")) ∷ []
unfolding command write is_command_path path_test begins_with_token
written = refl

-- of the other commands spaces in front, between words and behind are nothing
deleted : of_texts (codes "delete /a" ∷ codes "delete  /a  " ∷ []) ≡ asks (whats.Delete (codes "/a")) ∷ asks (whats.Delete (codes "/a")) ∷ []
unfolding command delete is_command_path path_test begins_with_token
deleted = refl

renamed : of_texts (codes "rename /a /b" ∷ codes " rename  /a   /a " ∷ []) ≡ asks (whats.Rename (codes "/a") (codes "/b")) ∷ asks (whats.Rename (codes "/a") (codes "/a")) ∷ []
unfolding command rename is_command_path path_test begins_with_token
renamed = refl

flag_changed : of_texts (codes "chmod /a on" ∷ codes "chmod /a  off  " ∷ codes "chmod /on on" ∷ []) ≡ asks (whats.Chmod (codes "/a") true) ∷ asks (whats.Chmod (codes "/a") false) ∷ asks (whats.Chmod (codes "/on") true) ∷ []
unfolding command chmod is_command_path path_test begins_with_token
flag_changed = refl

listed : of_texts (codes "list" ∷ codes "  list  " ∷ []) ≡ asks whats.List ∷ asks whats.List ∷ []
unfolding command list
listed = refl

read_without_a_token : of_texts (codes "read /a" ∷ codes "read  /a~!;$  " ∷ codes "read /$A" ∷ []) ≡ asks (whats.Read (codes "/a") None) ∷ asks (whats.Read (codes "/a~!;$") None) ∷ asks (whats.Read (codes "/$A") None) ∷ []
unfolding command read is_session name_test path_test read_token begins_with_token
read_without_a_token = refl

-- what a session was answered: a name of at most 16 bytes, which may be dlfm
read_of_a_session : of_texts (codes "read $A" ∷ codes "read $Ab_3456789012345 " ∷ codes "read $dlfm" ∷ []) ≡ of_session (codes "A") ∷ of_session (codes "Ab_3456789012345") ∷ of_session (codes "dlfm") ∷ []
unfolding command read is_session name_test
read_of_a_session = refl

-- ---- tokens

abbrev token : ℕ → ℕ → Token
token expiry byte = record { expiry = expiry; mac = replicate 16 byte }

read_with_a_token : of_texts (codes "read /7.abababababababababababababababab;a" ∷ codes "read  /d/18446744073709551615.00000000000000000000000000000000;a;b " ∷ [])
    ≡ asks (whats.Read (codes "/a") (Some (token 7 0xab)))
    ∷ asks (whats.Read (codes "/d/a;b") (Some (token 18446744073709551615 0)))
    ∷ []
unfolding command read is_session path_test read_token begins_with_token decode_pairs
read_with_a_token = refl

-- names that only look like one: nothing behind the semicolon, a zero in front of the expiry
read_of_no_token : of_texts (codes "read /7.abababababababababababababababab;" ∷ codes "read /07.abababababababababababababababab;a" ∷ [])
    ≡ asks (whats.Read (codes "/7.abababababababababababababababab;") None)
    ∷ asks (whats.Read (codes "/07.abababababababababababababababab;a") None)
    ∷ []
unfolding command read is_session path_test read_token begins_with_token
read_of_no_token = refl

-- a path may be of the token form but in its last name
created_beside_the_form : of_texts (codes "create /07.abababababababababababababababab;a x" ∷ codes "create /7.abababababababababababababababab;a/b x" ∷ [])
    ≡ asks (whats.Create (codes "/07.abababababababababababababababab;a") (codes "x"))
    ∷ asks (whats.Create (codes "/7.abababababababababababababababab;a/b") (codes "x"))
    ∷ []
unfolding command create is_command_path path_test begins_with_token
created_beside_the_form = refl

-- ---- bad words

-- no command: no word, no such verb, and a verb that ends with a tab
no_verb : of_texts ([] ∷ codes "  " ∷ codes "creat /a" ∷ codes " creat /a" ∷ codes "Create /a" ∷ codes "created /a" ∷ codes "create/a" ∷ (codes "create" ++ 9 ∷ codes "/a") ∷ [])
    ≡ bad 1 ∷ bad 3 ∷ bad 1 ∷ bad 2 ∷ bad 1 ∷ bad 1 ∷ bad 1 ∷ bad 1 ∷ []
unfolding command
no_verb = refl

-- a path that is missing, and texts that are none: without a slash in front, with one at the end, with a byte that is not visible ASCII
bad_creates : of_texts (codes "create" ∷ codes "create  " ∷ codes "create a" ∷ codes "create /" ∷ codes "create /a/ one" ∷ (codes "  create   /a" ++ 9 ∷ codes "b x" ++ 0 ∷ 255 ∷ []) ∷ (codes "create /a" ++ 1 ∷ codes " one") ∷ (codes "create /a" ++ 127 ∷ codes " one") ∷ (codes "create /a" ++ 195 ∷ 169 ∷ codes " one") ∷ [])
    ≡ bad 7 ∷ bad 9 ∷ bad 8 ∷ bad 8 ∷ bad 8 ∷ bad 12 ∷ bad 8 ∷ bad 8 ∷ bad 8 ∷ []
unfolding command create is_command_path path_test begins_with_token
bad_creates = refl

bad_writes : of_texts (codes "write" ∷ codes "write  a b" ∷ []) ≡ bad 6 ∷ bad 8 ∷ []
unfolding command write is_command_path path_test begins_with_token
bad_writes = refl

bad_deletes : of_texts (codes "delete" ∷ codes "delete $A" ∷ codes "delete /a /b" ∷ []) ≡ bad 7 ∷ bad 8 ∷ bad 11 ∷ []
unfolding command delete is_command_path path_test begins_with_token
bad_deletes = refl

bad_renames : of_texts (codes "rename" ∷ codes "rename /a" ∷ codes "rename /a " ∷ codes "rename a b" ∷ codes "rename /a b" ∷ codes "rename /a  /b  c" ∷ []) ≡ bad 7 ∷ bad 10 ∷ bad 11 ∷ bad 8 ∷ bad 11 ∷ bad 16 ∷ []
unfolding command rename is_command_path path_test begins_with_token
bad_renames = refl

bad_flags : of_texts (codes "chmod" ∷ codes "chmod on" ∷ codes "chmod /a" ∷ codes "chmod /a maybe" ∷ codes "chmod /a On" ∷ codes "chmod /a on off" ∷ []) ≡ bad 6 ∷ bad 7 ∷ bad 9 ∷ bad 10 ∷ bad 10 ∷ bad 13 ∷ []
unfolding command chmod is_command_path path_test begins_with_token
bad_flags = refl

-- the last: a name of 17 bytes
bad_reads : of_texts (codes "read" ∷ codes "read $" ∷ codes "read $1x" ∷ codes "read $ A" ∷ codes "read /a /b" ∷ codes "read $Ab_34567890123456" ∷ []) ≡ bad 5 ∷ bad 6 ∷ bad 6 ∷ bad 6 ∷ bad 9 ∷ bad 6 ∷ []
unfolding command read is_session name_test path_test read_token begins_with_token
bad_reads = refl

bad_list : of_texts (codes "list x" ∷ []) ≡ bad 6 ∷ []
unfolding command list
bad_list = refl

-- a word behind a path with a token, and a token where there is no path
bad_tokens : of_texts (codes "read /7.abababababababababababababababab;a x" ∷ codes "read 7.abababababababababababababababab;a" ∷ []) ≡ bad 44 ∷ bad 6 ∷ []
unfolding command read is_session path_test read_token begins_with_token decode_pairs
bad_tokens = refl

-- no command but read takes a path with a token
token_in_a_command : of_texts (
    codes "create /7.abababababababababababababababab;a x"
    ∷ codes "write /7.abababababababababababababababab;a x"
    ∷ codes "delete /7.abababababababababababababababab;a"
    ∷ codes "rename /7.abababababababababababababababab;a /b"
    ∷ codes "rename /b /7.abababababababababababababababab;a"
    ∷ codes "chmod /7.abababababababababababababababab;a on"
    ∷ []
    ) ≡ bad 8 ∷ bad 7 ∷ bad 8 ∷ bad 8 ∷ bad 11 ∷ bad 7 ∷ []
unfolding command create write delete rename chmod is_command_path path_test begins_with_token
token_in_a_command = refl

-- ---- a path of 1,024 bytes, and one of a byte more; with a token in front of its last name a text may be longer

longest_path : of_texts ((codes "delete /" ++ replicate 1023 97) ∷ (codes "delete /" ++ replicate 1024 97) ∷ []) ≡ asks (whats.Delete (47 ∷ replicate 1023 97)) ∷ bad 8 ∷ []
unfolding command delete is_command_path path_test begins_with_token
longest_path = refl

longest_path_read : of_texts ((codes "read /" ++ replicate 1023 97) ∷ (codes "read /" ++ replicate 1024 97) ∷ []) ≡ asks (whats.Read (47 ∷ replicate 1023 97) None) ∷ bad 6 ∷ []
unfolding command read is_session path_test read_token begins_with_token
longest_path_read = refl

longest_path_with_a_token : of_texts ((codes "read /7.abababababababababababababababab;" ++ replicate 1023 97) ∷ (codes "read /7.abababababababababababababababab;" ++ replicate 1024 97) ∷ [])
    ≡ asks (whats.Read (47 ∷ replicate 1023 97) (Some (token 7 0xab)))
    ∷ bad 6
    ∷ []
unfolding command read is_session path_test read_token begins_with_token decode_pairs
longest_path_with_a_token = refl
