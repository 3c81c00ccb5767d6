-- The options of a column under link control: the seven that it may have, and what a link forbids by them.
use Rattle.std.proofs.Common.{◌≡◌, true, false, Bool, List, [], ◌∷◌, map, flat_map, filter, length, refl}
use Rattle.dl_base.specs.declared.column.OnUnlink.{OnUnlink}
use Rattle.dl_base.specs.declared.column.OnUnlink.TheVariants as unlink
use Rattle.dl_base.specs.declared.column.Options.{Options}
use Rattle.dl_base.specs.declared.column.ReadBy.{ReadBy}
use Rattle.dl_base.specs.declared.column.ReadBy.TheVariants as read
use Rattle.dl_base.specs.declared.column.WriteBy.{WriteBy}
use Rattle.dl_base.specs.declared.column.WriteBy.TheVariants as write
use Rattle.meaning_tables.specs.OptionRows.{is_option_row, forbids_kind}
use Rattle.meaning_tables.specs.declared.option_rows.CommandKind.{CommandKind}
use Rattle.meaning_tables.specs.declared.option_rows.CommandKind.TheVariants as kinds

abbrev options : ReadBy → WriteBy → Bool → OnUnlink → Options
options r w recovery u = record { read = r; write = w; recovery = recovery; unlink = u }

-- each combination of READ PERMISSION, WRITE PERMISSION, RECOVERY and ON UNLINK
abbrev combinations : List Options
combinations = flat_map (λ (r : ReadBy). flat_map (λ (w : WriteBy). flat_map (λ (recovery : Bool). map (λ (u : OnUnlink). options r w recovery u) (unlink.Nothing ∷ unlink.Restore ∷ unlink.Delete ∷ [])) (false ∷ true ∷ [])) (write.Fs ∷ write.Blocked ∷ write.Admin ∷ [])) (read.Fs ∷ read.Db ∷ [])

number_of_combinations : length combinations ≡ 36
number_of_combinations = refl

-- these seven are rows, and none of the other 29
the_seven_rows : filter is_option_row combinations
    ≡ options read.Fs write.Fs false unlink.Nothing
    ∷ options read.Fs write.Blocked false unlink.Restore
    ∷ options read.Fs write.Blocked true unlink.Restore
    ∷ options read.Db write.Blocked false unlink.Restore
    ∷ options read.Db write.Blocked false unlink.Delete
    ∷ options read.Db write.Blocked true unlink.Restore
    ∷ options read.Db write.Blocked true unlink.Delete
    ∷ []
the_seven_rows = refl

abbrev commands : List CommandKind
commands = kinds.Rename ∷ kinds.Delete ∷ kinds.Write ∷ kinds.Chmod ∷ kinds.Read ∷ []

-- the first row forbids to rename and to delete; a row of READ PERMISSION DB and WRITE PERMISSION BLOCKED forbids all; one of READ
-- PERMISSION FS and WRITE PERMISSION BLOCKED lets reads pass
first_row : map (forbids_kind (options read.Fs write.Fs false unlink.Nothing)) commands ≡ true ∷ true ∷ false ∷ false ∷ false ∷ []
first_row = refl

second_row : map (forbids_kind (options read.Fs write.Blocked false unlink.Restore)) commands ≡ true ∷ true ∷ true ∷ true ∷ false ∷ []
second_row = refl

last_row : map (forbids_kind (options read.Db write.Blocked true unlink.Delete)) commands ≡ true ∷ true ∷ true ∷ true ∷ true ∷ []
last_row = refl
