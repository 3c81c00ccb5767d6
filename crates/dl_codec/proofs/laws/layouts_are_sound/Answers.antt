use Rattle.dl_codec.proofs.Sound.{u32_sound, u64_sound, i64_sound, bool_sound, text_sound, path_sound, name_sound}
use Rattle.dl_codec.proofs.FilesSound.{owner_sound, file_row_sound, file_change_sound, files_record_sound}
use Rattle.dl_codec.proofs.laws.layouts_are_sound.Goals as goal

pub returns-clause-u32 : goal.returns-clause-u32
returns-clause-u32 c = u32_sound

pub returns-clause-u64 : goal.returns-clause-u64
returns-clause-u64 c = u64_sound

pub returns-clause-i64 : goal.returns-clause-i64
returns-clause-i64 c = i64_sound

pub returns-clause-bool : goal.returns-clause-bool
returns-clause-bool c = bool_sound

pub returns-clause-text : goal.returns-clause-text
returns-clause-text c = text_sound

pub returns-clause-path : goal.returns-clause-path
returns-clause-path c = path_sound

pub returns-clause-name : goal.returns-clause-name
returns-clause-name c = name_sound

pub returns-clause-owner : goal.returns-clause-owner
returns-clause-owner c = owner_sound

pub returns-clause-file_row : goal.returns-clause-file_row
returns-clause-file_row c = file_row_sound

pub returns-clause-file_change : goal.returns-clause-file_change
returns-clause-file_change c = file_change_sound

pub returns-clause-files_record : goal.returns-clause-files_record
returns-clause-files_record c = files_record_sound
