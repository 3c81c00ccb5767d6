-- Names of sessions, by their length.
use Rattle.std.proofs.Common.{◌≡◌, true, false, replicate, refl}
use Rattle.dl_base.specs.Name.{name_test}
use Rattle.fs_command.specs.Commands.{is_session}

session_of_16_bytes : is_session (replicate 16 97) ≡ true
unfolding is_session name_test
session_of_16_bytes = refl

session_of_17_bytes : is_session (replicate 17 97) ≡ false
unfolding is_session name_test
session_of_17_bytes = refl
