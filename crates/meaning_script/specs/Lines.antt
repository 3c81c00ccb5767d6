-- What a line of a script is read as. The lines of a script are those of std's `lines`.
use Rattle.std.specs.Prelude.{ℕ, Bool, ◌&&◌, ◌||◌, not, ◌==◌, nat_le, List, length, codes}
use Rattle.std.specs.Cmp.Lexicographic.{pointwise}
use Rattle.std.specs.List.{list_all, starts_with}
use Rattle.dl_base.specs.Blank.{is_blank}
use Rattle.dl_base.specs.Limits.{most_actor_name_bytes}
use Rattle.dl_base.specs.Name.{name_test}

-- a line that is answered nothing: blanks alone, or a comment, which begins with two dashes
unfoldable pub is_quiet : List ℕ → Bool
is_quiet line = list_all is_blank line || starts_with ◌==◌ line (codes "--")

-- a user: a name that is not too long, and not the file manager's own
unfoldable pub is_user : List ℕ → Bool
is_user name = name_test name && nat_le (length name) most_actor_name_bytes && not (pointwise ◌==◌ name (codes "dlfm"))
