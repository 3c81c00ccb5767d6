-- The numbers of the refusals of a datalink.
use Rattle.std.specs.Prelude.{ℕ}
use Rattle.dl_base.specs.declared.sql_fault.BadLink.{BadLink}
use Rattle.dl_base.specs.declared.sql_fault.BadLink.TheVariants as bad

-- from 1, in the order in which they are tested
abbrev pub bad_link_number : BadLink → ℕ
bad_link_number bad.NotUrl = 1
bad_link_number bad.Scheme = 2
bad_link_number bad.Host = 3
bad_link_number bad.Extra = 4
bad_link_number bad.Path = 5
bad_link_number bad.LinkType = 6
bad_link_number bad.Comment = 7
