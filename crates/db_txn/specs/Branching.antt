-- Whether a transaction has a branch.
use Rattle.std.specs.Prelude.{Bool, false}
use Rattle.meaning_system.specs.State.{has_links}
use Rattle.meaning_tables.specs.Links.{gives, takes}
use Rattle.meaning_tables.specs.Tables.{Tables}

-- it gives or takes a link
abbrev pub has_branch : Tables → Tables → Bool
has_branch base copy = has_links (record { gives = gives base copy; takes = takes base copy; fill = false })
