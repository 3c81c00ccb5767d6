-- What a transaction does at each of its paths.
use Rattle.std.specs.Prelude.{ℕ, List, map, Option, Some, None, unwrap_or}
use Rattle.std.specs.Option.{option_map, option_or}
use Rattle.dl_base.specs.declared.value.LinkRow.{LinkRow}
use Rattle.fm_effects.specs.declared.sites.Site.{Site}
use Rattle.fm_effects.specs.declared.sites.Take.{Take}
use Rattle.meaning_areas.specs.Finishing.{sorted_paths}
use Rattle.meaning_settling.specs.Settling.{Moved, on}

abbrev pub take_in : LinkRow → Take
take_in l = record { link = l.link; options = l.options }

-- one more link, of which the first counts

abbrev pub with_give : LinkRow → Site → Site
with_give l s = record { give = Some (unwrap_or s.give l.options.unlink); take = s.take }

abbrev pub with_take : LinkRow → Site → Site
with_take l s = record { give = s.give; take = option_or s.take (Some (take_in l)) }

abbrev pub site_or : Option Site → Site
site_or None = record { give = None; take = None }
site_or (Some s) = s

abbrev pub given_of : Option LinkRow → Option Site → Option Site
given_of None o = o
given_of (Some l) o = Some (with_give l (site_or o))

abbrev pub taken_of : Option LinkRow → Option Site → Option Site
taken_of None o = o
taken_of (Some l) o = Some (with_take l (site_or o))

-- what is done at a path, if anything is
abbrev pub site_at : List LinkRow → List LinkRow → List ℕ → Option Site
site_at gives takes path = taken_of (on takes path) (given_of (on gives path) None)

-- the first link that is given, and the first that is taken, on a path
abbrev pub site : Moved → List ℕ → Site
site m path = record { give = option_map (λ l. l.options.unlink) (on m.gives path); take = option_map take_in (on m.takes path) }

-- each path once, in the order of their bytes, and what is done there
abbrev pub sites : Moved → List (List ℕ × Site)
sites m = map (λ p. (p, site m p)) (sorted_paths m)
