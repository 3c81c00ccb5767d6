-- The links that wait for a copy, and the copy that each waits for: by what an engine has, and by the state of the machine.
use Rattle.std.specs.Prelude.{◌≡◌, ℕ, ◌+◌, ◌≤◌, ◌&&◌, Bool, false, not, if◌then◌else◌, List, [], ◌∷◌, is_none, Option, Some, None}
use Rattle.std.specs.FinMap as maps
use Rattle.std.specs.List.{find}
use Rattle.std.specs.Option.{option_map}
use Rattle.dl_base.specs.declared.value.LinkNo.{LinkNo}
use Rattle.dl_base.specs.declared.value.LinkRow.{LinkRow}
use Rattle.dl_codec.specs.declared.archive.FileCopy.{FileCopy}
use Rattle.fm_effects.specs.Copying.{copy_for}
use Rattle.fm_links.specs.Claims.{PathClaim}
use Rattle.meaning_areas.specs.Finishing.{file_copy}
use Rattle.meaning_settling.specs.Keyed.{is_at}
use Rattle.meaning_settling.specs.Settling.{link_key}
use Rattle.meaning_system.specs.Machine.{pending}
use Rattle.meaning_system.specs.State.{State, is_decided}
use Rattle.meaning_tables.specs.Links.{links}
use Rattle.sys_core.specs.Claiming.{tables_in}
use Rattle.sys_core.specs.Guarded.{claim_in}
use Rattle.sys_core.specs.Numbered.{of_number}
use Rattle.sys_core.specs.Seated.{phase_at}
use Rattle.sys_core.specs.Standing.{IsOf}
use Rattle.sys_core.specs.declared.engine.Engine.{Engine}
use Rattle.sys_seats.specs.Seats.{Seated, all_of, gives_of}

-- BY WHAT AN ENGINE HAS

-- a decided transaction claims the path: its Finish is still to settle what is there
abbrev pub settles_by : Seated → Option PathClaim → Bool
settles_by seats None = false
settles_by seats (Some c) = is_decided (phase_at (maps.get seats c.tx))

abbrev pub settles_in : Engine → List ℕ → Bool
settles_in w path = settles_by w.seats (claim_in w path)

-- a committed link waits for a copy
abbrev pub waits_in : Engine → LinkRow → Bool
waits_in w l = l.options.recovery && is_none (maps.get w.owners.manager.archive.copies (link_key l.link)) && not (settles_in w l.path)

-- the copy that is to be stored of one, if it waits for one and its file is there
abbrev pub copy_in : Engine → Option LinkRow → Option FileCopy
copy_in w None = None
copy_in w (Some l) = if settles_in w l.path then None else copy_for l (maps.get w.owners.manager.archive.copies (link_key l.link)) (maps.get w.owners.manager.files.files l.path)

-- that of the committed link of a number
abbrev pub awaited_in : Engine → LinkNo → Option FileCopy
awaited_in w n = copy_in w (find (of_number n) (links (tables_in w)))

-- BY THE STATE

-- the pending link of a number, and the copy of the file on its path
abbrev pub pending_link : State → LinkNo → Option LinkRow
pending_link s n = find (λ l. is_at (link_key n) (link_key l.link)) (pending s)

abbrev pub copy_at : State → Option LinkRow → Option FileCopy
copy_at s None = None
copy_at s (Some l) = option_map (file_copy l) (maps.get s.files l.path)

-- THE COPY THAT A LINK WAITS FOR
abbrev pub awaited : State → LinkNo → Option FileCopy
awaited s n = copy_at s (pending_link s n)

-- a copy that a link waits for can be stored: there is room for it beside what is voted for
pub record CanStore (first : ℕ) (w : Engine) (s : State) (n : LinkNo) (c : FileCopy) : Type 0 where
  pub state : IsOf first w s
  pub waits : awaited s n ≡ Some c
  pub room : all_of gives_of w.seats + 1 ≤ w.owners.manager.archive.spare

-- the first of some links
abbrev pub first_link : List LinkRow → Option LinkNo
first_link [] = None
first_link (l ∷ ls) = Some l.link
