-- What one area of a bench in memory has after some events.
use Rattle.std.specs.Prelude.{ℕ, List, length, cond, nat_le}
use Rattle.dl_base.specs.declared.area.Area.{Area}
use Rattle.dl_base.specs.Areas.{is_area}
use Rattle.dl_base.specs.Outside.{replaced}
use Rattle.dl_bench.specs.declared.event.Event.{Event}
use Rattle.dl_bench.specs.declared.event.Event.TheVariants.{Put, Write, Sync, Say}
use Rattle.dl_bench.specs.declared.event.Pick.{Pick}
use Rattle.dl_bench.specs.declared.event.Pick.TheVariants as picks
use Rattle.dl_bench.specs.declared.space.Space.{Space}
use Rattle.dl_bench.specs.Replay.{State, inverted}

-- as written, as at the last sync, and as written with each byte inverted since then
pub record Content : Type 0 where
  pub kept : List ℕ
  pub lost : List ℕ
  pub torn : List ℕ

abbrev pub content_at : State → Area → Content
content_at s a = record { kept = s.kept a; lost = s.lost a; torn = s.torn a }

abbrev pub content_of : Space → Content
content_of s = record { kept = s.kept.items; lost = s.lost.items; torn = s.torn.items }

abbrev pub all_synced : List ℕ → Content
all_synced bytes = record { kept = bytes; lost = bytes; torn = bytes }

abbrev pub rewritten : ℕ → List ℕ → Content → Content
rewritten at bytes c = record { kept = replaced at bytes c.kept; lost = c.lost; torn = replaced at (inverted bytes) c.torn }

-- the content of area a after one more event
abbrev pub content_step : Area → Event → Content → Content
content_step a (Put b bytes) c = cond (is_area b a) (all_synced bytes) c
content_step a (Write b at bytes) c = cond (is_area b a) (cond (nat_le at (length c.kept)) (rewritten at bytes c) c) c
content_step a (Sync b) c = cond (is_area b a) (all_synced c.kept) c
content_step a (Say bytes) c = c

abbrev pub content_picked : Pick → Content → List ℕ
content_picked picks.Kept c = c.kept
content_picked picks.Lost c = c.lost
content_picked picks.Torn c = c.torn
