-- Archived copies in memory: one a link, in any order, and what they are seen as.
use Rattle.std.specs.Prelude.{◌≡◌, ◌&&◌, ℕ, Bool, bytes_eq, List, IfSome, filter, is_none, map, nat_eq, refl}
use Rattle.std.specs.Coded.{Coded, code_by, coded×, coded_list, coded_ℕ}
use Rattle.std.specs.Cmp.Lexicographic.{slice_cmp}
use Rattle.std.specs.FinMap as maps
use Rattle.std.specs.Map.{lookup}
use Rattle.std.specs.Ordering.{nat_cmp}
use Rattle.dl_base.specs.declared.value.LinkNo.{LinkNo}
use Rattle.dl_base.specs.declared.value.LinkRow.{LinkRow}
use Rattle.dl_codec.specs.declared.archive.FileCopy.{FileCopy}
use Rattle.fm_archive.specs.declared.copies.Key.{Key}
use Rattle.meaning_areas.specs.Copies.{copy_of}
use Rattle.meaning_files.specs.Files.{owner_code}
use Rattle.meaning_settling.specs.Settling.{Copies, Copy, link_key}
use Rattle.sha2.specs.Sha256.{sha256}

abbrev pub copy_code : Coded Copy
copy_code = code_by _ (coded× owner_code (coded_list coded_ℕ)) (λ c. (c.owner, c.bytes)) (λ p. record { owner = p.0; bytes = p.1 }) (λ _. refl)

abbrev pub copies_code : Coded Copies
copies_code = maps.code (coded_list coded_ℕ) copy_code

-- the copies, and for how many more there is room
pub record Shelf : Type 0 where
  pub copies : Copies
  pub spare : ℕ

abbrev pub shelf_code : Coded Shelf
shelf_code = code_by (Copies × ℕ) (coded× copies_code coded_ℕ) (λ s. (s.copies, s.spare)) (λ p. record { copies = p.0; spare = p.1 }) (λ _. refl)

-- the copy of a link as it stands in a record: with the digest of its bytes
abbrev pub file_copy : LinkNo → Copy → FileCopy
file_copy link c = record { link = link; owner = c.owner; digest = sha256 c.bytes; bytes = c.bytes }

-- a link number as a key
abbrev pub key_of : LinkNo → Key
key_of link = record { tx = link.tx; k = link.k }

abbrev pub link_of : Key → LinkNo
link_of key = record { tx = key.tx; k = key.k }

abbrev pub code : Key → List ℕ
code key = link_key (link_of key)

-- one and the same key
abbrev pub same : Key → Key → Bool
same a b = nat_eq a.tx b.tx && nat_eq a.k b.k

-- entries as those of a map of copies
abbrev pub entries_of : List (Key × FileCopy) → List (List ℕ × Copy)
entries_of es = map (λ e. (code e.0, copy_of e.1)) es

abbrev pub copies_in : List (Key × FileCopy) → Copies
copies_in es = maps.from_entries {R = slice_cmp nat_cmp} (entries_of es)

-- what is found under a key has the link that is this key, and the digest of its bytes
abbrev pub AreFiled : List (Key × FileCopy) → Type 0
AreFiled es = (key : Key) → IfSome (lookup (same key) es) (λ c. c ≡ file_copy (link_of key) (copy_of c))

-- the fold takes a copy: its link has none, and its digest is that of its bytes
abbrev pub can_take : Copies → FileCopy → Bool
can_take copies c = is_none (maps.get copies (link_key c.link)) && bytes_eq c.digest (sha256 c.bytes)

-- THE LINKS THAT WAIT for a copy: those with RECOVERY YES that have none, in their order
abbrev pub is_pending : Copies → LinkRow → Bool
is_pending copies l = l.options.recovery && is_none (maps.get copies (link_key l.link))

abbrev pub pending : Copies → List LinkRow → List LinkNo
pending copies links = map (λ l. l.link) (filter (is_pending copies) links)
