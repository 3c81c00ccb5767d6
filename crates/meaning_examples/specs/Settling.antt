-- Settling: what becomes of files, of archived copies and of held links when a transaction that gives and takes links ends.
use Rattle.std.specs.Prelude.{ℕ, Bool, false, ◌&&◌, if◌then◌else◌, List, [], ◌∷◌, ◌++◌, map, codes, Option, Some, None}
use Rattle.meaning_examples.specs.Maps as maps
use Rattle.std.specs.List.{find}
use Rattle.dl_base.specs.declared.column.OnUnlink.{OnUnlink}
use Rattle.dl_base.specs.declared.column.OnUnlink.TheVariants as unlink
use Rattle.dl_base.specs.declared.column.ReadBy.{ReadBy}
use Rattle.dl_base.specs.declared.column.ReadBy.TheVariants as read
use Rattle.dl_base.specs.declared.column.WriteBy.{WriteBy}
use Rattle.dl_base.specs.declared.column.WriteBy.TheVariants as write
use Rattle.dl_base.specs.declared.file.File.{File}
use Rattle.dl_base.specs.declared.file.Owner.{Owner}
use Rattle.dl_base.specs.declared.value.LinkNo.{LinkNo}
use Rattle.dl_base.specs.declared.value.LinkRow.{LinkRow}
use Rattle.meaning_examples.specs.UserFiles.{Files}
use Rattle.meaning_examples.specs.Keyed.{Keyed, is_at, over}

-- An archived copy.
pub record Copy : Type 0 where
  pub owner : Owner
  pub bytes : List ℕ

-- copies by the numbers of their links, in the order of these
abbrev pub Copies : Type 0
Copies = Keyed Copy

abbrev pub link_key : LinkNo → List ℕ
link_key link = link.tx ∷ link.k ∷ []

-- What a transaction moves: the links that it gives and takes, and whether takes with RECOVERY YES are filled from the archive.
pub record Moved : Type 0 where
  pub gives : List LinkRow
  pub takes : List LinkRow
  pub fill : Bool

-- What settling changes: files, copies, and the links that are held, by their paths.
pub record Kept : Type 0 where
  pub files : Files
  pub copies : Copies
  pub held : Keyed LinkRow

-- the first of some links on a path, and of a number
abbrev pub on : List LinkRow → List ℕ → Option LinkRow
on links path = find (λ l. is_at path l.path) links

abbrev pub numbered : List LinkRow → List ℕ → Option LinkRow
numbered links key = find (λ l. is_at key (link_key l.link)) links

-- the owner that a file had before it was linked
abbrev pub original_of : Option Owner → Owner → Owner
original_of (Some before) owner = before
original_of None owner = owner

abbrev pub original : File → Owner
original f = original_of f.before f.owner

-- effects on one file

abbrev pub restored : Option File → Option File
restored (Some f) = Some (record { owner = original f; bytes = f.bytes; before = None })
restored None = None

abbrev pub given_back : OnUnlink → Option File → Option File
given_back unlink.Nothing f = f
given_back unlink.Restore f = restored f
given_back unlink.Delete f = None

-- the owner of a file under a link
abbrev pub link_owner : ReadBy → Owner → Owner
link_owner read.Db before = record { name = codes "dlfm"; writable = false }
link_owner read.Fs before = record { name = before.name; writable = false }

abbrev pub blocked : ReadBy → Option File → Option File
blocked r (Some f) = Some (record { owner = link_owner r (original f); bytes = f.bytes; before = Some (original f) })
blocked r None = None

abbrev pub taken_over : WriteBy → ReadBy → Option File → Option File
taken_over write.Fs r f = restored f
taken_over write.Blocked r f = blocked r f
taken_over write.Admin r f = blocked r f

abbrev pub filled : Option Copy → Option File → Option File
filled None f = f
filled (Some c) (Some f) = Some (record { owner = f.owner; bytes = c.bytes; before = f.before })
filled (Some c) None = Some (record { owner = c.owner; bytes = c.bytes; before = None })

-- what a link that is taken, or else one that is given, makes of the file on its path
abbrev pub by_take : Bool → Copies → LinkRow → Option File → Option File
by_take fill copies t f = taken_over t.options.write t.options.read (if fill && t.options.recovery then filled (maps.get copies (link_key t.link)) f else f)

abbrev pub by_links : Bool → Copies → Option LinkRow → Option LinkRow → Option File → Option File
by_links fill copies give (Some t) f = by_take fill copies t f
by_links fill copies (Some g) None f = given_back g.options.unlink f
by_links fill copies None None f = f

abbrev pub file_after : Moved → Copies → List ℕ → Option File → Option File
file_after m copies path f = by_links m.fill copies (on m.gives path) (on m.takes path) f

-- a link with RECOVERY YES that is given is archived first, unless it has a copy
abbrev pub copy_of : File → Copy
copy_of f = record { owner = original f; bytes = f.bytes }

abbrev pub first_copy : Option Copy → Option File → Option Copy
first_copy (Some c) f = Some c
first_copy None (Some f) = Some (copy_of f)
first_copy None None = None

abbrev pub by_give : Files → Option LinkRow → Option Copy → Option Copy
by_give files None c = c
by_give files (Some g) c = if g.options.recovery then first_copy c (maps.get files g.path) else c

abbrev pub copy_after : Moved → Files → List ℕ → Option Copy → Option Copy
copy_after m files key c = by_give files (numbered m.gives key) c

-- the link that is held on a path
abbrev pub held_by : Option LinkRow → Option LinkRow → Option LinkRow → Option LinkRow
held_by give (Some t) was = Some t
held_by (Some g) None was = None
held_by None None was = was

abbrev pub held_after : Moved → List ℕ → Option LinkRow → Option LinkRow
held_after m path was = held_by (on m.gives path) (on m.takes path) was

-- settling one transaction: first the copies, then the files and the held links

abbrev pub paths_of : Moved → List (List ℕ)
paths_of m = map (λ l. l.path) m.gives ++ map (λ l. l.path) m.takes

abbrev pub keys_of : Moved → List (List ℕ)
keys_of m = map (λ l. link_key l.link) m.gives ++ map (λ l. link_key l.link) m.takes

abbrev pub copies_after : Moved → Kept → Copies
copies_after m k = over (map (λ l. link_key l.link) m.gives) (copy_after m k.files) k.copies

unfoldable pub settle_one : Moved → Kept → Kept
settle_one m k = record {
  files = over (paths_of m) (file_after m (copies_after m k)) k.files;
  copies = copies_after m k;
  held = over (paths_of m) (held_after m) k.held;
}
