-- A loop that stores copies, one after another.
use Rattle.std.proofs.Common.{◌≡◌, ◌+◌, ◌≤◌, List, [], ◌∷◌, ◌++◌, length, Option, Some, None, is_some, true, refl, sym, ◌∙◌, ap, subst, arith, append_assoc, length-append}
use Rattle.std.specs.FinMap as maps
use Rattle.dl_areas.specs.Lists.{Write}
use Rattle.dl_base.specs.Outside.{Outside}
use Rattle.dl_base.specs.declared.fault.AppendFault.{AppendFault}
use Rattle.dl_codec.specs.declared.archive.ArchiveRecord.TheVariants as archive_records
use Rattle.dl_codec.specs.declared.archive.FileCopy.{FileCopy}
use Rattle.fm_archive.specs.Stock.{Stock}
use Rattle.fm_branch.specs.Linked.{Linked}
use Rattle.fs_files.specs.Store.{Catalog}
use Rattle.meaning_areas.specs.Copies.{copies_on, copies_step}
use Rattle.meaning_areas.specs.Lists.{Written, in_archive}
use Rattle.meaning_settling.specs.Settling.{Copies, Copy, link_key}
use Rattle.fm_manager.proofs.Folding.{archive-taken, archive-to, taken-rest, to-then, writes-append}
use Rattle.fm_manager.specs.Managed.{AreOpen, FoldsTo, IsTakenBy, Managed, Manages, as_writes}
use Rattle.fm_manager.specs.Pieces.{copies_written}

-- the three as the loop has them
abbrev pub managed : Linked → Catalog → Stock → Managed
managed l f a = record { links = l; files = f; archive = a }

-- the copies that are not left are stored
pub record Storing (m n : Managed) (all left : List FileCopy) (o e : Outside) : Type 0 where
  pub done : List FileCopy
  pub parts : done ++ left ≡ all
  pub same : n ≡ record m { archive = n.archive }
  pub folds : FoldsTo m n (copies_written done)
  pub manages : Manages m n (as_writes (copies_written done)) None o e
  pub ready : AreOpen n e
  pub spare : m.archive.spare ≤ n.archive.spare + length done
  pub room : length left ≤ n.archive.spare

written-append : (xs ys : List FileCopy) → copies_written (xs ++ ys) ≡ copies_written xs ++ copies_written ys
written-append [] ys = refl
written-append (x ∷ xs) ys = ap (λ (ws : List Written). in_archive (archive_records.Copy x) ∷ ws) (written-append xs ys)

pub storing-first : (m : Managed) (all : List FileCopy) (o : Outside) → Manages m m [] None o o → AreOpen m o → length all ≤ m.archive.spare → Storing m m all all o o
storing-first m all o none ready room = record {
  done = [];
  parts = refl;
  same = refl;
  folds = λ rows backups. refl;
  manages = none;
  ready = ready;
  spare = omega (arith);
  room = room;
}

-- a link whose copy is taken has none
no-copy : (copies : Copies) (c : FileCopy) (x : Option Copy) → is_some (copies_on copies c x) ≡ true → x ≡ None
no-copy copies c None e = refl
no-copy copies c (Some earlier) e = absurd cc

pub copy-new : (m : Managed) (c : FileCopy) (xs : List Written) → IsTakenBy m (in_archive (archive_records.Copy c) ∷ xs) → maps.get m.archive.copies (link_key c.link) ≡ None
copy-new m c xs taken = no-copy m.archive.copies c (maps.get m.archive.copies (link_key c.link)) (archive-taken m (archive_records.Copy c) xs taken)

module _ (m n : Managed) (all left : List FileCopy) (o e : Outside) (s : Storing m n all left o e) where
  pub storing-taken : IsTakenBy m (copies_written all) → IsTakenBy n (copies_written left)
  storing-taken taken =
      taken-rest m n n (copies_written s.done) (copies_written left)
      (subst (λ (xs : List Written). IsTakenBy m xs) (ap copies_written (sym s.parts) ∙ written-append s.done left) taken) s.folds

  pub storing-new : IsTakenBy m (copies_written all) → (c : FileCopy) (later : List FileCopy) → left ≡ c ∷ later → maps.get n.archive.copies (link_key c.link) ≡ None
  storing-new taken c later is =
      copy-new n c (copies_written later) (subst (λ (xs : List FileCopy). IsTakenBy n (copies_written xs)) is (storing-taken taken))

  module _ (c : FileCopy) (later : List FileCopy) (is : left ≡ c ∷ later) (a : Stock) (f : Outside) where
    abbrev pub one : List Written
    one = in_archive (archive_records.Copy c) ∷ []

    behind : as_writes (copies_written s.done) ++ as_writes one ≡ as_writes (copies_written (s.done ++ c ∷ []))
    behind = sym (writes-append (copies_written s.done) one) ∙ ap as_writes (sym (written-append s.done (c ∷ [])))

    pub storing-more : copies_step n.archive.copies (archive_records.Copy c) ≡ Some a.copies → n.archive.spare ≤ a.spare + 1
        → Manages m (record n { archive = a }) (as_writes (copies_written s.done) ++ as_writes one) None o f → AreOpen (record n { archive = a }) f
        → Storing m (record n { archive = a }) all later o f
    storing-more step spare manages ready = record {
      done = s.done ++ c ∷ [];
      parts = append_assoc s.done (c ∷ []) later ∙ ap (λ (xs : List FileCopy). s.done ++ xs) (sym is) ∙ s.parts;
      same = ap (λ (k : Managed). record k { archive = a }) s.same;
      folds = subst (λ (xs : List Written). FoldsTo m (record n { archive = a }) xs) (sym (written-append s.done (c ∷ [])))
          (to-then m n (record n { archive = a }) (copies_written s.done) one s.folds (archive-to n (archive_records.Copy c) a step));
      manages = subst (λ (ws : List Write). Manages m (record n { archive = a }) ws None o f) behind manages;
      ready = ready;
      spare = omega (arith, s.spare, spare, length-append s.done (c ∷ []));
      room = omega (arith, s.room, spare, ap length is);
    }

    -- it ends with a fault at one of them
    pub storing-fault : (fault : AppendFault) → Manages m (record n { archive = a }) ((as_writes (copies_written s.done) ++ as_writes one) ++ as_writes (copies_written later)) (Some fault) o f
        → Manages m (record n { archive = a }) (as_writes (copies_written all)) (Some fault) o f
    storing-fault fault = subst (λ (ws : List Write). Manages m (record n { archive = a }) ws (Some fault) o f)
        (ap (λ (ws : List Write). ws ++ as_writes (copies_written later)) behind ∙ sym (writes-append (copies_written (s.done ++ c ∷ [])) (copies_written later))
        ∙ ap as_writes (sym (written-append (s.done ++ c ∷ []) later) ∙ ap copies_written (append_assoc s.done (c ∷ []) later ∙ ap (λ (xs : List FileCopy). s.done ++ xs) (sym is) ∙ s.parts)))

  -- none is left
  module _ (end : left ≡ []) where
    all-done : s.done ≡ all
    all-done = sym (append-nil s.done) ∙ ap (λ (xs : List FileCopy). s.done ++ xs) (sym end) ∙ s.parts
      where
        append-nil : (xs : List FileCopy) → xs ++ [] ≡ xs
        append-nil [] = refl
        append-nil (x ∷ xs) = ap (λ (ys : List FileCopy). x ∷ ys) (append-nil xs)

    pub storing-folds : FoldsTo m n (copies_written all)
    storing-folds = subst (λ (xs : List FileCopy). FoldsTo m n (copies_written xs)) all-done s.folds

    pub storing-does : Manages m n (as_writes (copies_written all)) None o e
    storing-does = subst (λ (xs : List FileCopy). Manages m n (as_writes (copies_written xs)) None o e) all-done s.manages

    pub storing-spare : m.archive.spare ≤ n.archive.spare + length all
    storing-spare = omega (arith, s.spare, ap length all-done)
