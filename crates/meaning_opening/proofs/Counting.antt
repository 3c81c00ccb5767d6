-- AN OPENING COUNTED: lists with the next opening number stand for the stored part with it.
use Rattle.std.proofs.Common.{ℕ, ◌+◌, ◌/◌, ◌^◌, ◌<◌, ◌≤◌, List, ap, arith}
use Rattle.dl_base.specs.declared.value.LinkRow.{LinkRow}
use Rattle.meaning_areas.specs.Lists.{Folds}
use Rattle.meaning_areas.specs.Moving.{with_links_opening, with_rows_opening}
use Rattle.meaning_areas.specs.Stands.{AreDrawn, IsStand, Stored}
use Rattle.meaning_opening.specs.Fronts.{next_links, next_rows}

-- both numbers
abbrev pub counted : Folds → Folds
counted f = with_links_opening (with_rows_opening f)

drawn-more : (o : ℕ) (ls : List LinkRow) → AreDrawn o ls → AreDrawn (o + 1) ls
drawn-more o ls all k x lt = more _ o (all k x lt)
  where
    more : (a o : ℕ) → a ≤ o → a ≤ o + 1
    more a o le = omega arith

before : (o t : ℕ) → o + 1 < t → o < t
before o t lt = omega arith

module _ (f : Folds) (x : Stored) (stand : IsStand f x) where
  pub stand-rows : IsStand (with_rows_opening f) (next_rows x)
  stand-rows = record {
    compares = record {
      distinct = stand.compares.distinct;
      moved = stand.compares.moved;
      branches = stand.compares.branches;
      decided = stand.compares.decided;
      ended = stand.compares.ended;
      apart = stand.compares.apart;
      ready = stand.compares.ready;
      held = stand.compares.held;
      numbers = λ q late. stand.compares.numbers q (before f.rows.opening (q / 2 ^ 32) late);
      drawn_commits = λ c is. drawn-more f.rows.opening _ (stand.compares.drawn_commits c is);
      drawn_branches = λ q b is. let two = stand.compares.drawn_branches q b is in (drawn-more f.rows.opening b.moved.gives two.0, drawn-more f.rows.opening b.moved.takes two.1);
    };
    whole = record {
      paths = stand.whole.paths;
      one_path = stand.whole.one_path;
      files = stand.whole.files;
      copies = stand.whole.copies;
      archived = stand.whole.archived;
      bytes = stand.whole.bytes;
      backups = stand.whole.backups;
    };
    is = ap next_rows stand.is;
  }

  pub stand-links : IsStand (with_links_opening f) (next_links x)
  stand-links = record {
    compares = record {
      distinct = stand.compares.distinct;
      moved = stand.compares.moved;
      branches = stand.compares.branches;
      decided = stand.compares.decided;
      ended = stand.compares.ended;
      apart = stand.compares.apart;
      ready = stand.compares.ready;
      held = stand.compares.held;
      numbers = stand.compares.numbers;
      drawn_commits = stand.compares.drawn_commits;
      drawn_branches = stand.compares.drawn_branches;
    };
    whole = record {
      paths = stand.whole.paths;
      one_path = stand.whole.one_path;
      files = stand.whole.files;
      copies = stand.whole.copies;
      archived = stand.whole.archived;
      bytes = stand.whole.bytes;
      backups = stand.whole.backups;
    };
    is = ap next_links stand.is;
  }

pub stand-counted : (f : Folds) (x : Stored) → IsStand f x → IsStand (counted f) (next_links (next_rows x))
stand-counted f x stand = stand-links (with_rows_opening f) (next_rows x) (stand-rows f x stand)
