-- What a commit without a conflict owes to the stored part before it.
use Rattle.std.proofs.Common.{◌≡◌, ◌⊎◌, inl, inr, ⊎_elim, ℕ, zero, suc, ◌+◌, List, [], ◌∷◌, Bool, true, false, not, length, Option, Some, None, is_some, refl, sym, ◌∙◌, ap, subst}
use Rattle.std.specs.FinMap as maps
use Rattle.dl_base.specs.declared.column.ReadBy.{ReadBy}
use Rattle.dl_base.specs.declared.column.WriteBy.{WriteBy}
use Rattle.dl_base.specs.declared.column.WriteBy.TheVariants as write
use Rattle.dl_base.specs.declared.file.File.{File}
use Rattle.dl_base.specs.declared.value.LinkNo.{LinkNo}
use Rattle.dl_base.specs.declared.value.LinkRow.{LinkRow}
use Rattle.meaning_areas.specs.Commits.{Commit, tables_after}
use Rattle.meaning_areas.specs.Copies.{Backup}
use Rattle.meaning_areas.specs.Merges.{Merges}
use Rattle.meaning_areas.specs.Stands.{past, stored_with, IsCommit, IsWhole}
use Rattle.meaning_settling.specs.Keyed.{is_at}
use Rattle.meaning_settling.specs.Settling.{Copy, Moved, Kept, on, numbered, link_key, taken_over, by_links, by_give, copies_after, held_by, settle_one}
use Rattle.meaning_settling.proofs.KeyedLaws.{either, false_true, is_at-same, is_at-self}
use Rattle.meaning_settling.proofs.PartLaws.{get-copies, get-files}
use Rattle.meaning_tables.specs.Links.{links, gives, takes}
use Rattle.meaning_tables.specs.Tables.{Tables, table_of}
use Rattle.meaning_merge.specs.Claimed.{IsClaimed}
use Rattle.meaning_merge.specs.History.{IsHistory, IsTransaction, AreCurrent, is_used}
use Rattle.meaning_merge.specs.Merging.{Fate, fate_of, merge}
use Rattle.meaning_merge.specs.Touching.{In, is_in, OnePath}
use Rattle.meaning_merge.proofs.Histories.{past-last}
use Rattle.meaning_merge.proofs.Keeping.{of_base, of_copy, of_merged}
use Rattle.meaning_merge.proofs.MergeLaws.{merged-moves}
use Rattle.meaning_merge.proofs.MovedLaws.{on-in, none-in, in-number, has-number, in-lacking, lacking-in, moved-paths}
use Rattle.meaning_merge.proofs.Numbers.{number-same, each-in, is_in-number, distinct-same, Distinct, picked, passed, split-in, picked-in}
use Rattle.meaning_merge.proofs.Paths.{key-same, numbered-in, in-numbered, none-numbered, distinct-filter, one-same, same-one, differ-one, one-differ}
use Rattle.meaning_merge.proofs.Touched as touched
use Rattle.meaning_merge.proofs.Used.{not-used}

-- tables of the past are those of a commit, or none
past-commit : (t : Tables) (cs : List Commit) (n : ℕ) (ts : Tables) → past t cs n ≡ Some ts → (t ≡ ts) ⊎ ((x : Commit) × IsCommit x cs × (x.tables ≡ ts))
past-commit t cs zero ts at = inl (let e : t ≡ ts = cc in e)
past-commit t [] (suc n) ts at = absurd cc
past-commit t (c ∷ cs) (suc n) ts at = ⊎_elim
    (λ (e : c.tables ≡ ts). inr (c, inl refl, e))
    (λ (later : (x : Commit) × IsCommit x cs × (x.tables ≡ ts)). inr (later.0, inr later.1, later.2))
    (past-commit c.tables cs n ts at)

commit-past : (t : Tables) (cs : List Commit) (x : Commit) → IsCommit x cs → (n : ℕ) × (past t cs n ≡ Some x.tables)
commit-past t [] x is = absurd is
commit-past t (c ∷ cs) x is = ⊎_elim
    (λ (e : x ≡ c). (1, first (ap (λ (y : Commit). y.tables) e)))
    (λ (later : IsCommit x cs). (let n = commit-past c.tables cs x later in (suc n.0, n.1)))
    is
  where
    first : x.tables ≡ c.tables → past t (c ∷ cs) 1 ≡ Some x.tables
    first e = ap (λ (ts : Tables). Some ts) (sym e)

-- a file that is taken over is there
taken-there : (w : WriteBy) (r : ReadBy) (f : Option File) → is_some f ≡ true → is_some (taken_over w r f) ≡ true
taken-there w r None e = absurd (false_true e)
taken-there write.Fs r (Some f) e = refl
taken-there write.Blocked r (Some f) e = refl
taken-there write.Admin r (Some f) e = refl

module _ (first : ℕ) (cs : List Commit) (tx : ℕ) (base copy : Tables) (names : List (List ℕ)) (next : ℕ) (history : IsHistory first cs) (txn : IsTransaction first cs tx base copy names next) (current : AreCurrent base (tables_after [] cs) names)
    (bs : List Backup) (rows_opening links_opening : ℕ) (k : Kept) (whole : IsWhole (stored_with cs bs rows_opening links_opening k)) (claimed : IsClaimed base copy (tables_after [] cs) k.files) where
  abbrev committed : Tables
  committed = tables_after [] cs

  abbrev number : ℕ
  number = length cs + 1

  abbrev fate : List ℕ → Fate
  fate name = fate_of (table_of base name) (table_of copy name)

  abbrev merged : Tables
  merged = merge committed base copy number

  abbrev given : List LinkRow
  given = gives base copy

  abbrev taken : List LinkRow
  taken = takes base copy

  abbrev moves : Moved
  moves = record { gives = gives base copy; takes = takes base copy; fill = false }

  at_last : past [] cs (length cs) ≡ Some committed
  at_last = past-last [] cs

  last_distinct : Distinct (links committed)
  last_distinct = touched.last_distinct first cs tx base copy names next history txn current

  merged_distinct : Distinct (links merged)
  merged_distinct = touched.merged_distinct first cs tx base copy names next history txn current

  past_distinct : (n : ℕ) (ts : Tables) → past [] cs n ≡ Some ts → Distinct (links ts)
  past_distinct n ts at = touched.fits-distinct ts (history.fit n ts at)

  moved_so : (gives committed merged ≡ given) × (takes committed merged ≡ taken)
  moved_so = merged-moves base copy committed merged (touched.merge-touches first cs tx base copy names next history txn current)

  -- one number is one link in all of the past
  past_one : (m n : ℕ) (ts us : Tables) (x y : LinkRow) → past [] cs m ≡ Some ts → past [] cs n ≡ Some us → In x (links ts) → In y (links us) → x.link ≡ y.link → x ≡ y
  past_one m n ts us x y at_m at_n in_x in_y same = ⊎_elim
      (λ (e : [] ≡ ts). absurd (subst (λ (vs : Tables). In x (links vs)) (sym e) in_x))
      (λ (c : (d : Commit) × IsCommit d cs × (d.tables ≡ ts)). ⊎_elim
      (λ (e : [] ≡ us). absurd (subst (λ (vs : Tables). In y (links vs)) (sym e) in_y))
      (λ (e : (d : Commit) × IsCommit d cs × (d.tables ≡ us)).
      whole.one_path c.0 e.0 (link_key x.link) x y c.1 e.1
      (ap (λ (vs : Tables). numbered (links vs) (link_key x.link)) c.2 ∙ in-numbered (links ts) x (past_distinct m ts at_m) in_x)
      (ap (λ (vs : Tables). numbered (links vs) (link_key x.link)) e.2 ∙ ap (λ (l : LinkNo). numbered (links us) (link_key l)) same ∙ in-numbered (links us) y (past_distinct n us at_n) in_y))
      (past-commit [] cs n us at_n))
      (past-commit [] cs m ts at_m)

  -- no link of the past has a number of this transaction
  past_not_own : (n : ℕ) (ts : Tables) (l : LinkRow) → past [] cs n ≡ Some ts → In l (links ts) → l.link.tx ≡ tx → ⊥
  past_not_own n ts l at is own = not-used first cs l.link.tx tx (each-in (λ x. is_used first cs x.link.tx ≡ true) (links ts) l (history.drawn n ts at) is) own txn.unused

  -- a link of the copy is of the past, or has a number of this transaction
  copy_link : (l : LinkRow) → In l (links copy) → In l (links base) ⊎ (l.link.tx ≡ tx)
  copy_link l is = each-in (λ x. In x (links base) ⊎ (x.link.tx ≡ tx)) (links copy) l txn.drawn is

  -- and so is one of the merged tables
  merged_link : (l : LinkRow) → In l (links merged) → ((n : ℕ) × (ts : Tables) × (past [] cs n ≡ Some ts) × In l (links ts)) ⊎ (l.link.tx ≡ tx)
  merged_link l is = ⊎_elim
      (λ (a : In l (picked (of_merged number fate) merged)). ⊎_elim
      (λ (b : In l (links base)). inl (txn.begun.0, base, txn.begun.1, b))
      (λ (e : l.link.tx ≡ tx). inr e)
      (copy_link l (picked-in (of_copy number fate) copy l (subst (λ (ls : List LinkRow). In l ls) (sym (touched.after_links first cs tx base copy names next history txn current)) a))))
      (λ (a : In l (passed (of_merged number fate) merged)).
      inl (length cs, committed, at_last, picked-in (λ t. not (of_base number fate t)) committed l (subst (λ (ts : Tables). In l (links ts)) (sym (touched.left_merged first cs tx base copy names next history txn current)) a)))
      (split-in (of_merged number fate) merged l is)

  merged_one : (n : ℕ) (ts : Tables) (x y : LinkRow) → past [] cs n ≡ Some ts → In x (links ts) → In y (links merged) → x.link ≡ y.link → x ≡ y
  merged_one n ts x y at in_x in_y same = ⊎_elim
      (λ (b : (m : ℕ) × (us : Tables) × (past [] cs m ≡ Some us) × In y (links us)). past_one n b.0 ts b.1 x y at b.2 in_x b.3 same)
      (λ (own : y.link.tx ≡ tx). absurd (past_not_own n ts x at in_x (ap (λ (l : LinkNo). l.tx) same ∙ own)))
      (merged_link y in_y)

  -- a merged link was committed, or is taken
  kept_or_taken : (l : LinkRow) → In l (links merged) → In l (links committed) ⊎ In l taken
  kept_or_taken l is = ⊎_elim
      (λ (there : is_in (links committed) l ≡ true).
      (let y = has-number (links committed) l there in
      inl (subst (λ (z : LinkRow). In z (links committed)) (merged_one (length cs) committed y.0 l at_last y.1 is (sym (number-same l.link y.0.link y.2))) y.1)))
      (λ (new : is_in (links committed) l ≡ false). inr (subst (λ (ls : List LinkRow). In l ls) moved_so.1 (in-lacking (links merged) (links committed) l is new)))
      (either (is_in (links committed) l))

  given_link : (l : LinkRow) → In l given → In l (links committed) × (is_in (links merged) l ≡ false)
  given_link l is = lacking-in (links committed) (links merged) l (subst (λ (ls : List LinkRow). In l ls) (sym moved_so.0) is)

  taken_link : (l : LinkRow) → In l taken → In l (links merged) × (is_in (links committed) l ≡ false)
  taken_link l is = lacking-in (links merged) (links committed) l (subst (λ (ls : List LinkRow). In l ls) (sym moved_so.1) is)

  -- what is still there is not given
  not_given : (l : LinkRow) → In l (links merged) → is_in given l ≡ false
  not_given l is = false_if (is_in given l) (λ there.
      let g = has-number given l there in
      false_true (sym (given_link g.0 g.1).1 ∙ is_in-number (links merged) g.0 l (sym (number-same l.link g.0.link g.2)) ∙ in-number (links merged) l is))
    where
      false_if : (b : Bool) → (b ≡ true → ⊥) → b ≡ false
      false_if true bad = absurd (bad refl)
      false_if false bad = refl

  -- PATHS

  last_paths : OnePath (links committed)
  last_paths = ⊎_elim
      (λ (e : [] ≡ committed). subst (λ (ts : Tables). OnePath (links ts)) e tt)
      (λ (c : (x : Commit) × IsCommit x cs × (x.tables ≡ committed)). subst (λ (ts : Tables). OnePath (links ts)) c.2 (differ-one (links c.0.tables) (whole.paths c.0 c.1)))
      (past-commit [] cs (length cs) committed at_last)

  clash : (t l : LinkRow) → In t taken → In l (links committed) → In l (links merged) → is_at l.path t.path ≡ true → ⊥
  clash t l in_t in_l still e = false_true (sym (claimed.free t l in_t in_l (not_given l still)) ∙ e)

  turned : (x y : LinkRow) → is_at y.path x.path ≡ true → is_at x.path y.path ≡ true
  turned x y e = ap (λ (p : List ℕ). is_at x.path p) (same_path x y e) ∙ self_path x
    where
      same_path : (x y : LinkRow) → is_at y.path x.path ≡ true → y.path ≡ x.path
      same_path x y e = is_at-same y.path x.path e

      self_path : (x : LinkRow) → is_at x.path x.path ≡ true
      self_path x = is_at-self x.path

  merged_paths : OnePath (links merged)
  merged_paths = same-one (links merged) merged_distinct (λ x y in_x in_y e. by x y in_x in_y e (kept_or_taken x in_x) (kept_or_taken y in_y))
    where
      by : (x y : LinkRow) → In x (links merged) → In y (links merged) → is_at y.path x.path ≡ true → In x (links committed) ⊎ In x taken → In y (links committed) ⊎ In y taken → x ≡ y
      by x y in_x in_y e a b = ⊎_elim
          (λ (old_x : In x (links committed)). ⊎_elim
          (λ (old_y : In y (links committed)). one-same (links committed) x y last_paths old_x old_y e)
          (λ (new_y : In y taken). absurd (clash y x new_y old_x in_x (turned x y e)))
          b)
          (λ (new_x : In x taken). ⊎_elim
          (λ (old_y : In y (links committed)). absurd (clash x y new_x old_y in_y e))
          (λ (new_y : In y taken). one-same taken x y claimed.apart new_x new_y e)
          b)
          a

  moved_at : (p : List ℕ) → on (links merged) p ≡ held_by (on given p) (on taken p) (on (links committed) p)
  moved_at p =
      moved-paths (links committed) (links merged) last_paths merged_paths
      (λ x y in_x in_y e. merged_one (length cs) committed x y at_last in_x in_y (number-same x.link y.link e))
      (λ x y in_x in_y e. merged_one (length cs) committed x y at_last in_x in_y (sym (number-same y.link x.link e))) p
      ∙ ap (λ (ls : List LinkRow). held_by (on ls p) (on (takes committed merged) p) (on (links committed) p)) moved_so.0
      ∙ ap (λ (ls : List LinkRow). held_by (on given p) (on ls p) (on (links committed) p)) moved_so.1

  given_distinct : Distinct given
  given_distinct = subst (λ (ls : List LinkRow). Distinct ls) moved_so.0 (distinct-filter (λ x. not (is_in (links merged) x)) (links committed) last_distinct)

  -- NUMBERS

  of_commit : (n : List ℕ) (g : LinkRow) → numbered given n ≡ Some g → (x : Commit) × IsCommit x cs × (numbered (links x.tables) n ≡ Some g)
  of_commit n g e =
      let is = numbered-in given n g e in
      let old = (given_link g is.0).0 in
      ⊎_elim
      (λ (none : [] ≡ committed). absurd (subst (λ (ts : Tables). In g (links ts)) (sym none) old))
      (λ (c : (x : Commit) × IsCommit x cs × (x.tables ≡ committed)).
      (c.0, c.1, ap (λ (ts : Tables). numbered (links ts) n) c.2 ∙ ap (numbered (links committed)) is.1 ∙ in-numbered (links committed) g last_distinct old))
      (past-commit [] cs (length cs) committed at_last)

  one_of : (x : Commit) (n : List ℕ) (a b : LinkRow) → IsCommit x cs → numbered (links x.tables) n ≡ Some a → numbered (links merged) n ≡ Some b → a ≡ b
  one_of x n a b is at_a at_b =
      let m = commit-past [] cs x is in
      let in_a = numbered-in (links x.tables) n a at_a in
      let in_b = numbered-in (links merged) n b at_b in
      merged_one m.0 x.tables a b m.1 in_a.0 in_b.0 (key-same a.link b.link (sym in_a.1 ∙ in_b.1))

  gone_of : (x : Commit) (n : List ℕ) (l : LinkRow) → IsCommit x cs → numbered (links x.tables) n ≡ Some l → numbered (links merged) n ≡ None → (numbered (links committed) n ≡ None) ⊎ (numbered given n ≡ Some l)
  gone_of x n l is at_l none = by (numbered (links committed) n) refl
    where
      by : (o : Option LinkRow) → numbered (links committed) n ≡ o → (numbered (links committed) n ≡ None) ⊎ (numbered given n ≡ Some l)
      by None e = inl e
      by (Some y) e =
          let m = commit-past [] cs x is in
          let in_l = numbered-in (links x.tables) n l at_l in
          let in_y = numbered-in (links committed) n y e in
          let same : l ≡ y = past_one m.0 (length cs) x.tables committed l y m.1 at_last in_l.0 in_y.0 (key-same l.link y.link (sym in_l.1 ∙ in_y.1)) in
          let lacks : is_in (links merged) y ≡ false = none-numbered (links merged) y merged_distinct (ap (numbered (links merged)) (sym in_y.1) ∙ none) in
          let is_given : In y given = subst (λ (ls : List LinkRow). In y ls) moved_so.0 (in-lacking (links committed) (links merged) y in_y.0 lacks) in
          inr (ap (numbered given) in_y.1 ∙ in-numbered given y given_distinct is_given ∙ ap (λ (z : LinkRow). Some z) (sym same))

  stays_of : (p : List ℕ) (l : LinkRow) → on taken p ≡ None → on given p ≡ None → on (links committed) p ≡ Some l → numbered given (link_key l.link) ≡ None
  stays_of p l free still at = by (numbered given (link_key l.link)) refl
    where
      in_l : In l (links committed) × (l.path ≡ p)
      in_l = on-in (links committed) p l at

      by : (o : Option LinkRow) → numbered given (link_key l.link) ≡ o → numbered given (link_key l.link) ≡ None
      by None e = e
      by (Some g) e =
          let in_g = numbered-in given (link_key l.link) g e in
          let same : g ≡ l = distinct-same (links committed) g l last_distinct (given_link g in_g.0).0 in_l.0 (sym (key-same l.link g.link in_g.1)) in
          absurd (none-in given l (ap (on given) in_l.1 ∙ still) (subst (λ (z : LinkRow). In z given) same in_g.0))

  -- FILES AND COPIES

  there_of : (p : List ℕ) (t : LinkRow) → on taken p ≡ Some t → is_some (maps.get (settle_one moves k).files p) ≡ true
  there_of p t e =
      ap is_some (get-files moves k p ∙ ap (λ (o : Option LinkRow). by_links false (copies_after moves k) (on given p) o (maps.get k.files p)) e)
      ∙ taken-there t.options.write t.options.read (maps.get k.files p) (claimed.backed p t e)

  none_copied : (t : LinkRow) → In t taken → maps.get (settle_one moves k).copies (link_key t.link) ≡ None
  none_copied t is =
      get-copies moves k (link_key t.link)
      ∙ ap (λ (o : Option LinkRow). by_give k.files o (maps.get k.copies (link_key t.link))) not_there
      ∙ by (maps.get k.copies (link_key t.link)) refl
    where
      not_there : numbered given (link_key t.link) ≡ None
      not_there = of (numbered given (link_key t.link)) refl
        where
          of : (o : Option LinkRow) → numbered given (link_key t.link) ≡ o → numbered given (link_key t.link) ≡ None
          of None e = e
          of (Some g) e =
              let in_g = numbered-in given (link_key t.link) g e in
              absurd (false_true (sym (taken_link t is).1 ∙ is_in-number (links committed) t g (key-same t.link g.link in_g.1) ∙ in-number (links committed) g (given_link g in_g.0).0))

      in_copy : In t (links copy) × (is_in (links base) t ≡ false)
      in_copy = lacking-in (links copy) (links base) t is

      own : t.link.tx ≡ tx
      own = ⊎_elim
          (λ (old : In t (links base)). absurd (false_true (sym in_copy.1 ∙ in-number (links base) t old)))
          (λ (e : t.link.tx ≡ tx). e)
          (copy_link t in_copy.0)

      by : (o : Option Copy) → maps.get k.copies (link_key t.link) ≡ o → maps.get k.copies (link_key t.link) ≡ None
      by None e = e
      by (Some c) e =
          let old = whole.copies (link_key t.link) (ap is_some e) in
          let m = commit-past [] cs old.0 old.2 in
          let in_old = numbered-in (links old.0.tables) (link_key t.link) old.1 old.3 in
          absurd (past_not_own m.0 old.0.tables old.1 m.1 in_old.0 (ap (λ (l : LinkNo). l.tx) (sym (key-same t.link old.1.link in_old.1)) ∙ own))

  none_copy : (c : Copy) → None ≡ Some c → ⊥
  none_copy c e = cc

  pub merges : Merges cs k moves merged
  merges = record {
    moved = moved_at;
    paths = one-differ (links merged) merged_paths;
    one_path = one_of;
    given = of_commit;
    gone = gone_of;
    stays = stays_of;
    there = there_of;
    taken = λ p t c f e at_c at_f. absurd (none_copy c (sym (none_copied t (on-in taken p t e).0) ∙ at_c));
  }
