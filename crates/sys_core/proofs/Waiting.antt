-- THE LINKS THAT WAIT FOR A COPY, by what an engine has: they are the pending ones of the machine.
use Rattle.std.proofs.Common.{◌≡◌, ℕ, ◌==◌, List, [], Bool, true, false, not, cond, ◌&&◌, filter, is_none, Option, Some, None, refl, sym, ◌∙◌, ap}
use Rattle.std.specs.FinMap as maps
use Rattle.std.specs.List.{find}
use Rattle.std.specs.Option.{option_map}
use Rattle.dl_base.specs.declared.file.File.{File}
use Rattle.dl_base.specs.declared.value.LinkNo.{LinkNo}
use Rattle.dl_base.specs.declared.value.LinkRow.{LinkRow}
use Rattle.fm_effects.specs.Copying.{copy_for}
use Rattle.fm_links.proofs.Searching as searching
use Rattle.fm_links.specs.Claims.{PathClaim, claim_by}
use Rattle.fm_links.specs.Searching.{has_claim}
use Rattle.meaning_areas.specs.Commits.{Commit, tables_after}
use Rattle.meaning_areas.specs.Finishing.{file_copy}
use Rattle.meaning_areas.specs.Joint.{Joint}
use Rattle.meaning_areas.specs.Lists.{Folds}
use Rattle.meaning_files.specs.Files.{Files}
use Rattle.meaning_merge.specs.Touching.{In}
use Rattle.meaning_settling.proofs.KeyedLaws.{is_at-same}
use Rattle.meaning_settling.specs.Apart.{has_path}
use Rattle.meaning_settling.specs.Keyed.{is_at}
use Rattle.meaning_settling.specs.Settling.{Copy, link_key}
use Rattle.meaning_system.proofs.Resolved.{entries-found}
use Rattle.meaning_system.specs.CoreOf.{core_of}
use Rattle.meaning_system.specs.Machine.{pending}
use Rattle.meaning_system.specs.State.{State, Txn, differs, is_decided, is_doomed, moved_of, tables_of}
use Rattle.meaning_tables.specs.Links.{links}
use Rattle.sys_core.proofs.Awaiting.{both, decided-rests, filter-same, find-filter, if_kept, key-number, none-there, none_some, one-link, taken, taken-path, taking}
use Rattle.sys_core.proofs.Seating.{seat-phase}
use Rattle.sys_core.specs.Archiving.{awaited, awaited_in, copy_at, copy_in, pending_link, settles_by, settles_in, waits_in}
use Rattle.sys_core.specs.Claiming.{tables_in}
use Rattle.sys_core.specs.Numbered.{of_number}
use Rattle.sys_core.specs.Seated.{phase_at}
use Rattle.sys_core.specs.Standing.{IsOf}
use Rattle.sys_core.specs.declared.engine.Engine.{Engine}
use Rattle.sys_owners.specs.Owned.{folds_in}

-- AN ENGINE IN A STATE
module _ (first : ℕ) (w : Engine) (s : State) (is : IsOf first w s) where
  abbrev f : Folds
  f = folds_in w.owners

  joint : Joint f (core_of s)
  joint = is.sound.follows.joint

  abbrev committed_links : List LinkRow
  committed_links = links (tables_of s)

  abbrev is_taken : LinkNo → Bool
  is_taken n = taken first f s is.sound n

  module _ (l : LinkRow) (among : In l committed_links) where
    only : searching.IsOnly s l.path (maps.get w.claims.claims l.path)
    only = searching.claims-only s w.claims.claims (searching.are-apart f s joint) is.claims l.path

    -- a decided transaction on its path has the claim there
    on-claim : (q : ℕ) (t : Txn) → maps.get s.txs q ≡ Some t → is_decided t.phase ≡ true → has_path (moved_of t) l.path ≡ true → settles_in w l.path ≡ true
    on-claim q t at decides path = by (maps.get w.claims.claims l.path) (sym (only q) ∙ ap (searching.claim_in s l.path q) at ∙ ap (λ b. cond b (Some mine) None) claims)
      where
        mine : PathClaim
        mine = claim_by q (moved_of t) l.path

        claims : has_claim s l.path (q, t) ≡ true
        claims = ap (λ a. not (a && differs t.seen s.links_opening) && has_path (moved_of t) l.path) (decided-rests t.phase decides).1 ∙ path

        by : (o : Option PathClaim) → searching.of_it q o ≡ Some mine → settles_by w.seats o ≡ true
        by None e = absurd (none_some mine e)
        by (Some c) e =
            let same : c.tx ≡ q = searching.same-number c.tx q (searching.picked (c.tx == q) c mine e).0 in
            ap (λ (u : ℕ). is_decided (phase_at (maps.get w.seats u))) same ∙ ap is_decided (seat-phase s w.seats q t is.seats at) ∙ decides

    not-claimed : is_taken l.link ≡ false → settles_in w l.path ≡ false
    not-claimed none = by (maps.get w.claims.claims l.path) only
      where
        by : (o : Option PathClaim) → searching.IsOnly s l.path o → settles_by w.seats o ≡ false
        by None it = refl
        by (Some c) it = decide (is_decided (phase_at (maps.get w.seats c.tx))) refl
          where
            decide : (b : Bool) → is_decided (phase_at (maps.get w.seats c.tx)) ≡ b → b ≡ false
            decide false e = refl
            decide true e =
                let o = searching.owner s l.path c it in
                let decides : is_decided o.0.phase ≡ true = sym (ap is_decided (seat-phase s w.seats c.tx o.0 is.seats o.1)) ∙ e in
                absurd (none-there first f s is.sound l among none c.tx o.0 o.1 decides (both (not (is_doomed s o.0)) (has_path (moved_of o.0) l.path) o.2).1)

    taken-is : settles_in w l.path ≡ is_taken l.link
    taken-is = by (is_taken l.link) refl
      where
        by : (b : Bool) → is_taken l.link ≡ b → settles_in w l.path ≡ b
        by true e = let k = taking l.link (maps.get s.txs) (maps.entries s.txs) (entries-found s.txs) e in on-claim k.tx k.txn k.there k.decides (taken-path first f s is.sound l among k)
        by false e = not-claimed e

    waits-is : waits_in w l ≡ (l.options.recovery && is_none (maps.get s.copies (link_key l.link)) && not (is_taken l.link))
    waits-is = λ i. l.options.recovery && is_none (maps.get (joint.copies i) (link_key l.link)) && not (taken-is i)

  -- the committed links
  all-is : links (tables_in w) ≡ committed_links
  all-is = ap (λ (cs : List Commit). links (tables_after [] cs)) joint.commits

  -- THE PENDING LINKS
  waiting-is : filter (waits_in w) committed_links ≡ pending s
  waiting-is = filter-same (waits_in w) (λ l. l.options.recovery && is_none (maps.get s.copies (link_key l.link)) && not (is_taken l.link)) committed_links waits-is

  pub pending-is : filter (waits_in w) (links (tables_in w)) ≡ pending s
  pending-is = ap (filter (waits_in w)) all-is ∙ waiting-is

  -- that of a number
  pub link-is : (n : LinkNo) → pending_link s n ≡ if_kept (waits_in w) (find (of_number n) (links (tables_in w)))
  link-is n =
      let test : LinkRow → Bool = λ l. is_at (link_key n) (link_key l.link) in
      ap (find test) (sym waiting-is)
      ∙ find-filter test (waits_in w) committed_links (λ x y in_x in_y at_x at_y. one-link first f s is.sound x y in_x in_y (sym (is_at-same (link_key n) (link_key x.link) at_x) ∙ is_at-same (link_key n) (link_key y.link) at_y))
      ∙ ap (λ (t : LinkRow → Bool). if_kept (waits_in w) (find t committed_links)) (λ i l. key-number n l.link i)
      ∙ ap (λ (ls : List LinkRow). if_kept (waits_in w) (find (of_number n) ls)) (sym all-is)

  -- THE COPY THAT IT WAITS FOR
  pub awaited-is : (n : LinkNo) → awaited_in w n ≡ awaited s n
  awaited-is n = by (find (of_number n) (links (tables_in w))) ∙ ap (copy_at s) (sym (link-is n))
    where
      shown : (l : LinkRow) (keeps : Bool) → copy_at s (cond keeps (Some l) None) ≡ cond keeps (option_map (file_copy l) (maps.get s.files l.path)) None
      shown l true = refl
      shown l false = refl

      -- by whether it is settled, has a copy, has a file, and wants a copy
      cases : (l : LinkRow) (b : Bool) (c : Option Copy) (o : Option File) (r : Bool) → l.options.recovery ≡ r → cond b None (copy_for l c o) ≡ cond (r && is_none c && not b) (option_map (file_copy l) o) None
      cases l true None o true e = refl
      cases l true None o false e = refl
      cases l true (Some c) o true e = refl
      cases l true (Some c) o false e = refl
      cases l false (Some c) o true e = refl
      cases l false (Some c) o false e = refl
      cases l false None None true e = refl
      cases l false None None false e = refl
      cases l false None (Some x) true e = ap (λ b. cond b (Some (file_copy l x)) None) e
      cases l false None (Some x) false e = ap (λ b. cond b (Some (file_copy l x)) None) e

      by : (o : Option LinkRow) → copy_in w o ≡ copy_at s (if_kept (waits_in w) o)
      by None = refl
      by (Some l) =
          cases l (settles_in w l.path) (maps.get w.owners.manager.archive.copies (link_key l.link)) (maps.get w.owners.manager.files.files l.path) l.options.recovery refl
          ∙ ap (λ (files : Files). cond (waits_in w l) (option_map (file_copy l) (maps.get files l.path)) None) joint.files
          ∙ sym (shown l (waits_in w l))

-- as it is looked up
module _ (w : Engine) (n : LinkNo) where
  abbrev committed : Option LinkRow
  committed = find (of_number n) (links (tables_in w))

  pub none-awaited : committed ≡ None → None ≡ awaited_in w n
  none-awaited e = sym (ap (copy_in w) e)

  pub settled-awaited : (l : LinkRow) → committed ≡ Some l → settles_in w l.path ≡ true → None ≡ awaited_in w n
  settled-awaited l e settles = sym (ap (copy_in w) e ∙ ap (λ b. cond b None (copy_for l (maps.get w.owners.manager.archive.copies (link_key l.link)) (maps.get w.owners.manager.files.files l.path))) settles)

  pub copy-awaited : (l : LinkRow) → committed ≡ Some l → settles_in w l.path ≡ false → copy_for l (maps.get w.owners.manager.archive.copies (link_key l.link)) (maps.get w.owners.manager.files.files l.path) ≡ awaited_in w n
  copy-awaited l e settles = sym (ap (copy_in w) e ∙ ap (λ b. cond b None (copy_for l (maps.get w.owners.manager.archive.copies (link_key l.link)) (maps.get w.owners.manager.files.files l.path))) settles)
