-- The changes at sites are those of the batch.
use Rattle.std.proofs.Common.{◌≡◌, ℕ, Bool, true, false, cond, ◌&&◌, List, [], ◌∷◌, map, Option, Some, None, refl, ap, ◌∙◌}
use Rattle.std.specs.FinMap as maps
use Rattle.std.specs.List.{cons_option, filter_map}
use Rattle.std.specs.Option.{option_map}
use Rattle.dl_base.specs.declared.file.File.{File}
use Rattle.dl_base.specs.declared.value.LinkRow.{LinkRow}
use Rattle.fm_effects.specs.Changes.{change_at, copy_in, file_behind, filling}
use Rattle.fm_effects.specs.Sites.{site, sites, take_in}
use Rattle.fm_effects.specs.declared.sites.Take.{Take}
use Rattle.fm_effects.specs.declared.sources.Sources.{Sources}
use Rattle.meaning_areas.specs.Finishing.{batch_changes, change_to, changes_on, sorted_paths}
use Rattle.meaning_files.specs.Files.{Files}
use Rattle.meaning_settling.specs.Settling.{Copies, Copy, Kept, Moved, by_links, copies_after, file_after, filled, link_key, on, taken_over}

filled-if : (b : Bool) (c : Option Copy) (f : Option File) → filled (cond b c None) f ≡ cond b (filled c f) f
filled-if true c f = refl
filled-if false c f = refl

-- the change at one site
module _ (m : Moved) (copies : Copies) (copy : Take → Option Copy) (each : (l : LinkRow) → copy (take_in l) ≡ cond (m.fill && l.options.recovery) (maps.get copies (link_key l.link)) None) where
  behind : (g t : Option LinkRow) (f : Option File) → file_behind copy (option_map (λ l. l.options.unlink) g) (option_map take_in t) f ≡ by_links m.fill copies g t f
  behind g (Some t) f = ap (λ (o : Option File). taken_over t.options.write t.options.read o)
      (ap (λ (c : Option Copy). filled c f) (each t) ∙ filled-if (m.fill && t.options.recovery) (maps.get copies (link_key t.link)) f)
  behind (Some g) None f = refl
  behind None None f = refl

  changes-at : (files : Files) (ps : List (List ℕ)) → filter_map (change_at copy files) (map (λ p. (p, site m p)) ps) ≡ changes_on ps (file_after m copies) files
  changes-at files [] = refl
  changes-at files (p ∷ ps) = λ i. cons_option (change_to p (maps.get files p) (behind (on m.gives p) (on m.takes p) (maps.get files p) i)) (changes-at files ps i)

-- THE BATCH, from sources with these files, and where takes are filled with these copies
module _ (m : Moved) (k : Kept) (s : Sources) (fill : s.fill ≡ m.fill) (copies : m.fill ≡ true → (n : List ℕ) → copy_in s n ≡ maps.get (copies_after m k) n) where
  filled-from : (l : LinkRow) → filling s (take_in l) ≡ cond (m.fill && l.options.recovery) (maps.get (copies_after m k) (link_key l.link)) None
  filled-from l = ap (λ b. cond (b && l.options.recovery) (copy_in s (link_key l.link)) None) fill ∙ by m.fill refl
    where
      by : (b : Bool) → m.fill ≡ b → cond (b && l.options.recovery) (copy_in s (link_key l.link)) None ≡ cond (b && l.options.recovery) (maps.get (copies_after m k) (link_key l.link)) None
      by true e = ap (λ (o : Option Copy). cond l.options.recovery o None) (copies e (link_key l.link))
      by false e = refl

  pub batch-of : s.files.now.files ≡ k.files → filter_map (change_at (filling s) s.files.now.files) (sites m) ≡ batch_changes m k
  batch-of files =
      ap (λ (fs : Files). filter_map (change_at (filling s) fs) (sites m)) files
      ∙ changes-at m (copies_after m k) (filling s) filled-from k.files (sorted_paths m)
