-- Calls of one owner as calls of the manager, and calls that follow one another.
use Rattle.std.proofs.Common.{◌≡◌, ◌≢◌, List, ◌++◌, Option, None, refl, sym, ◌∙◌, ap, subst}
use Rattle.dl_areas.specs.Lists.{Journals, Write, with_journal}
use Rattle.dl_areas.specs.Writing.{Does, DoesAlone, Ends, EndsAlone}
use Rattle.dl_base.specs.Outside.{Outside}
use Rattle.dl_base.specs.declared.area.Area.{Area}
use Rattle.dl_base.specs.declared.area.Area.TheVariants.{Rows, Links, Files, Archive, Backups}
use Rattle.dl_base.specs.declared.fault.AppendFault.{AppendFault}
use Rattle.dl_base.specs.declared.fault.StepFault.{StepFault}
use Rattle.dl_journal.specs.Extent.{Extent}
use Rattle.dl_journal.specs.Open.{IsOpen}
use Rattle.fm_archive.specs.Stock.{Stock}
use Rattle.fm_archive.specs.Stock as copies_area
use Rattle.fm_branch.specs.Linked.{Linked}
use Rattle.fm_branch.specs.Linked as links_area
use Rattle.fs_files.specs.Store.{Catalog}
use Rattle.fs_files.specs.Store as files_area
use Rattle.fm_manager.specs.Managed.{Managed, Manages, ManagesStep, with_managed}

-- journals with the three in their places, and one of these replaced

at : (m : Managed) (js : Journals) → with_managed m js ≡ js → (a : Area) → js a ≡ with_managed m js a
at m js is a = ap (λ (ks : Journals). ks a) (sym is)

links-in : (m : Managed) (l : Linked) (js : Journals) → with_managed m js ≡ js → with_journal (links_area.extent l) js ≡ with_managed (record m { links = l }) js
links-in m l js is = λ i a. each a i
  where
    each : (a : Area) → with_journal (links_area.extent l) js a ≡ with_managed (record m { links = l }) js a
    each Rows = refl
    each Links = refl
    each Files = at m js is Files
    each Archive = at m js is Archive
    each Backups = refl

files-in : (m : Managed) (f : Catalog) (js : Journals) → with_managed m js ≡ js → with_journal (files_area.extent f) js ≡ with_managed (record m { files = f }) js
files-in m f js is = λ i a. each a i
  where
    each : (a : Area) → with_journal (files_area.extent f) js a ≡ with_managed (record m { files = f }) js a
    each Rows = refl
    each Links = at m js is Links
    each Files = refl
    each Archive = at m js is Archive
    each Backups = refl

archive-in : (m : Managed) (a : Stock) (js : Journals) → with_managed m js ≡ js → with_journal (copies_area.extent a) js ≡ with_managed (record m { archive = a }) js
archive-in m s js is = λ i a. each a i
  where
    each : (a : Area) → with_journal (copies_area.extent s) js a ≡ with_managed (record m { archive = s }) js a
    each Rows = refl
    each Links = at m js is Links
    each Files = at m js is Files
    each Archive = refl
    each Backups = refl

-- an area that another's call leaves has its closing gate still
still : (j : Extent) (o n : Outside) → n.reads j.area ≡ o.reads j.area → IsOpen j o → IsOpen j n
still j o n same gate = λ told is. gate told (sym same ∙ is)

links_files : Links ≢ Files
links_files e = absurd cc

module _ (m : Managed) (o e : Outside) (ws : List Write) where
  pub links-manages : (l : Linked) (fault : Option AppendFault) → DoesAlone (links_area.extent m.links) (links_area.extent l) ws fault o e → Manages m (record m { links = l }) ws fault o e
  links-manages l fault d = record {
    opens = λ ok was. record { links = d.gate ok was.links; files = still (files_area.extent m.files) o e (d.others Files (λ x. absurd cc)) was.files; archive = still (copies_area.extent m.archive) o e (d.others Archive (λ x. absurd cc)) was.archive };
    does = λ js ready is. subst (λ (ks : Journals). Does js ks ws fault o e) (links-in m l js is) (d.does js ready (at m js is Links));
  }

  pub files-manages : (f : Catalog) (fault : Option AppendFault) → DoesAlone (files_area.extent m.files) (files_area.extent f) ws fault o e → Manages m (record m { files = f }) ws fault o e
  files-manages f fault d = record {
    opens = λ ok was. record { links = still (links_area.extent m.links) o e (d.others Links (λ x. absurd cc)) was.links; files = d.gate ok was.files; archive = still (copies_area.extent m.archive) o e (d.others Archive (λ x. absurd cc)) was.archive };
    does = λ js ready is. subst (λ (ks : Journals). Does js ks ws fault o e) (files-in m f js is) (d.does js ready (at m js is Files));
  }

  pub archive-manages : (a : Stock) (fault : Option AppendFault) → DoesAlone (copies_area.extent m.archive) (copies_area.extent a) ws fault o e → Manages m (record m { archive = a }) ws fault o e
  archive-manages a fault d = record {
    opens = λ ok was. record { links = still (links_area.extent m.links) o e (d.others Links (λ x. absurd cc)) was.links; files = still (files_area.extent m.files) o e (d.others Files (λ x. absurd cc)) was.files; archive = d.gate ok was.archive };
    does = λ js ready is. subst (λ (ks : Journals). Does js ks ws fault o e) (archive-in m a js is) (d.does js ready (at m js is Archive));
  }

  pub links-ends : (l : Linked) (fault : Option StepFault) → EndsAlone (links_area.extent m.links) (links_area.extent l) ws fault o e → ManagesStep m (record m { links = l }) ws fault o e
  links-ends l fault d = record {
    opens = λ ok was. record { links = d.gate ok was.links; files = still (files_area.extent m.files) o e (d.others Files (λ x. absurd cc)) was.files; archive = still (copies_area.extent m.archive) o e (d.others Archive (λ x. absurd cc)) was.archive };
    ends = λ js ready is. subst (λ (ks : Journals). Ends js ks ws fault o e) (links-in m l js is) (d.ends js ready (at m js is Links));
  }

  pub files-ends : (f : Catalog) (fault : Option StepFault) → EndsAlone (files_area.extent m.files) (files_area.extent f) ws fault o e → ManagesStep m (record m { files = f }) ws fault o e
  files-ends f fault d = record {
    opens = λ ok was. record { links = still (links_area.extent m.links) o e (d.others Links (λ x. absurd cc)) was.links; files = d.gate ok was.files; archive = still (copies_area.extent m.archive) o e (d.others Archive (λ x. absurd cc)) was.archive };
    ends = λ js ready is. subst (λ (ks : Journals). Ends js ks ws fault o e) (files-in m f js is) (d.ends js ready (at m js is Files));
  }

-- the three in their places over journals that have others there
over : (m n : Managed) (js : Journals) → with_managed n (with_managed m js) ≡ with_managed n js
over m n js = λ i a. each a i
  where
    each : (a : Area) → with_managed n (with_managed m js) a ≡ with_managed n js a
    each Rows = refl
    each Links = refl
    each Files = refl
    each Archive = refl
    each Backups = refl

-- the laws of five areas, as laws of the manager

module _ (m k n : Managed) (ws vs : List Write) (fault : Option AppendFault) (o p e : Outside)
    (then : (js ks ls : Journals) → Does js ks ws None o p → Does ks ls vs fault p e → Does js ls (ws ++ vs) fault o e) where
  pub manages-then : Manages m k ws None o p → Manages k n vs fault p e → Manages m n (ws ++ vs) fault o e
  manages-then first second = record {
    opens = λ ok was. second.opens ok (first.opens refl was);
    does = λ js ready is.
        let one = first.does js ready is in
        subst (λ (ks : Journals). Does js ks (ws ++ vs) fault o e) (over k n js)
        (then js (with_managed k js) (with_managed n (with_managed k js)) one (second.does (with_managed k js) (one.ready refl ready) (over k k js)));
  }
