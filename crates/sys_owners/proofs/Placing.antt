-- Calls of one owner as calls of all five.
use Rattle.std.proofs.Common.{◌≡◌, ℕ, Result, Ok, Err, OnOk, List, Option, refl, ◌∙◌, ap, subst}
use Rattle.db_store.specs.Store.{Database}
use Rattle.db_store.specs.Store as rows_area
use Rattle.dl_areas.specs.Lists.{AreReady, Write, with_journal}
use Rattle.dl_areas.specs.Lists.{Journals}
use Rattle.dl_areas.specs.Writing.{Does, DoesAlone}
use Rattle.dl_base.specs.Outside.{Outside}
use Rattle.dl_base.specs.declared.area.Area.{Area}
use Rattle.dl_base.specs.declared.area.Area.TheVariants.{Rows, Links, Files, Archive, Backups}
use Rattle.dl_base.specs.declared.fault.AppendFault.{AppendFault}
use Rattle.fm_branch.specs.Linked as links_area
use Rattle.fm_manager.specs.Managed.{AreOpen, Managed, Manages, with_managed}
use Rattle.meaning_areas.specs.Moving.{with_links_opening, with_rows_opening}
use Rattle.sys_owners.specs.Owned.{Owned, folds_in, journals_of}

abbrev pub with_store : Owned → Database → Owned
with_store w d = record { store = d; manager = w.manager; backups = w.backups }

abbrev pub with_manager : Owned → Managed → Owned
with_manager w m = record { store = w.store; manager = m; backups = w.backups }

-- each journal is that of its area
pub its-area : (w : Owned) (a : Area) → (journals_of w a).area ≡ a
its-area w Rows = refl
its-area w Links = refl
its-area w Files = refl
its-area w Archive = refl
its-area w Backups = refl

-- the journals with one of their owners' in its place

store-in : (w : Owned) (d : Database) → with_journal (rows_area.extent d) (journals_of w) ≡ journals_of (with_store w d)
store-in w d = λ i a. each a i
  where
    each : (a : Area) → with_journal (rows_area.extent d) (journals_of w) a ≡ journals_of (with_store w d) a
    each Rows = refl
    each Links = refl
    each Files = refl
    each Archive = refl
    each Backups = refl

manager-in : (w : Owned) (m : Managed) → with_managed m (journals_of w) ≡ journals_of (with_manager w m)
manager-in w m = λ i a. each a i
  where
    each : (a : Area) → with_managed m (journals_of w) a ≡ journals_of (with_manager w m) a
    each Rows = refl
    each Links = refl
    each Files = refl
    each Archive = refl
    each Backups = refl

module _ (w : Owned) (ws : List Write) (fault : Option AppendFault) (o n : Outside) (ready : AreReady (journals_of w) o) where
  pub store-does : (d : Database) → DoesAlone (rows_area.extent w.store) (rows_area.extent d) ws fault o n → Does (journals_of w) (journals_of (with_store w d)) ws fault o n
  store-does d alone = subst (λ (ks : Journals). Does (journals_of w) ks ws fault o n) (store-in w d) (alone.does (journals_of w) ready refl)

  pub manager-does : (m : Managed) → Manages w.manager m ws fault o n → Does (journals_of w) (journals_of (with_manager w m)) ws fault o n
  manager-does m call = subst (λ (ks : Journals). Does (journals_of w) ks ws fault o n) (manager-in w m) (call.does (journals_of w) ready (manager-in w w.manager))

-- the areas of the manager are open where all are
pub manager-open : (w : Owned) (o : Outside) → AreReady (journals_of w) o → AreOpen w.manager o
manager-open w o ready = record { links = ready.gates Links; files = ready.gates Files; archive = ready.gates Archive }

-- both openings are counted
pub both-counted : (w : Owned) (d : Database) (m : Managed) (n k : ℕ) → d ≡ rows_area.reopened w.store n
    → m ≡ record w.manager { links = record w.manager.links { links = links_area.reopened w.manager.links.links; length = k } }
    → folds_in (with_manager (with_store w d) m) ≡ with_links_opening (with_rows_opening (folds_in w))
both-counted w d m n k store manager =
    ap (λ (e : Database). folds_in (with_manager (with_store w e) m)) store
    ∙ ap (λ (l : Managed). folds_in (with_manager (with_store w (rows_area.reopened w.store n)) l)) manager

-- what holds anyhow holds with Ok
pub on-any : {T E P : Type 0} (r : Result T E) → P → OnOk r P
on-any (Ok x) p = p
on-any (Err e) p = tt

pub on-ok : {T E P Q : Type 0} (r : Result T E) → OnOk r P → (P → Q) → OnOk r Q
on-ok (Ok x) p f = f p
on-ok (Err e) p f = p
