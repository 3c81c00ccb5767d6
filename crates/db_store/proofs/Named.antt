-- Names of tables after handles of which the last alone make tables: each new table is new when its turn comes.
use Rattle.std.proofs.Common.{◌≡◌, ℕ, ◌+◌, true, bytes_eq, List, [], ◌∷◌, ◌++◌, false, Option, None, is_none, refl, sym, ap, subst, ◌∙◌}
use Rattle.std.specs.List.{list_all}
use Rattle.std.proofs.lemmas.Bool.{and_from}
use Rattle.std.proofs.lemmas.List.{append-nil, append_assoc}
use Rattle.meaning_merge.specs.Merging.{AreNamed}
use Rattle.meaning_tables.specs.Tables.{Rows, Tables, table_of, with_table, without_table}
use Rattle.db_changes.proofs.Leading.{absent, absent-more, other_way}
use Rattle.db_changes.specs.Handles.{makes, new_last}
use Rattle.db_replay.specs.Applying.{are_new, new_in}
use Rattle.db_replay.specs.Changes.{all_at_version, applied}
use Rattle.db_replay.specs.declared.changes.Change.{Change}
use Rattle.db_replay.specs.declared.changes.Change.TheVariants as dones

-- a name behind others is none of theirs

behind : (ts rest : Tables) (t : List ℕ × Rows) → AreNamed (ts ++ t ∷ rest) → table_of ts t.0 ≡ None
behind [] rest t named = refl
behind (x ∷ xs) rest t named = absent-more x xs t.0 (other xs named.0) (behind xs rest t named.1)
  where
    other : (ys : Tables) → table_of (ys ++ t ∷ rest) x.0 ≡ None → bytes_eq t.0 x.0 ≡ false
    other [] none = other_way x.0 t.0 (absent t rest x.0 none).0
    other (y ∷ ys) none = other ys (absent y (ys ++ t ∷ rest) x.0 none).1

-- changes of which the last alone make tables

abbrev added : List Change → Tables
added [] = []
added (dones.Dropped name ∷ cs) = added cs
added (dones.Kept name t ∷ cs) = added cs
added (dones.New name t ∷ cs) = (name, t) ∷ added cs

all-added : (cs : List Change) (ts : Tables) → list_all makes cs ≡ true → applied ts cs ≡ ts ++ added cs
all-added [] ts all = sym (append-nil ts)
all-added (dones.Dropped name ∷ cs) ts all = absurd cc
all-added (dones.Kept name t ∷ cs) ts all = absurd cc
all-added (dones.New name t ∷ cs) ts all = all-added cs (ts ++ (name, t) ∷ []) all ∙ append_assoc ts ((name, t) ∷ []) (added cs)

all-new : (cs : List Change) (ts : Tables) → list_all makes cs ≡ true → AreNamed (applied ts cs) → are_new ts cs ≡ true
all-new [] ts all named = refl
all-new (dones.Dropped name ∷ cs) ts all named = absurd cc
all-new (dones.Kept name t ∷ cs) ts all named = absurd cc
all-new (dones.New name t ∷ cs) ts all named =
    let split : AreNamed (ts ++ (name, t) ∷ added cs) = subst (λ (us : Tables). AreNamed us) (all-added cs (ts ++ (name, t) ∷ []) all ∙ append_assoc ts ((name, t) ∷ []) (added cs)) named in
    and_from (is_none (table_of ts name)) (are_new (ts ++ (name, t) ∷ []) cs)
    (ap (λ (o : Option Rows). is_none o) (behind ts (added cs) (name, t) split))
    (all-new cs (ts ++ (name, t) ∷ []) all named)

-- they lead to tables of different names only where each new one is new when its turn comes
pub last-new : (cs : List Change) (ts : Tables) → new_last cs ≡ true → AreNamed (applied ts cs) → are_new ts cs ≡ true
last-new [] ts last named = refl
last-new (dones.Dropped name ∷ cs) ts last named = last-new cs (without_table ts name) last named
last-new (dones.Kept name t ∷ cs) ts last named = last-new cs (with_table ts name t) last named
last-new (dones.New name t ∷ cs) ts last named = all-new (dones.New name t ∷ cs) ts last named

-- of any version

version-all : (v : ℕ) (cs : List Change) → list_all makes (all_at_version v cs) ≡ list_all makes cs
version-all v [] = refl
version-all v (dones.Dropped name ∷ cs) = refl
version-all v (dones.Kept name t ∷ cs) = refl
version-all v (dones.New name t ∷ cs) = version-all v cs

pub version-last : (v : ℕ) (cs : List Change) → new_last (all_at_version v cs) ≡ new_last cs
version-last v [] = refl
version-last v (dones.Dropped name ∷ cs) = version-last v cs
version-last v (dones.Kept name t ∷ cs) = version-last v cs
version-last v (dones.New name t ∷ cs) = version-all v cs

pub version-count : (v : ℕ) (cs : List Change) → new_in (all_at_version v cs) ≡ new_in cs
version-count v [] = refl
version-count v (dones.Dropped name ∷ cs) = ap (λ (n : ℕ). 0 + n) (version-count v cs)
version-count v (dones.Kept name t ∷ cs) = ap (λ (n : ℕ). 0 + n) (version-count v cs)
version-count v (dones.New name t ∷ cs) = ap (λ (n : ℕ). 1 + n) (version-count v cs)
