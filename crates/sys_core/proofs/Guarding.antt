-- THE LINKS THAT FORBID, by what an engine has: they are those of the machine.
use Rattle.std.proofs.Common.{◌≡◌, ℕ, List, [], ◌∷◌, ◌++◌, Bool, true, false, cond, Option, Some, None, refl, sym, ◌∙◌, ap}
use Rattle.std.specs.FinMap as maps
use Rattle.std.specs.List.{find}
use Rattle.std.specs.Option.{option_map, option_or, option_to_list}
use Rattle.dl_base.specs.declared.answer.Why.{Why}
use Rattle.dl_base.specs.declared.answer.Why.TheVariants as whys
use Rattle.dl_base.specs.declared.file.FileWhat.{FileWhat}
use Rattle.dl_base.specs.declared.file.FileWhat.TheVariants as whats
use Rattle.dl_base.specs.declared.file.Token.{Token}
use Rattle.dl_base.specs.declared.step.Phase.{Phase}
use Rattle.dl_base.specs.declared.value.LinkNo.{LinkNo}
use Rattle.dl_base.specs.declared.value.LinkRow.{LinkRow}
use Rattle.fm_links.specs.Claims.{PathClaim}
use Rattle.fm_links.specs.Guarding.{guards, phase_in}
use Rattle.fm_links.specs.Searching.{AreClaims}
use Rattle.meaning_areas.specs.Lists.{Folds}
use Rattle.meaning_history.specs.Sound.{AreSound}
use Rattle.meaning_settling.specs.Keyed.{Keyed}
use Rattle.meaning_system.specs.Commands.{forbidden, forbidding, forbids, read_forbidden, token_fault}
use Rattle.meaning_system.specs.State.{State, Txn}
use Rattle.meaning_tables.specs.OptionRows.{forbids_kind}
use Rattle.meaning_tables.specs.declared.option_rows.CommandKind.{CommandKind}
use Rattle.meaning_tables.specs.declared.option_rows.CommandKind.TheVariants as kinds
use Rattle.sys_core.specs.Guarded.{claim_in, committed_in, forbidden_in, forbidding_by, forbids_in, named_why, phase_by, read_forbidden_in, reading_by, seat_phase, token_why, waiting_in}
use Rattle.sys_core.specs.Seated.{AreSeated, IsAtStage, IsSeat}
use Rattle.sys_core.specs.Standing.{IsOf}
use Rattle.sys_core.specs.declared.engine.Engine.{Engine}
use Rattle.sys_owners.specs.Owned.{folds_in}
use Rattle.sys_seats.specs.Seats.{Seated, phase_of}
use Rattle.sys_seats.specs.declared.seat.Seat.{Seat}
use Rattle.sys_seats.specs.declared.seat.Stage.{Stage}
use Rattle.sys_seats.specs.declared.seat.Stage.TheVariants as stages

-- HOW FAR THE TRANSACTION OF A CLAIM IS: the seats of a state know

pub stage-phase : (s : State) (tx : ℕ) (t : Txn) (x : Stage) → IsAtStage s tx t x → phase_of x ≡ t.phase
stage-phase s tx t stages.Active is = sym is
stage-phase s tx t (stages.Prepared vote) is = sym is.0
stage-phase s tx t (stages.Decided pieces) is = sym is.0

pub phase-seated : (s : State) (seats : Seated) → AreSeated s seats → (o : Option PathClaim) → phase_by seats o ≡ phase_in s o
phase-seated s seats are None = refl
phase-seated s seats are (Some c) = by (maps.get s.txs c.tx) (maps.get seats c.tx) (are c.tx)
  where
    by : (t : Option Txn) (x : Option Seat) → IsSeat s c.tx t x → seat_phase x ≡ option_map (λ (u : Txn). u.phase) t
    by None None is = refl
    by (Some t) (Some x) is = ap (λ (p : Phase). Some p) (stage-phase s c.tx t x.stage is.stage)
    by None (Some x) is = absurd is
    by (Some t) None is = absurd is

-- WHAT A SEARCH THROUGH ALL LINKS FINDS is what the claim on the path knows
abbrev pub GuardsAreFound : Type 0
GuardsAreFound = (first : ℕ) (f : Folds) (s : State) (claims : Keyed PathClaim) (path : List ℕ) → AreSound first f s → AreClaims claims s
    → forbidding s path ≡ guards (maps.get f.links.held path) (maps.get claims path) (phase_in s (maps.get claims path))

guards-in : GuardsAreFound → (first : ℕ) (w : Engine) (s : State) → IsOf first w s → (path : List ℕ) → forbidding s path ≡ option_to_list (committed_in w path) ++ option_to_list (waiting_in w path)
guards-in law first w s is path =
    law first (folds_in w.owners) s w.claims.claims path is.sound is.claims
    ∙ ap (guards (maps.get w.owners.manager.links.links.held path) (claim_in w path)) (sym (phase-seated s w.seats is.seats (claim_in w path)))

-- the first of two that forbids

abbrev pub with_why : Why → LinkRow → LinkNo × Why
with_why why l = (l.link, why)

first-of : (kind : CommandKind) (why : Why) (a b : Option LinkRow) → option_map (with_why why) (find (λ l. forbids_kind l.options kind) (option_to_list a ++ option_to_list b)) ≡ option_or (forbidding_by a kind why) (forbidding_by b kind why)
first-of kind why (Some l) b = by (forbids_kind l.options kind)
  where
    rest : (o : Option LinkRow) → option_map (with_why why) (find (λ x. forbids_kind x.options kind) (option_to_list o)) ≡ forbidding_by o kind why
    rest None = refl
    rest (Some x) = here (forbids_kind x.options kind)
      where
        here : (b : Bool) → option_map (with_why why) (cond b (Some x) None) ≡ cond b (Some (x.link, why)) None
        here true = refl
        here false = refl

    by : (t : Bool) → option_map (with_why why) (cond t (Some l) (find (λ x. forbids_kind x.options kind) (option_to_list b))) ≡ option_or (cond t (Some (l.link, why)) None) (forbidding_by b kind why)
    by true = refl
    by false = rest b
first-of kind why None None = refl
first-of kind why None (Some l) = by (forbids_kind l.options kind)
  where
    by : (t : Bool) → option_map (with_why why) (cond t (Some l) None) ≡ cond t (Some (l.link, why)) None
    by true = refl
    by false = refl

module _ (s : State) (path : List ℕ) (token : Option Token) where
  token-same : (l : LinkRow) (o : Option Token) → token_fault s path l o ≡ token_why s.settings.key s.moment path l.link o
  token-same l None = refl
  token-same l (Some t) = refl

  abbrev one : Option LinkRow → Option (LinkNo × Why)
  one o = reading_by s.settings.key s.moment path token o

  -- one link, and others behind it
  read-more : (l : LinkRow) (ls : List LinkRow) → read_forbidden s path token (l ∷ ls) ≡ option_or (one (Some l)) (read_forbidden s path token ls)
  read-more l ls = by (forbids_kind l.options kinds.Read)
    where
      told : (o : Option Why) → elim o [ None ↦ read_forbidden s path token ls | Some why ↦ Some (l.link, why) ] ≡ option_or (named_why l.link o) (read_forbidden s path token ls)
      told None = refl
      told (Some why) = refl

      by : (t : Bool) → cond t (elim (token_fault s path l token) [ None ↦ read_forbidden s path token ls | Some why ↦ Some (l.link, why) ]) (read_forbidden s path token ls)
          ≡ option_or (cond t (named_why l.link (token_why s.settings.key s.moment path l.link token)) None) (read_forbidden s path token ls)
      by true = told (token_fault s path l token) ∙ ap (λ (o : Option Why). option_or (named_why l.link o) (read_forbidden s path token ls)) (token-same l token)
      by false = refl

  or-none : (o : Option (LinkNo × Why)) → option_or o None ≡ o
  or-none None = refl
  or-none (Some x) = refl

  read-one : (b : Option LinkRow) → read_forbidden s path token (option_to_list b) ≡ one b
  read-one None = refl
  read-one (Some l) = read-more l [] ∙ or-none (one (Some l))

  read-first : (a b : Option LinkRow) → read_forbidden s path token (option_to_list a ++ option_to_list b) ≡ option_or (one a) (one b)
  read-first None b = read-one b
  read-first (Some l) b = read-more l (option_to_list b) ∙ ap (option_or (one (Some l))) (read-one b)

-- WHAT FORBIDS A COMMAND
module _ (law : GuardsAreFound) (first : ℕ) (w : Engine) (s : State) (is : IsOf first w s) where
  found : (path : List ℕ) (kind : CommandKind) (why : Why) → forbidden_in w path kind why ≡ forbidden s path kind why
  found path kind why =
      sym (first-of kind why (committed_in w path) (waiting_in w path))
      ∙ ap (λ (ls : List LinkRow). option_map (with_why why) (find (λ l. forbids_kind l.options kind) ls)) (sym (guards-in law first w s is path))

  read-found : (path : List ℕ) (token : Option Token) → read_forbidden_in w path token ≡ read_forbidden s path token (forbidding s path)
  read-found path token =
      (λ i. option_or (reading_by (is.settings i).key (is.moment i) path token (committed_in w path)) (reading_by (is.settings i).key (is.moment i) path token (waiting_in w path)))
      ∙ sym (read-first s path token (committed_in w path) (waiting_in w path))
      ∙ ap (read_forbidden s path token) (sym (guards-in law first w s is path))

  pub forbids-found : (what : FileWhat) → forbids_in w what ≡ forbids s what
  forbids-found (whats.Create path bytes) = refl
  forbids-found (whats.Write path bytes) = found path kinds.Write whys.Write
  forbids-found (whats.Delete path) = found path kinds.Delete whys.Delete
  forbids-found (whats.Rename path to) = found path kinds.Rename whys.Rename
  forbids-found (whats.Chmod path on) = found path kinds.Chmod whys.Chmod
  forbids-found (whats.Read path token) = read-found path token
  forbids-found whats.List = refl
