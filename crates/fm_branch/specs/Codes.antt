-- Codes of what contracts see of links and branches.
use Rattle.std.specs.Prelude.{◌≡◌, ℕ, zero, suc, Bool, List, refl}
use Rattle.std.specs.Coded.{Coded, code_by, coded×, coded_ℕ, coded_list, coded_bool}
use Rattle.std.specs.FinMap as maps
use Rattle.std.specs.Ordering.{nat_cmp}
use Rattle.dl_base.specs.declared.column.OnUnlink.{OnUnlink}
use Rattle.dl_base.specs.declared.column.OnUnlink.TheVariants as unlink
use Rattle.dl_base.specs.declared.column.Options.{Options}
use Rattle.dl_base.specs.declared.column.ReadBy.{ReadBy}
use Rattle.dl_base.specs.declared.column.ReadBy.TheVariants as read
use Rattle.dl_base.specs.declared.column.WriteBy.{WriteBy}
use Rattle.dl_base.specs.declared.column.WriteBy.TheVariants as write
use Rattle.dl_base.specs.declared.value.LinkNo.{LinkNo}
use Rattle.dl_base.specs.declared.value.LinkRow.{LinkRow}
use Rattle.dl_codec.specs.declared.links.BranchPhase.{BranchPhase}
use Rattle.dl_codec.specs.declared.links.BranchPhase.TheVariants as phases
use Rattle.meaning_areas.specs.Branches.{Branch, Branches, phase_number}
use Rattle.meaning_areas.specs.Same.{read_number, write_number, unlink_number}
use Rattle.meaning_settling.specs.Keyed.{Keyed}
use Rattle.meaning_settling.specs.Settling.{Moved}

abbrev pub phase_of : ℕ → BranchPhase
phase_of zero = phases.Prepared
phase_of (suc zero) = phases.Committed
phase_of (suc (suc zero)) = phases.Done
phase_of (suc (suc (suc n))) = phases.Aborted

pub phase_again : (p : BranchPhase) → phase_of (phase_number p) ≡ p
phase_again phases.Prepared = refl
phase_again phases.Committed = refl
phase_again phases.Done = refl
phase_again phases.Aborted = refl

abbrev pub read_of : ℕ → ReadBy
read_of zero = read.Fs
read_of (suc n) = read.Db

pub read_again : (r : ReadBy) → read_of (read_number r) ≡ r
read_again read.Fs = refl
read_again read.Db = refl

abbrev pub write_of : ℕ → WriteBy
write_of zero = write.Fs
write_of (suc zero) = write.Blocked
write_of (suc (suc n)) = write.Admin

pub write_again : (w : WriteBy) → write_of (write_number w) ≡ w
write_again write.Fs = refl
write_again write.Blocked = refl
write_again write.Admin = refl

abbrev pub unlink_of : ℕ → OnUnlink
unlink_of zero = unlink.Nothing
unlink_of (suc zero) = unlink.Restore
unlink_of (suc (suc n)) = unlink.Delete

pub unlink_again : (u : OnUnlink) → unlink_of (unlink_number u) ≡ u
unlink_again unlink.Nothing = refl
unlink_again unlink.Restore = refl
unlink_again unlink.Delete = refl

abbrev pub options_code : Coded Options
options_code =
    code_by (ReadBy × (WriteBy × (Bool × OnUnlink)))
    (coded× (code_by ℕ coded_ℕ read_number read_of read_again) (coded× (code_by ℕ coded_ℕ write_number write_of write_again) (coded× coded_bool (code_by ℕ coded_ℕ unlink_number unlink_of unlink_again))))
    (λ o. (o.read, (o.write, (o.recovery, o.unlink)))) (λ p. record { read = p.0; write = p.1.0; recovery = p.1.1.0; unlink = p.1.1.1 }) (λ _. refl)

abbrev pub number_code : Coded LinkNo
number_code = code_by (ℕ × ℕ) (coded× coded_ℕ coded_ℕ) (λ n. (n.tx, n.k)) (λ p. record { tx = p.0; k = p.1 }) (λ _. refl)

abbrev pub row_code : Coded LinkRow
row_code =
    code_by (LinkNo × (List ℕ × Options)) (coded× number_code (coded× (coded_list coded_ℕ) options_code))
    (λ l. (l.link, (l.path, l.options))) (λ p. record { link = p.0; path = p.1.0; options = p.1.1 }) (λ _. refl)

abbrev pub moved_code : Coded Moved
moved_code =
    code_by (List LinkRow × (List LinkRow × Bool)) (coded× (coded_list row_code) (coded× (coded_list row_code) coded_bool))
    (λ m. (m.gives, (m.takes, m.fill))) (λ p. record { gives = p.0; takes = p.1.0; fill = p.1.1 }) (λ _. refl)

abbrev pub branch_code : Coded Branch
branch_code =
    code_by (Moved × BranchPhase) (coded× moved_code (code_by ℕ coded_ℕ phase_number phase_of phase_again))
    (λ b. (b.moved, b.phase)) (λ p. record { moved = p.0; phase = p.1 }) (λ _. refl)

abbrev pub table_code : Coded (maps.FinMap nat_cmp Branch)
table_code = maps.code coded_ℕ branch_code

abbrev pub links_code : Coded (Keyed LinkRow)
links_code = maps.code (coded_list coded_ℕ) row_code

abbrev pub branches_code : Coded Branches
branches_code =
    code_by (ℕ × (maps.FinMap nat_cmp Branch × Keyed LinkRow)) (coded× coded_ℕ (coded× table_code links_code))
    (λ b. (b.opening, (b.table, b.held))) (λ p. record { opening = p.0; table = p.1.0; held = p.1.1 }) (λ _. refl)
