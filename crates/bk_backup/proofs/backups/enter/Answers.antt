use Rattle.std.proofs.Common.{◌+◌, List, ap, length, map, subst, ◌∙◌}
use Rattle.dl_codec.specs.Backups.{backup_record}
use Rattle.dl_codec.specs.declared.backups.BackupRecord.TheVariants as records
use Rattle.meaning_areas.specs.Copies.{Backup}
use Rattle.meaning_system.specs.Writes.{image_of}
use Rattle.bk_backup.proofs.backups.enter.Goals as goal

pub returns-clause-number : goal.returns-clause-number
returns-clause-number c = ap (λ (backups : List Backup). length backups + 1) c.as_slice.ensures

pub returns-clause-body : goal.returns-clause-body
returns-clause-body c =
    c.in_ok-body.ensures.body
    ∙ ap (λ (backups : List Backup). backup_record.spelling (records.Backup (length backups + 1) c.args.commit (map image_of c.args.tables.now))) c.as_slice.ensures

pub returns-clause-fits : goal.returns-clause-fits
returns-clause-fits c =
    subst (λ (backups : List Backup). backup_record.fits (records.Backup (length backups + 1) c.args.commit (map image_of c.args.tables.now))) c.as_slice.ensures c.in_ok-body.ensures.fits
