use Rattle.std.proofs.Common.{◌≡◌, [], Bool, Some, ap, arith, subst, sym}
use Rattle.std.specs.Bool.{Decides}
use Rattle.compare_files.proofs.OfPast.{all-so-far, one-not, past-decides, so-far-more, so-far-none}
use Rattle.compare_files.proofs.backups.backups_compare.Goals as goal
use Rattle.meaning_areas.specs.Stands.{past}
use Rattle.meaning_tables.specs.Tables.{Tables}

pub loop-n-init : goal.loop-n-init
loop-n-init c = record {
  reached = ap (λ (t : Tables). Some t) (sym c.empty.ensures);
  so_far = so-far-none (λ b. past [] c.args.store.now.rows.commits b.commit ≡ Some b.tables) c.args.backups.now.backups;
}

pub loop-n-preserved : goal.loop-n-preserved
loop-n-preserved c = record {
  reached = c.in_ok-backup_fits.ensures.reached;
  so_far = so-far-more (λ b. past [] c.args.store.now.rows.commits b.commit ≡ Some b.tables) c.args.backups.now.backups c.loop-n.n c.loop-n.invariant.so_far
      (λ b at. subst (λ (r : Bool). Decides r (past [] c.args.store.now.rows.commits b.commit ≡ Some b.tables)) c.if-not-branch.false (c.in_ok-backup_fits.ensures.fits b at));
}

pub returns-then-not-branch : goal.returns-then-not-branch
returns-then-not-branch c = past-decides c.args.store.now.rows c.args.backups.now.backups _
    (one-not (λ b. past [] c.args.store.now.rows.commits b.commit ≡ Some b.tables) c.args.backups.now.backups c.loop-n.n (omega (arith, c.loop-n-test.true, c.len-n-end.ensures))
    (λ b at. subst (λ (r : Bool). Decides r (past [] c.args.store.now.rows.commits b.commit ≡ Some b.tables)) c.if-not-branch.true (c.in_ok-backup_fits.ensures.fits b at)))

pub returns : goal.returns
returns c = past-decides c.args.store.now.rows c.args.backups.now.backups _
    (all-so-far (λ b. past [] c.args.store.now.rows.commits b.commit ≡ Some b.tables) c.args.backups.now.backups c.loop-n.n (omega (arith, c.loop-n-test.false, c.len-n-end.ensures)) c.loop-n.invariant.so_far)
