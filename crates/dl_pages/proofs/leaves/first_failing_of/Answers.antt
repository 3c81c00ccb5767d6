use Rattle.std.proofs.Common.{rules}
use Rattle.std.proofs.lemmas.List.Sorted.{IsPartitionPoint-from_clause}
use Rattle.dl_pages.proofs.Rows.{partitioned_by, point_of}
use Rattle.dl_pages.proofs.leaves.first_failing_of.Goals as goal

pub returns-clause-point : goal.returns-clause-point
returns-clause-point g c f = point_of (g.F.Predicate.test c.args.predicate.now) c.args.row.now c.partition_point-place.result c.partition_point-place.ensures.bound (IsPartitionPoint-from_clause (g.F.Predicate.test c.args.predicate.now) c.args.row.now c.partition_point-place.result c.partition_point-place.ensures.partitioned (partitioned_by (g.F.Predicate.test c.args.predicate.now) c.args.row.now f) (λ a r q k. search rules))
