use Rattle.std.proofs.Common.{inl, refl, ap, ◌∙◌, is_none}
use Rattle.std.specs.FinMap as maps
use Rattle.fm_pieces.proofs.Carrying.{still-copied}
use Rattle.fm_pieces.proofs.Guarded.{voted-there}
use Rattle.fm_pieces.proofs.Made.{filtered-fewer, no-more, none-put}
use Rattle.fm_pieces.proofs.laws.pieces_as_they_are_made.Goals as goal
use Rattle.fs_files.specs.Batch.{puts}
use Rattle.meaning_areas.specs.Finishing.{batch_changes, copy_by}
use Rattle.meaning_settling.specs.Settling.{link_key}
use Rattle.meaning_system.specs.State.{moved_of}

pub returns-clause-made : goal.returns-clause-made
returns-clause-made c m k p are = record { copies = still-copied m k k (λ n. inl refl) (λ g is recovers. refl) m.gives p.copies (λ g is. is) are.copies; changes = are.changes }

pub returns-clause-puts : goal.returns-clause-puts
returns-clause-puts c t k p are = ap puts are.changes ∙ none-put (batch_changes (moved_of t) k) (c.a_batch_without_fill_puts_no_file.ensures (moved_of t) k refl)

pub returns-clause-few : goal.returns-clause-few
returns-clause-few c m k p are = no-more (λ g. copy_by g (maps.get k.copies (link_key g.link)) (maps.get k.files g.path)) m.gives p.copies are.copies

pub returns-clause-fewer : goal.returns-clause-fewer
returns-clause-fewer c copies p = filtered-fewer (λ x. is_none (maps.get copies (link_key x.link))) p.copies

pub returns-clause-there : goal.returns-clause-there
returns-clause-there c first f s tx t sound at undecided passes = voted-there first f s sound tx t at undecided passes
