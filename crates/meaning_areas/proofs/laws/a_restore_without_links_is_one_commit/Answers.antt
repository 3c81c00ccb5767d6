use Rattle.meaning_areas.proofs.Restored.{restore-plain}
use Rattle.meaning_areas.proofs.laws.a_restore_without_links_is_one_commit.Goals as goal

pub returns : goal.returns
returns c f k d joint small = restore-plain f k joint small d
