use Rattle.dl_codec.specs.Links.{links_record}
use Rattle.fm_branch.proofs.write.done_body.Goals as goal

pub returns : goal.returns
unfolding links_record
returns c = c.tagged.ensures
