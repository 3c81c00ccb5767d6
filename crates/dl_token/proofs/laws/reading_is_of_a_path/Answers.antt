use Rattle.std.proofs.Common.{refl, sym, ◌∙◌}
use Rattle.dl_token.proofs.Readings.{none_read, read_is, reads_back}
use Rattle.dl_token.proofs.laws.reading_is_of_a_path.Goals as goal

pub returns-clause-found : goal.returns-clause-found
returns-clause-found c text path t = (read_is text path t, reads_back text path t)

pub returns-clause-absent : goal.returns-clause-absent
returns-clause-absent c text = (λ none path t is. cc (sym none ∙ reads_back text path t is), none_read text)

pub returns-clause-back : goal.returns-clause-back
returns-clause-back c path t is_path is_token = reads_back _ path t (record { is_path = is_path; is_token = is_token; is_text = refl })
