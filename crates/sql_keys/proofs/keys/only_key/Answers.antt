use Rattle.sql_keys.proofs.OnlyKey.{is_key_at}
use Rattle.sql_keys.proofs.keys.only_key.Goals as goal

pub returns-clause-key : goal.returns-clause-key
returns-clause-key c = is_key_at c.args.columns.now c.place_of_key.result c.place_of_key.ensures
