use Rattle.db_changes.proofs.Following.{follows-add, follows-drop, follows-itself, follows-put}
use Rattle.db_changes.proofs.laws.a_copy_follows_its_base.Goals as goal

pub returns-clause-follows_itself : goal.returns-clause-follows_itself
returns-clause-follows_itself c = follows-itself

pub returns-clause-follows_after_put : goal.returns-clause-follows_after_put
returns-clause-follows_after_put c base copy name was now of is same = follows-put name was now of is same

pub returns-clause-follows_after_drop : goal.returns-clause-follows_after_drop
returns-clause-follows_after_drop c base copy name of = follows-drop name of

pub returns-clause-follows_after_add : goal.returns-clause-follows_after_add
returns-clause-follows_after_add c base copy name now of none = follows-add name now of none
