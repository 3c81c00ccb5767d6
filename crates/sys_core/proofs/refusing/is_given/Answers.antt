use Rattle.std.proofs.Common.{◌∙◌, ap}
use Rattle.std.specs.List.{list_any}
use Rattle.meaning_tables.specs.Links.{links, same_number}
use Rattle.meaning_tables.specs.Tables.{Tables}
use Rattle.sys_core.proofs.Refusals.{given-else, given-then}
use Rattle.sys_core.proofs.refusing.is_given.Goals as goal

pub returns-then-has_link : goal.returns-then-has_link
returns-then-has_link c =
    given-then c.args.link (links c.args.txn.now.base) (links c.args.txn.now.copy) c.has_link.result c.has_link-then-has_link.result
    (c.has_link.ensures ∙ ap (λ (t : Tables). list_any (λ l. same_number c.args.link l.link) (links t)) c.base.ensures.value)
    (c.has_link-then-has_link.ensures ∙ ap (λ (t : Tables). list_any (λ l. same_number c.args.link l.link) (links t)) c.tables.ensures.value)
    c.if-has_link.true

pub returns-else-has_link : goal.returns-else-has_link
returns-else-has_link c =
    c.if-has_link.false
    ∙ given-else c.args.link (links c.args.txn.now.base) (links c.args.txn.now.copy) c.has_link.result
    (c.has_link.ensures ∙ ap (λ (t : Tables). list_any (λ l. same_number c.args.link l.link) (links t)) c.base.ensures.value)
    c.if-has_link.false
