use Rattle.dl_token.proofs.Forms.{read_name}
use Rattle.dl_token.proofs.form.token_before.Goals as goal

pub returns : goal.returns
returns c =
    let expiry = c.in_ok-expiry.ensures in
    let mac = c.in_ok-mac.ensures in
    let read = read_name _ _ _ _ _ _ _ c.digit_count.ensures c.split_at.ensures.front c.split_at.ensures.back expiry.0 mac.0 expiry.1 mac.1 mac.2 in
    (read.begins, read.token_is, read.behind)
