use Rattle.std.proofs.Common.{ℕ, List, map}
use denote.Ref.{Bor}
use Rattle.sql_change.proofs.StoodKeys.{number_put, text_put, null_put, link_put}
use Rattle.sql_change.proofs.keys.is_new.Goals as goal

pub returns-in-Int : goal.returns-in-Int
returns-in-Int c = λ stood have.
    number_put c.number_is_new.result c.args.key.now c.in-Int.z c.args.numbers.now.keys c.number_is_new.new.numbers.keys (map (λ (t : Bor (List ℕ)). t.now) c.args.texts.now.keys) stood c.in-Int.is have c.number_is_new.ensures.new c.number_is_new.ensures.put

pub returns-in-Text : goal.returns-in-Text
returns-in-Text c = λ stood have.
    text_put c.text_is_new.result c.args.key.now c.in-Text.text c.args.numbers.now.keys (map (λ (t : Bor (List ℕ)). t.now) c.args.texts.now.keys) (map (λ (t : Bor (List ℕ)). t.now) c.text_is_new.new.texts.keys) stood c.in-Text.is have (rw c.bytes.ensures at c.text_is_new.ensures.new) (rw c.bytes.ensures at c.text_is_new.ensures.put)

pub returns-in-Null : goal.returns-in-Null
returns-in-Null c = λ stood have. null_put c.args.key.now c.args.numbers.now.keys (map (λ (t : Bor (List ℕ)). t.now) c.args.texts.now.keys) stood c.in-Null.is have

pub returns-in-Link : goal.returns-in-Link
returns-in-Link c = λ stood have. link_put c.args.key.now c.in-Link.field-0 c.args.numbers.now.keys (map (λ (t : Bor (List ℕ)). t.now) c.args.texts.now.keys) stood c.in-Link.is have
