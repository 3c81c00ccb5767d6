use Rattle.std.proofs.Common.{◌≡◌, ℕ, List, ◌++◌, ◌-◌, length, take, drop, sym, ap, ◌∙◌, arith, append_assoc, length-drop}
use Rattle.std.proofs.Math.Seq.{take-length}
use Rattle.dl_base.specs.declared.statement.TableRef.{TableRef}
use Rattle.sql_grammar.specs.declared.print_token.PrintToken.{PrintToken}
use Rattle.sql_grammar.specs.Printing.{source_text, more_text, joins_text, following_text}
use Rattle.sql_print.proofs.Lists.{following_parts}
use Rattle.sql_print.proofs.printing.put_following.Goals as goal

-- all of what is left
all_left : (n : ℕ) (ss : List TableRef) → take (length ss - n) (drop n ss) ≡ drop n ss
all_left n ss = ap (λ k. take k (drop n ss)) (sym (length-drop n ss)) ∙ take-length (drop n ss)

pub returns : goal.returns
returns c =
    let ss = c.args.sources.now in
    let cs = c.args.conditions.now in
    let n = c.saturating_sub-plain.result in
    let old = c.args.out.now in
    let m = more_text source_text (take n ss) in
    let n-is = c.saturating_sub-plain.ensures in
    c.in_ok-put_joins.ensures ∙ ap (λ (ts : List TableRef). c.put_more.new.out ++ joins_text ts cs) (all_left n ss) ∙ ap (λ (y : List PrintToken). y ++ joins_text (drop n ss) cs) c.in_ok-put_more.ensures ∙ append_assoc old m (joins_text (drop n ss) cs)
    ∙ ap (λ (y : List PrintToken). old ++ y) (sym (following_parts n ss cs (omega (arith, n-is)))) ∙ ap (λ (k : ℕ). old ++ following_text k ss cs) n-is
