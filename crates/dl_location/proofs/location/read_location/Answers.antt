use Rattle.std.proofs.Common.{◌∙◌, ap, sym, ℕ, List, Ok, Some, None}
use Rattle.dl_location.proofs.Cases.{of_bytes, of_url, no_text}
use Rattle.dl_location.proofs.location.read_location.Goals as goal

pub returns-in_default-clause-value : goal.returns-in_default-clause-value
returns-in_default-clause-value c = of_bytes _ _ c.in_default.ensures.cases.0

pub returns-in-Some-clause-value : goal.returns-in-Some-clause-value
returns-in-Some-clause-value c = of_url _ _ _ _ (Some c.in-Some.bad) c.in-Ok.ensures.cases.0 c.in-Ok.ensures.cases.1 c.in-Ok-parse.ensures c.in-Some.ensures.value

pub returns-in-Ok-parse-clause-value : goal.returns-in-Ok-parse-clause-value
returns-in-Ok-parse-clause-value c =
    let url = c.in-Ok-parse.url in
    let kept = c.in_ok-kept-in-None.ensures in
    of_url _ _ _ url None c.in-Ok.ensures.cases.0 c.in-Ok.ensures.cases.1 c.in-Ok-parse.ensures c.in-None.ensures.value
    ∙ ap (λ (l : List ℕ). Ok (l, url.path)) (sym kept.0)
    ∙ ap (λ (p : List ℕ). Ok (c.in_ok-kept-in-None.field-0.0, p)) (sym kept.1)

pub returns-in-Some-clause-no_text : goal.returns-in-Some-clause-no_text
returns-in-Some-clause-no_text c = no_text _ c.in-Ok.ensures.cases.1

pub returns-in_err-kept-in-None-clause-no_text : goal.returns-in_err-kept-in-None-clause-no_text
returns-in_err-kept-in-None-clause-no_text c = no_text _ c.in-Ok.ensures.cases.1

pub returns-in-Ok-parse-clause-no_text : goal.returns-in-Ok-parse-clause-no_text
returns-in-Ok-parse-clause-no_text c = no_text _ c.in-Ok.ensures.cases.1

pub returns-in-Err-OutOfMemory-clause-no_text : goal.returns-in-Err-OutOfMemory-clause-no_text
returns-in-Err-OutOfMemory-clause-no_text c = no_text _ c.in-Ok.ensures.cases.1

pub returns-in-Err-Overflow-clause-no_text : goal.returns-in-Err-Overflow-clause-no_text
returns-in-Err-Overflow-clause-no_text c = no_text _ c.in-Ok.ensures.cases.1
