-- Parts that come from a list of items, and pages that come from a row of parts.
use Rattle.std.proofs.Common.{◌≡◌, ℕ, List, [], ◌∷◌, ◌++◌, length, sym, ap, ◌∙◌, arith, append_assoc}
use Rattle.std.proofs.lemmas.List.{append-nil}
use Rattle.dl_pages.specs.Listing.{flatten}
use Rattle.dl_pages.proofs.Parts.{flatten-append, flatten_push}

module _ {T : Type 0} where
  -- the next item goes to the end of a row
  pub item_taken : (made more row next left rest items full : List T) (x : T) → more ++ next ≡ made ++ row → full ≡ next ++ x ∷ [] → left ≡ x ∷ rest → made ++ (row ++ left) ≡ items → more ++ (full ++ rest) ≡ items
  item_taken made more row next left rest items full x same is has all = ap (λ l. more ++ (l ++ rest)) is ∙ ap (λ l. more ++ l) (append_assoc next (x ∷ []) rest) ∙ sym (append_assoc more next (x ∷ rest)) ∙ ap (λ l. l ++ x ∷ rest) same ∙ append_assoc made row (x ∷ rest) ∙ ap (λ l. made ++ (row ++ l)) (sym has) ∙ all

  -- a full row becomes a part behind those that were made
  pub row_put : (made more : List (List T × ℕ)) (part : List T × ℕ) (row : List T) → more ≡ made ++ part ∷ [] → part.0 ≡ row → flatten more ≡ flatten made ++ row
  row_put made more part row is one = ap flatten is ∙ flatten_push made part ∙ ap (λ l. flatten made ++ l) one

  -- and no item is left
  pub row_ends : (made row rest items : List T) → length rest ≡ 0 → made ++ (row ++ rest) ≡ items → made ++ row ≡ items
  row_ends made row [] items none all = ap (λ l. made ++ l) (sym (append-nil row)) ∙ all
  row_ends made row (x ∷ rest) items none all = absurd (omega (arith, none))

  -- the next few parts become a page behind those that were made
  pub page_made : (made more few left rest parts : List (List T × ℕ)) (page : List T × ℕ) → more ≡ made ++ page ∷ [] → page.0 ≡ flatten few → left ≡ few ++ rest → flatten made ++ flatten left ≡ flatten parts → flatten more ++ flatten rest ≡ flatten parts
  page_made made more few left rest parts page is one next all = ap (λ l. flatten l ++ flatten rest) is ∙ ap (λ l. l ++ flatten rest) (flatten_push made page) ∙ append_assoc (flatten made) page.0 (flatten rest) ∙ ap (λ l. flatten made ++ (l ++ flatten rest)) one ∙ ap (λ l. flatten made ++ l) (sym (ap flatten next ∙ flatten-append few rest)) ∙ all
