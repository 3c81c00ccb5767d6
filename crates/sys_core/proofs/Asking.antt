-- WHETHER A CLAIM IS ASKED FOR, and how it ends.
use Rattle.std.proofs.Common.{◌≡◌, inl, inr, ℕ, Bool, true, false, ◌||◌, List, Some, None, refl, sym, ◌∙◌, ap, subst}
use Rattle.std.specs.FinMap as maps
use Rattle.db_txn.specs.Transaction.{Transaction}
use Rattle.dl_base.specs.declared.answer.Refusal.{Refusal}
use Rattle.dl_base.specs.declared.value.LinkRow.{LinkRow}
use Rattle.meaning_tables.specs.Links.{gives, takes}
use Rattle.sys_core.specs.Claiming.{EndsClaim, HasClaimed, claim_refusal_in, claims_same, is_unasked, left_tables}
use Rattle.sys_core.specs.declared.engine.Engine.{Engine}

module _ (w : Engine) (tx : ℕ) (v : Transaction) (r : Bool) (left : r ≡ left_tables v.kept) where
  -- the evaluation left the tables as they were
  pub ends-left : r ≡ true → EndsClaim w w tx v None
  ends-left e = inl (record {
    unasked = ap (λ b. b || claims_same (gives v.base v.copy) (takes v.base v.copy) (maps.get w.seats tx)) (sym left ∙ e);
    same = refl;
  })

  module _ (given taken : List LinkRow) (gives_is : given ≡ gives v.base v.copy) (takes_is : taken ≡ takes v.base v.copy) (m : Bool) (alike : m ≡ claims_same given taken (maps.get w.seats tx)) where
    asks : is_unasked w tx v ≡ (r || m)
    asks = λ i. sym left i || (sym alike-all i)
      where
        alike-all : m ≡ claims_same (gives v.base v.copy) (takes v.base v.copy) (maps.get w.seats tx)
        alike-all = alike ∙ (λ j. claims_same (gives_is j) (takes_is j) (maps.get w.seats tx))

    -- the links are claimed already
    pub ends-alike : r ≡ false → m ≡ true → EndsClaim w w tx v None
    ends-alike e f = inl (record { unasked = asks ∙ (λ i. e i || f i); same = refl })

    -- they are refused
    pub ends-denied : r ≡ false → m ≡ false → (why : Refusal) → Some why ≡ claim_refusal_in w tx v → EndsClaim w w tx v (Some why)
    ends-denied e f why is = record { asked = asks ∙ (λ i. e i || f i); denied = sym is; same = refl }

    -- they are claimed
    pub ends-claimed : r ≡ false → m ≡ false → None ≡ claim_refusal_in w tx v → (u : Engine) → HasClaimed w u tx given taken → EndsClaim w u tx v None
    ends-claimed e f is u has = inr (record {
      asked = asks ∙ (λ i. e i || f i);
      accepted = sym is;
      claims = subst (λ (ts : List LinkRow). HasClaimed w u tx (gives v.base v.copy) ts) takes_is (subst (λ (gs : List LinkRow). HasClaimed w u tx gs taken) gives_is has);
    })
