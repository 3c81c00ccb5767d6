-- Areas are opened one after another.
use Rattle.std.proofs.Common.{◌≡◌, ◌≢◌, inl, inr, ⊎_elim, ◌+◌, ◌<◌, ◌≤◌, ℕ, List, refl, sym, ◌∙◌, ap, subst, arith, Option, Some, Result, Ok}
use Rattle.dl_base.proofs.Areas.{same_area, same_number}
use Rattle.dl_base.proofs.Moments.{moments_none, moments_then, moments_touch}
use Rattle.dl_base.specs.Areas.{area_number}
use Rattle.dl_base.specs.Outside.{Outside, CrashState, During, IsLawful}
use Rattle.dl_base.specs.declared.area.Area.{Area}
use Rattle.dl_base.specs.declared.area.Area.TheVariants.{Rows, Links, Files, Archive, Backups}
use Rattle.dl_journal.specs.Extent.{Extent}
use Rattle.dl_journal.specs.Open.{IsOpening, IsList, ReadsSameList}
use Rattle.dl_journal.specs.Records.{records, size}
use Rattle.dl_areas.specs.Lists.{Lists, Journals, AreReady, AreKept}
use Rattle.dl_areas.specs.Opening.{OpensOne, IsOpened, IsInOpening, Opens, AreOpened, AreRead, journals_with}

pub opens-none : (o : Outside) → Opens 0 o o
opens-none o = record {
  moments = moments_none (IsInOpening o) o;
  told = refl;
  images = λ a c left. inl left;
  same_list = λ a told c was is. ap records (some_is told c (sym was ∙ is));
  still = λ a le. refl;
}
  where
    some_is : (x y : List ℕ) → Some x ≡ Some y → y ≡ x
    some_is x y e = cc

-- one more
pub opens-more : (k : ℕ) (a : Area) (o m n : Outside) → k ≤ area_number a → Opens k o m → OpensOne a m n → Opens (area_number a + 1) o n
opens-more k a o m n le so_far one = record {
  moments = moments_then (IsInOpening o) o m n so_far.moments (moments_touch a (IsOpening a m) (IsInOpening o) m n during one.images);
  told = one.images.told ∙ so_far.told;
  images = λ b c left. ⊎_elim
      (λ (is : b ≡ a). let P : Area → Type 0 = λ x. n.image x c → IsOpening x o c in subst P (sym is) (λ l. here c (one.images.here c l)) left)
      (λ other. so_far.images b c (one.images.others b other c left)) (same_area b a);
  same_list = λ b. ⊎_elim
      (λ (is : b ≡ a). let P : Area → Type 0 = λ x. ReadsSameList (o.reads x) (n.reads x) in subst P (sym is) (λ told c was now. one.same_list told c (so_far.still a le ∙ was) now))
      (λ other told c was now. so_far.same_list b told c was (sym (one.images.others_read b other) ∙ now)) (same_area b a);
  still = λ b over. one.images.others_read b (λ (is : b ≡ a). absurd (apart b is over)) ∙ so_far.still b (omega (arith, le, over));
}
  where
    -- what is an image of this opening is one of the whole
    here : (c : List ℕ) → IsOpening a m c → IsOpening a o c
    here c opening = ⊎_elim (λ was. so_far.images a c was)
        (λ (list : (told : List ℕ) × (m.reads a ≡ Some told) × (records c ≡ records told)). inr (list.0, sym (so_far.still a le) ∙ list.1, list.2)) opening

    during : (p : CrashState) → During a (IsOpening a m) m p → IsInOpening o p
    during p d = record {
      told = sym so_far.told ∙ d.told;
      areas = λ b. ⊎_elim
          (λ (is : b ≡ a). let P : Area → Type 0 = λ x. IsOpening x o (p.areas x) in subst P (sym is) (here (p.areas a) d.here))
          (λ other. so_far.images b (p.areas b) (d.others b other)) (same_area b a);
    }

    apart : (b : Area) → b ≡ a → area_number a + 1 ≤ area_number b → ⊥
    apart b is over = let e : area_number b ≡ area_number a = ap area_number is in omega (arith, e, over)

-- the others are as they were: more may be said to be opened
pub opens-most : (k l : ℕ) (o n : Outside) → k ≤ l → Opens k o n → Opens l o n
opens-most k l o n le d = record { moments = d.moments; told = d.told; images = d.images; same_list = d.same_list; still = λ a over. d.still a (omega (arith, le, over)) }

-- the first areas, in order

pub opens-1 : (o m1 : Outside) → OpensOne Rows o m1 → Opens 1 o m1
opens-1 o m1 r = opens-more 0 Rows o o m1 (omega arith) (opens-none o) r

pub opens-2 : (o m1 m2 : Outside) → OpensOne Rows o m1 → OpensOne Links m1 m2 → Opens 2 o m2
opens-2 o m1 m2 r l = opens-more 1 Links o m1 m2 (omega arith) (opens-1 o m1 r) l

pub opens-3 : (o m1 m2 m3 : Outside) → OpensOne Rows o m1 → OpensOne Links m1 m2 → OpensOne Files m2 m3 → Opens 3 o m3
opens-3 o m1 m2 m3 r l f = opens-more 2 Files o m2 m3 (omega arith) (opens-2 o m1 m2 r l) f

pub opens-4 : (o m1 m2 m3 m4 : Outside) → OpensOne Rows o m1 → OpensOne Links m1 m2 → OpensOne Files m2 m3 → OpensOne Archive m3 m4 → Opens 4 o m4
opens-4 o m1 m2 m3 m4 r l f a = opens-more 3 Archive o m3 m4 (omega arith) (opens-3 o m1 m2 m3 r l f) a

pub opens-5 : (o m1 m2 m3 m4 m5 : Outside) → OpensOne Rows o m1 → OpensOne Links m1 m2 → OpensOne Files m2 m3 → OpensOne Archive m3 m4 → OpensOne Backups m4 m5 → Opens 5 o m5
opens-5 o m1 m2 m3 m4 m5 r l f a b = opens-more 4 Backups o m4 m5 (omega arith) (opens-4 o m1 m2 m3 m4 r l f a) b

-- the areas that are open

pub opened-none : (limit : ℕ) (js : Journals) (lists : Lists) (o : Outside) → AreOpened 0 limit js lists o o
opened-none limit js lists o = record { opens = opens-none o; opened = λ a below. absurd (omega (arith, below)); clean = refl }

-- an area that was opened behind others
opened-since : (k : ℕ) (a : Area) (limit : ℕ) (j : Extent) (bodies : List (List ℕ)) (o m n : Outside) → k ≤ area_number a → Opens k o m → m.faults ≡ o.faults → IsOpened a limit j bodies m n → IsOpened a limit j bodies o n
opened-since k a limit j bodies o m n le so_far clean is = record {
  area = is.area;
  limit_is = is.limit_is;
  is_list = subst (λ (r : Option (List ℕ)). IsList bodies r) (so_far.still a le) is.is_list;
  keeps = is.keeps;
  gate = is.gate;
  clean = is.clean ∙ clean;
}

-- an area stays open while another is opened
opened-still : (a b : Area) (limit : ℕ) (j : Extent) (bodies : List (List ℕ)) (o m n : Outside) → a ≢ b → OpensOne b m n → n.faults ≡ m.faults → IsOpened a limit j bodies o m → IsOpened a limit j bodies o n
opened-still a b limit j bodies o m n other one clean is =
    let apart : j.area ≢ b = λ e. other (sym is.area ∙ e) in
    record {
      area = is.area;
      limit_is = is.limit_is;
      is_list = is.is_list;
      keeps = record { length = is.keeps.length; fits = is.keeps.fits; images = λ c left. is.keeps.images c (one.images.others j.area apart c left) };
      gate = λ told reads. is.gate told (sym (one.images.others_read j.area apart) ∙ reads);
      clean = clean ∙ is.clean;
    }

pub opened-more : (a : Area) (limit : ℕ) (js : Journals) (lists : Lists) (o m n : Outside) → AreOpened (area_number a) limit js lists o m → OpensOne a m n → IsOpened a limit (js a) (lists a) m n
    → AreOpened (area_number a + 1) limit js lists o n
opened-more a limit js lists o m n so_far one is = record {
  opens = opens-more (area_number a) a o m n (omega arith) so_far.opens one;
  opened = λ b below. ⊎_elim
      (λ (e : b ≡ a). let P : Area → Type 0 = λ x. IsOpened x limit (js x) (lists x) o n in subst P (sym e) (opened-since (area_number a) a limit (js a) (lists a) o m n (omega arith) so_far.opens so_far.clean is))
      (λ (other : b ≢ a). opened-still b a limit (js b) (lists b) o m n other one is.clean (so_far.opened b (under b other below)))
      (same_area b a);
  clean = is.clean ∙ so_far.clean;
}
  where
    under : (b : Area) → b ≢ a → area_number b < area_number a + 1 → area_number b < area_number a
    under b other below = let apart : area_number b ≢ area_number a = λ e. other (same_number b a e) in omega (arith, apart, below)

-- all five
module _ (limit : ℕ) (js : Journals) (lists : Lists) (o n : Outside) (all : AreOpened 5 limit js lists o n) where
  pub opened-each : (a : Area) → IsOpened a limit (js a) (lists a) o n
  opened-each Rows = all.opened Rows (omega arith)
  opened-each Links = all.opened Links (omega arith)
  opened-each Files = all.opened Files (omega arith)
  opened-each Archive = all.opened Archive (omega arith)
  opened-each Backups = all.opened Backups (omega arith)

  pub opened-ready : AreReady js n
  opened-ready = record { areas = λ a. (opened-each a).area; gates = λ a. (opened-each a).gate }

  pub opened-kept : AreKept js lists n
  opened-kept = λ a. (opened-each a).keeps

  pub opened-journals : js ≡ journals_with limit lists
  opened-journals = λ i a. at a i
    where
      extent_is : (j : Extent) (a : Area) (m l : ℕ) → j.area ≡ a → j.length ≡ m → j.limit ≡ l → j ≡ record { area = a; length = m; limit = l }
      extent_is j a m l e f g = λ i. record { area = e i; length = f i; limit = g i }

      at : (a : Area) → js a ≡ journals_with limit lists a
      at a = extent_is (js a) a (size (lists a) + 1) limit (opened-each a).area (opened-each a).keeps.length (opened-each a).limit_is

  pub opened-lists : (read : Lists) → AreRead read o → lists ≡ read
  opened-lists read is = λ i a. at a i
    where
      ok_same : (x y : List (List ℕ)) → ◌≡◌ {A = Result (List (List ℕ)) ℕ} (Ok x) (Ok y) → x ≡ y
      ok_same x y e = cc

      at : (a : Area) → lists a ≡ read a
      at a = let r = is a in ok_same (lists a) (read a) (sym ((opened-each a).is_list r.0 r.1) ∙ r.2)

-- the five, in order
module _ (limit : ℕ) (js : Journals) (lists : Lists) (o m1 m2 m3 m4 m5 : Outside) where
  pub opened-5 : OpensOne Rows o m1 → IsOpened Rows limit (js Rows) (lists Rows) o m1
      → OpensOne Links m1 m2 → IsOpened Links limit (js Links) (lists Links) m1 m2
      → OpensOne Files m2 m3 → IsOpened Files limit (js Files) (lists Files) m2 m3
      → OpensOne Archive m3 m4 → IsOpened Archive limit (js Archive) (lists Archive) m3 m4
      → OpensOne Backups m4 m5 → IsOpened Backups limit (js Backups) (lists Backups) m4 m5
      → AreOpened 5 limit js lists o m5
  opened-5 r jr l jl f jf a ja b jb = opened-more Backups limit js lists o m4 m5 (opened-more Archive limit js lists o m3 m4 (opened-more Files limit js lists o m2 m3
      (opened-more Links limit js lists o m1 m2 (opened-more Rows limit js lists o o m1 (opened-none limit js lists o) r jr) l jl) f jf) a ja) b jb

-- at a moment of an opening the areas have the lists of some images of the begin
pub opening-mixed : (o : Outside) → IsLawful o → (p : CrashState) → IsInOpening o p → (q : Area → List ℕ) × ((a : Area) → o.image a (q a)) × ((a : Area) → records (q a) ≡ records (p.areas a))
opening-mixed o lawful p is = (λ a. (entry a).0, λ a. (entry a).1, λ a. (entry a).2)
  where
    entry : (a : Area) → (d : List ℕ) × o.image a d × (records d ≡ records (p.areas a))
    entry a = ⊎_elim
        (λ (was : o.image a (p.areas a)). (p.areas a, was, refl))
        (λ (list : (told : List ℕ) × (o.reads a ≡ Some told) × (records (p.areas a) ≡ records told)). (list.0, lawful.as_it_reads a list.0 list.1, sym list.2))
        (is.areas a)
