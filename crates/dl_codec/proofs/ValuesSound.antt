-- The layouts that the areas of tables and links share are sound.
use Rattle.std.proofs.Common.{◌≡◌, ℕ, zero, suc, ◌≤◌, List, [], ◌∷◌, ◌++◌, length, take, drop, false, ltb, Option, Some, refl, sym, subst, arith}
use Rattle.std.proofs.lemmas.Bool.{ltb-false, le-ltb}
use Rattle.std.proofs.lemmas.List.{take_at, drop_at, take-append-drop, length-append, length-take}
use Rattle.dl_base.specs.declared.column.ColumnRule.TheVariants as rules
use Rattle.dl_base.specs.declared.column.Kind.{Kind}
use Rattle.dl_base.specs.declared.column.Kind.TheVariants as kinds
use Rattle.dl_base.specs.declared.column.OnUnlink.{OnUnlink}
use Rattle.dl_base.specs.declared.column.OnUnlink.TheVariants as unlink
use Rattle.dl_base.specs.declared.column.ReadBy.{ReadBy}
use Rattle.dl_base.specs.declared.column.ReadBy.TheVariants as read
use Rattle.dl_base.specs.declared.column.WriteBy.{WriteBy}
use Rattle.dl_base.specs.declared.column.WriteBy.TheVariants as write
use Rattle.dl_base.specs.declared.column.ColumnRule.{ColumnRule}
use Rattle.dl_base.specs.declared.value.Value.{Value}
use Rattle.dl_base.specs.declared.value.Value.TheVariants as values
use Rattle.dl_base.specs.Steps.{◌>>=◌}
use Rattle.dl_codec.specs.Layout.{IsBytes, Takes, IsSound, u32, u64, i64, text, bare}
use Rattle.dl_codec.proofs.Sound.{bind_some, guard_some, some_is, tag_takes, bare_takes, u32_sound, u64_sound, i64_sound, bool_sound, text_sound, path_sound, name_sound, option_sound, pair_sound, along_sound, only_sound}
use Rattle.dl_codec.specs.Values.{case, exactly, link_number, read_byte, read_of, write_byte, write_of, unlink_byte, unlink_of, options_of, fields_of_options, options, kind, rule_byte, rule_of, column_of, fields_of_column, column, datalink_of, fields_of_datalink, datalink, value, link_row_of, fields_of_link_row, link_row}
use Rattle.meaning_tables.specs.OptionRows.{is_option_row}

module _ {A : Type 0} (byte : A → ℕ) (of : ℕ → Option A) (back : (b : ℕ) (a : A) → of b ≡ Some a → byte a ≡ b) where
  case_takes : (bytes : List ℕ) (a : A) (rest : List ℕ) → IsBytes bytes → (case byte of).reading bytes ≡ Some (a, rest) → Takes (case byte of) bytes a rest
  case_takes [] a rest fits e = absurd cc
  case_takes (b ∷ bytes) a rest fits e =
      let c = bind_some (of b) (λ x. bare x bytes) (a, rest) e in
      let is : byte c.0 ≡ b = back b c.0 c.1 in
      let all : Takes (case byte of) (b ∷ bytes) c.0 bytes = record { parts = rw is refl; fit = rw is c.1 } in
      subst (λ (x : A × List ℕ). Takes (case byte of) (b ∷ bytes) x.0 x.1) (some_is (c.0, bytes) (a, rest) c.2) all

  pub case_sound : IsSound (case byte of)
  case_sound = record { takes = case_takes; again = λ a rest fits. rw fits refl }

pub exactly_sound : (n : ℕ) → IsSound (exactly n)
exactly_sound n = record {
  takes = λ bytes x rest fits e.
      let g = guard_some (ltb (length bytes) n) (take n bytes, drop n bytes) (x, rest) e in
      let long : n ≤ length bytes = ltb-false _ _ g.0 in
      let len : length (take n bytes) ≡ n = omega (arith, length-take n bytes) in
      let all : Takes (exactly n) bytes (take n bytes) (drop n bytes) = record { parts = sym (take-append-drop n bytes); fit = len } in
      subst (λ (y : List ℕ × List ℕ). Takes (exactly n) bytes y.0 y.1) g.1 all;
  again = λ x rest fits.
      let long : ltb (length (x ++ rest)) n ≡ false = le-ltb _ _ (omega (arith, fits, length-append x rest)) in
      rw (long, take_at x rest n fits, drop_at x rest n fits) refl;
}

pub link_number_sound : IsSound link_number
unfolding link_number
link_number_sound = along_sound _ _ _ (λ _. refl) (λ _. refl) (pair_sound u64 u32 u64_sound u32_sound)

read_back : (b : ℕ) (r : ReadBy) → read_of b ≡ Some r → read_byte r ≡ b
read_back zero read.Fs e = refl
read_back zero read.Db e = absurd cc
read_back (suc zero) read.Fs e = absurd cc
read_back (suc zero) read.Db e = refl
read_back (suc (suc b)) r e = absurd cc

write_back : (b : ℕ) (w : WriteBy) → write_of b ≡ Some w → write_byte w ≡ b
write_back zero write.Fs e = refl
write_back zero write.Blocked e = absurd cc
write_back zero write.Admin e = absurd cc
write_back (suc zero) write.Fs e = absurd cc
write_back (suc zero) write.Blocked e = refl
write_back (suc zero) write.Admin e = absurd cc
write_back (suc (suc b)) w e = absurd cc

unlink_back : (b : ℕ) (u : OnUnlink) → unlink_of b ≡ Some u → unlink_byte u ≡ b
unlink_back zero unlink.Nothing e = refl
unlink_back zero unlink.Restore e = absurd cc
unlink_back zero unlink.Delete e = absurd cc
unlink_back (suc zero) unlink.Nothing e = absurd cc
unlink_back (suc zero) unlink.Restore e = refl
unlink_back (suc zero) unlink.Delete e = absurd cc
unlink_back (suc (suc zero)) unlink.Nothing e = absurd cc
unlink_back (suc (suc zero)) unlink.Restore e = absurd cc
unlink_back (suc (suc zero)) unlink.Delete e = refl
unlink_back (suc (suc (suc b))) u e = absurd cc

rule_back : (b : ℕ) (r : ColumnRule) → rule_of b ≡ Some r → rule_byte r ≡ b
rule_back zero rules.Plain e = refl
rule_back zero rules.NotNull e = absurd cc
rule_back zero rules.Key e = absurd cc
rule_back (suc zero) rules.Plain e = absurd cc
rule_back (suc zero) rules.NotNull e = refl
rule_back (suc zero) rules.Key e = absurd cc
rule_back (suc (suc zero)) rules.Plain e = absurd cc
rule_back (suc (suc zero)) rules.NotNull e = absurd cc
rule_back (suc (suc zero)) rules.Key e = refl
rule_back (suc (suc (suc b))) r e = absurd cc

pub options_sound : IsSound options
unfolding options
options_sound = only_sound is_option_row _ (along_sound options_of fields_of_options _ (λ _. refl) (λ _. refl)
    (pair_sound _ _ (case_sound read_byte read_of read_back) (pair_sound _ _ (case_sound write_byte write_of write_back) (pair_sound _ _ bool_sound (case_sound unlink_byte unlink_of unlink_back)))))

kind_takes : (bytes : List ℕ) (x : Kind) (rest : List ℕ) → IsBytes bytes → kind.reading bytes ≡ Some (x, rest) → Takes kind bytes x rest
unfolding kind
kind_takes [] x rest fits e = absurd cc
kind_takes (zero ∷ bytes) x rest fits e = absurd cc
kind_takes (suc zero ∷ bytes) x rest fits e = bare_takes kinds.Int kind 1 refl tt bytes x rest e
kind_takes (suc (suc zero) ∷ bytes) x rest fits e = tag_takes (λ most. kinds.Text most) u32 kind 2 u32_sound (λ a. refl) (λ a h. h) bytes x rest fits e
kind_takes (suc (suc (suc zero)) ∷ bytes) x rest fits e = bare_takes kinds.Free kind 3 refl tt bytes x rest e
kind_takes (suc (suc (suc (suc zero))) ∷ bytes) x rest fits e = tag_takes (λ o. kinds.Linked o) options kind 4 options_sound (λ a. refl) (λ a h. h) bytes x rest fits e
kind_takes (suc (suc (suc (suc (suc b)))) ∷ bytes) x rest fits e = absurd cc

kind_again : (x : Kind) (rest : List ℕ) → kind.fits x → kind.reading (kind.spelling x ++ rest) ≡ Some (x, rest)
unfolding kind
kind_again kinds.Int rest fits = refl
kind_again (kinds.Text most) rest fits = rw (u32_sound.again most rest fits) refl
kind_again kinds.Free rest fits = refl
kind_again (kinds.Linked o) rest fits = rw (options_sound.again o rest fits) refl

pub kind_sound : IsSound kind
kind_sound = record { takes = kind_takes; again = kind_again }

pub column_sound : IsSound column
unfolding column
column_sound = along_sound column_of fields_of_column _ (λ _. refl) (λ _. refl) (pair_sound _ _ name_sound (pair_sound _ _ kind_sound (case_sound rule_byte rule_of rule_back)))

pub datalink_sound : IsSound datalink
unfolding datalink
datalink_sound = along_sound datalink_of fields_of_datalink _ (λ _. refl) (λ _. refl) (pair_sound _ _ text_sound (pair_sound _ _ path_sound (pair_sound _ _ text_sound (option_sound link_number link_number_sound))))

value_takes : (bytes : List ℕ) (x : Value) (rest : List ℕ) → IsBytes bytes → value.reading bytes ≡ Some (x, rest) → Takes value bytes x rest
unfolding value
value_takes [] x rest fits e = absurd cc
value_takes (zero ∷ bytes) x rest fits e = bare_takes values.Null value 0 refl tt bytes x rest e
value_takes (suc zero ∷ bytes) x rest fits e = tag_takes (λ z. values.Int z) i64 value 1 i64_sound (λ a. refl) (λ a h. h) bytes x rest fits e
value_takes (suc (suc zero) ∷ bytes) x rest fits e = tag_takes (λ t. values.Text t) text value 2 text_sound (λ a. refl) (λ a h. h) bytes x rest fits e
value_takes (suc (suc (suc zero)) ∷ bytes) x rest fits e = tag_takes (λ d. values.Link d) datalink value 3 datalink_sound (λ a. refl) (λ a h. h) bytes x rest fits e
value_takes (suc (suc (suc (suc b))) ∷ bytes) x rest fits e = absurd cc

value_again : (x : Value) (rest : List ℕ) → value.fits x → value.reading (value.spelling x ++ rest) ≡ Some (x, rest)
unfolding value
value_again values.Null rest fits = refl
value_again (values.Int z) rest fits = rw (i64_sound.again z rest fits) refl
value_again (values.Text t) rest fits = rw (text_sound.again t rest fits) refl
value_again (values.Link d) rest fits = rw (datalink_sound.again d rest fits) refl

pub value_sound : IsSound value
value_sound = record { takes = value_takes; again = value_again }

pub link_row_sound : IsSound link_row
unfolding link_row
link_row_sound = along_sound link_row_of fields_of_link_row _ (λ _. refl) (λ _. refl) (pair_sound _ _ link_number_sound (pair_sound _ _ path_sound options_sound))
