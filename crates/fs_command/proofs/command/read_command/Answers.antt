use Rattle.std.proofs.Common.{Ok, codes, refl, slice_range}
use Rattle.fs_command.specs.Words.{word_at, words_from}
use Rattle.fs_command.proofs.Asked.{asks-create, asks-write, asks-delete, asks-rename, asks-chmod, asks-read, asks-list, asks-none, handed-on, handed-place, tested, told-in}
use Rattle.fs_command.proofs.command.read_command.Goals as goal

pub returns-then-eq : goal.returns-then-eq
returns-then-eq c =
    let bytes = slice_range c.args.text.now c.in_ok-verb.verb.begin c.in_ok-verb.verb.end in
    let is_create = tested bytes c.as_slice.result.now (codes "create") c.if-eq.ensures c.as_slice.ensures in
    record {
      exact = asks-create c.args.user c.args.text.now (word_at c.args.text.now c.in_ok-verb.verb.begin c.in_ok-verb.verb.end) (words_from c.in_ok-verb.verb.end c.args.text.now) c.in_ok-verb.ensures.value c.create.result is_create c.create.ensures.exact;
      place = c.create.ensures.place;
    }

pub returns-then-eq-2 : goal.returns-then-eq-2
returns-then-eq-2 c =
    let bytes = slice_range c.args.text.now c.in_ok-verb.verb.begin c.in_ok-verb.verb.end in
    let no_create = tested bytes c.as_slice.result.now (codes "create") c.if-eq.ensures c.as_slice.ensures in
    let is_write = tested bytes c.as_slice-2.result.now (codes "write") c.if-eq-2.ensures c.as_slice-2.ensures in
    record {
      exact = asks-write c.args.user c.args.text.now (word_at c.args.text.now c.in_ok-verb.verb.begin c.in_ok-verb.verb.end) (words_from c.in_ok-verb.verb.end c.args.text.now) c.in_ok-verb.ensures.value c.write.result no_create is_write c.write.ensures.exact;
      place = c.write.ensures.place;
    }

pub returns-then-eq-3 : goal.returns-then-eq-3
returns-then-eq-3 c =
    let bytes = slice_range c.args.text.now c.in_ok-verb.verb.begin c.in_ok-verb.verb.end in
    let no_create = tested bytes c.as_slice.result.now (codes "create") c.if-eq.ensures c.as_slice.ensures in
    let no_write = tested bytes c.as_slice-2.result.now (codes "write") c.if-eq-2.ensures c.as_slice-2.ensures in
    let is_delete = tested bytes c.as_slice-3.result.now (codes "delete") c.if-eq-3.ensures c.as_slice-3.ensures in
    record {
      exact = asks-delete c.args.user c.args.text.now (word_at c.args.text.now c.in_ok-verb.verb.begin c.in_ok-verb.verb.end) (words_from c.in_ok-verb.verb.end c.args.text.now) c.in_ok-verb.ensures.value c.delete.result no_create no_write is_delete c.delete.ensures.exact;
      place = c.delete.ensures.place;
    }

pub returns-then-eq-4 : goal.returns-then-eq-4
returns-then-eq-4 c =
    let bytes = slice_range c.args.text.now c.in_ok-verb.verb.begin c.in_ok-verb.verb.end in
    let no_create = tested bytes c.as_slice.result.now (codes "create") c.if-eq.ensures c.as_slice.ensures in
    let no_write = tested bytes c.as_slice-2.result.now (codes "write") c.if-eq-2.ensures c.as_slice-2.ensures in
    let no_delete = tested bytes c.as_slice-3.result.now (codes "delete") c.if-eq-3.ensures c.as_slice-3.ensures in
    let is_rename = tested bytes c.as_slice-4.result.now (codes "rename") c.if-eq-4.ensures c.as_slice-4.ensures in
    record {
      exact = asks-rename c.args.user c.args.text.now (word_at c.args.text.now c.in_ok-verb.verb.begin c.in_ok-verb.verb.end) (words_from c.in_ok-verb.verb.end c.args.text.now) c.in_ok-verb.ensures.value c.rename.result no_create no_write no_delete is_rename c.rename.ensures.exact;
      place = c.rename.ensures.place;
    }

pub returns-then-eq-5 : goal.returns-then-eq-5
returns-then-eq-5 c =
    let bytes = slice_range c.args.text.now c.in_ok-verb.verb.begin c.in_ok-verb.verb.end in
    let no_create = tested bytes c.as_slice.result.now (codes "create") c.if-eq.ensures c.as_slice.ensures in
    let no_write = tested bytes c.as_slice-2.result.now (codes "write") c.if-eq-2.ensures c.as_slice-2.ensures in
    let no_delete = tested bytes c.as_slice-3.result.now (codes "delete") c.if-eq-3.ensures c.as_slice-3.ensures in
    let no_rename = tested bytes c.as_slice-4.result.now (codes "rename") c.if-eq-4.ensures c.as_slice-4.ensures in
    let is_chmod = tested bytes c.as_slice-5.result.now (codes "chmod") c.if-eq-5.ensures c.as_slice-5.ensures in
    record {
      exact = asks-chmod c.args.user c.args.text.now (word_at c.args.text.now c.in_ok-verb.verb.begin c.in_ok-verb.verb.end) (words_from c.in_ok-verb.verb.end c.args.text.now) c.in_ok-verb.ensures.value c.chmod.result no_create no_write no_delete no_rename is_chmod c.chmod.ensures.exact;
      place = c.chmod.ensures.place;
    }

pub returns-then-eq-6 : goal.returns-then-eq-6
returns-then-eq-6 c =
    let bytes = slice_range c.args.text.now c.in_ok-verb.verb.begin c.in_ok-verb.verb.end in
    let no_create = tested bytes c.as_slice.result.now (codes "create") c.if-eq.ensures c.as_slice.ensures in
    let no_write = tested bytes c.as_slice-2.result.now (codes "write") c.if-eq-2.ensures c.as_slice-2.ensures in
    let no_delete = tested bytes c.as_slice-3.result.now (codes "delete") c.if-eq-3.ensures c.as_slice-3.ensures in
    let no_rename = tested bytes c.as_slice-4.result.now (codes "rename") c.if-eq-4.ensures c.as_slice-4.ensures in
    let no_chmod = tested bytes c.as_slice-5.result.now (codes "chmod") c.if-eq-5.ensures c.as_slice-5.ensures in
    let is_read = tested bytes c.as_slice-6.result.now (codes "read") c.if-eq-6.ensures c.as_slice-6.ensures in
    record {
      exact = asks-read c.args.user c.args.text.now (word_at c.args.text.now c.in_ok-verb.verb.begin c.in_ok-verb.verb.end) (words_from c.in_ok-verb.verb.end c.args.text.now) c.in_ok-verb.ensures.value c.read.result no_create no_write no_delete no_rename no_chmod is_read c.read.ensures.exact;
      place = c.read.ensures.place;
    }

pub returns-in_err-list : goal.returns-in_err-list
returns-in_err-list c =
    let bytes = slice_range c.args.text.now c.in_ok-verb.verb.begin c.in_ok-verb.verb.end in
    let no_create = tested bytes c.as_slice.result.now (codes "create") c.if-eq.ensures c.as_slice.ensures in
    let no_write = tested bytes c.as_slice-2.result.now (codes "write") c.if-eq-2.ensures c.as_slice-2.ensures in
    let no_delete = tested bytes c.as_slice-3.result.now (codes "delete") c.if-eq-3.ensures c.as_slice-3.ensures in
    let no_rename = tested bytes c.as_slice-4.result.now (codes "rename") c.if-eq-4.ensures c.as_slice-4.ensures in
    let no_chmod = tested bytes c.as_slice-5.result.now (codes "chmod") c.if-eq-5.ensures c.as_slice-5.ensures in
    let no_read = tested bytes c.as_slice-6.result.now (codes "read") c.if-eq-6.ensures c.as_slice-6.ensures in
    let is_list = tested bytes c.as_slice-7.result.now (codes "list") c.if-eq-7.ensures c.as_slice-7.ensures in
    record {
      exact = asks-list c.args.user c.args.text.now (word_at c.args.text.now c.in_ok-verb.verb.begin c.in_ok-verb.verb.end) (words_from c.in_ok-verb.verb.end c.args.text.now) c.in_ok-verb.ensures.value c.from_residual-in_err-list.result no_create no_write no_delete no_rename no_chmod no_read is_list (handed-on c.from_residual-in_err-list.result _ c.in_err-list.field-0.0.place c.from_residual-in_err-list.ensures c.in_err-list.ensures.exact);
      place = handed-place c.args.text.now c.from_residual-in_err-list.result c.in_err-list.field-0.0.place c.from_residual-in_err-list.ensures c.in_err-list.ensures.place;
    }

pub returns-then-eq-7 : goal.returns-then-eq-7
returns-then-eq-7 c =
    let bytes = slice_range c.args.text.now c.in_ok-verb.verb.begin c.in_ok-verb.verb.end in
    let no_create = tested bytes c.as_slice.result.now (codes "create") c.if-eq.ensures c.as_slice.ensures in
    let no_write = tested bytes c.as_slice-2.result.now (codes "write") c.if-eq-2.ensures c.as_slice-2.ensures in
    let no_delete = tested bytes c.as_slice-3.result.now (codes "delete") c.if-eq-3.ensures c.as_slice-3.ensures in
    let no_rename = tested bytes c.as_slice-4.result.now (codes "rename") c.if-eq-4.ensures c.as_slice-4.ensures in
    let no_chmod = tested bytes c.as_slice-5.result.now (codes "chmod") c.if-eq-5.ensures c.as_slice-5.ensures in
    let no_read = tested bytes c.as_slice-6.result.now (codes "read") c.if-eq-6.ensures c.as_slice-6.ensures in
    let is_list = tested bytes c.as_slice-7.result.now (codes "list") c.if-eq-7.ensures c.as_slice-7.ensures in
    record { exact = asks-list c.args.user c.args.text.now (word_at c.args.text.now c.in_ok-verb.verb.begin c.in_ok-verb.verb.end) (words_from c.in_ok-verb.verb.end c.args.text.now) c.in_ok-verb.ensures.value (Ok c.in_ok-list.field-0) no_create no_write no_delete no_rename no_chmod no_read is_list c.in_ok-list.ensures.exact; place = tt }

pub returns : goal.returns
returns c =
    let bytes = slice_range c.args.text.now c.in_ok-verb.verb.begin c.in_ok-verb.verb.end in
    let no_create = tested bytes c.as_slice.result.now (codes "create") c.if-eq.ensures c.as_slice.ensures in
    let no_write = tested bytes c.as_slice-2.result.now (codes "write") c.if-eq-2.ensures c.as_slice-2.ensures in
    let no_delete = tested bytes c.as_slice-3.result.now (codes "delete") c.if-eq-3.ensures c.as_slice-3.ensures in
    let no_rename = tested bytes c.as_slice-4.result.now (codes "rename") c.if-eq-4.ensures c.as_slice-4.ensures in
    let no_chmod = tested bytes c.as_slice-5.result.now (codes "chmod") c.if-eq-5.ensures c.as_slice-5.ensures in
    let no_read = tested bytes c.as_slice-6.result.now (codes "read") c.if-eq-6.ensures c.as_slice-6.ensures in
    let no_list = tested bytes c.as_slice-7.result.now (codes "list") c.if-eq-7.ensures c.as_slice-7.ensures in
    record {
      exact = asks-none c.args.user c.args.text.now (word_at c.args.text.now c.in_ok-verb.verb.begin c.in_ok-verb.verb.end) (words_from c.in_ok-verb.verb.end c.args.text.now) c.in_ok-verb.ensures.value c.into.result c.misplaced.result.place no_create no_write no_delete no_rename no_chmod no_read no_list c.into.ensures c.misplaced.ensures;
      place = told-in c.args.text.now c.into.result c.misplaced.result.place c.in_ok-verb.verb.begin c.in_ok-verb.verb.end c.into.ensures c.misplaced.ensures c.in_ok-verb.ensures.within.1 c.in_ok-verb.ensures.within.2;
    }

pub create-requires : goal.create-requires
create-requires c = c.in_ok-verb.ensures.within.2

pub write-requires : goal.write-requires
write-requires c = c.in_ok-verb.ensures.within.2

pub delete-requires : goal.delete-requires
delete-requires c = c.in_ok-verb.ensures.within.2

pub rename-requires : goal.rename-requires
rename-requires c = c.in_ok-verb.ensures.within.2

pub chmod-requires : goal.chmod-requires
chmod-requires c = c.in_ok-verb.ensures.within.2

pub read-requires : goal.read-requires
read-requires c = c.in_ok-verb.ensures.within.2

pub list-requires : goal.list-requires
list-requires c = c.in_ok-verb.ensures.within.2

pub same-user-then-eq-2 : goal.same-user-then-eq-2
same-user-then-eq-2 c = refl

pub same-user-then-eq-3 : goal.same-user-then-eq-3
same-user-then-eq-3 c = refl

pub same-user-then-eq-4 : goal.same-user-then-eq-4
same-user-then-eq-4 c = refl

pub same-user-then-eq-5 : goal.same-user-then-eq-5
same-user-then-eq-5 c = refl

pub same-user-then-eq-6 : goal.same-user-then-eq-6
same-user-then-eq-6 c = refl

pub same-user-then-eq-7 : goal.same-user-then-eq-7
same-user-then-eq-7 c = refl
