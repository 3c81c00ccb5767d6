-- Small values as bytes: what the layouts make of them.
use Rattle.std.proofs.Common.{◌≡◌, [], ◌∷◌, codes, Some, None, true, false, refl, negsuc}
use Rattle.dl_base.specs.declared.file.FileChange.TheVariants as changes
use Rattle.dl_base.specs.declared.file.Owner.{Owner}
use Rattle.dl_codec.specs.declared.files.FilesRecord.TheVariants as files
use Rattle.dl_codec.specs.Layout.{pair, u32, u64, i64, bool, text, path, name}
use Rattle.dl_codec.specs.Files.{owner, file_row, file_change, files_record}

-- a pair of numbers, the second below 0

pair_spelled : (pair u32 i64).spelling (258, negsuc 1) ≡ 0 ∷ 0 ∷ 1 ∷ 2 ∷ 255 ∷ 255 ∷ 255 ∷ 255 ∷ 255 ∷ 255 ∷ 255 ∷ 254 ∷ []
unfolding u32 i64 u64
pair_spelled = refl

pair_read : (pair u32 i64).reading (0 ∷ 0 ∷ 1 ∷ 2 ∷ 255 ∷ 255 ∷ 255 ∷ 255 ∷ 255 ∷ 255 ∷ 255 ∷ 254 ∷ []) ≡ Some ((258, negsuc 1), [])
unfolding u32 i64 u64
pair_read = refl

-- an owner: the name with its length, and the flag

abbrev ann : Owner
ann = record { name = codes "ann"; writable = true }

owner_spelled : owner.spelling ann ≡ 0 ∷ 0 ∷ 0 ∷ 3 ∷ 97 ∷ 110 ∷ 110 ∷ 1 ∷ []
unfolding owner name text bool u32
owner_spelled = refl

-- `@ann create /a one` as a record: a batch of transaction 0 with one file put at /a, which ann may write
created : files_record.spelling (files.Batch 0 (changes.Put (record { path = codes "/a"; file = record { owner = ann; bytes = codes "one"; before = None } }) ∷ []))
    ≡ 1 ∷ 0 ∷ 0 ∷ 0 ∷ 0 ∷ 0 ∷ 0 ∷ 0 ∷ 0 ∷ 0 ∷ 0 ∷ 0 ∷ 1 ∷ 1 ∷ 0 ∷ 0 ∷ 0 ∷ 2 ∷ 47 ∷ 97 ∷ 0 ∷ 0 ∷ 0 ∷ 3 ∷ 97 ∷ 110 ∷ 110 ∷ 1 ∷ 0 ∷ 0 ∷ 0 ∷ 0 ∷ 3 ∷ 111 ∷ 110 ∷ 101 ∷ []
unfolding files_record file_change file_row owner path name text bool u64 u32
created = refl

-- a new owner and a saved one: 2, the path, the owner, 1 and the saved owner
owner_changed : file_change.spelling (changes.Kept (codes "/c") ann (Some (record { name = codes "eve"; writable = false })))
    ≡ 2 ∷ 0 ∷ 0 ∷ 0 ∷ 2 ∷ 47 ∷ 99 ∷ 0 ∷ 0 ∷ 0 ∷ 3 ∷ 97 ∷ 110 ∷ 110 ∷ 1 ∷ 1 ∷ 0 ∷ 0 ∷ 0 ∷ 3 ∷ 101 ∷ 118 ∷ 101 ∷ 0 ∷ []
unfolding file_change owner path name text bool u32
owner_changed = refl
