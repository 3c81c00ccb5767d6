use Rattle.std.proofs.Common.{◌≡◌, map, take, true}
use Rattle.std.specs.List.{list_all}
use Rattle.std.specs.Str.{is_utf8}
use Rattle.run_args.proofs.words.texts.Given as goal

abbrev pub invariant-words : goal.invariant-words
invariant-words l = record {
  same : map (λ s. s.now) l.texts.items ≡ take l.word-index l.words;
  all : list_all is_utf8 (take l.word-index l.words) ≡ true;
}
