-- Texts that are paths or names, and their order.
use Rattle.std.proofs.Common.{◌≡◌, ◌==◌, Less, Equal, true, false, [], ◌∷◌, ◌++◌, map, replicate, codes, refl}
use Rattle.std.specs.Cmp.Lexicographic.{pointwise, slice_cmp}
use Rattle.std.specs.Ordering.{nat_cmp}
use Rattle.dl_base.specs.Name.{name_test}
use Rattle.dl_base.specs.Path.{path_test}

paths : map path_test (codes "/a" ∷ codes "/a/b.c~" ∷ []) ≡ true ∷ true ∷ []
unfolding path_test
paths = refl

-- no slash in front, one behind, a space, and a byte that is not visible
no_paths : map path_test ([] ∷ codes "/" ∷ codes "a" ∷ codes "/a/" ∷ codes "/a b" ∷ (codes "/a" ++ 127 ∷ []) ∷ codes "A9_" ∷ codes "9a" ∷ []) ≡ replicate 8 false
unfolding path_test
no_paths = refl

longest_path : map path_test ((47 ∷ replicate 1023 97) ∷ (47 ∷ replicate 1024 97) ∷ []) ≡ true ∷ false ∷ []
unfolding path_test
longest_path = refl

names : map name_test (codes "a" ∷ codes "A9_" ∷ []) ≡ true ∷ true ∷ []
unfolding name_test
names = refl

no_names : map name_test ([] ∷ codes "9a" ∷ codes "/" ∷ codes "/a" ∷ codes "/a/b.c~" ∷ codes "/a/" ∷ codes "/a b" ∷ (codes "/a" ++ 127 ∷ []) ∷ []) ≡ replicate 8 false
unfolding name_test
no_names = refl

longest_name : map name_test (replicate 64 97 ∷ replicate 65 97 ∷ []) ≡ true ∷ false ∷ []
unfolding name_test
longest_name = refl

-- paths are in the order of their bytes, and names equal by them
order : map (slice_cmp nat_cmp (codes "/a")) (codes "/b" ∷ codes "/a" ∷ []) ≡ Less ∷ Equal ∷ []
order = refl

equality : map (pointwise ◌==◌ (codes "ann")) (codes "ann" ∷ codes "bob" ∷ []) ≡ true ∷ false ∷ []
equality = refl
