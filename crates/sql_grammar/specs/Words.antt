-- The language: words that have a meaning at their place alone, in lower case.
use Rattle.std.specs.Prelude.{ℕ, Bool, true, false, ◌&&◌, ◌==◌, List, [], ◌∷◌}
use Rattle.sql_grammar.specs.declared.token.LinkWord.{LinkWord}
use Rattle.sql_grammar.specs.declared.token.LinkWord.TheVariants as link

-- the same bytes
abbrev pub same_bytes : List ℕ → List ℕ → Bool
same_bytes [] [] = true
same_bytes [] (b ∷ bs) = false
same_bytes (a ∷ as') [] = false
same_bytes (a ∷ as') (b ∷ bs) = a == b && same_bytes as' bs

-- ---- functions

-- count
abbrev pub count : List ℕ
count = 99 ∷ 111 ∷ 117 ∷ 110 ∷ 116 ∷ []

-- sum
abbrev pub sum_word : List ℕ
sum_word = 115 ∷ 117 ∷ 109 ∷ []

-- min
abbrev pub min_word : List ℕ
min_word = 109 ∷ 105 ∷ 110 ∷ []

-- max
abbrev pub max_word : List ℕ
max_word = 109 ∷ 97 ∷ 120 ∷ []

-- dlvalue
abbrev pub dlvalue : List ℕ
dlvalue = 100 ∷ 108 ∷ 118 ∷ 97 ∷ 108 ∷ 117 ∷ 101 ∷ []

-- dlcomment
abbrev pub dlcomment : List ℕ
dlcomment = 100 ∷ 108 ∷ 99 ∷ 111 ∷ 109 ∷ 109 ∷ 101 ∷ 110 ∷ 116 ∷ []

-- dllinktype
abbrev pub dllinktype : List ℕ
dllinktype = 100 ∷ 108 ∷ 108 ∷ 105 ∷ 110 ∷ 107 ∷ 116 ∷ 121 ∷ 112 ∷ 101 ∷ []

-- dlurlscheme
abbrev pub dlurlscheme : List ℕ
dlurlscheme = 100 ∷ 108 ∷ 117 ∷ 114 ∷ 108 ∷ 115 ∷ 99 ∷ 104 ∷ 101 ∷ 109 ∷ 101 ∷ []

-- dlurlserver
abbrev pub dlurlserver : List ℕ
dlurlserver = 100 ∷ 108 ∷ 117 ∷ 114 ∷ 108 ∷ 115 ∷ 101 ∷ 114 ∷ 118 ∷ 101 ∷ 114 ∷ []

-- dlurlpathonly
abbrev pub dlurlpathonly : List ℕ
dlurlpathonly = 100 ∷ 108 ∷ 117 ∷ 114 ∷ 108 ∷ 112 ∷ 97 ∷ 116 ∷ 104 ∷ 111 ∷ 110 ∷ 108 ∷ 121 ∷ []

-- dlurlpath
abbrev pub dlurlpath : List ℕ
dlurlpath = 100 ∷ 108 ∷ 117 ∷ 114 ∷ 108 ∷ 112 ∷ 97 ∷ 116 ∷ 104 ∷ []

-- dlurlcomplete
abbrev pub dlurlcomplete : List ℕ
dlurlcomplete = 100 ∷ 108 ∷ 117 ∷ 114 ∷ 108 ∷ 99 ∷ 111 ∷ 109 ∷ 112 ∷ 108 ∷ 101 ∷ 116 ∷ 101 ∷ []

-- ---- link options

abbrev pub bytes_of : LinkWord → List ℕ
bytes_of link.Linktype = 108 ∷ 105 ∷ 110 ∷ 107 ∷ 116 ∷ 121 ∷ 112 ∷ 101 ∷ []
bytes_of link.Url = 117 ∷ 114 ∷ 108 ∷ []
bytes_of link.No = 110 ∷ 111 ∷ []
bytes_of link.Link = 108 ∷ 105 ∷ 110 ∷ 107 ∷ []
bytes_of link.Control = 99 ∷ 111 ∷ 110 ∷ 116 ∷ 114 ∷ 111 ∷ 108 ∷ []
bytes_of link.File = 102 ∷ 105 ∷ 108 ∷ 101 ∷ []
bytes_of link.Mode = 109 ∷ 111 ∷ 100 ∷ 101 ∷ []
bytes_of link.Db2options = 100 ∷ 98 ∷ 50 ∷ 111 ∷ 112 ∷ 116 ∷ 105 ∷ 111 ∷ 110 ∷ 115 ∷ []
bytes_of link.Integrity = 105 ∷ 110 ∷ 116 ∷ 101 ∷ 103 ∷ 114 ∷ 105 ∷ 116 ∷ 121 ∷ []
bytes_of link.All = 97 ∷ 108 ∷ 108 ∷ []
bytes_of link.Selective = 115 ∷ 101 ∷ 108 ∷ 101 ∷ 99 ∷ 116 ∷ 105 ∷ 118 ∷ 101 ∷ []
bytes_of link.None = 110 ∷ 111 ∷ 110 ∷ 101 ∷ []
bytes_of link.Read = 114 ∷ 101 ∷ 97 ∷ 100 ∷ []
bytes_of link.Permission = 112 ∷ 101 ∷ 114 ∷ 109 ∷ 105 ∷ 115 ∷ 115 ∷ 105 ∷ 111 ∷ 110 ∷ []
bytes_of link.Fs = 102 ∷ 115 ∷ []
bytes_of link.Db = 100 ∷ 98 ∷ []
bytes_of link.Write = 119 ∷ 114 ∷ 105 ∷ 116 ∷ 101 ∷ []
bytes_of link.Blocked = 98 ∷ 108 ∷ 111 ∷ 99 ∷ 107 ∷ 101 ∷ 100 ∷ []
bytes_of link.Admin = 97 ∷ 100 ∷ 109 ∷ 105 ∷ 110 ∷ []
bytes_of link.Recovery = 114 ∷ 101 ∷ 99 ∷ 111 ∷ 118 ∷ 101 ∷ 114 ∷ 121 ∷ []
bytes_of link.Yes = 121 ∷ 101 ∷ 115 ∷ []
bytes_of link.Unlink = 117 ∷ 110 ∷ 108 ∷ 105 ∷ 110 ∷ 107 ∷ []
bytes_of link.Restore = 114 ∷ 101 ∷ 115 ∷ 116 ∷ 111 ∷ 114 ∷ 101 ∷ []
