-- The bounds of the system. What would pass one is refused, or ends the run, and changes nothing; but the commits of several
-- transactions may together pass that of tables, and a restore those of tables and files, past which a CREATE TABLE and a create are refused.
use Rattle.std.specs.Prelude.{ℕ, suc, ◌-◌, ◌^◌}

-- bytes of a name
abbrev pub most_name_bytes : ℕ
most_name_bytes = 64

-- bytes of a path
abbrev pub most_path_bytes : ℕ
most_path_bytes = 1024

-- columns of a table
abbrev pub most_columns : ℕ
most_columns = 64

-- bytes of a VARCHAR, by its column
abbrev pub most_varchar_bytes : ℕ
most_varchar_bytes = 4000

-- bytes of a datalink's comment
abbrev pub most_comment_bytes : ℕ
most_comment_bytes = 200

-- tables
abbrev pub most_tables : ℕ
most_tables = 256

-- rows of a table
abbrev pub most_rows : ℕ
most_rows = 1000000

-- the number of a row is below it
abbrev pub row_numbers : ℕ
row_numbers = 2 ^ 63

-- sources of one FROM
abbrev pub most_sources : ℕ
most_sources = 8

-- combined rows of one FROM
abbrev pub most_combined_rows : ℕ
most_combined_rows = 10000000

-- operators and calls of one expression
abbrev pub most_operators : ℕ
most_operators = 255

-- parentheses of one expression that are open at once
abbrev pub most_open_parentheses : ℕ
most_open_parentheses = 256

-- the greatest number of an opening, and of a transaction inside one
abbrev pub most_numbers : ℕ
most_numbers = 2 ^ 32 - 2

-- links that one transaction draws
abbrev pub most_links : ℕ
most_links = 1000000

-- the numbers of these links count from 1, and none passes most_links: the next one is at most this
abbrev pub link_numbers : ℕ
link_numbers = suc most_links

-- files
abbrev pub most_files : ℕ
most_files = 65536

-- actors of a script: its sessions and users
abbrev pub most_actors : ℕ
most_actors = 64

-- bytes of a user's or a session's name
abbrev pub most_actor_name_bytes : ℕ
most_actor_name_bytes = 16

-- bytes of a line, without its end
abbrev pub most_line_bytes : ℕ
most_line_bytes = 65536

-- bytes of a script
abbrev pub most_script_bytes : ℕ
most_script_bytes = 67108864
