-- Numbers in digits, and the bounds that the code has beside the definitions: what the definitions make of them.
use Rattle.std.proofs.Common.{◌≡◌, ◌-◌, ◌^◌, [], codes, Some, None, refl}
use Rattle.dl_base.specs.Digits.{is_number, number_in}
use Rattle.dl_base.specs.Limits.{most_name_bytes, most_path_bytes, most_columns, most_varchar_bytes, most_comment_bytes, most_tables, most_rows, row_numbers, most_sources, most_combined_rows, most_operators, most_open_parentheses, most_numbers, most_links, most_files, most_actors, most_actor_name_bytes, most_line_bytes, most_script_bytes}
use Rattle.dl_base.specs.declared.limits.TheConstants.{MOST_NAME_BYTES, MOST_PATH_BYTES, MOST_COLUMNS, MOST_VARCHAR_BYTES, MOST_COMMENT_BYTES, MOST_TABLES, MOST_ROWS, ROW_NUMBERS, MOST_SOURCES, MOST_COMBINED_ROWS, MOST_OPERATORS, MOST_OPEN_PARENTHESES, MOST_NUMBERS, MOST_LINKS, MOST_FILES, MOST_ACTORS, MOST_ACTOR_NAME_BYTES, MOST_LINE_BYTES, MOST_SCRIPT_BYTES}

-- numbers in digits

nothing : number_in 20 0 9 [] ≡ None
unfolding number_in is_number
nothing = refl

least_number : number_in 20 0 9 (codes "0") ≡ Some 0
unfolding number_in is_number
least_number = refl

most_number : number_in 20 0 9 (codes "9") ≡ Some 9
unfolding number_in is_number
most_number = refl

past_the_most : number_in 20 0 9 (codes "10") ≡ None
unfolding number_in is_number
past_the_most = refl

below_the_least : number_in 20 7 9 (codes "6") ≡ None
unfolding number_in is_number
below_the_least = refl

zeros_in_front : number_in 3 0 9 (codes "007") ≡ Some 7
unfolding number_in is_number
zeros_in_front = refl

one_digit_more : number_in 3 0 9 (codes "0007") ≡ None
unfolding number_in is_number
one_digit_more = refl

no_digit : number_in 20 0 99 (codes "7a") ≡ None
unfolding number_in is_number
no_digit = refl

sign : number_in 20 0 9 (codes "+7") ≡ None
unfolding number_in is_number
sign = refl

greatest_of_64_bits : number_in 20 0 (2 ^ 64 - 1) (codes "18446744073709551615") ≡ Some (2 ^ 64 - 1)
unfolding number_in is_number
greatest_of_64_bits = refl

past_64_bits : number_in 20 0 (2 ^ 64 - 1) (codes "18446744073709551616") ≡ None
unfolding number_in is_number
past_64_bits = refl

-- each bound of the code is the one of the definitions

name_bytes : MOST_NAME_BYTES ≡ most_name_bytes
name_bytes = refl

path_bytes : MOST_PATH_BYTES ≡ most_path_bytes
path_bytes = refl

columns : MOST_COLUMNS ≡ most_columns
columns = refl

varchar_bytes : MOST_VARCHAR_BYTES ≡ most_varchar_bytes
varchar_bytes = refl

comment_bytes : MOST_COMMENT_BYTES ≡ most_comment_bytes
comment_bytes = refl

tables : MOST_TABLES ≡ most_tables
tables = refl

rows : MOST_ROWS ≡ most_rows
rows = refl

numbers_of_rows : ROW_NUMBERS ≡ row_numbers
numbers_of_rows = refl

sources : MOST_SOURCES ≡ most_sources
sources = refl

combined_rows : MOST_COMBINED_ROWS ≡ most_combined_rows
combined_rows = refl

operators : MOST_OPERATORS ≡ most_operators
operators = refl

open_parentheses : MOST_OPEN_PARENTHESES ≡ most_open_parentheses
open_parentheses = refl

numbers : MOST_NUMBERS ≡ most_numbers
numbers = refl

links : MOST_LINKS ≡ most_links
links = refl

files : MOST_FILES ≡ most_files
files = refl

actors : MOST_ACTORS ≡ most_actors
actors = refl

actor_name_bytes : MOST_ACTOR_NAME_BYTES ≡ most_actor_name_bytes
actor_name_bytes = refl

line_bytes : MOST_LINE_BYTES ≡ most_line_bytes
line_bytes = refl

script_bytes : MOST_SCRIPT_BYTES ≡ most_script_bytes
script_bytes = refl

a_script : most_script_bytes ≡ 2 ^ 26
a_script = refl
