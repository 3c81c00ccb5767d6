-- What DLVALUE makes, and what the accessors of a datalink show.
use Rattle.std.specs.Prelude.{ℕ, Bool, true, false, List, [], length, codes, nat_le, Option, Some, None, Result, Ok, Err, if◌then◌else◌}
use Rattle.std.specs.Str.{str_eq_ignore_ascii_case}
use Rattle.dl_base.specs.Limits.{most_comment_bytes}
use Rattle.dl_base.specs.declared.sql_fault.SqlFault.{SqlFault}
use Rattle.dl_base.specs.declared.sql_fault.SqlFault.TheVariants as faults
use Rattle.dl_base.specs.declared.sql_fault.BadLink.{BadLink}
use Rattle.dl_base.specs.declared.sql_fault.BadLink.TheVariants as bad
use Rattle.dl_base.specs.declared.value.Value.{Value}
use Rattle.dl_base.specs.declared.value.Value.TheVariants as values
use Rattle.dl_base.specs.declared.value.Dl.{Dl}
use Rattle.dl_base.specs.declared.value.LinkNo.{LinkNo}
use Rattle.dl_base.specs.declared.column.Options.{Options}
use Rattle.dl_base.specs.declared.statement.Part.{Part}
use Rattle.dl_base.specs.declared.statement.Part.TheVariants as parts
use Rattle.dl_location.specs.declared.accessor.Accessor.TheVariants as accessors
use Rattle.dl_location.specs.Accessors.{accessor_text}
use Rattle.dl_location.specs.Location.{location}
use Rattle.dl_token.specs.Tokens.{with_token, token, expiry_after}
use Rattle.meaning_tables.specs.OptionRows.{is_db}
use Rattle.meaning_sql.specs.declared.Context.{Context}

-- a link type: `URL` in any case of letters, and NULL counts as it
abbrev pub is_url : Value → Bool
is_url values.Null = true
is_url (values.Text t) = str_eq_ignore_ascii_case t (codes "URL")
is_url (values.Int z) = false
is_url (values.Link d) = false

-- a comment: NULL counts as the empty text
abbrev pub comment_text : Value → List ℕ
comment_text (values.Text t) = t
comment_text values.Null = []
comment_text (values.Int z) = []
comment_text (values.Link d) = []

-- the refusals of the location come first, then that of the link type, then that of the comment
abbrev pub linked : Result (List ℕ × List ℕ) BadLink → Bool → List ℕ → Result Value SqlFault
linked (Err why) url comment = Err (faults.BadLink why)
linked (Ok kept) false comment = Err (faults.BadLink bad.LinkType)
linked (Ok kept) true comment = if nat_le (length comment) most_comment_bytes then Ok (values.Link (record { location = kept.0; path = kept.1; comment = comment; link = None })) else Err (faults.BadLink bad.Comment)

-- DLVALUE of a location, a link type and a comment: NULL where the location is, whatever the others are
unfoldable pub datalink : List ℕ → Value → Value → Value → Result Value SqlFault
datalink server (values.Text t) linktype comment = linked (location server t) (is_url linktype) (comment_text comment)
datalink server values.Null linktype comment = Ok values.Null
datalink server (values.Int z) linktype comment = Ok values.Null
datalink server (values.Link d) linktype comment = Ok values.Null

-- the column is under READ DB
abbrev pub is_guarded : Option Options → Bool
is_guarded None = false
is_guarded (Some o) = is_db o.read

-- a text of a link with the token that the database gives out for it now
abbrev pub with_link_token : Context → List ℕ → Option LinkNo → List ℕ → List ℕ
with_link_token context path None text = text
with_link_token context path (Some link) text = with_token text (token context.key path link (expiry_after context.now context.life))

-- the path or the location of a datalink, with a token in a column under READ DB
unfoldable pub shown : Context → Option Options → Dl → List ℕ → List ℕ
shown context under d text = if is_guarded under then with_link_token context d.path d.link text else text

abbrev pub part_text : Context → Option Options → Part → Dl → List ℕ
part_text context under parts.Comment d = accessor_text accessors.Comment d
part_text context under parts.LinkType d = accessor_text accessors.LinkType d
part_text context under parts.Scheme d = accessor_text accessors.Scheme d
part_text context under parts.Server d = accessor_text accessors.Server d
part_text context under parts.PathOnly d = accessor_text accessors.PathOnly d
part_text context under parts.Path d = shown context under d d.path
part_text context under parts.Complete d = shown context under d (accessor_text accessors.Complete d)

-- an accessor, of a value that is a cell of a column under these options, if it is one: NULL of NULL
unfoldable pub accessed : Context → Option Options → Part → Value → Value
accessed context under part (values.Link d) = values.Text (part_text context under part d)
accessed context under part values.Null = values.Null
accessed context under part (values.Int z) = values.Null
accessed context under part (values.Text t) = values.Null
