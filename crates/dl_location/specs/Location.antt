-- What the location of a text is: the URL Standard's parse without a base, and the first refusal.
use Rattle.std.specs.Prelude.{◌≡◌, ℕ, Bool, false, not, ◌||◌, List, codes, bytes_eq, Option, Some, None, is_some, option_map, Result, Ok, Err, if◌then◌else◌}
use Rattle.std.specs.Str.{is_utf8}
use Rattle.url.specs.declared.error.ParseError.{ParseError}
use Rattle.url.specs.Input.{is_empty}
use Rattle.url.specs.Host.{host_text}
use Rattle.url.specs.Parts.{Parts, nonempty_host, serialize}
use Rattle.url.specs.Parser.{parse_url}
use Rattle.dl_base.specs.Path.{path_test}
use Rattle.dl_base.specs.declared.sql_fault.BadLink.{BadLink}
use Rattle.dl_base.specs.declared.sql_fault.BadLink.TheVariants as bad
use Rattle.dl_location.specs.declared.location.LocationFault.{LocationFault}
use Rattle.dl_location.specs.declared.location.LocationFault.TheVariants.{Bad, Memory}

-- the scheme is `http` or `file`
abbrev pub is_web_or_file : List ℕ → Bool
is_web_or_file scheme = bytes_eq scheme (codes "http") || bytes_eq scheme (codes "file")

-- there is a host, and its text is the name of the server
abbrev pub host_is : List ℕ → Option (List ℕ) → Bool
host_is server None = false
host_is server (Some host) = bytes_eq host server

-- there is a user name, a password, a port, a query or a fragment, an empty query or fragment too
abbrev pub has_extra : Parts → Bool
has_extra url = not (is_empty url.username) || not (is_empty url.password) || is_some url.port || is_some url.query || is_some url.fragment

-- the first refusal that applies to a URL
abbrev pub refusal : List ℕ → Parts → Option BadLink
refusal server url =
    if not (is_web_or_file url.scheme) then Some bad.Scheme
    else if not (host_is server (option_map host_text (nonempty_host url))) then Some bad.Host
    else if has_extra url then Some bad.Extra
    else if not (path_test url.path) then Some bad.Path
    else None

abbrev pub judged : Parts → Option BadLink → Result (List ℕ × List ℕ) BadLink
judged url (Some why) = Err why
judged url None = Ok (serialize url, url.path)

abbrev pub of_parsed : List ℕ → Result Parts ParseError → Result (List ℕ × List ℕ) BadLink
of_parsed server (Err e) = Err bad.NotUrl
of_parsed server (Ok url) = judged url (refusal server url)

-- the kept location and the kept path of a text, or the first refusal
unfoldable pub location : List ℕ → List ℕ → Result (List ℕ × List ℕ) BadLink
location server text = if is_utf8 text then of_parsed server (parse_url None text) else Err bad.NotUrl

-- the fault is that refusal, or there was no memory
abbrev pub IsFault : LocationFault → Result (List ℕ × List ℕ) BadLink → Type 0
IsFault (Bad why) want = want ≡ Err why
IsFault Memory want = Unit {0}
