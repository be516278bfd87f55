-- The request in the head of a request.
use Rattle.std.specs.Prelude.{◌≡◌, ◌<◌, ◌⊎◌, ℕ, List, Option, None, Some, Bool, false, true, not, ◌&&◌, ◌||◌, ◌==◌}
use Rattle.std.specs.Prelude.{◌-◌, codes, drop, length, map, nat_eq, nat_le, position, slice_index, take, if◌then◌else◌}
use Rattle.std.specs.Char.{is_ascii_digit}
use Rattle.std.specs.List.{list_any, starts_with}
use Rattle.std.specs.Str.{bytes_eq}
use Rattle.httparse.specs.Grammar.{RequestHead}
use Rattle.httparse.specs.Spans.{RequestExceeds, name_and_value}
use Rattle.share_web.specs.Fields.{Fields, count_named, has_host_at, wants_open_metrics}
use Rattle.share_web.specs.Heads.{is_ended}
use Rattle.share_web.specs.declared.request.Request.{Request}
use Rattle.share_web.specs.declared.target.Exposition.{Exposition}
use Rattle.share_web.specs.declared.target.Exposition.TheVariants.{Plain, OpenMetrics}
use Rattle.share_web.specs.declared.target.Refusal.{Refusal}
use Rattle.share_web.specs.declared.target.Refusal.TheVariants as why
use Rattle.share_web.specs.declared.target.Resource.TheVariants as resource
use Rattle.share_web.specs.declared.target.Want.{Want}
use Rattle.share_web.specs.declared.target.Want.TheVariants as want

abbrev pub refused : Refusal → Request
refused r = record { want = want.Refusal r; has_body = true }

-- ---- Heads that are read

abbrev pub exposition_by : Fields → Exposition
exposition_by fields = if wants_open_metrics fields then OpenMetrics else Plain

-- the content at a target
abbrev pub resource_by : List ℕ → Fields → Want
resource_by target fields =
    if bytes_eq target (codes "/") then want.Resource resource.Page
    else if bytes_eq target (codes "/status.json") then want.Resource resource.Status
    else if bytes_eq target (codes "/books.csv") then want.Resource resource.Books
    else if bytes_eq target (codes "/metrics") then want.Resource (resource.Metrics (exposition_by fields))
    else want.Refusal why.NotFound

-- a method that changes nothing
abbrev pub is_read_alone : List ℕ → Bool
is_read_alone method = bytes_eq method (codes "GET") || bytes_eq method (codes "HEAD")

-- the refusals in their order, and then the target
abbrev pub want_by : List ℕ → List ℕ → List ℕ → Fields → Want
want_by address method target fields =
    if not (count_named (codes "host") fields == 1) then want.Refusal why.BadRequest
    else if not (has_host_at address fields) then want.Refusal why.MisdirectedRequest
    else if not (is_read_alone method) then want.Refusal why.MethodNotAllowed
    else resource_by target fields

abbrev pub request_by : List ℕ → List ℕ → List ℕ → Fields → Request
request_by address method target fields = record {
  want = want_by address method target fields;
  has_body = not (bytes_eq method (codes "HEAD"));
}

-- the request of a head to a gateway that listens at this address
abbrev pub request_of : List ℕ → RequestHead → Request
request_of address h = request_by address h.method h.target (map name_and_value h.fields)

-- the request in a head of the grammar; a head with more than 64 fields may be refused
abbrev pub AsksBy : List ℕ → RequestHead → Request → Type 0
AsksBy address h asked = (asked ≡ request_of address h) ⊎ ((64 < length h.fields) × (asked ≡ refused why.HeadTooLarge))

-- ---- Heads that are not read

-- a space, another version than 1.0 and 1.1, and a carriage return
abbrev pub is_other_version : List ℕ → Bool
is_other_version bytes =
    starts_with nat_eq bytes (codes " HTTP/")
    && is_ascii_digit (slice_index bytes 6)
    && (slice_index bytes 7 == 46)
    && is_ascii_digit (slice_index bytes 8)
    && (slice_index bytes 9 == 13)
    && not (bytes_eq bytes (codes " HTTP/1.0\r"))
    && not (bytes_eq bytes (codes " HTTP/1.1\r"))

abbrev pub ends_with_other_version : List ℕ → Bool
ends_with_other_version line = nat_le 10 (length line) && is_other_version (drop (length line - 10) line)

abbrev pub version_at : List ℕ → Option ℕ → Bool
version_at head None = false
version_at head (Some end) = ends_with_other_version (take end head)

-- the first line ends so
abbrev pub has_other_version : List ℕ → Bool
has_other_version head = version_at head (position (λ b. b == 10) head)

-- the first line is whole
abbrev pub has_line : List ℕ → Bool
has_line head = list_any (λ b. b == 10) head

abbrev pub too_long : List ℕ → Refusal
too_long head = if has_line head then why.HeadTooLarge else why.UriTooLong

abbrev pub unread : List ℕ → Refusal
unread head =
    if not (is_ended head) then too_long head
    else if has_other_version head then why.VersionNotSupported
    else why.BadRequest

-- the request in a head that is not read; one that goes on with a fault after 64 fields may be refused for these
abbrev pub IsUnread : List ℕ → Request → Type 0
IsUnread head asked = (asked ≡ refused (unread head)) ⊎ (RequestExceeds 64 head × (asked ≡ refused why.HeadTooLarge))
