-- The bytes of an answer.
use Rattle.std.specs.Prelude.{ℕ, List, [], ◌++◌, Bool, codes, decimal, length, if◌then◌else◌}
use Rattle.share_web.specs.Page.{common_fields}
use Rattle.share_web.specs.Parts.{three}
use Rattle.share_web.specs.declared.target.Exposition.TheVariants.{Plain, OpenMetrics}
use Rattle.share_web.specs.declared.target.Refusal.{Refusal}
use Rattle.share_web.specs.declared.target.Refusal.TheVariants as why
use Rattle.share_web.specs.declared.target.Resource.{Resource}
use Rattle.share_web.specs.declared.target.Resource.TheVariants as resource

abbrev pub body_if : List ℕ → Bool → List ℕ
body_if body has_body = if has_body then body else []

-- an answer has the length of its body, whether the body follows or not
unfoldable pub response : List ℕ → List ℕ → List ℕ → Bool → List ℕ
response reason fields body has_body =
    three (codes "HTTP/1.1 ") reason (codes "\r\n")
    ++ three common_fields fields (codes "Content-Length: ")
    ++ three (decimal (length body)) (codes "\r\n\r\n") (body_if body has_body)

abbrev pub fields_of : Resource → List ℕ
fields_of resource.Page = codes "Content-Type: text/html; charset=utf-8\r\n"
fields_of resource.Status = codes "Content-Type: application/json\r\n"
fields_of resource.Books = codes "Content-Type: text/csv; charset=utf-8\r\n"
fields_of (resource.Metrics Plain) = codes "Content-Type: text/plain; version=0.0.4; charset=utf-8\r\n"
fields_of (resource.Metrics OpenMetrics) =
    codes "Content-Type: application/openmetrics-text; version=1.0.0; charset=utf-8\r\n"

abbrev pub answer_text : Resource → List ℕ → Bool → List ℕ
answer_text r body has_body = response (codes "200 OK") (fields_of r) body has_body

-- ---- Refusals

abbrev pub reason_of : Refusal → List ℕ
reason_of why.BadRequest = codes "400 Bad Request"
reason_of why.NotFound = codes "404 Not Found"
reason_of why.MethodNotAllowed = codes "405 Method Not Allowed"
reason_of why.UriTooLong = codes "414 URI Too Long"
reason_of why.MisdirectedRequest = codes "421 Misdirected Request"
reason_of why.HeadTooLarge = codes "431 Request Header Fields Too Large"
reason_of why.Unavailable = codes "503 Service Unavailable"
reason_of why.VersionNotSupported = codes "505 HTTP Version Not Supported"

abbrev pub refusal_fields : Refusal → List ℕ
refusal_fields why.MethodNotAllowed = codes "Content-Type: text/plain\r\nAllow: GET, HEAD\r\n"
refusal_fields why.Unavailable = codes "Content-Type: text/plain\r\nRetry-After: 1\r\n"
refusal_fields why.BadRequest = codes "Content-Type: text/plain\r\n"
refusal_fields why.NotFound = codes "Content-Type: text/plain\r\n"
refusal_fields why.UriTooLong = codes "Content-Type: text/plain\r\n"
refusal_fields why.MisdirectedRequest = codes "Content-Type: text/plain\r\n"
refusal_fields why.HeadTooLarge = codes "Content-Type: text/plain\r\n"
refusal_fields why.VersionNotSupported = codes "Content-Type: text/plain\r\n"

-- the reason is the body
abbrev pub refusal_text : Refusal → Bool → List ℕ
refusal_text r has_body = response (reason_of r) (refusal_fields r) (reason_of r) has_body
