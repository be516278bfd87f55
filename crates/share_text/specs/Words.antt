-- The words of a line that are left, and how a number begins.
use Rattle.std.specs.Prelude.{◌≡◌, ◌⊎◌, ℕ, ◌==◌, Bool, ◌&&◌, ◌||◌, not, List, [], ◌∷◌, length, nat_lt, slice_index}
use Rattle.std.specs.Prelude.{Option}
use Rattle.std.specs.Prelude.{None, Some, Result, Err, codes, true, if◌then◌else◌}
use Rattle.std.specs.Str.{bytes_eq}
use Rattle.share_base.specs.Body.{unstamped}
use Rattle.share_base.specs.declared.refusal.Refusal.{Refusal}
use Rattle.share_base.specs.declared.refusal.Refusal.TheVariants.{NoMemory}
use Rattle.share_base.specs.declared.version.Version.{Version}
use Rattle.share_model.specs.declared.line.Line.{Line}
use Rattle.share_model.specs.declared.line.Line.TheVariants.{Send}
use Rattle.share_model.specs.text.Lines.{words_of, line_or_refusal, is_in_range, is_send, named_of, numbered_of}
use Rattle.share_model.specs.text.Lines.{mktkt_of, amend_of, fund_of, open_of, turn_of, torn_of, report_of, audit_of}
use Rattle.share_base.specs.declared.command.Command.TheVariants.{MakeCurrency, RemoveCurrency, RemoveTicket}
use Rattle.share_base.specs.declared.command.Command.TheVariants.{Unfund, CloseFlow, Hold, Resume}

abbrev pub words_left : Option (List ℕ) → List (List ℕ)
words_left None = []
words_left (Some rest) = words_of rest

-- there is a first byte, and it is `0` only if it is the last
abbrev pub begins_number : List ℕ → Bool
begins_number w = nat_lt 0 (length w) && (not (slice_index w 0 == 48) || length w == 1)

-- the one word that is left, read as a field
abbrev pub last : {A : Type 0} → (List ℕ → Option A) → List (List ℕ) → Option A
last f [] = None
last f (w ∷ []) = f w
last f (w ∷ v ∷ ws) = None

-- the lines of the rarer keywords
abbrev pub rarer_line_by : List ℕ → List (List ℕ) → Option Line
rarer_line_by w ws =
    if bytes_eq w (codes "mkcur") then named_of MakeCurrency ws
    else if bytes_eq w (codes "rmcur") then named_of RemoveCurrency ws
    else if bytes_eq w (codes "hold") then named_of Hold ws
    else if bytes_eq w (codes "resume") then named_of Resume ws
    else if bytes_eq w (codes "amend") then amend_of ws
    else if bytes_eq w (codes "torn") then torn_of ws
    else if bytes_eq w (codes "report") then report_of ws
    else if bytes_eq w (codes "audit") then audit_of ws
    else None

-- the lines that take no memory
abbrev pub short_line_by : List ℕ → List (List ℕ) → Option Line
short_line_by w ws =
    if bytes_eq w (codes "turn") then turn_of ws
    else if bytes_eq w (codes "open") then open_of ws
    else if bytes_eq w (codes "close") then named_of CloseFlow ws
    else if bytes_eq w (codes "mktkt") then mktkt_of ws
    else if bytes_eq w (codes "fund") then fund_of ws
    else if bytes_eq w (codes "unfund") then numbered_of Unfund ws
    else if bytes_eq w (codes "rmtkt") then numbered_of RemoveTicket ws
    else rarer_line_by w ws

-- the packet for a flow, if there is a payload
abbrev pub line_sent_by : List ℕ → Option (List ℕ) → Option Line
line_sent_by flow None = None
line_sent_by flow (Some payload) = Some (Send flow (unstamped payload))

-- the line, if it is in range; or memory was refused for a packet that is
abbrev pub ReadsRanged : Version → Option Line → Result Line Refusal → Type 0
ReadsRanged version o r = (r ≡ line_or_refusal version o)
    ⊎ ((r ≡ Err NoMemory) × ((l : Line) × (o ≡ Some l) × (is_in_range version l ≡ true) × (is_send l ≡ true)))
