-- The lines of a script: words joined by one space, one spelling for each line. Bytes that are spelled in any other way
-- are no line.
use Rattle.std.specs.Prelude.{◌≡◌, ◌≢◌, ◌≤◌, ◌+◌, ◌-◌, ◌*◌, ◌/◌, ◌%◌, ◌^◌, ◌==◌, ◌⊎◌, ℕ, Bool, true, false, ◌&&◌}
use Rattle.std.specs.Prelude.{◌||◌, List, [], ◌∷◌, length, nat_le, nat_lt, codes, decimal, Option, None, Some, Result}
use Rattle.std.specs.Prelude.{Ok, Err, if◌then◌else◌}
use Rattle.std.specs.List.{slice_split, join_with_byte, list_all}
use Rattle.std.specs.Str.{bytes_eq}
use Rattle.std.specs.Str.Parse.{digits_value}
use Rattle.share_base.specs.Body.{unstamped, IsUnstamped}
use Rattle.share_base.specs.Name.{is_name}
use Rattle.share_base.specs.declared.refusal.Refusal.{Refusal}
use Rattle.share_base.specs.declared.refusal.Refusal.TheVariants.{NoMemory, Spent, Syntax, Range, NoCurrency, NoTicket}
use Rattle.share_base.specs.declared.refusal.Refusal.TheVariants.{NoFlow, NoTariff, Taken, Base, InUse, Funding}
use Rattle.share_base.specs.declared.refusal.Refusal.TheVariants.{Unfunded, Crowded, Cycle, Deep, TableFull, Sending}
use Rattle.share_base.specs.declared.refusal.Refusal.TheVariants.{BufferFull, Broken, Held, NotHeld}
use Rattle.share_base.specs.declared.command.Command.{Command}
use Rattle.share_base.specs.declared.command.Command.TheVariants.{MakeCurrency, RemoveCurrency, MakeTicket}
use Rattle.share_base.specs.declared.command.Command.TheVariants.{RemoveTicket, FundCurrency, FundFlow, Unfund}
use Rattle.share_base.specs.declared.command.Command.TheVariants.{OpenFlow, CloseFlow, Hold, Resume, Amend}
use Rattle.share_model.specs.declared.line.HolderKind.{HolderKind}
use Rattle.share_model.specs.declared.line.HolderKind.TheVariants.{Currency as CurrencyKind, Flow as FlowKind}
use Rattle.share_model.specs.declared.line.Line.{Line}
use Rattle.share_model.specs.declared.line.Line.TheVariants.{Change, Send, Turn, Torn, Report, Audit}
use Rattle.share_base.specs.Version.{max_payload}
use Rattle.share_base.specs.declared.version.Version.{Version}
use Rattle.share_base.specs.declared.version.Version.TheVariants.{One, Two}
pub use Rattle.share_model.specs.link.Fields.{IsName, IsNumber, is_byte, HasCommandFields}

-- Payloads in hexadecimal

-- the digit of a number below 16, in lower case
abbrev pub hex_digit : ℕ → ℕ
hex_digit n = if nat_lt n 10 then n + 48 else n + 87

-- each byte as two digits
abbrev pub hex : List ℕ → List ℕ
hex [] = []
hex (b ∷ bs) = hex_digit (b / 16) ∷ hex_digit (b % 16) ∷ hex bs

abbrev pub is_hex_digit : ℕ → Bool
is_hex_digit c = (nat_le 48 c && nat_le c 57) || (nat_le 97 c && nat_le c 102)

abbrev pub hex_value : ℕ → ℕ
hex_value c = if nat_le c 57 then c - 48 else c - 87

abbrev pub is_pairs : List ℕ → Bool
is_pairs [] = true
is_pairs (c ∷ []) = false
is_pairs (c ∷ d ∷ cs) = is_hex_digit c && is_hex_digit d && is_pairs cs

abbrev pub from_pairs : List ℕ → List ℕ
from_pairs [] = []
from_pairs (c ∷ []) = []
from_pairs (c ∷ d ∷ cs) = (hex_value c * 16 + hex_value d) ∷ from_pairs cs

-- The spelling of each line

abbrev pub command_words : Command → List (List ℕ)
command_words (MakeCurrency name) = codes "mkcur" ∷ name ∷ []
command_words (RemoveCurrency name) = codes "rmcur" ∷ name ∷ []
command_words (MakeTicket amount currency) = codes "mktkt" ∷ decimal amount ∷ currency ∷ []
command_words (RemoveTicket ticket) = codes "rmtkt" ∷ decimal ticket ∷ []
command_words (FundCurrency ticket currency) = codes "fund" ∷ decimal ticket ∷ codes "cur" ∷ currency ∷ []
command_words (FundFlow ticket flow) = codes "fund" ∷ decimal ticket ∷ codes "flow" ∷ flow ∷ []
command_words (Unfund ticket) = codes "unfund" ∷ decimal ticket ∷ []
command_words (OpenFlow name limit tariff) = codes "open" ∷ name ∷ decimal limit ∷ decimal tariff ∷ []
command_words (CloseFlow name) = codes "close" ∷ name ∷ []
command_words (Hold name) = codes "hold" ∷ name ∷ []
command_words (Resume name) = codes "resume" ∷ name ∷ []
command_words (Amend ticket amount) = codes "amend" ∷ decimal ticket ∷ decimal amount ∷ []

-- the word of a version
abbrev pub version_word : Version → List ℕ
version_word One = codes "1"
version_word Two = codes "2"

abbrev pub words : Line → List (List ℕ)
words (Change c) = command_words c
words (Send flow body) = codes "send" ∷ flow ∷ hex body.payload ∷ []
words (Turn most) = codes "turn" ∷ decimal most ∷ []
words Torn = codes "torn" ∷ []
words Report = codes "report" ∷ []
words (Audit version) = codes "audit" ∷ version_word version ∷ []

-- the bytes of a line before its line feed
abbrev pub spelling_of : Line → List ℕ
spelling_of l = join_with_byte 32 (words l)

-- The values that a line can have

-- a payload is at least one byte
abbrev pub IsPayload : List ℕ → Type 0
IsPayload bs = (1 ≤ length bs) × (list_all is_byte bs ≡ true)

abbrev pub HasFields : Line → Type 0
HasFields (Change c) = HasCommandFields c
HasFields (Send flow body) = IsName flow × IsPayload body.payload × IsUnstamped body
HasFields (Turn most) = IsNumber most
HasFields Torn = Unit {0}
HasFields Report = Unit {0}
HasFields (Audit version) = Unit {0}

-- the same line before a stamp: what is stamped is not spelled
abbrev pub before_stamp : Line → Line
before_stamp (Change c) = Change c
before_stamp (Send flow body) = Send flow (unstamped body.payload)
before_stamp (Turn most) = Turn most
before_stamp Torn = Torn
before_stamp Report = Report
before_stamp (Audit version) = Audit version

-- a line has at most 20480 bytes
pub record IsLine (l : Line) : Type 0 where
  pub fields : HasFields l
  pub short : length (spelling_of l) ≤ 20480

-- a payload has at most 1490 bytes in version 1 and 9000 in version 2, and a turn offers 1 to 65535
abbrev pub is_in_range : Version → Line → Bool
is_in_range version (Change c) = true
is_in_range version (Send flow body) = nat_le (length body.payload) (max_payload version)
is_in_range version (Turn most) = nat_le 1 most && nat_le most 65535
is_in_range version Torn = true
is_in_range version Report = true
is_in_range version (Audit named) = true

-- The reading of bytes

abbrev pub is_space : ℕ → Bool
is_space b = b == 32

abbrev pub words_of : List ℕ → List (List ℕ)
words_of bs = slice_split is_space bs

abbrev pub name_of : List ℕ → Option (List ℕ)
name_of w = if is_name w then Some w else None

-- the number below 2^64 of which this is the decimal
unfoldable pub number_of : List ℕ → Option ℕ
number_of w =
    if nat_lt (digits_value 10 w) (2 ^ 64) && bytes_eq (decimal (digits_value 10 w)) w
    then Some (digits_value 10 w)
    else None

abbrev pub payload_of : List ℕ → Option (List ℕ)
payload_of w = if nat_le 2 (length w) && is_pairs w then Some (from_pairs w) else None

-- the second step, if the first gave a value
infixl 10 ◌>>=◌
abbrev pub ◌>>=◌ : {A B : Type 0} → Option A → (A → Option B) → Option B
None >>= f = None
Some x >>= f = f x

-- the first word, read as a field, and the words after it
abbrev pub with_rest : {A : Type 0} → List (List ℕ) → Option A → Option (A × List (List ℕ))
with_rest ws None = None
with_rest ws (Some x) = Some (x, ws)

abbrev pub field : {A : Type 0} → (List ℕ → Option A) → List (List ℕ) → Option (A × List (List ℕ))
field f [] = None
field f (w ∷ ws) = with_rest ws (f w)

-- the word for what a ticket funds
abbrev pub kind_of : List ℕ → Option HolderKind
kind_of w =
    if bytes_eq w (codes "cur") then Some CurrencyKind
    else if bytes_eq w (codes "flow") then Some FlowKind
    else None

-- a ticket funds a currency or a flow of this name
abbrev pub funding_of : HolderKind → ℕ → List ℕ → Command
funding_of CurrencyKind ticket name = FundCurrency ticket name
funding_of FlowKind ticket name = FundFlow ticket name

-- the line, if no word is left
abbrev pub line_at_end : List (List ℕ) → Line → Option Line
line_at_end [] l = Some l
line_at_end (w ∷ ws) l = None

abbrev pub open_of : List (List ℕ) → Option Line
open_of ws = do
  name ← field name_of ws
  limit ← field number_of name.1
  tariff ← field number_of limit.1
  line_at_end tariff.1 (Change (OpenFlow name.0 limit.0 tariff.0))

-- a command of a name alone, and one of a number
abbrev pub named_of : (List ℕ → Command) → List (List ℕ) → Option Line
named_of command ws = do
  name ← field name_of ws
  line_at_end name.1 (Change (command name.0))

abbrev pub numbered_of : (ℕ → Command) → List (List ℕ) → Option Line
numbered_of command ws = do
  number ← field number_of ws
  line_at_end number.1 (Change (command number.0))

abbrev pub mktkt_of : List (List ℕ) → Option Line
mktkt_of ws = do
  amount ← field number_of ws
  currency ← field name_of amount.1
  line_at_end currency.1 (Change (MakeTicket amount.0 currency.0))

abbrev pub amend_of : List (List ℕ) → Option Line
amend_of ws = do
  ticket ← field number_of ws
  amount ← field number_of ticket.1
  line_at_end amount.1 (Change (Amend ticket.0 amount.0))

abbrev pub fund_of : List (List ℕ) → Option Line
fund_of ws = do
  ticket ← field number_of ws
  kind ← field kind_of ticket.1
  name ← field name_of kind.1
  line_at_end name.1 (Change (funding_of kind.0 ticket.0 name.0))

abbrev pub send_of : List (List ℕ) → Option Line
send_of ws = do
  flow ← field name_of ws
  payload ← field payload_of flow.1
  line_at_end payload.1 (Send flow.0 (unstamped payload.0))

abbrev pub turn_of : List (List ℕ) → Option Line
turn_of ws = do
  most ← field number_of ws
  line_at_end most.1 (Turn most.0)

abbrev pub torn_of : List (List ℕ) → Option Line
torn_of ws = line_at_end ws Torn

abbrev pub report_of : List (List ℕ) → Option Line
report_of ws = line_at_end ws Report

-- the version is 1 or 2, and no other
abbrev pub version_of : List ℕ → Option Version
version_of w =
    if bytes_eq w (codes "1") then Some One
    else if bytes_eq w (codes "2") then Some Two
    else None

abbrev pub audit_of : List (List ℕ) → Option Line
audit_of ws = do
  version ← field version_of ws
  line_at_end version.1 (Audit version.0)

unfoldable pub line_by : List ℕ → List (List ℕ) → Option Line
line_by w ws =
    if bytes_eq w (codes "send") then send_of ws
    else if bytes_eq w (codes "turn") then turn_of ws
    else if bytes_eq w (codes "open") then open_of ws
    else if bytes_eq w (codes "close") then named_of CloseFlow ws
    else if bytes_eq w (codes "mktkt") then mktkt_of ws
    else if bytes_eq w (codes "fund") then fund_of ws
    else if bytes_eq w (codes "unfund") then numbered_of Unfund ws
    else if bytes_eq w (codes "rmtkt") then numbered_of RemoveTicket ws
    else if bytes_eq w (codes "mkcur") then named_of MakeCurrency ws
    else if bytes_eq w (codes "rmcur") then named_of RemoveCurrency ws
    else if bytes_eq w (codes "hold") then named_of Hold ws
    else if bytes_eq w (codes "resume") then named_of Resume ws
    else if bytes_eq w (codes "amend") then amend_of ws
    else if bytes_eq w (codes "torn") then torn_of ws
    else if bytes_eq w (codes "report") then report_of ws
    else if bytes_eq w (codes "audit") then audit_of ws
    else None

abbrev pub line_of : List (List ℕ) → Option Line
line_of [] = None
line_of (w ∷ ws) = line_by w ws

abbrev pub line_or_refusal : Version → Option Line → Result Line Refusal
line_or_refusal version None = Err Syntax
line_or_refusal version (Some l) = if is_in_range version l then Ok l else Err Range

-- the line that these bytes spell in a script of this version: Syntax if they spell none, Range if it is out of range
unfoldable pub reading : Version → List ℕ → Result Line Refusal
reading version bs =
    if nat_lt 20480 (length bs) then Err Syntax else line_or_refusal version (line_of (words_of bs))

-- The answer of a reading, said of spellings

-- the line is spelled by these bytes, and in range in this version
pub record IsReading (version : Version) (bs : List ℕ) (l : Line) : Type 0 where
  pub line : IsLine l
  pub in_range : is_in_range version l ≡ true
  pub spells : spelling_of l ≡ bs

abbrev pub is_send : Line → Bool
is_send (Change c) = false
is_send (Send flow body) = true
is_send (Turn most) = false
is_send Torn = false
is_send Report = false
is_send (Audit version) = false

-- Syntax if no line is spelled by these bytes, Range if a line out of range is, NoMemory if a packet in range is
abbrev pub IsUnread : Version → List ℕ → Refusal → Type 0
IsUnread version bs Syntax = (l : Line) → IsLine l → spelling_of l ≢ bs
IsUnread version bs Range = (l : Line) × IsLine l × (is_in_range version l ≡ false) × (spelling_of l ≡ bs)
IsUnread version bs NoMemory = (l : Line) × IsReading version bs l × (is_send l ≡ true)
IsUnread version bs Spent = ⊥
IsUnread version bs NoCurrency = ⊥
IsUnread version bs NoTicket = ⊥
IsUnread version bs NoFlow = ⊥
IsUnread version bs NoTariff = ⊥
IsUnread version bs Taken = ⊥
IsUnread version bs Base = ⊥
IsUnread version bs InUse = ⊥
IsUnread version bs Funding = ⊥
IsUnread version bs Unfunded = ⊥
IsUnread version bs Crowded = ⊥
IsUnread version bs Cycle = ⊥
IsUnread version bs Deep = ⊥
IsUnread version bs TableFull = ⊥
IsUnread version bs Sending = ⊥
IsUnread version bs BufferFull = ⊥
IsUnread version bs Broken = ⊥
IsUnread version bs Held = ⊥
IsUnread version bs NotHeld = ⊥

-- a reading that may have found no memory for a payload
abbrev pub ReadsLine : Version → List ℕ → Result Line Refusal → Type 0
ReadsLine version bs r =
    (r ≡ reading version bs)
    ⊎ ((r ≡ Err NoMemory) × ((l : Line) × (reading version bs ≡ Ok l) × (is_send l ≡ true)))
