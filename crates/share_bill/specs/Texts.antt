-- The whole text of a book: its lines, what is left of it, and what a bill of it says.
use Rattle.std.specs.Prelude.{◌≡◌, ◌⊎◌, ◌<◌, ◌≤◌, ◌+◌, ◌^◌, ℕ, List, [], ◌∷◌, ◌++◌, flat_map, length, nat_lt, take}
use Rattle.std.specs.Prelude.{Option, None, Some, IfSome, Result, Err, MatchResult, ⊤, if◌then◌else◌}
use Rattle.std.specs.Io.KnownBytes.{Consumes}
use Rattle.share_base.specs.declared.command.Event.{Event}
use Rattle.share_base.specs.declared.version.Version.TheVariants.{Two}
use Rattle.share_model.specs.declared.rates.Rate.{Rate}
use Rattle.share_model.specs.declared.reader.Got.{Got}
use Rattle.share_model.specs.declared.reader.Got.TheVariants.{Failed as ReadFailed}
use Rattle.share_model.specs.io.Calls.{Reads}
use Rattle.share_model.specs.lists.Each.{Each}
use Rattle.share_model.specs.run.Events.{MayRun}
use Rattle.share_model.specs.run.Fold.{empty_state, run}
use Rattle.share_model.specs.run.Sound.{max_life}
use Rattle.share_model.specs.link.Live.{Live}
use Rattle.share_script.specs.Lines.{Connection}
use Rattle.share_script.specs.Script.{NoFeed}
use Rattle.share_bill.specs.declared.bill.kind.Kind.{Kind}
use Rattle.share_bill.specs.declared.bill.line.Wrong.{Wrong}
use Rattle.share_bill.specs.declared.bill.line.Wrong.TheVariants.{First, Long}
use Rattle.share_bill.specs.declared.bill.running.TenantBill.{TenantBill}
use Rattle.share_bill.specs.declared.bill.text.BookBill.{BookBill}
use Rattle.share_bill.specs.declared.bill.text.Next.{Next}
use Rattle.share_bill.specs.declared.bill.text.Next.TheVariants.{Line as NextLine, Long as NextLong, End as NextEnd}
use Rattle.share_bill.specs.declared.bill.text.Next.TheVariants.{Failed as NextFailed}
use Rattle.share_bill.specs.declared.bill.text.NotBilled.{NotBilled}
use Rattle.share_bill.specs.declared.bill.text.NotBilled.TheVariants.{Input, NoMemory, Line as LineFault}
use Rattle.share_bill.specs.Bills.{AreEvents, rows_of}
use Rattle.share_bill.specs.BookLines.{first_line, kind_of, next_event}
use Rattle.share_bill.specs.Makings.{BillView}
use Rattle.share_bill.specs.Runs.{IsBillOf}

-- Texts

-- a line and its line feed
abbrev pub fed : List ℕ → List ℕ
fed line = line ++ 10 ∷ []

-- the first line of a book, and these lines
abbrev pub text_of : Kind → List (List ℕ) → List ℕ
text_of kind lines = fed (first_line kind) ++ flat_map fed lines

-- the number of the line after these: the first line of the text is line 1
abbrev pub next_number : List (List ℕ) → ℕ
next_number lines = length lines + 2

-- the number of the last line, if it has no line feed
abbrev pub cut_of : ℕ → List ℕ → Option ℕ
cut_of number rest = if nat_lt 0 (length rest) then Some number else None

-- a text begins as a book: lines that are a run, and the rest of it
pub record BeginsAsBook (rates : List Rate) (bytes : List ℕ) (kind : Kind) : Type 0 where
  pub lines : List (List ℕ)
  pub events : List Event
  pub rest : List ℕ
  pub text : bytes ≡ text_of kind lines ++ rest
  pub clean : Each NoFeed lines
  pub are : AreEvents kind rates (empty_state Two) lines events
  pub may : MayRun Two max_life rates events

-- it is a book, whose rest has no line feed and is left out; the rows are those of the run
pub record IsBook (rates : List Rate) (bytes : List ℕ) (kind : Kind) (rows : List TenantBill)
    (cut : Option ℕ) : Type 0 where
  pub book : BeginsAsBook rates bytes kind
  pub clean : NoFeed book.rest
  pub rows_are : rows ≡ rows_of rates book.events
  pub cut_is : cut ≡ cut_of (next_number book.lines) book.rest

-- it is a book, whose rest has no line feed and is left out; the bill is that of its run
pub record IsRunText {W : Type 0} (rates : List Rate) (bytes : List ℕ) (bill : BillView W)
    (cut : Option ℕ) : Type 0 where
  pub lines : List (List ℕ)
  pub events : List Event
  pub rest : List ℕ
  pub bill_is : IsBillOf rates lines events bill
  pub text : bytes ≡ text_of bill.kind lines ++ rest
  pub clean : Each NoFeed lines
  pub clean_rest : NoFeed rest
  pub cut_is : cut ≡ cut_of (next_number lines) rest

-- Wrong lines

-- a line of more than 20480 bytes comes, with its line feed
pub record IsLongNext (rest : List ℕ) : Type 0 where
  pub long : List ℕ
  pub more : List ℕ
  pub is : rest ≡ fed long ++ more
  pub clean : NoFeed long
  pub many : 20480 < length long

-- a line of at most 20480 bytes comes, with its line feed
pub record IsNext (rest line : List ℕ) : Type 0 where
  pub more : List ℕ
  pub is : rest ≡ fed line ++ more
  pub clean : NoFeed line
  pub few : length line ≤ 20480

-- no line comes that begins a book
pub data IsNoFirst (rest : List ℕ) : Type 0 where
  other_first : (line : List ℕ) → IsNext rest line → kind_of line ≡ None → IsNoFirst rest
  first_long : IsLongNext rest → IsNoFirst rest
  no_first : NoFeed rest → IsNoFirst rest

-- the first line is wrong
abbrev pub IsFirstWrong : List ℕ → ℕ → Wrong → Type 0
IsFirstWrong bytes number wrong = IsNoFirst bytes × (number ≡ 1) × (wrong ≡ First)

-- the fault of the next line, by the link of the lines so far
abbrev pub IsWrongNext : Kind → Live → List ℕ → Wrong → Type 0
IsWrongNext kind l rest wrong = (IsLongNext rest × (wrong ≡ Long))
    ⊎ ((line : List ℕ) × IsNext rest line × (next_event kind l line ≡ Err wrong))

-- the line of this number is the first one that is no run's
pub record IsWrongAfter (rates : List Rate) (bytes : List ℕ) (number : ℕ) (wrong : Wrong) : Type 0 where
  pub kind : Kind
  pub book : BeginsAsBook rates bytes kind
  pub number_is : number ≡ next_number book.lines
  pub next_is : IsWrongNext kind (run Two rates book.events).live book.rest wrong

abbrev pub IsWrongText : List Rate → List ℕ → ℕ → Wrong → Type 0
IsWrongText rates bytes number wrong =
    IsFirstWrong bytes number wrong ⊎ IsWrongAfter rates bytes number wrong

-- Reads of the text

-- the bytes that are to be taken, of which a connection keeps no more of a long line than shows that it is too long
pub record KeepsBeginning (ahead kept : List ℕ) : Type 0 where
  pub front : List ℕ
  pub rest : List ℕ
  pub clean : NoFeed front
  pub many : 20481 ≤ length front
  pub ahead_is : ahead ≡ front ++ rest
  pub kept_is : kept ≡ take 20481 front ++ rest

abbrev pub IsAhead : List ℕ → List ℕ → Type 0
IsAhead ahead kept = (kept ≡ ahead) ⊎ KeepsBeginning ahead kept

-- a read failed, or 2^32 reads and more were made
pub data InputFails {R : Type 0} (gives : R → List ℕ → Got → R → Type 0) (first : R) : Type 0 where
  read_failed : (count : ℕ) (before : R) (buffer : List ℕ) (after : R) → Reads gives first count before
      → gives before buffer ReadFailed after → InputFails gives first
  too_many_reads : (count : ℕ) (after : R) → Reads gives first count after → 2 ^ 32 ≤ count → InputFails gives first

module _ {R : Type 0} (left : R → Option (List ℕ)) (gives : R → List ℕ → Got → R → Type 0) (first : R) where
  -- so far these bytes of the text were passed
  pub record IsAt (passed : List ℕ) (c : Connection R) : Type 0 where
    pub count : ℕ
    pub reads : Reads gives first count c.reader
    pub came : List ℕ
    pub ahead : List ℕ
    pub read : Consumes (left first) (left c.reader) came
    pub came_is : came ≡ passed ++ ahead
    pub kept : IsAhead ahead c.ahead

  -- by at least n reads
  abbrev pub HasReadAt : ℕ → List ℕ → Connection R → Type 0
  HasReadAt n passed c = (at : IsAt passed c) × (n ≤ at.count)

  -- the text ended, and what is left of it has no line feed
  abbrev pub EndsAfter : List ℕ → Connection R → Type 0
  EndsAfter passed c =
      IfSome (left first) (λ bytes. (rest : List ℕ) × (bytes ≡ passed ++ rest) × NoFeed rest
      × (nat_lt 0 (length c.ahead) ≡ nat_lt 0 (length rest)))

  -- the next line came, or is too long, or does not come
  abbrev pub PassesLine : List ℕ → Next → Connection R → Type 0
  PassesLine passed NextLine c = NoFeed c.line × (length c.line ≤ 20480) × IsAt (passed ++ fed c.line) c
  PassesLine passed NextLong c =
      IfSome (left first) (λ bytes. (rest : List ℕ) × (bytes ≡ passed ++ rest) × IsLongNext rest)
  PassesLine passed NextEnd c = EndsAfter passed c
  PassesLine passed NextFailed c = InputFails gives first

  -- why a text has no first line of a book
  abbrev pub IsFirstFault : NotBilled → Type 0
  IsFirstFault Input = InputFails gives first
  IsFirstFault NoMemory = ⊥
  IsFirstFault (LineFault number wrong) = IfSome (left first) (λ bytes. IsFirstWrong bytes number wrong)

  -- why the text has no bill. Nothing is said of memory that was refused
  abbrev pub IsTextFault : List Rate → NotBilled → Type 0
  IsTextFault rates Input = InputFails gives first
  IsTextFault rates NoMemory = ⊤
  IsTextFault rates (LineFault number wrong) = IfSome (left first) (λ bytes. IsWrongText rates bytes number wrong)

  -- the text is a book, and this its bill; or it has none
  abbrev pub Bills : List Rate → Result BookBill NotBilled → Type 0
  Bills rates result =
      MatchResult result
      (λ bill. IfSome (left first) (λ bytes. IsBook rates bytes bill.kind bill.rows.items bill.cut))
      (λ fault. IsTextFault rates fault)

  -- lines were taken that are a run
  pub record TakesLines {W : Type 0} (rates : List Rate) (bill : BillView W) (c : Connection R)
      (number : ℕ) : Type 0 where
    pub lines : List (List ℕ)
    pub events : List Event
    pub bill_is : IsBillOf rates lines events bill
    pub clean : Each NoFeed lines
    pub number_is : number ≡ next_number lines
    pub at : IsAt (text_of bill.kind lines) c

  -- and no more came
  pub record TakesAll {W : Type 0} (rates : List Rate) (bill : BillView W) (c : Connection R)
      (number : ℕ) : Type 0 where
    pub lines : List (List ℕ)
    pub events : List Event
    pub bill_is : IsBillOf rates lines events bill
    pub clean : Each NoFeed lines
    pub number_is : number ≡ next_number lines
    pub ends : EndsAfter (text_of bill.kind lines) c
