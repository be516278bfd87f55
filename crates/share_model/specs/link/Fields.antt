-- The values that the fields of a command and of an arrival have: those that a line can spell.
use Rattle.std.specs.Prelude.{◌≡◌, ◌<◌, ◌≤◌, ◌^◌, ℕ, Bool, true, List, length, nat_lt}
use Rattle.std.specs.List.{list_all}
use Rattle.share_base.specs.Name.{is_name}
use Rattle.share_base.specs.Version.{max_payload}
use Rattle.share_base.specs.declared.version.Version.{Version}
use Rattle.share_base.specs.declared.command.Command.{Command}
use Rattle.share_base.specs.declared.command.Command.TheVariants.{MakeCurrency, RemoveCurrency, MakeTicket}
use Rattle.share_base.specs.declared.command.Command.TheVariants.{RemoveTicket, FundCurrency, FundFlow, Unfund}
use Rattle.share_base.specs.declared.command.Command.TheVariants.{OpenFlow, CloseFlow, Hold, Resume, Amend}

abbrev pub IsName : List ℕ → Type 0
IsName w = is_name w ≡ true

abbrev pub IsNumber : ℕ → Type 0
IsNumber n = n < 2 ^ 64

abbrev pub is_byte : ℕ → Bool
is_byte b = nat_lt b 256

-- a body is at least one byte, and no more than a frame of the version carries: 1490 or 9000
pub record IsBody (version : Version) (bs : List ℕ) : Type 0 where
  pub some : 1 ≤ length bs
  pub few : length bs ≤ max_payload version
  pub bytes : list_all is_byte bs ≡ true

abbrev pub HasCommandFields : Command → Type 0
HasCommandFields (MakeCurrency name) = IsName name
HasCommandFields (RemoveCurrency name) = IsName name
HasCommandFields (MakeTicket amount currency) = IsNumber amount × IsName currency
HasCommandFields (RemoveTicket ticket) = IsNumber ticket
HasCommandFields (FundCurrency ticket currency) = IsNumber ticket × IsName currency
HasCommandFields (FundFlow ticket flow) = IsNumber ticket × IsName flow
HasCommandFields (Unfund ticket) = IsNumber ticket
HasCommandFields (OpenFlow name limit tariff) = IsName name × IsNumber limit × IsNumber tariff
HasCommandFields (CloseFlow name) = IsName name
HasCommandFields (Hold name) = IsName name
HasCommandFields (Resume name) = IsName name
HasCommandFields (Amend ticket amount) = IsNumber ticket × IsNumber amount
