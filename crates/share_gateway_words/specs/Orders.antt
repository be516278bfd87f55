-- The requests that the words of the command line may make.
use Rattle.std.specs.Prelude.{◌≡◌, ◌≢◌, ◌≤◌, ⊤, ℕ, List, [], Some, All, Contains}
use Rattle.clap.specs.Values.{kind_of}
use Rattle.clap.specs.declared.error.kind.ErrorKind.TheVariants.{OutOfMemory}
use Rattle.share_spellings.specs.Addresses.{listener_of}
use Rattle.share_gateway_words.specs.declared.asked.AskOrders.{AskOrders}
use Rattle.share_gateway_words.specs.declared.asked.Asked.{Asked}
use Rattle.share_gateway_words.specs.declared.asked.Asked.TheVariants.{Gateway, Ask, Bill, Text}

-- a text that has no line feed
abbrev pub IsLine : List ℕ → Type 0
IsLine text = ¬ Contains text 10

-- the address spells the listener, there is a line, and no line has a line feed
pub record CanBeAsked (orders : AskOrders) : Type 0 where
  pub spelled : listener_of orders.address.now ≡ Some orders.listener
  pub some_line : orders.lines.items ≢ []
  pub each_line : All (λ line. IsLine line.now) orders.lines.items

-- A gateway can have the grace, and what is to be asked can be sent. A text does not say that memory was refused.
abbrev pub CanBeObeyed : Asked → Type 0
CanBeObeyed (Gateway orders) = orders.grace ≤ 86400
CanBeObeyed (Ask orders) = CanBeAsked orders
CanBeObeyed (Bill orders) = ⊤
CanBeObeyed (Text text) = kind_of text ≢ OutOfMemory
