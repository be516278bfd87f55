use Rattle.std.proofs.Common.{refl, lit<, lit≤}
use Rattle.std.proofs.lemmas.Fmt.{decimal_digit}
use Rattle.share_text.proofs.TextLemmas.{decimal_two_digits}
use Rattle.share_text.proofs.replies.refusal_text.Goals as goal

pub returns-in-NoMemory-clause-text : goal.returns-in-NoMemory-clause-text
returns-in-NoMemory-clause-text c = rw (c.in-NoMemory.is, decimal_digit 1 (lit< tt)) refl

pub returns-in-Spent-clause-text : goal.returns-in-Spent-clause-text
returns-in-Spent-clause-text c = rw (c.in-Spent.is, decimal_digit 2 (lit< tt)) refl

pub returns-in-Syntax-clause-text : goal.returns-in-Syntax-clause-text
returns-in-Syntax-clause-text c = rw (c.in-Syntax.is, decimal_digit 3 (lit< tt)) refl

pub returns-in-Range-clause-text : goal.returns-in-Range-clause-text
returns-in-Range-clause-text c = rw (c.in-Range.is, decimal_digit 4 (lit< tt)) refl

pub returns-in-NoCurrency-clause-text : goal.returns-in-NoCurrency-clause-text
returns-in-NoCurrency-clause-text c = rw (c.in-NoCurrency.is, decimal_digit 5 (lit< tt)) refl

pub returns-in-NoTicket-clause-text : goal.returns-in-NoTicket-clause-text
returns-in-NoTicket-clause-text c = rw (c.in-NoTicket.is, decimal_digit 6 (lit< tt)) refl

pub returns-in-NoFlow-clause-text : goal.returns-in-NoFlow-clause-text
returns-in-NoFlow-clause-text c = rw (c.in-NoFlow.is, decimal_digit 7 (lit< tt)) refl

pub returns-in-NoTariff-clause-text : goal.returns-in-NoTariff-clause-text
returns-in-NoTariff-clause-text c = rw (c.in-NoTariff.is, decimal_digit 8 (lit< tt)) refl

pub returns-in-Taken-clause-text : goal.returns-in-Taken-clause-text
returns-in-Taken-clause-text c = rw (c.in-Taken.is, decimal_digit 9 (lit< tt)) refl

pub returns-in-Base-clause-text : goal.returns-in-Base-clause-text
returns-in-Base-clause-text c = rw (c.in-Base.is, decimal_two_digits 10 (lit≤ tt) (lit< tt)) refl

pub returns-in-InUse-clause-text : goal.returns-in-InUse-clause-text
returns-in-InUse-clause-text c = rw (c.in-InUse.is, decimal_two_digits 11 (lit≤ tt) (lit< tt)) refl

pub returns-in-Funding-clause-text : goal.returns-in-Funding-clause-text
returns-in-Funding-clause-text c = rw (c.in-Funding.is, decimal_two_digits 12 (lit≤ tt) (lit< tt)) refl

pub returns-in-Unfunded-clause-text : goal.returns-in-Unfunded-clause-text
returns-in-Unfunded-clause-text c = rw (c.in-Unfunded.is, decimal_two_digits 13 (lit≤ tt) (lit< tt)) refl

pub returns-in-Crowded-clause-text : goal.returns-in-Crowded-clause-text
returns-in-Crowded-clause-text c = rw (c.in-Crowded.is, decimal_two_digits 14 (lit≤ tt) (lit< tt)) refl

pub returns-in-Cycle-clause-text : goal.returns-in-Cycle-clause-text
returns-in-Cycle-clause-text c = rw (c.in-Cycle.is, decimal_two_digits 15 (lit≤ tt) (lit< tt)) refl

pub returns-in-Deep-clause-text : goal.returns-in-Deep-clause-text
returns-in-Deep-clause-text c = rw (c.in-Deep.is, decimal_two_digits 16 (lit≤ tt) (lit< tt)) refl

pub returns-in-TableFull-clause-text : goal.returns-in-TableFull-clause-text
returns-in-TableFull-clause-text c = rw (c.in-TableFull.is, decimal_two_digits 17 (lit≤ tt) (lit< tt)) refl

pub returns-in-Sending-clause-text : goal.returns-in-Sending-clause-text
returns-in-Sending-clause-text c = rw (c.in-Sending.is, decimal_two_digits 18 (lit≤ tt) (lit< tt)) refl

pub returns-in-BufferFull-clause-text : goal.returns-in-BufferFull-clause-text
returns-in-BufferFull-clause-text c = rw (c.in-BufferFull.is, decimal_two_digits 19 (lit≤ tt) (lit< tt)) refl

pub returns-in-Broken-clause-text : goal.returns-in-Broken-clause-text
returns-in-Broken-clause-text c = rw (c.in-Broken.is, decimal_two_digits 20 (lit≤ tt) (lit< tt)) refl

pub returns-in-Held-clause-text : goal.returns-in-Held-clause-text
returns-in-Held-clause-text c = rw (c.in-Held.is, decimal_two_digits 21 (lit≤ tt) (lit< tt)) refl

pub returns-in-NotHeld-clause-text : goal.returns-in-NotHeld-clause-text
returns-in-NotHeld-clause-text c = rw (c.in-NotHeld.is, decimal_two_digits 22 (lit≤ tt) (lit< tt)) refl
