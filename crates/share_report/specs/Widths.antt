-- The flows that fit the columns of their lines.
use Rattle.std.specs.Prelude.{◌<◌, ◌≤◌, ◌^◌, length, unsigned_abs}
use Rattle.share_model.specs.declared.link.FlowLine.{FlowLine}

pub record FitsColumns (f : FlowLine) : Type 0 where
  pub flow : f.flow < 10 ^ 8
  pub name : length f.name ≤ 16
  pub tickets : f.tickets < 10 ^ 7
  pub waiting : f.waiting < 10 ^ 4
  pub account : f.account < 10 ^ 17
  pub place : unsigned_abs f.place < 10 ^ 25
