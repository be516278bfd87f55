use Rattle.std.proofs.Common.{◌≡◌, ◌≤◌, length, take}
use Rattle.share_ledger.specs.Routes.{routes_of}
use Rattle.share_ledger.proofs.tables.Tables.list_routes.Given as goal

abbrev pub invariant-loop-i : goal.invariant-loop-i
invariant-loop-i l = record {
  long : length l.routes ≡ 1024;
  behind : l.count ≤ l.i;
  listed : take l.count l.routes ≡ routes_of l.self l.backing (take l.i l.self.tickets);
}
