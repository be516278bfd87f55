use Rattle.std.proofs.Common.{inl}
use Rattle.share_server.proofs.serve.serve_as.Goals as goal

pub returns-in-Ok : goal.returns-in-Ok
returns-in-Ok g c =
    inl (record {
      locked = c.serve_all-ended.result.locked;
      ends = c.serve_all-ended.result.ends.items;
      clerks = c.serve_all-ended.result.clerks.items;
      found = c.serve_all-ended.result.found;
      closed = c.close.result;
      reasons = c.reasons-reasons.result;
      closing = c.close.ensures;
      result_is = c.result_of.ensures.result;
      reason_is = c.result_of.ensures.reason;
    })
