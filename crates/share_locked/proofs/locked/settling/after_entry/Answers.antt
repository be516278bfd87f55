use Rattle.std.proofs.Common.{◌≡◌, [], ◌∷◌, rules}
use Rattle.share_locked.proofs.ReceiptLemmas.{front_is}
use Rattle.share_locked.proofs.locked.settling.after_entry.Goals as goal

pub returns-then-is_same : goal.returns-then-is_same
returns-then-is_same c =
    let is : c.args.receipts.now ≡ c.in_ok-first.first.now ∷ c.in_ok-first.rest.now = search rules in
    let held : _ ≡ c.in-Some.due ∷ [] = c.in-Some.ensures in
    front_is _ _ _ _ _ is (c.is_same.ensures.0 c.if-is_same.true) held
