use Rattle.std.proofs.Common.{◌≡◌, true, rules}
use Rattle.share_model.specs.link.Tariff.{is_rate}
use Rattle.share_tariff.proofs.tariff.Tariff.new.Goals as goal

pub invariant_of-result : goal.invariant_of-result
invariant_of-result g c =
    let is : is_rate c.args.cell c.args.overhead c.args.price ≡ true = search rules in
    record {
      in_range = search rules;
      charges = c.requires.charges is;
      books = c.requires.books is;
    }
