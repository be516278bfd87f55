use Rattle.std.proofs.Common.{◌≡◌, option_map, find, ap, ◌∙◌, rules}
use Rattle.std.proofs.lemmas.Iterator.Search.{find_from_yields_List}
use borrow.Author.Tests.{tests}
use Rattle.share_config.proofs.KeyLemmas.{lacks, first_unknown, keys_come}
use Rattle.share_config.proofs.reading.unknown.Goals as goal

pub returns : goal.returns
returns c =
    let first : option_map (λ k. k.now) c.find.result ≡ find (lacks c.args.location) c.keys.result =
    find_from_yields_List (lacks c.args.location) _ _ c.find.result c.find.ensures.ran (keys_come c.keys.result)
    (λ x b q k. search (rules, tests)) in
    first_unknown c.args.location c.args.table.now.entries c.find.result
    (first ∙ ap (find (lacks c.args.location)) c.keys.ensures.rest)
